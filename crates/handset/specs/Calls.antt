-- What each call hands back to C: the library's result, its number and its enums by their numbers, the record without its arrays.
-- Assumes nothing.
use Rattle.std.specs.Prelude.{ℕ, Bool, cond, ◌&&◌, List, leb, Option, Some, None, Result, Ok, Err, ⊤}
use Rattle.record.specs.declared.Number.{Number}
use Rattle.record.specs.declared.Small.{Small}
use Rattle.record.specs.declared.Record.{Record}
use Rattle.record.specs.Core.{core_of}
use Rattle.record.specs.Range.{in_range}
use Rattle.record.specs.Number.{paper_number, numbered, refused_number, ended}
use Rattle.record.specs.declared.Refusal.{Refusal}
use Rattle.record.specs.Parts.{small_of}
use Rattle.command.specs.InRange.{command_in_range, most_rows}
use Rattle.stream.specs.declared.Fed.{Fed}
use Rattle.key_log.specs.declared.Logged.{Logged}
use Rattle.seconds.specs.declared.Passed.{Passed}
use Rattle.seconds.specs.declared.LightPassed.{LightPassed}
use Rattle.parts.specs.declared.PartAt.{PartAt}
use Rattle.hook.specs.declared.Hooked.{Hooked}
use Rattle.seen.specs.Rows.{nothing_seen}
use Rattle.seen.specs.Columns.{no_place}
use Rattle.seen.specs.declared.Bar.{Bar}
use Rattle.seen.specs.declared.Row.{Row}
use Rattle.seen.specs.declared.ColumnSeen.{ColumnSeen}
use Rattle.seen_panels.specs.declared.SmsPanel.{SmsPanel}
use Rattle.seen_panels.specs.declared.VolumePanel.{VolumePanel}
use Rattle.seen_panels.specs.declared.SmsPanel.TheVariants as Sms
use Rattle.seen_panels.specs.declared.VolumePanel.TheVariants as Sound
use Rattle.command.specs.Order.{plain}
use Rattle.command.specs.Spell.{spell, spelling}
use Rattle.sister_command.specs.Order.{first, own}
use Rattle.sister_command.specs.Grammar.{sister_form}
use Rattle.sister_command.specs.InRange.{own_in_range}
use Rattle.writer.specs.Writing.{frame_of, written_of, count_of, room_after, shared_in_range}
use Rattle.verdict.specs.declared.Verdict.{Verdict}
use Rattle.verdict.specs.declared.Verdict.TheVariants.{Bad}
use Rattle.verdict.specs.Verdict.{verdict_in}
use Rattle.choice.specs.declared.BrokenRule.{BrokenRule}
use Rattle.choice.specs.Rules.{rule_number}
use Rattle.handset.specs.declared.ProvedFed.{ProvedFed}
use Rattle.handset.specs.declared.ProvedAfter.{ProvedAfter}
use Rattle.handset.specs.declared.ProvedLight.{ProvedLight}
use Rattle.handset.specs.declared.ProvedCount.{ProvedCount}
use Rattle.handset.specs.declared.ProvedVerdict.{ProvedVerdict}
use Rattle.handset.specs.declared.ProvedJudged.{ProvedJudged}
use Rattle.handset.specs.declared.ProvedChoice.{ProvedChoice}
use Rattle.handset.specs.declared.HandsetPart.{HandsetPart}
use Rattle.handset.specs.declared.ProvedPanel.{ProvedPanel}
use Rattle.handset.specs.declared.ProvedRow.{ProvedRow}
use Rattle.handset.specs.declared.ProvedColumn.{ProvedColumn}
use Rattle.handset.specs.declared.HandsetBar.{HandsetBar}
use Rattle.handset_numbers.specs.Numbers.{last_kind, command_of, first_own_kind, last_own_kind, sister_command_of, sms_number, volume_numbers, owner_numbers, shown_numbers, verdict_numbers, kind_number}

-- how a call ended, by the paper's number
abbrev pub fed_with : Number → Small → ℕ → ℕ → ProvedFed
fed_with n small used written = record { number = paper_number n; small = small; used = used; written = written }

abbrev pub after_with : Number → Small → ProvedAfter
after_with n small = record { number = paper_number n; small = small }

abbrev pub count_with : Number → ℕ → ProvedCount
count_with n count = record { number = paper_number n; count = count }

abbrev pub fed_in : Fed → ProvedFed
fed_in f = fed_with f.number (small_of f.record) f.used f.written

abbrev pub logged_in : Logged Record → ProvedFed
logged_in l = fed_with l.number (small_of l.record) l.used l.written

abbrev pub passed_in : Passed Record → ProvedAfter
passed_in q = after_with q.number (small_of q.after)

abbrev pub light_in : LightPassed → ProvedLight
light_in q = record { number = paper_number q.number; light = q.backlight }

abbrev pub hooked_in : Hooked Record → ProvedAfter
hooked_in q = after_with q.number (small_of q.after)

-- a count, or 0 where there is a refusal: of the room that answers need, and of the bytes that are written
abbrev pub counted_in : Result ℕ Refusal → ProvedCount
counted_in q = count_with (ended q) (count_of q)

abbrev pub written_in : Result ℕ Refusal → ProvedCount
written_in = counted_in

-- a kind that is not known is a command out of range: number 2, and nothing is written
abbrev pub command_written : ℕ → ℕ → ℕ → List ℕ → ProvedCount
command_written kind a b room =
    cond (leb kind last_kind) (written_in (written_of (command_in_range most_rows (command_of kind a b)) (frame_of (spelling (plain (command_of kind a b)))) room))
    (record { number = 2; count = 0 })

abbrev pub command_room : ℕ → ℕ → ℕ → List ℕ → List ℕ
command_room kind a b room =
    cond (leb kind last_kind) (room_after (command_in_range most_rows (command_of kind a b)) (frame_of (spelling (plain (command_of kind a b)))) room) room

-- the sister's writer: the kinds that both editions may have, then her own
abbrev pub is_own_kind : ℕ → Bool
is_own_kind kind = leb first_own_kind kind && leb kind last_own_kind

abbrev pub own_written : ℕ → ℕ → ℕ → List ℕ → ProvedCount
own_written kind a b room =
    cond (is_own_kind kind) (written_in (written_of (own_in_range (sister_command_of kind a b)) (frame_of (spell (sister_form (own (sister_command_of kind a b))))) room))
    (record { number = 2; count = 0 })

abbrev pub own_room : ℕ → ℕ → ℕ → List ℕ → List ℕ
own_room kind a b room =
    cond (is_own_kind kind) (room_after (own_in_range (sister_command_of kind a b)) (frame_of (spell (sister_form (own (sister_command_of kind a b))))) room) room

abbrev pub sister_written : ℕ → ℕ → ℕ → List ℕ → ProvedCount
sister_written kind a b room =
    cond (leb kind last_kind) (written_in (written_of (shared_in_range (command_of kind a b)) (frame_of (spell (sister_form (first (plain (command_of kind a b)))))) room))
    (own_written kind a b room)

abbrev pub sister_room : ℕ → ℕ → ℕ → List ℕ → List ℕ
sister_room kind a b room =
    cond (leb kind last_kind) (room_after (shared_in_range (command_of kind a b)) (frame_of (spell (sister_form (first (plain (command_of kind a b)))))) room)
    (own_room kind a b room)

-- what becomes of a frame on a record
abbrev pub judged_with : Number → Verdict → ProvedJudged
judged_with n v = record { number = paper_number n; judged = record { verdict = (verdict_numbers v).0; number_out = (verdict_numbers v).1 } }

abbrev pub judged_of : Record → List ℕ → ProvedJudged
judged_of r frame = cond (in_range r) (judged_with (numbered 0) (verdict_in (core_of r) frame)) (judged_with (numbered 1) Bad)

abbrev pub judged_in : Verdict → ProvedVerdict
judged_in v = record { verdict = (verdict_numbers v).0; value = (verdict_numbers v).1 }

-- no rule is 0, and its offset 0
abbrev pub choice_in : Result ⊤ BrokenRule → ProvedChoice
choice_in (Ok fine) = record { rule = 0; offset = 0 }
choice_in (Err broken) = record { rule = rule_number broken.rule; offset = broken.offset }

-- no part is 0, and its places are the one that was asked for
abbrev pub part_in : ℕ → Option PartAt → HandsetPart
part_in place None = record { kind = 0; end = place; body = place; body_end = place }
part_in place (Some p) = record { kind = kind_number p.kind; end = p.end; body = p.body; body_end = p.body_end }

-- a question that is refused tells no panel
abbrev pub sms_with : Number → SmsPanel → ProvedPanel
sms_with n panel = record { number = paper_number n; seen = record { panel = sms_number panel; level = 0 } }

abbrev pub sms_in : Result SmsPanel Refusal → ProvedPanel
sms_in (Ok panel) = sms_with (numbered 0) panel
sms_in (Err refusal) = sms_with (refused_number refusal) Sms.Nothing

abbrev pub volume_with : Number → VolumePanel → ProvedPanel
volume_with n panel = record { number = paper_number n; seen = record { panel = (volume_numbers panel).0; level = (volume_numbers panel).1 } }

abbrev pub volume_in : Result VolumePanel Refusal → ProvedPanel
volume_in (Ok panel) = volume_with (numbered 0) panel
volume_in (Err refusal) = volume_with (refused_number refusal) Sound.Nothing

abbrev pub bar_in : Bar → HandsetBar
bar_in b = record { f = b.f; p = b.p; r = b.r; sms = sms_number b.sms; volume = (volume_numbers b.volume).0; level = (volume_numbers b.volume).1 }

abbrev pub row_with : Number → Row → ProvedRow
row_with n q =
    record {
      number = paper_number n;
      seen = record {
        owner = (owner_numbers q.owner).0;
        place = (owner_numbers q.owner).1;
        inverse = q.inverse;
        codes = q.codes;
        columns = q.columns;
        bar = bar_in q.bar;
        left = q.labels.left;
        right = q.labels.right;
        w = q.labels.w;
      };
    }

-- a row question that is refused tells nothing, and so does a column question
abbrev pub row_in : Result Row Refusal → ProvedRow
row_in (Ok row) = row_with (numbered 0) row
row_in (Err refusal) = row_with (refused_number refusal) nothing_seen

abbrev pub column_with : Number → ColumnSeen → ProvedColumn
column_with n q =
    record {
      number = paper_number n;
      seen = record {
        owner = (owner_numbers q.owner).0;
        place = (owner_numbers q.owner).1;
        shown = (shown_numbers q.shown).0;
        value = (shown_numbers q.shown).1;
        inverse = q.inverse;
        bar = bar_in q.bar;
      };
    }

abbrev pub column_in : Result ColumnSeen Refusal → ProvedColumn
column_in (Ok column) = column_with (numbered 0) column
column_in (Err refusal) = column_with (refused_number refusal) no_place
