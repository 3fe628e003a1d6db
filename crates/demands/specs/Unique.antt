-- UNIQUENESS: for each public function two results, and two contents of what it was lent, that its own promise allows are equal. What is
-- allowed is `Learnt`: what a caller learns of the result `q` and the arguments at exit `e` from the clauses. Assumes nothing.
use Rattle.std.specs.Prelude.{◌≡◌, refl, ℕ, List, []}
use Rattle.std.proofs.Common.{sym, ◌∙◌}
use Rattle.record.specs.PowerOn.{first_edition}
use Rattle.record.specs.declared.Backlight.{Backlight}
use contract.Lifetimes.{Lfts}
use denote.Triple.Clauses.{Ended, AtExit}
use borrow.Fn.World.{ArgsD, ResD}
use Rattle.seconds.specs.Seconds.{light_passed}
use Rattle.sister_command.specs.contracts.is_own as IsOwn
use Rattle.sister_command.proofs.is_own.Reads as IsOwnReads
use Rattle.sister_command.specs.contracts.read_shared as ReadShared
use Rattle.sister_command.proofs.read_shared.Reads as ReadSharedReads
use Rattle.answer.specs.contracts.put as Put
use Rattle.answer.proofs.put.Reads as PutReads
use Rattle.sister_effect.specs.contracts.refused as RefusedBy
use Rattle.sister_effect.proofs.refused.Reads as RefusedByReads
use Rattle.sister_effect.specs.contracts.obey_own_frame as ObeyOwnFrame
use Rattle.sister_effect.proofs.obey_own_frame.Reads as ObeyOwnFrameReads
use Rattle.handset.specs.contracts.proved_sister_power_on as ProvedSisterPowerOn
use Rattle.handset.proofs.proved_sister_power_on.Reads as ProvedSisterPowerOnReads
use Rattle.sister_answer.specs.contracts.is_silence as Untold
use Rattle.sister_answer.proofs.is_silence.Reads as UntoldReads
use Rattle.sister_command.specs.contracts.read_sister as ReadSister
use Rattle.sister_command.proofs.read_sister.Reads as ReadSisterReads
use Rattle.command.specs.contracts.opens_label as OpensLabel
use Rattle.command.proofs.opens_label.Reads as OpensLabelReads
use Rattle.command.specs.contracts.with_number as WithNumber
use Rattle.command.proofs.with_number.Reads as WithNumberReads
use Rattle.command.specs.contracts.byte_at as ByteAt
use Rattle.command.proofs.byte_at.Reads as ByteAtReads
use Rattle.record_small_ranges.specs.contracts.sister_small_in_range as SisterSmallInRange
use Rattle.record_small_ranges.proofs.sister_small_in_range.Reads as SisterSmallInRangeReads
use Rattle.record.specs.contracts.small_of as SmallOf
use Rattle.record.proofs.small_of.Reads as SmallOfReads
use Rattle.record.specs.Parts.{whole}
use Rattle.record.specs.contracts.Record.in_parts as TakenApart
use Rattle.record.proofs.Record.in_parts.Reads as TakenApartReads
use Rattle.record.specs.contracts.NumberFromRefusal.from as NumberFrom
use Rattle.record.proofs.NumberFromRefusal.from.Reads as NumberFromReads
use Rattle.record.specs.contracts.paper_number as PaperNumber
use Rattle.record.proofs.paper_number.Reads as PaperNumberReads
use Rattle.record.specs.contracts.rows as Rows
use Rattle.record.proofs.rows.Reads as RowsReads
use Rattle.record.specs.contracts.row_end as RowEnd
use Rattle.record.proofs.row_end.Reads as RowEndReads
use Rattle.record.specs.contracts.row_start as RowStart
use Rattle.record.proofs.row_start.Reads as RowStartReads
use Rattle.record.specs.contracts.Times.power_on as TimesPowerOn
use Rattle.record.proofs.Times.power_on.Reads as TimesPowerOnReads
use Rattle.record.specs.contracts.Record.starting_with as StartingWith
use Rattle.record.proofs.Record.starting_with.Reads as StartingWithReads
use Rattle.record.specs.contracts.Record.power_on as PowerOn
use Rattle.record.proofs.Record.power_on.Reads as PowerOnReads
use Rattle.record.specs.contracts.Times.former_defaults as TimesFormer
use Rattle.record.proofs.Times.former_defaults.Reads as TimesFormerReads
use Rattle.record.specs.contracts.Record.former_defaults as Former
use Rattle.record.proofs.Record.former_defaults.Reads as FormerReads
use Rattle.record.specs.contracts.Stored.delivered as Delivered
use Rattle.record.proofs.Stored.delivered.Reads as DeliveredReads
use Rattle.record.specs.contracts.Record.sister_with as SisterWith
use Rattle.record.proofs.Record.sister_with.Reads as SisterWithReads
use Rattle.record.specs.contracts.Record.sister_power_on as SisterPowerOn
use Rattle.record.proofs.Record.sister_power_on.Reads as SisterPowerOnReads
use Rattle.record_small_ranges.specs.contracts.backlight_in_range as BacklightInRange
use Rattle.record_small_ranges.proofs.backlight_in_range.Reads as BacklightInRangeReads
use Rattle.record_small_ranges.specs.contracts.small_in_range as SmallInRange
use Rattle.record_small_ranges.proofs.small_in_range.Reads as SmallInRangeReads
use Rattle.record_ranges.specs.contracts.in_range as RecordInRange
use Rattle.record_ranges.proofs.in_range.Reads as RecordInRangeReads
use Rattle.record_ranges.specs.contracts.in_range_lent as InRangeLent
use Rattle.record_ranges.proofs.in_range_lent.Reads as InRangeLentReads
use Rattle.numeral.specs.contracts.read_number as ReadNumber
use Rattle.numeral.proofs.read_number.Reads as ReadNumberReads
use Rattle.numeral.specs.contracts.digits_of as DigitsOf
use Rattle.numeral.proofs.digits_of.Reads as DigitsOfReads
use Rattle.picture.specs.contracts.read_data as ReadData
use Rattle.picture.proofs.read_data.Reads as ReadDataReads
use Rattle.picture_writer.specs.contracts.write_data as WriteData
use Rattle.picture_writer.proofs.write_data.Reads as WriteDataReads
use Rattle.line.specs.contracts.empty as EmptyLine
use Rattle.line.proofs.empty.Reads as EmptyLineReads
use Rattle.line.specs.contracts.add as AddCodes
use Rattle.line.proofs.add.Reads as AddCodesReads
use Rattle.line.specs.contracts.add_number as AddNumber
use Rattle.line.proofs.add_number.Reads as AddNumberReads
use Rattle.line.specs.contracts.copy as CopyLine
use Rattle.line.proofs.copy.Reads as CopyLineReads
use Rattle.command_form.specs.contracts.rows_named as RowsNamed
use Rattle.command_form.proofs.rows_named.Reads as RowsNamedReads
use Rattle.command_form.specs.contracts.number_out as NumberOut
use Rattle.command_form.proofs.number_out.Reads as NumberOutReads
use Rattle.command_form.specs.contracts.in_range as CommandInRange
use Rattle.command_form.proofs.in_range.Reads as CommandInRangeReads
use Rattle.command_form.specs.contracts.body as CommandBody
use Rattle.command_form.proofs.body.Reads as CommandBodyReads
use Rattle.sister_form.specs.contracts.own_out as OwnOut
use Rattle.sister_form.proofs.own_out.Reads as OwnOutReads
use Rattle.sister_form.specs.contracts.own_in_range as OwnInRange
use Rattle.sister_form.proofs.own_in_range.Reads as OwnInRangeReads
use Rattle.sister_form.specs.contracts.own_body as OwnBody
use Rattle.sister_form.proofs.own_body.Reads as OwnBodyReads
use Rattle.sister_form.specs.contracts.is_shared as IsShared
use Rattle.sister_form.proofs.is_shared.Reads as IsSharedReads
use Rattle.sister_form.specs.contracts.shared_body as SharedBody
use Rattle.sister_form.proofs.shared_body.Reads as SharedBodyReads
use Rattle.frame_table.specs.contracts.run as RunTable
use Rattle.frame_table.proofs.run.Reads as RunTableReads
use Rattle.frame_table.specs.contracts.accepted as Accepted
use Rattle.frame_table.proofs.accepted.Reads as AcceptedReads
use Rattle.command.specs.contracts.read_lent as ReadLent
use Rattle.command.proofs.read_lent.Reads as ReadLentReads
use Rattle.command.specs.contracts.read_command as ReadCommand
use Rattle.command.proofs.read_command.Reads as ReadCommandReads
use Rattle.picture_frame.specs.contracts.opens_picture as OpensPicture
use Rattle.picture_frame.proofs.opens_picture.Reads as OpensPictureReads
use Rattle.picture_frame.specs.contracts.read_picture as ReadPicture
use Rattle.picture_frame.proofs.read_picture.Reads as ReadPictureReads
use Rattle.verdict.specs.contracts.judge as Judge
use Rattle.verdict.proofs.judge.Reads as JudgeReads
use Rattle.verdict.specs.contracts.judge_in as JudgeIn
use Rattle.verdict.proofs.judge_in.Reads as JudgeInReads
use Rattle.effect_modes.specs.contracts.to_mode as ToMode
use Rattle.effect_modes.proofs.to_mode.Reads as ToModeReads
use Rattle.effect_modes.specs.contracts.at_level as AtLevel
use Rattle.effect_modes.proofs.at_level.Reads as AtLevelReads
use Rattle.effect.specs.contracts.obey as Obey
use Rattle.effect.proofs.obey.Reads as ObeyReads
use Rattle.answer.specs.contracts.is_silence as IsSilence
use Rattle.answer.proofs.is_silence.Reads as IsSilenceReads
use Rattle.answer.specs.contracts.say as Say
use Rattle.answer.proofs.say.Reads as SayReads
use Rattle.answer.specs.contracts.count as Count
use Rattle.answer.proofs.count.Reads as CountReads
use Rattle.sister_answer.specs.contracts.tell as Tell
use Rattle.sister_answer.proofs.tell.Reads as TellReads
use Rattle.hook.specs.contracts.hook_lent as HookLent
use Rattle.hook.proofs.hook_lent.Reads as HookLentReads
use Rattle.hook.specs.contracts.hook as HookCall
use Rattle.hook.proofs.hook.Reads as HookCallReads
use Rattle.stream_places.specs.contracts.empty_from as EmptyFrom
use Rattle.stream_places.proofs.empty_from.Reads as EmptyFromReads
use Rattle.parts.specs.contracts.part_at as PartAtPlace
use Rattle.parts.proofs.part_at.Reads as PartAtPlaceReads
use Rattle.stream.specs.contracts.feed_lent as FeedLent
use Rattle.stream.proofs.feed_lent.Reads as FeedLentReads
use Rattle.stream_by_value.specs.contracts.whole as Whole
use Rattle.stream_by_value.proofs.whole.Reads as WholeReads
use Rattle.stream_by_value.specs.contracts.feed as Feed
use Rattle.stream_by_value.proofs.feed.Reads as FeedReads
use Rattle.answer_room.specs.contracts.escapes_in as EscapesIn
use Rattle.answer_room.proofs.escapes_in.Reads as EscapesInReads
use Rattle.answer_room.specs.contracts.room_needed_lent as RoomNeededLent
use Rattle.answer_room.proofs.room_needed_lent.Reads as RoomNeededLentReads
use Rattle.answer_room.specs.contracts.room_needed as RoomNeededFor
use Rattle.answer_room.proofs.room_needed.Reads as RoomNeededForReads
use Rattle.choice.specs.contracts.check as CheckChoice
use Rattle.choice.proofs.check.Reads as CheckChoiceReads
use Rattle.key_entry.specs.contracts.all_listed as AllListed
use Rattle.key_entry.proofs.all_listed.Reads as AllListedReads
use Rattle.key_entry.specs.contracts.light_up as LightUp
use Rattle.key_entry.proofs.light_up.Reads as LightUpReads
use Rattle.key_entry.specs.contracts.over as OverTime
use Rattle.key_entry.proofs.over.Reads as OverTimeReads
use Rattle.key_entry.specs.contracts.take_entry as TakeEntry
use Rattle.key_entry.proofs.take_entry.Reads as TakeEntryReads
use Rattle.sister_entry.specs.contracts.take_entry as SisterEntry
use Rattle.sister_entry.proofs.take_entry.Reads as SisterEntryReads
use Rattle.key_log.specs.contracts.take_log_lent as TakeLogLent
use Rattle.key_log.proofs.take_log_lent.Reads as TakeLogLentReads
use Rattle.key_log.specs.contracts.take_log as TakeLog
use Rattle.key_log.proofs.take_log.Reads as TakeLogReads
use Rattle.seconds.specs.contracts.second_lent as SecondLent
use Rattle.seconds.proofs.second_lent.Reads as SecondLentReads
use Rattle.seconds.specs.contracts.second as Second
use Rattle.seconds.proofs.second.Reads as SecondReads
use Rattle.seconds.specs.contracts.second_in_place as SecondInPlace
use Rattle.seen_panels.specs.contracts.sms_panel as SmsPanelOf
use Rattle.seen_panels.proofs.sms_panel.Reads as SmsPanelOfReads
use Rattle.seen_panels.specs.contracts.volume_panel as VolumePanelOf
use Rattle.seen_panels.proofs.volume_panel.Reads as VolumePanelOfReads
use Rattle.seen_owners.specs.contracts.owner_of_row as OwnerOfRow
use Rattle.seen_owners.proofs.owner_of_row.Reads as OwnerOfRowReads
use Rattle.seen_owners.specs.contracts.owner_of as OwnerOf
use Rattle.seen_owners.proofs.owner_of.Reads as OwnerOfReads
use Rattle.seen.specs.contracts.row_seen as RowSeen
use Rattle.seen.proofs.row_seen.Reads as RowSeenReads
use Rattle.seen.specs.contracts.row_seen_lent as RowSeenLent
use Rattle.seen.proofs.row_seen_lent.Reads as RowSeenLentReads
use Rattle.seen.specs.contracts.column_seen as ColumnSeen
use Rattle.seen.proofs.column_seen.Reads as ColumnSeenReads
use Rattle.seen.specs.contracts.column_seen_lent as ColumnSeenLent
use Rattle.seen.proofs.column_seen_lent.Reads as ColumnSeenLentReads
use Rattle.seen.specs.contracts.sms_seen as SmsSeen
use Rattle.seen.proofs.sms_seen.Reads as SmsSeenReads
use Rattle.seen.specs.contracts.sms_seen_lent as SmsSeenLent
use Rattle.seen.proofs.sms_seen_lent.Reads as SmsSeenLentReads
use Rattle.seen.specs.contracts.volume_seen as VolumeSeen
use Rattle.seen.proofs.volume_seen.Reads as VolumeSeenReads
use Rattle.seen.specs.contracts.volume_seen_lent as VolumeSeenLent
use Rattle.seen.proofs.volume_seen_lent.Reads as VolumeSeenLentReads
use Rattle.writer_ranges.specs.contracts.label_in_range as LabelInRange
use Rattle.writer_ranges.proofs.label_in_range.Reads as LabelInRangeReads
use Rattle.writer_ranges.specs.contracts.row_in_range as RowInRange
use Rattle.writer_ranges.proofs.row_in_range.Reads as RowInRangeReads
use Rattle.writer.specs.contracts.write_own as WriteOwn
use Rattle.writer.proofs.write_own.Reads as WriteOwnReads
use Rattle.writer.specs.contracts.write_shared as WriteShared
use Rattle.writer.proofs.write_shared.Reads as WriteSharedReads
use Rattle.writer.specs.contracts.write_command as WriteCommand
use Rattle.writer.proofs.write_command.Reads as WriteCommandReads
use Rattle.writer.specs.contracts.write_label as WriteLabel
use Rattle.writer.proofs.write_label.Reads as WriteLabelReads
use Rattle.writer.specs.contracts.write_picture_row as WritePictureRow
use Rattle.writer.proofs.write_picture_row.Reads as WritePictureRowReads
use Rattle.handset_numbers.specs.contracts.phase_of as PhaseOf
use Rattle.handset_numbers.proofs.phase_of.Reads as PhaseOfReads
use Rattle.handset_numbers.specs.contracts.side_of as SideOf
use Rattle.handset_numbers.proofs.side_of.Reads as SideOfReads
use Rattle.handset_numbers.specs.contracts.command_of as CommandOf
use Rattle.handset_numbers.proofs.command_of.Reads as CommandOfReads
use Rattle.handset_numbers.specs.contracts.sister_command_of as SisterCommandOf
use Rattle.handset_numbers.proofs.sister_command_of.Reads as SisterCommandOfReads
use Rattle.handset_numbers.specs.contracts.sms_number as SmsNumber
use Rattle.handset_numbers.proofs.sms_number.Reads as SmsNumberReads
use Rattle.handset_numbers.specs.contracts.volume_numbers as VolumeNumbers
use Rattle.handset_numbers.proofs.volume_numbers.Reads as VolumeNumbersReads
use Rattle.handset_numbers.specs.contracts.owner_numbers as OwnerNumbers
use Rattle.handset_numbers.proofs.owner_numbers.Reads as OwnerNumbersReads
use Rattle.handset_numbers.specs.contracts.shown_numbers as ShownNumbers
use Rattle.handset_numbers.proofs.shown_numbers.Reads as ShownNumbersReads
use Rattle.handset_numbers.specs.contracts.verdict_numbers as VerdictNumbers
use Rattle.handset_numbers.proofs.verdict_numbers.Reads as VerdictNumbersReads
use Rattle.handset_numbers.specs.contracts.rule_number as RuleNumber
use Rattle.handset_numbers.proofs.rule_number.Reads as RuleNumberReads
use Rattle.handset_numbers.specs.contracts.kind_number as KindNumber
use Rattle.handset_numbers.proofs.kind_number.Reads as KindNumberReads
use Rattle.handset.specs.contracts.proved_power_on as ProvedPowerOn
use Rattle.handset.proofs.proved_power_on.Reads as ProvedPowerOnReads
use Rattle.handset.specs.contracts.proved_power_on_former as ProvedPowerOnFormer
use Rattle.handset.proofs.proved_power_on_former.Reads as ProvedPowerOnFormerReads
use Rattle.handset.specs.contracts.proved_in_range as ProvedInRange
use Rattle.handset.proofs.proved_in_range.Reads as ProvedInRangeReads
use Rattle.handset.specs.contracts.proved_feed as ProvedFeed
use Rattle.handset.proofs.proved_feed.Reads as ProvedFeedReads
use Rattle.handset.specs.contracts.proved_take_log as ProvedTakeLog
use Rattle.handset.proofs.proved_take_log.Reads as ProvedTakeLogReads
use Rattle.handset.specs.contracts.proved_second as ProvedSecond
use Rattle.handset.proofs.proved_second.Reads as ProvedSecondReads
use Rattle.handset.specs.contracts.proved_light_second as ProvedLightSecond
use Rattle.handset.proofs.proved_light_second.Reads as ProvedLightSecondReads
use Rattle.handset.specs.contracts.proved_hook as ProvedHook
use Rattle.handset.proofs.proved_hook.Reads as ProvedHookReads
use Rattle.handset.specs.contracts.proved_room_needed as ProvedRoomNeeded
use Rattle.handset.proofs.proved_room_needed.Reads as ProvedRoomNeededReads
use Rattle.handset.specs.contracts.proved_judge_in as ProvedJudgeIn
use Rattle.handset.proofs.proved_judge_in.Reads as ProvedJudgeInReads
use Rattle.handset.specs.contracts.proved_sms_seen as ProvedSmsSeen
use Rattle.handset.proofs.proved_sms_seen.Reads as ProvedSmsSeenReads
use Rattle.handset.specs.contracts.proved_volume_seen as ProvedVolumeSeen
use Rattle.handset.proofs.proved_volume_seen.Reads as ProvedVolumeSeenReads
use Rattle.handset.specs.contracts.proved_row_seen as ProvedRowSeen
use Rattle.handset.proofs.proved_row_seen.Reads as ProvedRowSeenReads
use Rattle.handset.specs.contracts.proved_column_seen as ProvedColumnSeen
use Rattle.handset.proofs.proved_column_seen.Reads as ProvedColumnSeenReads
use Rattle.handset.specs.contracts.proved_write_command as ProvedWriteCommand
use Rattle.handset.proofs.proved_write_command.Reads as ProvedWriteCommandReads
use Rattle.handset.specs.contracts.proved_write_sister_command as ProvedWriteSisterCommand
use Rattle.handset.proofs.proved_write_sister_command.Reads as ProvedWriteSisterCommandReads
use Rattle.handset.specs.contracts.proved_write_label as ProvedWriteLabel
use Rattle.handset.proofs.proved_write_label.Reads as ProvedWriteLabelReads
use Rattle.handset.specs.contracts.proved_write_picture_row as ProvedWritePictureRow
use Rattle.handset.proofs.proved_write_picture_row.Reads as ProvedWritePictureRowReads
use Rattle.handset.specs.contracts.proved_judge as ProvedJudge
use Rattle.handset.proofs.proved_judge.Reads as ProvedJudgeReads
use Rattle.handset.specs.contracts.proved_check_choice as ProvedCheckChoice
use Rattle.handset.proofs.proved_check_choice.Reads as ProvedCheckChoiceReads
use Rattle.handset.specs.contracts.proved_part_at as ProvedPartAt
use Rattle.handset.proofs.proved_part_at.Reads as ProvedPartAtReads

-- What two things are equal to the same is equal.
pub two_equal : {A : Type 0} {one other it : A} → one ≡ it → other ≡ it → one ≡ other
two_equal p q = p ∙ sym q

-- what a promise allows of the arguments, the result and the arguments at exit
abbrev Allows : Ended → Type 1
Allows t = (κs : Lfts t.signature.lifetimes) → ArgsD t.signature κs → ResD t.signature κs → AtExit t κs → Type 0

-- two results that are allowed, on the same arguments, are equal
abbrev OneResult : (t : Ended) → Allows t → Type 0
OneResult t allows =
    (κs : Lfts t.signature.lifetimes) (a : ArgsD t.signature κs) (q q' : ResD t.signature κs) (e e' : AtExit t κs)
    → allows κs a q e → allows κs a q' e' → q ≡ q'

-- and what was lent is left the same, where `left` looks at it
abbrev OneEnd : (t : Ended) (L : Type 0) → Allows t → ((κs : Lfts t.signature.lifetimes) → AtExit t κs → L) → Type 0
OneEnd t L allows left =
    (κs : Lfts t.signature.lifetimes) (a : ArgsD t.signature κs) (q q' : ResD t.signature κs) (e e' : AtExit t κs)
    → allows κs a q e → allows κs a q' e' → (q ≡ q') × (left κs e ≡ left κs e')

-- So it is where the promise is an equation on the result,
equal : (t : Ended) (f : (κs : Lfts t.signature.lifetimes) → ArgsD t.signature κs → ResD t.signature κs) → OneResult t (λ κs a q e. q ≡ f κs a)
equal t f κs a q q' e e' p p' = two_equal p p'

-- or one on the result and one on what was lent.
equal_and_left : (t : Ended) (L : Type 0) (f : (κs : Lfts t.signature.lifetimes) → ArgsD t.signature κs → ResD t.signature κs)
    (left : (κs : Lfts t.signature.lifetimes) → AtExit t κs → L) (g : (κs : Lfts t.signature.lifetimes) → ArgsD t.signature κs → L)
    → OneEnd t L (λ κs a q e. (q ≡ f κs a) × (left κs e ≡ g κs a)) left
equal_and_left t L f left g κs a q q' e e' p p' = (two_equal p.0 p'.0, two_equal p.1 p'.1)

-- Where several are lent, the equations on them are one on them all.
three_left : {x y z x' y' z' : List ℕ} → (x ≡ x') × ((y ≡ y') × (z ≡ z')) → ◌≡◌ {A = List ℕ × List ℕ × List ℕ} (x, y, z) (x', y', z')
three_left p = λ j. (p.0 j, p.1.0 j, p.1.1 j)

four_left : {x y z v x' y' z' v' : List ℕ} → (x ≡ x') × ((y ≡ y') × ((z ≡ z') × (v ≡ v'))) → ◌≡◌ {A = List ℕ × List ℕ × List ℕ × List ℕ} (x, y, z, v) (x', y', z', v')
four_left p = λ j. (p.0 j, p.1.0 j, p.1.1.0 j, p.1.1.1 j)

-- record::small_of
pub small_of_one : OneResult SmallOf.ended SmallOfReads.Learnt
small_of_one = equal SmallOf.ended _

-- record::Record::in_parts: where the parts stand is told by no promise, but what they are is
pub in_parts_one : (κs : Lfts TakenApart.ended.signature.lifetimes) (a : ArgsD TakenApart.ended.signature κs) (q q' : ResD TakenApart.ended.signature κs) (e e' : AtExit TakenApart.ended κs)
    → TakenApartReads.Learnt κs a q e → TakenApartReads.Learnt κs a q' e' → whole q ≡ whole q'
in_parts_one κs a q q' e e' p p' = two_equal p p'

-- record::Number::from, of a refusal
pub number_from_one : OneResult NumberFrom.ended NumberFromReads.Learnt
number_from_one = equal NumberFrom.ended _

-- record::paper_number
pub paper_number_one : OneResult PaperNumber.ended PaperNumberReads.Learnt
paper_number_one = equal PaperNumber.ended _

-- record::rows
pub rows_one : OneResult Rows.ended RowsReads.Learnt
rows_one = equal Rows.ended _

-- record::row_end
pub row_end_one : OneResult RowEnd.ended RowEndReads.Learnt
row_end_one = equal RowEnd.ended _

-- record::row_start
pub row_start_one : OneResult RowStart.ended RowStartReads.Learnt
row_start_one = equal RowStart.ended _

-- record::Times::power_on
pub times_power_on_one : OneResult TimesPowerOn.ended TimesPowerOnReads.Learnt
times_power_on_one = equal TimesPowerOn.ended _

-- record::Record::starting_with
pub record_starting_with_one : OneResult StartingWith.ended StartingWithReads.Learnt
record_starting_with_one = equal StartingWith.ended _

-- record::Record::power_on
pub record_power_on_one : OneResult PowerOn.ended PowerOnReads.Learnt
record_power_on_one = equal PowerOn.ended _

-- record::Times::former_defaults
pub times_former_defaults_one : OneResult TimesFormer.ended TimesFormerReads.Learnt
times_former_defaults_one = equal TimesFormer.ended _

-- record::Record::former_defaults
pub record_former_defaults_one : OneResult Former.ended FormerReads.Learnt
record_former_defaults_one = equal Former.ended _

-- record::Stored::delivered
pub stored_delivered_one : OneResult Delivered.ended DeliveredReads.Learnt
stored_delivered_one = equal Delivered.ended _

-- record::Record::sister_with
pub record_sister_with_one : OneResult SisterWith.ended SisterWithReads.Learnt
record_sister_with_one = equal SisterWith.ended _

-- record::Record::sister_power_on
pub record_sister_power_on_one : OneResult SisterPowerOn.ended SisterPowerOnReads.Learnt
record_sister_power_on_one = equal SisterPowerOn.ended _

-- record_small_ranges::backlight_in_range
pub backlight_in_range_one : OneResult BacklightInRange.ended BacklightInRangeReads.Learnt
backlight_in_range_one = equal BacklightInRange.ended _

-- record_small_ranges::small_in_range
pub small_in_range_one : OneResult SmallInRange.ended SmallInRangeReads.Learnt
small_in_range_one = equal SmallInRange.ended _

-- record_small_ranges::sister_small_in_range
pub sister_small_in_range_one : OneResult SisterSmallInRange.ended SisterSmallInRangeReads.Learnt
sister_small_in_range_one = equal SisterSmallInRange.ended _

-- record_ranges::in_range
pub record_in_range_one : OneResult RecordInRange.ended RecordInRangeReads.Learnt
record_in_range_one = equal RecordInRange.ended _

-- record_ranges::in_range_lent
pub in_range_lent_one : OneResult InRangeLent.ended InRangeLentReads.Learnt
in_range_lent_one = equal InRangeLent.ended _

-- numeral::read_number
pub read_number_one : OneResult ReadNumber.ended ReadNumberReads.Learnt
read_number_one = equal ReadNumber.ended _

-- numeral::digits_of
pub digits_of_one : OneResult DigitsOf.ended DigitsOfReads.Learnt
digits_of_one = equal DigitsOf.ended _

-- picture::read_data
pub read_data_one : OneResult ReadData.ended ReadDataReads.Learnt
read_data_one = equal ReadData.ended _

-- picture_writer::write_data
pub write_data_one : OneResult WriteData.ended WriteDataReads.Learnt
write_data_one = equal WriteData.ended _

-- line::empty
pub empty_line_one : OneResult EmptyLine.ended EmptyLineReads.Learnt
empty_line_one = equal EmptyLine.ended _

-- line::add
pub add_codes_one : OneResult AddCodes.ended AddCodesReads.Learnt
add_codes_one = equal AddCodes.ended _

-- line::add_number
pub add_number_one : OneResult AddNumber.ended AddNumberReads.Learnt
add_number_one = equal AddNumber.ended _

-- line::copy
pub copy_line_one : OneEnd CopyLine.ended (List ℕ) CopyLineReads.Learnt (λ κs e. e.1.0.now)
copy_line_one = equal_and_left CopyLine.ended _ _ _ _

-- command_form::rows_named
pub rows_named_one : OneResult RowsNamed.ended RowsNamedReads.Learnt
rows_named_one = equal RowsNamed.ended _

-- command_form::number_out
pub number_out_one : OneResult NumberOut.ended NumberOutReads.Learnt
number_out_one = equal NumberOut.ended _

-- command_form::in_range
pub command_in_range_one : OneResult CommandInRange.ended CommandInRangeReads.Learnt
command_in_range_one = equal CommandInRange.ended _

-- command_form::body
pub command_body_one : OneResult CommandBody.ended CommandBodyReads.Learnt
command_body_one = equal CommandBody.ended _

-- sister_form::own_out
pub own_out_one : OneResult OwnOut.ended OwnOutReads.Learnt
own_out_one = equal OwnOut.ended _

-- sister_form::own_in_range
pub own_in_range_one : OneResult OwnInRange.ended OwnInRangeReads.Learnt
own_in_range_one = equal OwnInRange.ended _

-- sister_form::own_body
pub own_body_one : OneResult OwnBody.ended OwnBodyReads.Learnt
own_body_one = equal OwnBody.ended _

-- sister_form::is_shared
pub is_shared_one : OneResult IsShared.ended IsSharedReads.Learnt
is_shared_one = equal IsShared.ended _

-- sister_form::shared_body
pub shared_body_one : OneResult SharedBody.ended SharedBodyReads.Learnt
shared_body_one = equal SharedBody.ended _

-- frame_table::run
pub run_table_one : OneResult RunTable.ended RunTableReads.Learnt
run_table_one = equal RunTable.ended _

-- frame_table::accepted
pub accepted_one : OneResult Accepted.ended AcceptedReads.Learnt
accepted_one = equal Accepted.ended _

-- command::byte_at
pub byte_at_one : OneResult ByteAt.ended ByteAtReads.Learnt
byte_at_one = equal ByteAt.ended _

-- command::with_number
pub with_number_one : OneResult WithNumber.ended WithNumberReads.Learnt
with_number_one = equal WithNumber.ended _

-- command::opens_label
pub opens_label_one : OneResult OpensLabel.ended OpensLabelReads.Learnt
opens_label_one = equal OpensLabel.ended _

-- command::read_lent
pub read_lent_one : OneResult ReadLent.ended ReadLentReads.Learnt
read_lent_one = equal ReadLent.ended _

-- command::read_command
pub read_command_one : OneResult ReadCommand.ended ReadCommandReads.Learnt
read_command_one = equal ReadCommand.ended _

-- sister_command::read_sister
pub read_sister_one : OneResult ReadSister.ended ReadSisterReads.Learnt
read_sister_one = equal ReadSister.ended _

-- sister_command::read_shared
pub read_shared_one : OneResult ReadShared.ended ReadSharedReads.Learnt
read_shared_one = equal ReadShared.ended _

-- sister_command::is_own
pub is_own_one : OneResult IsOwn.ended IsOwnReads.Learnt
is_own_one = equal IsOwn.ended _

-- picture_frame::opens_picture
pub opens_picture_one : OneResult OpensPicture.ended OpensPictureReads.Learnt
opens_picture_one = equal OpensPicture.ended _

-- picture_frame::read_picture
pub read_picture_one : OneResult ReadPicture.ended ReadPictureReads.Learnt
read_picture_one = equal ReadPicture.ended _

-- verdict::judge
pub judge_one : OneResult Judge.ended JudgeReads.Learnt
judge_one = equal Judge.ended _

-- verdict::judge_in
pub judge_in_one : OneResult JudgeIn.ended JudgeInReads.Learnt
judge_in_one κs a q q' e e' p p' = two_equal (p [] []) (p' [] [])

-- answer::is_silence
pub is_silence_one : OneResult IsSilence.ended IsSilenceReads.Learnt
is_silence_one = equal IsSilence.ended _

-- answer::put
pub put_one : OneEnd Put.ended (List ℕ) PutReads.Learnt (λ κs e. e.0.now)
put_one = equal_and_left Put.ended _ _ _ _

-- answer::say
pub say_one : OneEnd Say.ended (List ℕ) SayReads.Learnt (λ κs e. e.0.now)
say_one = equal_and_left Say.ended _ _ _ _

-- answer::count
pub count_one : OneResult Count.ended CountReads.Learnt
count_one = equal Count.ended _

-- sister_answer::tell
pub tell_one : OneEnd Tell.ended (List ℕ) TellReads.Learnt (λ κs e. e.0.now)
tell_one = equal_and_left Tell.ended _ _ _ _

-- sister_answer::is_silence
pub untold_one : OneResult Untold.ended UntoldReads.Learnt
untold_one = equal Untold.ended _

-- hook::hook_lent
pub hook_lent_one : OneResult HookLent.ended HookLentReads.Learnt
hook_lent_one = equal HookLent.ended _

-- hook::hook
pub hook_one : OneResult HookCall.ended HookCallReads.Learnt
hook_one = equal HookCall.ended _

-- stream_places::empty_from
pub empty_from_one : OneEnd EmptyFrom.ended (List ℕ) EmptyFromReads.Learnt (λ κs e. e.0.now)
empty_from_one κs a q q' e e' p p' = (refl, two_equal p p')

-- parts::part_at
pub part_at_one : OneResult PartAtPlace.ended PartAtPlaceReads.Learnt
part_at_one = equal PartAtPlace.ended _

-- stream::feed_lent: text, picture, the frame's bytes and the answers
pub feed_lent_one : OneEnd FeedLent.ended (List ℕ × List ℕ × List ℕ × List ℕ) FeedLentReads.Learnt (λ κs e. (e.1.0.now, e.1.1.0.now, e.1.1.1.0.now, e.1.1.1.1.1.0.now))
feed_lent_one κs a q q' e e' p p' = (two_equal p.0 p'.0, two_equal (four_left p.1) (four_left p'.1))

-- stream_by_value::whole
pub whole_one : OneResult Whole.ended WholeReads.Learnt
whole_one = equal Whole.ended _

-- stream_by_value::feed
pub feed_one : OneEnd Feed.ended (List ℕ) FeedReads.Learnt (λ κs e. e.1.1.0.now)
feed_one = equal_and_left Feed.ended _ _ _ _

-- answer_room::escapes_in
pub escapes_in_one : OneResult EscapesIn.ended EscapesInReads.Learnt
escapes_in_one = equal EscapesIn.ended _

-- answer_room::room_needed_lent
pub room_needed_lent_one : OneResult RoomNeededLent.ended RoomNeededLentReads.Learnt
room_needed_lent_one = equal RoomNeededLent.ended _

-- answer_room::room_needed
pub room_needed_one : OneResult RoomNeededFor.ended RoomNeededForReads.Learnt
room_needed_one = equal RoomNeededFor.ended _

-- choice::check
pub check_choice_one : OneResult CheckChoice.ended CheckChoiceReads.Learnt
check_choice_one = equal CheckChoice.ended _

-- key_entry::all_listed
pub all_listed_one : OneResult AllListed.ended AllListedReads.Learnt
all_listed_one = equal AllListed.ended _

-- key_entry::light_up
pub light_up_one : OneResult LightUp.ended LightUpReads.Learnt
light_up_one = equal LightUp.ended _

-- key_entry::over
pub over_one : OneResult OverTime.ended OverTimeReads.Learnt
over_one = equal OverTime.ended _

-- key_entry::take_entry
pub take_entry_one : OneResult TakeEntry.ended TakeEntryReads.Learnt
take_entry_one = equal TakeEntry.ended _

-- sister_entry::take_entry
pub sister_entry_one : OneResult SisterEntry.ended SisterEntryReads.Learnt
sister_entry_one = equal SisterEntry.ended _

-- key_log::take_log_lent
pub take_log_lent_one : OneEnd TakeLogLent.ended (List ℕ) TakeLogLentReads.Learnt (λ κs e. e.1.1.1.0.now)
take_log_lent_one = equal_and_left TakeLogLent.ended _ _ _ _

-- key_log::take_log
pub take_log_one : OneEnd TakeLog.ended (List ℕ) TakeLogReads.Learnt (λ κs e. e.1.1.1.0.now)
take_log_one = equal_and_left TakeLog.ended _ _ _ _

-- seconds::second_lent
pub second_lent_one : OneResult SecondLent.ended SecondLentReads.Learnt
second_lent_one = equal SecondLent.ended _

-- seconds::second
pub second_one : OneResult Second.ended SecondReads.Learnt
second_one = equal Second.ended _

-- seconds::second_in_place: what its clause claims (Tie, second-in-place-says)
pub second_in_place_one : OneEnd SecondInPlace.ended Backlight
    (λ κs a q e. (q ≡ (light_passed a.0.now).number) × (e.0.now ≡ (light_passed a.0.now).backlight))
    (λ κs e. e.0.now)
second_in_place_one κs a q q' e e' p p' = (two_equal p.0 p'.0, two_equal p.1 p'.1)

-- seen_panels::sms_panel
pub sms_panel_one : OneResult SmsPanelOf.ended SmsPanelOfReads.Learnt
sms_panel_one = equal SmsPanelOf.ended _

-- seen_panels::volume_panel
pub volume_panel_one : OneResult VolumePanelOf.ended VolumePanelOfReads.Learnt
volume_panel_one = equal VolumePanelOf.ended _

-- seen_owners::owner_of_row
pub owner_of_row_one : OneResult OwnerOfRow.ended OwnerOfRowReads.Learnt
owner_of_row_one = equal OwnerOfRow.ended _

-- seen_owners::owner_of
pub owner_of_one : OneResult OwnerOf.ended OwnerOfReads.Learnt
owner_of_one = equal OwnerOf.ended _

-- seen::row_seen
pub row_seen_one : OneResult RowSeen.ended RowSeenReads.Learnt
row_seen_one = equal RowSeen.ended _

-- seen::row_seen_lent
pub row_seen_lent_one : OneResult RowSeenLent.ended RowSeenLentReads.Learnt
row_seen_lent_one = equal RowSeenLent.ended _

-- seen::column_seen
pub column_seen_one : OneResult ColumnSeen.ended ColumnSeenReads.Learnt
column_seen_one = equal ColumnSeen.ended _

-- seen::column_seen_lent
pub column_seen_lent_one : OneResult ColumnSeenLent.ended ColumnSeenLentReads.Learnt
column_seen_lent_one = equal ColumnSeenLent.ended _

-- seen::sms_seen
pub sms_seen_one : OneResult SmsSeen.ended SmsSeenReads.Learnt
sms_seen_one = equal SmsSeen.ended _

-- seen::sms_seen_lent
pub sms_seen_lent_one : OneResult SmsSeenLent.ended SmsSeenLentReads.Learnt
sms_seen_lent_one = equal SmsSeenLent.ended _

-- seen::volume_seen
pub volume_seen_one : OneResult VolumeSeen.ended VolumeSeenReads.Learnt
volume_seen_one = equal VolumeSeen.ended _

-- seen::volume_seen_lent
pub volume_seen_lent_one : OneResult VolumeSeenLent.ended VolumeSeenLentReads.Learnt
volume_seen_lent_one = equal VolumeSeenLent.ended _

-- writer_ranges::label_in_range
pub label_in_range_one : OneResult LabelInRange.ended LabelInRangeReads.Learnt
label_in_range_one = equal LabelInRange.ended _

-- writer_ranges::row_in_range
pub row_in_range_one : OneResult RowInRange.ended RowInRangeReads.Learnt
row_in_range_one = equal RowInRange.ended _

-- writer::write_own
pub write_own_one : OneEnd WriteOwn.ended (List ℕ) WriteOwnReads.Learnt (λ κs e. e.1.0.now)
write_own_one = equal_and_left WriteOwn.ended _ _ _ _

-- writer::write_shared
pub write_shared_one : OneEnd WriteShared.ended (List ℕ) WriteSharedReads.Learnt (λ κs e. e.1.0.now)
write_shared_one = equal_and_left WriteShared.ended _ _ _ _

-- writer::write_command
pub write_command_one : OneEnd WriteCommand.ended (List ℕ) WriteCommandReads.Learnt (λ κs e. e.1.0.now)
write_command_one = equal_and_left WriteCommand.ended _ _ _ _

-- writer::write_label
pub write_label_one : OneEnd WriteLabel.ended (List ℕ) WriteLabelReads.Learnt (λ κs e. e.1.1.0.now)
write_label_one = equal_and_left WriteLabel.ended _ _ _ _

-- writer::write_picture_row
pub write_picture_row_one : OneEnd WritePictureRow.ended (List ℕ) WritePictureRowReads.Learnt (λ κs e. e.1.1.0.now)
write_picture_row_one = equal_and_left WritePictureRow.ended _ _ _ _

-- effect_modes::to_mode
pub to_mode_one : OneResult ToMode.ended ToModeReads.Learnt
to_mode_one = equal ToMode.ended _

-- effect_modes::at_level
pub at_level_one : OneResult AtLevel.ended AtLevelReads.Learnt
at_level_one = equal AtLevel.ended _

-- effect::obey: what the frame is answered, and the settings, text and picture as they are afterwards
pub obey_one : (κs : Lfts (Obey.ended).signature.lifetimes) (a : ArgsD (Obey.ended).signature κs) (q q' : ResD (Obey.ended).signature κs) (e e' : AtExit Obey.ended κs)
    → ObeyReads.Learnt κs a q e → ObeyReads.Learnt κs a q' e'
    → (q ≡ q') × (e.1.0.now ≡ e'.1.0.now) × (e.1.1.0.now ≡ e'.1.1.0.now)
obey_one κs a q q' e e' p p' =
    let same = two_equal (p first_edition).same (p' first_edition).same in
    let answer = two_equal (p first_edition).answer (p' first_edition).answer in
    (λ j. record { answer = answer j; settings = (same j).settings }, λ j. (same j).text, λ j. (same j).picture)

-- sister_effect::refused
pub refused_one : OneResult RefusedBy.ended RefusedByReads.Learnt
refused_one κs a q q' e e' p p' = two_equal (p [] []) (p' [] [])

-- sister_effect::obey_own_frame: what the frame is answered, and the settings, edition, text and picture as they are afterwards
pub obey_own_frame_one : OneEnd ObeyOwnFrame.ended (List ℕ × List ℕ) ObeyOwnFrameReads.Learnt (λ κs e. (e.1.1.0.now, e.1.1.1.0.now))
obey_own_frame_one κs a q q' e e' p p' =
    let same = two_equal p.same p'.same in
    let told = two_equal p.told p'.told in
    (λ j. record { settings = (same j).settings; edition = (same j).edition; told = told j }, λ j. ((same j).text, (same j).picture))

-- handset_numbers::phase_of
pub phase_of_one : OneResult PhaseOf.ended PhaseOfReads.Learnt
phase_of_one = equal PhaseOf.ended _

-- handset_numbers::side_of
pub side_of_one : OneResult SideOf.ended SideOfReads.Learnt
side_of_one = equal SideOf.ended _

-- handset_numbers::command_of
pub command_of_one : OneResult CommandOf.ended CommandOfReads.Learnt
command_of_one = equal CommandOf.ended _

pub sister_command_of_one : OneResult SisterCommandOf.ended SisterCommandOfReads.Learnt
sister_command_of_one = equal SisterCommandOf.ended _

-- handset_numbers::sms_number
pub sms_number_one : OneResult SmsNumber.ended SmsNumberReads.Learnt
sms_number_one = equal SmsNumber.ended _

-- handset_numbers::volume_numbers
pub volume_numbers_one : OneResult VolumeNumbers.ended VolumeNumbersReads.Learnt
volume_numbers_one = equal VolumeNumbers.ended _

-- handset_numbers::owner_numbers
pub owner_numbers_one : OneResult OwnerNumbers.ended OwnerNumbersReads.Learnt
owner_numbers_one = equal OwnerNumbers.ended _

-- handset_numbers::shown_numbers
pub shown_numbers_one : OneResult ShownNumbers.ended ShownNumbersReads.Learnt
shown_numbers_one = equal ShownNumbers.ended _

-- handset_numbers::verdict_numbers
pub verdict_numbers_one : OneResult VerdictNumbers.ended VerdictNumbersReads.Learnt
verdict_numbers_one = equal VerdictNumbers.ended _

-- handset_numbers::rule_number
pub rule_number_one : OneResult RuleNumber.ended RuleNumberReads.Learnt
rule_number_one = equal RuleNumber.ended _

-- handset_numbers::kind_number
pub kind_number_one : OneResult KindNumber.ended KindNumberReads.Learnt
kind_number_one = equal KindNumber.ended _

-- handset::proved_power_on: text, picture and the frame's bytes
pub proved_power_on_one : OneEnd ProvedPowerOn.ended (List ℕ × List ℕ × List ℕ) ProvedPowerOnReads.Learnt (λ κs e. (e.0.now, e.1.0.now, e.1.1.0.now))
proved_power_on_one κs a q q' e e' p p' = (two_equal p.0 p'.0, two_equal (three_left p.1) (three_left p'.1))

-- handset::proved_power_on_former: text, picture and the frame's bytes
pub proved_power_on_former_one : OneEnd ProvedPowerOnFormer.ended (List ℕ × List ℕ × List ℕ) ProvedPowerOnFormerReads.Learnt (λ κs e. (e.0.now, e.1.0.now, e.1.1.0.now))
proved_power_on_former_one κs a q q' e e' p p' = (two_equal p.0 p'.0, two_equal (three_left p.1) (three_left p'.1))

-- handset::proved_sister_power_on: text, picture and the frame's bytes
pub proved_sister_power_on_one : OneEnd ProvedSisterPowerOn.ended (List ℕ × List ℕ × List ℕ) ProvedSisterPowerOnReads.Learnt (λ κs e. (e.0.now, e.1.0.now, e.1.1.0.now))
proved_sister_power_on_one κs a q q' e e' p p' = (two_equal p.0 p'.0, two_equal (three_left p.1) (three_left p'.1))

-- handset::proved_in_range
pub proved_in_range_one : OneResult ProvedInRange.ended ProvedInRangeReads.Learnt
proved_in_range_one = equal ProvedInRange.ended _

-- handset::proved_feed: text, picture, the frame's bytes and the answers
pub proved_feed_one : OneEnd ProvedFeed.ended (List ℕ × List ℕ × List ℕ × List ℕ) ProvedFeedReads.Learnt (λ κs e. (e.1.0.now, e.1.1.0.now, e.1.1.1.0.now, e.1.1.1.1.1.0.now))
proved_feed_one κs a q q' e e' p p' = (two_equal p.0 p'.0, two_equal (four_left p.1) (four_left p'.1))

-- handset::proved_take_log
pub proved_take_log_one : OneEnd ProvedTakeLog.ended (List ℕ) ProvedTakeLogReads.Learnt (λ κs e. e.1.1.1.1.1.1.0.now)
proved_take_log_one = equal_and_left ProvedTakeLog.ended _ _ _ _

-- handset::proved_second
pub proved_second_one : OneResult ProvedSecond.ended ProvedSecondReads.Learnt
proved_second_one = equal ProvedSecond.ended _

-- handset::proved_light_second
pub proved_light_second_one : OneResult ProvedLightSecond.ended ProvedLightSecondReads.Learnt
proved_light_second_one = equal ProvedLightSecond.ended _

-- handset::proved_hook
pub proved_hook_one : OneResult ProvedHook.ended ProvedHookReads.Learnt
proved_hook_one = equal ProvedHook.ended _

-- handset::proved_room_needed
pub proved_room_needed_one : OneResult ProvedRoomNeeded.ended ProvedRoomNeededReads.Learnt
proved_room_needed_one = equal ProvedRoomNeeded.ended _

pub proved_judge_in_one : OneResult ProvedJudgeIn.ended ProvedJudgeInReads.Learnt
proved_judge_in_one = equal ProvedJudgeIn.ended _

-- handset::proved_sms_seen
pub proved_sms_seen_one : OneResult ProvedSmsSeen.ended ProvedSmsSeenReads.Learnt
proved_sms_seen_one = equal ProvedSmsSeen.ended _

-- handset::proved_volume_seen
pub proved_volume_seen_one : OneResult ProvedVolumeSeen.ended ProvedVolumeSeenReads.Learnt
proved_volume_seen_one = equal ProvedVolumeSeen.ended _

-- handset::proved_row_seen
pub proved_row_seen_one : OneResult ProvedRowSeen.ended ProvedRowSeenReads.Learnt
proved_row_seen_one = equal ProvedRowSeen.ended _

-- handset::proved_column_seen
pub proved_column_seen_one : OneResult ProvedColumnSeen.ended ProvedColumnSeenReads.Learnt
proved_column_seen_one = equal ProvedColumnSeen.ended _

-- handset::proved_write_command
pub proved_write_command_one : OneEnd ProvedWriteCommand.ended (List ℕ) ProvedWriteCommandReads.Learnt (λ κs e. e.1.1.1.0.now)
proved_write_command_one = equal_and_left ProvedWriteCommand.ended _ _ _ _

pub proved_write_sister_command_one : OneEnd ProvedWriteSisterCommand.ended (List ℕ) ProvedWriteSisterCommandReads.Learnt (λ κs e. e.1.1.1.0.now)
proved_write_sister_command_one = equal_and_left ProvedWriteSisterCommand.ended _ _ _ _

-- handset::proved_write_label
pub proved_write_label_one : OneEnd ProvedWriteLabel.ended (List ℕ) ProvedWriteLabelReads.Learnt (λ κs e. e.1.1.0.now)
proved_write_label_one = equal_and_left ProvedWriteLabel.ended _ _ _ _

-- handset::proved_write_picture_row
pub proved_write_picture_row_one : OneEnd ProvedWritePictureRow.ended (List ℕ) ProvedWritePictureRowReads.Learnt (λ κs e. e.1.1.0.now)
proved_write_picture_row_one = equal_and_left ProvedWritePictureRow.ended _ _ _ _

-- handset::proved_judge
pub proved_judge_one : OneResult ProvedJudge.ended ProvedJudgeReads.Learnt
proved_judge_one = equal ProvedJudge.ended _

-- handset::proved_check_choice
pub proved_check_choice_one : OneResult ProvedCheckChoice.ended ProvedCheckChoiceReads.Learnt
proved_check_choice_one = equal ProvedCheckChoice.ended _

-- handset::proved_part_at
pub proved_part_at_one : OneResult ProvedPartAt.ended ProvedPartAtReads.Learnt
proved_part_at_one = equal ProvedPartAt.ended _
