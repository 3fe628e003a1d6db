-- EACH PUBLIC FUNCTION'S OWN CLAUSE, as its proof was checked against it, is the equation that this page speaks of: by refl, in every
-- model of the logic. `a` is the arguments in their order, `q` the result, `e` the arguments at exit; what is lent is read by `now`.
-- Assumes nothing.
use Rattle.std.specs.Prelude.{◌≡◌, refl, length, true, List, ℕ, leb}
use Rattle.std.specs.Bool.{then_some}
use base.Logic.{sep}
use contract.Lifetimes.{Lfts}
use contract.Monad.{fact}
use contract.Notation.{connectives}
use Rattle.std.specs.Borrow.{Bor, MutBor}
use denote.Triple.Clauses.{Ended, AtExit}
use borrow.Fn.World.{World, Pr, ArgsD, ResD}
use Rattle.record.specs.Number.{paper_number, refused_number}
use Rattle.record.specs.Range.{rows_of, row_end_of, row_start_of, backlight_in_range, in_range}
use Rattle.record.specs.declared.Edition.{Edition}
use Rattle.record.specs.declared.Small.{Small}
use Rattle.record.specs.PowerOn.{times_at_power_on, former_times, starting_with, power_on, former_power_on, stored_at_delivery, sister_with, sister_power_on}
use Rattle.record.specs.declared.InParts.{InParts}
use Rattle.record.specs.Parts.{together, whole, small_of}
use Rattle.numeral.specs.Numeral as Numerals
use Rattle.picture.specs.Reading.{columns_read}
use Rattle.picture.specs.Writing.{data_written}
use Rattle.line.specs.Lines.{empty_line, added, finds_room, room_with}
use Rattle.command.specs.InRange.{rows_named, first_out, numbers_of, command_in_range, most_rows}
use Rattle.frame_table.specs.Run.{found_in, accepted_in}
use Rattle.command.specs.Reading.{read_with, read_of, order_found, opens_picture, picture_of}
use Rattle.verdict.specs.Verdict.{verdict_of, verdict_in}
use Rattle.effect_modes.specs.Modes.{to_mode, at_level}
use Rattle.effect.specs.Obey.{Obeys, core}
use Rattle.record.specs.declared.Record.{Record}
use Rattle.answer.specs.Answers.{answer_bytes, is_silence, count_after, buffer_after as saidAfter, heads}
use Rattle.sister_answer.specs.Told.{told_bytes, is_silence as untold}
use Rattle.hook.specs.Hook.{hooked}
use Rattle.hook.specs.Hook as Hooks
use Rattle.stream_places.specs.Places.{emptied}
use Rattle.parts.specs.Parts.{part_at}
use Rattle.stream.specs.declared.Fed.{Fed}
use Rattle.stream.specs.Stream.{lent_of, fed_of, answers_after}
use Rattle.parting.specs.Count.{escapes}
use Rattle.answer_room.specs.Needed.{room_needed}
use Rattle.lists.specs.Every.{every}
use Rattle.key_entry.specs.Rules.{listed_up_to, lit, over, keyed}
use Rattle.sister_entry.specs.Rules as Sister
use Rattle.key_log.specs.declared.Logged.{Logged}
use Rattle.key_log.specs.Log.{Outcome, outcome, handed_back, lent_of as loggedLent, buffer_after}
use Rattle.seconds.specs.Seconds.{passed, light_passed}
use Rattle.seconds.specs.Seconds as Seconds
use Rattle.seen_panels.specs.Panels.{sms_panel, volume_panel}
use Rattle.seen_owners.specs.Table.{owner_of_row, owner_on}
use Rattle.seen.specs.Rows.{row_seen, sms_seen, volume_seen}
use Rattle.seen.specs.Columns.{column_seen}
use Rattle.writer_ranges.specs.Fitting.{is_label, is_row}
use Rattle.choice.specs.Choice.{choice_of}
use Rattle.choice.specs.Rules.{rule_number}
use Rattle.command.specs.Order.{plain, label, draw}
use Rattle.command.specs.Spell.{spell, spelling}
use Rattle.writer.specs.Writing.{frame_of, shared_in_range, written_of, room_after}
use Rattle.handset_numbers.specs.Numbers.{phase_of, side_of, command_of, sister_command_of, sms_number, volume_numbers, owner_numbers, shown_numbers, verdict_numbers, kind_number}
use Rattle.handset.specs.Calls.{fed_in, logged_in, passed_in, hooked_in, counted_in, sms_in, volume_in, row_in, column_in, command_written, command_room, sister_written, sister_room, written_in, judged_of, judged_in, choice_in, part_in, light_in}
use Rattle.record_small_ranges.specs.Small.{small_kept}
use Rattle.command.specs.Pick.{byte_at, with_number}
use Rattle.command.specs.First.{opens_label}
use Rattle.sister_command.specs.Order.{first, own}
use Rattle.sister_command.specs.Grammar.{sister_form, is_shared}
use Rattle.sister_command.specs.InRange.{own_numbers, own_in_range}
use Rattle.sister_command.specs.Reading.{sister_read, shared_read, read_in, own_found, is_own}
use Rattle.sister_effect.specs.Effect.{refused_now}
use Rattle.sister_effect.specs.Obey.{SisterObeys}
use Rattle.sister_command.specs.contracts.is_own as IsOwn
use Rattle.sister_command.proofs.is_own.Reads as IsOwnReads
use Rattle.sister_command.specs.contracts.read_shared as ReadShared
use Rattle.sister_command.proofs.read_shared.Reads as ReadSharedReads
use Rattle.answer.specs.contracts.put as Put
use Rattle.answer.proofs.put.Reads as PutReads
use Rattle.sister_effect.specs.contracts.refused as RefusedBy
use Rattle.sister_effect.proofs.refused.Reads as RefusedByReads
use Rattle.sister_effect.specs.contracts.obey_own_frame as ObeyOwnFrame
use Rattle.sister_effect.proofs.obey_own_frame.Reads as ObeyOwnFrameReads
use Rattle.handset.specs.contracts.proved_sister_power_on as ProvedSisterPowerOn
use Rattle.handset.proofs.proved_sister_power_on.Reads as ProvedSisterPowerOnReads
use Rattle.sister_answer.specs.contracts.is_silence as Untold
use Rattle.sister_answer.proofs.is_silence.Reads as UntoldReads
use Rattle.sister_command.specs.contracts.read_sister as ReadSister
use Rattle.sister_command.proofs.read_sister.Reads as ReadSisterReads
use Rattle.command.specs.contracts.opens_label as OpensLabel
use Rattle.command.proofs.opens_label.Reads as OpensLabelReads
use Rattle.command.specs.contracts.with_number as WithNumber
use Rattle.command.proofs.with_number.Reads as WithNumberReads
use Rattle.command.specs.contracts.byte_at as ByteAt
use Rattle.command.proofs.byte_at.Reads as ByteAtReads
use Rattle.record_small_ranges.specs.contracts.sister_small_in_range as SisterSmallInRange
use Rattle.record_small_ranges.proofs.sister_small_in_range.Reads as SisterSmallInRangeReads
use Rattle.record.specs.contracts.small_of as SmallOf
use Rattle.record.proofs.small_of.Reads as SmallOfReads
use Rattle.record.specs.contracts.Record.in_parts as TakenApart
use Rattle.record.proofs.Record.in_parts.Reads as TakenApartReads
use Rattle.record.specs.contracts.NumberFromRefusal.from as NumberFrom
use Rattle.record.proofs.NumberFromRefusal.from.Reads as NumberFromReads
use Rattle.record.specs.contracts.paper_number as PaperNumber
use Rattle.record.proofs.paper_number.Reads as PaperNumberReads
use Rattle.record.specs.contracts.rows as Rows
use Rattle.record.proofs.rows.Reads as RowsReads
use Rattle.record.specs.contracts.row_end as RowEnd
use Rattle.record.proofs.row_end.Reads as RowEndReads
use Rattle.record.specs.contracts.row_start as RowStart
use Rattle.record.proofs.row_start.Reads as RowStartReads
use Rattle.record.specs.contracts.Times.power_on as TimesPowerOn
use Rattle.record.proofs.Times.power_on.Reads as TimesPowerOnReads
use Rattle.record.specs.contracts.Record.starting_with as StartingWith
use Rattle.record.proofs.Record.starting_with.Reads as StartingWithReads
use Rattle.record.specs.contracts.Record.power_on as PowerOn
use Rattle.record.proofs.Record.power_on.Reads as PowerOnReads
use Rattle.record.specs.contracts.Times.former_defaults as TimesFormer
use Rattle.record.proofs.Times.former_defaults.Reads as TimesFormerReads
use Rattle.record.specs.contracts.Record.former_defaults as Former
use Rattle.record.proofs.Record.former_defaults.Reads as FormerReads
use Rattle.record.specs.contracts.Stored.delivered as Delivered
use Rattle.record.proofs.Stored.delivered.Reads as DeliveredReads
use Rattle.record.specs.contracts.Record.sister_with as SisterWith
use Rattle.record.proofs.Record.sister_with.Reads as SisterWithReads
use Rattle.record.specs.contracts.Record.sister_power_on as SisterPowerOn
use Rattle.record.proofs.Record.sister_power_on.Reads as SisterPowerOnReads
use Rattle.record_small_ranges.specs.Small.{small_in_range}
use Rattle.record_small_ranges.specs.contracts.backlight_in_range as BacklightInRange
use Rattle.record_small_ranges.proofs.backlight_in_range.Reads as BacklightInRangeReads
use Rattle.record_small_ranges.specs.contracts.small_in_range as SmallInRange
use Rattle.record_small_ranges.proofs.small_in_range.Reads as SmallInRangeReads
use Rattle.record_ranges.specs.contracts.in_range as RecordInRange
use Rattle.record_ranges.proofs.in_range.Reads as RecordInRangeReads
use Rattle.record_ranges.specs.contracts.in_range_lent as InRangeLent
use Rattle.record_ranges.proofs.in_range_lent.Reads as InRangeLentReads
use Rattle.numeral.specs.contracts.read_number as ReadNumber
use Rattle.numeral.proofs.read_number.Reads as ReadNumberReads
use Rattle.numeral.specs.contracts.digits_of as DigitsOf
use Rattle.numeral.proofs.digits_of.Reads as DigitsOfReads
use Rattle.picture.specs.contracts.read_data as ReadData
use Rattle.picture.proofs.read_data.Reads as ReadDataReads
use Rattle.picture_writer.specs.contracts.write_data as WriteData
use Rattle.picture_writer.proofs.write_data.Reads as WriteDataReads
use Rattle.line.specs.contracts.empty as EmptyLine
use Rattle.line.proofs.empty.Reads as EmptyLineReads
use Rattle.line.specs.contracts.add as AddCodes
use Rattle.line.proofs.add.Reads as AddCodesReads
use Rattle.line.specs.contracts.add_number as AddNumber
use Rattle.line.proofs.add_number.Reads as AddNumberReads
use Rattle.line.specs.contracts.copy as CopyLine
use Rattle.line.proofs.copy.Reads as CopyLineReads
use Rattle.command_form.specs.contracts.rows_named as RowsNamed
use Rattle.command_form.proofs.rows_named.Reads as RowsNamedReads
use Rattle.command_form.specs.contracts.number_out as NumberOut
use Rattle.command_form.proofs.number_out.Reads as NumberOutReads
use Rattle.command_form.specs.contracts.in_range as CommandInRange
use Rattle.command_form.proofs.in_range.Reads as CommandInRangeReads
use Rattle.command_form.specs.contracts.body as CommandBody
use Rattle.command_form.proofs.body.Reads as CommandBodyReads
use Rattle.sister_form.specs.contracts.own_out as OwnOut
use Rattle.sister_form.proofs.own_out.Reads as OwnOutReads
use Rattle.sister_form.specs.contracts.own_in_range as OwnInRange
use Rattle.sister_form.proofs.own_in_range.Reads as OwnInRangeReads
use Rattle.sister_form.specs.contracts.own_body as OwnBody
use Rattle.sister_form.proofs.own_body.Reads as OwnBodyReads
use Rattle.sister_form.specs.contracts.is_shared as IsShared
use Rattle.sister_form.proofs.is_shared.Reads as IsSharedReads
use Rattle.sister_form.specs.contracts.shared_body as SharedBody
use Rattle.sister_form.proofs.shared_body.Reads as SharedBodyReads
use Rattle.frame_table.specs.contracts.run as RunTable
use Rattle.frame_table.proofs.run.Reads as RunTableReads
use Rattle.frame_table.specs.contracts.accepted as Accepted
use Rattle.frame_table.proofs.accepted.Reads as AcceptedReads
use Rattle.command.specs.contracts.read_lent as ReadLent
use Rattle.command.proofs.read_lent.Reads as ReadLentReads
use Rattle.command.specs.contracts.read_command as ReadCommand
use Rattle.command.proofs.read_command.Reads as ReadCommandReads
use Rattle.picture_frame.specs.contracts.opens_picture as OpensPicture
use Rattle.picture_frame.proofs.opens_picture.Reads as OpensPictureReads
use Rattle.picture_frame.specs.contracts.read_picture as ReadPicture
use Rattle.picture_frame.proofs.read_picture.Reads as ReadPictureReads
use Rattle.verdict.specs.contracts.judge as Judge
use Rattle.verdict.proofs.judge.Reads as JudgeReads
use Rattle.verdict.specs.contracts.judge_in as JudgeIn
use Rattle.verdict.proofs.judge_in.Reads as JudgeInReads
use Rattle.effect_modes.specs.contracts.to_mode as ToMode
use Rattle.effect_modes.proofs.to_mode.Reads as ToModeReads
use Rattle.effect_modes.specs.contracts.at_level as AtLevel
use Rattle.effect_modes.proofs.at_level.Reads as AtLevelReads
use Rattle.effect.specs.contracts.obey as Obey
use Rattle.effect.proofs.obey.Reads as ObeyReads
use Rattle.answer.specs.contracts.is_silence as IsSilence
use Rattle.answer.proofs.is_silence.Reads as IsSilenceReads
use Rattle.answer.specs.contracts.say as Say
use Rattle.answer.proofs.say.Reads as SayReads
use Rattle.answer.specs.contracts.count as Count
use Rattle.answer.proofs.count.Reads as CountReads
use Rattle.sister_answer.specs.contracts.tell as Tell
use Rattle.sister_answer.proofs.tell.Reads as TellReads
use Rattle.hook.specs.contracts.hook_lent as HookLent
use Rattle.hook.proofs.hook_lent.Reads as HookLentReads
use Rattle.hook.specs.contracts.hook as HookCall
use Rattle.hook.proofs.hook.Reads as HookCallReads
use Rattle.stream_places.specs.contracts.empty_from as EmptyFrom
use Rattle.stream_places.proofs.empty_from.Reads as EmptyFromReads
use Rattle.parts.specs.contracts.part_at as PartAtPlace
use Rattle.parts.proofs.part_at.Reads as PartAtPlaceReads
use Rattle.stream.specs.contracts.feed_lent as FeedLent
use Rattle.stream.proofs.feed_lent.Reads as FeedLentReads
use Rattle.stream_by_value.specs.contracts.whole as Whole
use Rattle.stream_by_value.proofs.whole.Reads as WholeReads
use Rattle.stream_by_value.specs.contracts.feed as Feed
use Rattle.stream_by_value.proofs.feed.Reads as FeedReads
use Rattle.answer_room.specs.contracts.escapes_in as EscapesIn
use Rattle.answer_room.proofs.escapes_in.Reads as EscapesInReads
use Rattle.answer_room.specs.contracts.room_needed_lent as RoomNeededLent
use Rattle.answer_room.proofs.room_needed_lent.Reads as RoomNeededLentReads
use Rattle.answer_room.specs.contracts.room_needed as RoomNeededFor
use Rattle.answer_room.proofs.room_needed.Reads as RoomNeededForReads
use Rattle.choice.specs.contracts.check as CheckChoice
use Rattle.choice.proofs.check.Reads as CheckChoiceReads
use Rattle.key_entry.specs.contracts.all_listed as AllListed
use Rattle.key_entry.proofs.all_listed.Reads as AllListedReads
use Rattle.key_entry.specs.contracts.light_up as LightUp
use Rattle.key_entry.proofs.light_up.Reads as LightUpReads
use Rattle.key_entry.specs.contracts.over as OverTime
use Rattle.key_entry.proofs.over.Reads as OverTimeReads
use Rattle.key_entry.specs.contracts.take_entry as TakeEntry
use Rattle.key_entry.proofs.take_entry.Reads as TakeEntryReads
use Rattle.sister_entry.specs.contracts.take_entry as SisterEntry
use Rattle.sister_entry.proofs.take_entry.Reads as SisterEntryReads
use Rattle.key_log.specs.contracts.take_log_lent as TakeLogLent
use Rattle.key_log.proofs.take_log_lent.Reads as TakeLogLentReads
use Rattle.key_log.specs.contracts.take_log as TakeLog
use Rattle.key_log.proofs.take_log.Reads as TakeLogReads
use Rattle.seconds.specs.contracts.second_lent as SecondLent
use Rattle.seconds.proofs.second_lent.Reads as SecondLentReads
use Rattle.seconds.specs.contracts.second as Second
use Rattle.seconds.proofs.second.Reads as SecondReads
use Rattle.seconds.specs.contracts.second_in_place as SecondInPlace
use Rattle.seen_panels.specs.contracts.sms_panel as SmsPanelOf
use Rattle.seen_panels.proofs.sms_panel.Reads as SmsPanelOfReads
use Rattle.seen_panels.specs.contracts.volume_panel as VolumePanelOf
use Rattle.seen_panels.proofs.volume_panel.Reads as VolumePanelOfReads
use Rattle.seen_owners.specs.contracts.owner_of_row as OwnerOfRow
use Rattle.seen_owners.proofs.owner_of_row.Reads as OwnerOfRowReads
use Rattle.seen_owners.specs.contracts.owner_of as OwnerOf
use Rattle.seen_owners.proofs.owner_of.Reads as OwnerOfReads
use Rattle.seen.specs.contracts.row_seen as RowSeen
use Rattle.seen.proofs.row_seen.Reads as RowSeenReads
use Rattle.seen.specs.contracts.row_seen_lent as RowSeenLent
use Rattle.seen.proofs.row_seen_lent.Reads as RowSeenLentReads
use Rattle.seen.specs.contracts.column_seen as ColumnSeen
use Rattle.seen.proofs.column_seen.Reads as ColumnSeenReads
use Rattle.seen.specs.contracts.column_seen_lent as ColumnSeenLent
use Rattle.seen.proofs.column_seen_lent.Reads as ColumnSeenLentReads
use Rattle.seen.specs.contracts.sms_seen as SmsSeen
use Rattle.seen.proofs.sms_seen.Reads as SmsSeenReads
use Rattle.seen.specs.contracts.sms_seen_lent as SmsSeenLent
use Rattle.seen.proofs.sms_seen_lent.Reads as SmsSeenLentReads
use Rattle.seen.specs.contracts.volume_seen as VolumeSeen
use Rattle.seen.proofs.volume_seen.Reads as VolumeSeenReads
use Rattle.seen.specs.contracts.volume_seen_lent as VolumeSeenLent
use Rattle.seen.proofs.volume_seen_lent.Reads as VolumeSeenLentReads
use Rattle.writer_ranges.specs.contracts.label_in_range as LabelInRange
use Rattle.writer_ranges.proofs.label_in_range.Reads as LabelInRangeReads
use Rattle.writer_ranges.specs.contracts.row_in_range as RowInRange
use Rattle.writer_ranges.proofs.row_in_range.Reads as RowInRangeReads
use Rattle.writer.specs.contracts.write_own as WriteOwn
use Rattle.writer.proofs.write_own.Reads as WriteOwnReads
use Rattle.writer.specs.contracts.write_shared as WriteShared
use Rattle.writer.proofs.write_shared.Reads as WriteSharedReads
use Rattle.writer.specs.contracts.write_command as WriteCommand
use Rattle.writer.proofs.write_command.Reads as WriteCommandReads
use Rattle.writer.specs.contracts.write_label as WriteLabel
use Rattle.writer.proofs.write_label.Reads as WriteLabelReads
use Rattle.writer.specs.contracts.write_picture_row as WritePictureRow
use Rattle.writer.proofs.write_picture_row.Reads as WritePictureRowReads
use Rattle.handset_numbers.specs.contracts.phase_of as PhaseOf
use Rattle.handset_numbers.proofs.phase_of.Reads as PhaseOfReads
use Rattle.handset_numbers.specs.contracts.side_of as SideOf
use Rattle.handset_numbers.proofs.side_of.Reads as SideOfReads
use Rattle.handset_numbers.specs.contracts.command_of as CommandOf
use Rattle.handset_numbers.proofs.command_of.Reads as CommandOfReads
use Rattle.handset_numbers.specs.contracts.sister_command_of as SisterCommandOf
use Rattle.handset_numbers.proofs.sister_command_of.Reads as SisterCommandOfReads
use Rattle.handset_numbers.specs.contracts.sms_number as SmsNumber
use Rattle.handset_numbers.proofs.sms_number.Reads as SmsNumberReads
use Rattle.handset_numbers.specs.contracts.volume_numbers as VolumeNumbers
use Rattle.handset_numbers.proofs.volume_numbers.Reads as VolumeNumbersReads
use Rattle.handset_numbers.specs.contracts.owner_numbers as OwnerNumbers
use Rattle.handset_numbers.proofs.owner_numbers.Reads as OwnerNumbersReads
use Rattle.handset_numbers.specs.contracts.shown_numbers as ShownNumbers
use Rattle.handset_numbers.proofs.shown_numbers.Reads as ShownNumbersReads
use Rattle.handset_numbers.specs.contracts.verdict_numbers as VerdictNumbers
use Rattle.handset_numbers.proofs.verdict_numbers.Reads as VerdictNumbersReads
use Rattle.handset_numbers.specs.contracts.rule_number as RuleNumber
use Rattle.handset_numbers.proofs.rule_number.Reads as RuleNumberReads
use Rattle.handset_numbers.specs.contracts.kind_number as KindNumber
use Rattle.handset_numbers.proofs.kind_number.Reads as KindNumberReads
use Rattle.handset.specs.contracts.proved_power_on as ProvedPowerOn
use Rattle.handset.proofs.proved_power_on.Reads as ProvedPowerOnReads
use Rattle.handset.specs.contracts.proved_power_on_former as ProvedPowerOnFormer
use Rattle.handset.proofs.proved_power_on_former.Reads as ProvedPowerOnFormerReads
use Rattle.handset.specs.contracts.proved_in_range as ProvedInRange
use Rattle.handset.proofs.proved_in_range.Reads as ProvedInRangeReads
use Rattle.handset.specs.contracts.proved_feed as ProvedFeed
use Rattle.handset.proofs.proved_feed.Reads as ProvedFeedReads
use Rattle.handset.specs.contracts.proved_take_log as ProvedTakeLog
use Rattle.handset.proofs.proved_take_log.Reads as ProvedTakeLogReads
use Rattle.handset.specs.contracts.proved_second as ProvedSecond
use Rattle.handset.proofs.proved_second.Reads as ProvedSecondReads
use Rattle.handset.specs.contracts.proved_light_second as ProvedLightSecond
use Rattle.handset.proofs.proved_light_second.Reads as ProvedLightSecondReads
use Rattle.handset.specs.contracts.proved_hook as ProvedHook
use Rattle.handset.proofs.proved_hook.Reads as ProvedHookReads
use Rattle.handset.specs.contracts.proved_room_needed as ProvedRoomNeeded
use Rattle.handset.proofs.proved_room_needed.Reads as ProvedRoomNeededReads
use Rattle.handset.specs.contracts.proved_judge_in as ProvedJudgeIn
use Rattle.handset.proofs.proved_judge_in.Reads as ProvedJudgeInReads
use Rattle.handset.specs.contracts.proved_sms_seen as ProvedSmsSeen
use Rattle.handset.proofs.proved_sms_seen.Reads as ProvedSmsSeenReads
use Rattle.handset.specs.contracts.proved_volume_seen as ProvedVolumeSeen
use Rattle.handset.proofs.proved_volume_seen.Reads as ProvedVolumeSeenReads
use Rattle.handset.specs.contracts.proved_row_seen as ProvedRowSeen
use Rattle.handset.proofs.proved_row_seen.Reads as ProvedRowSeenReads
use Rattle.handset.specs.contracts.proved_column_seen as ProvedColumnSeen
use Rattle.handset.proofs.proved_column_seen.Reads as ProvedColumnSeenReads
use Rattle.handset.specs.contracts.proved_write_command as ProvedWriteCommand
use Rattle.handset.proofs.proved_write_command.Reads as ProvedWriteCommandReads
use Rattle.handset.specs.contracts.proved_write_sister_command as ProvedWriteSisterCommand
use Rattle.handset.proofs.proved_write_sister_command.Reads as ProvedWriteSisterCommandReads
use Rattle.handset.specs.contracts.proved_write_label as ProvedWriteLabel
use Rattle.handset.proofs.proved_write_label.Reads as ProvedWriteLabelReads
use Rattle.handset.specs.contracts.proved_write_picture_row as ProvedWritePictureRow
use Rattle.handset.proofs.proved_write_picture_row.Reads as ProvedWritePictureRowReads
use Rattle.handset.specs.contracts.proved_judge as ProvedJudge
use Rattle.handset.proofs.proved_judge.Reads as ProvedJudgeReads
use Rattle.handset.specs.contracts.proved_check_choice as ProvedCheckChoice
use Rattle.handset.proofs.proved_check_choice.Reads as ProvedCheckChoiceReads
use Rattle.handset.specs.contracts.proved_part_at as ProvedPartAt
use Rattle.handset.proofs.proved_part_at.Reads as ProvedPartAtReads

-- a contract's requires clause, of the arguments, in a model
abbrev Asking : Ended → Type 2
Asking t = (κs : Lfts t.signature.lifetimes) → ArgsD t.signature κs → Unit {0} → (w : World) → Pr w

-- it asks nothing of them
abbrev Nothing : (w : World) → Pr w
Nothing w = (connectives w.𝓤).⊤ₛ

-- a contract's ensures clause, of the arguments, the result and the arguments at exit, in a model
abbrev Clause : Ended → Type 2
Clause t = (κs : Lfts t.signature.lifetimes) → ArgsD t.signature κs → Unit {0} → ResD t.signature κs → AtExit t κs → (w : World) → Pr w

-- what a clause claims of them
abbrev Claim : Ended → Type 1
Claim t = (κs : Lfts t.signature.lifetimes) → ArgsD t.signature κs → ResD t.signature κs → AtExit t κs → Type 0

-- nothing is asked and the clause is this claim; two clauses are these two
abbrev Says : (t : Ended) → Asking t → Clause t → Claim t → Type 2
Says t requires ensures claim =
    (κs : Lfts t.signature.lifetimes) (a : ArgsD t.signature κs) (q : ResD t.signature κs) (e : AtExit t κs) (w : World)
    → (requires κs a tt w ≡ Nothing w)
    × (ensures κs a tt q e w ≡ fact w.𝓤 (claim κs a q e))

abbrev SaysBoth : (t : Ended) → Asking t → Clause t → Claim t → Claim t → Type 2
SaysBoth t requires ensures one second =
    (κs : Lfts t.signature.lifetimes) (a : ArgsD t.signature κs) (q : ResD t.signature κs) (e : AtExit t κs) (w : World)
    → (requires κs a tt w ≡ Nothing w)
    × (ensures κs a tt q e w ≡ sep w.𝓤 (fact w.𝓤 (one κs a q e)) (fact w.𝓤 (second κs a q e)))

abbrev SaysFour : (t : Ended) → Asking t → Clause t → Claim t → Claim t → Claim t → Claim t → Type 2
SaysFour t requires ensures one second third fourth =
    (κs : Lfts t.signature.lifetimes) (a : ArgsD t.signature κs) (q : ResD t.signature κs) (e : AtExit t κs) (w : World)
    → (requires κs a tt w ≡ Nothing w)
    × (ensures κs a tt q e w
    ≡ sep w.𝓤 (fact w.𝓤 (one κs a q e))
    (sep w.𝓤 (fact w.𝓤 (second κs a q e)) (sep w.𝓤 (fact w.𝓤 (third κs a q e)) (fact w.𝓤 (fourth κs a q e)))))

abbrev SaysFive : (t : Ended) → Asking t → Clause t → Claim t → Claim t → Claim t → Claim t → Claim t → Type 2
SaysFive t requires ensures one second third fourth fifth =
    (κs : Lfts t.signature.lifetimes) (a : ArgsD t.signature κs) (q : ResD t.signature κs) (e : AtExit t κs) (w : World)
    → (requires κs a tt w ≡ Nothing w)
    × (ensures κs a tt q e w
    ≡ sep w.𝓤 (fact w.𝓤 (one κs a q e))
    (sep w.𝓤 (fact w.𝓤 (second κs a q e)) (sep w.𝓤 (fact w.𝓤 (third κs a q e)) (sep w.𝓤 (fact w.𝓤 (fourth κs a q e)) (fact w.𝓤 (fifth κs a q e))))))

-- what a call on lent arrays begins with: the small fields, then text, picture and the frame's bytes; and the record that they make
abbrev Lent : Type 0 → Type 0
Lent Rest = Small × (Bor (List ℕ) × (Bor (List ℕ) × (Bor (List ℕ) × Rest)))

abbrev lent : {Rest : Type 0} → Lent Rest → Record
lent a = together a.0 a.1.0.now a.1.1.0.now a.1.1.1.0.now

-- a call that is lent the record in parts as one value begins so too, once they are taken out of it
abbrev apart : {Rest : Type 0} → InParts × Rest → Lent Rest
apart a = (a.0.small, (a.0.text, (a.0.picture, (a.0.frame, a.1))))

-- the same where all three are lent to be written
abbrev LentToWrite : Type 0 → Type 0
LentToWrite Rest = Small × (MutBor (List ℕ) × (MutBor (List ℕ) × (MutBor (List ℕ) × Rest)))

abbrev lent_to_write : {Rest : Type 0} → LentToWrite Rest → Record
lent_to_write a = together a.0 a.1.0.now a.1.1.0.now a.1.1.1.0.now

-- a contract's arguments and its arguments at exit, looked at as these, and its result, made of this
abbrev Entry : Ended → Type 0 → Type 0
Entry t X = (κs : Lfts t.signature.lifetimes) → ArgsD t.signature κs → X

abbrev Exit : Ended → Type 0 → Type 0
Exit t X = (κs : Lfts t.signature.lifetimes) → AtExit t κs → X

abbrev Back : Ended → Type 0 → Type 0
Back t X = (κs : Lfts t.signature.lifetimes) → X → ResD t.signature κs

-- a call that also lends bytes and the answers' room: it hands back what the stream call makes of that record, and leaves the arrays so
abbrev Feeding : Type 0
Feeding = LentToWrite (Bor (List ℕ) × (MutBor (List ℕ) × Unit {0}))

abbrev called : Feeding → Fed
called a = fed_of (lent_to_write a) a.1.1.1.1.0.now (length a.1.1.1.1.1.0.now)

abbrev SaysFed : (t : Ended) → Asking t → Clause t → Entry t Feeding → Exit t Feeding → Back t Fed → Type 2
SaysFed t requires ensures entry exit back =
    SaysFive t requires ensures
    (λ κs a q e. q ≡ back κs (called (entry κs a)))
    (λ κs a q e. (exit κs e).1.0.now ≡ (called (entry κs a)).record.text)
    (λ κs a q e. (exit κs e).1.1.0.now ≡ (called (entry κs a)).record.picture)
    (λ κs a q e. (exit κs e).1.1.1.0.now ≡ (called (entry κs a)).record.frame.bytes)
    (λ κs a q e. (exit κs e).1.1.1.1.1.0.now ≡ answers_after (lent_to_write (entry κs a)) (entry κs a).1.1.1.1.0.now (entry κs a).1.1.1.1.1.0.now)

-- the same of the key log: ticks, edges and the codes' room, which alone is written to
abbrev Logging : Type 0
Logging = Lent (Bor (List ℕ) × (Bor (List ℕ) × (MutBor (List ℕ) × Unit {0})))

abbrev logged : Logging → Outcome
logged a = outcome (lent a) a.1.1.1.1.0.now a.1.1.1.1.1.0.now (length a.1.1.1.1.1.1.0.now)

abbrev SaysLogged : (t : Ended) → Asking t → Clause t → Entry t Logging → Exit t Logging → Back t (Logged Record) → Type 2
SaysLogged t requires ensures entry exit back =
    SaysBoth t requires ensures
    (λ κs a q e. q ≡ back κs (handed_back (logged (entry κs a))))
    (λ κs a q e. (exit κs e).1.1.1.1.1.1.0.now ≡ buffer_after (logged (entry κs a)) (entry κs a).1.1.1.1.1.1.0.now)

-- and a call that takes a record apart hands back what is small of it and leaves the rest in the three arrays
abbrev SaysApart : (t : Ended) → Asking t → Clause t → Back t Small → Exit t (MutBor (List ℕ) × (MutBor (List ℕ) × (MutBor (List ℕ) × Unit {0}))) → Record → Type 2
SaysApart t requires ensures back exit r =
    SaysFour t requires ensures
    (λ κs a q e. q ≡ back κs (small_of r))
    (λ κs a q e. (exit κs e).0.now ≡ r.text)
    (λ κs a q e. (exit κs e).1.0.now ≡ r.picture)
    (λ κs a q e. (exit κs e).1.1.0.now ≡ r.frame.bytes)

-- record::small_of
pub small_of_says : Says SmallOf.ended SmallOfReads.requires SmallOfReads.ensures (λ κs a q e. q ≡ small_of a.0)
small_of_says κs a q e w = (refl, refl)

-- record::Record::in_parts
pub in_parts_says : Says TakenApart.ended TakenApartReads.requires TakenApartReads.ensures (λ κs a q e. whole q ≡ a.0.now)
in_parts_says κs a q e w = (refl, refl)

-- record::Number::from, of a refusal
pub number_from_says : Says NumberFrom.ended NumberFromReads.requires NumberFromReads.ensures (λ κs a q e. q ≡ refused_number a.0)
number_from_says κs a q e w = (refl, refl)

-- record::paper_number
pub paper_number_says : Says PaperNumber.ended PaperNumberReads.requires PaperNumberReads.ensures (λ κs a q e. q ≡ paper_number a.0)
paper_number_says κs a q e w = (refl, refl)

-- record::rows
pub rows_says : Says Rows.ended RowsReads.requires RowsReads.ensures (λ κs a q e. q ≡ rows_of a.0)
rows_says κs a q e w = (refl, refl)

-- record::row_end
pub row_end_says : Says RowEnd.ended RowEndReads.requires RowEndReads.ensures (λ κs a q e. q ≡ row_end_of a.0)
row_end_says κs a q e w = (refl, refl)

-- record::row_start
pub row_start_says : Says RowStart.ended RowStartReads.requires RowStartReads.ensures (λ κs a q e. q ≡ row_start_of a.0 a.1.0)
row_start_says κs a q e w = (refl, refl)

-- record::Times::power_on
pub times_power_on_says : Says TimesPowerOn.ended TimesPowerOnReads.requires TimesPowerOnReads.ensures (λ κs a q e. q ≡ times_at_power_on)
times_power_on_says κs a q e w = (refl, refl)

-- record::Record::starting_with
pub record_starting_with_says : Says StartingWith.ended StartingWithReads.requires StartingWithReads.ensures (λ κs a q e. q ≡ starting_with a.0)
record_starting_with_says κs a q e w = (refl, refl)

-- record::Record::power_on
pub record_power_on_says : Says PowerOn.ended PowerOnReads.requires PowerOnReads.ensures (λ κs a q e. q ≡ power_on)
record_power_on_says κs a q e w = (refl, refl)

-- record::Times::former_defaults
pub times_former_defaults_says : Says TimesFormer.ended TimesFormerReads.requires TimesFormerReads.ensures (λ κs a q e. q ≡ former_times)
times_former_defaults_says κs a q e w = (refl, refl)

-- record::Record::former_defaults
pub record_former_defaults_says : Says Former.ended FormerReads.requires FormerReads.ensures (λ κs a q e. q ≡ former_power_on)
record_former_defaults_says κs a q e w = (refl, refl)

-- record::Stored::delivered
pub stored_delivered_says : Says Delivered.ended DeliveredReads.requires DeliveredReads.ensures (λ κs a q e. q ≡ stored_at_delivery)
stored_delivered_says κs a q e w = (refl, refl)

-- record::Record::sister_with
pub record_sister_with_says : Says SisterWith.ended SisterWithReads.requires SisterWithReads.ensures (λ κs a q e. q ≡ sister_with a.0)
record_sister_with_says κs a q e w = (refl, refl)

-- record::Record::sister_power_on
pub record_sister_power_on_says : Says SisterPowerOn.ended SisterPowerOnReads.requires SisterPowerOnReads.ensures (λ κs a q e. q ≡ sister_power_on)
record_sister_power_on_says κs a q e w = (refl, refl)

-- record_small_ranges::backlight_in_range
pub backlight_in_range_says : Says BacklightInRange.ended BacklightInRangeReads.requires BacklightInRangeReads.ensures (λ κs a q e. q ≡ backlight_in_range a.0)
backlight_in_range_says κs a q e w = (refl, refl)

-- record_small_ranges::small_in_range
pub small_in_range_says : Says SmallInRange.ended SmallInRangeReads.requires SmallInRangeReads.ensures (λ κs a q e. q ≡ small_in_range a.0 a.1.0)
small_in_range_says κs a q e w = (refl, refl)

-- record_small_ranges::sister_small_in_range
pub sister_small_in_range_says : Says SisterSmallInRange.ended SisterSmallInRangeReads.requires SisterSmallInRangeReads.ensures (λ κs a q e. q ≡ small_kept true a.1.1.0 a.0 a.1.0)
sister_small_in_range_says κs a q e w = (refl, refl)

-- record_ranges::in_range
pub record_in_range_says : Says RecordInRange.ended RecordInRangeReads.requires RecordInRangeReads.ensures (λ κs a q e. q ≡ in_range a.0)
record_in_range_says κs a q e w = (refl, refl)

-- record_ranges::in_range_lent
pub in_range_lent_says : Says InRangeLent.ended InRangeLentReads.requires InRangeLentReads.ensures
    (λ κs a q e. q ≡ in_range (whole a.0))
in_range_lent_says κs a q e w = (refl, refl)

-- numeral::read_number
pub read_number_says : Says ReadNumber.ended ReadNumberReads.requires ReadNumberReads.ensures (λ κs a q e. q ≡ Numerals.number_of a.0.now)
read_number_says κs a q e w = (refl, refl)

-- numeral::digits_of
pub digits_of_says : Says DigitsOf.ended DigitsOfReads.requires DigitsOfReads.ensures (λ κs a q e. q ≡ Numerals.digits_of a.0)
digits_of_says κs a q e w = (refl, refl)

-- picture::read_data
pub read_data_says : Says ReadData.ended ReadDataReads.requires ReadDataReads.ensures (λ κs a q e. q ≡ columns_read a.0.now)
read_data_says κs a q e w = (refl, refl)

-- picture_writer::write_data
pub write_data_says : Says WriteData.ended WriteDataReads.requires WriteDataReads.ensures (λ κs a q e. q ≡ data_written a.0.now)
write_data_says κs a q e w = (refl, refl)

-- line::empty
pub empty_line_says : Says EmptyLine.ended EmptyLineReads.requires EmptyLineReads.ensures (λ κs a q e. q ≡ empty_line)
empty_line_says κs a q e w = (refl, refl)

-- line::add
pub add_codes_says : Says AddCodes.ended AddCodesReads.requires AddCodesReads.ensures (λ κs a q e. q ≡ added a.0 a.1.0.now)
add_codes_says κs a q e w = (refl, refl)

-- line::add_number
pub add_number_says : Says AddNumber.ended AddNumberReads.requires AddNumberReads.ensures (λ κs a q e. q ≡ added a.0 (Numerals.decimal a.1.0))
add_number_says κs a q e w = (refl, refl)

-- line::copy
pub copy_line_says : SaysBoth CopyLine.ended CopyLineReads.requires CopyLineReads.ensures
    (λ κs a q e. q ≡ finds_room a.0 a.1.0.now)
    (λ κs a q e. e.1.0.now ≡ room_with a.0 a.1.0.now)
copy_line_says κs a q e w = (refl, refl)

-- command_form::rows_named
pub rows_named_says : Says RowsNamed.ended RowsNamedReads.requires RowsNamedReads.ensures (λ κs a q e. q ≡ rows_named a.0)
rows_named_says κs a q e w = (refl, refl)

-- command_form::number_out
pub number_out_says : Says NumberOut.ended NumberOutReads.requires NumberOutReads.ensures (λ κs a q e. q ≡ first_out (numbers_of a.1.0 a.0))
number_out_says κs a q e w = (refl, refl)

-- command_form::in_range
pub command_in_range_says : Says CommandInRange.ended CommandInRangeReads.requires CommandInRangeReads.ensures (λ κs a q e. q ≡ command_in_range a.1.0 a.0)
command_in_range_says κs a q e w = (refl, refl)

-- command_form::body
pub command_body_says : Says CommandBody.ended CommandBodyReads.requires CommandBodyReads.ensures (λ κs a q e. q ≡ added empty_line (spelling (plain a.0)))
command_body_says κs a q e w = (refl, refl)

-- sister_form::own_out
pub own_out_says : Says OwnOut.ended OwnOutReads.requires OwnOutReads.ensures (λ κs a q e. q ≡ first_out (own_numbers 0 a.0))
own_out_says κs a q e w = (refl, refl)

-- sister_form::own_in_range
pub own_in_range_says : Says OwnInRange.ended OwnInRangeReads.requires OwnInRangeReads.ensures (λ κs a q e. q ≡ own_in_range a.0)
own_in_range_says κs a q e w = (refl, refl)

-- sister_form::own_body
pub own_body_says : Says OwnBody.ended OwnBodyReads.requires OwnBodyReads.ensures (λ κs a q e. q ≡ added empty_line (spell (sister_form (own a.0))))
own_body_says κs a q e w = (refl, refl)

-- sister_form::is_shared
pub is_shared_says : Says IsShared.ended IsSharedReads.requires IsSharedReads.ensures (λ κs a q e. q ≡ is_shared a.0)
is_shared_says κs a q e w = (refl, refl)

-- sister_form::shared_body
pub shared_body_says : Says SharedBody.ended SharedBodyReads.requires SharedBodyReads.ensures (λ κs a q e. q ≡ added empty_line (spell (sister_form (first (plain a.0)))))
shared_body_says κs a q e w = (refl, refl)

-- frame_table::run
pub run_table_says : Says RunTable.ended RunTableReads.requires RunTableReads.ensures (λ κs a q e. q ≡ found_in a.0.now a.1.0.now a.1.1.0 a.1.1.1.0.now)
run_table_says κs a q e w = (refl, refl)

-- frame_table::accepted
pub accepted_says : Says Accepted.ended AcceptedReads.requires AcceptedReads.ensures (λ κs a q e. q ≡ accepted_in a.0.now a.1.0.now a.1.1.0 a.1.1.1.0 a.1.1.1.1.0.now)
accepted_says κs a q e w = (refl, refl)

-- the two speak of one walk: a frame is accepted where the state that is found is one in which a frame may end, with the numbers that are found
pub accepted_found : (class next : List ℕ) (states good : ℕ) (f : List ℕ)
    → accepted_in class next states good f ≡ then_some (leb good (found_in class next states f).state) (found_in class next states f).numbers
unfolding accepted_in found_in
accepted_found class next states good f = refl

-- command::byte_at
pub byte_at_says : Says ByteAt.ended ByteAtReads.requires ByteAtReads.ensures (λ κs a q e. q ≡ byte_at a.0.now a.1.0)
byte_at_says κs a q e w = (refl, refl)

-- command::with_number
pub with_number_says : Says WithNumber.ended WithNumberReads.requires WithNumberReads.ensures (λ κs a q e. q ≡ with_number a.0 a.1.0)
with_number_says κs a q e w = (refl, refl)

-- command::opens_label
pub opens_label_says : Says OpensLabel.ended OpensLabelReads.requires OpensLabelReads.ensures (λ κs a q e. q ≡ opens_label a.0.now)
opens_label_says κs a q e w = (refl, refl)

-- command::read_lent
pub read_lent_says : Says ReadLent.ended ReadLentReads.requires ReadLentReads.ensures (λ κs a q e. q ≡ read_with a.0.now a.1.0.now a.1.1.0.now)
read_lent_says κs a q e w = (refl, refl)

-- command::read_command
pub read_command_says : Says ReadCommand.ended ReadCommandReads.requires ReadCommandReads.ensures (λ κs a q e. q ≡ read_of a.0.now)
read_command_says κs a q e w = (refl, refl)

-- sister_command::read_sister
pub read_sister_says : Says ReadSister.ended ReadSisterReads.requires ReadSisterReads.ensures (λ κs a q e. q ≡ sister_read a.0.now)
read_sister_says κs a q e w = (refl, refl)

-- sister_command::read_shared
pub read_shared_says : Says ReadShared.ended ReadSharedReads.requires ReadSharedReads.ensures (λ κs a q e. q ≡ shared_read a.0.now)
read_shared_says κs a q e w = (refl, refl)

-- sister_command::is_own
pub is_own_says : Says IsOwn.ended IsOwnReads.requires IsOwnReads.ensures (λ κs a q e. q ≡ is_own a.0.now)
is_own_says κs a q e w = (refl, refl)

-- picture_frame::opens_picture
pub opens_picture_says : Says OpensPicture.ended OpensPictureReads.requires OpensPictureReads.ensures (λ κs a q e. q ≡ opens_picture a.0.now)
opens_picture_says κs a q e w = (refl, refl)

-- picture_frame::read_picture
pub read_picture_says : Says ReadPicture.ended ReadPictureReads.requires ReadPictureReads.ensures (λ κs a q e. q ≡ picture_of a.0.now)
read_picture_says κs a q e w = (refl, refl)

-- verdict::judge
pub judge_says : Says Judge.ended JudgeReads.requires JudgeReads.ensures (λ κs a q e. q ≡ verdict_of a.0 a.1.0.now)
judge_says κs a q e w = (refl, refl)

-- verdict::judge_in
pub judge_in_says : Says JudgeIn.ended JudgeInReads.requires JudgeInReads.ensures
    (λ κs a q e. (text picture : List ℕ) → q ≡ verdict_in (core a.0 text picture a.1.0) a.1.1.0.now)
judge_in_says κs a q e w = (refl, refl)

-- effect_modes::to_mode
pub to_mode_says : Says ToMode.ended ToModeReads.requires ToModeReads.ensures (λ κs a q e. q ≡ to_mode a.0 a.1.0)
to_mode_says κs a q e w = (refl, refl)

-- effect_modes::at_level
pub at_level_says : Says AtLevel.ended AtLevelReads.requires AtLevelReads.ensures (λ κs a q e. q ≡ at_level a.0 a.1.0 a.1.1.0)
at_level_says κs a q e w = (refl, refl)

-- effect::obey
pub obey_says : Says Obey.ended ObeyReads.requires ObeyReads.ensures
    (λ κs a q e. (edition : Edition) → Obeys (order_found (read_in a.1.1.1.1.0 a.1.1.1.1.1.0.now a.1.1.1.1.1.1.0.now a.1.1.1.0.now) a.1.1.1.0.now) (core a.0 a.1.0.now a.1.1.0.now edition) q (core q.settings e.1.0.now e.1.1.0.now edition))
obey_says κs a q e w = (refl, refl)

-- sister_effect::refused
pub refused_says : Says RefusedBy.ended RefusedByReads.requires RefusedByReads.ensures
    (λ κs a q e. (text picture : List ℕ) → q ≡ refused_now a.0 (core a.1.0 text picture a.1.1.0))
refused_says κs a q e w = (refl, refl)

-- sister_effect::obey_own_frame
pub obey_own_frame_says : Says ObeyOwnFrame.ended ObeyOwnFrameReads.requires ObeyOwnFrameReads.ensures
    (λ κs a q e. SisterObeys (own_found a.1.1.1.1.0.now) (core a.0 a.1.1.0.now a.1.1.1.0.now a.1.0) q (core q.settings e.1.1.0.now e.1.1.1.0.now q.edition))
obey_own_frame_says κs a q e w = (refl, refl)

-- answer::is_silence
pub is_silence_says : Says IsSilence.ended IsSilenceReads.requires IsSilenceReads.ensures (λ κs a q e. q ≡ is_silence a.0)
is_silence_says κs a q e w = (refl, refl)

-- answer::put
pub put_says : SaysBoth Put.ended PutReads.requires PutReads.ensures
    (λ κs a q e. q ≡ count_after a.0.now a.1.0 a.1.1.0.now)
    (λ κs a q e. e.0.now ≡ saidAfter a.0.now a.1.0 a.1.1.0.now)
put_says κs a q e w = (refl, refl)

-- answer::say
pub say_says : SaysBoth Say.ended SayReads.requires SayReads.ensures
    (λ κs a q e. q ≡ count_after a.0.now a.1.0 (answer_bytes a.1.1.0 a.1.1.1.0 a.1.1.1.1.0))
    (λ κs a q e. e.0.now ≡ saidAfter a.0.now a.1.0 (answer_bytes a.1.1.0 a.1.1.1.0 a.1.1.1.1.0))
say_says κs a q e w = (refl, refl)

-- answer::count
pub count_says : Says Count.ended CountReads.requires CountReads.ensures (λ κs a q e. q ≡ heads a.0.now)
count_says κs a q e w = (refl, refl)

-- sister_answer::tell
pub tell_says : SaysBoth Tell.ended TellReads.requires TellReads.ensures
    (λ κs a q e. q ≡ count_after a.0.now a.1.0 (told_bytes a.1.1.0))
    (λ κs a q e. e.0.now ≡ saidAfter a.0.now a.1.0 (told_bytes a.1.1.0))
tell_says κs a q e w = (refl, refl)

-- sister_answer::is_silence
pub untold_says : Says Untold.ended UntoldReads.requires UntoldReads.ensures (λ κs a q e. q ≡ untold a.0)
untold_says κs a q e w = (refl, refl)

-- hook::hook_lent
pub hook_lent_says : Says HookLent.ended HookLentReads.requires HookLentReads.ensures (λ κs a q e. q ≡ Hooks.lent_of (hooked (whole a.0) a.1.0))
hook_lent_says κs a q e w = (refl, refl)

-- hook::hook
pub hook_says : Says HookCall.ended HookCallReads.requires HookCallReads.ensures (λ κs a q e. q ≡ hooked a.0 a.1.0)
hook_says κs a q e w = (refl, refl)

-- stream_places::empty_from
pub empty_from_says : Says EmptyFrom.ended EmptyFromReads.requires EmptyFromReads.ensures (λ κs a q e. e.0.now ≡ emptied a.0.now a.1.0)
empty_from_says κs a q e w = (refl, refl)

-- parts::part_at
pub part_at_says : Says PartAtPlace.ended PartAtPlaceReads.requires PartAtPlaceReads.ensures (λ κs a q e. q ≡ part_at a.0.now a.1.0)
part_at_says κs a q e w = (refl, refl)

-- stream::feed_lent
pub feed_lent_says : SaysFed FeedLent.ended FeedLentReads.requires FeedLentReads.ensures (λ κs a. a) (λ κs e. e) (λ κs. lent_of)
feed_lent_says κs a q e w = (refl, refl)

-- stream_by_value::whole
pub whole_says : Says Whole.ended WholeReads.requires WholeReads.ensures (λ κs a q e. q ≡ together a.0 a.1.0 a.1.1.0 a.1.1.1.0)
whole_says κs a q e w = (refl, refl)

-- stream_by_value::feed
pub feed_says : SaysBoth Feed.ended FeedReads.requires FeedReads.ensures
    (λ κs a q e. q ≡ fed_of a.0 a.1.0.now (length a.1.1.0.now))
    (λ κs a q e. e.1.1.0.now ≡ answers_after a.0 a.1.0.now a.1.1.0.now)
feed_says κs a q e w = (refl, refl)

-- answer_room::escapes_in
pub escapes_in_says : Says EscapesIn.ended EscapesInReads.requires EscapesInReads.ensures (λ κs a q e. q ≡ escapes a.0.now)
escapes_in_says κs a q e w = (refl, refl)

-- answer_room::room_needed_lent
pub room_needed_lent_says : Says RoomNeededLent.ended RoomNeededLentReads.requires RoomNeededLentReads.ensures (λ κs a q e. q ≡ room_needed (whole a.0) a.1.0.now)
room_needed_lent_says κs a q e w = (refl, refl)

-- answer_room::room_needed
pub room_needed_says : Says RoomNeededFor.ended RoomNeededForReads.requires RoomNeededForReads.ensures (λ κs a q e. q ≡ room_needed a.0 a.1.0.now)
room_needed_says κs a q e w = (refl, refl)

-- choice::check
pub check_choice_says : Says CheckChoice.ended CheckChoiceReads.requires CheckChoiceReads.ensures (λ κs a q e. q ≡ choice_of a.0.now)
check_choice_says κs a q e w = (refl, refl)

-- key_entry::all_listed
pub all_listed_says : Says AllListed.ended AllListedReads.requires AllListedReads.ensures (λ κs a q e. q ≡ every (listed_up_to a.1.0) a.0.now)
all_listed_says κs a q e w = (refl, refl)

-- key_entry::light_up
pub light_up_says : Says LightUp.ended LightUpReads.requires LightUpReads.ensures (λ κs a q e. q ≡ lit a.0)
light_up_says κs a q e w = (refl, refl)

-- key_entry::over
pub over_says : Says OverTime.ended OverTimeReads.requires OverTimeReads.ensures (λ κs a q e. q ≡ over a.0 a.1.0 a.1.1.0.0)
over_says κs a q e w = (refl, refl)

-- key_entry::take_entry
pub take_entry_says : Says TakeEntry.ended TakeEntryReads.requires TakeEntryReads.ensures (λ κs a q e. q ≡ keyed a.0 a.1.0 a.1.1.0 a.1.1.1.0 a.1.1.1.1.0)
take_entry_says κs a q e w = (refl, refl)

-- sister_entry::take_entry
pub sister_entry_says : Says SisterEntry.ended SisterEntryReads.requires SisterEntryReads.ensures
    (λ κs a q e. q ≡ Sister.keyed a.0.keys a.1.0 a.0.backlight a.0.hook a.0.ptt a.1.1.0 a.1.1.1.0)
sister_entry_says κs a q e w = (refl, refl)

-- key_log::take_log_lent
pub take_log_lent_says : SaysLogged TakeLogLent.ended TakeLogLentReads.requires TakeLogLentReads.ensures (λ κs a. apart a) (λ κs e. apart e) (λ κs. loggedLent)
take_log_lent_says κs a q e w = (refl, refl)

-- key_log::take_log
pub take_log_says : SaysBoth TakeLog.ended TakeLogReads.requires TakeLogReads.ensures
    (λ κs a q e. q ≡ handed_back (outcome a.0 a.1.0.now a.1.1.0.now (length a.1.1.1.0.now)))
    (λ κs a q e. e.1.1.1.0.now ≡ buffer_after (outcome a.0 a.1.0.now a.1.1.0.now (length a.1.1.1.0.now)) a.1.1.1.0.now)
take_log_says κs a q e w = (refl, refl)

-- seconds::second_lent
pub second_lent_says : Says SecondLent.ended SecondLentReads.requires SecondLentReads.ensures (λ κs a q e. q ≡ Seconds.lent_of (passed (whole a.0)))
second_lent_says κs a q e w = (refl, refl)

-- seconds::second
pub second_says : Says Second.ended SecondReads.requires SecondReads.ensures (λ κs a q e. q ≡ passed a.0)
second_says κs a q e w = (refl, refl)

-- seconds::second_in_place: its clause is named by the contract itself
pub second_in_place_says : Says SecondInPlace.ended
    (λ κs a g w. (SecondInPlace.clauses w.𝓛 w.𝓜.mem w.𝓡.run κs a).requires g)
    (λ κs a g q e w. (SecondInPlace.clauses w.𝓛 w.𝓜.mem w.𝓡.run κs a).ensures g q e)
    (λ κs a q e. (q ≡ (light_passed a.0.now).number) × (e.0.now ≡ (light_passed a.0.now).backlight))
second_in_place_says κs a q e w = (refl, refl)

-- seen_panels::sms_panel
pub sms_panel_says : Says SmsPanelOf.ended SmsPanelOfReads.requires SmsPanelOfReads.ensures (λ κs a q e. q ≡ sms_panel a.0 a.1.0)
sms_panel_says κs a q e w = (refl, refl)

-- seen_panels::volume_panel
pub volume_panel_says : Says VolumePanelOf.ended VolumePanelOfReads.requires VolumePanelOfReads.ensures (λ κs a q e. q ≡ volume_panel a.0)
volume_panel_says κs a q e w = (refl, refl)

-- seen_owners::owner_of_row
pub owner_of_row_says : Says OwnerOfRow.ended OwnerOfRowReads.requires OwnerOfRowReads.ensures (λ κs a q e. q ≡ owner_of_row a.0 a.1.0)
owner_of_row_says κs a q e w = (refl, refl)

-- seen_owners::owner_of
pub owner_of_says : Says OwnerOf.ended OwnerOfReads.requires OwnerOfReads.ensures (λ κs a q e. q ≡ owner_on a.0 a.1.0 a.1.1.0)
owner_of_says κs a q e w = (refl, refl)

-- seen::row_seen
pub row_seen_says : Says RowSeen.ended RowSeenReads.requires RowSeenReads.ensures (λ κs a q e. q ≡ row_seen a.0 a.1.0 a.1.1.0)
row_seen_says κs a q e w = (refl, refl)

-- seen::row_seen_lent
pub row_seen_lent_says : Says RowSeenLent.ended RowSeenLentReads.requires RowSeenLentReads.ensures
    (λ κs a q e. q ≡ row_seen (whole a.0) a.1.0 a.1.1.0)
row_seen_lent_says κs a q e w = (refl, refl)

-- seen::column_seen
pub column_seen_says : Says ColumnSeen.ended ColumnSeenReads.requires ColumnSeenReads.ensures (λ κs a q e. q ≡ column_seen a.0 a.1.0 a.1.1.0 a.1.1.1.0)
column_seen_says κs a q e w = (refl, refl)

-- seen::column_seen_lent
pub column_seen_lent_says : Says ColumnSeenLent.ended ColumnSeenLentReads.requires ColumnSeenLentReads.ensures
    (λ κs a q e. q ≡ column_seen (whole a.0) a.1.0 a.1.1.0 a.1.1.1.0)
column_seen_lent_says κs a q e w = (refl, refl)

-- seen::sms_seen
pub sms_seen_says : Says SmsSeen.ended SmsSeenReads.requires SmsSeenReads.ensures (λ κs a q e. q ≡ sms_seen a.0 a.1.0)
sms_seen_says κs a q e w = (refl, refl)

-- seen::sms_seen_lent
pub sms_seen_lent_says : Says SmsSeenLent.ended SmsSeenLentReads.requires SmsSeenLentReads.ensures
    (λ κs a q e. q ≡ sms_seen (whole a.0) a.1.0)
sms_seen_lent_says κs a q e w = (refl, refl)

-- seen::volume_seen
pub volume_seen_says : Says VolumeSeen.ended VolumeSeenReads.requires VolumeSeenReads.ensures (λ κs a q e. q ≡ volume_seen a.0)
volume_seen_says κs a q e w = (refl, refl)

-- seen::volume_seen_lent
pub volume_seen_lent_says : Says VolumeSeenLent.ended VolumeSeenLentReads.requires VolumeSeenLentReads.ensures
    (λ κs a q e. q ≡ volume_seen (whole a.0))
volume_seen_lent_says κs a q e w = (refl, refl)

-- writer_ranges::label_in_range
pub label_in_range_says : Says LabelInRange.ended LabelInRangeReads.requires LabelInRangeReads.ensures (λ κs a q e. q ≡ is_label a.0.now)
label_in_range_says κs a q e w = (refl, refl)

-- writer_ranges::row_in_range
pub row_in_range_says : Says RowInRange.ended RowInRangeReads.requires RowInRangeReads.ensures (λ κs a q e. q ≡ is_row a.0 a.1.0.now)
row_in_range_says κs a q e w = (refl, refl)

-- writer::write_own
pub write_own_says : SaysBoth WriteOwn.ended WriteOwnReads.requires WriteOwnReads.ensures
    (λ κs a q e. q ≡ written_of (own_in_range a.0) (frame_of (spell (sister_form (own a.0)))) a.1.0.now)
    (λ κs a q e. e.1.0.now ≡ room_after (own_in_range a.0) (frame_of (spell (sister_form (own a.0)))) a.1.0.now)
write_own_says κs a q e w = (refl, refl)

-- writer::write_shared
pub write_shared_says : SaysBoth WriteShared.ended WriteSharedReads.requires WriteSharedReads.ensures
    (λ κs a q e. q ≡ written_of (shared_in_range a.0) (frame_of (spell (sister_form (first (plain a.0))))) a.1.0.now)
    (λ κs a q e. e.1.0.now ≡ room_after (shared_in_range a.0) (frame_of (spell (sister_form (first (plain a.0))))) a.1.0.now)
write_shared_says κs a q e w = (refl, refl)

-- writer::write_command
pub write_command_says : SaysBoth WriteCommand.ended WriteCommandReads.requires WriteCommandReads.ensures
    (λ κs a q e. q ≡ written_of (command_in_range most_rows a.0) (frame_of (spelling (plain a.0))) a.1.0.now)
    (λ κs a q e. e.1.0.now ≡ room_after (command_in_range most_rows a.0) (frame_of (spelling (plain a.0))) a.1.0.now)
write_command_says κs a q e w = (refl, refl)

-- writer::write_label
pub write_label_says : SaysBoth WriteLabel.ended WriteLabelReads.requires WriteLabelReads.ensures
    (λ κs a q e. q ≡ written_of (is_label a.1.0.now) (frame_of (spelling (label a.0 a.1.0.now))) a.1.1.0.now)
    (λ κs a q e. e.1.1.0.now ≡ room_after (is_label a.1.0.now) (frame_of (spelling (label a.0 a.1.0.now))) a.1.1.0.now)
write_label_says κs a q e w = (refl, refl)

-- writer::write_picture_row
pub write_picture_row_says : SaysBoth WritePictureRow.ended WritePictureRowReads.requires WritePictureRowReads.ensures
    (λ κs a q e. q ≡ written_of (is_row a.0 a.1.0.now) (frame_of (spelling (draw a.0 a.1.0.now))) a.1.1.0.now)
    (λ κs a q e. e.1.1.0.now ≡ room_after (is_row a.0 a.1.0.now) (frame_of (spelling (draw a.0 a.1.0.now))) a.1.1.0.now)
write_picture_row_says κs a q e w = (refl, refl)

-- handset_numbers::phase_of
pub phase_of_says : Says PhaseOf.ended PhaseOfReads.requires PhaseOfReads.ensures (λ κs a q e. q ≡ phase_of a.0)
phase_of_says κs a q e w = (refl, refl)

-- handset_numbers::side_of
pub side_of_says : Says SideOf.ended SideOfReads.requires SideOfReads.ensures (λ κs a q e. q ≡ side_of a.0)
side_of_says κs a q e w = (refl, refl)

-- handset_numbers::command_of
pub command_of_says : Says CommandOf.ended CommandOfReads.requires CommandOfReads.ensures (λ κs a q e. q ≡ command_of a.0 a.1.0 a.1.1.0)
command_of_says κs a q e w = (refl, refl)

-- handset_numbers::sister_command_of
pub sister_command_of_says : Says SisterCommandOf.ended SisterCommandOfReads.requires SisterCommandOfReads.ensures (λ κs a q e. q ≡ sister_command_of a.0 a.1.0 a.1.1.0)
sister_command_of_says κs a q e w = (refl, refl)

-- handset_numbers::sms_number
pub sms_number_says : Says SmsNumber.ended SmsNumberReads.requires SmsNumberReads.ensures (λ κs a q e. q ≡ sms_number a.0)
sms_number_says κs a q e w = (refl, refl)

-- handset_numbers::volume_numbers
pub volume_numbers_says : Says VolumeNumbers.ended VolumeNumbersReads.requires VolumeNumbersReads.ensures (λ κs a q e. q ≡ volume_numbers a.0)
volume_numbers_says κs a q e w = (refl, refl)

-- handset_numbers::owner_numbers
pub owner_numbers_says : Says OwnerNumbers.ended OwnerNumbersReads.requires OwnerNumbersReads.ensures (λ κs a q e. q ≡ owner_numbers a.0)
owner_numbers_says κs a q e w = (refl, refl)

-- handset_numbers::shown_numbers
pub shown_numbers_says : Says ShownNumbers.ended ShownNumbersReads.requires ShownNumbersReads.ensures (λ κs a q e. q ≡ shown_numbers a.0)
shown_numbers_says κs a q e w = (refl, refl)

-- handset_numbers::verdict_numbers
pub verdict_numbers_says : Says VerdictNumbers.ended VerdictNumbersReads.requires VerdictNumbersReads.ensures (λ κs a q e. q ≡ verdict_numbers a.0)
verdict_numbers_says κs a q e w = (refl, refl)

-- handset_numbers::rule_number
pub rule_number_says : Says RuleNumber.ended RuleNumberReads.requires RuleNumberReads.ensures (λ κs a q e. q ≡ rule_number a.0)
rule_number_says κs a q e w = (refl, refl)

-- handset_numbers::kind_number
pub kind_number_says : Says KindNumber.ended KindNumberReads.requires KindNumberReads.ensures (λ κs a q e. q ≡ kind_number a.0)
kind_number_says κs a q e w = (refl, refl)

-- handset::proved_power_on
pub proved_power_on_says : SaysApart ProvedPowerOn.ended ProvedPowerOnReads.requires ProvedPowerOnReads.ensures (λ κs s. s) (λ κs e. e) power_on
proved_power_on_says κs a q e w = (refl, refl)

-- handset::proved_power_on_former
pub proved_power_on_former_says : SaysApart ProvedPowerOnFormer.ended ProvedPowerOnFormerReads.requires ProvedPowerOnFormerReads.ensures (λ κs s. s) (λ κs e. e) former_power_on
proved_power_on_former_says κs a q e w = (refl, refl)

-- handset::proved_sister_power_on
pub proved_sister_power_on_says : SaysApart ProvedSisterPowerOn.ended ProvedSisterPowerOnReads.requires ProvedSisterPowerOnReads.ensures (λ κs s. s) (λ κs e. e) sister_power_on
proved_sister_power_on_says κs a q e w = (refl, refl)

-- handset::proved_in_range
pub proved_in_range_says : Says ProvedInRange.ended ProvedInRangeReads.requires ProvedInRangeReads.ensures
    (λ κs a q e. q ≡ in_range (lent a))
proved_in_range_says κs a q e w = (refl, refl)

-- handset::proved_feed
pub proved_feed_says : SaysFed ProvedFeed.ended ProvedFeedReads.requires ProvedFeedReads.ensures (λ κs a. a) (λ κs e. e) (λ κs. fed_in)
proved_feed_says κs a q e w = (refl, refl)

-- handset::proved_take_log
pub proved_take_log_says : SaysLogged ProvedTakeLog.ended ProvedTakeLogReads.requires ProvedTakeLogReads.ensures (λ κs a. a) (λ κs e. e) (λ κs. logged_in)
proved_take_log_says κs a q e w = (refl, refl)

-- handset::proved_second
pub proved_second_says : Says ProvedSecond.ended ProvedSecondReads.requires ProvedSecondReads.ensures
    (λ κs a q e. q ≡ passed_in (passed (lent a)))
proved_second_says κs a q e w = (refl, refl)

-- handset::proved_light_second
pub proved_light_second_says : Says ProvedLightSecond.ended ProvedLightSecondReads.requires ProvedLightSecondReads.ensures (λ κs a q e. q ≡ light_in (light_passed a.0))
proved_light_second_says κs a q e w = (refl, refl)

-- handset::proved_hook
pub proved_hook_says : Says ProvedHook.ended ProvedHookReads.requires ProvedHookReads.ensures
    (λ κs a q e. q ≡ hooked_in (hooked (lent a) a.1.1.1.1.0))
proved_hook_says κs a q e w = (refl, refl)

-- handset::proved_room_needed
pub proved_room_needed_says : Says ProvedRoomNeeded.ended ProvedRoomNeededReads.requires ProvedRoomNeededReads.ensures
    (λ κs a q e. q ≡ counted_in (room_needed (lent a) a.1.1.1.1.0.now))
proved_room_needed_says κs a q e w = (refl, refl)

-- handset::proved_judge_in
pub proved_judge_in_says : Says ProvedJudgeIn.ended ProvedJudgeInReads.requires ProvedJudgeInReads.ensures
    (λ κs a q e. q ≡ judged_of (lent a) a.1.1.1.1.0.now)
proved_judge_in_says κs a q e w = (refl, refl)

-- handset::proved_sms_seen
pub proved_sms_seen_says : Says ProvedSmsSeen.ended ProvedSmsSeenReads.requires ProvedSmsSeenReads.ensures
    (λ κs a q e. q ≡ sms_in (sms_seen (lent a) (phase_of a.1.1.1.1.0)))
proved_sms_seen_says κs a q e w = (refl, refl)

-- handset::proved_volume_seen
pub proved_volume_seen_says : Says ProvedVolumeSeen.ended ProvedVolumeSeenReads.requires ProvedVolumeSeenReads.ensures
    (λ κs a q e. q ≡ volume_in (volume_seen (lent a)))
proved_volume_seen_says κs a q e w = (refl, refl)

-- handset::proved_row_seen
pub proved_row_seen_says : Says ProvedRowSeen.ended ProvedRowSeenReads.requires ProvedRowSeenReads.ensures
    (λ κs a q e. q ≡ row_in (row_seen (lent a) a.1.1.1.1.0 (phase_of a.1.1.1.1.1.0)))
proved_row_seen_says κs a q e w = (refl, refl)

-- handset::proved_column_seen
pub proved_column_seen_says : Says ProvedColumnSeen.ended ProvedColumnSeenReads.requires ProvedColumnSeenReads.ensures
    (λ κs a q e. q ≡ column_in (column_seen (lent a) a.1.1.1.1.0 a.1.1.1.1.1.0 (phase_of a.1.1.1.1.1.1.0)))
proved_column_seen_says κs a q e w = (refl, refl)

-- handset::proved_write_command
pub proved_write_command_says : SaysBoth ProvedWriteCommand.ended ProvedWriteCommandReads.requires ProvedWriteCommandReads.ensures
    (λ κs a q e. q ≡ command_written a.0 a.1.0 a.1.1.0 a.1.1.1.0.now)
    (λ κs a q e. e.1.1.1.0.now ≡ command_room a.0 a.1.0 a.1.1.0 a.1.1.1.0.now)
proved_write_command_says κs a q e w = (refl, refl)

-- handset::proved_write_sister_command
pub proved_write_sister_command_says : SaysBoth ProvedWriteSisterCommand.ended ProvedWriteSisterCommandReads.requires ProvedWriteSisterCommandReads.ensures
    (λ κs a q e. q ≡ sister_written a.0 a.1.0 a.1.1.0 a.1.1.1.0.now)
    (λ κs a q e. e.1.1.1.0.now ≡ sister_room a.0 a.1.0 a.1.1.0 a.1.1.1.0.now)
proved_write_sister_command_says κs a q e w = (refl, refl)

-- handset::proved_write_label
pub proved_write_label_says : SaysBoth ProvedWriteLabel.ended ProvedWriteLabelReads.requires ProvedWriteLabelReads.ensures
    (λ κs a q e. q ≡ written_in (written_of (is_label a.1.0.now) (frame_of (spelling (label (side_of a.0) a.1.0.now))) a.1.1.0.now))
    (λ κs a q e. e.1.1.0.now ≡ room_after (is_label a.1.0.now) (frame_of (spelling (label (side_of a.0) a.1.0.now))) a.1.1.0.now)
proved_write_label_says κs a q e w = (refl, refl)

-- handset::proved_write_picture_row
pub proved_write_picture_row_says : SaysBoth ProvedWritePictureRow.ended ProvedWritePictureRowReads.requires ProvedWritePictureRowReads.ensures
    (λ κs a q e. q ≡ written_in (written_of (is_row a.0 a.1.0.now) (frame_of (spelling (draw a.0 a.1.0.now))) a.1.1.0.now))
    (λ κs a q e. e.1.1.0.now ≡ room_after (is_row a.0 a.1.0.now) (frame_of (spelling (draw a.0 a.1.0.now))) a.1.1.0.now)
proved_write_picture_row_says κs a q e w = (refl, refl)

-- handset::proved_judge
pub proved_judge_says : Says ProvedJudge.ended ProvedJudgeReads.requires ProvedJudgeReads.ensures
    (λ κs a q e. q ≡ judged_in (verdict_of a.0 a.1.0.now))
proved_judge_says κs a q e w = (refl, refl)

-- handset::proved_check_choice
pub proved_check_choice_says : Says ProvedCheckChoice.ended ProvedCheckChoiceReads.requires ProvedCheckChoiceReads.ensures
    (λ κs a q e. q ≡ choice_in (choice_of a.0.now))
proved_check_choice_says κs a q e w = (refl, refl)

-- handset::proved_part_at
pub proved_part_at_says : Says ProvedPartAt.ended ProvedPartAtReads.requires ProvedPartAtReads.ensures (λ κs a q e. q ≡ part_in a.1.0 (part_at a.0.now a.1.0))
proved_part_at_says κs a q e w = (refl, refl)
