-- Worked cases of verdicts, computed from the definitions: in a text mode of the first edition, and in records of the sister's. Assumes nothing.
use Rattle.std.specs.Prelude.{ℕ, List, [], ◌∷◌, map, ◌≡◌, refl}
use Rattle.lists.specs.Codes.{ascii}
use Rattle.lists.specs.Padded.{padded}
use Rattle.numeral.specs.Numeral.{digit_of}
use Rattle.picture.specs.Reading.{hex_of, times_of, items, columns_of}
use Rattle.frame_table.specs.Numbers.{numbers_after}
use Rattle.frame_table.specs.Reader as reader
use Rattle.command.specs.Table.{classes, next_states}
use Rattle.command.specs.Pick.{with_number, display_of, light_of, contrast_of, after_i, cursor_sign, after_bracket, command_of}
use Rattle.command.specs.Reading.{is_text, label_read, read_with, read_of, opens_picture, row_and_data, drawn_row, picture_of, order_of}
use Rattle.record.specs.Core.{core_of}
use Rattle.record.specs.PowerOn.{power_on}
use Rattle.effect.specs.Effect.{blanks, drawn, line_cleared, carry_out}
use Rattle.sister_command.specs.Table as hers
use Rattle.sister_command.specs.Pick as hers-picked
use Rattle.sister_command.specs.Reading.{sister_read, sister_order_of}
use Rattle.sister_effect.specs.Obey.{carry_out_own}
use Rattle.sister_effect.specs.Cases.{after}
use Rattle.verdict.specs.declared.Verdict.{Verdict}
use Rattle.verdict.specs.declared.Verdict.TheVariants.{Bad, PassedOver, Obeyed, Refused}
use Rattle.verdict.specs.Verdict.{verdict_of, verdict_in}

-- each case: what the definitions give, and what document 01 asks for
abbrev pub table : List (Verdict × Verdict)
table =
    -- an empty frame, a letter, half a number's frame and a label of eight codes are bad; an empty label is not
    (verdict_of 0 [], Bad)
    ∷ (verdict_of 0 (ascii "Q"), Bad)
    ∷ (verdict_of 0 (ascii "IP"), Bad)
    ∷ (verdict_of 0 (ascii "IK1Keepsake"), Bad)
    ∷ (verdict_of 0 (ascii "IK1"), Obeyed)
    ∷ (verdict_of 0 (ascii "IK1Keep"), Obeyed)
    ∷ (verdict_of 0 (ascii "IK0"), Obeyed)
    -- the number that is out of range is told
    ∷ (verdict_of 0 (ascii "IP19"), Obeyed)
    ∷ (verdict_of 0 (ascii "IP20"), PassedOver 20)
    ∷ (verdict_of 0 (ascii "IP020"), Bad)
    ∷ (verdict_of 0 (ascii "ID2"), PassedOver 2)
    ∷ (verdict_of 0 (ascii "IE256"), PassedOver 256)
    -- of two the first that is out of range
    ∷ (verdict_of 0 (ascii "IT12;0"), Obeyed)
    ∷ (verdict_of 0 (ascii "IT12;3"), PassedOver 3)
    ∷ (verdict_of 0 (ascii "IT3;12"), PassedOver 3)
    ∷ (verdict_of 0 (ascii "IT51;99"), PassedOver 51)
    ∷ (verdict_of 0 (ascii "[3;15H"), Obeyed)
    ∷ (verdict_of 0 (ascii "[3;16H"), PassedOver 16)
    ∷ (verdict_of 0 (ascii "[4;16H"), PassedOver 4)
    -- the text mode decides of rows, and of nothing else
    ∷ (verdict_of 5 (ascii "[4;15H"), Obeyed)
    ∷ (verdict_of 10 (ascii "[0;0H"), PassedOver 0)
    ∷ (verdict_of 10 (ascii "IZ0"), Obeyed)
    ∷ (verdict_of 10 (ascii "IZ1"), PassedOver 1)
    ∷ (verdict_of 0 (ascii "IZ5"), PassedOver 5)
    ∷ (verdict_of 6 (ascii "IZ5"), Obeyed)
    -- a picture's row; one without columns, or without its z, is bad
    ∷ (verdict_of 10 (ascii "Gr6,FFz"), Obeyed)
    ∷ (verdict_of 0 (ascii "Gr7,FFz"), PassedOver 7)
    ∷ (verdict_of 0 (ascii "Gr7,z"), Bad)
    ∷ (verdict_of 0 (ascii "Gr0,FF"), Bad)
    -- questions
    ∷ (verdict_of 0 (ascii "IA"), Obeyed)
    ∷ (verdict_of 0 (ascii "IA0"), PassedOver 0)
    ∷ (verdict_of 0 (ascii "&V"), Obeyed)
    ∷ []

pub cases : map (λ (c : Verdict × Verdict). c.0) table ≡ map (λ (c : Verdict × Verdict). c.1) table
unfolding digit_of padded hex_of times_of items columns_of numbers_after reader.read_with classes next_states with_number display_of light_of contrast_of after_i cursor_sign after_bracket command_of is_text label_read read_with read_of opens_picture row_and_data drawn_row picture_of order_of verdict_of
cases = refl

-- a frame of the sister, after others from her power-on record on
abbrev judged : List (List ℕ) → List ℕ → Verdict → Verdict × Verdict
judged frames frame v = (verdict_in (after frames) frame, v)

abbrev pub sister_table : List (Verdict × Verdict)
sister_table =
    -- what the first edition alone has is bad, and what she alone has is bad there
    judged [] [] Bad
    ∷ judged [] (ascii "ID0") Bad
    ∷ judged [] (ascii "[0;0H") Bad
    ∷ judged [] (ascii "IEr") Bad
    ∷ (verdict_in (core_of power_on) (ascii "IDM0"), Bad)
    ∷ (verdict_in (core_of power_on) (ascii "IA+"), Bad)
    -- shared commands, labels and pictures as in the first edition
    ∷ judged [] (ascii "IP20") (PassedOver 20)
    ∷ judged [] (ascii "&H3;15") Obeyed
    ∷ judged [] (ascii "&H4;16") (PassedOver 4)
    ∷ judged (ascii "IDM2" ∷ []) (ascii "&H4;15") Obeyed
    ∷ judged [] (ascii "IK1Keepsake") Bad
    ∷ judged [] (ascii "IK1Keep") Obeyed
    ∷ judged [] (ascii "Gr7,FFz") (PassedOver 7)
    -- her own numbers; of the times 0 and 0 are in range, else the first that is out is told
    ∷ judged [] (ascii "IDM12") Obeyed
    ∷ judged [] (ascii "IDM13") (PassedOver 13)
    ∷ judged [] (ascii "IE250") Obeyed
    ∷ judged [] (ascii "IE251") (PassedOver 251)
    ∷ judged [] (ascii "IT0;0") Obeyed
    ∷ judged [] (ascii "IT0;5") (PassedOver 0)
    ∷ judged [] (ascii "IT12;3") (PassedOver 3)
    -- steps go by the value that is kept
    ∷ judged [] (ascii "IA+") Obeyed
    ∷ judged (ascii "IA20" ∷ []) (ascii "IA+") Refused
    ∷ judged (ascii "IV0" ∷ []) (ascii "IV-") Refused
    ∷ judged (ascii "IN99" ∷ []) (ascii "IN+") Obeyed
    ∷ judged (ascii "IN100" ∷ []) (ascii "IN+") Refused
    -- and the keypad's letters by the light, which has PWM at power-on
    ∷ judged [] (ascii "IEe") Refused
    ∷ judged (ascii "IES" ∷ []) (ascii "IEe") Obeyed
    ∷ judged (ascii "IEE" ∷ []) (ascii "IEs") Refused
    ∷ []

pub sister_cases : map (λ (c : Verdict × Verdict). c.0) sister_table ≡ map (λ (c : Verdict × Verdict). c.1) sister_table
unfolding digit_of padded hex_of times_of items columns_of numbers_after reader.read_with classes next_states with_number display_of light_of contrast_of after_i cursor_sign after_bracket command_of is_text label_read read_with read_of opens_picture row_and_data drawn_row picture_of order_of hers.classes hers.next_states hers-picked.asked_or hers-picked.stepped_or hers-picked.mode_of hers-picked.light_of hers-picked.after_i hers-picked.after_and hers-picked.after_k hers-picked.command_of sister_read sister_order_of blanks drawn line_cleared carry_out carry_out_own verdict_in
sister_cases = refl
