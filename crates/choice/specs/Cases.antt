-- SMALL STREAMS, judged: computed from the definitions. One table, one statement. Assumes nothing.
use Rattle.std.specs.Prelude.{ℕ, List, [], ◌∷◌, ◌++◌, map, ◌≡◌, refl, Result, Ok, Err, ⊤}
use Rattle.lists.specs.Codes.{ascii, escape, carriage_return}
use Rattle.lists.specs.Padded.{padded}
use Rattle.numeral.specs.Numeral.{digit_of}
use Rattle.picture.specs.Reading.{hex_of, times_of, items, columns_of}
use Rattle.frame_table.specs.Numbers.{numbers_after}
use Rattle.frame_table.specs.Reader as reader
use Rattle.command.specs.Table.{classes, next_states}
use Rattle.command.specs.Pick.{with_number, display_of, light_of, contrast_of, after_i, cursor_sign, after_bracket, command_of}
use Rattle.command.specs.Reading.{is_text, label_read, read_with, read_of, opens_picture, row_and_data, drawn_row, picture_of, order_of}
use Rattle.parting.specs.Cut.{cut}
use Rattle.choice.specs.declared.BrokenRule.{BrokenRule}
use Rattle.choice.specs.declared.Rule.TheVariants.{NoScreen, LabelMissing, QuestionMark, FrameOpen}
use Rattle.choice.specs.Choice.{answer_of, judged_from, choice_of}

-- ESC, the frame, CR
abbrev frame : List ℕ → List ℕ
frame body = escape ∷ (body ++ carriage_return ∷ [])

-- both labels, with codes
abbrev labels : List ℕ
labels = frame (ascii "IK1No") ++ frame (ascii "IK2Yes")

-- a screen that comes first, of five bytes, and one that comes later
abbrev first : List ℕ
first = frame (ascii "ID0")

abbrev later : List ℕ
later = frame (ascii "ID5")

abbrev yes : Result ⊤ BrokenRule
yes = Ok tt

-- each case: what the definitions give, and what the request asks for
abbrev pub table : List (Result ⊤ BrokenRule × Result ⊤ BrokenRule)
table =
    -- rule 1: an empty stream, text first, a skipped byte first, another mode, an overlay, a frame left open, a bad one
    (choice_of [], answer_of (Err NoScreen) 0)
    ∷ (choice_of (ascii "A" ++ first), answer_of (Err NoScreen) 0)
    ∷ (choice_of (carriage_return ∷ first), answer_of (Err NoScreen) 0)
    ∷ (choice_of (frame (ascii "ID1")), answer_of (Err NoScreen) 0)
    ∷ (choice_of (frame (ascii "ID11")), answer_of (Err NoScreen) 0)
    ∷ (choice_of (escape ∷ ascii "ID0"), answer_of (Err NoScreen) 0)
    ∷ (choice_of (frame (ascii "Q")), answer_of (Err NoScreen) 0)
    ∷ (choice_of first, yes)
    ∷ (choice_of later, yes)
    -- the first screen is free of rule 2
    ∷ (choice_of (first ++ ascii "A"), yes)
    -- a later one is not: at a text byte, at IDn of any n, at the end
    ∷ (choice_of (first ++ later ++ ascii "A"), answer_of (Err LabelMissing) 10)
    ∷ (choice_of (first ++ later ++ frame (ascii "ID11")), answer_of (Err LabelMissing) 10)
    ∷ (choice_of (first ++ later ++ frame (ascii "ID2")), answer_of (Err LabelMissing) 10)
    ∷ (choice_of (first ++ later), answer_of (Err LabelMissing) 10)
    ∷ (choice_of (first ++ later ++ labels ++ ascii "A"), yes)
    ∷ (choice_of (first ++ later ++ labels), yes)
    -- one label alone; one that is empty; both emptied behind; labels that were set before
    ∷ (choice_of (first ++ later ++ frame (ascii "IK2Yes")), answer_of (Err LabelMissing) 18)
    ∷ (choice_of (first ++ later ++ labels ++ frame (ascii "IK2")), answer_of (Err LabelMissing) 30)
    ∷ (choice_of (first ++ later ++ labels ++ frame (ascii "IK0")), answer_of (Err LabelMissing) 30)
    ∷ (choice_of (first ++ later ++ frame (ascii "IK0") ++ labels), yes)
    ∷ (choice_of (first ++ labels ++ later), answer_of (Err LabelMissing) 25)
    -- the check is made once: what comes behind a text byte does not matter
    ∷ (choice_of (first ++ later ++ labels ++ ascii "A" ++ frame (ascii "IK0") ++ ascii "B"), yes)
    -- an overlay and a mode that is out of range ask for nothing; IDD and IDE end nothing
    ∷ (choice_of (first ++ frame (ascii "ID11") ++ ascii "A"), yes)
    ∷ (choice_of (first ++ frame (ascii "ID2") ++ ascii "A"), yes)
    ∷ (choice_of (first ++ later ++ frame (ascii "IDD") ++ labels), yes)
    -- the IDn that ends one screen asks for its own labels
    ∷ (choice_of (first ++ later ++ labels ++ later), answer_of (Err LabelMissing) 30)
    -- rule 3: a bad frame, an abandoned one; a question and one that is passed over are fine
    ∷ (choice_of (first ++ frame (ascii "Q")), answer_of (Err QuestionMark) 5)
    ∷ (choice_of (first ++ escape ∷ ascii "IK1" ++ labels), answer_of (Err QuestionMark) 5)
    ∷ (choice_of (first ++ frame (ascii "IA") ++ frame (ascii "IP20")), yes)
    -- rule 4; rule 2 by the end comes behind it
    ∷ (choice_of (first ++ escape ∷ ascii "IK1Ke"), answer_of (Err FrameOpen) 5)
    ∷ (choice_of (first ++ later ++ escape ∷ ascii "IK1Ke"), answer_of (Err FrameOpen) 10)
    ∷ []

pub cases : map (λ (c : Result ⊤ BrokenRule × Result ⊤ BrokenRule). c.0) table ≡ map (λ (c : Result ⊤ BrokenRule × Result ⊤ BrokenRule). c.1) table
unfolding digit_of padded hex_of times_of items columns_of numbers_after reader.read_with classes next_states with_number display_of light_of contrast_of after_i cursor_sign after_bracket command_of is_text label_read read_with read_of opens_picture row_and_data drawn_row picture_of order_of cut judged_from choice_of
cases = refl
