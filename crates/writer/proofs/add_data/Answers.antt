-- The data of columns is added, the codes that are used. Assumes nothing.
use Rattle.std.proofs.Common.{ℕ, ◌≤◌, arith, List, ◌≡◌, sym, ap, ◌∙◌, length, take, length-take-le}
use Rattle.lists.specs.Padded.{length_padded}
use Rattle.picture.specs.declared.Data.{Data}
use Rattle.picture.specs.Writing.{encode, text_of, data_written}
use Rattle.picture.specs.WriteLaws.{encoded_size, text_of_few, held_text}
use Rattle.line.specs.Lines.{added}
use Rattle.line.specs.Laws.{adding}
use Rattle.writer.proofs.add_data.Goals as goal

-- what a data's places hold is what is written, and not too long
data_held : (columns : List ℕ) (d : Data) → length columns ≤ 96 → d ≡ data_written columns
    → (take d.len d.bytes ≡ encode columns) × (d.len ≤ 192) × (length d.bytes ≡ 192)
data_held columns d h e =
    let text = text_of_few columns h in
    let size : length (text_of columns) ≤ 192 = rw text (omega (arith, encoded_size columns)) in
    (ap (λ (x : Data). take x.len x.bytes) e ∙ held_text columns ∙ text, rw e size, rw e (length_padded 192 (text_of columns) size))

pub slice_bounds-bytes-end : goal.slice_bounds-bytes-end
slice_bounds-bytes-end c =
    let w = data_held c.args.columns.now _ c.requires c.write_data-data.ensures.same in
    omega (arith, w.1, w.2)

pub slice_bounds-add-end : goal.slice_bounds-add-end
slice_bounds-add-end c =
    let w = data_held c.args.columns.now _ c.requires c.write_data-data.ensures.same in
    sym (length-take-le _ _ (omega (arith, w.1, w.2)))

pub returns : goal.returns
returns c =
    let columns = c.args.columns.now in
    let w = data_held columns _ c.requires c.write_data-data.ensures.same in
    adding 192 (c.add.ensures.same ∙ ap (added c.args.line) w.0) (omega (arith, c.requires, encoded_size columns))
