-- The frame of a body: its codes, those that are used, behind ESC. Assumes nothing.
use Rattle.std.proofs.Common.{rules, arith, ◌≤◌, ◌≡◌, length, length-take-le}
use Rattle.line.specs.declared.Line.{Line}
use Rattle.line.specs.Lines.{held}
use Rattle.line.specs.Laws.{adding}
use Rattle.writer.specs.Writing.{frame_of}
use Rattle.writer.proofs.Delivering.{refused, framed, delivered}
use Rattle.writer.proofs.deliver_body.Goals as goal

-- what a line holds is as long as it says
body_size : (line : Line) → length line.bytes ≡ 200 → line.len ≤ 197 → length (held line) ≤ 197
body_size line places h = omega (arith, length-take-le line.len line.bytes (omega arith))

pub deliver-requires : goal.deliver-requires
deliver-requires c =
    let body = body_size c.args.body (search rules) (c.requires c.if-good.true) in
    omega (arith, (adding 197 c.add.ensures.same body).longer, c.opened.ensures.1)

pub returns-then-good : goal.returns-then-good
returns-then-good c =
    let good = c.if-good.true in
    let body = body_size c.args.body (search rules) (c.requires good) in
    let line = framed (held c.args.body) c.opened.ensures.0 (adding 197 c.add.ensures.same body) (omega arith) in
    let w = delivered c.args.good _ (held c.args.body) c.args.room.now good line (c.deliver.ensures.same, c.deliver.ensures.left) in
    record { same = w.0; left = w.1 }

pub returns-else-good : goal.returns-else-good
returns-else-good c =
    let w = refused (frame_of (held c.args.body)) c.args.room.now c.args.good c.if-good.false in
    record { same = w.0; left = w.1 }
