-- `key_log::take_entries` keeps its promise. Assumes nothing.
use Rattle.std.proofs.Common.{[], ◌∷◌, arith, rules, length-append}
use Rattle.std.proofs.lemmas.Slice.Zip.{zip_turn, zip_end}
use Rattle.key_entry.specs.Rules.{with_keys}
use Rattle.key_log.specs.Turns.{next_of, turns_end, turn_quiet, turn_sends, turns_stop, takes}
use Rattle.key_log.proofs.take_entries.Goals.{in-Some-code+else-codes-written, in_default}
use Rattle.key_log.proofs.take_entries.Goals as goal

pub returns-then-codes-written : goal.returns-then-codes-written
returns-then-codes-written c = let loop = c.loop-tick in
    let here = next_of loop.invariant.0 (zip_turn c.args.ticks.now c.args.edges.now loop.yielded _ loop.tick-iterator c.next.new.self c.next.result (search rules) (search rules) loop.yielded_by _ c.in-Some.is c.next.ensures.steps) in
    takes c.args.ticks.now c.args.edges.now (λ r. with_keys r loop.held loop.light) _ (λ text picture bytes. c.done.ensures)
    (λ text picture bytes. turns_stop c.args.ticks.now c.args.edges.now c.requires.ticks_len c.requires.sister_value (loop.invariant.1 text picture bytes) here c.take_entry-next.result c.take_entry-next.ensures.same
    c.in-Some-code.is c.if-codes-written.true)

pub loop-tick-preserved : goal.loop-tick-preserved
loop-tick-preserved c = let loop = c.loop-tick in
    let here = next_of loop.invariant.0 (zip_turn c.args.ticks.now c.args.edges.now loop.yielded _ loop.tick-iterator c.next.new.self c.next.result (search rules) (search rules) loop.yielded_by _ c.in-Some.is c.next.ensures.steps) in (
      omega (arith, loop.invariant.0, length-append loop.yielded ((c.in-Some.tick, c.in-Some.edge) ∷ [])),
      elim c.match-next-2.branch [
        | in-Some-code+else-codes-written w ↦ λ text picture bytes. rw (w.codes-is, w.written-is)
            (turn_sends c.args.ticks.now c.args.edges.now c.requires.ticks_len c.requires.sister_value (loop.invariant.1 text picture bytes) here c.take_entry-next.result c.take_entry-next.ensures.same
            w.in-Some-code.is w.if-codes-written.false)
        | in_default w ↦ λ text picture bytes. rw (w.codes-is, w.written-is)
            (turn_quiet c.args.ticks.now c.args.edges.now c.requires.ticks_len c.requires.sister_value (loop.invariant.1 text picture bytes) here c.take_entry-next.result c.take_entry-next.ensures.same w.in_default.is)
      ],
    )

pub returns : goal.returns
returns c = let loop = c.loop-tick in
    let many = zip_end c.args.ticks.now c.args.edges.now loop.yielded _ loop.tick-iterator c.next.new.self c.next.result (search rules) (search rules) loop.yielded_by c.in-None.is c.next.ensures.steps in
    takes c.args.ticks.now c.args.edges.now (λ r. with_keys r loop.held loop.light) _ (λ text picture bytes. c.done-2.ensures)
    (λ text picture bytes. turns_end c.args.ticks.now c.args.edges.now c.requires.ticks_len (loop.invariant.1 text picture bytes) (omega (arith, many, loop.invariant.0, c.requires.ticks_len)))
