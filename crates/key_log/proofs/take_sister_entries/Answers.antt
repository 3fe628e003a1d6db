-- `key_log::take_sister_entries` keeps its promise. Assumes nothing.
use Rattle.std.proofs.Common.{[], ◌∷◌, arith, rules, length-append}
use Rattle.std.proofs.lemmas.Slice.Zip.{zip_turn, zip_end}
use Rattle.key_log.specs.Steps.{with_sister_keys}
use Rattle.key_log.specs.Turns.{next_of, turns_end, her_turn_quiet, turn_says, her_turns_stop, takes}
use Rattle.key_log.proofs.take_sister_entries.Goals.{in-Some-message+else-sent-written-lt-MESSAGE, in_default}
use Rattle.key_log.proofs.take_sister_entries.Goals as goal

pub overflow_sub-sent : goal.overflow_sub-sent
overflow_sub-sent c = (c.loop-tick.invariant.1 [] [] []).room

pub returns-then-sent-written-lt-MESSAGE : goal.returns-then-sent-written-lt-MESSAGE
returns-then-sent-written-lt-MESSAGE c = let loop = c.loop-tick in
    let here = next_of loop.invariant.0 (zip_turn c.args.ticks.now c.args.edges.now loop.yielded _ loop.tick-iterator c.next.new.self c.next.result (search rules) (search rules) loop.yielded_by _ c.in-Some.is c.next.ensures.steps) in
    takes c.args.ticks.now c.args.edges.now (λ r. with_sister_keys r loop.left) _ (λ text picture bytes. c.sister_done.ensures)
    (λ text picture bytes. her_turns_stop c.args.ticks.now c.args.edges.now loop.left c.requires.ticks_len c.requires.sister_value (loop.invariant.1 text picture bytes) here c.take_entry-next.result c.take_entry-next.ensures.same
    c.in-Some-message.is c.if-sent-written-lt-MESSAGE.true)

pub loop-tick-preserved : goal.loop-tick-preserved
loop-tick-preserved c = let loop = c.loop-tick in
    let here = next_of loop.invariant.0 (zip_turn c.args.ticks.now c.args.edges.now loop.yielded _ loop.tick-iterator c.next.new.self c.next.result (search rules) (search rules) loop.yielded_by _ c.in-Some.is c.next.ensures.steps) in (
      omega (arith, loop.invariant.0, length-append loop.yielded ((c.in-Some.tick, c.in-Some.edge) ∷ [])),
      elim c.match-next-2.branch [
        | in-Some-message+else-sent-written-lt-MESSAGE w ↦ λ text picture bytes. rw (w.sent-is, w.written-is)
            (turn_says c.args.ticks.now c.args.edges.now loop.left c.requires.ticks_len c.requires.sister_value (loop.invariant.1 text picture bytes) here c.take_entry-next.result c.take_entry-next.ensures.same
            w.in-Some-message.is w.if-sent-written-lt-MESSAGE.false w.bytes_of.ensures w.put-written.ensures.same w.put-written.ensures.buffer)
        | in_default w ↦ λ text picture bytes. rw (w.sent-is, w.written-is)
            (her_turn_quiet c.args.ticks.now c.args.edges.now loop.left c.requires.ticks_len c.requires.sister_value (loop.invariant.1 text picture bytes) here c.take_entry-next.result c.take_entry-next.ensures.same w.in_default.is)
      ],
    )

pub returns : goal.returns
returns c = let loop = c.loop-tick in
    let many = zip_end c.args.ticks.now c.args.edges.now loop.yielded _ loop.tick-iterator c.next.new.self c.next.result (search rules) (search rules) loop.yielded_by c.in-None.is c.next.ensures.steps in
    takes c.args.ticks.now c.args.edges.now (λ r. with_sister_keys r loop.left) _ (λ text picture bytes. c.sister_done-2.ensures)
    (λ text picture bytes. turns_end c.args.ticks.now c.args.edges.now c.requires.ticks_len (loop.invariant.1 text picture bytes) (omega (arith, many, loop.invariant.0, c.requires.ticks_len)))
