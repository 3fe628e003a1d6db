-- Each kind by its own number; the last one is what the others leave. Assumes nothing.
use Rattle.std.proofs.Common.{arith, ne_eqb}
use Rattle.handset_numbers.specs.Numbers.{command_of}
use Rattle.handset_numbers.proofs.command_of.Goals as goal

pub returns-in-0 : goal.returns-in-0
unfolding command_of
returns-in-0 c = record { same = rw c.in-0.is }

pub returns-in-1 : goal.returns-in-1
unfolding command_of
returns-in-1 c = record { same = rw c.in-1.is }

pub returns-in-2 : goal.returns-in-2
unfolding command_of
returns-in-2 c = record { same = rw c.in-2.is }

pub returns-in-3 : goal.returns-in-3
unfolding command_of
returns-in-3 c = record { same = rw c.in-3.is }

pub returns-in-4 : goal.returns-in-4
unfolding command_of
returns-in-4 c = record { same = rw c.in-4.is }

pub returns-in-5 : goal.returns-in-5
unfolding command_of
returns-in-5 c = record { same = rw c.in-5.is }

pub returns-in-6 : goal.returns-in-6
unfolding command_of
returns-in-6 c = record { same = rw c.in-6.is }

pub returns-in-7 : goal.returns-in-7
unfolding command_of
returns-in-7 c = record { same = rw c.in-7.is }

pub returns-in-8 : goal.returns-in-8
unfolding command_of
returns-in-8 c = record { same = rw c.in-8.is }

pub returns-in-9 : goal.returns-in-9
unfolding command_of
returns-in-9 c = record { same = rw c.in-9.is }

pub returns-in-10 : goal.returns-in-10
unfolding command_of
returns-in-10 c = record { same = rw c.in-10.is }

pub returns-in-11 : goal.returns-in-11
unfolding command_of
returns-in-11 c = record { same = rw c.in-11.is }

pub returns-in-12 : goal.returns-in-12
unfolding command_of
returns-in-12 c = record { same = rw c.in-12.is }

pub returns-in-13 : goal.returns-in-13
unfolding command_of
returns-in-13 c = record { same = rw c.in-13.is }

pub returns-in-14 : goal.returns-in-14
unfolding command_of
returns-in-14 c = record { same = rw c.in-14.is }

pub returns-in-15 : goal.returns-in-15
unfolding command_of
returns-in-15 c = record { same = rw c.in-15.is }

pub returns-in-16 : goal.returns-in-16
unfolding command_of
returns-in-16 c = record { same = rw c.in-16.is }

pub returns-in-17 : goal.returns-in-17
unfolding command_of
returns-in-17 c = record { same = rw c.in-17.is }

pub returns-in-18 : goal.returns-in-18
unfolding command_of
returns-in-18 c = record { same = rw c.in-18.is }

pub returns-in-19 : goal.returns-in-19
unfolding command_of
returns-in-19 c = record { same = rw c.in-19.is }

pub returns-in-20 : goal.returns-in-20
unfolding command_of
returns-in-20 c = record { same = rw c.in-20.is }

pub returns-in-21 : goal.returns-in-21
unfolding command_of
returns-in-21 c = record { same = rw c.in-21.is }

pub returns-in-22 : goal.returns-in-22
unfolding command_of
returns-in-22 c = record { same = rw c.in-22.is }

pub returns-in-23 : goal.returns-in-23
unfolding command_of
returns-in-23 c = record { same = rw c.in-23.is }

pub returns-in-24 : goal.returns-in-24
unfolding command_of
returns-in-24 c = record { same = rw c.in-24.is }

pub returns-in-25 : goal.returns-in-25
unfolding command_of
returns-in-25 c = record { same = rw c.in-25.is }

pub returns-in-26 : goal.returns-in-26
unfolding command_of
returns-in-26 c = record { same = rw c.in-26.is }

pub returns-in-27 : goal.returns-in-27
unfolding command_of
returns-in-27 c = record { same = rw c.in-27.is }

pub returns-in-28 : goal.returns-in-28
unfolding command_of
returns-in-28 c = record { same = rw c.in-28.is }

pub returns-in-29 : goal.returns-in-29
unfolding command_of
returns-in-29 c = record { same = rw c.in-29.is }

pub returns-in-30 : goal.returns-in-30
unfolding command_of
returns-in-30 c = record { same = rw c.in-30.is }

pub returns-in-31 : goal.returns-in-31
unfolding command_of
returns-in-31 c = record { same = rw c.in-31.is }

pub returns-in_default : goal.returns-in_default
unfolding command_of
returns-in_default c = record { same = simp (ne_eqb c.args.kind 0 (omega arith), ne_eqb c.args.kind 1 (omega arith), ne_eqb c.args.kind 2 (omega arith), ne_eqb c.args.kind 3 (omega arith), ne_eqb c.args.kind 4 (omega arith), ne_eqb c.args.kind 5 (omega arith), ne_eqb c.args.kind 6 (omega arith), ne_eqb c.args.kind 7 (omega arith), ne_eqb c.args.kind 8 (omega arith), ne_eqb c.args.kind 9 (omega arith), ne_eqb c.args.kind 10 (omega arith), ne_eqb c.args.kind 11 (omega arith), ne_eqb c.args.kind 12 (omega arith), ne_eqb c.args.kind 13 (omega arith), ne_eqb c.args.kind 14 (omega arith), ne_eqb c.args.kind 15 (omega arith), ne_eqb c.args.kind 16 (omega arith), ne_eqb c.args.kind 17 (omega arith), ne_eqb c.args.kind 18 (omega arith), ne_eqb c.args.kind 19 (omega arith), ne_eqb c.args.kind 20 (omega arith), ne_eqb c.args.kind 21 (omega arith), ne_eqb c.args.kind 22 (omega arith), ne_eqb c.args.kind 23 (omega arith), ne_eqb c.args.kind 24 (omega arith), ne_eqb c.args.kind 25 (omega arith), ne_eqb c.args.kind 26 (omega arith), ne_eqb c.args.kind 27 (omega arith), ne_eqb c.args.kind 28 (omega arith), ne_eqb c.args.kind 29 (omega arith), ne_eqb c.args.kind 30 (omega arith), ne_eqb c.args.kind 31 (omega arith)) }
