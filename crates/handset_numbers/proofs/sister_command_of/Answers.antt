-- Each kind by its own number; the last one is what the others leave. Assumes nothing.
use Rattle.std.proofs.Common.{arith, ne_eqb}
use Rattle.handset_numbers.specs.Numbers.{sister_command_of}
use Rattle.handset_numbers.proofs.sister_command_of.Goals as goal

pub returns-in-64 : goal.returns-in-64
unfolding sister_command_of
returns-in-64 c = record { same = rw c.in-64.is }

pub returns-in-65 : goal.returns-in-65
unfolding sister_command_of
returns-in-65 c = record { same = rw c.in-65.is }

pub returns-in-66 : goal.returns-in-66
unfolding sister_command_of
returns-in-66 c = record { same = rw c.in-66.is }

pub returns-in-67 : goal.returns-in-67
unfolding sister_command_of
returns-in-67 c = record { same = rw c.in-67.is }

pub returns-in-68 : goal.returns-in-68
unfolding sister_command_of
returns-in-68 c = record { same = rw c.in-68.is }

pub returns-in-69 : goal.returns-in-69
unfolding sister_command_of
returns-in-69 c = record { same = rw c.in-69.is }

pub returns-in-70 : goal.returns-in-70
unfolding sister_command_of
returns-in-70 c = record { same = rw c.in-70.is }

pub returns-in-71 : goal.returns-in-71
unfolding sister_command_of
returns-in-71 c = record { same = rw c.in-71.is }

pub returns-in-72 : goal.returns-in-72
unfolding sister_command_of
returns-in-72 c = record { same = rw c.in-72.is }

pub returns-in-73 : goal.returns-in-73
unfolding sister_command_of
returns-in-73 c = record { same = rw c.in-73.is }

pub returns-in-74 : goal.returns-in-74
unfolding sister_command_of
returns-in-74 c = record { same = rw c.in-74.is }

pub returns-in-75 : goal.returns-in-75
unfolding sister_command_of
returns-in-75 c = record { same = rw c.in-75.is }

pub returns-in-76 : goal.returns-in-76
unfolding sister_command_of
returns-in-76 c = record { same = rw c.in-76.is }

pub returns-in-77 : goal.returns-in-77
unfolding sister_command_of
returns-in-77 c = record { same = rw c.in-77.is }

pub returns-in-78 : goal.returns-in-78
unfolding sister_command_of
returns-in-78 c = record { same = rw c.in-78.is }

pub returns-in-79 : goal.returns-in-79
unfolding sister_command_of
returns-in-79 c = record { same = rw c.in-79.is }

pub returns-in-80 : goal.returns-in-80
unfolding sister_command_of
returns-in-80 c = record { same = rw c.in-80.is }

pub returns-in-81 : goal.returns-in-81
unfolding sister_command_of
returns-in-81 c = record { same = rw c.in-81.is }

pub returns-in-82 : goal.returns-in-82
unfolding sister_command_of
returns-in-82 c = record { same = rw c.in-82.is }

pub returns-in-83 : goal.returns-in-83
unfolding sister_command_of
returns-in-83 c = record { same = rw c.in-83.is }

pub returns-in-84 : goal.returns-in-84
unfolding sister_command_of
returns-in-84 c = record { same = rw c.in-84.is }

pub returns-in-85 : goal.returns-in-85
unfolding sister_command_of
returns-in-85 c = record { same = rw c.in-85.is }

pub returns-in-86 : goal.returns-in-86
unfolding sister_command_of
returns-in-86 c = record { same = rw c.in-86.is }

pub returns-in-87 : goal.returns-in-87
unfolding sister_command_of
returns-in-87 c = record { same = rw c.in-87.is }

pub returns-in-88 : goal.returns-in-88
unfolding sister_command_of
returns-in-88 c = record { same = rw c.in-88.is }

pub returns-in-89 : goal.returns-in-89
unfolding sister_command_of
returns-in-89 c = record { same = rw c.in-89.is }

pub returns-in-90 : goal.returns-in-90
unfolding sister_command_of
returns-in-90 c = record { same = rw c.in-90.is }

pub returns-in-91 : goal.returns-in-91
unfolding sister_command_of
returns-in-91 c = record { same = rw c.in-91.is }

pub returns-in-92 : goal.returns-in-92
unfolding sister_command_of
returns-in-92 c = record { same = rw c.in-92.is }

pub returns-in-93 : goal.returns-in-93
unfolding sister_command_of
returns-in-93 c = record { same = rw c.in-93.is }

pub returns-in-94 : goal.returns-in-94
unfolding sister_command_of
returns-in-94 c = record { same = rw c.in-94.is }

pub returns-in-95 : goal.returns-in-95
unfolding sister_command_of
returns-in-95 c = record { same = rw c.in-95.is }

pub returns-in_default : goal.returns-in_default
unfolding sister_command_of
returns-in_default c = record { same = simp (ne_eqb c.args.kind 64 (omega arith), ne_eqb c.args.kind 65 (omega arith), ne_eqb c.args.kind 66 (omega arith), ne_eqb c.args.kind 67 (omega arith), ne_eqb c.args.kind 68 (omega arith), ne_eqb c.args.kind 69 (omega arith), ne_eqb c.args.kind 70 (omega arith), ne_eqb c.args.kind 71 (omega arith), ne_eqb c.args.kind 72 (omega arith), ne_eqb c.args.kind 73 (omega arith), ne_eqb c.args.kind 74 (omega arith), ne_eqb c.args.kind 75 (omega arith), ne_eqb c.args.kind 76 (omega arith), ne_eqb c.args.kind 77 (omega arith), ne_eqb c.args.kind 78 (omega arith), ne_eqb c.args.kind 79 (omega arith), ne_eqb c.args.kind 80 (omega arith), ne_eqb c.args.kind 81 (omega arith), ne_eqb c.args.kind 82 (omega arith), ne_eqb c.args.kind 83 (omega arith), ne_eqb c.args.kind 84 (omega arith), ne_eqb c.args.kind 85 (omega arith), ne_eqb c.args.kind 86 (omega arith), ne_eqb c.args.kind 87 (omega arith), ne_eqb c.args.kind 88 (omega arith), ne_eqb c.args.kind 89 (omega arith), ne_eqb c.args.kind 90 (omega arith), ne_eqb c.args.kind 91 (omega arith), ne_eqb c.args.kind 92 (omega arith), ne_eqb c.args.kind 93 (omega arith), ne_eqb c.args.kind 94 (omega arith), ne_eqb c.args.kind 95 (omega arith)) }
