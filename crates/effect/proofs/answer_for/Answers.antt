-- Three commands are questions. Assumes nothing.
use Rattle.effect.proofs.answer_for.Goals as goal

pub returns-in-ContrastAsked : goal.returns-in-ContrastAsked
returns-in-ContrastAsked c = record { same = rw c.in-ContrastAsked.is }

pub returns-in-HookAsked : goal.returns-in-HookAsked
returns-in-HookAsked c = record { same = rw c.in-HookAsked.is }

pub returns-in-VersionAsked : goal.returns-in-VersionAsked
returns-in-VersionAsked c = record { same = rw c.in-VersionAsked.is }
