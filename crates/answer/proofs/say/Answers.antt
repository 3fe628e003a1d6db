-- Each answer is put behind what is written. Assumes nothing.
use Rattle.answer.proofs.say.Goals as goal

pub returns-in-Version-clause-buffer : goal.returns-in-Version-clause-buffer
returns-in-Version-clause-buffer c = rw c.in-Version.is c.put-in-Version.ensures.buffer
