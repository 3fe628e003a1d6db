-- Two commands are spoken of. Assumes nothing.
use Rattle.choice.proofs.command_sign.Goals as goal

pub returns-in-Mode : goal.returns-in-Mode
returns-in-Mode c = record { same = rw c.in-Mode.is }

pub returns-in-LabelsEmpty : goal.returns-in-LabelsEmpty
returns-in-LabelsEmpty c = record { same = rw c.in-LabelsEmpty.is }
