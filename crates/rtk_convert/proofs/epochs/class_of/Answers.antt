use Rattle.std.proofs.Common.{refl}
use Rattle.rtk_convert.proofs.epochs.class_of.Goals as goal

pub returns-in-Late : goal.returns-in-Late
returns-in-Late g c = rw c.in-Late.is refl

pub returns-in-Taken : goal.returns-in-Taken
returns-in-Taken g c = rw c.in-Taken.is refl

pub returns-in-Repeat : goal.returns-in-Repeat
returns-in-Repeat g c = rw c.in-Repeat.is refl

pub returns-in-Conflict : goal.returns-in-Conflict
returns-in-Conflict g c = rw c.in-Conflict.is refl
