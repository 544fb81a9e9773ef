use Rattle.std.proofs.Common.{refl}
use Rattle.rtk_convert.proofs.EpochsLemmas.{new-epochs}
use Rattle.rtk_convert.proofs.epochs.Epochs.new.Goals as goal

pub invariant_of-result : goal.invariant_of-result
invariant_of-result g c = refl

pub returns : goal.returns
returns g c =
    new-epochs g.E.FileEntry.signal_of c.args.setup.now c.new.result c.in_ok-new.field-0 c.window.result c.new.ensures.empty c.window.ensures.value
    c.in_ok-new.ensures.follows c.in_ok-new.ensures.below
