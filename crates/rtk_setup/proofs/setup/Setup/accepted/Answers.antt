use Rattle.std.proofs.Common.{ap, ◌∙◌}
use Rattle.rtk_setup.specs.Setup.{taken_by}
use Rattle.rtk_setup.proofs.setup.Setup.accepted.Goals as goal

pub returns : goal.returns
returns c = c.self.invariant.1 ∙ ap taken_by c.self.view_is
