use Rattle.std.proofs.Common.{ap, ◌∙◌}
use Rattle.rtk_message.specs.declared.accepted.Accepted.{Accepted}
use Rattle.rtk_message.specs.declared.system.System.TheVariants.{Gps}
use Rattle.rtk_message.specs.Accepted.{takes_kind}
use Rattle.rtk_setup.specs.Setup.{SetupView, lists_system}
use Rattle.rtk_setup.proofs.SetupLemmas.{takes-own}
use Rattle.rtk_setup.proofs.setup.Setup.takes_gps.Goals as goal

pub returns : goal.returns
returns c =
    c.takes.ensures ∙ ap (λ (a : Accepted). takes_kind a.gps c.self.inside.kinds.gps) c.self.invariant.1
    ∙ takes-own (lists_system c.self.inside.head.listed Gps) c.self.inside.kinds.gps
    ∙ ap (λ (s : SetupView). lists_system s.head.listed Gps) c.self.view_is
