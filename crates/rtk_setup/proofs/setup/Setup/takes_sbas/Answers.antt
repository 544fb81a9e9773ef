use Rattle.std.proofs.Common.{ap, ◌∙◌}
use Rattle.rtk_message.specs.declared.accepted.Accepted.{Accepted}
use Rattle.rtk_message.specs.declared.system.System.TheVariants.{Sbas}
use Rattle.rtk_message.specs.Accepted.{takes_kind}
use Rattle.rtk_setup.specs.Setup.{SetupView, lists_system}
use Rattle.rtk_setup.proofs.SetupLemmas.{takes-own}
use Rattle.rtk_setup.proofs.setup.Setup.takes_sbas.Goals as goal

pub returns : goal.returns
returns c =
    c.takes.ensures ∙ ap (λ (a : Accepted). takes_kind a.sbas c.self.inside.kinds.sbas) c.self.invariant.1
    ∙ takes-own (lists_system c.self.inside.head.listed Sbas) c.self.inside.kinds.sbas
    ∙ ap (λ (s : SetupView). lists_system s.head.listed Sbas) c.self.view_is
