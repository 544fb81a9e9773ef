use Rattle.std.proofs.Common.{ap, sym, subst, ◌∙◌}
use Rattle.rtk_message.specs.declared.system.System.TheVariants.{Sbas}
use Rattle.rtk_setup.specs.Setup.{SetupView, AreSameChannels, entries_as, cells_by, channels_of, lists_system}
use Rattle.rtk_setup.proofs.SetupLemmas.{all-cells-same}
use Rattle.rtk_setup.proofs.setup.Setup.channels.Goals as goal

pub returns-clause-cells : goal.returns-clause-cells
returns-clause-cells c =
    let own = c.self.inside.channels in
    let head = c.self.inside.head in
    ap (λ (s : SetupView). entries_as s.head.doppler (lists_system s.head.listed Sbas) own) (sym c.self.view_is)
    ∙ all-cells-same head.doppler (lists_system head.listed Sbas) own (channels_of head.glonass) c.self.invariant.2
    ∙ ap cells_by c.self.view_is

pub returns-clause-slots : goal.returns-clause-slots
returns-clause-slots c = subst (λ (s : SetupView). AreSameChannels c.self.inside.channels (channels_of s.head.glonass)) c.self.view_is c.self.invariant.2
