use Rattle.std.proofs.Common.{ℤ, List, Option, sym, subst}
use Rattle.rtk_systems.specs.SlotChannels.{AreChannelsChosen}
use Rattle.rtk_plan.proofs.station_setup.channels_chosen.Goals as goal

pub returns-in-Some : goal.returns-in-Some
returns-in-Some c =
    subst (λ (o : Option (List (Option ℤ))). AreChannelsChosen o c.args.surveys.now c.args.station c.args.taken c.channels_joined.result) (sym c.in-Some.is)
    (c.channels_found-found.result, c.channels_found-found.ensures, c.channels_joined.ensures)

pub returns-in-None : goal.returns-in-None
returns-in-None c =
    subst (λ (o : Option (List (Option ℤ))). AreChannelsChosen o c.args.surveys.now c.args.station c.args.taken c.channels_found-found.result) (sym c.in-None.is)
    c.channels_found-found.ensures
