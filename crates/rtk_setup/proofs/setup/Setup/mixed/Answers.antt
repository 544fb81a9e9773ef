use Rattle.std.proofs.Common.{rules, false, None, refl, sym}
use Rattle.rtk_setup.specs.Setup.{SetupView}
use Rattle.rtk_setup.proofs.setup.Setup.mixed.Goals as goal

pub invariant_of-result : goal.invariant_of-result
invariant_of-result c =
    let s : SetupView =
    record { station = c.args.station; near = c.args.near; head = c.args.head; window = c.args.window; kinds = c.all-kinds.result; leap_seconds = None; takes_1012 = false } in
    (search rules, c.accepted_by-accepted.ensures s (sym c.codes.ensures.value) refl refl, c.channels_of-channels.ensures)
