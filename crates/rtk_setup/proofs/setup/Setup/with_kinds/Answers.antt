use Rattle.std.proofs.Common.{refl, sym}
use Rattle.rtk_setup.specs.Setup.{SetupView}
use Rattle.rtk_setup.proofs.setup.Setup.with_kinds.Goals as goal

pub invariant_of-result : goal.invariant_of-result
invariant_of-result c =
    let old = c.self.inside in
    let s : SetupView =
    record { station = old.station; near = old.near; head = old.head; window = old.window; kinds = c.args.kinds; leap_seconds = old.leap_seconds; takes_1012 = old.takes_1012 } in
    (c.self.invariant.0, c.accepted_by-accepted.ensures s (sym c.codes.ensures.value) refl refl, c.self.invariant.2)
