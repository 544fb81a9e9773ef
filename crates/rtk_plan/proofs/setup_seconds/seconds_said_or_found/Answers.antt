use Rattle.std.proofs.Common.{ℕ, Option, Some, sym, subst, refl}
use Rattle.rtk_systems.specs.FoundSeconds.{asks_glonass, AreSecondsOfSetup}
use Rattle.rtk_plan.proofs.setup_seconds.seconds_said_or_found.Goals as goal

pub returns-in-Some : goal.returns-in-Some
returns-in-Some c =
    let w = c.args.wanted.now in
    subst (λ (o : Option ℕ). AreSecondsOfSetup o (asks_glonass w.codes w.systems) c.args.surveys.now c.args.station c.args.near c.args.span.now.from c.args.span.now.until (Some c.in-Some.given)) (sym c.in-Some.is) refl
