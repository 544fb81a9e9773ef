use Rattle.std.proofs.Common.{sym, ◌∙◌}
use Rattle.std.proofs.lemmas.Bool.{le-ltb}
use Rattle.rtk_tracking.proofs.ObservationLemmas.{phase-at, no-phase}
use Rattle.rtk_tracking.proofs.observations.shows_phase.Goals as goal

pub returns-then-place-observed : goal.returns-then-place-observed
returns-then-place-observed c = c.is_some.ensures ∙ sym (phase-at c.args.place c.args.observed.now _ c.if-place-observed.true)

pub returns-else-place-observed : goal.returns-else-place-observed
returns-else-place-observed c = le-ltb _ _ c.if-place-observed.false ∙ sym (no-phase c.args.place c.args.observed.now c.if-place-observed.false)
