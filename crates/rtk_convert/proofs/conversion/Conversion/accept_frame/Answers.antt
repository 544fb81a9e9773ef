use Rattle.std.proofs.Common.{true, refl, sym, subst}
use Rattle.std.proofs.lemmas.Result.{err_from_is_err_and}
use Rattle.rtk_convert.specs.Conversion.{ConversionView, IsAhead}
use Rattle.rtk_convert.specs.Outcome.{KeepsWindow}
use Rattle.rtk_convert.specs.Steps.EpochsSteps.{epochs_in}
use Rattle.rtk_convert.proofs.ArriveLemmas.{state}
use Rattle.rtk_convert.proofs.OutcomeLemmas.{keeps-seen, payload-still, payload-off}
use Rattle.rtk_convert.proofs.conversion.Conversion.accept_frame.Goals as goal

pub invariant_of-self-2 : goal.invariant_of-self-2
invariant_of-self-2 g c = (
  refl,
  c.self-2.invariant.1,
  record {
    places = c.self-2.invariant.2.places;
    few = c.self-2.invariant.2.few;
    ahead = λ going. subst (λ (x : ConversionView). IsAhead x.collector x.closed_epochs) (sym c.self-2.view_is) c.in_ok-epoch.ensures.stays.ahead;
  },
)

pub returns-clause-keeps : goal.returns-clause-keeps
returns-clause-keeps g c =
    let k = c.handle_payload.ensures.stays.keeps in
    let seen = subst (λ (x : ConversionView). KeepsWindow (state c.self.inside.setup (epochs_in c.self.inside.epochs).collector (epochs_in c.self.inside.epochs).closed c.self.inside.counts c.self.inside.remarks true) x) (sym c.self-2.view_is) k in
    keeps-seen c.self.view_is (record { same_setup = seen.same_setup; few = seen.few; held = seen.held })

pub returns-in_err-epoch-clause-keeps : goal.returns-in_err-epoch-clause-keeps
returns-in_err-epoch-clause-keeps g c =
    let k = c.handle_payload.ensures.stays.keeps in
    keeps-seen c.self.view_is (record { same_setup = k.same_setup; few = k.few; held = k.held })

pub returns-clause-handles : goal.returns-clause-handles
returns-clause-handles g c = λ going. payload-still c.self.view_is c.self-2.view_is c.in_ok-epoch.ensures.handles

pub returns-in_err-epoch-clause-handles : goal.returns-in_err-epoch-clause-handles
returns-in_err-epoch-clause-handles g c = λ going.
    let p = err_from_is_err_and c.from_residual.result c.from_residual.ensures.1 in
    rw (p.1, p.2) (payload-off c.self.view_is c.in_err-epoch.ensures.handles)

pub returns-in_err-epoch-clause-halts : goal.returns-in_err-epoch-clause-halts
returns-in_err-epoch-clause-halts g c =
    let p = err_from_is_err_and c.from_residual.result c.from_residual.ensures.1 in
    rw (p.1) c.handle_payload.ensures.stays.stopped

pub returns-in_err-epoch-clause-failed : goal.returns-in_err-epoch-clause-failed
returns-in_err-epoch-clause-failed g c =
    let p = err_from_is_err_and c.from_residual.result c.from_residual.ensures.1 in
    rw (p.1, p.2) c.in_err-epoch.ensures.failed
