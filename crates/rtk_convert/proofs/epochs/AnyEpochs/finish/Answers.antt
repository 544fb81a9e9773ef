use Rattle.std.proofs.Common.{arith, ◌≡◌, sym, subst}
use Rattle.rtk_convert.specs.declared.epochs.AnyEpochs.{AnyEpochs}
use Rattle.rtk_convert.specs.Conversion.{IsAhead}
use Rattle.rtk_convert.specs.Steps.Closing.{EndsEpochs}
use Rattle.rtk_convert.specs.Steps.EpochsSteps.{AreEpochsOf, epochs_in}
use Rattle.rtk_convert.proofs.GpsOfferLemmas.{shows-none}
use Rattle.rtk_convert.proofs.epochs.AnyEpochs.finish.Goals as goal

pub finish-requires : goal.finish-requires
finish-requires g c = (
  omega arith,
  (
    omega arith,
    (
      shows-none c.args.setup.now (subst (AreEpochsOf c.args.setup.now) c.in-Gps.is c.requires.form),
      (
        subst (λ (e : AnyEpochs). (epochs_in e).collector.places ≡ c.args.setup.now.window) c.in-Gps.is c.requires.places,
        subst (λ (e : AnyEpochs). IsAhead (epochs_in e).collector (epochs_in e).closed) c.in-Gps.is c.requires.ahead,
      ),
    ),
  ),
)

pub returns-in-Gps-clause-ends : goal.returns-in-Gps-clause-ends
returns-in-Gps-clause-ends g c = subst (λ (e : AnyEpochs). EndsEpochs c.args.setup.now (epochs_in e) c.finish.result (g.O.Sink.taken c.args.out.now) (g.O.Sink.taken c.finish.new.out)) (sym c.in-Gps.is) c.finish.ensures.ends

pub finish-requires-in-Any : goal.finish-requires-in-Any
finish-requires-in-Any g c = (
  omega arith,
  (
    omega arith,
    (
      tt,
      (
        subst (λ (e : AnyEpochs). (epochs_in e).collector.places ≡ c.args.setup.now.window) c.in-Any.is c.requires.places,
        subst (λ (e : AnyEpochs). IsAhead (epochs_in e).collector (epochs_in e).closed) c.in-Any.is c.requires.ahead,
      ),
    ),
  ),
)

pub returns-in-Any-clause-ends : goal.returns-in-Any-clause-ends
returns-in-Any-clause-ends g c = subst (λ (e : AnyEpochs). EndsEpochs c.args.setup.now (epochs_in e) c.finish-in-Any.result (g.O.Sink.taken c.args.out.now) (g.O.Sink.taken c.finish-in-Any.new.out)) (sym c.in-Any.is) c.finish-in-Any.ensures.ends
