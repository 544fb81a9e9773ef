use Rattle.std.proofs.Common.{◌≡◌, sym, subst}
use Rattle.rtk_convert.specs.declared.epochs.AnyEpochs.{AnyEpochs}
use Rattle.rtk_convert.specs.Conversion.{IsAhead}
use Rattle.rtk_convert.specs.Writing.{written}
use Rattle.rtk_convert.specs.Steps.AddedMessage.{AddsArrival}
use Rattle.rtk_convert.specs.Steps.EpochsSteps.{AreEpochsOf, HandsOn, epochs_in}
use Rattle.rtk_convert.proofs.epochs.AnyEpochs.add.Goals as goal

pub add-requires-clause-gps : goal.add-requires-clause-gps
add-requires-clause-gps g c = subst (AreEpochsOf c.args.setup.now) c.in-Gps.is c.requires.form

pub add-requires-clause-places : goal.add-requires-clause-places
add-requires-clause-places g c = subst (λ (e : AnyEpochs). (epochs_in e).collector.places ≡ c.args.setup.now.window) c.in-Gps.is c.requires.places

pub add-requires-clause-ahead : goal.add-requires-clause-ahead
add-requires-clause-ahead g c = subst (λ (e : AnyEpochs). IsAhead (epochs_in e).collector (epochs_in e).closed) c.in-Gps.is c.requires.ahead

pub add_signals-requires-clause-places : goal.add_signals-requires-clause-places
add_signals-requires-clause-places g c = subst (λ (e : AnyEpochs). (epochs_in e).collector.places ≡ c.args.setup.now.window) c.in-Any.is c.requires.places

pub add_signals-requires-clause-ahead : goal.add_signals-requires-clause-ahead
add_signals-requires-clause-ahead g c = subst (λ (e : AnyEpochs). IsAhead (epochs_in e).collector (epochs_in e).closed) c.in-Any.is c.requires.ahead

pub returns-in-Gps-clause-stays : goal.returns-in-Gps-clause-stays
returns-in-Gps-clause-stays g c = subst (λ (e : AnyEpochs). HandsOn c.args.setup.now (epochs_in e) c.add.result c.add.new.self) (sym c.in-Gps.is) c.add.ensures.stays

pub returns-in-Gps-clause-form : goal.returns-in-Gps-clause-form
returns-in-Gps-clause-form g c = subst (AreEpochsOf c.args.setup.now) c.in-Gps.is c.requires.form

pub returns-in-Gps-clause-adds : goal.returns-in-Gps-clause-adds
returns-in-Gps-clause-adds g c =
    subst (λ (e : AnyEpochs). AddsArrival c.args.setup.now (epochs_in e) c.args.link c.args.dated c.add.result c.add.new.self
    (written (g.O.Sink.taken c.args.out.now) (g.L.Sink.taken c.args.log.now)) (written (g.O.Sink.taken c.add.new.out) (g.L.Sink.taken c.add.new.log))) (sym c.in-Gps.is) c.add.ensures.adds

pub returns-in-Any-clause-stays : goal.returns-in-Any-clause-stays
returns-in-Any-clause-stays g c = subst (λ (e : AnyEpochs). HandsOn c.args.setup.now (epochs_in e) c.add_signals.result c.add_signals.new.self) (sym c.in-Any.is) c.add_signals.ensures.stays

pub returns-in-Any-clause-adds : goal.returns-in-Any-clause-adds
returns-in-Any-clause-adds g c =
    subst (λ (e : AnyEpochs). AddsArrival c.args.setup.now (epochs_in e) c.args.link c.args.dated c.add_signals.result c.add_signals.new.self
    (written (g.O.Sink.taken c.args.out.now) (g.L.Sink.taken c.args.log.now)) (written (g.O.Sink.taken c.add_signals.new.out) (g.L.Sink.taken c.add_signals.new.log))) (sym c.in-Any.is) c.add_signals.ensures.adds
