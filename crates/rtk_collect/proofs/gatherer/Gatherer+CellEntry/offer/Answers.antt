use Rattle.std.proofs.Common.{rules, arith, IsTrue, [], None, Some, List, eqb, sym, ap, subst, ◌∙◌}
use Rattle.std.proofs.lemmas.Result.{IfOk-weaker, on_err_weaker}
use Rattle.rtk_message.specs.declared.any_message.AnyMessage.TheVariants as any
use Rattle.rtk_collect.specs.declared.conflicts.SatelliteCode.{SatelliteCode}
use Rattle.rtk_collect.specs.declared.outcome.Outcome.{Outcome}
use Rattle.rtk_collect.specs.Arrival.{Arrival, At}
use Rattle.rtk_collect.specs.Collector.{CollectorView}
use Rattle.rtk_collect.specs.Offered.{AnswersArrival, WouldBeTaken}
use Rattle.rtk_collect.specs.Steps.Borrowed.{borrowed}
use Rattle.rtk_collect.specs.Steps.Observed.{AddsCells, WouldTakeCells}
use Rattle.rtk_collect.specs.Steps.Slot.{window_of}
use Rattle.rtk_obs.specs.LegacyCells.{cells_of_1004}
use Rattle.rtk_obs.specs.MessageCells.{cells_of}
use Rattle.rtk_obs.proofs.PublicLaws.{cells_of-kind}
use Rattle.rtk_collect.specs.Key.{KeysRise}
use Rattle.rtk_collect.specs.EpochSet.{AreOfOneSource}
use Rattle.rtk_collect.proofs.RisingLemmas.{keys-rise}
use Rattle.rtk_collect.proofs.WindowLemmas.{observed-answers, observed-taken}
use Rattle.rtk_collect.proofs.gatherer.Gatherer+CellEntry.offer.Goals as goal
use Rattle.rtk_collect.specs.Gps.{gps}
use Rattle.rtk_obs.specs.declared.cell.CellEntry.{CellEntry}

pub offer_cells-requires : goal.offer_cells-requires
offer_cells-requires c =
    let kind = subst (AreOfOneSource gps) (sym (c.as_slice-cells.ensures.value ∙ c.put_cells-rises.ensures.cells)) (cells_of-kind _) in
    let rising : IsTrue c.put_cells-rises.result → KeysRise gps c.as_slice-cells.result.now = λ t. subst (KeysRise gps) (sym c.as_slice-cells.ensures.value) (keys-rise _ (c.put_cells-rises.ensures.rises t)) in
    (omega arith, (search rules, (search rules, (c.place_of_epoch-at.ensures, (c.as_slice-cells.ensures.fits, (search rules, (kind, (rising, (search rules, c.clear.ensures)))))))))

pub returns-in_default-clause-answer : goal.returns-in_default-clause-answer
returns-in_default-clause-answer c =
    let n = c.self.inside.places in
    let sets = c.self.inside.sets.items in
    let old : CollectorView CellEntry = window_of n sets c.self.inside.stations in
    let new : CollectorView CellEntry = window_of n sets c.offer.new.self in
    let message = c.in-Message.message.now in
    let full = ap (λ t. eqb t n) (c.len.ensures ∙ c.self.inside.sets.ok.0) in
    let here : AnswersArrival gps cells_of old (At None (any.Message message)) c.offer.result [] new = c.offer.ensures.answer cells_of n sets full in
    let is = ap (λ m. At None (borrowed m)) (sym c.in-Message.is) ∙ ap (λ e. At e (borrowed c.dated.inside.message)) (sym c.in_default.is) ∙ c.dated.view_is in
    subst (λ (w : CollectorView CellEntry). AnswersArrival gps cells_of w c.args.dated c.offer.result c.clear.new.self new) c.self.view_is
    (subst (λ (a : Arrival). AnswersArrival gps cells_of old a c.offer.result c.clear.new.self new) is
    (subst (λ (l : List SatelliteCode). AnswersArrival gps cells_of old (At None (any.Message message)) c.offer.result l new) (sym c.clear.ensures) here))

pub returns-in-Some-first-clause-answer : goal.returns-in-Some-first-clause-answer
returns-in-Some-first-clause-answer c =
    let n = c.self.inside.places in
    let sets = c.self.inside.sets.items in
    let old : CollectorView CellEntry = window_of n sets c.self.inside.stations in
    let new : CollectorView CellEntry = window_of n c.offer_first.new.sets.items c.self.inside.stations in
    let message = borrowed c.dated.inside.message in
    let cells = cells_of_1004 c.in-Some-first.satellites.now in
    IfOk-weaker c.offer_first.result (λ (offer : Outcome CellEntry SatelliteCode). AddsCells gps n c.in-Some.epoch cells sets c.offer_first.new.sets.items offer [])
    (λ (offer : Outcome CellEntry SatelliteCode). AnswersArrival gps cells_of c.args.self.now c.args.dated offer c.clear.new.self new)
    (λ offer h. subst (λ (w : CollectorView CellEntry). AnswersArrival gps cells_of w c.args.dated offer c.clear.new.self new) c.self.view_is
    (subst (λ (a : Arrival). AnswersArrival gps cells_of old a offer c.clear.new.self new) (ap (λ e. At e message) (sym c.in-Some.is) ∙ c.dated.view_is)
    (subst (λ (l : List SatelliteCode). AnswersArrival gps cells_of old (At (Some c.in-Some.epoch) message) offer l new) (sym c.clear.ensures)
    (observed-answers gps cells_of old c.in-Some.epoch message cells c.offer_first.new.sets.items offer [] c.in-Some-first.ensures.cells h))))
    c.offer_first.ensures.added

pub returns-in-Some-first-clause-refused : goal.returns-in-Some-first-clause-refused
returns-in-Some-first-clause-refused c =
    let n = c.self.inside.places in
    let sets = c.self.inside.sets.items in
    let old : CollectorView CellEntry = window_of n sets c.self.inside.stations in
    let message = borrowed c.dated.inside.message in
    let cells = cells_of_1004 c.in-Some-first.satellites.now in
    on_err_weaker c.offer_first.result (λ (h : WouldTakeCells gps n c.in-Some.epoch cells sets).
    subst (λ (w : CollectorView CellEntry). WouldBeTaken gps cells_of w c.args.dated) c.self.view_is
    (subst (λ (a : Arrival). WouldBeTaken gps cells_of old a) (ap (λ e. At e message) (sym c.in-Some.is) ∙ c.dated.view_is)
    (observed-taken gps cells_of old c.in-Some.epoch message cells c.in-Some-first.ensures.cells h)))
    c.offer_first.ensures.refused

pub returns-clause-answer : goal.returns-clause-answer
returns-clause-answer c =
    let n = c.self.inside.places in
    let sets = c.self.inside.sets.items in
    let old : CollectorView CellEntry = window_of n sets c.self.inside.stations in
    let new : CollectorView CellEntry = window_of n c.offer_cells.new.sets.items c.self.inside.stations in
    let message = borrowed c.dated.inside.message in
    let cells = c.as_slice-cells.result.now in
    IfOk-weaker c.offer_cells.result (λ (offer : Outcome CellEntry SatelliteCode). AddsCells gps n c.in-Some.epoch cells sets c.offer_cells.new.sets.items offer c.offer_cells.new.found)
    (λ (offer : Outcome CellEntry SatelliteCode). AnswersArrival gps cells_of c.args.self.now c.args.dated offer c.offer_cells.new.found new)
    (λ offer h. subst (λ (w : CollectorView CellEntry). AnswersArrival gps cells_of w c.args.dated offer c.offer_cells.new.found new) c.self.view_is
    (subst (λ (a : Arrival). AnswersArrival gps cells_of old a offer c.offer_cells.new.found new) (ap (λ e. At e message) (sym c.in-Some.is) ∙ c.dated.view_is)
    (observed-answers gps cells_of old c.in-Some.epoch message cells c.offer_cells.new.sets.items offer c.offer_cells.new.found (sym (c.as_slice-cells.ensures.value ∙ c.put_cells-rises.ensures.cells)) h)))
    c.offer_cells.ensures.added

pub returns-clause-refused : goal.returns-clause-refused
returns-clause-refused c =
    let n = c.self.inside.places in
    let sets = c.self.inside.sets.items in
    let old : CollectorView CellEntry = window_of n sets c.self.inside.stations in
    let message = borrowed c.dated.inside.message in
    let cells = c.as_slice-cells.result.now in
    on_err_weaker c.offer_cells.result (λ (h : WouldTakeCells gps n c.in-Some.epoch cells sets).
    subst (λ (w : CollectorView CellEntry). WouldBeTaken gps cells_of w c.args.dated) c.self.view_is
    (subst (λ (a : Arrival). WouldBeTaken gps cells_of old a) (ap (λ e. At e message) (sym c.in-Some.is) ∙ c.dated.view_is)
    (observed-taken gps cells_of old c.in-Some.epoch message cells (sym (c.as_slice-cells.ensures.value ∙ c.put_cells-rises.ensures.cells)) h)))
    c.offer_cells.ensures.refused
