use Rattle.std.proofs.Common.{[], None, List, eqb, sym, ap, subst, ◌∙◌}
use Rattle.std.proofs.lemmas.Result.{IfOk-weaker, on_err_weaker}
use Rattle.rtk_message.specs.declared.any_message.AnyMessage.TheVariants as any
use Rattle.rtk_collect.specs.declared.conflicts.SatelliteCode.{SatelliteCode}
use Rattle.rtk_collect.specs.declared.offer.Offer.{Offer}
use Rattle.rtk_collect.specs.declared.outcome.Outcome.{Outcome}
use Rattle.rtk_collect.specs.Arrival.{Arrival, At}
use Rattle.rtk_collect.specs.Collector.{CollectorView}
use Rattle.rtk_collect.specs.Key.{KeysRise}
use Rattle.rtk_collect.specs.Offered.{AnswersArrival, WouldBeTaken, outcome_of, listed_by}
use Rattle.rtk_collect.specs.Steps.Observed.{AddsCells, WouldTakeCells}
use Rattle.rtk_collect.specs.Steps.Slot.{window_of}
use Rattle.rtk_collect.proofs.RisingLemmas.{keys-rise}
use Rattle.rtk_collect.proofs.WindowLemmas.{observed-answers, observed-taken}
use Rattle.rtk_collect.proofs.collector.Collector.offer.Goals as goal
use Rattle.rtk_collect.specs.Gps.{gps}
use Rattle.rtk_obs.specs.MessageCells.{cells_of}
use Rattle.rtk_obs.specs.declared.cell.CellEntry.{CellEntry}

-- a station message

pub returns-in_default-clause-answer : goal.returns-in_default-clause-answer
returns-in_default-clause-answer c =
    let n = c.self.inside.places in
    let sets = c.self.inside.sets.items in
    let old : CollectorView CellEntry = window_of n sets c.self.inside.stations in
    let new : CollectorView CellEntry = window_of n sets c.offer-outcome.new.self in
    let message = c.dated.inside.message in
    let full = ap (λ t. eqb t n) (c.len.ensures ∙ c.self.inside.sets.ok.0) in
    let here : AnswersArrival gps cells_of old (At None (any.Message message)) c.offer-outcome.result [] new = c.offer-outcome.ensures.answer cells_of n sets full in
    let listed : AnswersArrival gps cells_of old (At None (any.Message message)) (outcome_of c.new-in_default.result) (listed_by c.new-in_default.result) new =
    subst (λ (o : Outcome CellEntry SatelliteCode). AnswersArrival gps cells_of old (At None (any.Message message)) o (listed_by c.new-in_default.result) new) (sym c.new-in_default.ensures.outcome)
    (subst (λ (l : List SatelliteCode). AnswersArrival gps cells_of old (At None (any.Message message)) c.offer-outcome.result l new) (sym (c.new-in_default.ensures.conflicts ∙ c.new.ensures)) here) in
    subst (λ (w : CollectorView CellEntry). AnswersArrival gps cells_of w c.args.dated (outcome_of c.new-in_default.result) (listed_by c.new-in_default.result) new) c.self.view_is
    (subst (λ (a : Arrival). AnswersArrival gps cells_of old a (outcome_of c.new-in_default.result) (listed_by c.new-in_default.result) new) (ap (λ e. At e (any.Message message)) (sym c.in_default.is) ∙ c.dated.view_is) listed)

-- an observation

pub join_epochs-requires-clause-rising : goal.join_epochs-requires-clause-rising
join_epochs-requires-clause-rising c = λ t. subst (KeysRise gps) (sym c.as_slice-cells.ensures.value) (keys-rise _ (c.put_cells_of-rises.ensures.rises t))

pub returns-clause-answer : goal.returns-clause-answer
returns-clause-answer c =
    let n = c.self.inside.places in
    let sets = c.self.inside.sets.items in
    let old : CollectorView CellEntry = window_of n sets c.self.inside.stations in
    let new : CollectorView CellEntry = window_of n c.join_epochs.new.sets.items c.self.inside.stations in
    let message = c.dated.inside.message in
    let cells = c.as_slice-cells.result.now in
    IfOk-weaker c.join_epochs.result (λ (offer : Offer). AddsCells gps n c.in-Some.epoch cells sets c.join_epochs.new.sets.items (outcome_of offer) (listed_by offer))
    (λ (offer : Offer). AnswersArrival gps cells_of c.args.self.now c.args.dated (outcome_of offer) (listed_by offer) new)
    (λ offer h. subst (λ (w : CollectorView CellEntry). AnswersArrival gps cells_of w c.args.dated (outcome_of offer) (listed_by offer) new) c.self.view_is
    (subst (λ (a : Arrival). AnswersArrival gps cells_of old a (outcome_of offer) (listed_by offer) new) (ap (λ e. At e (any.Message message)) (sym c.in-Some.is) ∙ c.dated.view_is)
    (observed-answers gps cells_of old c.in-Some.epoch (any.Message message) cells c.join_epochs.new.sets.items (outcome_of offer) (listed_by offer) (sym (c.as_slice-cells.ensures.value ∙ c.put_cells_of-rises.ensures.cells)) h)))
    c.join_epochs.ensures.added

pub returns-clause-refused : goal.returns-clause-refused
returns-clause-refused c =
    let n = c.self.inside.places in
    let sets = c.self.inside.sets.items in
    let old : CollectorView CellEntry = window_of n sets c.self.inside.stations in
    let message = c.dated.inside.message in
    let cells = c.as_slice-cells.result.now in
    on_err_weaker c.join_epochs.result (λ (h : WouldTakeCells gps n c.in-Some.epoch cells sets).
    subst (λ (w : CollectorView CellEntry). WouldBeTaken gps cells_of w c.args.dated) c.self.view_is
    (subst (λ (a : Arrival). WouldBeTaken gps cells_of old a) (ap (λ e. At e (any.Message message)) (sym c.in-Some.is) ∙ c.dated.view_is)
    (observed-taken gps cells_of old c.in-Some.epoch (any.Message message) cells (sym (c.as_slice-cells.ensures.value ∙ c.put_cells_of-rises.ensures.cells)) h)))
    c.join_epochs.ensures.refused
