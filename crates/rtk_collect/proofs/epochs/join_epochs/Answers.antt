use Rattle.std.proofs.Common.{◌≤◌, refl, ap, sym, ◌∙◌, subst, arith, length, List}
use Rattle.std.specs.List.{insert}
use Rattle.std.proofs.lemmas.Result.{err_from_is_err_and}
use Rattle.rtk_obs.specs.declared.cell.CellEntry.{CellEntry}
use Rattle.rtk_collect.specs.declared.conflicts.SatelliteCode.{SatelliteCode}
use Rattle.rtk_collect.specs.declared.outcome.Outcome.{Outcome}
use Rattle.rtk_collect.specs.Accepted.{no_cells}
use Rattle.rtk_collect.specs.Offered.{listed_by}
use Rattle.rtk_collect.specs.Steps.Observed.{AddsCells}
use Rattle.rtk_collect.proofs.JoinsLemmas.{leading-length}
use Rattle.rtk_collect.proofs.OffersLemmas.{length-insert}
use Rattle.rtk_collect.proofs.WindowLemmas.{open-branch, late-branch, new-branch, fresh-taken, new-taken}
use Rattle.rtk_collect.proofs.epochs.join_epochs.Goals as goal
use Rattle.rtk_collect.specs.Gps.{gps}

pub put_at-requires : goal.put_at-requires
put_at-requires c = let h = leading-length c.args.epoch c.args.sets.now.items in omega (arith, c.place_among-at.ensures)

pub returns-then-is_open-clause-added : goal.returns-then-is_open-clause-added
returns-then-is_open-clause-added c =
    let found = c.if-is_open.ensures.found refl in
    let d = no_cells 0 in
    let adds = open-branch gps c.args.places c.args.epoch c.place_among-at.result c.args.cells.now d c.args.sets.now.items c.join_at.new.sets.items c.in_ok-fresh.fresh c.join_at.new.found c.answer_of_joined-outcome.result
    c.requires.falls c.requires.fits c.place_among-at.ensures found.0 (found.1 d) (c.in_ok-fresh.ensures.items d) (c.in_ok-fresh.ensures.fresh d) (c.in_ok-fresh.ensures.conflicts d) c.answer_of_joined-outcome.ensures in
    subst (λ (o : Outcome CellEntry SatelliteCode). AddsCells gps c.args.places c.args.epoch c.args.cells.now c.args.sets.now.items c.join_at.new.sets.items o (listed_by c.new.result)) (sym c.new.ensures.outcome)
    (subst (λ (l : List SatelliteCode). AddsCells gps c.args.places c.args.epoch c.args.cells.now c.args.sets.now.items c.join_at.new.sets.items c.answer_of_joined-outcome.result l) (sym c.new.ensures.conflicts) adds)

pub returns-then-at-places-clause-added : goal.returns-then-at-places-clause-added
returns-then-at-places-clause-added c =
    late-branch gps c.args.places c.args.epoch c.place_among-at.result c.args.cells.now c.args.sets.now.items c.requires.falls c.requires.fits c.place_among-at.ensures c.if-at-places.true

pub returns-clause-added : goal.returns-clause-added
returns-clause-added c =
    let absent = c.if-is_open.ensures.absent refl in
    let d = no_cells 0 in
    let within : c.place_among-at.result ≤ length c.args.sets.now.items = (let h = leading-length c.args.epoch c.args.sets.now.items in omega (arith, c.place_among-at.ensures)) in
    let items = c.in_ok-put_at.ensures.items ∙ ap (insert c.args.sets.now.items c.place_among-at.result) c.in_ok-set.ensures.set in
    new-branch gps c.args.places c.args.epoch c.place_among-at.result c.args.cells.now d c.args.sets.now.items c.put_at.new.sets.items c.close_least-closed.new.sets.items c.close_least-closed.result c.open.new.found
    c.requires.falls c.requires.fits c.place_among-at.ensures c.if-at-places.false (λ l. absent l d) items (ap length items ∙ length-insert _ c.place_among-at.result c.args.sets.now.items within)
    c.close_least-closed.ensures.items c.close_least-closed.ensures.few c.in_ok-set.ensures.conflicts

-- memory is refused

pub returns-in_err-fresh-clause-refused : goal.returns-in_err-fresh-clause-refused
returns-in_err-fresh-clause-refused c =
    let p = err_from_is_err_and c.from_residual.result c.from_residual.ensures.1 in
    let found = c.if-is_open.ensures.found refl in
    let d = no_cells 0 in
    rw p.1 (λ m k before h. fresh-taken gps c.args.places c.args.epoch c.place_among-at.result c.args.cells.now d c.args.sets.now.items c.requires.fits c.place_among-at.ensures found.0 (found.1 d) (c.in_err-fresh.ensures.refused d) m k before h)

pub returns-in_err-set-clause-refused : goal.returns-in_err-set-clause-refused
returns-in_err-set-clause-refused c =
    let p = err_from_is_err_and c.from_residual-in_err-set.result c.from_residual-in_err-set.ensures.1 in
    let absent = c.if-is_open.ensures.absent refl in
    let d = no_cells 0 in
    rw p.1 (λ m k before h. new-taken gps c.args.places c.args.epoch c.place_among-at.result c.args.cells.now d c.args.sets.now.items c.requires.falls c.requires.fits c.place_among-at.ensures c.if-at-places.false (λ l. absent l d) m k before h)

pub returns-in_err-put_at-clause-refused : goal.returns-in_err-put_at-clause-refused
returns-in_err-put_at-clause-refused c =
    let p = err_from_is_err_and c.from_residual-in_err-put_at.result c.from_residual-in_err-put_at.ensures.1 in
    let absent = c.if-is_open.ensures.absent refl in
    let d = no_cells 0 in
    rw p.1 (λ m k before h. new-taken gps c.args.places c.args.epoch c.place_among-at.result c.args.cells.now d c.args.sets.now.items c.requires.falls c.requires.fits c.place_among-at.ensures c.if-at-places.false (λ l. absent l d) m k before h)
