use Rattle.std.proofs.Common.{rules, ◌≡◌, ◌≤◌, ◌<◌, [], Ok, Err, refl, ap, sym, ◌∙◌, arith, length, get_or}
use Rattle.std.specs.Prelude.{slice_set}
use Rattle.std.specs.List.{insert}
use Rattle.std.proofs.lemmas.Result.{IfOk-at_ok, IfErr-at_err, err_from_is_err_and}
use Rattle.rtk_collect.specs.EpochSet.{EpochSetView, joined, fresh, conflicts}
use Rattle.rtk_collect.specs.Accepted.{no_cells}
use Rattle.rtk_collect.proofs.JoinsLemmas.{leading-length}
use Rattle.rtk_collect.proofs.OffersLemmas.{length-insert}
use Rattle.rtk_collect.proofs.WindowLemmas.{open-branch, late-branch, new-branch, fresh-taken, new-taken}
use Rattle.rtk_collect.proofs.window.offer_cells.Goals as goal

pub open_at-opened-requires : goal.open_at-opened-requires
open_at-opened-requires g c =
    let h = leading-length c.args.epoch c.args.sets.now.items in
    (search rules, (omega (arith, c.requires.place), (c.requires.few, (c.requires.range, (c.requires.kind, (c.requires.rising, (c.requires.empty, c.requires.spare)))))))

pub returns-then-has_epoch-clause-added : goal.returns-then-has_epoch-clause-added
returns-then-has_epoch-clause-added g c =
    let found = c.if-has_epoch.ensures.found refl in
    let d = no_cells 0 in
    let same : c.join_at-joined.result ≡ Ok c.in_ok-fresh.fresh = sym c.cleared_if_refused.ensures.same ∙ c.in_ok-fresh.was in
    let set : EpochSetView _ = get_or c.args.sets.now.items c.args.at d in
    open-branch g.E.Entry.entries c.args.places c.args.epoch c.args.at c.args.cells.now d c.args.sets.now.items c.join_at-joined.new.sets.items c.in_ok-fresh.fresh c.cleared_if_refused.new.self c.answer_of_joined.result
    c.requires.falls c.requires.fits c.requires.place found.0 (found.1 d)
    (IfOk-at_ok (λ n. c.join_at-joined.new.sets.items ≡ slice_set c.args.sets.now.items c.args.at (joined g.E.Entry.entries c.args.cells.now set)) same (c.join_at-joined.ensures.items d))
    (IfOk-at_ok (λ n. n ≡ fresh g.E.Entry.entries c.args.cells.now set.cells) same (c.join_at-joined.ensures.fresh d))
    (c.in_ok-fresh.ensures.ok ∙ IfOk-at_ok (λ n. c.join_at-joined.new.found ≡ conflicts g.E.Entry.entries c.args.cells.now set.cells) same (c.join_at-joined.ensures.conflicts d)) c.answer_of_joined.ensures

pub returns-then-at-places-clause-added : goal.returns-then-at-places-clause-added
returns-then-at-places-clause-added g c =
    rw c.requires.empty (late-branch g.E.Entry.entries c.args.places c.args.epoch c.args.at c.args.cells.now c.args.sets.now.items c.requires.falls c.requires.fits c.requires.place c.if-at-places.true)

pub returns-clause-added : goal.returns-clause-added
returns-clause-added g c =
    let absent = c.if-has_epoch.ensures.absent refl in
    let d = no_cells 0 in
    let same : c.open_at-opened.result ≡ Ok c.in_ok-cleared_if_refused.field-0 = sym c.cleared_if_refused-2.ensures.same ∙ c.in_ok-cleared_if_refused.was in
    let within : c.args.at ≤ length c.args.sets.now.items = (let h = leading-length c.args.epoch c.args.sets.now.items in omega (arith, c.requires.place)) in
    let items : c.open_at-opened.new.sets.items ≡ insert c.args.sets.now.items c.args.at (joined g.E.Entry.entries c.args.cells.now (no_cells c.args.epoch)) =
    IfOk-at_ok (λ n. c.open_at-opened.new.sets.items ≡ insert c.args.sets.now.items c.args.at (joined g.E.Entry.entries c.args.cells.now (no_cells c.args.epoch))) same c.open_at-opened.ensures.items in
    new-branch g.E.Entry.entries c.args.places c.args.epoch c.args.at c.args.cells.now d c.args.sets.now.items c.open_at-opened.new.sets.items c.close_least-closed.new.sets.items c.close_least-closed.result c.cleared_if_refused-2.new.self
    c.requires.falls c.requires.fits c.requires.place c.if-at-places.false (λ l. absent l d) items (ap length items ∙ length-insert _ c.args.at c.args.sets.now.items within) c.close_least-closed.ensures.items c.close_least-closed.ensures.few
    (c.in_ok-cleared_if_refused.ensures.ok ∙ IfOk-at_ok (λ n. c.open_at-opened.new.found ≡ conflicts g.E.Entry.entries c.args.cells.now []) same c.open_at-opened.ensures.conflicts)

-- memory is refused

pub returns-in_err-fresh-clause-refused : goal.returns-in_err-fresh-clause-refused
returns-in_err-fresh-clause-refused g c =
    let p = err_from_is_err_and c.from_residual.result c.from_residual.ensures.1 in
    let found = c.if-has_epoch.ensures.found refl in
    let d = no_cells 0 in
    let same : c.join_at-joined.result ≡ Err c.in_err-fresh.field-0.0 = sym c.cleared_if_refused.ensures.same ∙ c.in_err-fresh.was in
    let some = IfErr-at_err (λ e. 0 < fresh g.E.Entry.entries c.args.cells.now (get_or c.args.sets.now.items c.args.at d).cells) same (c.join_at-joined.ensures.refused d) in
    rw p.1 (λ m k before h. fresh-taken g.E.Entry.entries c.args.places c.args.epoch c.args.at c.args.cells.now d c.args.sets.now.items c.requires.fits c.requires.place found.0 (found.1 d) some m k before h)

pub returns-in_err-cleared_if_refused-clause-refused : goal.returns-in_err-cleared_if_refused-clause-refused
returns-in_err-cleared_if_refused-clause-refused g c =
    let p = err_from_is_err_and c.from_residual-in_err-cleared_if_refused.result c.from_residual-in_err-cleared_if_refused.ensures.1 in
    let absent = c.if-has_epoch.ensures.absent refl in
    let d = no_cells 0 in
    rw p.1 (λ m k before h. new-taken g.E.Entry.entries c.args.places c.args.epoch c.args.at c.args.cells.now d c.args.sets.now.items c.requires.falls c.requires.fits c.requires.place c.if-at-places.false (λ l. absent l d) m k before h)
