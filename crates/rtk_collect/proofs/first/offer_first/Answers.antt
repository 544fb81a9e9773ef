use Rattle.std.proofs.Common.{◌≤◌, [], length, refl, sym, ap, ◌∙◌, arith}
use Rattle.std.proofs.lemmas.Result.{err_from_is_err_and}
use Rattle.rtk_collect.specs.Accepted.{no_cells}
use Rattle.rtk_collect.proofs.JoinsLemmas.{leading-length}
use Rattle.rtk_collect.proofs.OffersLemmas.{length-insert}
use Rattle.rtk_collect.proofs.RisingLemmas.{alone}
use Rattle.rtk_collect.proofs.WindowLemmas.{open-branch, late-branch, new-branch, fresh-taken, new-taken}
use Rattle.rtk_collect.proofs.first.offer_first.Goals as goal

pub take_first_at-requires-clause-none : goal.take_first_at-requires-clause-none
take_first_at-requires-clause-none g c = λ d.
    let found = c.if-has_epoch.ensures.found refl in
    rw c.requires.place (c.requires.none d (rw c.requires.place at found.0) (rw c.requires.place at (found.1 d)))

pub open_first_at-requires-clause-within : goal.open_first_at-requires-clause-within
open_first_at-requires-clause-within g c = let h = leading-length c.args.epoch c.args.sets.now.items in omega (arith, c.requires.place)

pub returns-then-has_epoch-clause-added : goal.returns-then-has_epoch-clause-added
returns-then-has_epoch-clause-added g c =
    let found = c.if-has_epoch.ensures.found refl in
    let d = no_cells 0 in
    open-branch g.E.Entry.entries c.args.places c.args.epoch c.args.at (g.E.Entry.legacy c.args.satellites.now) d c.args.sets.now.items c.take_first_at.new.sets.items _ [] _
    c.requires.falls c.requires.fits c.requires.place found.0 (found.1 d) (c.in_ok-take_first_at.ensures.items d) refl (sym (c.take_first_at.ensures.conflicts d)) (c.take_first_at.ensures.fresh d, refl)

pub returns-then-at-places-clause-added : goal.returns-then-at-places-clause-added
returns-then-at-places-clause-added g c =
    late-branch g.E.Entry.entries c.args.places c.args.epoch c.args.at (g.E.Entry.legacy c.args.satellites.now) c.args.sets.now.items c.requires.falls c.requires.fits c.requires.place c.if-at-places.true

pub returns-clause-added : goal.returns-clause-added
returns-clause-added g c =
    let absent = c.if-has_epoch.ensures.absent refl in
    let d = no_cells 0 in
    let within : c.args.at ≤ length c.args.sets.now.items = (let h = leading-length c.args.epoch c.args.sets.now.items in omega (arith, c.requires.place)) in
    new-branch g.E.Entry.entries c.args.places c.args.epoch c.args.at (g.E.Entry.legacy c.args.satellites.now) d c.args.sets.now.items c.open_first_at.new.sets.items c.close_least-closed.new.sets.items c.close_least-closed.result []
    c.requires.falls c.requires.fits c.requires.place c.if-at-places.false (λ l. absent l d) c.in_ok-open_first_at.ensures.items
    (ap length c.in_ok-open_first_at.ensures.items ∙ length-insert _ c.args.at c.args.sets.now.items within) c.close_least-closed.ensures.items c.close_least-closed.ensures.few
    (alone g.E.Entry.entries (g.E.Entry.legacy c.args.satellites.now) [] refl c.requires.first.kept.rises).conflicts

-- memory is refused

pub returns-in_err-take_first_at-clause-refused : goal.returns-in_err-take_first_at-clause-refused
returns-in_err-take_first_at-clause-refused g c =
    let p = err_from_is_err_and c.from_residual.result c.from_residual.ensures.1 in
    let found = c.if-has_epoch.ensures.found refl in
    let d = no_cells 0 in
    rw p.1 (λ m k before h. fresh-taken g.E.Entry.entries c.args.places c.args.epoch c.args.at (g.E.Entry.legacy c.args.satellites.now) d c.args.sets.now.items c.requires.fits c.requires.place found.0 (found.1 d) (c.take_first_at.ensures.fresh d) m k before h)

pub returns-in_err-open_first_at-clause-refused : goal.returns-in_err-open_first_at-clause-refused
returns-in_err-open_first_at-clause-refused g c =
    let p = err_from_is_err_and c.from_residual-in_err-open_first_at.result c.from_residual-in_err-open_first_at.ensures.1 in
    let absent = c.if-has_epoch.ensures.absent refl in
    let d = no_cells 0 in
    rw p.1 (λ m k before h. new-taken g.E.Entry.entries c.args.places c.args.epoch c.args.at (g.E.Entry.legacy c.args.satellites.now) d c.args.sets.now.items c.requires.falls c.requires.fits c.requires.place c.if-at-places.false (λ l. absent l d) m k before h)
