use Rattle.std.proofs.Common.{◌∙◌, refl, sym, ap, ◌∷◌, Option}
use Rattle.rtk_rinex.specs.declared.epoch_table.Observed.{Observed}
use Rattle.rtk_compare.specs.declared.difference.Place.{Place}
use Rattle.rtk_compare.specs.Phases.{rolls_held}
use Rattle.rtk_compare.specs.Steps.Rows.{row_view, place_at}
use Rattle.rtk_compare.specs.Steps.Tracks.{pair}
use Rattle.rtk_compare.proofs.FindingLemmas.{adds_none, adds-as}
use Rattle.rtk_compare.proofs.RowLemmas.{cell-told, cell-noted}
use Rattle.rtk_compare.proofs.SameLemmas.{held-none, nothing-told}
use Rattle.rtk_compare.proofs.rows.compare_code.Goals as goal

pub returns-then-shows_same-clause-lines : goal.returns-then-shows_same-clause-lines
returns-then-shows_same-clause-lines c = λ es track.
    let old : Observed = c.shown_at-old.result in
    let new : Observed = c.shown_at-new.result in
    let place : Option Place = place_at c.args.time.now (row_view c.args.row.now) c.args.code.now in
    let same = c.shows_same.ensures.same c.if-shows_same.true in
    let none = c.shows_same.ensures.rolls es track c.if-shows_same.true in
    cell-told c.args.time.now (row_view c.args.row.now) c.args.code.now place old new es refl c.shown_at-old.ensures c.shown_at-new.ensures
    (adds-as (sym (nothing-told c.args.code.now.shifts es old new place same none)) (adds_none c.args.findings.now))

pub returns-then-shows_same-clause-track : goal.returns-then-shows_same-clause-track
returns-then-shows_same-clause-track c = λ es track.
    let old : Observed = c.shown_at-old.result in
    let new : Observed = c.shown_at-new.result in
    let same = c.shows_same.ensures.same c.if-shows_same.true in
    let none = c.shows_same.ensures.rolls es track c.if-shows_same.true in
    cell-noted _ (row_view c.args.row.now) c.args.code.now old new es c.shown_at-old.ensures c.shown_at-new.ensures
    (c.note.ensures es track (sym (ap (λ (o : Observed). rolls_held (pair old o ∷ es)) (sym same) ∙ held-none es old none)))

pub returns-else-shows_same-clause-lines : goal.returns-else-shows_same-clause-lines
returns-else-shows_same-clause-lines c = λ es track.
    cell-told c.args.time.now (row_view c.args.row.now) c.args.code.now c.place_of-place.result c.shown_at-old.result c.shown_at-new.result es c.place_of-place.ensures c.shown_at-old.ensures c.shown_at-new.ensures
    (c.compare_cell.ensures.lines es track)

pub returns-else-shows_same-clause-track : goal.returns-else-shows_same-clause-track
returns-else-shows_same-clause-track c = λ es track.
    cell-noted _ (row_view c.args.row.now) c.args.code.now c.shown_at-old.result c.shown_at-new.result es c.shown_at-old.ensures c.shown_at-new.ensures (c.compare_cell.ensures.track es track)
