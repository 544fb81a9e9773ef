use Rattle.std.proofs.Common.{◌≡◌, ◌+◌, ◌-◌, ◌≤◌, ℕ, Bool, List, [], Option, None, ◌++◌, map, slice_range, refl, sym, ap, subst, ◌∙◌, arith}
use Rattle.std.proofs.lemmas.List.{length-map}
use Rattle.rtk_obs.specs.SatelliteIndex.{IsSatelliteIndex}
use Rattle.rtk_obs.specs.SignalCells.{IsSignalInRange}
use Rattle.rtk_obs.specs.declared.any_code.AnyCode.{AnyCode}
use Rattle.rtk_obs.specs.declared.signal_cells.SignalEntry.{SignalEntry}
use Rattle.rtk_obs.specs.declared.track.Track.{Track}
use Rattle.rtk_obs.specs.Tracks.{IsLater}
use Rattle.rtk_rinex.specs.declared.epoch_table.Observed.{Observed}
use Rattle.rtk_rinex.specs.declared.epoch_table.SatelliteRow.{SatelliteRow}
use Rattle.rtk_convert.specs.Epochs.{set_of}
use Rattle.rtk_convert.specs.LastPhases.{track_at}
use Rattle.rtk_convert.specs.Rows.{first_cell, cell_at, cells_at_epochs, codes_for, observed_at, observed_after, or_nothing, row_with, row_if_any, rows_to}
use Rattle.rtk_convert.specs.Steps.ShownCells.{AreRowCodes, MayStep, ShowsRow, shown_by, track_after}
use Rattle.rtk_convert.proofs.EntriesLemmas.{all-map, one-kind, turn-is}
use Rattle.rtk_convert.proofs.ThroughLemmas.{track-below, later-after}
use Rattle.rtk_convert.proofs.RowsLemmas.{row-blank, row-held, room-held, rows_to-zero, rows_to-same}
use Rattle.rtk_convert.proofs.SatelliteLemmas.{fills-begin, next-satellite, next-has, next-from, fills-next, fills-end, rows-between, may-begin, fills-more, fills-row, rows-next, cells-fall}
use Rattle.rtk_convert.proofs.SystemLemmas.{codes-are-signals}
use Rattle.rtk_convert.proofs.epoch_rows.push_rows.Goals as goal

pub satellites-init : goal.satellites-init
satellites-init g c =
    let f = g.E.FileEntry.signal_of in
    let ms = map f c.msm_cells-msm.result.now in
    let ls = map f c.legacy_left-legacy.result.now in
    let laws = c.cells_are_signals.ensures in
    let old = g.E.FileEntry.places c.args.phases.now in
    record {
      shows = record {
        from = 1;
        one = omega arith;
        last = omega arith;
        fills = fills-begin old c.args.set.now.epoch ms ls (all-map f _ IsSignalInRange laws.range _ c.msm_cells-msm.ensures.range) (all-map f _ IsSignalInRange laws.range _ c.legacy_left-legacy.ensures.range);
        holds = subst (λ (rows : List SatelliteRow). g.E.Lines.RowLines.HasRows c.restart.new.self c.args.doppler rows) (sym (rows_to-zero (shown_by old c.args.set.now.epoch (ms ++ ls)) c.args.listed.now)) c.restart.ensures;
        few = c.form_from-form.ensures.codes.few;
        codes_are = c.form_from-form.ensures.codes.codes_are;
      };
      epoch = c.form_from-form.ensures.epoch ∙ c.epoch-epoch.ensures;
      within = c.form_from-form.ensures.last.1;
      least = c.form_from-form.ensures.least;
      doppler = c.form_from-form.ensures.doppler;
      columns = c.form_from-form.ensures.columns;
    }

pub renew_form-requires-clause-satellite : goal.renew_form-requires-clause-satellite
renew_form-requires-clause-satellite g c =
    let f = g.E.FileEntry.signal_of in
    let ms = map f c.msm_cells-msm.result.now in
    let ls = map f c.legacy_left-legacy.result.now in
    let laws = c.cells_are_signals.ensures in
    let old = g.E.FileEntry.places c.args.phases.now in
    let epoch = c.args.set.now.epoch in
    let i = c.satellites.invariant.shows in
    let ranges-m = all-map f _ IsSignalInRange laws.range _ c.msm_cells-msm.ensures.range in
    let ranges-l = all-map f _ IsSignalInRange laws.range _ c.legacy_left-legacy.ensures.range in
    let rise-m = laws.rise _ c.msm_cells-msm.ensures.rises in
    let rise-l = laws.rise _ c.legacy_left-legacy.ensures.rises in
    next-satellite ranges-m ranges-l c.in-Some.ensures.some

pub renew_form-requires-clause-within : goal.renew_form-requires-clause-within
renew_form-requires-clause-within g c =
    let f = g.E.FileEntry.signal_of in
    let laws = c.cells_are_signals.ensures in
    next-has (λ (s : ℕ). s ≤ g.E.Lines.RowLines.greatest) (all-map f _ (λ (e : SignalEntry). e.satellite ≤ g.E.Lines.RowLines.greatest) laws.lines _ c.msm_cells-msm.ensures.range)
    (all-map f _ (λ (e : SignalEntry). e.satellite ≤ g.E.Lines.RowLines.greatest) laws.lines _ c.legacy_left-legacy.ensures.range) c.in-Some.ensures.some

pub renew_form-requires-clause-codes : goal.renew_form-requires-clause-codes
renew_form-requires-clause-codes g c =
    let f = g.E.FileEntry.signal_of in
    let ms = map f c.msm_cells-msm.result.now in
    let ls = map f c.legacy_left-legacy.result.now in
    let laws = c.cells_are_signals.ensures in
    let old = g.E.FileEntry.places c.args.phases.now in
    let epoch = c.args.set.now.epoch in
    let i = c.satellites.invariant.shows in
    let ranges-m = all-map f _ IsSignalInRange laws.range _ c.msm_cells-msm.ensures.range in
    let ranges-l = all-map f _ IsSignalInRange laws.range _ c.legacy_left-legacy.ensures.range in
    let rise-m = laws.rise _ c.msm_cells-msm.ensures.rises in
    let rise-l = laws.rise _ c.legacy_left-legacy.ensures.rises in
    let n = c.in-Some.satellite in
    let least = c.in-Some.ensures.some in
    let hn : IsSatelliteIndex n = next-satellite ranges-m ranges-l least in
    let from = next-from i.fills.msm i.fills.legacy least in
    let at = fills-next old epoch ms c.satellites.at.msm ls c.satellites.at.legacy i.from n (g.E.FileEntry.places c.satellites.phases) i.fills rise-m rise-l least in
    λ within. record { few = i.few; codes_are = λ s more less. i.codes_are s (omega arith) less }

pub renew_form-requires-clause-columns : goal.renew_form-requires-clause-columns
renew_form-requires-clause-columns g c = c.satellites.invariant.columns

pub renew_form-requires-clause-last : goal.renew_form-requires-clause-last
renew_form-requires-clause-last g c = c.satellites.invariant.within

pub renew_form-requires-clause-least : goal.renew_form-requires-clause-least
renew_form-requires-clause-least g c = c.satellites.invariant.least

pub open_line-requires-clause-few : goal.open_line-requires-clause-few
open_line-requires-clause-few g c = c.renew_form.ensures.codes.few

pub open_line-requires-clause-room : goal.open_line-requires-clause-room
open_line-requires-clause-room g c =
    let f = g.E.FileEntry.signal_of in
    let ms = map f c.msm_cells-msm.result.now in
    let ls = map f c.legacy_left-legacy.result.now in
    let laws = c.cells_are_signals.ensures in
    let old = g.E.FileEntry.places c.args.phases.now in
    let epoch = c.args.set.now.epoch in
    let i = c.satellites.invariant.shows in
    let ranges-m = all-map f _ IsSignalInRange laws.range _ c.msm_cells-msm.ensures.range in
    let ranges-l = all-map f _ IsSignalInRange laws.range _ c.legacy_left-legacy.ensures.range in
    let rise-m = laws.rise _ c.msm_cells-msm.ensures.rises in
    let rise-l = laws.rise _ c.legacy_left-legacy.ensures.rises in
    let n = c.in-Some.satellite in
    let least = c.in-Some.ensures.some in
    let hn : IsSatelliteIndex n = next-satellite ranges-m ranges-l least in
    let from = next-from i.fills.msm i.fills.legacy least in
    let at = fills-next old epoch ms c.satellites.at.msm ls c.satellites.at.legacy i.from n (g.E.FileEntry.places c.satellites.phases) i.fills rise-m rise-l least in
    let few = next-has (λ (s : ℕ). s ≤ g.E.Lines.RowLines.greatest) (all-map f _ (λ (e : SignalEntry). e.satellite ≤ g.E.Lines.RowLines.greatest) laws.lines _ c.msm_cells-msm.ensures.range)
    (all-map f _ (λ (e : SignalEntry). e.satellite ≤ g.E.Lines.RowLines.greatest) laws.lines _ c.legacy_left-legacy.ensures.range) least in
    room-held g.E.Lines.RowLines.HasRows c.args.doppler g.E.Lines.RowLines.greatest c.satellites.lines (shown_by old epoch (ms ++ ls)) c.args.listed.now (i.from - 1) i.holds (omega (arith, few, from, i.one))

pub fill_line-at-requires-clause-satellite : goal.fill_line-at-requires-clause-satellite
fill_line-at-requires-clause-satellite g c =
    let f = g.E.FileEntry.signal_of in
    let ms = map f c.msm_cells-msm.result.now in
    let ls = map f c.legacy_left-legacy.result.now in
    let laws = c.cells_are_signals.ensures in
    let old = g.E.FileEntry.places c.args.phases.now in
    let epoch = c.args.set.now.epoch in
    let i = c.satellites.invariant.shows in
    let ranges-m = all-map f _ IsSignalInRange laws.range _ c.msm_cells-msm.ensures.range in
    let ranges-l = all-map f _ IsSignalInRange laws.range _ c.legacy_left-legacy.ensures.range in
    let rise-m = laws.rise _ c.msm_cells-msm.ensures.rises in
    let rise-l = laws.rise _ c.legacy_left-legacy.ensures.rises in
    next-satellite ranges-m ranges-l c.in-Some.ensures.some

pub fill_line-at-requires-clause-codes : goal.fill_line-at-requires-clause-codes
fill_line-at-requires-clause-codes g c =
    let f = g.E.FileEntry.signal_of in
    let ms = map f c.msm_cells-msm.result.now in
    let ls = map f c.legacy_left-legacy.result.now in
    let laws = c.cells_are_signals.ensures in
    let old = g.E.FileEntry.places c.args.phases.now in
    let epoch = c.args.set.now.epoch in
    let i = c.satellites.invariant.shows in
    let ranges-m = all-map f _ IsSignalInRange laws.range _ c.msm_cells-msm.ensures.range in
    let ranges-l = all-map f _ IsSignalInRange laws.range _ c.legacy_left-legacy.ensures.range in
    let rise-m = laws.rise _ c.msm_cells-msm.ensures.rises in
    let rise-l = laws.rise _ c.legacy_left-legacy.ensures.rises in
    let n = c.in-Some.satellite in
    let least = c.in-Some.ensures.some in
    let hn : IsSatelliteIndex n = next-satellite ranges-m ranges-l least in
    let from = next-from i.fills.msm i.fills.legacy least in
    let at = fills-next old epoch ms c.satellites.at.msm ls c.satellites.at.legacy i.from n (g.E.FileEntry.places c.satellites.phases) i.fills rise-m rise-l least in
    subst (λ (cs : List AnyCode). AreRowCodes cs n) (c.renew_form.ensures.codes.codes_are n (omega arith) c.renew_form.ensures.last.0) (codes-are-signals c.args.listed.now n hn)

pub fill_line-at-requires-clause-msm : goal.fill_line-at-requires-clause-msm
fill_line-at-requires-clause-msm g c =
    let f = g.E.FileEntry.signal_of in
    let ms = map f c.msm_cells-msm.result.now in
    let ls = map f c.legacy_left-legacy.result.now in
    let laws = c.cells_are_signals.ensures in
    let old = g.E.FileEntry.places c.args.phases.now in
    let epoch = c.args.set.now.epoch in
    let i = c.satellites.invariant.shows in
    let ranges-m = all-map f _ IsSignalInRange laws.range _ c.msm_cells-msm.ensures.range in
    let ranges-l = all-map f _ IsSignalInRange laws.range _ c.legacy_left-legacy.ensures.range in
    let rise-m = laws.rise _ c.msm_cells-msm.ensures.rises in
    let rise-l = laws.rise _ c.legacy_left-legacy.ensures.rises in
    let n = c.in-Some.satellite in
    let least = c.in-Some.ensures.some in
    let hn : IsSatelliteIndex n = next-satellite ranges-m ranges-l least in
    let from = next-from i.fills.msm i.fills.legacy least in
    let at = fills-next old epoch ms c.satellites.at.msm ls c.satellites.at.legacy i.from n (g.E.FileEntry.places c.satellites.phases) i.fills rise-m rise-l least in
    record { ranges = ranges-m; kind = one-kind f g.E.Entry.entries laws.values _ c.msm_cells-msm.ensures.kind; from = record { rises = rise-m; place = at.msm } }

pub fill_line-at-requires-clause-legacy : goal.fill_line-at-requires-clause-legacy
fill_line-at-requires-clause-legacy g c =
    let f = g.E.FileEntry.signal_of in
    let ms = map f c.msm_cells-msm.result.now in
    let ls = map f c.legacy_left-legacy.result.now in
    let laws = c.cells_are_signals.ensures in
    let old = g.E.FileEntry.places c.args.phases.now in
    let epoch = c.args.set.now.epoch in
    let i = c.satellites.invariant.shows in
    let ranges-m = all-map f _ IsSignalInRange laws.range _ c.msm_cells-msm.ensures.range in
    let ranges-l = all-map f _ IsSignalInRange laws.range _ c.legacy_left-legacy.ensures.range in
    let rise-m = laws.rise _ c.msm_cells-msm.ensures.rises in
    let rise-l = laws.rise _ c.legacy_left-legacy.ensures.rises in
    let n = c.in-Some.satellite in
    let least = c.in-Some.ensures.some in
    let hn : IsSatelliteIndex n = next-satellite ranges-m ranges-l least in
    let from = next-from i.fills.msm i.fills.legacy least in
    let at = fills-next old epoch ms c.satellites.at.msm ls c.satellites.at.legacy i.from n (g.E.FileEntry.places c.satellites.phases) i.fills rise-m rise-l least in
    record { ranges = ranges-l; kind = one-kind f g.E.Entry.entries laws.values _ c.legacy_left-legacy.ensures.kind; from = record { rises = rise-l; place = at.legacy } }

pub fill_line-at-requires-clause-later : goal.fill_line-at-requires-clause-later
fill_line-at-requires-clause-later g c =
    let f = g.E.FileEntry.signal_of in
    let ms = map f c.msm_cells-msm.result.now in
    let ls = map f c.legacy_left-legacy.result.now in
    let laws = c.cells_are_signals.ensures in
    let old = g.E.FileEntry.places c.args.phases.now in
    let epoch = c.args.set.now.epoch in
    let i = c.satellites.invariant.shows in
    let ranges-m = all-map f _ IsSignalInRange laws.range _ c.msm_cells-msm.ensures.range in
    let ranges-l = all-map f _ IsSignalInRange laws.range _ c.legacy_left-legacy.ensures.range in
    let rise-m = laws.rise _ c.msm_cells-msm.ensures.rises in
    let rise-l = laws.rise _ c.legacy_left-legacy.ensures.rises in
    let n = c.in-Some.satellite in
    let least = c.in-Some.ensures.some in
    let hn : IsSatelliteIndex n = next-satellite ranges-m ranges-l least in
    let from = next-from i.fills.msm i.fills.legacy least in
    let at = fills-next old epoch ms c.satellites.at.msm ls c.satellites.at.legacy i.from n (g.E.FileEntry.places c.satellites.phases) i.fills rise-m rise-l least in
    let same : epoch ≡ c.renew_form.new.form.epoch = sym (c.renew_form.ensures.epoch ∙ c.satellites.invariant.epoch) in
    subst (λ (e : ℕ). MayStep (g.E.FileEntry.places c.satellites.phases) [] n e) same
    (may-begin old epoch ms c.satellites.at.msm ls c.satellites.at.legacy n (g.E.FileEntry.places c.satellites.phases) at
    (λ k hk. c.requires.later n k hk))

pub fill_line-at-requires-clause-open : goal.fill_line-at-requires-clause-open
fill_line-at-requires-clause-open g c =
    let codes = c.renew_form.new.form.codes.now in
    let shifts : c.args.doppler ≡ c.renew_form.new.form.doppler = sym (c.renew_form.ensures.doppler ∙ c.satellites.invariant.doppler) in
    let opened = c.in_ok-open_line.ensures.open c.args.doppler _ c.satellites.invariant.shows.holds in
    subst (λ (d : Bool). g.E.Lines.RowLines.HasLine d c.open_line.new.self (map (λ (code : AnyCode). or_nothing None) codes)) shifts
    (subst (λ (row : List Observed). g.E.Lines.RowLines.HasLine c.args.doppler c.open_line.new.self row) (sym (row-blank codes)) opened)

pub close_line-requires-clause-satellite : goal.close_line-requires-clause-satellite
close_line-requires-clause-satellite g c =
    let f = g.E.FileEntry.signal_of in
    let ms = map f c.msm_cells-msm.result.now in
    let ls = map f c.legacy_left-legacy.result.now in
    let laws = c.cells_are_signals.ensures in
    let old = g.E.FileEntry.places c.args.phases.now in
    let epoch = c.args.set.now.epoch in
    let i = c.satellites.invariant.shows in
    let ranges-m = all-map f _ IsSignalInRange laws.range _ c.msm_cells-msm.ensures.range in
    let ranges-l = all-map f _ IsSignalInRange laws.range _ c.legacy_left-legacy.ensures.range in
    let rise-m = laws.rise _ c.msm_cells-msm.ensures.rises in
    let rise-l = laws.rise _ c.legacy_left-legacy.ensures.rises in
    next-satellite ranges-m ranges-l c.in-Some.ensures.some

pub close_line-requires-clause-within : goal.close_line-requires-clause-within
close_line-requires-clause-within g c =
    let f = g.E.FileEntry.signal_of in
    let ms = map f c.msm_cells-msm.result.now in
    let ls = map f c.legacy_left-legacy.result.now in
    let laws = c.cells_are_signals.ensures in
    let old = g.E.FileEntry.places c.args.phases.now in
    let epoch = c.args.set.now.epoch in
    let i = c.satellites.invariant.shows in
    next-has (λ (s : ℕ). s ≤ g.E.Lines.RowLines.greatest) (all-map f _ (λ (e : SignalEntry). e.satellite ≤ g.E.Lines.RowLines.greatest) laws.lines _ c.msm_cells-msm.ensures.range)
    (all-map f _ (λ (e : SignalEntry). e.satellite ≤ g.E.Lines.RowLines.greatest) laws.lines _ c.legacy_left-legacy.ensures.range) c.in-Some.ensures.some

pub close_line-requires-clause-room : goal.close_line-requires-clause-room
close_line-requires-clause-room g c =
    let f = g.E.FileEntry.signal_of in
    let ms = map f c.msm_cells-msm.result.now in
    let ls = map f c.legacy_left-legacy.result.now in
    let laws = c.cells_are_signals.ensures in
    let old = g.E.FileEntry.places c.args.phases.now in
    let epoch = c.args.set.now.epoch in
    let i = c.satellites.invariant.shows in
    let ranges-m = all-map f _ IsSignalInRange laws.range _ c.msm_cells-msm.ensures.range in
    let ranges-l = all-map f _ IsSignalInRange laws.range _ c.legacy_left-legacy.ensures.range in
    let rise-m = laws.rise _ c.msm_cells-msm.ensures.rises in
    let rise-l = laws.rise _ c.legacy_left-legacy.ensures.rises in
    let n = c.in-Some.satellite in
    let least = c.in-Some.ensures.some in
    let hn : IsSatelliteIndex n = next-satellite ranges-m ranges-l least in
    let from = next-from i.fills.msm i.fills.legacy least in
    let at = fills-next old epoch ms c.satellites.at.msm ls c.satellites.at.legacy i.from n (g.E.FileEntry.places c.satellites.phases) i.fills rise-m rise-l least in
    let few = next-has (λ (s : ℕ). s ≤ g.E.Lines.RowLines.greatest) (all-map f _ (λ (e : SignalEntry). e.satellite ≤ g.E.Lines.RowLines.greatest) laws.lines _ c.msm_cells-msm.ensures.range)
    (all-map f _ (λ (e : SignalEntry). e.satellite ≤ g.E.Lines.RowLines.greatest) laws.lines _ c.legacy_left-legacy.ensures.range) least in
    room-held g.E.Lines.RowLines.HasRows c.args.doppler g.E.Lines.RowLines.greatest c.fill_line-at.new.lines (shown_by old epoch (ms ++ ls)) c.args.listed.now (i.from - 1) (c.fill_line-at.ensures.lines c.args.doppler _ (c.in_ok-open_line.ensures.rows c.args.doppler _ i.holds)) (omega (arith, few, from, i.one))

pub close_line-requires-clause-open : goal.close_line-requires-clause-open
close_line-requires-clause-open g c = (_, _, c.fill_line-at.ensures.shows.row)

pub satellites-smaller : goal.satellites-smaller
satellites-smaller g c =
    let f = g.E.FileEntry.signal_of in
    let filled = c.fill_line-at.ensures in
    let less = cells-fall c.in-Some.ensures.some filled.msm.from filled.msm.next filled.legacy.from filled.legacy.next in
    omega (arith, less, length-map c.msm_cells-msm.result.now f, length-map c.legacy_left-legacy.result.now f)

pub satellites-preserved : goal.satellites-preserved
satellites-preserved g c =
    let f = g.E.FileEntry.signal_of in
    let ms = map f c.msm_cells-msm.result.now in
    let ls = map f c.legacy_left-legacy.result.now in
    let laws = c.cells_are_signals.ensures in
    let old = g.E.FileEntry.places c.args.phases.now in
    let epoch = c.args.set.now.epoch in
    let i = c.satellites.invariant.shows in
    let ranges-m = all-map f _ IsSignalInRange laws.range _ c.msm_cells-msm.ensures.range in
    let ranges-l = all-map f _ IsSignalInRange laws.range _ c.legacy_left-legacy.ensures.range in
    let rise-m = laws.rise _ c.msm_cells-msm.ensures.rises in
    let rise-l = laws.rise _ c.legacy_left-legacy.ensures.rises in
    let n = c.in-Some.satellite in
    let least = c.in-Some.ensures.some in
    let hn : IsSatelliteIndex n = next-satellite ranges-m ranges-l least in
    let from = next-from i.fills.msm i.fills.legacy least in
    let at = fills-next old epoch ms c.satellites.at.msm ls c.satellites.at.legacy i.from n (g.E.FileEntry.places c.satellites.phases) i.fills rise-m rise-l least in
    let codes = c.renew_form.new.form.codes.now in
    let own = subst (λ (cs : List AnyCode). AreRowCodes cs n) (c.renew_form.ensures.codes.codes_are n (omega arith) c.renew_form.ensures.last.0) (codes-are-signals c.args.listed.now n hn) in
    let same : codes_for c.args.listed.now n ≡ codes = c.renew_form.ensures.codes.codes_are n (omega arith) c.renew_form.ensures.last.0 in
    let filled = c.fill_line-at in
    let formed : c.renew_form.new.form.epoch ≡ epoch = c.renew_form.ensures.epoch ∙ c.satellites.invariant.epoch in
    let shows = subst (λ (e : ℕ). ShowsRow (g.E.Lines.RowLines.HasLine c.renew_form.new.form.doppler) (g.E.FileEntry.places c.satellites.phases) e
    (slice_range ms c.satellites.at.msm filled.result.msm ++ slice_range ls c.satellites.at.legacy filled.result.legacy) n codes (g.E.FileEntry.places filled.new.phases) filled.new.lines) formed filled.ensures.shows in
    let h = shown_by old epoch (ms ++ ls) in
    let rows = rows_to h c.args.listed.now (n - 1) in
    let before : g.E.Lines.RowLines.HasRows c.satellites.lines c.args.doppler rows =
    subst (λ (rs : List SatelliteRow). g.E.Lines.RowLines.HasRows c.satellites.lines c.args.doppler rs)
    (rows-between old epoch ms c.satellites.at.msm ls c.satellites.at.legacy i.from n (g.E.FileEntry.places c.satellites.phases) i.fills from at.msm at.legacy c.args.listed.now i.one (omega (arith, hn.1)))
    i.holds in
    let held = filled.ensures.lines c.args.doppler rows (c.in_ok-open_line.ensures.rows c.args.doppler rows before) in
    let shifts : c.renew_form.new.form.doppler ≡ c.args.doppler = c.renew_form.ensures.doppler ∙ c.satellites.invariant.doppler in
    let shown = subst (λ (d : Bool). g.E.Lines.RowLines.HasLine d filled.new.lines (row_with h codes n).observed.items) shifts
    (fills-row old epoch ms c.satellites.at.msm ls c.satellites.at.legacy n (g.E.FileEntry.places c.satellites.phases) at _ filled.result.msm filled.result.legacy codes own
    (g.E.FileEntry.places filled.new.phases) filled.new.lines filled.ensures.msm.from filled.ensures.msm.next filled.ensures.legacy.from filled.ensures.legacy.next shows) in
    let closed = c.close_line.ensures c.args.doppler rows (row_with h codes n).observed.items held shown in
    record {
      shows = record {
        from = n + 1;
        one = omega arith;
        last = omega (arith, hn.1);
        fills = fills-more old epoch ms c.satellites.at.msm ls c.satellites.at.legacy n (g.E.FileEntry.places c.satellites.phases) at _ filled.result.msm filled.result.legacy codes own
            (g.E.FileEntry.places filled.new.phases) filled.new.lines filled.ensures.msm.from filled.ensures.msm.next filled.ensures.legacy.from filled.ensures.legacy.next shows;
        holds = subst (λ (all : List SatelliteRow). g.E.Lines.RowLines.HasRows c.close_line.new.self c.args.doppler all)
            (rows-next h c.args.listed.now n rows (row_if_any h codes n) hn.0 refl (ap (λ (cs : List AnyCode). row_if_any h cs n) (sym same)))
            (row-held (λ l rows. g.E.Lines.RowLines.HasRows l c.args.doppler rows) c.close_line.new.self (c.blank_rows_are_left_out.ensures c.close_line.new.self c.args.doppler) h codes n rows closed);
        few = c.renew_form.ensures.codes.few;
        codes_are = λ s more less. c.renew_form.ensures.codes.codes_are s (omega arith) less;
      };
      epoch = formed;
      within = c.renew_form.ensures.last.1;
      least = c.renew_form.ensures.least;
      doppler = shifts;
      columns = c.renew_form.ensures.columns;
    }

pub returns-clause-lines : goal.returns-clause-lines
returns-clause-lines g c =
    let f = g.E.FileEntry.signal_of in
    let ms = map f c.msm_cells-msm.result.now in
    let ls = map f c.legacy_left-legacy.result.now in
    let laws = c.cells_are_signals.ensures in
    let old = g.E.FileEntry.places c.args.phases.now in
    let epoch = c.args.set.now.epoch in
    let i = c.satellites.invariant.shows in
    let ranges-m = all-map f _ IsSignalInRange laws.range _ c.msm_cells-msm.ensures.range in
    let ranges-l = all-map f _ IsSignalInRange laws.range _ c.legacy_left-legacy.ensures.range in
    let rise-m = laws.rise _ c.msm_cells-msm.ensures.rises in
    let rise-l = laws.rise _ c.legacy_left-legacy.ensures.rises in
    let none = c.in_default.ensures.none in
    let end = fills-end old epoch ms c.satellites.at.msm ls c.satellites.at.legacy i.from (g.E.FileEntry.places c.satellites.phases) i.fills rise-m rise-l i.last
    (omega (arith, none.0, length-map c.msm_cells-msm.result.now f)) (omega (arith, none.1, length-map c.legacy_left-legacy.result.now f)) in
    let last = rows-between old epoch ms c.satellites.at.msm ls c.satellites.at.legacy i.from 222 (g.E.FileEntry.places c.satellites.phases) i.fills i.last end.msm end.legacy c.args.listed.now i.one (omega arith) in
    let e = set_of f c.args.set.now in
    let turn : (s : ℕ) (k : AnyCode) → first_cell (ms ++ ls) s k ≡ cell_at e.cells s k =
    λ s k. ap (λ (xs : List _). first_cell (map f xs ++ ls) s k) c.msm_cells-msm.ensures.value
    ∙ turn-is f g.E.Entry.entries laws.values c.args.set.now.cells c.legacy_left-legacy.result.now (laws.left _ _ _ c.legacy_left-legacy.ensures.left) s k in
    λ below has. subst (λ (rows : List SatelliteRow). g.E.Lines.RowLines.HasRows c.satellites.lines c.args.doppler rows)
    (last
    ∙ rows_to-same (shown_by old epoch (ms ++ ls)) (observed_at e below) c.args.listed.now 221 (omega arith)
    (λ s k hs. ap (λ (o : Option SignalEntry). observed_after (track_at old s k) k epoch o) (turn s k)
    ∙ ap (λ (o : Option Track). observed_after o k e.epoch (cell_at e.cells s k)) (has s k hs)))
    i.holds

pub returns-clause-phases : goal.returns-clause-phases
returns-clause-phases g c =
    let f = g.E.FileEntry.signal_of in
    let ms = map f c.msm_cells-msm.result.now in
    let ls = map f c.legacy_left-legacy.result.now in
    let laws = c.cells_are_signals.ensures in
    let old = g.E.FileEntry.places c.args.phases.now in
    let epoch = c.args.set.now.epoch in
    let i = c.satellites.invariant.shows in
    let ranges-m = all-map f _ IsSignalInRange laws.range _ c.msm_cells-msm.ensures.range in
    let ranges-l = all-map f _ IsSignalInRange laws.range _ c.legacy_left-legacy.ensures.range in
    let rise-m = laws.rise _ c.msm_cells-msm.ensures.rises in
    let rise-l = laws.rise _ c.legacy_left-legacy.ensures.rises in
    let none = c.in_default.ensures.none in
    let end = fills-end old epoch ms c.satellites.at.msm ls c.satellites.at.legacy i.from (g.E.FileEntry.places c.satellites.phases) i.fills rise-m rise-l i.last
    (omega (arith, none.0, length-map c.msm_cells-msm.result.now f)) (omega (arith, none.1, length-map c.legacy_left-legacy.result.now f)) in
    let e = set_of f c.args.set.now in
    let turn : (s : ℕ) (k : AnyCode) → first_cell (ms ++ ls) s k ≡ cell_at e.cells s k =
    λ s k. ap (λ (xs : List _). first_cell (map f xs ++ ls) s k) c.msm_cells-msm.ensures.value
    ∙ turn-is f g.E.Entry.entries laws.values c.args.set.now.cells c.legacy_left-legacy.result.now (laws.left _ _ _ c.legacy_left-legacy.ensures.left) s k in
    λ below has s k hs. end.done s k hs (omega (arith, hs.0.1))
    ∙ ap (λ (o : Option SignalEntry). track_after (track_at old s k) k epoch o) (turn s k)
    ∙ ap (λ (o : Option Track). track_after o k e.epoch (cell_at e.cells s k)) (has s k hs)
    ∙ track-below (cell_at e.cells s k) e.epoch k (cells_at_epochs below s k)

pub returns-clause-later : goal.returns-clause-later
returns-clause-later g c =
    let f = g.E.FileEntry.signal_of in
    let ms = map f c.msm_cells-msm.result.now in
    let ls = map f c.legacy_left-legacy.result.now in
    let laws = c.cells_are_signals.ensures in
    let old = g.E.FileEntry.places c.args.phases.now in
    let epoch = c.args.set.now.epoch in
    let i = c.satellites.invariant.shows in
    let ranges-m = all-map f _ IsSignalInRange laws.range _ c.msm_cells-msm.ensures.range in
    let ranges-l = all-map f _ IsSignalInRange laws.range _ c.legacy_left-legacy.ensures.range in
    let rise-m = laws.rise _ c.msm_cells-msm.ensures.rises in
    let rise-l = laws.rise _ c.legacy_left-legacy.ensures.rises in
    let none = c.in_default.ensures.none in
    let end = fills-end old epoch ms c.satellites.at.msm ls c.satellites.at.legacy i.from (g.E.FileEntry.places c.satellites.phases) i.fills rise-m rise-l i.last
    (omega (arith, none.0, length-map c.msm_cells-msm.result.now f)) (omega (arith, none.1, length-map c.legacy_left-legacy.result.now f)) in
    λ later h s k hs. subst (λ (o : Option Track). IsLater o later) (sym (end.done s k hs (omega (arith, hs.0.1))))
    (later-after (track_at old s k) k epoch later (first_cell (ms ++ ls) s k) h
    (c.requires.later s k hs))
