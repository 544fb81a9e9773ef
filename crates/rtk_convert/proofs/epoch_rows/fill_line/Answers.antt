use Rattle.std.proofs.Common.{◌++◌, ◌∙◌, List, ap, arith, map, not, slice_range, subst, sym}
use Rattle.std.proofs.lemmas.List.{append-nil}
use Rattle.rtk_obs.specs.declared.signal_cells.SignalEntry.{SignalEntry}
use Rattle.rtk_convert.specs.Steps.ShownCells.{IsSetOfCodes, MayStep, ShowsRow}
use Rattle.rtk_convert.proofs.CellOrderLemmas.{place-after, range-empty}
use Rattle.rtk_convert.proofs.EntriesLemmas.{map-slice}
use Rattle.rtk_convert.proofs.SatelliteLemmas.{codes-none, shows-nothing}
use Rattle.rtk_convert.proofs.epoch_rows.fill_line.Goals as goal

pub show_cells-first-requires-clause-shows : goal.show_cells-first-requires-clause-shows
show_cells-first-requires-clause-shows g c = record {
  first = g.E.FileEntry.places c.args.phases.now;
  shows = shows-nothing _ c.args.form.now.epoch c.args.satellite c.args.form.now.codes.now _ _ c.requires.open;
}

pub show_cells-first-requires-clause-known : goal.show_cells-first-requires-clause-known
show_cells-first-requires-clause-known g c = codes-none c.args.satellite

pub codes_between-known-requires-clause-ranges : goal.codes_between-known-requires-clause-ranges
codes_between-known-requires-clause-ranges g c = c.requires.msm.ranges

pub codes_between-known-requires-clause-own : goal.codes_between-known-requires-clause-own
codes_between-known-requires-clause-own g c = c.show_cells-first.ensures.takes.same

pub show_cells-second-requires-clause-known : goal.show_cells-second-requires-clause-known
show_cells-second-requires-clause-known g c =
    let own = map-slice g.E.FileEntry.signal_of c.args.msm.now c.args.at.msm c.show_cells-first.result in
    subst (λ (xs : List SignalEntry). IsSetOfCodes c.codes_between-known.result xs c.args.satellite) (sym own) c.codes_between-known.ensures

pub show_cells-second-requires-clause-later : goal.show_cells-second-requires-clause-later
show_cells-second-requires-clause-later g c =
    let own = map-slice g.E.FileEntry.signal_of c.args.msm.now c.args.at.msm c.show_cells-first.result in
    subst (λ (xs : List SignalEntry). MayStep (g.E.FileEntry.places c.show_cells-first.new.phases) xs c.args.satellite c.args.form.now.epoch) (sym own) c.show_cells-first.ensures.takes.later

pub show_cells-second-requires-clause-shows : goal.show_cells-second-requires-clause-shows
show_cells-second-requires-clause-shows g c =
    let own = map-slice g.E.FileEntry.signal_of c.args.msm.now c.args.at.msm c.show_cells-first.result in
    record {
      first = g.E.FileEntry.places c.args.phases.now;
      shows = subst (λ (xs : List SignalEntry). ShowsRow (g.E.Lines.RowLines.HasLine c.args.form.now.doppler) (g.E.FileEntry.places c.args.phases.now) c.args.form.now.epoch xs c.args.satellite c.args.form.now.codes.now (g.E.FileEntry.places c.show_cells-first.new.phases) c.show_cells-first.new.lines) (sym own)
          (c.show_cells-first.ensures.takes.shows (g.E.FileEntry.places c.args.phases.now)
          (shows-nothing _ c.args.form.now.epoch c.args.satellite c.args.form.now.codes.now _ _ c.requires.open));
    }

pub returns-then-has_satellite-clause-shows : goal.returns-then-has_satellite-clause-shows
returns-then-has_satellite-clause-shows g c =
    let f = g.E.FileEntry.signal_of in
    let own = map-slice f c.args.msm.now c.args.at.msm c.show_cells-first.result in
    let begin = shows-nothing _ c.args.form.now.epoch c.args.satellite c.args.form.now.codes.now (g.E.FileEntry.places c.args.phases.now) _ c.requires.open in
    let first = subst (λ (xs : List SignalEntry). ShowsRow (g.E.Lines.RowLines.HasLine c.args.form.now.doppler) (g.E.FileEntry.places c.args.phases.now) c.args.form.now.epoch xs c.args.satellite c.args.form.now.codes.now (g.E.FileEntry.places c.show_cells-first.new.phases) c.show_cells-first.new.lines) (sym own)
    (c.show_cells-first.ensures.takes.shows (g.E.FileEntry.places c.args.phases.now) begin) in
    subst (λ (xs : List SignalEntry). ShowsRow (g.E.Lines.RowLines.HasLine c.args.form.now.doppler) (g.E.FileEntry.places c.args.phases.now) c.args.form.now.epoch (xs ++ slice_range (map f c.args.legacy.now) c.args.at.legacy c.show_cells-second.result) c.args.satellite c.args.form.now.codes.now (g.E.FileEntry.places c.show_cells-second.new.phases) c.show_cells-second.new.lines) own
    (c.show_cells-second.ensures.takes.shows (g.E.FileEntry.places c.args.phases.now) first)

pub returns-then-has_satellite-clause-lines : goal.returns-then-has_satellite-clause-lines
returns-then-has_satellite-clause-lines g c = λ doppler rows h. c.show_cells-second.ensures.takes.kept doppler rows (c.show_cells-first.ensures.takes.kept doppler rows h)

pub returns-else-has_satellite-clause-shows : goal.returns-else-has_satellite-clause-shows
returns-else-has_satellite-clause-shows g c =
    let f = g.E.FileEntry.signal_of in
    let taken : List SignalEntry = slice_range (map f c.args.msm.now) c.args.at.msm c.show_cells-first.result in
    let begin = shows-nothing _ c.args.form.now.epoch c.args.satellite c.args.form.now.codes.now (g.E.FileEntry.places c.args.phases.now) _ c.requires.open in
    subst (λ (xs : List SignalEntry). ShowsRow (g.E.Lines.RowLines.HasLine c.args.form.now.doppler) (g.E.FileEntry.places c.args.phases.now) c.args.form.now.epoch xs c.args.satellite c.args.form.now.codes.now (g.E.FileEntry.places c.show_cells-first.new.phases) c.show_cells-first.new.lines)
    (sym (ap (λ (ys : List SignalEntry). taken ++ ys) (range-empty (map f c.args.legacy.now) c.args.at.legacy) ∙ append-nil taken))
    (c.show_cells-first.ensures.takes.shows (g.E.FileEntry.places c.args.phases.now) begin)

pub returns-else-has_satellite-clause-lines : goal.returns-else-has_satellite-clause-lines
returns-else-has_satellite-clause-lines g c = λ doppler rows h. c.show_cells-first.ensures.takes.kept doppler rows h

pub returns-else-has_satellite-clause-legacy : goal.returns-else-has_satellite-clause-legacy
returns-else-has_satellite-clause-legacy g c =
    let from = c.requires.legacy.from in
    record {
      from = omega arith;
      next = place-after _ _ _ _ from.rises from.place (omega arith) from.place.within (λ k d a b. absurd (omega arith))
          (c.has_satellite.ensures.no (ap not c.if-has_satellite.false));
    }
