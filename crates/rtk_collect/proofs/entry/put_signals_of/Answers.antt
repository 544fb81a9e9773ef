use Rattle.std.proofs.Common.{[], ap, map, sym, subst, length, ◌∙◌, arith}
use Rattle.std.specs.List.{All}
use Rattle.std.proofs.lemmas.List.{length-map}
use Rattle.rtk_obs.specs.LegacyCells.{cells_of_1004}
use Rattle.rtk_obs.specs.SignalCells.{signal_of}
use Rattle.rtk_collect.specs.Gps.{gps}
use Rattle.rtk_collect.proofs.LegacyListLemmas.{left-is, all_left}
use Rattle.rtk_collect.proofs.SignalLemmas.{HasSatellite, legacy-satellites}
use Rattle.rtk_collect.proofs.entry.put_signals_of.Goals as goal

pub put_signals-requires-clause-satellites : goal.put_signals-requires-clause-satellites
put_signals-requires-clause-satellites c =
    let ss = c.args.satellites.now in
    subst (All HasSatellite) (sym (c.as_slice.ensures.value ∙ c.put_cells_left.ensures.cells ∙ left-is [] (cells_of_1004 ss) ∙ all_left gps (cells_of_1004 ss))) (legacy-satellites ss)

pub returns-clause-entries : goal.returns-clause-entries
returns-clause-entries c =
    let ss = c.args.satellites.now in
    c.put_signals.ensures ∙ ap (map signal_of) (c.as_slice.ensures.value ∙ c.put_cells_left.ensures.cells ∙ left-is [] (cells_of_1004 ss) ∙ all_left gps (cells_of_1004 ss))

pub returns-clause-few : goal.returns-clause-few
returns-clause-few c = omega (arith, ap length c.put_signals.ensures, length-map c.as_slice.result.now signal_of, ap length c.as_slice.ensures.value, c.put_cells_left.ensures.few)
