use Rattle.std.proofs.Common.{◌≡◌, ◌∙◌, List, false, sym, ap}
use Rattle.std.specs.Prelude.{filter}
use Rattle.std.specs.List.{list_any}
use Rattle.rtk_message.specs.declared.obs1004.Satellite.{Satellite}
use Rattle.rtk_obs.specs.declared.signal_cells.SignalEntry.{SignalEntry}
use Rattle.rtk_survey.specs.BesideGps.{is_beside_entry}
use Rattle.rtk_survey.specs.Sbas.{is_sbas}
use Rattle.rtk_survey.proofs.SbasLemmas.{no-sbas-cells}
use Rattle.rtk_survey.proofs.beside_gps.put_sbas_of_1004.Goals as goal

pub returns-then-have_sbas : goal.returns-then-have_sbas
returns-then-have_sbas c =
    c.keep_beside.ensures ∙ ap (λ (es : List SignalEntry). filter is_beside_entry es) c.put_signals_1004.ensures

pub returns-else-have_sbas : goal.returns-else-have_sbas
returns-else-have_sbas c =
    let ss = c.args.message.now.satellites in
    let none : list_any is_sbas ss ≡ false =
    ap (λ (xs : List Satellite). list_any is_sbas xs) (sym c.as_slice.ensures.value) ∙ sym c.have_sbas.ensures ∙ c.if-have_sbas.false in
    c.clear.ensures ∙ sym (no-sbas-cells ss none)
