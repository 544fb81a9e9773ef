use Rattle.std.proofs.Common.{◌==◌, ◌∙◌, List, length, not, sym, ap}
use Rattle.rtk_obs.specs.declared.signal_cells.SignalEntry.{SignalEntry}
use Rattle.rtk_survey.specs.BesideGps.{sbas_cells_of_four}
use Rattle.rtk_survey.specs.Sbas.{has_sbas_of_four}
use Rattle.rtk_survey.proofs.SbasLemmas.{sbas-told}
use Rattle.rtk_survey.proofs.sbas.has_sbas_of_four.Goals as goal

pub returns-in-Obs1004 : goal.returns-in-Obs1004
returns-in-Obs1004 c =
    ap not c.is_empty.ensures
    ∙ ap (λ (es : List SignalEntry). not (length es == 0)) (c.requires ∙ ap sbas_cells_of_four c.in-Obs1004.is)
    ∙ sbas-told c.in-Obs1004.field-0.satellites
    ∙ sym (ap has_sbas_of_four c.in-Obs1004.is)
