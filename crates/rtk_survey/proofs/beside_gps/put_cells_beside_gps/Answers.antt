use Rattle.std.proofs.Common.{◌∙◌, ℤ, Bool, cond, List, [], Option, sym, ap}
use Rattle.rtk_message.specs.declared.any_message.AnyMessage.{AnyMessage}
use Rattle.rtk_message.specs.declared.any_message.AnyMessage.TheVariants.{Msm}
use Rattle.rtk_obs.specs.GlonassCells.{entries_of_1012}
use Rattle.rtk_obs.specs.SignalCells.{signal_entries}
use Rattle.rtk_survey.specs.BesideGps.{cells_beside_gps}
use Rattle.rtk_survey.specs.PhaseChannels.{phase_channels}
use Rattle.rtk_survey.proofs.beside_gps.put_cells_beside_gps.Goals as goal

pub returns-then-is_other_system : goal.returns-then-is_other_system
returns-then-is_other_system c =
    let m = c.in-Msm.msm in
    c.put_signal_entries.ensures
    ∙ ap (λ (cs : List (Option ℤ)). signal_entries cs m) c.phase_channels.ensures
    ∙ ap (λ (x : AnyMessage). signal_entries (phase_channels x) m) c.in-Msm.is
    ∙ ap (λ (b : Bool). cond b (signal_entries (phase_channels (Msm m)) m) []) (sym c.if-is_other_system.true ∙ c.is_other_system.ensures)
    ∙ sym (ap cells_beside_gps c.in-Msm.is)

pub returns-in-Obs1012 : goal.returns-in-Obs1012
returns-in-Obs1012 c =
    let m = c.in-Obs1012.legacy in
    c.put_entries_1012.ensures
    ∙ ap (λ (cs : List (Option ℤ)). entries_of_1012 cs m.satellites) c.phase_channels-in-Obs1012.ensures
    ∙ ap (λ (x : AnyMessage). entries_of_1012 (phase_channels x) m.satellites) c.in-Obs1012.is
    ∙ sym (ap cells_beside_gps c.in-Obs1012.is)
