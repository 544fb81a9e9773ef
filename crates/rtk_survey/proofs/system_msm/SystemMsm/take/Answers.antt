use Rattle.std.proofs.Common.{◌++◌, List, subst, arith}
use Rattle.rtk_obs.specs.declared.signal_cells.SignalEntry.{SignalEntry}
use Rattle.rtk_survey.specs.BesideGps.{cells_beside}
use Rattle.rtk_survey.specs.Contents.{HasSystemSignals}
use Rattle.rtk_survey.proofs.system_msm.SystemMsm.take.Goals as goal

pub returns : goal.returns
returns c = λ own stands.
    let one = c.count_if-self.ensures in
    let was = stands.messages in
    record {
      messages = omega (arith, one, was);
      epochs = c.note_epoch.ensures own stands.epochs;
      signals = subst (λ (es : List SignalEntry). HasSystemSignals c.mark_entries.new.self (es ++ cells_beside own)) c.requires (c.mark_entries.ensures (cells_beside own) stands.signals);
    }
