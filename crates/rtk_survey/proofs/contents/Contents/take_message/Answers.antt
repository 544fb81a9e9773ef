use Rattle.std.proofs.Common.{◌++◌, List, subst, arith}
use Rattle.rtk_obs.specs.declared.cell.CellEntry.{CellEntry}
use Rattle.rtk_obs.specs.declared.signal_cells.SignalEntry.{SignalEntry}
use Rattle.rtk_survey.specs.BesideGps.{cells_beside}
use Rattle.rtk_survey.specs.Contents.{HasCodes, HasSystemSignals}
use Rattle.rtk_survey.specs.FrameDates.{dates_in}
use Rattle.rtk_survey.specs.FrameEquipment.{equipment_among}
use Rattle.rtk_survey.specs.ReadFrames.{messages_in}
use Rattle.rtk_survey.specs.Tracing.{entries_in, entries_of_message}
use Rattle.rtk_survey.proofs.ResultLemmas.{on-ok}
use Rattle.rtk_survey.proofs.contents.Contents.take_message.Goals as goal

pub take_message-requires-clause-codes : goal.take_message-requires-clause-codes
take_message-requires-clause-codes c = subst (λ (es : List CellEntry). HasCodes c.of-codes.result es) c.requires.entries c.of-codes.ensures

pub returns : goal.returns
returns c = on-ok c.take_target_message.result (λ answered q before stands.
    let one = c.saturating_add-self.ensures in
    let more = c.saturating_add-self-2.ensures in
    let was = stands.frames in
    let had = stands.framed in
    let ms = messages_in before in
    record {
      frames = omega (arith, one, was);
      framed = omega (arith, more, had);
      stations = c.in_ok-take_message.ensures ms (dates_in before) (equipment_among before) stands.stations;
      codes = c.join.ensures (entries_of_message c.args.message.now) (entries_in ms) (subst (λ (es : List CellEntry). HasCodes c.of-codes.result es) c.requires.entries c.of-codes.ensures) stands.codes;
      system_signals = subst (λ (es : List SignalEntry). HasSystemSignals c.mark_entries.new.self (es ++ cells_beside ms)) c.requires.signals (c.mark_entries.ensures (cells_beside ms) stands.system_signals);
      weeks = stands.weeks;
      system_tellings = stands.system_tellings;
      unread = stands.unread;
      beside = c.in_ok-count_beside.ensures ms stands.beside;
      target = answered q before c.args.payload.now stands.frames stands.target;
      dayless = c.in_ok-count_dayless.ensures ms stands.dayless;
    }) c.take_target_message.ensures
