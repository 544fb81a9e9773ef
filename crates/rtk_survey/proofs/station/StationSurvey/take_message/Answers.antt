use Rattle.std.proofs.Common.{◌++◌, ◌∙◌, List, ap, subst}
use Rattle.rtk_obs.specs.declared.cell.CellEntry.{CellEntry}
use Rattle.rtk_obs.specs.declared.signal_cells.SignalEntry.{SignalEntry}
use Rattle.rtk_survey.specs.BesideGps.{cells_beside}
use Rattle.rtk_survey.specs.Chains.{with_clock_of}
use Rattle.rtk_survey.specs.Contents.{HasSignals, HasSystemSignals}
use Rattle.rtk_survey.specs.Tracing.{entries_in}
use Rattle.rtk_survey.specs.declared.clock_chains.ClockSurvey.{ClockSurvey}
use Rattle.rtk_survey.proofs.ResultLemmas.{on-ok}
use Rattle.rtk_survey.proofs.station.StationSurvey.take_message.Goals as goal

pub returns : goal.returns
returns c = on-ok c.take_system_message.result (λ took ms d e stands. record {
  counts = c.count_message.ensures ms stands.counts;
  times = c.note_message.ensures ms stands.times;
  signals = subst (λ (es : List CellEntry). HasSignals c.mark_entries.new.self (es ++ entries_in ms)) c.requires.entries (c.mark_entries.ensures (entries_in ms) stands.signals);
  msm = c.add_message.ensures ms stands.msm;
  system_signals = subst (λ (es : List SignalEntry). HasSystemSignals c.mark_entries-2.new.self (es ++ cells_beside ms)) c.requires.signals (c.mark_entries-2.ensures (cells_beside ms) stands.system_signals);
  system_msm = took ms stands.system_msm;
  channels = c.in_ok-take_channels.ensures ms stands.channels;
  clocks = c.in_ok-take_clock.ensures ∙ ap (λ (x : ClockSurvey). with_clock_of c.args.message.now x) stands.clocks;
  point = c.first_point_with-self.ensures ms stands.point;
  far = c.far_point_with-self.ensures ms stands.point stands.far;
  dates = stands.dates;
  equipment = stands.equipment;
  nameless = c.in_ok-count_nameless.ensures ms stands.nameless;
  other_point = c.has_other_point_with-self.ensures ms stands.point stands.other_point;
}) c.take_system_message.ensures
