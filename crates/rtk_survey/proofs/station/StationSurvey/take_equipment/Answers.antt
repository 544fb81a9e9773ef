use Rattle.std.proofs.Common.{ap, ◌∙◌}
use Rattle.rtk_survey.specs.EquipmentHistory.{with_message}
use Rattle.rtk_survey.specs.declared.equipment.Equipment.{Equipment}
use Rattle.rtk_survey.proofs.ResultLemmas.{on-ok}
use Rattle.rtk_survey.proofs.station.StationSurvey.take_equipment.Goals as goal

pub returns : goal.returns
returns c = on-ok c.take_equipment.result (λ took ms d e stands. record {
  counts = stands.counts;
  times = stands.times;
  signals = stands.signals;
  msm = stands.msm;
  system_signals = stands.system_signals;
  system_msm = stands.system_msm;
  channels = stands.channels;
  clocks = stands.clocks;
  point = stands.point;
  far = stands.far;
  dates = stands.dates;
  equipment = took ∙ ap (λ (x : Equipment). with_message c.args.message x) stands.equipment;
  nameless = stands.nameless;
  other_point = stands.other_point;
}) c.take_equipment.ensures
