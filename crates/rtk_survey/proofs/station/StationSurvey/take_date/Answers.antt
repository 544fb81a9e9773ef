use Rattle.std.proofs.Common.{refl}
use Rattle.rtk_survey.proofs.station.StationSurvey.take_date.Goals as goal

pub returns : goal.returns
returns c = λ ms ds e stands. record {
  counts = stands.counts;
  times = stands.times;
  signals = stands.signals;
  msm = stands.msm;
  system_signals = stands.system_signals;
  system_msm = stands.system_msm;
  channels = stands.channels;
  clocks = stands.clocks;
  point = stands.point;
  far = stands.far;
  dates = c.count.ensures c.args.date.station ds refl stands.dates;
  equipment = stands.equipment;
  nameless = stands.nameless;
  other_point = stands.other_point;
}
