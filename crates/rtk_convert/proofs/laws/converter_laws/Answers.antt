use Rattle.rtk_message.specs.declared.system.System.TheVariants.{Sbas}
use Rattle.rtk_setup.specs.Setup.{SetupView, channels_of, lists_system}
use Rattle.rtk_convert.proofs.SameHistoryLemmas.{link-decides-refusal, link-holds-newest, waiting-decides-frames, held-decides-call, held-decides-end}
use Rattle.rtk_convert.proofs.laws.converter_laws.Goals as goal

pub returns : goal.returns
returns c = record {
  refused = link-decides-refusal;
  newest = link-holds-newest;
  found = waiting-decides-frames;
  call = held-decides-call (λ (s : SetupView). c.signal_window_laws.ensures.greatest (lists_system s.head.listed Sbas) s.head.doppler (channels_of s.head.glonass)) c.stations_are_final.ensures.excused;
  end = held-decides-end (λ (s : SetupView). c.signal_window_laws.ensures.greatest (lists_system s.head.listed Sbas) s.head.doppler (channels_of s.head.glonass)) c.stations_are_final.ensures.excused;
}
