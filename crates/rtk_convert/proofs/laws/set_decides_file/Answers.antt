use Rattle.rtk_message.specs.declared.system.System.TheVariants.{Sbas}
use Rattle.rtk_setup.specs.Setup.{SetupView, channels_of, lists_system}
use Rattle.rtk_convert.proofs.ArrivalLawsLemmas.{one-file, late-leave, others-leave}
use Rattle.rtk_convert.proofs.laws.set_decides_file.Goals as goal

pub returns : goal.returns
returns c = record {
  same = one-file (λ (s : SetupView). c.signal_window_laws.ensures.same (lists_system s.head.listed Sbas) s.head.doppler (channels_of s.head.glonass));
  late = late-leave (λ (s : SetupView). c.signal_window_laws.ensures.late_change_nothing (lists_system s.head.listed Sbas) s.head.doppler (channels_of s.head.glonass));
  others = others-leave;
}
