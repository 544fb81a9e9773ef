-- Messages that `==` calls equal are the same in all fields, and no others; so it is with faults.
use Rattle.std.proofs.Common.{◌≡◌, Bool, true, false, List, refl, ap}
use Rattle.std.proofs.Math.Bool.{beq}
use Rattle.std.specs.Bool.{Decides}
use Rattle.std.specs.Cmp.{unsigned_Decides, signed_Decides}
use Rattle.std.specs.Cmp.Lexicographic.{pointwise}
use Rattle.std.proofs.lemmas.Bool.Decides.{Decides-and, Decides-like}
use Rattle.std.proofs.lemmas.Slice.Eq.{slice_eq-Decides}
use Rattle.rtk_message.specs.declared.fault.DecodeFault.{DecodeFault}
use Rattle.rtk_message.specs.declared.fault.DecodeFault.TheVariants.{NoNumber, Other, Short, EpochRange, TooManyCells}
use Rattle.rtk_message.specs.declared.obs1004.Satellite.{Satellite}
use Rattle.rtk_message.specs.declared.obs1004.Obs1004 as declared_obs1004
use Rattle.rtk_message.specs.declared.obs1012.GlonassSatellite.{GlonassSatellite}
use Rattle.rtk_message.specs.declared.obs1012.Obs1012 as declared_obs1012
use Rattle.rtk_message.specs.declared.arp1005.Arp1005 as declared_arp1005
use Rattle.rtk_message.specs.declared.arp1006.Arp1006 as declared_arp1006
use Rattle.rtk_message.specs.declared.msm1074.MsmHeader.{MsmHeader}
use Rattle.rtk_message.specs.declared.msm1074.Msm1074 as declared_msm1074
use Rattle.rtk_message.specs.declared.msm_kind.MsmKind.{MsmKind}
use Rattle.rtk_message.specs.declared.msm_kind.MsmKind.TheVariants.{Msm4, Msm5, Msm6, Msm7}
use Rattle.rtk_message.specs.declared.system.System.{System}
use Rattle.rtk_message.specs.declared.system.System.TheVariants.{Gps, Glonass, Galileo, Beidou, Qzss, Sbas, Navic}
use Rattle.rtk_message.specs.declared.msm.Msm as declared_msm
use Rattle.rtk_message.specs.declared.any_fault.AnyFault.{AnyFault}
use Rattle.rtk_message.specs.declared.any_fault.AnyFault.TheVariants as any_fault
use Rattle.rtk_message.specs.declared.any_message.AnyMessage.{AnyMessage}
use Rattle.rtk_message.specs.declared.any_message.AnyMessage.TheVariants as any_message
use Rattle.rtk_message.specs.declared.message.Message.{Message}
use Rattle.rtk_message.specs.declared.message.Message.TheVariants.{Obs1004, Arp1005, Arp1006, Msm1074}
use Rattle.rtk_message.specs.contracts.fault.DecodeFaultPartialEq.TheImpl as fault_eq
use Rattle.rtk_message.specs.contracts.obs1004.SatellitePartialEq.TheImpl as satellite_eq
use Rattle.rtk_message.specs.contracts.arp1005.Arp1005PartialEq.TheImpl as arp1005_eq
use Rattle.rtk_message.specs.contracts.arp1006.Arp1006PartialEq.TheImpl as arp1006_eq
use Rattle.rtk_message.specs.contracts.msm1074.MsmHeaderPartialEq.TheImpl as header_eq
use Rattle.rtk_message.specs.contracts.obs1004.Obs1004PartialEq.TheImpl as obs1004_eq
use Rattle.rtk_message.specs.contracts.obs1012.GlonassSatellitePartialEq.TheImpl as glonass_satellite_eq
use Rattle.rtk_message.specs.contracts.obs1012.Obs1012PartialEq.TheImpl as obs1012_eq
use Rattle.rtk_message.specs.contracts.msm1074.Msm1074PartialEq.TheImpl as msm1074_eq
use Rattle.rtk_message.specs.contracts.message.MessagePartialEq.TheImpl as message_eq
use Rattle.rtk_message.specs.contracts.system.SystemPartialEq.TheImpl as system_eq
use Rattle.rtk_message.specs.contracts.msm_kind.MsmKindPartialEq.TheImpl as kind_eq
use Rattle.rtk_message.specs.contracts.msm.MsmPartialEq.TheImpl as msm_eq
use Rattle.rtk_message.specs.contracts.any_fault.AnyFaultPartialEq.TheImpl as any_fault_eq
use Rattle.rtk_message.specs.contracts.any_message.AnyMessagePartialEq.TheImpl as any_message_eq

bool_same : (a b : Bool) → Decides (beq a b) (a ≡ b)
bool_same true true = (λ e. refl, λ e. refl)
bool_same false false = (λ e. refl, λ e. refl)
bool_same true false = (λ e. absurd cc, λ e. absurd cc)
bool_same false true = (λ e. absurd cc, λ e. absurd cc)

-- lists whose elements are the same one by one
list_same : {X : Type 0} (E : X → X → Bool) → ((a b : X) → Decides (E a b) (a ≡ b)) → (xs ys : List X) → Decides (pointwise E xs ys) (xs ≡ ys)
list_same E each xs ys = slice_eq-Decides each xs ys (pointwise E xs ys) refl

satellite_same : (s t : Satellite) → Decides ((satellite_eq.ghosts).eq s t) (s ≡ t)
satellite_same s t = Decides-like ((satellite_eq.ghosts).eq s t)
    (λ h i. record { satellite = h.0 i; l1_code = h.1.0 i; l1_range = h.1.1.0 i; l1_phase_difference = h.1.1.1.0 i; l1_lock_indicator = h.1.1.1.1.0 i; modulus_ambiguity = h.1.1.1.1.1.0 i; l1_cnr = h.1.1.1.1.1.1.0 i; l2_code = h.1.1.1.1.1.1.1.0 i; l2_range_difference = h.1.1.1.1.1.1.1.1.0 i; l2_phase_difference = h.1.1.1.1.1.1.1.1.1.0 i; l2_lock_indicator = h.1.1.1.1.1.1.1.1.1.1.0 i; l2_cnr = h.1.1.1.1.1.1.1.1.1.1.1 i })
    (λ e. (ap (λ (x : Satellite). x.satellite) e, (ap (λ (x : Satellite). x.l1_code) e, (ap (λ (x : Satellite). x.l1_range) e, (ap (λ (x : Satellite). x.l1_phase_difference) e, (ap (λ (x : Satellite). x.l1_lock_indicator) e, (ap (λ (x : Satellite). x.modulus_ambiguity) e, (ap (λ (x : Satellite). x.l1_cnr) e, (ap (λ (x : Satellite). x.l2_code) e, (ap (λ (x : Satellite). x.l2_range_difference) e, (ap (λ (x : Satellite). x.l2_phase_difference) e, (ap (λ (x : Satellite). x.l2_lock_indicator) e, ap (λ (x : Satellite). x.l2_cnr) e))))))))))))
    (Decides-and _ _ (unsigned_Decides s.satellite t.satellite) (Decides-and _ _ (bool_same s.l1_code t.l1_code) (Decides-and _ _ (unsigned_Decides s.l1_range t.l1_range) (Decides-and _ _ (signed_Decides s.l1_phase_difference t.l1_phase_difference) (Decides-and _ _ (unsigned_Decides s.l1_lock_indicator t.l1_lock_indicator) (Decides-and _ _ (unsigned_Decides s.modulus_ambiguity t.modulus_ambiguity) (Decides-and _ _ (unsigned_Decides s.l1_cnr t.l1_cnr) (Decides-and _ _ (unsigned_Decides s.l2_code t.l2_code) (Decides-and _ _ (signed_Decides s.l2_range_difference t.l2_range_difference) (Decides-and _ _ (signed_Decides s.l2_phase_difference t.l2_phase_difference) (Decides-and _ _ (unsigned_Decides s.l2_lock_indicator t.l2_lock_indicator) (unsigned_Decides s.l2_cnr t.l2_cnr))))))))))))

arp1005_same : (s t : declared_arp1005.Arp1005) → Decides ((arp1005_eq.ghosts).eq s t) (s ≡ t)
arp1005_same s t = Decides-like ((arp1005_eq.ghosts).eq s t)
    (λ h i. record { station = h.0 i; realization_year = h.1.0 i; gps = h.1.1.0 i; glonass = h.1.1.1.0 i; galileo = h.1.1.1.1.0 i; reference_station = h.1.1.1.1.1.0 i; x = h.1.1.1.1.1.1.0 i; single_oscillator = h.1.1.1.1.1.1.1.0 i; reserved = h.1.1.1.1.1.1.1.1.0 i; y = h.1.1.1.1.1.1.1.1.1.0 i; quarter_cycle = h.1.1.1.1.1.1.1.1.1.1.0 i; z = h.1.1.1.1.1.1.1.1.1.1.1 i })
    (λ e. (ap (λ (x : declared_arp1005.Arp1005). x.station) e, (ap (λ (x : declared_arp1005.Arp1005). x.realization_year) e, (ap (λ (x : declared_arp1005.Arp1005). x.gps) e, (ap (λ (x : declared_arp1005.Arp1005). x.glonass) e, (ap (λ (x : declared_arp1005.Arp1005). x.galileo) e, (ap (λ (x : declared_arp1005.Arp1005). x.reference_station) e, (ap (λ (x : declared_arp1005.Arp1005). x.x) e, (ap (λ (x : declared_arp1005.Arp1005). x.single_oscillator) e, (ap (λ (x : declared_arp1005.Arp1005). x.reserved) e, (ap (λ (x : declared_arp1005.Arp1005). x.y) e, (ap (λ (x : declared_arp1005.Arp1005). x.quarter_cycle) e, ap (λ (x : declared_arp1005.Arp1005). x.z) e))))))))))))
    (Decides-and _ _ (unsigned_Decides s.station t.station) (Decides-and _ _ (unsigned_Decides s.realization_year t.realization_year) (Decides-and _ _ (bool_same s.gps t.gps) (Decides-and _ _ (bool_same s.glonass t.glonass) (Decides-and _ _ (bool_same s.galileo t.galileo) (Decides-and _ _ (bool_same s.reference_station t.reference_station) (Decides-and _ _ (signed_Decides s.x t.x) (Decides-and _ _ (bool_same s.single_oscillator t.single_oscillator) (Decides-and _ _ (bool_same s.reserved t.reserved) (Decides-and _ _ (signed_Decides s.y t.y) (Decides-and _ _ (unsigned_Decides s.quarter_cycle t.quarter_cycle) (signed_Decides s.z t.z))))))))))))

arp1006_same : (s t : declared_arp1006.Arp1006) → Decides ((arp1006_eq.ghosts).eq s t) (s ≡ t)
arp1006_same s t = Decides-like ((arp1006_eq.ghosts).eq s t)
    (λ h i. record { arp = h.0 i; height = h.1 i })
    (λ e. (ap (λ (x : declared_arp1006.Arp1006). x.arp) e, ap (λ (x : declared_arp1006.Arp1006). x.height) e))
    (Decides-and _ _ (arp1005_same s.arp t.arp) (unsigned_Decides s.height t.height))

header_same : (s t : MsmHeader) → Decides ((header_eq.ghosts).eq s t) (s ≡ t)
header_same s t = Decides-like ((header_eq.ghosts).eq s t)
    (λ h i. record { station = h.0 i; tow = h.1.0 i; multiple_message = h.1.1.0 i; issue_of_data_station = h.1.1.1.0 i; reserved = h.1.1.1.1.0 i; clock_steering = h.1.1.1.1.1.0 i; external_clock = h.1.1.1.1.1.1.0 i; smoothing = h.1.1.1.1.1.1.1.0 i; smoothing_interval = h.1.1.1.1.1.1.1.1.0 i; satellite_mask = h.1.1.1.1.1.1.1.1.1.0 i; signal_mask = h.1.1.1.1.1.1.1.1.1.1 i })
    (λ e. (ap (λ (x : MsmHeader). x.station) e, (ap (λ (x : MsmHeader). x.tow) e, (ap (λ (x : MsmHeader). x.multiple_message) e, (ap (λ (x : MsmHeader). x.issue_of_data_station) e, (ap (λ (x : MsmHeader). x.reserved) e, (ap (λ (x : MsmHeader). x.clock_steering) e, (ap (λ (x : MsmHeader). x.external_clock) e, (ap (λ (x : MsmHeader). x.smoothing) e, (ap (λ (x : MsmHeader). x.smoothing_interval) e, (ap (λ (x : MsmHeader). x.satellite_mask) e, ap (λ (x : MsmHeader). x.signal_mask) e)))))))))))
    (Decides-and _ _ (unsigned_Decides s.station t.station) (Decides-and _ _ (unsigned_Decides s.tow t.tow) (Decides-and _ _ (bool_same s.multiple_message t.multiple_message) (Decides-and _ _ (unsigned_Decides s.issue_of_data_station t.issue_of_data_station) (Decides-and _ _ (unsigned_Decides s.reserved t.reserved) (Decides-and _ _ (unsigned_Decides s.clock_steering t.clock_steering) (Decides-and _ _ (unsigned_Decides s.external_clock t.external_clock) (Decides-and _ _ (bool_same s.smoothing t.smoothing) (Decides-and _ _ (unsigned_Decides s.smoothing_interval t.smoothing_interval) (Decides-and _ _ (unsigned_Decides s.satellite_mask t.satellite_mask) (unsigned_Decides s.signal_mask t.signal_mask)))))))))))

pub obs1004_same : (s t : declared_obs1004.Obs1004) → Decides ((obs1004_eq.ghosts).eq s t) (s ≡ t)
obs1004_same s t = Decides-like ((obs1004_eq.ghosts).eq s t)
    (λ h i. record { station = h.0 i; tow = h.1.0 i; synchronous = h.1.1.0 i; smoothing = h.1.1.1.0 i; smoothing_interval = h.1.1.1.1.0 i; satellites = h.1.1.1.1.1 i })
    (λ e. (ap (λ (x : declared_obs1004.Obs1004). x.station) e, (ap (λ (x : declared_obs1004.Obs1004). x.tow) e, (ap (λ (x : declared_obs1004.Obs1004). x.synchronous) e, (ap (λ (x : declared_obs1004.Obs1004). x.smoothing) e, (ap (λ (x : declared_obs1004.Obs1004). x.smoothing_interval) e, ap (λ (x : declared_obs1004.Obs1004). x.satellites) e))))))
    (Decides-and _ _ (unsigned_Decides s.station t.station) (Decides-and _ _ (unsigned_Decides s.tow t.tow) (Decides-and _ _ (bool_same s.synchronous t.synchronous) (Decides-and _ _ (bool_same s.smoothing t.smoothing) (Decides-and _ _ (unsigned_Decides s.smoothing_interval t.smoothing_interval) (list_same _ satellite_same s.satellites t.satellites))))))

glonass_satellite_same : (s t : GlonassSatellite) → Decides ((glonass_satellite_eq.ghosts).eq s t) (s ≡ t)
glonass_satellite_same s t = Decides-like ((glonass_satellite_eq.ghosts).eq s t)
    (λ h i. record { slot = h.0 i; l1_code = h.1.0 i; channel = h.1.1.0 i; l1_range = h.1.1.1.0 i; l1_phase_difference = h.1.1.1.1.0 i; l1_lock_indicator = h.1.1.1.1.1.0 i; modulus_ambiguity = h.1.1.1.1.1.1.0 i; l1_cnr = h.1.1.1.1.1.1.1.0 i; l2_code = h.1.1.1.1.1.1.1.1.0 i; l2_range_difference = h.1.1.1.1.1.1.1.1.1.0 i; l2_phase_difference = h.1.1.1.1.1.1.1.1.1.1.0 i; l2_lock_indicator = h.1.1.1.1.1.1.1.1.1.1.1.0 i; l2_cnr = h.1.1.1.1.1.1.1.1.1.1.1.1 i })
    (λ e. (ap (λ (x : GlonassSatellite). x.slot) e, (ap (λ (x : GlonassSatellite). x.l1_code) e, (ap (λ (x : GlonassSatellite). x.channel) e, (ap (λ (x : GlonassSatellite). x.l1_range) e, (ap (λ (x : GlonassSatellite). x.l1_phase_difference) e, (ap (λ (x : GlonassSatellite). x.l1_lock_indicator) e, (ap (λ (x : GlonassSatellite). x.modulus_ambiguity) e, (ap (λ (x : GlonassSatellite). x.l1_cnr) e, (ap (λ (x : GlonassSatellite). x.l2_code) e, (ap (λ (x : GlonassSatellite). x.l2_range_difference) e, (ap (λ (x : GlonassSatellite). x.l2_phase_difference) e, (ap (λ (x : GlonassSatellite). x.l2_lock_indicator) e, ap (λ (x : GlonassSatellite). x.l2_cnr) e)))))))))))))
    (Decides-and _ _ (unsigned_Decides s.slot t.slot) (Decides-and _ _ (bool_same s.l1_code t.l1_code) (Decides-and _ _ (unsigned_Decides s.channel t.channel) (Decides-and _ _ (unsigned_Decides s.l1_range t.l1_range) (Decides-and _ _ (signed_Decides s.l1_phase_difference t.l1_phase_difference) (Decides-and _ _ (unsigned_Decides s.l1_lock_indicator t.l1_lock_indicator) (Decides-and _ _ (unsigned_Decides s.modulus_ambiguity t.modulus_ambiguity) (Decides-and _ _ (unsigned_Decides s.l1_cnr t.l1_cnr) (Decides-and _ _ (unsigned_Decides s.l2_code t.l2_code) (Decides-and _ _ (signed_Decides s.l2_range_difference t.l2_range_difference) (Decides-and _ _ (signed_Decides s.l2_phase_difference t.l2_phase_difference) (Decides-and _ _ (unsigned_Decides s.l2_lock_indicator t.l2_lock_indicator) (unsigned_Decides s.l2_cnr t.l2_cnr)))))))))))))

pub obs1012_same : (s t : declared_obs1012.Obs1012) → Decides ((obs1012_eq.ghosts).eq s t) (s ≡ t)
obs1012_same s t = Decides-like ((obs1012_eq.ghosts).eq s t)
    (λ h i. record { station = h.0 i; time_of_day_ms = h.1.0 i; synchronous = h.1.1.0 i; smoothing = h.1.1.1.0 i; smoothing_interval = h.1.1.1.1.0 i; satellites = h.1.1.1.1.1 i })
    (λ e. (ap (λ (x : declared_obs1012.Obs1012). x.station) e, (ap (λ (x : declared_obs1012.Obs1012). x.time_of_day_ms) e, (ap (λ (x : declared_obs1012.Obs1012). x.synchronous) e, (ap (λ (x : declared_obs1012.Obs1012). x.smoothing) e, (ap (λ (x : declared_obs1012.Obs1012). x.smoothing_interval) e, ap (λ (x : declared_obs1012.Obs1012). x.satellites) e))))))
    (Decides-and _ _ (unsigned_Decides s.station t.station) (Decides-and _ _ (unsigned_Decides s.time_of_day_ms t.time_of_day_ms) (Decides-and _ _ (bool_same s.synchronous t.synchronous) (Decides-and _ _ (bool_same s.smoothing t.smoothing) (Decides-and _ _ (unsigned_Decides s.smoothing_interval t.smoothing_interval) (list_same _ glonass_satellite_same s.satellites t.satellites))))))

pub msm1074_same : (s t : declared_msm1074.Msm1074) → Decides ((msm1074_eq.ghosts).eq s t) (s ≡ t)
msm1074_same s t = Decides-like ((msm1074_eq.ghosts).eq s t)
    (λ h i. record { header = h.0 i; cell_mask = h.1.0 i; rough_ms = h.1.1.0 i; rough_fraction = h.1.1.1.0 i; fine_range = h.1.1.1.1.0 i; fine_phase = h.1.1.1.1.1.0 i; lock_indicator = h.1.1.1.1.1.1.0 i; half_cycle = h.1.1.1.1.1.1.1.0 i; cnr = h.1.1.1.1.1.1.1.1 i })
    (λ e. (ap (λ (x : declared_msm1074.Msm1074). x.header) e, (ap (λ (x : declared_msm1074.Msm1074). x.cell_mask) e, (ap (λ (x : declared_msm1074.Msm1074). x.rough_ms) e, (ap (λ (x : declared_msm1074.Msm1074). x.rough_fraction) e, (ap (λ (x : declared_msm1074.Msm1074). x.fine_range) e, (ap (λ (x : declared_msm1074.Msm1074). x.fine_phase) e, (ap (λ (x : declared_msm1074.Msm1074). x.lock_indicator) e, (ap (λ (x : declared_msm1074.Msm1074). x.half_cycle) e, ap (λ (x : declared_msm1074.Msm1074). x.cnr) e)))))))))
    (Decides-and _ _ (header_same s.header t.header) (Decides-and _ _ (list_same _ unsigned_Decides s.cell_mask t.cell_mask) (Decides-and _ _ (list_same _ unsigned_Decides s.rough_ms t.rough_ms) (Decides-and _ _ (list_same _ unsigned_Decides s.rough_fraction t.rough_fraction) (Decides-and _ _ (list_same _ signed_Decides s.fine_range t.fine_range) (Decides-and _ _ (list_same _ signed_Decides s.fine_phase t.fine_phase) (Decides-and _ _ (list_same _ unsigned_Decides s.lock_indicator t.lock_indicator) (Decides-and _ _ (list_same _ bool_same s.half_cycle t.half_cycle) (list_same _ unsigned_Decides s.cnr t.cnr)))))))))

pub message_same : (a b : Message) → Decides ((message_eq.ghosts).eq a b) (a ≡ b)
message_same (Obs1004 m) (Obs1004 n) = (λ e. ap Obs1004 ((obs1004_same m n).0 e), λ e. (obs1004_same m n).1 cc)
message_same (Obs1004 m) (Arp1005 n) = (λ e. absurd cc, λ e. absurd cc)
message_same (Obs1004 m) (Arp1006 n) = (λ e. absurd cc, λ e. absurd cc)
message_same (Obs1004 m) (Msm1074 n) = (λ e. absurd cc, λ e. absurd cc)
message_same (Arp1005 m) (Obs1004 n) = (λ e. absurd cc, λ e. absurd cc)
message_same (Arp1005 m) (Arp1005 n) = (λ e. ap Arp1005 ((arp1005_same m n).0 e), λ e. (arp1005_same m n).1 cc)
message_same (Arp1005 m) (Arp1006 n) = (λ e. absurd cc, λ e. absurd cc)
message_same (Arp1005 m) (Msm1074 n) = (λ e. absurd cc, λ e. absurd cc)
message_same (Arp1006 m) (Obs1004 n) = (λ e. absurd cc, λ e. absurd cc)
message_same (Arp1006 m) (Arp1005 n) = (λ e. absurd cc, λ e. absurd cc)
message_same (Arp1006 m) (Arp1006 n) = (λ e. ap Arp1006 ((arp1006_same m n).0 e), λ e. (arp1006_same m n).1 cc)
message_same (Arp1006 m) (Msm1074 n) = (λ e. absurd cc, λ e. absurd cc)
message_same (Msm1074 m) (Obs1004 n) = (λ e. absurd cc, λ e. absurd cc)
message_same (Msm1074 m) (Arp1005 n) = (λ e. absurd cc, λ e. absurd cc)
message_same (Msm1074 m) (Arp1006 n) = (λ e. absurd cc, λ e. absurd cc)
message_same (Msm1074 m) (Msm1074 n) = (λ e. ap Msm1074 ((msm1074_same m n).0 e), λ e. (msm1074_same m n).1 cc)

pub fault_same : (a b : DecodeFault) → Decides ((fault_eq.ghosts).eq a b) (a ≡ b)
fault_same NoNumber NoNumber = (λ e. refl, λ e. refl)
fault_same NoNumber (Other n) = (λ e. absurd cc, λ e. absurd cc)
fault_same NoNumber (Short n) = (λ e. absurd cc, λ e. absurd cc)
fault_same NoNumber (EpochRange n) = (λ e. absurd cc, λ e. absurd cc)
fault_same NoNumber TooManyCells = (λ e. absurd cc, λ e. absurd cc)
fault_same (Other m) NoNumber = (λ e. absurd cc, λ e. absurd cc)
fault_same (Other m) (Other n) = (λ e. ap Other ((unsigned_Decides m n).0 e), λ e. (unsigned_Decides m n).1 cc)
fault_same (Other m) (Short n) = (λ e. absurd cc, λ e. absurd cc)
fault_same (Other m) (EpochRange n) = (λ e. absurd cc, λ e. absurd cc)
fault_same (Other m) TooManyCells = (λ e. absurd cc, λ e. absurd cc)
fault_same (Short m) NoNumber = (λ e. absurd cc, λ e. absurd cc)
fault_same (Short m) (Other n) = (λ e. absurd cc, λ e. absurd cc)
fault_same (Short m) (Short n) = (λ e. ap Short ((unsigned_Decides m n).0 e), λ e. (unsigned_Decides m n).1 cc)
fault_same (Short m) (EpochRange n) = (λ e. absurd cc, λ e. absurd cc)
fault_same (Short m) TooManyCells = (λ e. absurd cc, λ e. absurd cc)
fault_same (EpochRange m) NoNumber = (λ e. absurd cc, λ e. absurd cc)
fault_same (EpochRange m) (Other n) = (λ e. absurd cc, λ e. absurd cc)
fault_same (EpochRange m) (Short n) = (λ e. absurd cc, λ e. absurd cc)
fault_same (EpochRange m) (EpochRange n) = (λ e. ap EpochRange ((unsigned_Decides m n).0 e), λ e. (unsigned_Decides m n).1 cc)
fault_same (EpochRange m) TooManyCells = (λ e. absurd cc, λ e. absurd cc)
fault_same TooManyCells NoNumber = (λ e. absurd cc, λ e. absurd cc)
fault_same TooManyCells (Other n) = (λ e. absurd cc, λ e. absurd cc)
fault_same TooManyCells (Short n) = (λ e. absurd cc, λ e. absurd cc)
fault_same TooManyCells (EpochRange n) = (λ e. absurd cc, λ e. absurd cc)
fault_same TooManyCells TooManyCells = (λ e. refl, λ e. refl)

system_same : (a b : System) → Decides ((system_eq.ghosts).eq a b) (a ≡ b)
system_same Gps Gps = (λ e. refl, λ e. refl)
system_same Glonass Glonass = (λ e. refl, λ e. refl)
system_same Galileo Galileo = (λ e. refl, λ e. refl)
system_same Beidou Beidou = (λ e. refl, λ e. refl)
system_same Qzss Qzss = (λ e. refl, λ e. refl)
system_same Sbas Sbas = (λ e. refl, λ e. refl)
system_same Navic Navic = (λ e. refl, λ e. refl)
system_same a b = (λ e. absurd cc, λ e. absurd cc)

kind_same : (a b : MsmKind) → Decides ((kind_eq.ghosts).eq a b) (a ≡ b)
kind_same Msm4 Msm4 = (λ e. refl, λ e. refl)
kind_same Msm5 Msm5 = (λ e. refl, λ e. refl)
kind_same Msm6 Msm6 = (λ e. refl, λ e. refl)
kind_same Msm7 Msm7 = (λ e. refl, λ e. refl)
kind_same a b = (λ e. absurd cc, λ e. absurd cc)

pub msm_same : (s t : declared_msm.Msm) → Decides ((msm_eq.ghosts).eq s t) (s ≡ t)
msm_same s t = Decides-like ((msm_eq.ghosts).eq s t)
    (λ h i. record { system = h.0 i; kind = h.1.0 i; header = h.1.1.0 i; cell_mask = h.1.1.1.0 i; rough_ms = h.1.1.1.1.0 i; extended = h.1.1.1.1.1.0 i; rough_fraction = h.1.1.1.1.1.1.0 i; rough_rate = h.1.1.1.1.1.1.1.0 i; fine_range = h.1.1.1.1.1.1.1.1.0 i; fine_phase = h.1.1.1.1.1.1.1.1.1.0 i; lock_indicator = h.1.1.1.1.1.1.1.1.1.1.0 i; half_cycle = h.1.1.1.1.1.1.1.1.1.1.1.0 i; cnr = h.1.1.1.1.1.1.1.1.1.1.1.1.0 i; fine_rate = h.1.1.1.1.1.1.1.1.1.1.1.1.1 i })
    (λ e. (ap (λ (x : declared_msm.Msm). x.system) e, (ap (λ (x : declared_msm.Msm). x.kind) e, (ap (λ (x : declared_msm.Msm). x.header) e, (ap (λ (x : declared_msm.Msm). x.cell_mask) e, (ap (λ (x : declared_msm.Msm). x.rough_ms) e, (ap (λ (x : declared_msm.Msm). x.extended) e, (ap (λ (x : declared_msm.Msm). x.rough_fraction) e, (ap (λ (x : declared_msm.Msm). x.rough_rate) e, (ap (λ (x : declared_msm.Msm). x.fine_range) e, (ap (λ (x : declared_msm.Msm). x.fine_phase) e, (ap (λ (x : declared_msm.Msm). x.lock_indicator) e, (ap (λ (x : declared_msm.Msm). x.half_cycle) e, (ap (λ (x : declared_msm.Msm). x.cnr) e, ap (λ (x : declared_msm.Msm). x.fine_rate) e))))))))))))))
    (Decides-and _ _ (system_same s.system t.system) (Decides-and _ _ (kind_same s.kind t.kind) (Decides-and _ _ (header_same s.header t.header) (Decides-and _ _ (list_same _ unsigned_Decides s.cell_mask t.cell_mask) (Decides-and _ _ (list_same _ unsigned_Decides s.rough_ms t.rough_ms) (Decides-and _ _ (list_same _ unsigned_Decides s.extended t.extended) (Decides-and _ _ (list_same _ unsigned_Decides s.rough_fraction t.rough_fraction) (Decides-and _ _ (list_same _ signed_Decides s.rough_rate t.rough_rate) (Decides-and _ _ (list_same _ signed_Decides s.fine_range t.fine_range) (Decides-and _ _ (list_same _ signed_Decides s.fine_phase t.fine_phase) (Decides-and _ _ (list_same _ unsigned_Decides s.lock_indicator t.lock_indicator) (Decides-and _ _ (list_same _ bool_same s.half_cycle t.half_cycle) (Decides-and _ _ (list_same _ unsigned_Decides s.cnr t.cnr) (list_same _ signed_Decides s.fine_rate t.fine_rate))))))))))))))

pub any_message_same : (a b : AnyMessage) → Decides ((any_message_eq.ghosts).eq a b) (a ≡ b)
any_message_same (any_message.Message m) (any_message.Message n) = (λ e. ap any_message.Message ((message_same m n).0 e), λ e. (message_same m n).1 cc)
any_message_same (any_message.Message m) (any_message.Msm n) = (λ e. absurd cc, λ e. absurd cc)
any_message_same (any_message.Message m) (any_message.Obs1012 n) = (λ e. absurd cc, λ e. absurd cc)
any_message_same (any_message.Msm m) (any_message.Message n) = (λ e. absurd cc, λ e. absurd cc)
any_message_same (any_message.Msm m) (any_message.Msm n) = (λ e. ap any_message.Msm ((msm_same m n).0 e), λ e. (msm_same m n).1 cc)
any_message_same (any_message.Msm m) (any_message.Obs1012 n) = (λ e. absurd cc, λ e. absurd cc)
any_message_same (any_message.Obs1012 m) (any_message.Message n) = (λ e. absurd cc, λ e. absurd cc)
any_message_same (any_message.Obs1012 m) (any_message.Msm n) = (λ e. absurd cc, λ e. absurd cc)
any_message_same (any_message.Obs1012 m) (any_message.Obs1012 n) = (λ e. ap any_message.Obs1012 ((obs1012_same m n).0 e), λ e. (obs1012_same m n).1 cc)

pub any_fault_same : (a b : AnyFault) → Decides ((any_fault_eq.ghosts).eq a b) (a ≡ b)
any_fault_same any_fault.NoNumber any_fault.NoNumber = (λ e. refl, λ e. refl)
any_fault_same any_fault.NoNumber (any_fault.Other n) = (λ e. absurd cc, λ e. absurd cc)
any_fault_same any_fault.NoNumber (any_fault.Short n) = (λ e. absurd cc, λ e. absurd cc)
any_fault_same any_fault.NoNumber (any_fault.EpochRange n) = (λ e. absurd cc, λ e. absurd cc)
any_fault_same any_fault.NoNumber (any_fault.TooManyCells n) = (λ e. absurd cc, λ e. absurd cc)
any_fault_same (any_fault.Other m) any_fault.NoNumber = (λ e. absurd cc, λ e. absurd cc)
any_fault_same (any_fault.Other m) (any_fault.Other n) = (λ e. ap any_fault.Other ((unsigned_Decides m n).0 e), λ e. (unsigned_Decides m n).1 cc)
any_fault_same (any_fault.Other m) (any_fault.Short n) = (λ e. absurd cc, λ e. absurd cc)
any_fault_same (any_fault.Other m) (any_fault.EpochRange n) = (λ e. absurd cc, λ e. absurd cc)
any_fault_same (any_fault.Other m) (any_fault.TooManyCells n) = (λ e. absurd cc, λ e. absurd cc)
any_fault_same (any_fault.Short m) any_fault.NoNumber = (λ e. absurd cc, λ e. absurd cc)
any_fault_same (any_fault.Short m) (any_fault.Other n) = (λ e. absurd cc, λ e. absurd cc)
any_fault_same (any_fault.Short m) (any_fault.Short n) = (λ e. ap any_fault.Short ((unsigned_Decides m n).0 e), λ e. (unsigned_Decides m n).1 cc)
any_fault_same (any_fault.Short m) (any_fault.EpochRange n) = (λ e. absurd cc, λ e. absurd cc)
any_fault_same (any_fault.Short m) (any_fault.TooManyCells n) = (λ e. absurd cc, λ e. absurd cc)
any_fault_same (any_fault.EpochRange m) any_fault.NoNumber = (λ e. absurd cc, λ e. absurd cc)
any_fault_same (any_fault.EpochRange m) (any_fault.Other n) = (λ e. absurd cc, λ e. absurd cc)
any_fault_same (any_fault.EpochRange m) (any_fault.Short n) = (λ e. absurd cc, λ e. absurd cc)
any_fault_same (any_fault.EpochRange m) (any_fault.EpochRange n) = (λ e. ap any_fault.EpochRange ((unsigned_Decides m n).0 e), λ e. (unsigned_Decides m n).1 cc)
any_fault_same (any_fault.EpochRange m) (any_fault.TooManyCells n) = (λ e. absurd cc, λ e. absurd cc)
any_fault_same (any_fault.TooManyCells m) any_fault.NoNumber = (λ e. absurd cc, λ e. absurd cc)
any_fault_same (any_fault.TooManyCells m) (any_fault.Other n) = (λ e. absurd cc, λ e. absurd cc)
any_fault_same (any_fault.TooManyCells m) (any_fault.Short n) = (λ e. absurd cc, λ e. absurd cc)
any_fault_same (any_fault.TooManyCells m) (any_fault.EpochRange n) = (λ e. absurd cc, λ e. absurd cc)
any_fault_same (any_fault.TooManyCells m) (any_fault.TooManyCells n) = (λ e. ap any_fault.TooManyCells ((unsigned_Decides m n).0 e), λ e. (unsigned_Decides m n).1 cc)
