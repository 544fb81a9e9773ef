-- Equal bodies: two values are equal if all their fields are.
use Rattle.std.specs.Prelude.{Bool, false, Option, None, Some, ◌&&◌, ◌==◌}
use Rattle.std.proofs.Math.Bool.{beq}
use Rattle.std.specs.Ordering.{int_eq}
use Rattle.std.specs.Option.{option_eq}
use Rattle.rtk_obs.specs.declared.cell.Cell.{Cell}
use Rattle.rtk_obs.specs.Slip.{is_same_source}
use Rattle.rtk_message.specs.declared.arp1005.Arp1005.{Arp1005 as Message1005}
use Rattle.rtk_message.specs.declared.arp1006.Arp1006.{Arp1006 as Message1006}
use Rattle.rtk_message.specs.declared.any_message.AnyMessage.{AnyMessage as Message}
use Rattle.rtk_message.specs.declared.any_message.AnyMessage.TheVariants as any
use Rattle.rtk_message.specs.declared.message.Message.TheVariants.{Arp1005, Arp1006}

-- the values of a satellite and code
abbrev pub equal_cells : Cell → Cell → Bool
equal_cells a b =
    option_eq int_eq a.range_mm b.range_mm && (option_eq int_eq a.phase_millicycles b.phase_millicycles && (option_eq ◌==◌ a.strength_millidbhz b.strength_millidbhz
    && ((a.lock_time_ms == b.lock_time_ms) && (beq a.half b.half && (is_same_source a.source b.source && option_eq int_eq a.offset b.offset)))))

-- the fields of a 1005 (RTCM 10403.3, message 1005)
abbrev pub equal_1005 : Message1005 → Message1005 → Bool
equal_1005 a b =
    (a.station == b.station) && ((a.realization_year == b.realization_year) && (beq a.gps b.gps && (beq a.glonass b.glonass && (beq a.galileo b.galileo
    && (beq a.reference_station b.reference_station && (int_eq a.x b.x && (beq a.single_oscillator b.single_oscillator && (beq a.reserved b.reserved
    && (int_eq a.y b.y && ((a.quarter_cycle == b.quarter_cycle) && int_eq a.z b.z))))))))))

-- the fields of a 1006 (RTCM 10403.3, message 1006): those of a 1005 and the height
abbrev pub equal_1006 : Message1006 → Message1006 → Bool
equal_1006 a b = equal_1005 a.arp b.arp && (a.height == b.height)

-- two station messages of one number
abbrev pub equal_stations : Message → Message → Bool
equal_stations (any.Message (Arp1005 a)) (any.Message (Arp1005 b)) = equal_1005 a b
equal_stations (any.Message (Arp1006 a)) (any.Message (Arp1006 b)) = equal_1006 a b
equal_stations _ _ = false

-- the first one, if there is one, equals this one
abbrev pub is_first : {T : Type 0} → (T → T → Bool) → Option T → T → Bool
is_first eq None m = false
is_first eq (Some x) m = eq x m
