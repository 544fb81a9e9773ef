-- The position of a station from its messages.
use Rattle.std.specs.Prelude.{◌≡◌, ℕ, pos, List, Option, None, Some, option_map}
use Rattle.rtk_message.specs.declared.arp1005.Arp1005.{Arp1005 as Message1005}
use Rattle.rtk_message.specs.declared.arp1006.Arp1006.{Arp1006 as Message1006}
use Rattle.rtk_obs.specs.PositionFields.{HasFields}
use Rattle.rtk_obs.specs.declared.position.Position.{Position}
use Rattle.rtk_collect.specs.Arrival.{Arrival, message_of_1005, message_of_1006}
use Rattle.rtk_collect.specs.Accepted.{station}

-- formula
-- the position of the 1006, else of the 1005, else zeros; the height of the 1006, else zero (this
-- project's rule)
abbrev pub IsPosition : Option Message1005 → Option Message1006 → Position → Type 0
IsPosition arp1005 (Some m) p = HasFields m.arp.x m.arp.y m.arp.z m.height p
IsPosition (Some m) None p = HasFields m.x m.y m.z 0 p
IsPosition None None p = HasFields (pos 0) (pos 0) (pos 0) 0 p

-- formula
-- the position from the station messages that are kept of these arrivals
abbrev pub IsPositionOf : ℕ → List Arrival → Position → Type 0
IsPositionOf n arrivals p =
    (arp1005 : Option Message1005) (arp1006 : Option Message1006) → option_map message_of_1005 arp1005 ≡ station n 1005 arrivals → option_map message_of_1006 arp1006 ≡ station n 1006 arrivals → IsPosition arp1005 arp1006 p
