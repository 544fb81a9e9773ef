-- Arrivals: the dated messages of one station, in a list whose first is the newest. A message here
-- is one of the wider set: one of the four types, an MSM of another kind or system than a 1074, or a 1012.
use Rattle.std.specs.Prelude.{ℕ, Option}
use Rattle.rtk_message.specs.declared.any_message.AnyMessage.{AnyMessage as Message}
use Rattle.rtk_message.specs.declared.any_message.AnyMessage.TheVariants as any
use Rattle.rtk_message.specs.declared.arp1005.Arp1005.{Arp1005 as Message1005}
use Rattle.rtk_message.specs.declared.arp1006.Arp1006.{Arp1006 as Message1006}
use Rattle.rtk_message.specs.declared.message.Message.TheVariants.{Arp1005, Arp1006}

-- a message with its epoch in ms of GPS time. A 1005 or 1006 has no epoch: it counts as before all
-- epochs
pub data Arrival : Type 0 where
  At : (epoch : Option ℕ) (message : Message) → Arrival

abbrev pub epoch_of : Arrival → Option ℕ
epoch_of (At e m) = e

abbrev pub message_of : Arrival → Message
message_of (At e m) = m

-- an MSM that is no 1074, or a 1012
abbrev pub IsWideMsm : Message → Type 0
IsWideMsm (any.Message m) = ⊥
IsWideMsm (any.Msm m) = Unit {0}
IsWideMsm (any.Obs1012 m) = Unit {0}

-- a 1005 and a 1006 as messages
abbrev pub message_of_1005 : Message1005 → Message
message_of_1005 m = any.Message (Arp1005 m)

abbrev pub message_of_1006 : Message1006 → Message
message_of_1006 m = any.Message (Arp1006 m)
