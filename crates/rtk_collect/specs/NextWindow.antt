-- What a window answers to an arrival, and what it is afterwards: by what it holds, without the
-- arrivals before.
use Rattle.std.specs.Prelude.{◌≡◌, Bool, false, not, ◌&&◌, List, [], map, take, nat_lt, nat_le, Option, None, Some, option_map, slice_get, if◌then◌else◌}
use Rattle.std.specs.Option.{is_some, option_or}
use Rattle.rtk_message.specs.AnyDecoded.{tow_of}
use Rattle.rtk_message.specs.declared.any_message.AnyMessage.{AnyMessage as Message}
use Rattle.rtk_message.specs.declared.any_message.AnyMessage.TheVariants as any
use Rattle.rtk_message.specs.declared.message.Message.TheVariants.{Arp1005, Arp1006}
use Rattle.rtk_collect.specs.declared.outcome.Outcome.{Outcome}
use Rattle.rtk_collect.specs.declared.outcome.Outcome.TheVariants.{Taken, Conflict, Repeat, Late}
use Rattle.rtk_collect.specs.Arrival.{Arrival, At, epoch_of, message_of_1005, message_of_1006}
use Rattle.rtk_collect.specs.Entries.{Entries}
use Rattle.rtk_collect.specs.Equal.{equal_stations, is_first}
use Rattle.rtk_collect.specs.EpochSet.{EpochSetView, fresh, conflicts}
use Rattle.rtk_collect.specs.Late.{greater}
use Rattle.rtk_collect.specs.Accepted.{with_arrival, cells_at}
use Rattle.rtk_collect.specs.Answer.{conflicts_with}
use Rattle.rtk_collect.specs.Collector.{CollectorView}

-- an arrival has an epoch exactly if its message has a time of week: 1005 and 1006 have none
abbrev pub IsTimed : Arrival → Type 0
IsTimed (At e m) = is_some e ≡ is_some (tow_of m)

-- the station message of a window that has the number of this one
abbrev pub station_in : {E : Type 0} → CollectorView E → Message → Option Message
station_in w (any.Message (Arp1005 m)) = option_map message_of_1005 w.arp1005
station_in w (any.Message (Arp1006 m)) = option_map message_of_1006 w.arp1006
station_in w m = None

-- a 1005 or 1006 equals the one that the window has
abbrev pub repeats_in : {E : Type 0} → CollectorView E → Arrival → Bool
repeats_in w (At None m) = is_first equal_stations (station_in w m) m
repeats_in w (At (Some e) m) = false

-- late: the window is full of greater epochs, and the arrival is no station message that it has
abbrev pub late_in : {E : Type 0} → CollectorView E → Arrival → Bool
late_in w a = nat_le w.places (greater (epoch_of a) (map (λ x. x.epoch) w.sets)) && not (repeats_in w a)

-- the answer if no cell is new: a conflict, if there is one, else a repeat
abbrev pub outcome_by : {E S : Type 0} → List S → Outcome E S
outcome_by [] = Repeat
outcome_by _ = Conflict

-- the answer to cells that come in time, by those of their epoch if it is open; one that opens closes
-- the epoch behind the last place, if there is one
abbrev pub outcome_of_cells : {E S : Type 0} → Entries E S → List E → Option (List E) → Option (EpochSetView E) → Outcome E S
outcome_of_cells es cells None behind = Taken behind
outcome_of_cells es cells (Some held) behind = if nat_lt 0 (fresh es cells held) then Taken None else outcome_by (conflicts es cells held)

-- the answer to a station message that comes in time, by the one with its number
abbrev pub outcome_of_station : {E S : Type 0} → Message → Option Message → Outcome E S
outcome_of_station m None = Taken None
outcome_of_station m (Some x) = if equal_stations x m then Repeat else Conflict

abbrev pub outcome_in_time : {E S : Type 0} → Entries E S → (Message → List E) → CollectorView E → Arrival → Outcome E S
outcome_in_time es of w (At None m) = outcome_of_station m (station_in w m)
outcome_in_time es of w (At (Some e) m) =
    outcome_of_cells es (of m) (cells_at e w.sets) (slice_get (with_arrival es e (of m) w.sets) w.places)

-- the answer of a window to an arrival
abbrev pub outcome_in : {E S : Type 0} → Entries E S → (Message → List E) → CollectorView E → Arrival → Outcome E S
outcome_in es of w a = if late_in w a then Late else outcome_in_time es of w a

abbrev pub conflicts_in_time : {E S : Type 0} → Entries E S → (Message → List E) → CollectorView E → Arrival → List S
conflicts_in_time es of w (At None m) = []
conflicts_in_time es of w (At (Some e) m) = conflicts_with es (of m) (cells_at e w.sets)

-- the conflicts that a window lists with its answer
abbrev pub conflicts_in : {E S : Type 0} → Entries E S → (Message → List E) → CollectorView E → Arrival → List S
conflicts_in es of w a = if late_in w a then [] else conflicts_in_time es of w a

-- a window that keeps this station message, if it has none with its number
abbrev pub with_station : {E : Type 0} → Message → CollectorView E → CollectorView E
with_station (any.Message (Arp1005 m)) w = record w { arp1005 = option_or w.arp1005 (Some m) }
with_station (any.Message (Arp1006 m)) w = record w { arp1006 = option_or w.arp1006 (Some m) }
with_station m w = w

abbrev pub next_in_time : {E S : Type 0} → Entries E S → (Message → List E) → CollectorView E → Arrival → CollectorView E
next_in_time es of w (At None m) = with_station m w
next_in_time es of w (At (Some e) m) = record w { sets = take w.places (with_arrival es e (of m) w.sets) }

-- a window after an arrival
abbrev pub next_window : {E S : Type 0} → Entries E S → (Message → List E) → CollectorView E → Arrival → CollectorView E
next_window es of w a = if late_in w a then w else next_in_time es of w a
