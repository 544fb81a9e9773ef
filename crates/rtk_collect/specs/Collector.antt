-- What a collector holds.
use Rattle.std.specs.Prelude.{◌≡◌, ℕ, ◌≤◌, List, length, take, Option, option_map}
use Rattle.rtk_message.specs.declared.any_message.AnyMessage.{AnyMessage as Message}
use Rattle.rtk_message.specs.declared.arp1005.Arp1005.{Arp1005 as Message1005}
use Rattle.rtk_message.specs.declared.arp1006.Arp1006.{Arp1006 as Message1006}
use Rattle.std.specs.Option.{ForSome}
use Rattle.rtk_message.specs.Arp1005 as arp1005_spec
use Rattle.rtk_message.specs.Arp1006 as arp1006_spec
use Rattle.rtk_collect.specs.EpochSet.{EpochsFall, EpochSetView}
use Rattle.rtk_collect.specs.Arrival.{Arrival, message_of_1005, message_of_1006}
use Rattle.rtk_collect.specs.Entries.{Entries}
use Rattle.rtk_collect.specs.Accepted.{station, kept}

-- a window: its number of places, the greatest epochs, falling, and the first 1005 and 1006
pub record CollectorView (E : Type 0) : Type 0 where
  pub places : ℕ
  pub sets : List (EpochSetView E)
  pub arp1005 : Option Message1005
  pub arp1006 : Option Message1006

-- two to 4,096 places, and no more epochs than places; station messages whose fields fit
pub record IsCollectorView {E : Type 0} (w : CollectorView E) : Type 0 where
  pub low : 2 ≤ w.places
  pub high : w.places ≤ 4096
  pub few : length w.sets ≤ w.places
  pub falls : EpochsFall w.sets
  pub fits_1005 : ForSome w.arp1005 arp1005_spec.IsValid
  pub fits_1006 : ForSome w.arp1006 arp1006_spec.IsValid

-- a window holds what is kept of these arrivals
pub record RepresentsArrivals {E S : Type 0} (es : Entries E S) (of : Message → List E) (w : CollectorView E) (arrivals : List Arrival) : Type 0 where
  pub sets : w.sets ≡ take w.places (kept es of w.places arrivals)
  pub arp1005 : option_map message_of_1005 w.arp1005 ≡ station w.places 1005 arrivals
  pub arp1006 : option_map message_of_1006 w.arp1006 ≡ station w.places 1006 arrivals

-- what is left of a window at its end
pub record LeftView (E : Type 0) : Type 0 where
  pub sets : List (EpochSetView E)
  pub arp1005 : Option Message1005
  pub arp1006 : Option Message1006

-- the epochs fall, and the fields of the station messages fit
pub record IsLeftView {E : Type 0} (r : LeftView E) : Type 0 where
  pub falls : EpochsFall r.sets
  pub fits_1005 : ForSome r.arp1005 arp1005_spec.IsValid
  pub fits_1006 : ForSome r.arp1006 arp1006_spec.IsValid

-- what is left of a window keeps the station messages that are kept of these arrivals in a window
-- of n places
pub record KeepsStations {E : Type 0} (r : LeftView E) (n : ℕ) (arrivals : List Arrival) : Type 0 where
  pub arp1005 : option_map message_of_1005 r.arp1005 ≡ station n 1005 arrivals
  pub arp1006 : option_map message_of_1006 r.arp1006 ≡ station n 1006 arrivals
