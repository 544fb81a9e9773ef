-- What becomes of a station message, by the first one with its number.
use Rattle.std.specs.Prelude.{◌≡◌, ℕ, Bool, true, false, List, Option, None, Some}
use Rattle.rtk_collect.specs.Collector.{CollectorView}
use Rattle.rtk_collect.specs.EpochSet.{EpochSetView}
use Rattle.rtk_collect.specs.declared.stations.StationMessages.{StationMessages}
use Rattle.rtk_collect.specs.Equal.{is_first}
use Rattle.rtk_collect.specs.declared.outcome.Outcome.{Outcome}
use Rattle.rtk_collect.specs.declared.outcome.Outcome.TheVariants.{Taken, Conflict, Repeat, Late}

-- a window of n places with these epochs and station messages
abbrev pub window_of : {E : Type 0} → ℕ → List (EpochSetView E) → StationMessages → CollectorView E
window_of n sets stations = record { places = n; sets = sets; arp1005 = stations.arp1005; arp1006 = stations.arp1006 }

-- the answer to a station message, and what is kept after it
abbrev pub AnswersStationMessage : {T E S : Type 0} → (T → T → Bool) → Option T → T → Bool → Outcome E S → Option T → Type 0
AnswersStationMessage eq old m full Late new = (full ≡ true) × (is_first eq old m ≡ false) × (new ≡ old)
AnswersStationMessage eq old m full (Taken done) new = (full ≡ false) × (old ≡ None) × (new ≡ Some m) × (done ≡ None)
AnswersStationMessage eq None m full Conflict new = ⊥
AnswersStationMessage eq (Some x) m full Conflict new = (full ≡ false) × (eq x m ≡ false) × (new ≡ Some x)
AnswersStationMessage eq old m full Repeat new = (is_first eq old m ≡ true) × (new ≡ old)
