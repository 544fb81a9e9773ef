-- Which arrivals are late. What stands after an arrival in a list came before it.
use Rattle.std.specs.Prelude.{ℕ, Bool, false, not, ◌&&◌, List, [], ◌∷◌, ◌==◌, nat_lt, nat_le, length, Option, None, Some, count_by, if◌then◌else◌}
use Rattle.rtk_message.specs.declared.any_message.AnyMessage.{AnyMessage as Message}
use Rattle.rtk_message.specs.AnyDecoded.{number_of}
use Rattle.rtk_collect.specs.Arrival.{Arrival, At, epoch_of}
use Rattle.rtk_collect.specs.Equal.{equal_stations}

-- an epoch joins distinct epochs that fall
abbrev pub with_epoch : ℕ → List ℕ → List ℕ
with_epoch e [] = e ∷ []
with_epoch e (x ∷ xs) = if nat_lt x e then e ∷ x ∷ xs else (if nat_lt e x then x ∷ with_epoch e xs else x ∷ xs)

-- the distinct observation epochs of the arrivals, falling
abbrev pub epochs : List Arrival → List ℕ
epochs [] = []
epochs (At None m ∷ before) = epochs before
epochs (At (Some e) m ∷ before) = with_epoch e (epochs before)

-- how many epochs are greater than this one
abbrev pub greater : Option ℕ → List ℕ → ℕ
greater None es = length es
greater (Some e) es = count_by (λ x. nat_lt e x) es

-- a message without an epoch, and how many observation epochs had come before it
pub record First : Type 0 where
  pub message : Message
  pub epochs_before : ℕ

-- the first stays
abbrev pub first_of : Option First → Option First → Option First
first_of None later = later
first_of (Some f) later = Some f

-- the first arrival with this number and without an epoch
abbrev pub first_with : ℕ → List Arrival → Option First
first_with k [] = None
first_with k (At (Some e) m ∷ before) = first_with k before
first_with k (At None m ∷ before) = first_of (first_with k before) (if number_of m == k then Some (record { message = m; epochs_before = length (epochs before) }) else None)

-- the first one is an equal message, and fewer than n epochs had come before it
abbrev pub is_repeat_of : ℕ → Message → Option First → Bool
is_repeat_of n m None = false
is_repeat_of n m (Some f) = equal_stations f.message m && nat_lt f.epochs_before n

-- a message without an epoch repeats the first one with its number
abbrev pub is_excused : ℕ → Arrival → List Arrival → Bool
is_excused n (At None m) before = is_repeat_of n m (first_with (number_of m) before)
is_excused n (At (Some e) m) before = false

-- formula
-- late: at least n distinct greater observation epochs came before, and it is no repeat of a
-- station message before which fewer than n epochs had come (this project's rule)
abbrev pub late : ℕ → Arrival → List Arrival → Bool
late n a before = nat_le n (greater (epoch_of a) (epochs before)) && not (is_excused n a before)
