-- One epoch that lies more than a day after all others (this project's rule).
use Rattle.std.specs.Prelude.{ℕ, ◌+◌, ◌-◌, ◌==◌, Bool, false, nat_lt, max, List, [], ◌∷◌, Option, None, Some, if◌then◌else◌}
use Rattle.rtk_survey.specs.Telling.{day_ms}
use Rattle.rtk_survey.specs.declared.placing.Placed.{Placed}
use Rattle.rtk_survey.specs.declared.span.Span.{Span}
use Rattle.rtk_captures.specs.declared.station_capture.StationCapture.{StationCapture}

-- formula
-- the greatest epoch but one of a capture: as far before the greatest one as it was before the capture was dated
abbrev pub next_before : ℕ → ℕ → Option ℕ → Option ℕ
next_before until greatest None = None
next_before until greatest (Some next) = Some (until - (greatest - next))

abbrev pub placed_next_greatest : Span → Placed → Option ℕ
placed_next_greatest s p = next_before p.until s.greatest s.next_greatest

-- the greatest epoch of a capture before a moment that none of its epochs is after
abbrev pub greatest_before : ℕ → Option Span → Option Placed → Option ℕ
greatest_before until None placed = None
greatest_before until (Some s) None = None
greatest_before until (Some s) (Some p) = if nat_lt p.until until then Some p.until else placed_next_greatest s p

abbrev pub greater_of : Option ℕ → Option ℕ → Option ℕ
greater_of None more = more
greater_of (Some known) None = Some known
greater_of (Some known) (Some more) = Some (max known more)

-- the greatest epoch of captures before such a moment, and of those before them
abbrev pub greatest_of_others : Option ℕ → List StationCapture → List (Option Placed) → ℕ → Option ℕ
greatest_of_others known [] ps until = known
greatest_of_others known (c ∷ cs) [] until = known
greatest_of_others known (c ∷ cs) (p ∷ ps) until = greatest_of_others (greater_of known (greatest_before until c.span p)) cs ps until

-- formula
-- the greatest epoch is more than a day after all others
abbrev pub is_stray : ℕ → Option ℕ → Bool
is_stray until None = false
is_stray until (Some others) = nat_lt (others + day_ms) until

abbrev pub has_epoch : ℕ → Option Placed → Bool
has_epoch epoch None = false
has_epoch epoch (Some p) = p.until == epoch

-- the places, counted from this one, of the captures whose last epoch this is
abbrev pub epoch_places : ℕ → ℕ → List (Option Placed) → List ℕ
epoch_places at epoch [] = []
epoch_places at epoch (p ∷ ps) = if has_epoch epoch p then at ∷ epoch_places (at + 1) epoch ps else epoch_places (at + 1) epoch ps

-- the places of the captures that have the greatest epoch, if it is a stray one
abbrev pub strays : List StationCapture → List (Option Placed) → ℕ → List ℕ
strays cs ps until = if is_stray until (greatest_of_others None cs ps until) then epoch_places 0 until ps else []
