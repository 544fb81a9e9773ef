-- The dates of captures of one station (this project's rule).
use Rattle.std.specs.Prelude.{ℕ, ◌+◌, ◌-◌, ◌%◌, Bool, ◌&&◌, nat_le, nat_lt, min, Option, None, Some}
use Rattle.rtk_message.specs.Fields.{week_ms}
use Rattle.rtk_survey.specs.Telling.{dated, half_week_ms}
use Rattle.rtk_survey.specs.declared.placing.CaptureEpochs.{CaptureEpochs}
use Rattle.rtk_survey.specs.declared.placing.Placed.{Placed}
use Rattle.rtk_survey.specs.declared.span.Span.{Span}

-- the lesser of a number and another one, if there is another one
abbrev pub least_with : Option ℕ → ℕ → Option ℕ
least_with None n = Some n
least_with (Some m) n = Some (min m n)

abbrev pub least_with_if_any : Option ℕ → Option ℕ → Option ℕ
least_with_if_any least None = least
least_with_if_any least (Some n) = least_with least n

-- formula
-- the first epoch of a capture: as it is told, else dated near a base
abbrev pub first_epoch : ℕ → Option ℕ → Span → ℕ
first_epoch base (Some first) s = first
first_epoch base None s = dated base (s.first % week_ms)

-- formula
-- the least and the greatest epoch of a capture with this first epoch
abbrev pub placed_from : ℕ → Span → Placed
placed_from first s = record { first = first; from = first + s.least - s.first; until = first + s.greatest - s.first }

abbrev pub placed : ℕ → CaptureEpochs → Placed
placed base c = placed_from (first_epoch base c.told c.span) c.span

-- formula
-- all epochs of a capture are dated by a conversion near this moment as they are here
abbrev pub is_dated_near : ℕ → Placed → Bool
is_dated_near near p = nat_le near (p.from + half_week_ms) && nat_lt p.until (near + half_week_ms)
