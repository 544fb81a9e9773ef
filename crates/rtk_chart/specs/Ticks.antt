-- Ticks along the time of a picture (this project's rule): at whole seconds, minutes, hours or days.
use Rattle.std.specs.Prelude.{ℕ, ◌+◌, ◌-◌, ◌*◌, ◌/◌, nat_le, nat_lt, List, [], ◌∷◌, Option, None, Some, unwrap_or, min, if◌then◌else◌}
use Rattle.std.specs.List.{find}
use Rattle.rtk_obs.specs.Reading.{reading_of}
use Rattle.rtk_obs.specs.CivilText.{date_text, clock_text}
use Rattle.rtk_chart.specs.Scale.{bin_start}
use Rattle.rtk_chart.specs.declared.scale.Scale.{Scale}

-- table
-- the steps between ticks, in ms: from 1 s to a week
abbrev pub tick_steps : List ℕ
tick_steps =
    1000 ∷ 2000 ∷ 5000 ∷ 10_000 ∷ 15_000 ∷ 30_000 ∷ 60_000 ∷ 120_000 ∷ 300_000 ∷ 600_000 ∷ 900_000 ∷ 1_800_000
    ∷ 3_600_000 ∷ 7_200_000 ∷ 10_800_000 ∷ 21_600_000 ∷ 43_200_000 ∷ 86_400_000 ∷ 172_800_000 ∷ 604_800_000 ∷ []

-- formula
-- the least of them that is so long, or else as many whole days
abbrev pub tick_step : ℕ → ℕ
tick_step least = unwrap_or (find (λ step. nat_le least step) tick_steps) ((least + 86_399_999) / 86_400_000 * 86_400_000)

-- the moment of the tick in a bin, if one is there: the last whole step up to the bin's end and
-- to the last record
abbrev pub last_whole : Scale → ℕ → ℕ → ℕ
last_whole s step c = min (bin_start s c + s.bin_ms - 1) s.last / step * step

-- formula
abbrev pub tick_at : Scale → ℕ → ℕ → Option ℕ
tick_at s step c = if nat_le (bin_start s c) (last_whole s step c) then Some (last_whole s step c) else None

-- formula
-- what stands at a tick: its time of day, or its date if ticks are a day apart or more
unfoldable pub tick_label : ℕ → ℕ → List ℕ
tick_label step t = if nat_lt step 86_400_000 then clock_text (reading_of t) else date_text (reading_of t)

-- formula
-- how many characters that has: as 12:00:00, or as 2024-05-17
abbrev pub label_length : ℕ → ℕ
label_length step = if nat_lt step 86_400_000 then 8 else 10
