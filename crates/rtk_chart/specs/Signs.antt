-- What a bin shows of a satellite, over its codes; and the codes that a satellite has nowhere in a file (this
-- project's rule).
use Rattle.std.specs.Prelude.{ℕ, Bool, not, ◌&&◌, List, None, Option}
use Rattle.std.specs.List.{fold, list_any, range_with_len}
use Rattle.rtk_tracking.specs.Extremes.{lesser}
use Rattle.rtk_chart.specs.Grid.{tracking_at, marks_at}
use Rattle.rtk_chart.specs.declared.tracking.Tracking.{Tracking}
use Rattle.rtk_chart.specs.declared.time_bin.TimeBin.{TimeBin}

-- some phase stands
abbrev pub is_tracked : Tracking → Bool
is_tracked tracking = list_any (λ m. m.phase) tracking.codes

abbrev pub has_slip : Tracking → Bool
has_slip tracking = list_any (λ m. m.slip) tracking.codes

abbrev pub has_rise : Tracking → Bool
has_rise tracking = list_any (λ m. m.rise) tracking.codes

abbrev pub has_return : Tracking → Bool
has_return tracking = list_any (λ m. m.returned) tracking.codes

abbrev pub has_half : Tracking → Bool
has_half tracking = list_any (λ m. m.half) tracking.codes

-- the least strength digit
abbrev pub least_level : Tracking → Option ℕ
least_level tracking = fold (λ least m. lesser least m.least) None tracking.codes

-- the satellite has a row in the file
unfoldable pub is_drawn : List TimeBin → ℕ → Bool
is_drawn bins place = list_any (λ bin. (tracking_at place bin).seen) bins

-- formula
-- the satellite has a phase of this code somewhere in the file
unfoldable pub has_code : List TimeBin → ℕ → ℕ → Bool
has_code bins place code = list_any (λ bin. (marks_at code (tracking_at place bin)).phase) bins

-- formula
-- the satellite has a row in the file, and a phase of this code nowhere
abbrev pub is_never : List TimeBin → ℕ → ℕ → Bool
is_never bins code place = is_drawn bins place && not (has_code bins place code)

-- formula
-- a code is missing that the satellite has elsewhere, which a test says
abbrev pub is_missing : (ℕ → Bool) → Tracking → Bool
is_missing has tracking = list_any (λ code. has code && (marks_at code tracking).missing) (range_with_len 0 16)
