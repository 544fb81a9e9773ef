-- The last phases of all systems in blocks, each with places for 32 satellites of 16 codes.
use Rattle.std.specs.Prelude.{◌≡◌, ◌/◌, ◌%◌, ℕ, List, [], map, Option, None, slice_index_or}
use Rattle.std.specs.List.{range_with_len}
use Rattle.rtk_obs.specs.declared.track.Track.{Track}

-- the last phase at a place
abbrev pub phase_at : List (List (Option Track)) → ℕ → Option Track
phase_at blocks k = slice_index_or (slice_index_or blocks (k / 512) []) (k % 512) None

-- the last phases at all places
abbrev pub phases_of : List (List (Option Track)) → List (Option Track)
phases_of blocks = map (phase_at blocks) (range_with_len 0 3584)

-- a block without a phase
abbrev pub HasNoPhases : List (Option Track) → Type 0
HasNoPhases block = (k : ℕ) → slice_index_or block k None ≡ None
