-- The table of names holds the names of the satellites, by a test of each entry.
use Rattle.std.proofs.Common.{◌≡◌, ℕ, ◌+◌, ◌*◌, ◌≤◌, true, [], ◌∷◌, get_or, refl, arith}
use Rattle.rtk_obs.specs.SatelliteIndex.{system_at, bit_at, letter_of, name_offset, index_name}
use Rattle.rtk_rinex.specs.declared.mixed_record_lines.TheConstants.{SATELLITE_NAMES}
use Rattle.rtk_rinex.proofs.ThreesLemmas.{entries, entry_at, tens, units}

abbrev letter : ℕ → ℕ
letter i = letter_of (system_at i)

abbrev number : ℕ → ℕ
number i = bit_at i + name_offset (system_at i)

names_test : entries letter (λ i. tens (number i)) (λ i. units (number i)) (λ i. 32) 0 SATELLITE_NAMES ≡ true
unfolding entries
names_test = refl

pub name_at : (i : ℕ) → i ≤ 221
    → get_or SATELLITE_NAMES (4 * i) 0 ∷ get_or SATELLITE_NAMES (4 * i + 1) 0 ∷ get_or SATELLITE_NAMES (4 * i + 2) 0 ∷ [] ≡ index_name i
name_at i h =
    let e : 0 + i ≡ i = omega arith in
    let t = rw e at (entry_at letter (λ i. tens (number i)) (λ i. units (number i)) (λ i. 32) 0 SATELLITE_NAMES i names_test (omega arith)) in
    rw (t.0, t.1, t.2) refl
