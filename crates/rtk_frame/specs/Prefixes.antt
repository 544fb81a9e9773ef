-- The checksums of the prefixes of a text.
use Rattle.std.specs.Prelude.{◌≡◌, ℕ, ◌+◌, ◌<◌, ◌≤◌, List, length, get_or, take}
use Rattle.rtk_frame.specs.Checksum.{crc}

-- the list has the checksums of the first 0, 1, 2, .. bytes of the text, of as many prefixes as it
-- is long
abbrev pub ArePrefixChecksums : List ℕ → List ℕ → Type 0
ArePrefixChecksums checksums text =
    (length checksums ≤ length text + 1) × ((i : ℕ) → i < length checksums → get_or checksums i 0 ≡ crc (take i text))
