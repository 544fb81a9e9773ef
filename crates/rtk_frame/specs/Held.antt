-- What a scanner holds.
use Rattle.std.specs.Prelude.{◌≡◌, ℕ, ◌-◌, ◌*◌, ◌≤◌, List, length}
use Rattle.circular_buffer.specs.Buffer.{Buffer}
use Rattle.rtk_frame.specs.Prefixes.{ArePrefixChecksums}
use Rattle.rtk_frame.specs.declared.frame.TheConstants.{LONGEST_FRAME}

-- a ring with room for two of the longest frames holds bytes of which so many at its front are
-- passed, the others are no more than the longest frame, and the checksums are those of prefixes of
-- all the ring's bytes
abbrev pub RingHolds : Buffer ℕ → ℕ → List ℕ → Type 0
RingHolds ring passed checksums =
    (ring.capacity ≡ 2 * LONGEST_FRAME) × (length ring.items ≤ 2 * LONGEST_FRAME)
    × (passed ≤ length ring.items) × (length ring.items - passed ≤ LONGEST_FRAME)
    × ArePrefixChecksums checksums ring.items
