-- The digest of bytes that were read (this project's rule).
use Rattle.std.specs.Prelude.{ℕ, List, [], ◌∷◌, ◌+◌, ◌-◌, ◌*◌, ◌%◌, ◌^◌, min, length}
use Rattle.rtk_commands.specs.declared.rereading.Digest.{Digest}

-- the checksum with a byte more, as a u64
abbrev pub with_byte : ℕ → ℕ → ℕ
with_byte check byte = ((check * 1099511628211) % (2 ^ 64) + byte) % (2 ^ 64)

-- the checksum with more bytes, the first of them first
abbrev pub check_with : ℕ → List ℕ → ℕ
check_with check [] = check
check_with check (byte ∷ bytes) = check_with (with_byte check byte) bytes

abbrev pub no_digest : Digest
no_digest = record { bytes = 0; check = 0 }

-- what was read, and a part more
abbrev pub digest_with : Digest → List ℕ → Digest
digest_with digest part = record { bytes = min (digest.bytes + length part) (2 ^ 64 - 1); check = check_with digest.check part }
