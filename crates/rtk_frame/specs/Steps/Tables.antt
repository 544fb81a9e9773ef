-- The words of the tables.
use Rattle.std.specs.Prelude.{ℕ, ◌+◌, ◌*◌, ◌++◌, get_or}
use Rattle.rtk_frame.specs.declared.checksum_tables.TheConstants.{TABLES}
use Rattle.rtk_frame.specs.declared.checksum_far_tables.TheConstants.{FAR_TABLES}

-- the word for a byte and so many zero bytes after it
unfoldable pub word_of : ℕ → ℕ → ℕ
word_of zeros byte = get_or (TABLES ++ FAR_TABLES) (256 * zeros + byte) 0
