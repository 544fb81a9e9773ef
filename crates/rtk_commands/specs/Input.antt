-- What a command read, and how it read an input whole. All of it is this project's rule.
use Rattle.std.specs.Prelude.{◌≡◌, ◌≢◌, ℕ, ◌+◌, ◌≤◌, List, length, Option, Result, Err, IsErrOf}
use Rattle.rtk_frame.specs.Stream.{CountRises, with_more}
use Rattle.rtk_commands.specs.declared.fault.ToolFault.{ToolFault}
use Rattle.rtk_commands.specs.declared.fault.ToolFault.TheVariants.{Input, TooLong, NotHex, OutOfMemory}

-- after all bytes that a source gave before, it gave a text for which this holds; if nothing is
-- known of its bytes, nothing ties the text to them
abbrev pub GivesText : Option (List ℕ) → Option (List ℕ) → (List ℕ → Type 0) → Type 0
GivesText before after P = (text : List ℕ) × (after ≡ with_more before text) × P text

-- a command, which answers this, read its input whole, up to a limit: what it is about was read to
-- its end, each fault comes only if its cause is there, no read fails without its fault, and
-- whatever the answer, one byte more than the limit is read at most
pub record ReadsWhole {S T : Type 0} (given : S → Option (List ℕ)) (failures : S → ℕ) (is_at_end : S → Type 0) (limit : ℕ) (IsNoHex : List ℕ → Type 0) (before after : S) (result : Result T ToolFault) : Type 0 where
  pub to_the_end : result ≢ Err Input → result ≢ Err TooLong → result ≢ Err OutOfMemory → is_at_end after
  pub input : IsErrOf result Input → CountRises (failures before) (failures after)
  pub no_failed_read : result ≢ Err Input → failures after ≡ failures before
  pub too_long : IsErrOf result TooLong → GivesText (given before) (given after) (λ text. length text ≡ limit + 1)
  pub not_hex : IsErrOf result NotHex → GivesText (given before) (given after) (λ text. (length text ≤ limit) × IsNoHex text)
  pub within : GivesText (given before) (given after) (λ text. length text ≤ limit + 1)
