-- Calls that a signal interrupts (this project's rule).
use Rattle.std.specs.Prelude.{◌≡◌, ◌≢◌, ◌⊎◌, ℕ, ◌+◌, ◌<◌, Result, Ok, Err}
use Rattle.std.specs.IoError.{error_kind}
use Rattle.std.specs.declared.io.Error.{Error}
use Rattle.std.specs.declared.io.ErrorKind.TheVariants.{Interrupted}

-- constant
-- the most interruptions in a row after each of which a call is made again: 1,000
abbrev pub most_interruptions : ℕ
most_interruptions = 1000

-- what follows a call that ended with an error, after so many interruptions in a row: the call is
-- made again, and there was one interruption more; or the caller has the error; or, if there were
-- too many, another error that is no interruption
abbrev pub FollowsError : Error → ℕ → Result ℕ Error → Type 0
FollowsError error interruptions (Ok more) =
    (error_kind error ≡ Interrupted) × (interruptions < most_interruptions) × (more ≡ interruptions + 1)
FollowsError error interruptions (Err told) =
    ((error_kind error ≢ Interrupted) × (told ≡ error))
    ⊎ ((error_kind error ≡ Interrupted) × (interruptions ≡ most_interruptions) × (error_kind told ≢ Interrupted))
