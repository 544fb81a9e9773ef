-- The status that goes with a text of clap's (this project's rule).
use Rattle.std.specs.Prelude.{◌≡◌, ◌≢◌, ◌⊎◌, ℕ}
use Rattle.clap.specs.declared.error.kind.ErrorKind.{ErrorKind}
use Rattle.clap.specs.declared.error.kind.ErrorKind.TheVariants.{DisplayHelp, DisplayVersion}

-- 0 if help or the version was asked for, else 2
abbrev pub IsStatusOf : ErrorKind → ℕ → Type 0
IsStatusOf kind status = ((kind ≡ DisplayHelp) ⊎ (kind ≡ DisplayVersion) → status ≡ 0)
    × ((kind ≢ DisplayHelp) × (kind ≢ DisplayVersion) → status ≡ 2)
