-- What is known of the bytes of a writer whose text is looked at (this project's rule).
use Rattle.std.specs.Prelude.{ℕ, List, Option}
use Rattle.rtk_cli.specs.declared.watching.Watched.{Watched}

-- the bytes that the writer behind holds
abbrev pub watched_contents : {W T : Type 0} → (W → Option (List ℕ)) → Watched W T → Option (List ℕ)
watched_contents contents w = contents w.inner
