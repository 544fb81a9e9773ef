-- What is known of the bytes of a writer that can be kept silent (this project's rule).
use Rattle.std.specs.Prelude.{ℕ, List, Option, None, if◌then◌else◌}
use Rattle.rtk_commands.specs.declared.quiet.Quiet.{Quiet}

-- the bytes that the writer behind holds; of one that is silent nothing is said
abbrev pub quiet_contents : {W : Type 0} → (W → Option (List ℕ)) → Quiet W → Option (List ℕ)
quiet_contents contents q = if q.is_quiet then None else contents q.inner
