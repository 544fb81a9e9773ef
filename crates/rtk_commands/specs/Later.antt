-- What is known of the bytes of a file that is opened at its first read (this project's rule).
use Rattle.std.specs.Prelude.{ℕ, List, [], Option, None, Some}
use Rattle.rtk_commands.specs.declared.later.LaterFile.{LaterFile}
use Rattle.rtk_commands.specs.declared.later.LaterFile.TheVariants.{Waiting, Open, Ended}

-- before it is open nothing is known; at its end nothing is left
abbrev pub later_remaining : {F : Type 0} → (F → Option (List ℕ)) → LaterFile F → Option (List ℕ)
later_remaining of_file Waiting = None
later_remaining of_file (Open file) = of_file file
later_remaining of_file Ended = Some []
