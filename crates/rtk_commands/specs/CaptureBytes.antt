-- What is known of the bytes of a capture of the program (this project's rule).
use Rattle.std.specs.Prelude.{ℕ, List, Option}
use Rattle.rtk_commands.specs.declared.files.Capture.{Capture}
use Rattle.rtk_commands.specs.declared.files.Capture.TheVariants.{File, Stdin}

-- the bytes that the file, or standard input, has left
abbrev pub capture_remaining : {F I : Type 0} → (F → Option (List ℕ)) → (I → Option (List ℕ)) → Capture F I → Option (List ℕ)
capture_remaining of_file of_stdin (File file) = of_file file
capture_remaining of_file of_stdin (Stdin stdin) = of_stdin stdin
