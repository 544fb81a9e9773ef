use Rattle.std.proofs.Common.{None}
use Rattle.rtk_commands.proofs.input.read_through.Given as goal

abbrev pub ghosts-read_by : goal.ghosts-read_by
ghosts-read_by g a = record { had = λ _. g.R.Read.remaining a.reader; held = λ _. None }
