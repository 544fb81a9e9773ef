use Rattle.rtk_commands.proofs.file_command.gathered_through.Given as goal

abbrev pub ghosts-gathered_by : goal.ghosts-gathered_by
ghosts-gathered_by g a = record { had = λ _. g.R.Read.remaining a.reader; held = λ _. g.W.Write.contents a.out }
