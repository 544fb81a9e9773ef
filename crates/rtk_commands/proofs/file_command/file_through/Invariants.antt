use Rattle.rtk_commands.proofs.file_command.file_through.Given as goal

abbrev pub ghosts-file_by : goal.ghosts-file_by
ghosts-file_by g a = record { had = λ _. g.R.Read.remaining a.reader; held = λ _. g.W.Write.contents a.out }
