use Rattle.rtk_commands.proofs.showing.show_through.Given as goal

abbrev pub ghosts-show_by : goal.ghosts-show_by
ghosts-show_by g a = record { had = λ _. g.R.Read.remaining a.reader; held = λ _. g.W.Write.contents a.out }
