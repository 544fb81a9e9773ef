use Rattle.rtk_commands.proofs.summarizing.summarize_through.Given as goal

abbrev pub ghosts-summarize_by : goal.ghosts-summarize_by
ghosts-summarize_by g a = record { had = λ _. g.R.Read.remaining a.reader; held = λ _. g.W.Write.contents a.out }
