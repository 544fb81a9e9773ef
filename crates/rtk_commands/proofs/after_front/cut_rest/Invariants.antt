use Rattle.rtk_commands.proofs.after_front.cut_rest.Given as goal

abbrev pub ghosts-cut_rest_by : goal.ghosts-cut_rest_by
ghosts-cut_rest_by g a = record { had = λ _. g.W.Sink.taken a.out; held = λ _. g.W.Sink.taken a.out }
