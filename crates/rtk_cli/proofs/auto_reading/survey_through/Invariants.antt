use Rattle.std.proofs.Common.{None}
use Rattle.rtk_cli.proofs.auto_reading.survey_through.Given as goal

abbrev pub ghosts-survey_by : goal.ghosts-survey_by
ghosts-survey_by g a = record { had = λ _. g.R.Read.remaining a.reader; held = λ _. None }
