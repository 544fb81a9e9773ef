use Rattle.rtk_collect.proofs.NextWindowLemmas.{new-window-is-empty, windows-answer, answers-unique, windows-unique}
use Rattle.rtk_collect.proofs.laws.collector_laws.Goals as goal
use Rattle.rtk_collect.specs.Gps.{gps}
use Rattle.rtk_obs.specs.MessageCells.{cells_of}

pub returns-clause-new : goal.returns-clause-new
returns-clause-new c = new-window-is-empty gps cells_of

pub returns-clause-answers : goal.returns-clause-answers
returns-clause-answers c = windows-answer gps cells_of

pub returns-clause-one_answer : goal.returns-clause-one_answer
returns-clause-one_answer c = answers-unique gps cells_of

pub returns-clause-one_window : goal.returns-clause-one_window
returns-clause-one_window c = windows-unique gps cells_of
