use Rattle.rtk_commands.specs.Shown.{IsLineOf}
use Rattle.rtk_commands.specs.ShownBySet.{IsLineBy}
use Rattle.rtk_commands.proofs.LawLemmas.{line-once, line-once-by, text-once}
use Rattle.rtk_commands.proofs.laws.one_text_of_frames.Goals as goal

pub returns-clause-of_show : goal.returns-clause-of_show
returns-clause-of_show c = text-once IsLineOf line-once

pub returns-clause-by_set : goal.returns-clause-by_set
returns-clause-by_set c = λ a. text-once (IsLineBy a) (line-once-by a)
