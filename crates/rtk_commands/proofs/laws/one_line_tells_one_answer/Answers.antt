use Rattle.rtk_commands.proofs.CheckLineLemmas.{yes-tells, no-tells, both-never}
use Rattle.rtk_commands.proofs.laws.one_line_tells_one_answer.Goals as goal

pub returns-clause-yes : goal.returns-clause-yes
returns-clause-yes c = yes-tells c.text_of_a_table.ensures.one c.text_of_a_mixed_table.ensures.one

pub returns-clause-no : goal.returns-clause-no
returns-clause-no c = no-tells c.one_fault.ensures.one c.one_mixed_fault.ensures.one

pub returns-clause-apart : goal.returns-clause-apart
returns-clause-apart c = both-never
