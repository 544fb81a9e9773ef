use Rattle.rtk_commands.proofs.KindLemmas.{line-by-1074, line-of-show, lines-by-1074, lines-of-show}
use Rattle.rtk_commands.proofs.laws.lines_of_show_are_of_1074.Goals as goal

pub returns-clause-line : goal.returns-clause-line
returns-clause-line c = λ payload line. (line-by-1074 payload line, line-of-show payload line)

pub returns-clause-lines : goal.returns-clause-lines
returns-clause-lines c = λ frames text. (lines-by-1074 frames text, lines-of-show frames text)
