use Rattle.rtk_commands.proofs.WrittenLemmas.{line-follows, picture-follows, numbers-follow, part-follows, label-follows, nothing-follows}
use Rattle.rtk_commands.proofs.laws.written_follows.Goals as goal

pub returns-clause-line : goal.returns-clause-line
returns-clause-line c = line-follows

pub returns-clause-picture : goal.returns-clause-picture
returns-clause-picture c = picture-follows

pub returns-clause-numbers : goal.returns-clause-numbers
returns-clause-numbers c = numbers-follow

pub returns-clause-part : goal.returns-clause-part
returns-clause-part c = part-follows

pub returns-clause-label : goal.returns-clause-label
returns-clause-label c = label-follows

pub returns-clause-nothing : goal.returns-clause-nothing
returns-clause-nothing c = nothing-follows c.blank_is_file.ensures c.front_is_changed.ensures c.mixed_label_laws.ensures
