use Rattle.rtk_label.proofs.CutLemmas.{number_within}
use Rattle.rtk_label.proofs.unlabelled.len_in.Goals as goal

pub returns-clause-within : goal.returns-clause-within
returns-clause-within c = (number_within c.args.lines.now c.args.number.now c.line_len.result c.requires c.line_len.ensures.blank c.line_len.ensures.filled).0

pub returns-clause-small : goal.returns-clause-small
returns-clause-small c = (number_within c.args.lines.now c.args.number.now c.line_len.result c.requires c.line_len.ensures.blank c.line_len.ensures.filled).1
