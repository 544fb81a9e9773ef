use Rattle.rtk_commands.proofs.CompareLemmas.{told_of}
use Rattle.rtk_commands.proofs.comparing.Compare.files.Goals as goal

pub returns : goal.returns
returns c = λ old_text new_text p q.
    told_of c.args.self.now old_text new_text c.args.old.now.table.text c.args.new.now.table.text c.args.old.now.label c.args.new.now.label c.args.old.now.times c.args.new.now.times c.found_in_labels-findings.result c.compare.new.findings c.is_worse-worse.result
    c.in_ok-text.text.items p q c.found_in_labels-findings.ensures c.in_ok-compare.ensures.added c.is_worse-worse.ensures c.in_ok-text.ensures
