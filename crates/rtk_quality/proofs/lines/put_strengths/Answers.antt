use Rattle.rtk_quality.proofs.LineLemmas.{strengths-are}
use Rattle.rtk_quality.proofs.lines.put_strengths.Goals as goal

pub returns : goal.returns
returns c =
    strengths-are c.args.form c.args.counts.now c.mean_hundredths-mean.result c.args.text.now.items c.put_narrow.new.text.items c.put_value.new.text.items c.put_narrow-2.new.text.items
    c.mean_hundredths-mean.ensures c.in_ok-put_narrow.ensures c.in_ok-put_value.ensures c.in_ok-put_narrow-2.ensures
