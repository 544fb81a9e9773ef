use Rattle.rtk_quality.proofs.LineLemmas.{band-strengths-are}
use Rattle.rtk_quality.proofs.station_lines.put_strengths.Goals as goal

pub returns : goal.returns
returns c =
    band-strengths-are c.args.form c.args.codes.now c.args.strengths.now c.args.text.now.items c.put_strength.new.text.items c.put_strength-2.new.text.items
    c.put_strength-3.new.text.items c.put_strength-4.new.text.items c.put_strength-5.new.text.items c.put_strength-6.new.text.items
    c.in_ok-put_strength.ensures c.in_ok-put_strength-2.ensures c.in_ok-put_strength-3.ensures c.in_ok-put_strength-4.ensures c.in_ok-put_strength-5.ensures
    c.in_ok-put_strength-6.ensures
