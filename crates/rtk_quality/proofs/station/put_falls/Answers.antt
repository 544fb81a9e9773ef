use Rattle.std.specs.Prelude.{codes}
use Rattle.rtk_quality.specs.QualityText.{falls_heading, falls_text, falls_of}
use Rattle.rtk_quality.proofs.ListTextLemmas.{list-is}
use Rattle.rtk_quality.proofs.station.put_falls.Goals as goal

pub returns : goal.returns
unfolding falls_text
returns c =
    list-is c.args.form falls_heading (codes ",\n\"falls\":[") (falls_of c.args.form c.args.hours.now) c.args.text.now.items c.begin_list.new.text.items c.put_each_fall.new.text.items c.end_list.new.text.items _ _
    c.in_ok-start.ensures.text c.in_ok-start.ensures.list c.in_ok-start.ensures.entries c.in_ok-put_each_fall.ensures c.in_ok-end_list.ensures
