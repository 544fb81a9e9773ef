use Rattle.std.proofs.Common.{◌++◌}
use Rattle.std.specs.Prelude.{flat_map}
use Rattle.rtk_quality.specs.Lists.{more_text, largest_text}
use Rattle.rtk_quality.proofs.ListLemmas.{and-then}
use Rattle.rtk_quality.proofs.ListTextLemmas.{list-is}
use Rattle.rtk_quality.proofs.station.put_largest.Goals as goal

pub returns : goal.returns
unfolding largest_text
returns g c =
    let entries = flat_map (g.T.Listed.entry c.args.form) c.args.largest.now.things.items in
    let more = more_text c.args.form c.args.largest.now.count in
    let start = c.begin_list.new.text.items in
    list-is c.args.form c.args.heading.now c.args.key.now (entries ++ more) c.args.text.now.items start c.put_more.new.text.items c.end_list.new.text.items _ _
    c.in_ok-start.ensures.text c.in_ok-start.ensures.list c.in_ok-start.ensures.entries
    (and-then start c.put_each.new.text.items c.put_more.new.text.items entries more (rw c.as_slice.ensures.value at c.in_ok-put_each.ensures) c.in_ok-put_more.ensures)
    c.in_ok-end_list.ensures
