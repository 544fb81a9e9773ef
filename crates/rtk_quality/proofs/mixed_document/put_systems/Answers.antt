use Rattle.std.proofs.Common.{[]}
use Rattle.std.specs.Prelude.{codes}
use Rattle.rtk_quality.specs.MixedQuality.{parts_of_systems, systems_text}
use Rattle.rtk_quality.proofs.ListTextLemmas.{list-is}
use Rattle.rtk_quality.proofs.mixed_document.put_systems.Goals as goal

pub returns : goal.returns
unfolding systems_text
returns c = λ t is text.
    list-is c.args.form [] (codes ",\n\"systems\":[") (parts_of_systems c.args.head.now.doppler c.args.form c.args.head.now.listed c.args.interval t.epochs) c.args.text.now.items c.begin_list.new.text.items
    c.put_parts.new.text.items c.end_list.new.text.items _ _ c.in_ok-start.ensures.text c.in_ok-start.ensures.list c.in_ok-start.ensures.entries (c.in_ok-put_parts.ensures t is text)
    c.in_ok-end_list.ensures
