use Rattle.rtk_quality.proofs.MixedTextLemmas.{mixed-heading-is}
use Rattle.rtk_quality.proofs.mixed_document.put_mixed_heading.Goals as goal

pub returns : goal.returns
returns c =
    mixed-heading-is c.args.form c.args.marker.now c.args.from c.args.until c.args.interval c.args.records.now c.args.gaps c.args.text.now.items c.put_marker.new.text.items
    c.put_span.new.text.items c.put_count.new.text.items c.put_end.new.text.items c.in_ok-put_marker.ensures c.in_ok-put_span.ensures c.in_ok-put_count.ensures c.in_ok-put_end.ensures
