use Rattle.rtk_quality.proofs.MixedTextLemmas.{seven-parts}
use Rattle.rtk_quality.proofs.mixed_document.put_parts.Goals as goal

pub returns : goal.returns
returns c = λ t is text.
    seven-parts c.args.head.now.doppler c.args.form c.args.head.now.listed c.args.interval t.epochs c.args.text.now.items c.put_system.new.text.items c.put_system-2.new.text.items c.put_system-3.new.text.items
    c.put_system-4.new.text.items c.put_system-5.new.text.items c.put_system-6.new.text.items c.put_system-7.new.text.items (c.in_ok-put_system.ensures t is text)
    (c.in_ok-put_system-2.ensures t is text) (c.in_ok-put_system-3.ensures t is text) (c.in_ok-put_system-4.ensures t is text) (c.in_ok-put_system-5.ensures t is text)
    (c.in_ok-put_system-6.ensures t is text) (c.in_ok-put_system-7.ensures t is text)
