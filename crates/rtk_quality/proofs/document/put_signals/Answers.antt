use Rattle.rtk_quality.proofs.TextLemmas.{signals-are}
use Rattle.rtk_quality.proofs.document.put_signals.Goals as goal

pub returns : goal.returns
returns c = λ most interval es stand ended.
    signals-are c.args.form c.args.codes.now most interval es c.args.text.now.items c.put_codes.new.text.items c.put_section.new.text.items c.put_section-2.new.text.items
    c.put_section-3.new.text.items c.put_section-4.new.text.items (c.in_ok-put_codes.ensures most interval es stand) (c.in_ok-put_section.ensures most interval es stand ended)
    (c.in_ok-put_section-2.ensures most interval es stand ended) (c.in_ok-put_section-3.ensures most interval es stand ended) (c.in_ok-put_section-4.ensures most interval es stand ended)
