use Rattle.rtk_label.proofs.WriteLemmas.{wrote_file, wrote_first, on_err-from, on_ok-map}
use Rattle.rtk_label.proofs.labelled_file.write_labelled.Goals as goal

pub returns-clause-all : goal.returns-clause-all
returns-clause-all g c =
    on_ok-map c.put_text.result
    (λ taken. wrote_file c.args.table.now.text c.args.label.now (g.W.Sink.taken c.args.out.now) (g.W.Sink.taken c.put_text.new.out) c.put_text.ensures.good (rw c.as_bytes.ensures.value at taken)) c.put_text.ensures.all

pub returns-clause-first : goal.returns-clause-first
returns-clause-first g c =
    on_err-from c.put_text.result
    (wrote_first c.args.table.now.text c.args.label.now (g.W.Sink.taken c.args.out.now) (g.W.Sink.taken c.put_text.new.out) c.put_text.ensures.good (rw c.as_bytes.ensures.value at c.put_text.ensures.part))
