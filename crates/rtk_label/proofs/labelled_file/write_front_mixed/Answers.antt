use Rattle.rtk_label.proofs.WriteLemmas.{wrote_mixed_lines, wrote_mixed_some, on_ok-map}
use Rattle.rtk_label.proofs.labelled_file.write_front_mixed.Goals as goal

pub returns-clause-all : goal.returns-clause-all
returns-clause-all g c =
    on_ok-map c.put_front.result
    (λ taken. wrote_mixed_lines c.args.table.now.text c.args.label.now (g.W.Sink.taken c.args.out.now) (g.W.Sink.taken c.put_front.new.out) c.put_front.ensures.good (rw c.as_bytes.ensures.value at taken)) c.put_front.ensures.all

pub returns-clause-first : goal.returns-clause-first
returns-clause-first g c =
    wrote_mixed_some c.args.table.now.text c.args.label.now (g.W.Sink.taken c.args.out.now) (g.W.Sink.taken c.put_front.new.out) c.put_front.ensures.good (rw c.as_bytes.ensures.value at c.put_front.ensures.part)
