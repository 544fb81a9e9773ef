use Rattle.rtk_label.proofs.WriteLemmas.{wrote_all, wrote_front, wrote_more, on_ok-map}
use Rattle.rtk_label.proofs.labelled_file.put_text.Goals as goal

pub returns-in_err-put_front-clause-part : goal.returns-in_err-put_front-clause-part
returns-in_err-put_front-clause-part g c = wrote_front c.args.text.now c.args.label.now (g.W.Sink.taken c.args.out.now) (g.W.Sink.taken c.put_front.new.out) c.put_front.ensures.part

pub returns-clause-all : goal.returns-clause-all
returns-clause-all g c =
    on_ok-map c.write_all.result
    (λ taken. wrote_all c.args.text.now c.args.label.now (g.W.Sink.taken c.args.out.now) (g.W.Sink.taken c.put_front.new.out) (g.W.Sink.taken c.write_all.new.sink) c.in_ok-put_front.ensures.all (rw c.after.ensures at taken)) c.write_all.ensures.all

pub returns-clause-part : goal.returns-clause-part
returns-clause-part g c =
    wrote_more c.args.text.now c.args.label.now (g.W.Sink.taken c.args.out.now) (g.W.Sink.taken c.put_front.new.out) (g.W.Sink.taken c.write_all.new.sink) c.in_ok-put_front.ensures.all (rw c.after.ensures at c.write_all.ensures.part)
