use Rattle.std.proofs.Common.{refl, arith, ◌∙◌}
use Rattle.std.proofs.lemmas.Result.{IfOk-weaker}
use Rattle.rtk_cli.proofs.LabelPassingLemmas.{lines-written}
use Rattle.rtk_cli.proofs.auto_labelling.Labelled.fill.Goals as goal

pub returns-in-Some-clause-bound : goal.returns-in-Some-clause-bound
returns-in-Some-clause-bound g c = IfOk-weaker c.write_lines.result _ _ (λ n wrote. omega (arith, wrote.0, c.take-count.ensures.count)) c.write_lines.ensures.wrote

pub returns-in-Some-clause-fills : goal.returns-in-Some-clause-fills
returns-in-Some-clause-fills g c =
    lines-written g.W.Write.contents c.args.filling c.take-count.new.self c.args.self.now.inner c.write_lines.new.self c.write_lines.result c.take-count.result c.args.buf.now c.in-Some.lines.items
    (c.write_lines.ensures.filling ∙ c.requires) c.take-count.ensures.label c.take-count.ensures.front c.in-Some.ensures.0 c.in-Some.ensures.1
    (rw c.as_slice.ensures.value at c.write_lines.ensures.wrote)

pub returns-in-None-clause-fills : goal.returns-in-None-clause-fills
returns-in-None-clause-fills g c = record { label = c.take-count.ensures.label; front = c.take-count.ensures.front; short = c.in-None.ensures; same = refl }
