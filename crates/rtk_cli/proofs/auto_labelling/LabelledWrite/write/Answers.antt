use Rattle.std.proofs.Common.{None, Some, sym, ◌∙◌}
use Rattle.rtk_cli.proofs.LabelPassingLemmas.{nothing-known, passed-on, by-filling}
use Rattle.rtk_cli.proofs.auto_labelling.LabelledWrite.write.Goals as goal

pub returns-in-Some-clause-bytes : goal.returns-in-Some-clause-bytes
returns-in-Some-clause-bytes g c = nothing-known c.fill.result c.args.buf.now

pub returns-in-Some-clause-fills : goal.returns-in-Some-clause-fills
returns-in-Some-clause-fills g c =
    by-filling g.W.Write.contents c.args.self.now c.fill.new.self (Some c.in-Some.filling) c.fill.result c.args.buf.now (sym c.take.ensures.value ∙ c.in-Some.is) c.fill.ensures.fills

pub returns-in-None-clause-bytes : goal.returns-in-None-clause-bytes
returns-in-None-clause-bytes g c = nothing-known c.pass_on.result c.args.buf.now

pub returns-in-None-clause-fills : goal.returns-in-None-clause-fills
returns-in-None-clause-fills g c =
    by-filling g.W.Write.contents c.args.self.now c.pass_on.new.self None c.pass_on.result c.args.buf.now (sym c.take.ensures.value ∙ c.in-None.is)
    (passed-on g.W.Write.contents c.args.self.now.inner c.pass_on.new.self c.pass_on.result c.args.buf.now (c.pass_on.ensures.filling ∙ c.take.ensures.after) c.pass_on.ensures.bytes)
