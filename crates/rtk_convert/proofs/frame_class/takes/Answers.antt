use Rattle.std.proofs.Common.{sym, ap, ◌∙◌}
use Rattle.rtk_message.specs.declared.accepted.Accepted.{Accepted}
use Rattle.rtk_message.specs.Accepted.{accepts}
use Rattle.rtk_convert.proofs.ClassLemmas.{takes-legacy, takes-other}
use Rattle.rtk_convert.proofs.frame_class.takes.Goals as goal

pub returns-then-number-eq-LEGACY : goal.returns-then-number-eq-LEGACY
returns-then-number-eq-LEGACY c = c.takes_1004.ensures ∙ sym (takes-legacy c.args.setup.now c.args.number c.if-number-eq-LEGACY.true)

pub returns : goal.returns
returns c = c.accepts.ensures ∙ ap (λ (a : Accepted). accepts a c.args.number) c.accepted.ensures ∙ sym (takes-other c.args.setup.now c.args.number c.if-number-eq-LEGACY.false)
