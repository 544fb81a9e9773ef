use Rattle.std.proofs.Common.{refl, sym, ◌∙◌}
use Rattle.rtk_message.specs.Systems.{number_of_type}
use Rattle.rtk_message.proofs.AnyDecodedLemmas.{decodes_after, decodes_other}
use Rattle.rtk_message.proofs.any_decoder.AnyDecoder.read_other_number.Goals as goal

pub returns-then-not-accepts : goal.returns-then-not-accepts
returns-then-not-accepts c = λ bs is. rw c.keep_fault.ensures (decodes_other c.args.accepted bs c.args.reader c.args.number c.requires is (sym c.accepts.ensures ∙ c.if-not-accepts.true))

pub returns-in_default : goal.returns-in_default
returns-in_default c = λ bs is. decodes_after c.args.accepted bs c.args.reader c.args.number c.args.number c.keep_new.new.kept c.requires is (sym c.accepts.ensures ∙ c.if-not-accepts.false) refl c.keep_new.ensures.message c.keep_new.ensures.clock c.keep_new.ensures.fault

pub returns : goal.returns
returns c = λ bs is. decodes_after c.args.accepted bs c.args.reader c.args.number (number_of_type c.in-Some.msm_type) c.keep_msm.new.kept c.requires is (sym c.accepts.ensures ∙ c.if-not-accepts.false) c.in-Some.ensures.some.1 c.keep_msm.ensures.message c.keep_msm.ensures.clock c.keep_msm.ensures.fault
