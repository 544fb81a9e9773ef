use Rattle.std.proofs.Common.{length, ap, ◌∙◌}
use Rattle.rtk_cut.specs.KeptSystems.{kept_codes}
use Rattle.rtk_cut.proofs.KeptSystemsLemmas.{kept-no_fault}
use Rattle.rtk_cut.proofs.kept_head.kept_head.Goals as goal

-- a code is kept
pub returns-clause-some : goal.returns-clause-some
returns-clause-some c = λ none.
    c.if-len-eq0.false (c.len.ensures.value ∙ ap length (c.kept_codes-codes.ensures.value ∙ ap (kept_codes c.args.kept) c.codes.ensures.value ∙ none))

pub unreachable-requires-in_default-new : goal.unreachable-requires-in_default-new
unreachable-requires-in_default-new c =
    let h = c.args.head.now in
    let fault = rw (c.as_slice.ensures.value, c.kept_codes-codes.ensures.value, c.codes.ensures.value, c.kept_glonass-glonass.ensures.value) at c.in_default-new.ensures.fault in
    kept-no_fault c.args.kept h.listed h.glonass c.in_default-new.field-0 (rw c.codes.ensures.value at c.codes.ensures.good) c.kept_glonass-glonass.ensures.due
    (λ none. c.if-len-eq0.false (c.len.ensures.value ∙ ap length (c.kept_codes-codes.ensures.value ∙ ap (kept_codes c.args.kept) c.codes.ensures.value ∙ none)))
    fault
