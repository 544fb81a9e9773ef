use Rattle.std.proofs.Common.{◌≡◌, ◌∙◌, ℕ, ⊎_elim, ap, sym, slice_index_or}
use Rattle.std.proofs.lemmas.List.{get_or_default}
use Rattle.rtk_obs.specs.declared.any_code.AnyCode.TheVariants.{G1C}
use Rattle.rtk_obs.specs.AnyCode.{number_of}
use Rattle.rtk_rinex.proofs.HeaderLemmas.{below-or-at}
use Rattle.rtk_rinex.proofs.mixed_types_read.place_in.Goals as goal

pub loop-k-preserved : goal.loop-k-preserved
loop-k-preserved c = λ k lt.
    ⊎_elim (λ below. c.loop-k.invariant k below)
    (λ here e.
    let same : number_of (slice_index_or c.args.all.now c.loop-k.k c.args.code) ≡ number_of c.args.code = ap (λ (n : ℕ). number_of (slice_index_or c.args.all.now n c.args.code)) (sym here) ∙ ap number_of e in
    c.if-number.false (c.number.ensures.value ∙ ap number_of (get_or_default c.args.all.now c.loop-k.k G1C c.args.code c.loop-k-test.true) ∙ same ∙ sym c.number-in-loop-k.ensures.value))
    (below-or-at c.loop-k.k k lt)
