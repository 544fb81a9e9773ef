use Rattle.std.proofs.Common.{◌∙◌, sym, arith, slice_index_or, inl, inr}
use Rattle.std.proofs.lemmas.Bool.{cases_order}
use Rattle.std.proofs.lemmas.List.{get_or_default}
use Rattle.rtk_rinex.proofs.HeaderCodesLemmas.{all_in_order}
use Rattle.rtk_rinex.proofs.header_check.read_codes.Goals as goal

pub loop-i-init : goal.loop-i-init
loop-i-init c = record { all = all_in_order; shown = λ listed k d distinct within lt. absurd (omega (arith, lt)) }

pub loop-i-preserved : goal.loop-i-preserved
loop-i-preserved c =
    let l = c.loop-i in record {
      all = c.move_named_code.ensures.all;
      shown = λ listed k d distinct within lt agree.
          elim (cases_order k l.i) [
            | inl same ↦
                let there = c.move_named_code.ensures.there (slice_index_or listed k d) (c.read_name.ensures ∙ (rw (← same) (agree k (omega arith))))
                (λ j e below is.
                let old = l.invariant.shown listed j d distinct (omega (arith, below, same, within)) below (λ i le. agree i (omega (arith, le, below, same))) in
                distinct j k d (omega (arith, below, same)) within (sym old ∙ get_or_default l.all j d e (omega (arith, l.invariant.all.length, below, c.loop-i-test.true)) ∙ is)) d in
                rw (← same) at there
            | inr (inl below) ↦ c.move_named_code.ensures.before k d below ∙ l.invariant.shown listed k d distinct within below agree
            | inr (inr above) ↦ absurd (omega (arith, above, lt))
          ];
    }
