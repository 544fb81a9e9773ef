use Rattle.std.proofs.Common.{◌∙◌, sym, arith, slice_index_or, inl, inr}
use Rattle.std.proofs.lemmas.Bool.{cases_order}
use Rattle.std.proofs.lemmas.List.{get_or_default}
use Rattle.rtk_rinex.proofs.mixed_types_read.move_shown_codes.Goals as goal

pub loop-i-preserved : goal.loop-i-preserved
loop-i-preserved c =
    let l = c.loop-i in record {
      all = c.move_named_code.ensures.all;
      shown = λ ds k d group within lt agree.
          elim (cases_order k l.i) [
            | inl same ↦
                let there = c.move_named_code.ensures.there (slice_index_or ds k d) (group.own k d within) (c.read_code_name.ensures ∙ (rw (← same) (agree k (omega arith))))
                (λ j e below is.
                let old = l.invariant.shown ds j d group (omega (arith, below, same, within)) below (λ i le. agree i (omega (arith, le, below, same))) in
                group.distinct j k d (omega (arith, below, same)) within (sym old ∙ get_or_default l.all j d e (omega (arith, below, c.loop-i-test.true)) ∙ is)) d in
                rw (← same) at there
            | inr (inl below) ↦ c.move_named_code.ensures.before k d below ∙ l.invariant.shown ds k d group within below agree
            | inr (inr above) ↦ absurd (omega (arith, above, lt))
          ];
    }
