use Rattle.std.proofs.Common.{◌≡◌, ◌≤◌, ℕ, Bool, List, cond, length, sym, ap, subst, ◌∙◌, arith}
use Rattle.rtk_rinex.specs.declared.epoch_table.Observed.{Observed}
use Rattle.rtk_tracking.specs.Passes.{is_return}
use Rattle.rtk_quality.proofs.ListLemmas.{count-more, count-rest}
use Rattle.rtk_quality.proofs.CountLemmas.{no-return}
use Rattle.rtk_quality.proofs.satellite_counts.returns_in.Goals as goal
use Rattle.rtk_quality.proofs.satellite_counts.returns_in.Goals.{then-is_return, else-is_return}

-- 1 for a test that holds
abbrev once : Bool → ℕ
once b = cond b 1 0

pub loop-place-preserved : goal.loop-place-preserved
loop-place-preserved c = elim c.if-is_return.branch [
  | then-is_return w ↦ record {
    few = let was = c.loop-place.invariant.few in let now = w.returns-is in omega (arith, was, now);
    many = λ interval before s same marked.
        let more = count-more (λ (place : ℕ). is_return interval place before s) c.loop-place.place in
        let is = c.loop-place.invariant.many interval before s same marked in
        let one : once (is_return interval c.loop-place.place before s) ≡ 1 = ap once (sym (c.is_return.ensures interval before s same marked) ∙ w.if-is_return.true) in
        let now = w.returns-is in
        omega (arith, more, is, one, now);
  }
  | else-is_return w ↦ record {
    few = let was = c.loop-place.invariant.few in let now = w.returns-is in omega (arith, was, now);
    many = λ interval before s same marked.
        let more = count-more (λ (place : ℕ). is_return interval place before s) c.loop-place.place in
        let is = c.loop-place.invariant.many interval before s same marked in
        let none : once (is_return interval c.loop-place.place before s) ≡ 0 = ap once (sym (c.is_return.ensures interval before s same marked) ∙ w.if-is_return.false) in
        let now = w.returns-is in
        omega (arith, more, is, none, now);
  }
]

pub returns : goal.returns
returns c = λ interval before s same marked.
    let few : c.loop-place.place ≤ 16 = omega (arith, c.loop-place.auto.place-end) in
    c.loop-place.invariant.many interval before s same marked
    ∙ sym (count-rest (λ place. is_return interval place before s) c.loop-place.place 16 few (λ k above within.
    let past : length c.args.observed.now ≤ k = omega (arith, above, within, c.loop-place-test.false) in
    no-return interval k before s (subst (λ (os : List Observed). length os ≤ k) same past)))
