-- What is remembered of a satellite and code, one more cell later.
use Rattle.std.proofs.Common.{◌≡◌, ℕ, Bool, true, false, not, ◌&&◌, ◌||◌, cond, Option, List, ◌∷◌, ℤ, pos, neg_ℤ, sym, ap, ◌∙◌}
use Rattle.std.specs.Prelude.{◌-ℤ◌, unsigned_abs, int_lt}
use Rattle.rtk_rinex.specs.declared.epoch_table.Observed.{Observed}
use Rattle.rtk_compare.specs.declared.track.Track.{Track}
use Rattle.rtk_compare.specs.Pairs.{Pair}
use Rattle.rtk_compare.specs.Phases.{has_phase, has_slip, nearest_rolls, rolls_from, rolls_of, rolls_or_none, rolls_kept, begins_anew, rolls_held}
use Rattle.rtk_compare.specs.Steps.Tracks.{IsTrackOf}

-- a number that is another one, of which this is known
pub by_same : {A : Type 0} (x y z : A) → y ≡ z → x ≡ y → x ≡ z
by_same x y z known same = same ∙ known

pub anew-is : (t : Track) (earlier : List (Pair Observed)) (p : Pair Observed) (has_old : Bool) → IsTrackOf t earlier → has_old ≡ has_phase p.old
    → ((p.old.slip || p.new.slip) || (has_old && t.fills_gap)) ≡ begins_anew earlier p
anew-is t earlier p has_old is old =
    ap (λ (b : Bool). has_slip p || (b && t.fills_gap)) old ∙ ap (λ (b : Bool). has_slip p || (has_phase p.old && b)) is.fills_gap

pub held-is : (t : Track) (earlier : List (Pair Observed)) (p : Pair Observed) (anew : Bool) (was before before' here here' kept : ℤ) (rolls : Option ℤ) → IsTrackOf t earlier → anew ≡ begins_anew earlier p
    → before ≡ cond anew (pos 0) was → was ≡ t.rolls → here ≡ rolls_or_none rolls → rolls ≡ rolls_of p → kept ≡ rolls_kept before' here' → before' ≡ before → here' ≡ here → kept ≡ rolls_held (p ∷ earlier)
held-is t earlier p anew was before before' here here' kept rolls is anew_is before_is was_is here_is rolls_are kept_is before_same here_same =
    let held : before' ≡ cond (begins_anew earlier p) (pos 0) (rolls_held earlier) =
    before_same ∙ before_is ∙ ap (λ (b : Bool). cond b (pos 0) was) anew_is ∙ ap (λ (r : ℤ). cond (begins_anew earlier p) (pos 0) r) (was_is ∙ is.rolls) in
    kept_is ∙ ap (λ (r : ℤ). rolls_kept r here') held
    ∙ ap (λ (r : ℤ). rolls_kept (cond (begins_anew earlier p) (pos 0) (rolls_held earlier)) r) (here_same ∙ here_is ∙ ap rolls_or_none rolls_are)

pub noted : (t : Track) (earlier : List (Pair Observed)) (p : Pair Observed) (has_old has_new : Bool) (rolls held : ℤ) → IsTrackOf t earlier → has_old ≡ has_phase p.old → has_new ≡ has_phase p.new
    → held ≡ rolls_held (p ∷ earlier) → rolls ≡ held
    → IsTrackOf (record { had_phase = has_old || t.had_phase; fills_gap = not has_old && (has_new || t.fills_gap); rolls = rolls }) (p ∷ earlier)
noted t earlier p has_old has_new rolls held is old new are same = record {
  had_phase = ap (λ (b : Bool). b || t.had_phase) old ∙ ap (λ (b : Bool). has_phase p.old || b) is.had_phase;
  fills_gap = ap (λ (b : Bool). not b && (has_new || t.fills_gap)) old ∙ ap (λ (b : Bool). not (has_phase p.old) && (b || t.fills_gap)) new
      ∙ ap (λ (b : Bool). not (has_phase p.old) && (has_phase p.new || b)) is.fills_gap;
  rolls = same ∙ are;
}

-- ---- the way from one phase to another

pub rolls-back : (a b : ℤ) (n : ℕ) (r : ℤ) → int_lt b a ≡ true → n ≡ nearest_rolls (unsigned_abs (a -ℤ b)) → r ≡ neg_ℤ (pos n) → r ≡ rolls_from a b
rolls-back a b n r less near is =
    let d = nearest_rolls (unsigned_abs (a -ℤ b)) in
    is ∙ ap (λ (m : ℕ). neg_ℤ (pos m)) near ∙ sym (ap (λ (t : Bool). cond t (neg_ℤ (pos d)) (pos d)) less)

pub rolls-on : (a b : ℤ) (n : ℕ) (r : ℤ) → int_lt b a ≡ false → n ≡ nearest_rolls (unsigned_abs (a -ℤ b)) → r ≡ pos n → r ≡ rolls_from a b
rolls-on a b n r more near is =
    let d = nearest_rolls (unsigned_abs (a -ℤ b)) in
    is ∙ ap (λ (m : ℕ). pos m) near ∙ sym (ap (λ (t : Bool). cond t (neg_ℤ (pos d)) (pos d)) more)
