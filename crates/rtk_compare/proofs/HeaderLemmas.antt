-- The differences of headers.
use Rattle.std.proofs.Common.{◌≡◌, ◌+◌, ℕ, zero, suc, Bool, Option, Some, None, List, [], ◌∷◌, ◌++◌, sym, ap, ◌∙◌, arith}
use Rattle.std.specs.Prelude.{flat_map}
use Rattle.std.specs.List.{range_with_len}
use Rattle.std.proofs.lemmas.List.{flat_map_more}
use Rattle.rtk_compare.specs.declared.difference.Difference.{Difference}
use Rattle.rtk_compare.specs.declared.findings.Findings.{Findings}
use Rattle.rtk_compare.specs.declared.difference.What.{What}
use Rattle.rtk_compare.specs.Headers.{lines_of, told_beside, glonass_differences}
use Rattle.rtk_compare.specs.Differences.{Adds}
use Rattle.rtk_rinex.specs.MixedHead.{GlonassView}
use Rattle.rtk_compare.proofs.FindingLemmas.{adds_none, adds-as, adds-more}

range-suc : (a n : ℕ) → range_with_len a (suc n) ≡ range_with_len a n ++ (a + n) ∷ []
range-suc a zero =
    let e : a ≡ a + 0 = omega arith in
    ap (λ k. k ∷ []) e
range-suc a (suc n) =
    let e : (a + 1) + n ≡ a + suc n = omega arith in
    ap (λ t. a ∷ t) (range-suc (a + 1) n ∙ ap (λ k. range_with_len (a + 1) n ++ k ∷ []) e)

-- the differences of one number more
pub adds-next : (f : ℕ → List Difference) (k n m : ℕ) (a b c : Findings) → k ≡ 1 + n → m ≡ suc n → Adds a b (flat_map f (range_with_len 1 n)) → Adds b c (f k) → Adds a c (flat_map f (range_with_len 1 m))
adds-next f k n m a b c at next first second =
    adds-as (ap (λ (x : ℕ). flat_map f (range_with_len 1 n) ++ f x) at ∙ flat_map_more f [] (range_with_len 1 n) (1 + n)
    ∙ ap (λ (xs : List ℕ). flat_map f xs) (sym (range-suc 1 n)) ∙ ap (λ (x : ℕ). flat_map f (range_with_len 1 x)) (sym next)) (adds-more first second)

-- something that both can have, by other tests of the same
pub lines-as : {a b : Findings} (what : What) (was is same : Bool) {was' is' same' : Bool} → was ≡ was' → is ≡ is' → same ≡ same' → Adds a b (lines_of was is same what) → Adds a b (lines_of was' is' same' what)
lines-as {a} {b} what was is same {was'} {is'} {same'} first second third adds =
    adds-as (ap (λ (x : Bool). lines_of x is same what) first ∙ ap (λ (x : Bool). lines_of was' x same what) second ∙ ap (λ (x : Bool). lines_of was' is' x what) third) adds

-- ---- GLONASS

pub beside-some : {a b : Findings} (g : GlonassView) (h : Option GlonassView) (told : GlonassView) → h ≡ Some told → Adds a b (told_beside g (Some told)) → Adds a b (told_beside g h)
beside-some g h told is adds = adds-as (sym (ap (λ (o : Option GlonassView). told_beside g o) is)) adds

pub beside-none : (f : Findings) (g : GlonassView) (h : Option GlonassView) → h ≡ None → Adds f f (told_beside g h)
beside-none f g h is = adds-as (sym (ap (λ (o : Option GlonassView). told_beside g o) is)) (adds_none f)

pub glonass-some : {a b : Findings} (g h : Option GlonassView) (told : GlonassView) → g ≡ Some told → Adds a b (told_beside told h) → Adds a b (glonass_differences g h)
glonass-some g h told is adds = adds-as (sym (ap (λ (o : Option GlonassView). glonass_differences o h) is)) adds

pub glonass-none : (f : Findings) (g h : Option GlonassView) → g ≡ None → Adds f f (glonass_differences g h)
glonass-none f g h is = adds-as (sym (ap (λ (o : Option GlonassView). glonass_differences o h) is)) (adds_none f)
