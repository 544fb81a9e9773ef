-- Codes that are found or named are a list for a head.
use Rattle.std.proofs.Common.{◌≡◌, ◌≢◌, ◌<◌, ◌≤◌, ◌+◌, ◌==◌, ◌&&◌, ◌∙◌, ℕ, zero, suc, Bool, true, false, nat_le, List, [], ◌∷◌, length, refl, sym, ap, subst, eq-eqb, Option, arith}
use Rattle.std.specs.Prelude.{filter, AllPairs, slice_index_or, count_by}
use Rattle.std.specs.Int.{IsInRange}
use Rattle.std.proofs.lemmas.Bool.{and_parts, eqb-true, leb-true}
use Rattle.std.proofs.lemmas.List.Kept.{AllPairs-filter}
use Rattle.std.proofs.lemmas.List.Sums.{length-filter, count_by-le-length}
use Rattle.rtk_obs.specs.declared.any_code.AnyCode.{AnyCode}
use Rattle.rtk_obs.specs.AnyCode.{system_of, codes_before, number_of, all_any_codes}
use Rattle.rtk_rinex.specs.MixedHead.{AreInOrder, GlonassView, IsMixedList, IsMixedHeadFault, TellsGlonass}
use Rattle.rtk_rinex.specs.declared.mixed_head_fault.MixedHeadFault.{MixedHeadFault}
use Rattle.rtk_rinex.specs.declared.mixed_head_fault.MixedHeadFault.TheVariants.{Codes, Glonass as NotTold}

-- ---- the order of all codes

-- the codes have the numbers from n on
numbered : ℕ → List AnyCode → Bool
numbered n [] = true
numbered n (c ∷ cs) = (number_of c == n) && numbered (suc n) cs

number-in : (n : ℕ) (cs : List AnyCode) (i : ℕ) (d : AnyCode) → numbered n cs ≡ true → i < length cs → number_of (slice_index_or cs i d) ≡ n + i
unfolding numbered
number-in n [] i d e lt = absurd (omega arith)
number-in n (c ∷ cs) zero d e lt = let p = and_parts (number_of c == n) (numbered (suc n) cs) e in let q = eqb-true (number_of c) n p.0 in omega (arith, q)
number-in n (c ∷ cs) (suc i) d e lt =
    let p = and_parts (number_of c == n) (numbered (suc n) cs) e in
    let q = number-in (suc n) cs i d p.1 (omega arith) in
    omega (arith, q)

all-numbered : numbered 0 all_any_codes ≡ true
unfolding numbered
all-numbered = refl

-- how many codes stand before those of the system of a code
abbrev start : AnyCode → ℕ
start c = codes_before (system_of c)

-- the codes stand system by system
rises : ℕ → List AnyCode → Bool
rises least [] = true
rises least (c ∷ cs) = nat_le least (start c) && rises (start c) cs

rises-from : (least : ℕ) (cs : List AnyCode) (i : ℕ) (d : AnyCode) → rises least cs ≡ true → i < length cs → least ≤ start (slice_index_or cs i d)
unfolding rises
rises-from least [] i d e lt = absurd (omega arith)
rises-from least (c ∷ cs) zero d e lt = let p = and_parts (nat_le least (start c)) (rises (start c) cs) e in leb-true least (start c) p.0
rises-from least (c ∷ cs) (suc i) d e lt =
    let p = and_parts (nat_le least (start c)) (rises (start c) cs) e in
    let first : least ≤ start c = leb-true least (start c) p.0 in
    let rest : start c ≤ start (slice_index_or cs i d) = rises-from (start c) cs i d p.1 (omega arith) in
    omega (arith, first, rest)

rises-in : (least : ℕ) (cs : List AnyCode) (i j : ℕ) (d : AnyCode) → rises least cs ≡ true → i < j → j < length cs → start (slice_index_or cs i d) ≤ start (slice_index_or cs j d)
unfolding rises
rises-in least [] i j d e below lt = absurd (omega (arith, lt))
rises-in least (c ∷ cs) i zero d e below lt = absurd (omega (arith, below))
rises-in least (c ∷ cs) zero (suc j) d e below lt =
    let p = and_parts (nat_le least (start c)) (rises (start c) cs) e in
    rises-from (start c) cs j d p.1 (omega (arith, lt))
rises-in least (c ∷ cs) (suc i) (suc j) d e below lt =
    let p = and_parts (nat_le least (start c)) (rises (start c) cs) e in
    rises-in (start c) cs i j d p.1 (omega (arith, below)) (omega (arith, lt))

all-rise : rises 0 all_any_codes ≡ true
unfolding rises
all-rise = refl

all-differ : AllPairs (λ (c d : AnyCode). c ≢ d) all_any_codes
all-differ i j d below lt e =
    let a = number-in 0 all_any_codes i d all-numbered (omega (arith, below, lt)) in
    let b = number-in 0 all_any_codes j d all-numbered lt in
    let same = ap number_of e in
    omega (arith, a, b, same, below)

all-in-order : AllPairs AreInOrder all_any_codes
all-in-order i j d below lt = record {
  unlike = all-differ i j d below lt;
  systems = rises-in 0 all_any_codes i j d all-rise below lt;
}

-- ---- codes that are found

-- some of all codes
some-mixed : (p : AnyCode → Bool) → filter p all_any_codes ≢ [] → IsMixedList (filter p all_any_codes)
some-mixed p some = record {
  count = within (filter p all_any_codes) some few;
  order = AllPairs-filter AreInOrder p all_any_codes all-in-order;
}
  where
    few : length (filter p all_any_codes) ≤ 69
    few = let is = length-filter p all_any_codes in let fewer : count_by p all_any_codes ≤ 69 = count_by-le-length p all_any_codes in omega (arith, is, fewer)

    within : (cs : List AnyCode) → cs ≢ [] → length cs ≤ 69 → IsInRange 1 69 (length cs)
    within [] some few = absurd (some refl)
    within (c ∷ cs) some few = omega arith

-- the same, of a list that `is_empty` calls not empty
pub mixed-found : (p : AnyCode → Bool) (cs : List AnyCode) (n : ℕ) (b : Bool) → cs ≡ filter p all_any_codes → n ≡ length cs → b ≡ (n == 0) → b ≡ false → IsMixedList cs
mixed-found p cs n b found len is says = subst IsMixedList (sym found) (some-mixed p (λ none. not-empty cs len (found ∙ none)))
  where
    not-empty : (cs : List AnyCode) → n ≡ length cs → cs ≢ []
    not-empty [] len none = let q : true ≡ false = sym (eq-eqb n 0 len) ∙ sym is ∙ says in cc
    not-empty (c ∷ cs) len none = let q : length (c ∷ cs) ≡ 0 = ap length none in absurd (omega (arith, q))

-- ---- the head of these

-- parts that are good make a head
pub no-head-fault : (cs : List AnyCode) (g : Option GlonassView) (f : MixedHeadFault) → IsMixedList cs → TellsGlonass cs g → IsMixedHeadFault cs g f → ⊥
no-head-fault cs g Codes good tells bad = bad good
no-head-fault cs g NotTold good tells bad = bad.1 tells
