-- Which link is read next.
use Rattle.std.proofs.Common.{◌≡◌, ℕ, suc, ◌<◌, ◌+◌, List, length, Option, None, Some, refl, ap, arith, below_more, [], ◌∷◌}
use Rattle.std.proofs.lemmas.Option.{slice_get_within}
use Rattle.std.specs.Prelude.{MatchOption}
use Rattle.rtk_convert.specs.declared.link_state.LinkState.{LinkState}
use Rattle.rtk_convert.specs.Converter.{RepresentLinks}
use Rattle.rtk_convert.specs.FrameClass.{Found}
use Rattle.rtk_convert.specs.History.{History, LinkPast, IsOpen, IsUpTo, IsNextLink, newest_on}
use Rattle.rtk_convert.specs.ReadHistory.{AllClosed}

pub up_to-through : (a b c : Option ℕ) → IsUpTo a b → IsUpTo b c → IsUpTo a c
up_to-through None b c p q = tt
up_to-through (Some a) None c p q = absurd p
up_to-through (Some a) (Some b) None p q = absurd q
up_to-through (Some a) (Some b) (Some c) p q = omega arith

pub up_to-same : (a : Option ℕ) → IsUpTo a a
up_to-same None = tt
up_to-same (Some a) = omega arith

pub up_to-either : (a b : Option ℕ) → ¬ (IsUpTo a b) → IsUpTo b a
up_to-either None b p = absurd (p tt)
up_to-either (Some a) None p = tt
up_to-either (Some a) (Some b) p = omega (arith, p)

pub are_links-length : (ls : List LinkState) (ps : List LinkPast) (n : ℕ) (found : List Found) → RepresentLinks ls ps n found → length ls ≡ length ps
are_links-length [] [] n found p = refl
are_links-length (l ∷ ls) (q ∷ ps) n found p = ap suc (are_links-length ls ps (suc n) found p.1)
are_links-length [] (q ∷ ps) n found p = absurd p
are_links-length (l ∷ ls) [] n found p = absurd p

-- a link is the next one among those below n
pub record IsNextBelow (h : History) (n b : ℕ) : Type 0 where
  pub is_open : IsOpen h b
  pub below : b < n
  pub least : (k : ℕ) → k < n → IsOpen h k → IsUpTo (newest_on b h.found) (newest_on k h.found)
  pub lowest : (k : ℕ) → k < b → IsOpen h k → ¬ (IsUpTo (newest_on k h.found) (newest_on b h.found))

-- and if there is no such link, all of them are closed
abbrev pub NextBelow : History → ℕ → Option ℕ → Type 0
NextBelow h n None = (k : ℕ) → k < n → ¬ (IsOpen h k)
NextBelow h n (Some b) = IsNextBelow h n b

pub next-start : (h : History) → NextBelow h 0 None
next-start h k lt = absurd (omega arith)

pub next-closed : (h : History) (n : ℕ) (o : Option ℕ) → NextBelow h n o → ¬ (IsOpen h n) → NextBelow h (n + 1) o
next-closed h n None p closed = below_more (λ k. ¬ (IsOpen h k)) n p closed
next-closed h n (Some b) p closed = record {
  is_open = p.is_open;
  below = let lt = p.below in omega arith;
  least = below_more (λ k. IsOpen h k → IsUpTo (newest_on b h.found) (newest_on k h.found)) n p.least (λ here. absurd (closed here));
  lowest = p.lowest;
}

pub next-first : (h : History) (n : ℕ) → NextBelow h n None → IsOpen h n → NextBelow h (n + 1) (Some n)
next-first h n p here = record {
  is_open = here;
  below = omega arith;
  least = below_more (λ k. IsOpen h k → IsUpTo (newest_on n h.found) (newest_on k h.found)) n (λ k lt o. absurd (p k lt o)) (λ _. up_to-same (newest_on n h.found));
  lowest = λ k lt o _. p k lt o;
}

pub next-better : (h : History) (n b : ℕ) → NextBelow h n (Some b) → IsOpen h n → ¬ (IsUpTo (newest_on b h.found) (newest_on n h.found)) → NextBelow h (n + 1) (Some n)
next-better h n b p here better =
    let under = up_to-either (newest_on b h.found) (newest_on n h.found) better in
    record {
      is_open = here;
      below = omega arith;
      least = below_more (λ k. IsOpen h k → IsUpTo (newest_on n h.found) (newest_on k h.found)) n (λ k lt o. up_to-through (newest_on n h.found) (newest_on b h.found) (newest_on k h.found) under (p.least k lt o)) (λ _. up_to-same (newest_on n h.found));
      lowest = λ k lt o q. better (up_to-through (newest_on b h.found) (newest_on k h.found) (newest_on n h.found) (p.least k lt o) q);
    }

pub next-stays : (h : History) (n b : ℕ) → NextBelow h n (Some b) → IsUpTo (newest_on b h.found) (newest_on n h.found) → NextBelow h (n + 1) (Some b)
next-stays h n b p under = record {
  is_open = p.is_open;
  below = let lt = p.below in omega arith;
  least = below_more (λ k. IsOpen h k → IsUpTo (newest_on b h.found) (newest_on k h.found)) n p.least (λ _. under);
  lowest = p.lowest;
}

open-within : (h : History) (k : ℕ) → IsOpen h k → k < length h.links
open-within h k p = slice_get_within h.links k _ p.1

pub next-end : (h : History) (n : ℕ) (o : Option ℕ) → n ≡ length h.links → NextBelow h n o → MatchOption o (AllClosed h) (λ link. IsNextLink h link)
next-end h n None e p = λ k o. p k (let lt = open-within h k o in omega (arith, lt, e)) o
next-end h n (Some b) e p = record {
  is_open = p.is_open;
  least = λ k o. p.least k (let lt = open-within h k o in omega (arith, lt, e)) o;
  lowest = p.lowest;
}
