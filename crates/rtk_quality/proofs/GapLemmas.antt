-- The gaps of a file.
use Rattle.std.proofs.Common.{◌≡◌, ◌≢◌, ◌+◌, ℕ, Bool, cond, arith, List, [], ◌∷◌, ◌++◌, Option, None, Some, inl, inr, refl, sym, ap, subst, ◌∙◌}
use Rattle.std.specs.Prelude.{sum_by}
use Rattle.std.proofs.lemmas.Bool.{cases_eq, eq-eqb, ne_eqb}
use Rattle.std.proofs.lemmas.List.Sums.{sum_by-append, sum_by-cons}
use Rattle.rtk_obs.specs.declared.time.Civil.{Civil}
use Rattle.rtk_rinex.specs.Record.{EpochTableView}
use Rattle.rtk_obs.specs.Reading.{reading_of}
use Rattle.rtk_tracking.specs.Epochs.{newest_moment}
use Rattle.rtk_tracking.specs.Interval.{missing_before, missing_in}
use Rattle.rtk_quality.specs.Largest.{list_of, AreLargest}
use Rattle.rtk_quality.specs.Gaps.{gap_between, gaps_of, size_of_gap}
use Rattle.rtk_quality.specs.Laws.{GapsHaveAllMissing, LongestGapsAreFirst}
use Rattle.rtk_quality.specs.declared.gaps.Gap.{Gap}
use Rattle.rtk_quality.specs.declared.largest.Largest.{Largest}
use Rattle.rtk_quality.proofs.LargestLemmas.{sum-kept, largest-are-first}

pub gap-is : (unit last t missing : ℕ) (before : Option ℕ) (from until : Civil) → before ≡ Some last → from ≡ reading_of last → until ≡ reading_of t
    → missing ≡ missing_before unit (Some last) t → missing ≢ 0 → Some (record { from = from; until = until; missing = missing }) ≡ gap_between unit before t
gap-is unit last t missing before from until is_last begins ends is some =
    let m : ℕ = missing_before unit (Some last) t in
    let there : m ≢ 0 = λ none. some (is ∙ none) in
    ap (λ (c : Civil). Some (record { from = c; until = until; missing = missing })) begins
    ∙ ap (λ (c : Civil). Some (record { from = reading_of last; until = c; missing = missing })) ends
    ∙ ap (λ (n : ℕ). Some (record { from = reading_of last; until = reading_of t; missing = n })) is
    ∙ sym (ap (λ (b : Bool). cond b None (Some (record { from = reading_of last; until = reading_of t; missing = m }))) (ne_eqb m 0 there))
    ∙ sym (ap (λ (o : Option ℕ). gap_between unit o t) is_last)

-- the gaps, a record more
pub gaps-noted : (unit : ℕ) (e : EpochTableView) (es : List EpochTableView) (last : Option ℕ) (time : ℕ) (gap : Option Gap) (old new : Largest Gap)
    → last ≡ newest_moment es → time ≡ e.time → gap ≡ gap_between unit last time → AreLargest size_of_gap old (gaps_of unit es)
    → ((all : List Gap) → AreLargest size_of_gap old all → AreLargest size_of_gap new (all ++ list_of gap))
    → AreLargest size_of_gap new (gaps_of unit (e ∷ es))
gaps-noted unit e es last time gap old new is_last at is are took =
    let here : gap ≡ gap_between unit (newest_moment es) e.time =
    is ∙ ap (λ (o : Option ℕ). gap_between unit o time) is_last ∙ ap (λ (t : ℕ). gap_between unit (newest_moment es) t) at in
    subst (λ (g : Option Gap). AreLargest size_of_gap new (gaps_of unit es ++ list_of g)) here (took (gaps_of unit es) are)

-- ---- laws

-- the gap between two records has the epochs that are missing there
missing-between : (unit : ℕ) (last : Option ℕ) (t : ℕ) → sum_by size_of_gap (list_of (gap_between unit last t)) ≡ missing_before unit last t
missing-between unit None t = refl
missing-between unit (Some last) t =
    let m : ℕ = missing_before unit (Some last) t in
    let gap : Gap = record { from = reading_of last; until = reading_of t; missing = m } in
    elim (cases_eq m 0) [
      | inl none ↦ ap (λ (b : Bool). sum_by size_of_gap (list_of (cond b None (Some gap)))) (eq-eqb m 0 none) ∙ sym none
      | inr some ↦
          let is : sum_by size_of_gap (list_of (gap_between unit (Some last) t)) ≡ sum_by size_of_gap (gap ∷ []) =
          ap (λ (b : Bool). sum_by size_of_gap (list_of (cond b None (Some gap)))) (ne_eqb m 0 some) in
          let one = sum_by-cons size_of_gap gap [] in
          omega (arith, is, one)
    ]

gaps-have : (unit : ℕ) (es : List EpochTableView) → sum_by size_of_gap (gaps_of unit es) ≡ missing_in unit es
gaps-have unit [] = refl
gaps-have unit (e ∷ es) =
    sum_by-append size_of_gap (gaps_of unit es) (list_of (gap_between unit (newest_moment es) e.time))
    ∙ ap (λ (n : ℕ). n + sum_by size_of_gap (list_of (gap_between unit (newest_moment es) e.time))) (gaps-have unit es)
    ∙ ap (λ (n : ℕ). missing_in unit es + n) (missing-between unit (newest_moment es) e.time)

pub gaps-have-all : GapsHaveAllMissing
gaps-have-all unit es = sum-kept size_of_gap size_of_gap (gaps_of unit es) ∙ gaps-have unit es

pub longest-first : LongestGapsAreFirst
longest-first unit es = largest-are-first size_of_gap (gaps_of unit es)
