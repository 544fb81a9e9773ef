-- Spans that meet.
use Rattle.std.proofs.Common.{◌≡◌, ◌<◌, ◌≤◌, ◌+◌, ℕ, Bool, true, false, not, ◌&&◌, cond, Option, Some, None, List, [], ◌∷◌, ◌++◌, get_or, inl, inr, refl, sym, ap, ◌∙◌, arith}
use Rattle.std.specs.Prelude.{All, AllPairs}
use Rattle.std.specs.List.{filter}
use Rattle.std.proofs.lemmas.Bool.{lt-ltb, le-ltb, cases_lt}
use Rattle.std.proofs.lemmas.List.Elements.{All-cons, All-head, All-tail}
use Rattle.rtk_rinex.specs.Record.{EpochTableView}
use Rattle.rtk_cut.specs.Cut.{is_at_or_after, is_earlier_than, is_in_span}
use Rattle.rtk_cut.specs.CutLaws.{IsOrdered}
use Rattle.rtk_cut.proofs.TestLemmas.{and-nothing, pairs-head, pairs-tail}

-- from a moment on, each moment is after an earlier one
from-earlier : (from : Option ℕ) (meet t : ℕ) → IsOrdered from (Some meet) → meet ≤ t → is_at_or_after from t ≡ true
from-earlier None meet t order late = refl
from-earlier (Some from) meet t order late = let past : from ≤ t = omega arith in ap not (le-ltb t from past)

-- and before it, each moment is before a later one
until-later : (until : Option ℕ) (meet t : ℕ) → IsOrdered (Some meet) until → t < meet → is_earlier_than until t ≡ true
until-later None meet t order early = refl
until-later (Some until) meet t order early = let past : t < until = omega arith in lt-ltb t until past

-- the tests of an epoch before the moment at which the spans meet
first-early : (near : ℕ) (from until : Option ℕ) (meet : ℕ) (e : EpochTableView) → IsOrdered (Some meet) until → e.time + near < meet → is_in_span near from (Some meet) e ≡ is_in_span near from until e
first-early near from until meet e order early =
    ap (λ b. is_at_or_after from (e.time + near) && b) (lt-ltb (e.time + near) meet early ∙ sym (until-later until meet (e.time + near) order early))

second-early : (near : ℕ) (until : Option ℕ) (meet : ℕ) (e : EpochTableView) → e.time + near < meet → is_in_span near (Some meet) until e ≡ false
second-early near until meet e early = ap (λ b. not b && is_earlier_than until (e.time + near)) (lt-ltb (e.time + near) meet early)

-- and of one at that moment or after it
first-late : (near : ℕ) (from : Option ℕ) (meet : ℕ) (e : EpochTableView) → meet ≤ e.time + near → is_in_span near from (Some meet) e ≡ false
first-late near from meet e late = ap (λ b. is_at_or_after from (e.time + near) && b) (le-ltb (e.time + near) meet late) ∙ and-nothing (is_at_or_after from (e.time + near))

second-late : (near : ℕ) (from until : Option ℕ) (meet : ℕ) (e : EpochTableView) → IsOrdered from (Some meet) → meet ≤ e.time + near → is_in_span near (Some meet) until e ≡ is_in_span near from until e
second-late near from until meet e order late =
    ap (λ b. not b && is_earlier_than until (e.time + near)) (le-ltb (e.time + near) meet late)
    ∙ ap (λ b. b && is_earlier_than until (e.time + near)) (sym (from-earlier from meet (e.time + near) order late))

filter-step : (p q : EpochTableView → Bool) (e : EpochTableView) (xs ys : List EpochTableView) → p e ≡ q e → xs ≡ ys → cond (p e) (e ∷ xs) xs ≡ cond (q e) (e ∷ ys) ys
filter-step p q e xs ys same rest = ap (λ b. cond b (e ∷ xs) xs) same ∙ ap (λ zs. cond (q e) (e ∷ zs) zs) rest

-- all of these are at the moment or after it
late-first : (near : ℕ) (from : Option ℕ) (meet : ℕ) (es : List EpochTableView) → All (λ e. meet ≤ e.time + near) es → filter (is_in_span near from (Some meet)) es ≡ []
late-first near from meet [] late = refl
late-first near from meet (e ∷ es) late =
    ap (λ b. cond b (e ∷ filter (is_in_span near from (Some meet)) es) (filter (is_in_span near from (Some meet)) es)) (first-late near from meet e (All-head (λ e. meet ≤ e.time + near) e es late))
    ∙ late-first near from meet es (All-tail (λ e. meet ≤ e.time + near) e es late)

late-second : (near : ℕ) (from until : Option ℕ) (meet : ℕ) (es : List EpochTableView) → IsOrdered from (Some meet) → All (λ e. meet ≤ e.time + near) es → filter (is_in_span near (Some meet) until) es ≡ filter (is_in_span near from until) es
late-second near from until meet [] order late = refl
late-second near from until meet (e ∷ es) order late =
    filter-step (is_in_span near (Some meet) until) (is_in_span near from until) e (filter (is_in_span near (Some meet) until) es) (filter (is_in_span near from until) es)
    (second-late near from until meet e order (All-head (λ e. meet ≤ e.time + near) e es late)) (late-second near from until meet es order (All-tail (λ e. meet ≤ e.time + near) e es late))

append-if : (b : Bool) (e : EpochTableView) (xs ys zs : List EpochTableView) → xs ++ ys ≡ zs → cond b (e ∷ xs) xs ++ ys ≡ cond b (e ∷ zs) zs
append-if true e xs ys zs same = ap (λ t. e ∷ t) same
append-if false e xs ys zs same = same

abbrev pub TimesRise : List EpochTableView → Type 0
TimesRise es = AllPairs (λ a b. a.time < b.time) es

all-late : (near meet : ℕ) (e : EpochTableView) (es : List EpochTableView) → meet ≤ e.time + near → All (λ x. e.time < x.time) es → All (λ x. meet ≤ x.time + near) (e ∷ es)
all-late near meet e es late above =
    All-cons (λ x. meet ≤ x.time + near) e es late (λ k d lt. let higher : e.time < (get_or es k d).time = above k d lt in let past : meet ≤ (get_or es k d).time + near = omega arith in past)

-- the epochs of two spans that meet are those of the span of both
pub filters-join : (near : ℕ) (from until : Option ℕ) (meet : ℕ) (es : List EpochTableView) → IsOrdered from (Some meet) → IsOrdered (Some meet) until → TimesRise es
    → filter (is_in_span near from (Some meet)) es ++ filter (is_in_span near (Some meet) until) es ≡ filter (is_in_span near from until) es
filters-join near from until meet [] before after rise = refl
filters-join near from until meet (e ∷ es) before after rise =
    let A = filter (is_in_span near from (Some meet)) in
    let B = filter (is_in_span near (Some meet) until) in
    let C = filter (is_in_span near from until) in
    elim (cases_lt (e.time + near) meet) [
      | inl early ↦
          ap (λ b. cond (is_in_span near from (Some meet) e) (e ∷ A es) (A es) ++ cond b (e ∷ B es) (B es)) (second-early near until meet e early)
          ∙ append-if (is_in_span near from (Some meet) e) e (A es) (B es) (C es) (filters-join near from until meet es before after (pairs-tail (λ (a : EpochTableView) (b : EpochTableView). a.time < b.time) e es rise))
          ∙ ap (λ b. cond b (e ∷ C es) (C es)) (first-early near from until meet e after early)
      | inr late ↦
          let above = pairs-head (λ (a : EpochTableView) (b : EpochTableView). a.time < b.time) e es rise in
          let all : All (λ x. meet ≤ x.time + near) (e ∷ es) = all-late near meet e es late above in
          ap (λ xs. xs ++ B (e ∷ es)) (late-first near from meet (e ∷ es) all) ∙ late-second near from until meet (e ∷ es) before all
    ]
