-- The payloads that are not read, one after another.
use Rattle.std.proofs.Common.{◌≡◌, ◌≢◌, ◌+◌, ℕ, List, ◌∷◌, refl}
use Rattle.std.specs.BTreeMap.{BTreeMap}
use Rattle.rtk_message.specs.declared.any_fault.AnyFault.{AnyFault}
use Rattle.rtk_message.specs.declared.any_fault.AnyFault.TheVariants.{Other, Short, EpochRange, TooManyCells}
use Rattle.rtk_survey.specs.Contents.{CountsFaults, count_at}
use Rattle.rtk_survey.specs.Counting.{shown_count}
use Rattle.rtk_survey.specs.Tracing.{is_no_number, is_other, is_short, is_outside_week, is_too_many_cells}
use Rattle.rtk_survey.specs.declared.unread.Unread.{Unread}
use Rattle.rtk_survey.proofs.TallyLemmas.{none-more, tally-more, tally-same}

-- the count of a number was raised: before, after
abbrev pub Raises : BTreeMap ℕ ℕ → ℕ → BTreeMap ℕ ℕ → Type 0
Raises old k new = (count_at new k ≡ shown_count (count_at old k + 1)) × ((n : ℕ) → n ≢ k → count_at new n ≡ count_at old n)

module _ (u : Unread) (fs : List AnyFault) where
  pub other-more : (k : ℕ) (m : BTreeMap ℕ ℕ) → Raises u.others k m → CountsFaults u fs → CountsFaults (record u { others = m }) (Other k ∷ fs)
  other-more k m raised had = record {
    no_number = none-more is_no_number (Other k) fs u.no_number refl had.no_number;
    others = tally-more is_other (Other k) fs u.others m k (λ n. refl) raised.0 raised.1 had.others;
    short = tally-same is_short (Other k) fs u.short (λ n. refl) had.short;
    outside_week = tally-same is_outside_week (Other k) fs u.outside_week (λ n. refl) had.outside_week;
    too_many_cells = tally-same is_too_many_cells (Other k) fs u.too_many_cells (λ n. refl) had.too_many_cells;
  }

  pub short-more : (k : ℕ) (m : BTreeMap ℕ ℕ) → Raises u.short k m → CountsFaults u fs → CountsFaults (record u { short = m }) (Short k ∷ fs)
  short-more k m raised had = record {
    no_number = none-more is_no_number (Short k) fs u.no_number refl had.no_number;
    others = tally-same is_other (Short k) fs u.others (λ n. refl) had.others;
    short = tally-more is_short (Short k) fs u.short m k (λ n. refl) raised.0 raised.1 had.short;
    outside_week = tally-same is_outside_week (Short k) fs u.outside_week (λ n. refl) had.outside_week;
    too_many_cells = tally-same is_too_many_cells (Short k) fs u.too_many_cells (λ n. refl) had.too_many_cells;
  }

  pub outside-more : (k : ℕ) (m : BTreeMap ℕ ℕ) → Raises u.outside_week k m → CountsFaults u fs → CountsFaults (record u { outside_week = m }) (EpochRange k ∷ fs)
  outside-more k m raised had = record {
    no_number = none-more is_no_number (EpochRange k) fs u.no_number refl had.no_number;
    others = tally-same is_other (EpochRange k) fs u.others (λ n. refl) had.others;
    short = tally-same is_short (EpochRange k) fs u.short (λ n. refl) had.short;
    outside_week = tally-more is_outside_week (EpochRange k) fs u.outside_week m k (λ n. refl) raised.0 raised.1 had.outside_week;
    too_many_cells = tally-same is_too_many_cells (EpochRange k) fs u.too_many_cells (λ n. refl) had.too_many_cells;
  }

  pub cells-more : (k : ℕ) (m : BTreeMap ℕ ℕ) → Raises u.too_many_cells k m → CountsFaults u fs → CountsFaults (record u { too_many_cells = m }) (TooManyCells k ∷ fs)
  cells-more k m raised had = record {
    no_number = none-more is_no_number (TooManyCells k) fs u.no_number refl had.no_number;
    others = tally-same is_other (TooManyCells k) fs u.others (λ n. refl) had.others;
    short = tally-same is_short (TooManyCells k) fs u.short (λ n. refl) had.short;
    outside_week = tally-same is_outside_week (TooManyCells k) fs u.outside_week (λ n. refl) had.outside_week;
    too_many_cells = tally-more is_too_many_cells (TooManyCells k) fs u.too_many_cells m k (λ n. refl) raised.0 raised.1 had.too_many_cells;
  }
