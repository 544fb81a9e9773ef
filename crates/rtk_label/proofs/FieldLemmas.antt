-- Fields in their columns.
use Rattle.std.proofs.Common.{◌≡◌, ◌≢◌, ◌≤◌, ℕ, ◌-◌, List, [], length, replicate, slice_get, Some, None, ap, sym, arith, ◌∙◌, inl, inr, length-append}
use Rattle.std.specs.Int.{IsInRange}
use Rattle.std.proofs.lemmas.List.{length-replicate}
use Rattle.std.proofs.lemmas.List.Elements.{All-nil}
use Rattle.rtk_rinex.specs.Columns.{left, IsField}
use Rattle.rtk_rinex.specs.Record.{trim_end}
use Rattle.rtk_label.specs.Steps.Shown.{IsFieldIn}
use Rattle.rtk_label.specs.Steps.Fronts.{plain_columns}
use Rattle.rtk_label.proofs.ChoiceLemmas.{if_blank, if_filled, none_is, blank_or_filled}
use Rattle.rtk_label.proofs.TrimLemmas.{trimmed-field, trimmed-left}

none_some : (x : ℕ) → None ≡ Some x → ⊥
none_some x h = cc

no_first : (x : ℕ) → slice_get {X = ℕ} [] 0 ≢ Some x
no_first x e = none_some x e

pub blank_field : (w : ℕ) → IsField w []
blank_field w = (omega arith, All-nil (λ x. IsInRange 32 126 x), no_first 32, no_first 32)

pub field-none : (w : ℕ) (columns : List ℕ) → ¬ (IsField w (trim_end columns)) → IsFieldIn w columns []
field-none w columns unlike = record {
  good = blank_field w;
  some = λ h. absurd (omega (arith, h));
  all = λ g is e. absurd (unlike (rw (ap trim_end e ∙ trimmed-field w g is) is));
}

pub field-some : (w : ℕ) (columns field : List ℕ) → length columns ≡ w → field ≡ trim_end columns → IsField w (trim_end columns) → IsFieldIn w columns field
field-some w columns field l shown is = record {
  good = rw shown is;
  some = λ h. rw shown (trimmed-left w columns l);
  all = λ g good e. shown ∙ ap trim_end e ∙ trimmed-field w g good;
}

pub length-left : (w : ℕ) (text : List ℕ) → length text ≤ w → length (left w text) ≡ w
unfolding left
length-left w text h = length-append text (replicate (w - length text) 32) ∙ omega (arith, length-replicate {A = ℕ} (w - length text) 32)

pub left-nil : (w : ℕ) → left w [] ≡ replicate w 32
unfolding left
left-nil w = let n : w - 0 ≡ w = omega arith in ap (λ (k : ℕ). replicate {A = ℕ} k 32) n

-- ---- the columns of a field, made blank

pub length-plain_columns : (w : ℕ) (field columns : List ℕ) → length columns ≡ w → length (plain_columns w field columns) ≡ w
length-plain_columns w field columns l =
    elim (blank_or_filled field) [
      | inl none ↦ ap length (if_blank field columns (replicate w 32) none) ∙ l
      | inr some ↦ ap length (if_filled field columns (replicate w 32) some) ∙ length-replicate {A = ℕ} w 32
    ]

-- blank columns were those of the field
pub field_was : (w : ℕ) (columns field : List ℕ) → IsFieldIn w columns field → plain_columns w field columns ≡ left w [] → columns ≡ left w field
field_was w columns field is e =
    elim (blank_or_filled field) [
      | inl none ↦ sym (if_blank field columns (replicate w 32) none) ∙ e ∙ ap (left w) (sym (none_is field none))
      | inr some ↦ is.some some
    ]

-- columns of a field become blank
pub field_is_blank : (w : ℕ) (columns field g : List ℕ) → IsFieldIn w columns field → IsField w g → columns ≡ left w g → plain_columns w field columns ≡ left w []
field_is_blank w columns field g is good e =
    let same : field ≡ g = is.all g good e in
    elim (blank_or_filled field) [
      | inl none ↦ if_blank field columns (replicate w 32) none ∙ e ∙ ap (left w) (sym same ∙ none_is field none)
      | inr some ↦ if_filled field columns (replicate w 32) some ∙ sym (left-nil w)
    ]

-- ---- one field in its columns

pub field_in : (w : ℕ) (columns f : List ℕ) → IsField w f → columns ≡ left w f → IsFieldIn w columns f
field_in w columns f good e = record {
  good = good;
  some = λ some. e;
  all = λ g is other. sym (trimmed-field w f good) ∙ ap trim_end (sym e ∙ other) ∙ trimmed-field w g is;
}

-- columns of a line are those of its place
pub field_at : (w : ℕ) (columns place field : List ℕ) → columns ≡ place → length columns ≡ w → IsFieldIn (length columns) columns field → IsFieldIn w place field
field_at w columns place field e l is = let own : IsFieldIn w columns field = rw l at is in rw e at own
