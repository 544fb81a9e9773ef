-- The first cell of a satellite and code, if cells of a 1004 are left out whose satellite and code a cell
-- of an MSM has.
use Rattle.std.proofs.Common.{◌≡◌, ℕ, ◌+◌, ◌*◌, ◌<◌, List, [], ◌∷◌, ◌++◌, refl, sym, ap, ◌∙◌, arith, true, false, Bool, nat_eq, not, ◌&&◌, ◌||◌, cond, Option, Some, None, inl, inr}
use Rattle.std.specs.Prelude.{is_some}
use Rattle.std.specs.List.{list_any}
use Rattle.std.proofs.lemmas.Bool.{eqb-true}
use Rattle.std.proofs.lemmas.Bool.Decides.{nat_tests}
use Rattle.rtk_obs.specs.declared.any_code.AnyCode.{AnyCode}
use Rattle.rtk_obs.specs.declared.signal_cells.SignalEntry.{SignalEntry}
use Rattle.rtk_obs.specs.AnyCode.{number_of}
use Rattle.rtk_obs.proofs.PublicLaws.{number_below}
use Rattle.rtk_collect.specs.EpochSet.{AreLeftBeside, left_beside}
use Rattle.rtk_collect.specs.Signals.{signal_number, signals}
use Rattle.rtk_convert.specs.Rows.{is_signal, first_cell}
use Rattle.rtk_convert.proofs.CellOrderLemmas.{or_later, first-append}

-- some cell has this number of its satellite and code
abbrev has_number : List SignalEntry → ℕ → Bool
has_number cells number = list_any (λ k. nat_eq (signal_number k.satellite k.code) number) cells

test-is : (a b m n : ℕ) → m < 69 → n < 69 → nat_eq (a * 128 + m) (b * 128 + n) ≡ (nat_eq a b && nat_eq m n)
test-is a b m n h k = grind (arith, nat_tests)

is-number : (s : ℕ) (c : AnyCode) (e : SignalEntry) → nat_eq (signal_number e.satellite e.code) (signal_number s c) ≡ is_signal s c e
is-number s c e = test-is e.satellite s (number_of e.code) (number_of c) (number_below e.code) (number_below c)

number-is : (s : ℕ) (c : AnyCode) (e : SignalEntry) → is_signal s c e ≡ true → signal_number e.satellite e.code ≡ signal_number s c
number-is s c e h = eqb-true (signal_number e.satellite e.code) (signal_number s c) (is-number s c e ∙ h)

some-step : (b t : Bool) (x : SignalEntry) (o : Option SignalEntry) → t ≡ is_some o → (b || t) ≡ is_some (cond b (Some x) o)
some-step true t x o h = refl
some-step false t x o h = h

has-first : (known : List SignalEntry) (s : ℕ) (c : AnyCode) → has_number known (signal_number s c) ≡ is_some (first_cell known s c)
has-first [] s c = refl
has-first (x ∷ xs) s c =
    ap (λ (b : Bool). b || has_number xs (signal_number s c)) (is-number s c x)
    ∙ some-step (is_signal s c x) (has_number xs (signal_number s c)) x (first_cell xs s c) (has-first xs s c)

left-step : (b t : Bool) (s : ℕ) (c : AnyCode) (x : SignalEntry) (rest : List SignalEntry) (o : Option SignalEntry) → is_signal s c x ≡ b → (b ≡ true → t ≡ false) → first_cell rest s c ≡ o
    → first_cell (cond (not t) (x ∷ rest) rest) s c ≡ cond b (Some x) o
left-step true true s c x rest o e n h = let f : true ≡ false = n refl in cc
left-step true false s c x rest o e n h = rw e refl
left-step false true s c x rest o e n h = h
left-step false false s c x rest o e n h = rw e h

left-first : (known cells : List SignalEntry) (s : ℕ) (c : AnyCode) → has_number known (signal_number s c) ≡ false → first_cell (left_beside signals known cells) s c ≡ first_cell cells s c
left-first known [] s c h = refl
left-first known (x ∷ xs) s c h =
    left-step (is_signal s c x) (has_number known (signal_number x.satellite x.code)) s c x (left_beside signals known xs) (first_cell xs s c) refl
    (λ t. ap (has_number known) (number-is s c x t) ∙ h) (left-first known xs s c h)

left-or : (o : Option SignalEntry) (known cells : List SignalEntry) (s : ℕ) (c : AnyCode) → first_cell known s c ≡ o
    → or_later o (first_cell (left_beside signals known cells) s c) ≡ or_later o (first_cell cells s c)
left-or None known cells s c e = left-first known cells s c (has-first known s c ∙ ap is_some e)
left-or (Some x) known cells s c e = refl

-- after the known cells, those that are left give the same cell as all do
pub first-left : (known cells left : List SignalEntry) (s : ℕ) (c : AnyCode) → AreLeftBeside signals known cells left → first_cell (known ++ left) s c ≡ first_cell (known ++ cells) s c
first-left known cells left s c h = elim h [
  | inl same ↦ ap (λ (xs : List SignalEntry). first_cell (known ++ xs) s c) same
  | inr less ↦ ap (λ (xs : List SignalEntry). first_cell (known ++ xs) s c) less
      ∙ first-append known (left_beside signals known cells) s c ∙ left-or (first_cell known s c) known cells s c refl ∙ sym (first-append known cells s c)
]
