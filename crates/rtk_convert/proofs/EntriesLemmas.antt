-- Cells of one form as cells of any system.
use Rattle.std.proofs.Common.{◌≡◌, ◌∙◌, ℕ, zero, suc, ◌-◌, ◌<◌, Bool, true, false, cond, List, [], ◌∷◌, ◌++◌, map, filter, length, take, drop, get_or, slice_range, refl, ap, sym, arith}
use Rattle.std.specs.Prelude.{All}
use Rattle.std.proofs.lemmas.List.{get_or-map, length-map}
use Rattle.std.proofs.lemmas.List.Elements.{All-map}
use Rattle.rtk_obs.specs.declared.any_code.AnyCode.{AnyCode}
use Rattle.rtk_obs.specs.declared.cell.Cell.{Cell}
use Rattle.rtk_obs.specs.declared.cell.CellSource.{CellSource}
use Rattle.rtk_obs.specs.declared.cell.CellSource.TheVariants.{Legacy, Msm}
use Rattle.rtk_obs.specs.declared.signal_cells.SignalEntry.{SignalEntry}
use Rattle.rtk_obs.specs.SignalCells.{EntriesAreOfOneKind}
use Rattle.rtk_obs.specs.Slip.{is_same_source}
use Rattle.rtk_collect.specs.Entries.{Entries}
use Rattle.rtk_collect.specs.EpochSet.{AreLeftBeside, AreOfOneSource, is_from}
use Rattle.rtk_collect.specs.Signals.{signals}
use Rattle.rtk_convert.specs.Rows.{first_cell, in_turn}
use Rattle.rtk_convert.proofs.LeftCellsLemmas.{first-left}

map-if : {A B : Type 0} (f : A → B) (b : Bool) (x : A) (ys : List A) (zs : List B) → zs ≡ map f ys → cond b (f x ∷ zs) zs ≡ map f (cond b (x ∷ ys) ys)
map-if f true x ys zs e = ap (λ (ts : List _). f x ∷ ts) e
map-if f false x ys zs e = e

pub filter-map : {A B : Type 0} (f : A → B) (p : A → Bool) (q : B → Bool) → ((e : A) → q (f e) ≡ p e) → (xs : List A) → filter q (map f xs) ≡ map f (filter p xs)
filter-map f p q same [] = refl
filter-map f p q same (x ∷ xs) =
    ap (λ (b : Bool). cond b (f x ∷ filter q (map f xs)) (filter q (map f xs))) (same x) ∙ map-if f (p x) x (filter p xs) (filter q (map f xs)) (filter-map f p q same xs)

map-take : {A B : Type 0} (f : A → B) (n : ℕ) (xs : List A) → map f (take n xs) ≡ take n (map f xs)
map-take f zero xs = refl
map-take f (suc n) [] = refl
map-take f (suc n) (x ∷ xs) = ap (λ (ts : List _). f x ∷ ts) (map-take f n xs)

map-drop : {A B : Type 0} (f : A → B) (n : ℕ) (xs : List A) → map f (drop n xs) ≡ drop n (map f xs)
map-drop f zero xs = refl
map-drop f (suc n) [] = refl
map-drop f (suc n) (x ∷ xs) = map-drop f n xs

-- a part of a list
pub map-slice : {A B : Type 0} (f : A → B) (xs : List A) (a b : ℕ) → map f (slice_range xs a b) ≡ slice_range (map f xs) a b
map-slice f xs a b = map-take f (b - a) (drop a xs) ∙ ap (take (b - a)) (map-drop f a xs)

module _ {E : Type 0} (f : E → SignalEntry) where
  -- a cell that stands at a place stands there as one of any system
  pub entry-at : (xs : List E) (k : ℕ) (x : E) (d : SignalEntry) → k < length xs → x ≡ get_or xs k x → get_or (map f xs) k d ≡ f x
  entry-at xs k x d lt is = get_or-map f xs k x d lt ∙ ap f (sym is)

  pub within-map : (xs : List E) (k : ℕ) → k < length (map f xs) → k < length xs
  within-map xs k h = omega (arith, h, length-map xs f)

  pub all-map : (P : E → Type 0) (Q : SignalEntry → Type 0) → ((e : E) → P e → Q (f e)) → (xs : List E) → All P xs → All Q (map f xs)
  all-map P Q h xs all = All-map Q f xs (λ k d l. h (get_or xs k d) (all k d l))

  module _ {S : Type 0} (es : Entries E S) (values : (e : E) → es.cell e ≡ (f e).cell) where
    pub one-kind : (xs : List E) → AreOfOneSource es xs → EntriesAreOfOneKind (map f xs)
    one-kind xs h = (h.0, all-map (λ e. (es.cell e).source ≡ h.0) (λ e. e.cell.source ≡ h.0) (λ e is. ap (λ (c : Cell). c.source) (sym (values e)) ∙ is) xs h.1)

    from-same : (source : CellSource) (e : E) → is_from signals source (f e) ≡ is_from es source e
    from-same source e = ap (λ (c : Cell). is_same_source c.source source) (sym (values e))

    -- the cells of an MSM, and then those of a 1004 that are left beside them, give the first cells that all give
    pub turn-is : (cells left : List E) → AreLeftBeside signals (map f (filter (is_from es Msm) cells)) (map f (filter (is_from es Legacy) cells)) (map f left) → (s : ℕ) (c : AnyCode)
        → first_cell (map f (filter (is_from es Msm) cells) ++ map f left) s c ≡ first_cell (in_turn (map f cells)) s c
    turn-is cells left h s c =
        first-left (map f (filter (is_from es Msm) cells)) (map f (filter (is_from es Legacy) cells)) (map f left) s c h
        ∙ ap (λ (xs : List SignalEntry). first_cell (xs ++ map f (filter (is_from es Legacy) cells)) s c) (sym (filter-map f (is_from es Msm) (is_from signals Msm) (from-same Msm) cells))
        ∙ ap (λ (xs : List SignalEntry). first_cell (filter (is_from signals Msm) (map f cells) ++ xs) s c) (sym (filter-map f (is_from es Legacy) (is_from signals Legacy) (from-same Legacy) cells))
