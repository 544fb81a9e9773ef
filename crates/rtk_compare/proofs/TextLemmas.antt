-- Texts, one part after another.
use Rattle.std.proofs.Common.{◌≡◌, ◌<◌, ◌+◌, ℕ, zero, suc, Bool, true, false, ◌||◌, ltb, List, [], ◌∷◌, ◌++◌, length, take, get_or, append_assoc, append-nil, refl, sym, ap, ◌∙◌, arith}
use Rattle.std.proofs.lemmas.Bool.{lt-ltb, or_right}
use Rattle.std.proofs.lemmas.List.{take_more}
use Rattle.rtk_compare.specs.declared.difference.Difference.{Difference}
use Rattle.rtk_compare.specs.Answer.{object_text, objects_text}

or-nothing : (b : Bool) → (b || false) ≡ b
or-nothing true = refl
or-nothing false = refl

-- a part, and what comes behind it
pub joined : (t u v a b : List ℕ) → u ≡ t ++ a → v ≡ u ++ b → v ≡ t ++ (a ++ b)
joined t u v a b first second = second ∙ ap (λ (x : List ℕ). x ++ b) first ∙ append_assoc t a b

-- objects, and one more
one-more : (others : Bool) (ds : List Difference) (d : Difference) → objects_text others (ds ++ d ∷ []) ≡ objects_text others ds ++ object_text (others || ltb 0 (length ds)) d
one-more others [] d = append-nil (object_text others d) ∙ sym (ap (λ (b : Bool). object_text b d) (or-nothing others))
one-more others (e ∷ ds) d =
    ap (λ (t : List ℕ). object_text others e ++ t) (one-more true ds d) ∙ sym (append_assoc (object_text others e) (objects_text true ds) (object_text true d))
    ∙ sym (ap (λ (b : Bool). (object_text others e ++ objects_text true ds) ++ object_text b d) (or_right others (ltb 0 (suc (length ds))) (lt-ltb 0 (suc (length ds)) (omega arith))))

length-taken : {A : Type 0} (xs : List A) (k : ℕ) → k < length xs → ltb 0 (length (take k xs)) ≡ ltb 0 k
length-taken xs zero lt = refl
length-taken [] (suc k) lt = absurd (omega (arith, lt))
length-taken (x ∷ xs) (suc k) lt = lt-ltb 0 (suc (length (take k xs))) (omega arith) ∙ sym (lt-ltb 0 (suc k) (omega arith))

pub objects-more : (others are : Bool) (ds : List Difference) (k : ℕ) (d : Difference) (before mid after : List ℕ) → k < length ds → are ≡ (others || ltb 0 k) → mid ≡ before ++ objects_text others (take k ds)
    → after ≡ mid ++ object_text are (get_or ds k d) → after ≡ before ++ objects_text others (take (k + 1) ds)
objects-more others are ds k d before mid after lt is so_far more =
    let x = get_or ds k d in
    joined before mid after (objects_text others (take k ds)) (object_text (others || ltb 0 k) x) so_far (more ∙ ap (λ (b : Bool). mid ++ object_text b x) is)
    ∙ ap (λ (t : List ℕ). before ++ t)
    (ap (λ (b : Bool). objects_text others (take k ds) ++ object_text (others || b) x) (sym (length-taken ds k lt)) ∙ sym (one-more others (take k ds) x) ∙ ap (λ (es : List Difference). objects_text others es) (sym (take_more ds k d lt)))
