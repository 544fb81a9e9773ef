-- Texts in pieces of known widths.
use Rattle.std.proofs.Common.{◌≡◌, ◌≤◌, ℕ, ◌+◌, ◌-◌, List, [], ◌∷◌, ◌++◌, length, take, drop, refl, sym, ap, arith, ◌∙◌}
use Rattle.std.proofs.lemmas.List.{take_at, drop_at, take-append-drop, drop-drop, length-take-le}

-- if the first parts of two texts that are alike have one length, both parts are alike
pub same_parts : (a b x y : List ℕ) → length a ≡ length b → a ++ x ≡ b ++ y → (a ≡ b) × (x ≡ y)
same_parts a b x y l e = (
  sym (take_at a x (length b) l) ∙ ap (take (length b)) e ∙ take_at b y (length b) refl,
  sym (drop_at a x (length b) l) ∙ ap (drop (length b)) e ∙ drop_at b y (length b) refl,
)

abbrev pub joined : List (List ℕ) → List ℕ
joined [] = []
joined (x ∷ xs) = x ++ joined xs

-- pieces of these widths
abbrev pub HasWidths : List ℕ → List (List ℕ) → Type 0
HasWidths [] [] = Unit {0}
HasWidths [] (x ∷ xs) = ⊥
HasWidths (w ∷ ws) [] = ⊥
HasWidths (w ∷ ws) (x ∷ xs) = (length x ≡ w) × HasWidths ws xs

pub same_more : (x y : List ℕ) (xs ys : List (List ℕ)) → x ≡ y → xs ≡ ys → x ∷ xs ≡ y ∷ ys
same_more x y xs ys e f = ap (λ (z : List ℕ). z ∷ xs) e ∙ ap (λ (zs : List (List ℕ)). y ∷ zs) f

-- pieces of the same widths, which make the same text, are the same
pub same_pieces : (ws : List ℕ) (xs ys : List (List ℕ)) → HasWidths ws xs → HasWidths ws ys → joined xs ≡ joined ys → xs ≡ ys
same_pieces [] [] [] g h e = refl
same_pieces [] [] (y ∷ ys) g h e = absurd h
same_pieces [] (x ∷ xs) ys g h e = absurd g
same_pieces (w ∷ ws) [] ys g h e = absurd g
same_pieces (w ∷ ws) (x ∷ xs) [] g h e = absurd h
same_pieces (w ∷ ws) (x ∷ xs) (y ∷ ys) g h e =
    let two = same_parts x y (joined xs) (joined ys) (g.0 ∙ sym h.0) e in
    let rest = same_pieces ws xs ys g.1 h.1 two.1 in
    same_more x y xs ys two.0 rest

-- the next columns of a text, and what stands after them
pub next_piece : (k w : ℕ) (text rest : List ℕ) → drop (k + w) text ≡ rest → drop k text ≡ take w (drop k text) ++ rest
next_piece k w text rest e =
    sym (take-append-drop w (drop k text)) ∙ ap (λ (r : List ℕ). take w (drop k text) ++ r) (drop-drop w k text ∙ e)

-- a text after other columns were written over it from a place on
pub drop-over : (a k n : ℕ) (xs ys : List ℕ) → a ≤ length xs → k ≡ n → drop a (take a xs ++ (ys ++ drop k (drop a xs))) ≡ ys ++ drop (a + n) xs
drop-over a k n xs ys h e =
    drop_at (take a xs) (ys ++ drop k (drop a xs)) a (length-take-le a xs h) ∙ ap (λ (t : List ℕ). ys ++ t) (drop-drop k a xs ∙ ap (λ (j : ℕ). drop (a + j) xs) e)

-- what stands after those columns stays
pub drop-after : (a k n m : ℕ) (xs ys : List ℕ) → a ≤ length xs → k ≡ n → length ys ≡ n → a + n ≤ m → drop m (take a xs ++ (ys ++ drop k (drop a xs))) ≡ drop m xs
drop-after a k n m xs ys h e size past =
    let d : ℕ = m - (a + n) in
    let whole : List ℕ = take a xs ++ (ys ++ drop k (drop a xs)) in
    let sum : a + (n + d) ≡ m = omega (arith, past) in
    let same : a + k + d ≡ m = omega (arith, past, e) in
    ap (λ (j : ℕ). drop j whole) (sym sum) ∙ sym (drop-drop (n + d) a whole)
    ∙ ap (drop (n + d)) (drop_at (take a xs) (ys ++ drop k (drop a xs)) a (length-take-le a xs h))
    ∙ sym (drop-drop d n (ys ++ drop k (drop a xs))) ∙ ap (drop d) (drop_at ys (drop k (drop a xs)) n size)
    ∙ ap (drop d) (drop-drop k a xs) ∙ drop-drop d (a + k) xs ∙ ap (λ (j : ℕ). drop j xs) same
