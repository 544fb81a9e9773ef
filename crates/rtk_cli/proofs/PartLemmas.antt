-- The parts of a text between marks, and what is read of them from the front.
use Rattle.std.proofs.Common.{◌≡◌, ℕ, suc, ◌+◌, ◌<◌, ◌==◌, false, List, [], ◌∷◌, ◌++◌, length, map, take, drop, get_or, arith, sym, ap, ◌∙◌, append_assoc}
use Rattle.std.specs.Prelude.{All}
use Rattle.std.proofs.lemmas.Bool.{eq-eqb}
use Rattle.std.proofs.lemmas.List.{take-append-drop, drop_more, map_push, append-nil}
use Rattle.std.proofs.lemmas.List.Splits.{slice_split_at, slice_split_none}
use Rattle.rtk_cli.specs.Steps.Parts.{marked_parts}

-- ---- the first part

-- no character of a text is the mark
abbrev pub HasNoMark : ℕ → List ℕ → Type 0
HasNoMark mark text = All (λ (x : ℕ). (x == mark) ≡ false) text

-- a text up to its first mark, and behind it
pub part-at : (mark : ℕ) (text : List ℕ) (place : ℕ) → place < length text → HasNoMark mark (take place text) → get_or text place 0 ≡ mark
    → marked_parts mark text ≡ take place text ∷ marked_parts mark (drop (place + 1) text)
part-at mark text place within none here =
    let split : text ≡ take place text ++ get_or text place 0 ∷ drop (place + 1) text =
    sym (take-append-drop place text) ∙ ap (λ (t : List ℕ). take place text ++ t) (drop_more text place 0 within) in
    ap (marked_parts mark) split
    ∙ slice_split_at (λ (x : ℕ). x == mark) (take place text) (get_or text place 0) (drop (place + 1) text) none (eq-eqb (get_or text place 0) mark here)

-- a text without a mark
pub part-alone : (mark : ℕ) (text : List ℕ) → HasNoMark mark text → marked_parts mark text ≡ text ∷ []
part-alone mark text none = slice_split_none (λ (x : ℕ). x == mark) text none

-- ---- words from the front

-- one word more is read
pub one-word : {N W : Type 0} (word : N → W) (all : List W) (done : List N) (one : N) (x : W) (rest more : List W)
    → all ≡ map word done ++ rest → rest ≡ x ∷ more → x ≡ word one → all ≡ map word (done ++ one ∷ []) ++ more
one-word {N} {W} word all done one x rest more so_far split is =
    so_far ∙ ap (λ (t : List W). map word done ++ t) (split ∙ ap (λ (y : W). y ∷ more) is)
    ∙ sym (append_assoc (map word done) (word one ∷ []) more)
    ∙ ap (λ (t : List W). t ++ more) (sym (map_push word done one))

-- the last word is read
pub last-word : {N W : Type 0} (word : N → W) (all : List W) (done : List N) (one : N) (x : W) (rest : List W)
    → all ≡ map word done ++ rest → rest ≡ x ∷ [] → x ≡ word one → all ≡ map word (done ++ one ∷ [])
last-word word all done one x rest so_far split is = one-word word all done one x rest [] so_far split is ∙ append-nil _

-- what follows the words that were read begins with the word of one more
pub word-of : {N W : Type 0} (Good : N → Type 0) (word : N → W) (done listed : List N) (x : W) (more : List W)
    → All Good listed → map word done ++ x ∷ more ≡ map word listed → (one : N) × Good one × (x ≡ word one)
word-of Good word [] [] x more good e = absurd (let bad : suc (length more) ≡ 0 = ap length e in omega (arith, bad))
word-of {N} {W} Good word [] (n ∷ ns) x more good e = (n, good 0 n (omega arith), ap (λ (t : List W). get_or t 0 x) e)
word-of Good word (d ∷ ds) [] x more good e = absurd (let bad : suc (length (map word ds ++ x ∷ more)) ≡ 0 = ap length e in omega (arith, bad))
word-of {N} {W} Good word (d ∷ ds) (n ∷ ns) x more good e =
    word-of Good word ds ns x more (λ k y lt. good (suc k) y (omega (arith, lt))) (ap (λ (t : List W). drop 1 t) e)

-- so the text lists nothing, if what follows begins with no word
pub no-word : {N W : Type 0} (Good : N → Type 0) (word : N → W) (all : List W) (done listed : List N) (x : W) (rest more : List W)
    → all ≡ map word done ++ rest → rest ≡ x ∷ more → ((n : N) → Good n → x ≡ word n → ⊥) → All Good listed → all ≡ map word listed → ⊥
no-word {N} {W} Good word all done listed x rest more so_far split none good e =
    let one = word-of Good word done listed x more good (ap (λ (t : List W). map word done ++ t) (sym split) ∙ sym so_far ∙ e) in
    none one.0 one.1 one.2
