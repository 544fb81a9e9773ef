-- The table holds what its words say, by a test of each entry.
use Rattle.std.proofs.Common.{◌≡◌, ℕ, zero, suc, ◌+◌, ◌*◌, ◌<◌, Bool, true, false, not, cond, List, [], ◌∷◌, ◌++◌, length, get_or, take, refl, sym, ◌∙◌, ap, subst, arith, ◌&&◌, get_or-take}
use Rattle.std.proofs.lemmas.List.{get_or_append_left}
use Rattle.rtk_bits.specs.Bits.{bits_of}
use Rattle.rtk_frame.specs.Checksum.{zeros, divide}
use Rattle.rtk_frame.specs.Steps.Tables.{word_of}
use Rattle.rtk_frame.specs.declared.checksum_tables.TheConstants.{TABLES}
use Rattle.rtk_frame.specs.declared.checksum_far_tables.TheConstants.{FAR_TABLES}
use Rattle.rtk_frame.proofs.Division.{IsEntry}

same_bits : List Bool → List Bool → Bool
same_bits [] [] = true
same_bits [] (y ∷ ys) = false
same_bits (x ∷ xs) [] = false
same_bits (x ∷ xs) (y ∷ ys) = cond x y (not y) && same_bits xs ys

same_head : (x y : Bool) (b : Bool) → (cond x y (not y) && b) ≡ true → (x ≡ y) × (b ≡ true)
same_head true true b h = (refl, h)
same_head true false b h = absurd (cc)
same_head false true b h = absurd (cc)
same_head false false b h = (refl, h)

same_is_equal : (xs ys : List Bool) → same_bits xs ys ≡ true → xs ≡ ys
unfolding same_bits
same_is_equal [] [] h = refl
same_is_equal [] (y ∷ ys) h = absurd (cc)
same_is_equal (x ∷ xs) [] h = absurd (cc)
same_is_equal (x ∷ xs) (y ∷ ys) h = let p = same_head x y (same_bits xs ys) h in ap (λ z. z ∷ xs) p.0 ∙ ap (λ z. y ∷ z) (same_is_equal xs ys p.1)

entries : ℕ → List ℕ → Bool
entries z [] = true
entries z (t ∷ ts) = same_bits (bits_of 32 t) (divide 8 (bits_of 8 z ++ zeros 24) ++ zeros 8) && entries (z + 1) ts

both : (a b : Bool) → (a && b) ≡ true → (a ≡ true) × (b ≡ true)
both true b h = (refl, h)
both false b h = absurd (cc)

entry_at : (z : ℕ) (ts : List ℕ) (i : ℕ) → entries z ts ≡ true → i < length ts → IsEntry (z + i) (get_or ts i 0)
unfolding entries
entry_at z [] i h l = absurd (omega arith)
entry_at z (t ∷ ts) zero h l =
    let p = both (same_bits (bits_of 32 t) (divide 8 (bits_of 8 z ++ zeros 24) ++ zeros 8)) (entries (z + 1) ts) h in
    let e : z + 0 ≡ z = omega arith in rw e (same_is_equal _ _ p.0)
entry_at z (t ∷ ts) (suc i) h l =
    let p = both (same_bits (bits_of 32 t) (divide 8 (bits_of 8 z ++ zeros 24) ++ zeros 8)) (entries (z + 1) ts) h in
    let e : z + suc i ≡ z + 1 + i = omega arith in rw e (entry_at (z + 1) ts i p.1 (omega arith))

-- the first table
first : List ℕ
first = take 256 TABLES

table_test : entries 0 first ≡ true
unfolding entries same_bits bits_of divide first
table_test = refl

length_first : length first ≡ 256
unfolding first
length_first = refl

length_near : length TABLES ≡ 2048
length_near = refl

first_word : (i : ℕ) → i < 256 → get_or first i 0 ≡ word_of 0 i
unfolding first word_of
first_word i h =
    let e : i ≡ 256 * 0 + i = omega arith in
    get_or-take 256 TABLES i 0 h ∙ sym (get_or_append_left TABLES FAR_TABLES 0 i (omega (arith, length_near))) ∙ ap (λ k. get_or (TABLES ++ FAR_TABLES) k 0) e

pub table_entry : (i : ℕ) → i < 256 → IsEntry i (word_of 0 i)
table_entry i h =
    let e : 0 + i ≡ i = omega arith in
    subst (λ t. IsEntry i t) (first_word i h) (rw e at (entry_at 0 first i table_test (omega (arith, length_first))))
