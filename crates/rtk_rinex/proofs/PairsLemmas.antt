-- The table of pairs holds what its words say, by a test of each entry; and two digits at once.
use Rattle.std.proofs.Common.{◌≡◌, ℕ, zero, suc, ◌+◌, ◌*◌, ◌/◌, ◌%◌, ◌<◌, Bool, true, false, ◌&&◌, ◌==◌, List, [], ◌∷◌, ◌++◌, length, get_or, refl, arith, append_assoc}
use Rattle.std.proofs.lemmas.Bool.{eqb-true}
use Rattle.rtk_obs.specs.CivilText.{last_digits}
use Rattle.rtk_rinex.specs.declared.columns.TheConstants.{PAIRS}

-- these are the digits of n, then those of the numbers after it
entries : ℕ → List ℕ → Bool
entries n [] = true
entries n (t ∷ []) = false
entries n (t ∷ u ∷ more) = (t == 48 + n / 10) && ((u == 48 + n % 10) && entries (n + 1) more)

pub both : (a b : Bool) → (a && b) ≡ true → (a ≡ true) × (b ≡ true)
both true b h = (refl, h)
both false b h = absurd (cc)

abbrev pub IsPair : ℕ → ℕ → ℕ → Type 0
IsPair two tens units = (tens ≡ 48 + two / 10) × (units ≡ 48 + two % 10)

entry_at : (n : ℕ) (ts : List ℕ) (i : ℕ) → entries n ts ≡ true → 2 * i + 1 < length ts → IsPair (n + i) (get_or ts (2 * i) 0) (get_or ts (2 * i + 1) 0)
unfolding entries
entry_at n [] i h l = absurd (omega arith)
entry_at n (t ∷ []) i h l = absurd (cc)
entry_at n (t ∷ u ∷ more) zero h l =
    let p = both (t == 48 + n / 10) ((u == 48 + n % 10) && entries (n + 1) more) h in
    let q = both (u == 48 + n % 10) (entries (n + 1) more) p.1 in
    let e : n + 0 ≡ n = omega arith in rw e (eqb-true t (48 + n / 10) p.0, eqb-true u (48 + n % 10) q.0)
entry_at n (t ∷ u ∷ more) (suc i) h l =
    let p = both (t == 48 + n / 10) ((u == 48 + n % 10) && entries (n + 1) more) h in
    let q = both (u == 48 + n % 10) (entries (n + 1) more) p.1 in
    let e : n + suc i ≡ n + 1 + i = omega arith in
    let a : 2 * suc i ≡ suc (suc (2 * i)) = omega arith in
    let b : 2 * suc i + 1 ≡ suc (suc (2 * i + 1)) = omega arith in
    rw (b, a, e) (entry_at (n + 1) more i q.1 (omega arith))

pairs_test : entries 0 PAIRS ≡ true
unfolding entries
pairs_test = refl

pub pair_at : (two : ℕ) → two < 100 → IsPair two (get_or PAIRS (2 * two) 0) (get_or PAIRS (2 * two + 1) 0)
pair_at two h = let e : 0 + two ≡ two = omega arith in rw e at (entry_at 0 PAIRS two pairs_test (omega arith))

-- the last digits of a number are those of its hundredth and two more
pub last_digits-two : (k n : ℕ) → last_digits (suc (suc k)) n ≡ last_digits k (n / 100) ++ (48 + n % 100 / 10) ∷ (48 + n % 100 % 10) ∷ []
last_digits-two k n =
    let rest : n / 10 / 10 ≡ n / 100 = omega arith in
    let first : n / 10 % 10 ≡ n % 100 / 10 = omega arith in
    let second : n % 10 ≡ n % 100 % 10 = omega arith in
    rw (rest, first, second) (append_assoc (last_digits k (n / 100)) _ _)
