-- The places of the set bits of a mask, and lists that are made place by place.
use Rattle.std.proofs.Common.{◌≡◌, ◌≢◌, ℕ, zero, suc, ◌+◌, ◌-◌, ◌*◌, ◌^◌, ◌<◌, ◌≤◌, [], ◌∷◌, ◌++◌, List, length, take, get_or, refl, sym, ◌∙◌, ap, subst, arith, true, false, Bool, cond, append_assoc, length-append, inl, inr, sum_by}
use Rattle.std.specs.Prelude.{nat_le}
use Rattle.std.specs.List.{All, AllByRecursion}
use Rattle.std.proofs.lemmas.List.{append-nil, take_more, length-take-le}
use Rattle.std.proofs.lemmas.List.Elements.{All-from_recursion}
use Rattle.std.proofs.lemmas.List.Sums.{sum_by-cons}
use Rattle.std.proofs.lemmas.Bool.{cases_order}
use Rattle.std.proofs.lemmas.Bool.Decides.{nat_tests}
use Rattle.std.proofs.lemmas.Nat.{pow_below, ones_cat, leading_top}
use Rattle.std.proofs.Math.Nat.{pow-suc}
use lib.Count.{ones, ones_in, count_leading_zeros}
use Rattle.rtk_obs.specs.Mask.{set_bits_from, set_bits, join_from}

by_lt : {P : Type 0} (m n : ℕ) → (m < n → P) → (n ≤ m → P) → P
by_lt m n less more =
    elim (cases_order m n) [
      | inl e ↦ more (omega arith)
      | inr (inl lt) ↦ less lt
      | inr (inr gt) ↦ more (omega arith)
    ]

test_below : (k m : ℕ) → m < k → nat_le k m ≡ false
test_below k m h = grind (arith, nat_tests)

test_from : (k m : ℕ) → k ≤ m → nat_le k m ≡ true
test_from k m h = grind (arith, nat_tests)

pow_grows : (j k : ℕ) → j ≤ k → 2 ^ j ≤ 2 ^ k
pow_grows j k h = elim (cases_order j k) [
  | inl e ↦ rw e (omega arith)
  | inr (inl lt) ↦ omega (arith, pow_below j k lt)
  | inr (inr gt) ↦ absurd (omega arith)
]

-- ---- set bits

-- a bit above the mask isn't set
set_bits_from-low : (place w mask : ℕ) → mask < 2 ^ w → set_bits_from place (suc w) mask ≡ set_bits_from (suc place) w mask
unfolding set_bits_from
set_bits_from-low place w mask h = rw (test_below (2 ^ w) mask h) refl

set_bits_from-top : (place w mask : ℕ) → 2 ^ w ≤ mask → set_bits_from place (suc w) mask ≡ place ∷ set_bits_from (suc place) w (mask - 2 ^ w)
unfolding set_bits_from
set_bits_from-top place w mask h = rw (test_from (2 ^ w) mask h) refl

set_bits_from-above : (k place w mask : ℕ) → mask < 2 ^ w → set_bits_from place (k + w) mask ≡ set_bits_from (place + k) w mask
set_bits_from-above zero place w mask h =
    let e : 0 + w ≡ w = omega arith in
    let f : place + 0 ≡ place = omega arith in
    rw (e, f) refl
set_bits_from-above (suc k) place w mask h =
    let e : suc k + w ≡ suc (k + w) = omega arith in
    let f : suc place + k ≡ place + suc k = omega arith in
    rw e (set_bits_from-low place (k + w) mask (omega (arith, pow_grows w (k + w) (omega arith)))
    ∙ (set_bits_from-above k (suc place) w mask h ∙ ap (λ (p : ℕ). set_bits_from p w mask) f))

pub set_bits-none : (w : ℕ) → set_bits w 0 ≡ []
unfolding set_bits_from
set_bits-none w =
    let e : w + 0 ≡ w = omega arith in
    (sym (ap (λ (v : ℕ). set_bits_from 1 v 0) e)) ∙ set_bits_from-above w 1 0 0 (omega arith)

-- the top bit j of a mask has place w - j; the other places are the places of the rest
pub set_bits-step : (w j mask : ℕ) → j < w → 2 ^ j ≤ mask → mask < 2 ^ suc j → set_bits w mask ≡ (w - j) ∷ set_bits w (mask - 2 ^ j)
set_bits-step w j mask inside from below =
    let e : (w - suc j) + suc j ≡ w = omega arith in
    let f : (w - j) + j ≡ w = omega arith in
    let p : 1 + (w - suc j) ≡ w - j = omega arith in
    let q : 1 + (w - j) ≡ suc (w - j) = omega arith in
    let left : set_bits w mask ≡ (w - j) ∷ set_bits_from (suc (w - j)) j (mask - 2 ^ j) =
    sym (ap (λ (v : ℕ). set_bits_from 1 v mask) e)
    ∙ (set_bits_from-above (w - suc j) 1 (suc j) mask below
    ∙ (ap (λ (v : ℕ). set_bits_from v (suc j) mask) p ∙ set_bits_from-top (w - j) j mask from)) in
    let right : set_bits w (mask - 2 ^ j) ≡ set_bits_from (suc (w - j)) j (mask - 2 ^ j) =
    sym (ap (λ (v : ℕ). set_bits_from 1 v (mask - 2 ^ j)) f)
    ∙ (set_bits_from-above (w - j) 1 j (mask - 2 ^ j) (omega (arith, pow-suc 2 j)) ∙ ap (λ (v : ℕ). set_bits_from v j (mask - 2 ^ j)) q) in
    rw right left

wider : (place w : ℕ) (ps : List ℕ) → AllByRecursion (λ p. (suc place ≤ p) × (p < suc place + w)) ps → AllByRecursion (λ p. (place ≤ p) × (p < place + suc w)) ps
wider place w [] a = tt
wider place w (p ∷ ps) a = ((omega arith, omega arith), wider place w ps a.1)

-- the top bit of a mask of w bits by its leading zeros
pub top-bit : (w mask clear top : ℕ) → mask ≢ 0 → mask < 2 ^ w → w ≤ 64 → clear ≡ count_leading_zeros 64 mask → top ≡ 63 - clear
    → (top < w) × (2 ^ top ≤ mask) × (mask < 2 ^ suc top)
top-bit w mask clear top some fits few z t =
    let j = leading_top 64 mask (omega arith) (omega (arith, pow_grows w 64 few)) in
    let e : j.0 ≡ top = omega (arith, j.1) in
    let from : 2 ^ top ≤ mask = subst (λ (v : ℕ). 2 ^ v ≤ mask) e j.2 in
    let below : mask < 2 ^ suc top = subst (λ (v : ℕ). mask < 2 ^ suc v) e j.3 in
    (by_lt top w (λ lt. lt) (λ ge. absurd (omega (arith, pow_grows w top ge))), from, below)

-- places lie between the first and the last
bounds_if : (b : Bool) (place w : ℕ) (more rest : List ℕ) → AllByRecursion (λ p. (suc place ≤ p) × (p < suc place + w)) more → AllByRecursion (λ p. (suc place ≤ p) × (p < suc place + w)) rest
    → AllByRecursion (λ p. (place ≤ p) × (p < place + suc w)) (cond b (place ∷ more) rest)
bounds_if true place w more rest a b = ((omega arith, omega arith), wider place w more a)
bounds_if false place w more rest a b = wider place w rest b

pub set_bits_from-bounds : (place w mask : ℕ) → AllByRecursion (λ p. (place ≤ p) × (p < place + w)) (set_bits_from place w mask)
unfolding set_bits_from
set_bits_from-bounds place zero mask = tt
set_bits_from-bounds place (suc w) mask =
    bounds_if (nat_le (2 ^ w) mask) place w (set_bits_from (suc place) w (mask - 2 ^ w)) (set_bits_from (suc place) w mask)
    (set_bits_from-bounds (suc place) w (mask - 2 ^ w)) (set_bits_from-bounds (suc place) w mask)

-- if the three low bits are clear, the places stop three before the last
eight : (w : ℕ) → 2 ^ (w + 3) ≡ 8 * 2 ^ w
eight w =
    let e : w + 3 ≡ suc (suc (suc w)) = omega arith in
    rw e (omega (arith, pow-suc 2 w, pow-suc 2 (suc w), pow-suc 2 (suc (suc w))))

pub set_bits_from-early : (w place m : ℕ) → m < 2 ^ w → AllByRecursion (λ p. p < place + w) (set_bits_from place (w + 3) (8 * m))
unfolding set_bits_from
set_bits_from-early zero place m h =
    let e : m ≡ 0 = omega (arith, h) in
    rw e tt
set_bits_from-early (suc w) place m h =
    let n : suc w + 3 ≡ suc (w + 3) = omega arith in
    let e : suc place + w ≡ place + suc w = omega arith in
    let early : (k : ℕ) → k < 2 ^ w → AllByRecursion (λ p. p < place + suc w) (set_bits_from (suc place) (w + 3) (8 * k)) =
    λ k l. subst (λ (t : ℕ). AllByRecursion (λ p. p < t) (set_bits_from (suc place) (w + 3) (8 * k))) e (set_bits_from-early w (suc place) k l) in
    rw n (by_lt m (2 ^ w)
    (λ lt. rw (set_bits_from-low place (w + 3) (8 * m) (omega (arith, eight w, lt))) (early m lt))
    (λ ge.
    let less : 8 * m - 2 ^ (w + 3) ≡ 8 * (m - 2 ^ w) = omega (arith, eight w) in
    rw (set_bits_from-top place (w + 3) (8 * m) (omega (arith, eight w, ge)), less) (omega arith, early (m - 2 ^ w) (omega (arith, ge, h, pow-suc 2 w)))))

-- there are at most as many as bits
length_if : (b : Bool) (place w : ℕ) (more rest : List ℕ) → length more ≤ w → length rest ≤ w → length (cond b (place ∷ more) rest) ≤ suc w
length_if true place w more rest h k = omega arith
length_if false place w more rest h k = omega arith

pub set_bits_from-length : (place w mask : ℕ) → length (set_bits_from place w mask) ≤ w
unfolding set_bits_from
set_bits_from-length place zero mask = omega arith
set_bits_from-length place (suc w) mask =
    length_if (nat_le (2 ^ w) mask) place w (set_bits_from (suc place) w (mask - 2 ^ w)) (set_bits_from (suc place) w mask)
    (set_bits_from-length (suc place) w (mask - 2 ^ w)) (set_bits_from-length (suc place) w mask)

-- and exactly as many as are set
one_one : ones 1 ≡ 1
unfolding ones ones_in
one_one = refl

ones-top : (w mask : ℕ) → 2 ^ w ≤ mask → mask < 2 ^ suc w → ones mask ≡ suc (ones (mask - 2 ^ w))
ones-top w mask from below =
    let e : 1 * 2 ^ w + (mask - 2 ^ w) ≡ mask = omega arith in
    let h = ones_cat w 1 (mask - 2 ^ w) (omega (arith, pow-suc 2 w)) in
    sym (ap ones e) ∙ (h ∙ omega (arith, one_one))

pub count-set_bits_from : (place w mask : ℕ) → mask < 2 ^ w → length (set_bits_from place w mask) ≡ ones mask
unfolding set_bits_from ones ones_in
count-set_bits_from place zero mask h = let e : mask ≡ 0 = omega arith in rw e refl
count-set_bits_from place (suc w) mask h =
    by_lt mask (2 ^ w)
    (λ lt. ap length (set_bits_from-low place w mask lt) ∙ count-set_bits_from (suc place) w mask lt)
    (λ ge. ap length (set_bits_from-top place w mask ge)
    ∙ (ap (λ (n : ℕ). suc n) (count-set_bits_from (suc place) w (mask - 2 ^ w) (omega (arith, pow-suc 2 w))) ∙ sym (ones-top w mask ge h)))

pub bit_within : (w rest top : ℕ) → rest < 2 ^ w → 2 ^ top ≤ rest → rest < 2 ^ (top + 1) → (top < w) × (2 ^ top ≤ rest) × (rest < 2 ^ suc top)
bit_within w rest top fits from below =
    let e : top + 1 ≡ suc top = omega arith in
    (by_lt top w (λ lt. lt) (λ ge. absurd (omega (arith, pow_grows w top ge))), from, rw e at below)

-- ---- the loop over the set bits, the top one first

pub next-place : (places new : List ℕ) (w mask rest top left : ℕ) → (top < w) × (2 ^ top ≤ rest) × (rest < 2 ^ suc top)
    → places ++ set_bits w rest ≡ set_bits w mask → new ≡ places ++ (w - top) ∷ [] → left ≡ rest - 2 ^ top
    → new ++ set_bits w left ≡ set_bits w mask
next-place places new w mask rest top left bit so_far added less =
    rw (added, less)
    (append_assoc places ((w - top) ∷ []) (set_bits w (rest - 2 ^ top))
    ∙ (ap (λ (ps : List ℕ). places ++ ps) (sym (set_bits-step w top rest bit.0 bit.1 bit.2)) ∙ so_far))

pub room_for_place : (places : List ℕ) (w mask rest top : ℕ) → (top < w) × (2 ^ top ≤ rest) × (rest < 2 ^ suc top)
    → places ++ set_bits w rest ≡ set_bits w mask → length places < w
room_for_place places w mask rest top bit so_far =
    omega (arith, length-append places (set_bits w rest), ap length so_far, ap length (set_bits-step w top rest bit.0 bit.1 bit.2), set_bits_from-length 1 w mask)

pub all_places : (places : List ℕ) (w mask rest : ℕ) → rest ≡ 0 → places ++ set_bits w rest ≡ set_bits w mask → places ≡ set_bits w mask
all_places places w mask rest none so_far =
    sym (append-nil places) ∙ (ap (λ (ps : List ℕ). places ++ ps) (sym (ap (λ (r : ℕ). set_bits w r) none ∙ set_bits-none w)) ∙ so_far)

to_width : (w : ℕ) (ps : List ℕ) → AllByRecursion (λ p. (1 ≤ p) × (p < 1 + w)) ps → AllByRecursion (λ p. (1 ≤ p) × (p ≤ w)) ps
to_width w [] a = tt
to_width w (p ∷ ps) a = ((omega arith, omega arith), to_width w ps a.1)

pub bounds_of_places : (places : List ℕ) (w mask : ℕ) → places ≡ set_bits w mask → All (λ p. (1 ≤ p) × (p ≤ w)) places
bounds_of_places places w mask e =
    rw e (All-from_recursion (λ (p : ℕ). (1 ≤ p) × (p ≤ w)) (set_bits w mask) (to_width w (set_bits w mask) (set_bits_from-bounds 1 w mask)))

-- ---- joined lists

module _ {X Y : Type 0} (f : ℕ → X → List Y) where
  pub join_from-snoc : (k : ℕ) (xs : List X) (x : X) → join_from f k (xs ++ x ∷ []) ≡ join_from f k xs ++ f (k + length xs) x
  unfolding join_from
  join_from-snoc k [] x = let e : k + 0 ≡ k = omega arith in rw e (append-nil (f k x))
  join_from-snoc k (y ∷ xs) x =
      let e : suc k + length xs ≡ k + suc (length xs) = omega arith in
      rw (join_from-snoc (suc k) xs x, e) (sym (append_assoc (f k y) (join_from f (suc k) xs) (f (k + suc (length xs)) x)))

  pub join_from-append : (k : ℕ) (xs ys : List X) → join_from f k (xs ++ ys) ≡ join_from f k xs ++ join_from f (k + length xs) ys
  unfolding join_from
  join_from-append k [] ys = let e : k + 0 ≡ k = omega arith in rw e refl
  join_from-append k (x ∷ xs) ys =
      let e : suc k + length xs ≡ k + suc (length xs) = omega arith in
      rw (join_from-append (suc k) xs ys, e) (sym (append_assoc (f k x) (join_from f (suc k) xs) (join_from f (k + suc (length xs)) ys)))

  pub join_from-first : (k : ℕ) (x : X) (xs : List X) → join_from f k (x ∷ xs) ≡ f k x ++ join_from f (k + 1) xs
  unfolding join_from
  join_from-first k x xs = let e : suc k ≡ k + 1 = omega arith in rw (← e) refl

  pub join_from-empty : (k : ℕ) → join_from f k [] ≡ []
  unfolding join_from
  join_from-empty k = refl

  -- the first i and the next one have room if all have it
  pub join_from-room : (k : ℕ) (xs : List X) (i : ℕ) (d : X) → i < length xs → length (join_from f k (take i xs)) + length (f (k + i) (get_or xs i d)) ≤ length (join_from f k xs)
  unfolding join_from
  join_from-room k [] i d h = absurd (omega arith)
  join_from-room k (x ∷ xs) zero d h = let e : k + 0 ≡ k = omega arith in rw e (omega (arith, length-append (f k x) (join_from f (suc k) xs)))
  join_from-room k (x ∷ xs) (suc i) d h =
      let e : suc k + i ≡ k + suc i = omega arith in
      omega (
        arith,
        length-append (f k x) (join_from f (suc k) (take i xs)),
        length-append (f k x) (join_from f (suc k) xs),
        rw e at (join_from-room (suc k) xs i d (omega arith)),
      )

  pub length-join_from : (g : X → ℕ) (P : X → Type 0) → ((k : ℕ) (x : X) → P x → length (f k x) ≡ g x) → (k : ℕ) (xs : List X) → AllByRecursion P xs → length (join_from f k xs) ≡ sum_by g xs
  unfolding join_from
  length-join_from g P each k [] a = refl
  length-join_from g P each k (x ∷ xs) a = rw (length-append (f k x) (join_from f (suc k) xs), each k x a.0, length-join_from g P each (suc k) xs a.1) (sym (sum_by-cons g x xs))

  pub join_from-length : (n : ℕ) → ((k : ℕ) (x : X) → length (f k x) ≤ n) → (k : ℕ) (xs : List X) → length (join_from f k xs) ≤ length xs * n
  unfolding join_from
  join_from-length n each k [] = omega arith
  join_from-length n each k (x ∷ xs) = omega (arith, length-append (f k x) (join_from f (suc k) xs), each k x, join_from-length n each (suc k) xs)

  all_joined : (P : Y → Type 0) (xs ys : List Y) → AllByRecursion P xs → AllByRecursion P ys → AllByRecursion P (xs ++ ys)
  all_joined P [] ys a b = b
  all_joined P (x ∷ xs) ys a b = (a.0, all_joined P xs ys a.1 b)

  -- a fact of each place from k to n
  pub all-join_from : (P : Y → Type 0) (k n : ℕ) (xs : List X) → k + length xs ≤ n → ((j : ℕ) (x : X) → j < n → AllByRecursion P (f j x)) → AllByRecursion P (join_from f k xs)
  unfolding join_from
  all-join_from P k n [] h each = tt
  all-join_from P k n (x ∷ xs) h each = all_joined P (f k x) (join_from f (suc k) xs) (each k x (omega arith)) (all-join_from P (suc k) n xs (omega arith) each)

  -- one element more, as a loop over them adds it
  pub join_from-more : (xs : List X) (i : ℕ) (d : X) (found new : List Y) → i < length xs → found ≡ join_from f 0 (take i xs) → new ≡ found ++ f i (get_or xs i d)
      → new ≡ join_from f 0 (take (i + 1) xs)
  join_from-more xs i d found new h so_far added =
      let n : 0 + length (take i xs) ≡ i = omega (arith, length-take-le i xs (omega arith)) in
      let next = join_from-snoc 0 (take i xs) (get_or xs i d) in
      added ∙ (ap (λ (ys : List Y). ys ++ f i (get_or xs i d)) so_far
      ∙ (sym (next ∙ ap (λ (k : ℕ). join_from f 0 (take i xs) ++ f k (get_or xs i d)) n) ∙ ap (λ (zs : List X). join_from f 0 zs) (sym (take_more xs i d h))))

  -- and after those that stood
  pub join_from-next : (k : ℕ) (xs : List X) (i : ℕ) (d : X) (stood found new : List Y) → i < length xs → found ≡ stood ++ join_from f k (take i xs)
      → new ≡ found ++ f (k + i) (get_or xs i d) → new ≡ stood ++ join_from f k (take (i + 1) xs)
  join_from-next k xs i d stood found new h so_far added =
      let n : k + length (take i xs) ≡ k + i = omega (arith, length-take-le i xs (omega arith)) in
      let one : join_from f k (take (i + 1) xs) ≡ join_from f k (take i xs) ++ f (k + i) (get_or xs i d) =
      ap (λ (zs : List X). join_from f k zs) (take_more xs i d h) ∙ (join_from-snoc k (take i xs) (get_or xs i d) ∙ ap (λ (j : ℕ). join_from f k (take i xs) ++ f j (get_or xs i d)) n) in
      added ∙ (ap (λ (ys : List Y). ys ++ f (k + i) (get_or xs i d)) so_far
      ∙ (append_assoc stood (join_from f k (take i xs)) (f (k + i) (get_or xs i d)) ∙ ap (λ (ys : List Y). stood ++ ys) (sym one)))
