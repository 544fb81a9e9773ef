-- Lists of parts, one for each number, and lists whose items change one after another.
use Rattle.std.proofs.Common.{◌≡◌, ◌≢◌, ◌<◌, ◌≤◌, ◌+◌, ℕ, zero, suc, Bool, true, false, cond, ltb, ◌||◌, count_by, List, [], ◌∷◌, ◌++◌, length, take, drop, set, get_or, map, inl, inr, refl, sym, ap, ◌∙◌, append_assoc, get_or-set_same, get_or-set_other, arith}
use Rattle.std.proofs.lemmas.List.Folds.{list_any-append}
use Rattle.std.proofs.lemmas.List.Sums.{sum_by_push, sum_by-cons, count_by-le-length, fold_more}
use Rattle.std.proofs.lemmas.Bool.{cases_eq, cases_lt, lt-ltb, le-ltb}
use Rattle.std.proofs.lemmas.List.{append-nil, length-set, take_more, drop_more, map_push}
use Rattle.std.proofs.lemmas.List.FromFn.{fill_by_all, length-range_with_len, get_or-map-range_with_len, length-map-range_with_len}
use Rattle.std.proofs.lemmas.Grind.{flat_map-append}
use Rattle.std.specs.Prelude.{flat_map}
use Rattle.std.specs.List.{fold, range_with_len, list_any, sum_by}
use Rattle.rtk_chart.specs.TextPicture.{never_lines, all_never_lines}
use Rattle.rtk_chart.specs.declared.groups.Names.{Names}
use Rattle.rtk_chart.specs.declared.time_bin.TimeBin.{TimeBin}

or-true : (b : Bool) → (b || true) ≡ true
or-true true = refl
or-true false = refl

-- ---- values that are made one after another

-- the value of one item more
pub fold-taken : {X Y : Type 0} (f : Y → X → Y) (start so_far next : Y) (xs : List X) (k : ℕ) (d : X) → k < length xs → so_far ≡ fold f start (take k xs) → next ≡ f so_far (get_or xs k d)
    → next ≡ fold f start (take (k + 1) xs)
fold-taken {X} {Y} f start so_far next xs k d within before more = more ∙ ap (λ (y : Y). f y (get_or xs k d)) before ∙ sym (fold_more f start xs k d within)

-- ---- parts of a text

range-suc : (a n : ℕ) → range_with_len a (suc n) ≡ range_with_len a n ++ (a + n) ∷ []
range-suc a zero =
    let e : a ≡ a + 0 = omega arith in
    ap (λ k. k ∷ []) e
range-suc a (suc n) =
    let e : (a + 1) + n ≡ a + suc n = omega arith in
    ap (λ t. a ∷ t) (range-suc (a + 1) n ∙ ap (λ k. range_with_len (a + 1) n ++ k ∷ []) e)

pub range-more : (a n : ℕ) → range_with_len a (n + 1) ≡ range_with_len a n ++ (a + n) ∷ []
range-more a n =
    let e : n + 1 ≡ suc n = omega arith in
    ap (λ m. range_with_len a m) e ∙ range-suc a n

-- the part of one number more
pub put-more : (f : ℕ → List ℕ) (a n k : ℕ) (before mid after : List ℕ) → k ≡ a + n → mid ≡ before ++ flat_map f (range_with_len a n) → after ≡ mid ++ f k
    → after ≡ before ++ flat_map f (range_with_len a (n + 1))
put-more f a n k before mid after at so_far more =
    let parts = flat_map f (range_with_len a n) in
    let longer : flat_map f (range_with_len a (n + 1)) ≡ parts ++ f k =
    ap (λ t. flat_map f t) (range-more a n) ∙ flat_map-append f (range_with_len a n) ((a + n) ∷ [])
    ∙ ap (λ t. parts ++ t) (append-nil (f (a + n))) ∙ ap (λ t. parts ++ f t) (sym at) in
    more ∙ ap (λ t. t ++ f k) so_far ∙ append_assoc before parts (f k) ∙ ap (λ t. before ++ t) (sym longer)

-- a character for one number more
pub push-more : (f : ℕ → ℕ) (n : ℕ) (before mid after : List ℕ) → mid ≡ before ++ map f (range_with_len 0 n) → after ≡ mid ++ f n ∷ []
    → after ≡ before ++ map f (range_with_len 0 (n + 1))
push-more f n before mid after so_far more =
    let parts = map f (range_with_len 0 n) in
    let here : 0 + n ≡ n = omega arith in
    let longer : map f (range_with_len 0 (n + 1)) ≡ parts ++ f n ∷ [] =
    ap (λ t. map f t) (range-more 0 n) ∙ map_push f (range_with_len 0 n) (0 + n) ∙ ap (λ k. parts ++ f k ∷ []) here in
    more ∙ ap (λ t. t ++ f n ∷ []) so_far ∙ append_assoc before parts (f n ∷ []) ∙ ap (λ t. before ++ t) (sym longer)

-- a character for one item more
pub push-item : {X : Type 0} (f : X → ℕ) (xs : List X) (i : ℕ) (x : X) (before mid after : List ℕ) → i < length xs → x ≡ get_or xs i x
    → mid ≡ before ++ map f (take i xs) → after ≡ mid ++ f x ∷ []
    → after ≡ before ++ map f (take (i + 1) xs)
push-item f xs i x before mid after within is so_far more =
    let parts = map f (take i xs) in
    let longer : map f (take (i + 1) xs) ≡ parts ++ f x ∷ [] =
    ap (λ t. map f t) (take_more xs i x within) ∙ map_push f (take i xs) (get_or xs i x) ∙ ap (λ y. parts ++ f y ∷ []) (sym is) in
    more ∙ ap (λ t. t ++ f x ∷ []) so_far ∙ append_assoc before parts (f x ∷ []) ∙ ap (λ t. before ++ t) (sym longer)

-- a text, and then another one
pub and-then : (l0 l1 l2 a b : List ℕ) → l1 ≡ l0 ++ a → l2 ≡ l1 ++ b → l2 ≡ l0 ++ (a ++ b)
and-then l0 l1 l2 a b first second = second ∙ ap (λ t. t ++ b) first ∙ append_assoc l0 a b

-- ---- lists whose items are those of a function of the place

-- the items are the new ones up to a place, and the old ones from there on
abbrev pub up_to : {X : Type 0} → ℕ → (ℕ → X) → (ℕ → X) → ℕ → X
up_to n new old k = cond (ltb k n) (new k) (old k)

pub up_to-none : {X : Type 0} (new old : ℕ → X) (xs : List X) (n : ℕ) (d : X) → xs ≡ map old (range_with_len 0 n) → xs ≡ map (up_to 0 new old) (range_with_len 0 n)
up_to-none new old xs n d are =
    fill_by_all (up_to 0 new old) xs n d (ap (λ ys. length ys) are ∙ length-map-range_with_len old 0 n) (λ k lt.
    let here : 0 + k ≡ k = omega arith in
    let above : 0 ≤ k = omega arith in
    ap (λ ys. get_or ys k d) are ∙ get_or-map-range_with_len old 0 n k k d lt here ∙ sym (ap (λ b. cond b (new k) (old k)) (le-ltb k 0 above)))

pub up_to-all : {X : Type 0} (new old : ℕ → X) (xs : List X) (n : ℕ) (d : X) → xs ≡ map (up_to n new old) (range_with_len 0 n) → xs ≡ map new (range_with_len 0 n)
up_to-all new old xs n d are =
    fill_by_all new xs n d (ap (λ ys. length ys) are ∙ length-map-range_with_len (up_to n new old) 0 n) (λ k lt.
    let here : 0 + k ≡ k = omega arith in
    ap (λ ys. get_or ys k d) are ∙ get_or-map-range_with_len (up_to n new old) 0 n k k d lt here ∙ ap (λ b. cond b (new k) (old k)) (lt-ltb k n lt))

-- the item at the place is still the old one
pub up_to-here : {X : Type 0} (new old : ℕ → X) (xs : List X) (n i j : ℕ) (d : X) → j ≡ i → i < n → xs ≡ map (up_to i new old) (range_with_len 0 n) → get_or xs j d ≡ old i
up_to-here new old xs n i j d at within are =
    let here : 0 + i ≡ i = omega arith in
    let same : i ≤ i = omega arith in
    ap (λ k. get_or xs k d) at ∙ ap (λ ys. get_or ys i d) are ∙ get_or-map-range_with_len (up_to i new old) 0 n i i d within here ∙ ap (λ b. cond b (new i) (old i)) (le-ltb i i same)

-- an item of a list becomes that of another function, which agrees on the others
pub set-map : {X : Type 0} (f g : ℕ → X) (xs : List X) (n i : ℕ) (y d : X) → xs ≡ map f (range_with_len 0 n) → i < n → y ≡ g i
    → ((k : ℕ) → k < n → k ≢ i → f k ≡ g k) → set xs i y ≡ map g (range_with_len 0 n)
set-map f g xs n i y d are within new others =
    let size : length xs ≡ n = ap (λ ys. length ys) are ∙ length-map-range_with_len f 0 n in
    let inside : i < length xs = omega arith in
    fill_by_all g (set xs i y) n d (length-set xs i y ∙ size) (λ k lt.
    let here : 0 + k ≡ k = omega arith in
    elim (cases_eq k i) [
      | inl same ↦ ap (λ j. get_or (set xs i y) j d) same ∙ get_or-set_same xs i y d inside ∙ new ∙ ap g (sym same)
      | inr other ↦
          get_or-set_other xs i k y d other ∙ ap (λ ys. get_or ys k d) are ∙ get_or-map-range_with_len f 0 n k k d lt here ∙ others k lt other
    ])

up_to-other : {X : Type 0} (new old : ℕ → X) (i k : ℕ) → k ≢ i → up_to i new old k ≡ up_to (i + 1) new old k
up_to-other new old i k other =
    elim (cases_lt k i) [
      | inl below ↦
          let next : k < i + 1 = omega arith in
          ap (λ b. cond b (new k) (old k)) (lt-ltb k i below ∙ sym (lt-ltb k (i + 1) next))
      | inr above ↦
          let next : i + 1 ≤ k = omega arith in
          ap (λ b. cond b (new k) (old k)) (le-ltb k i above ∙ sym (le-ltb k (i + 1) next))
    ]

-- the item at the place becomes the new one
pub up_to-more : {X : Type 0} (new old : ℕ → X) (xs : List X) (n i j : ℕ) (y d : X) → j ≡ i → i < n → xs ≡ map (up_to i new old) (range_with_len 0 n) → y ≡ new i
    → set xs j y ≡ map (up_to (i + 1) new old) (range_with_len 0 n)
up_to-more new old xs n i j y d at within are is =
    let next : i < i + 1 = omega arith in
    ap (λ k. set xs k y) at
    ∙ set-map (up_to i new old) (up_to (i + 1) new old) xs n i y d are within
    (is ∙ sym (ap (λ b. cond b (new i) (old i)) (lt-ltb i (i + 1) next)))
    (λ k lt other. up_to-other new old i k other)

-- ---- tests of numbers

pub any-in-range : (p : ℕ → Bool) (a n k : ℕ) → a ≤ k → k < a + n → p k ≡ true → list_any p (range_with_len a n) ≡ true
any-in-range p a zero k from to here = absurd (omega arith)
any-in-range p a (suc n) k from to here =
    elim (cases_eq a k) [
      | inl same ↦ ap (λ b. b || list_any p (range_with_len (a + 1) n)) (ap p same ∙ here)
      | inr other ↦
          let next : a + 1 ≤ k = omega arith in
          let inside : k < (a + 1) + n = omega arith in
          ap (λ b. p a || b) (any-in-range p (a + 1) n k next inside here) ∙ or-true (p a)
    ]

pub none-more : (p : ℕ → Bool) (a n k : ℕ) → k ≡ a + n → list_any p (range_with_len a n) ≡ false → p k ≡ false → list_any p (range_with_len a (n + 1)) ≡ false
none-more p a n k at none here =
    ap (λ t. list_any p t) (range-more a n) ∙ list_any-append p (range_with_len a n) ((a + n) ∷ []) ∙ ap (λ b. b || (p (a + n) || false)) none
    ∙ ap (λ j. p j || false) (sym at) ∙ ap (λ b. b || false) here

pub count-more : (p : ℕ → Bool) (n : ℕ) → count_by p (range_with_len 0 (n + 1)) ≡ count_by p (range_with_len 0 n) + cond (p n) 1 0
count-more p n =
    let here : 0 + n ≡ n = omega arith in
    ap (λ t. count_by p t) (range-more 0 n) ∙ sum_by_push (λ x. cond (p x) 1 0) (range_with_len 0 n) (0 + n) ∙ ap (λ k. count_by p (range_with_len 0 n) + cond (p k) 1 0) here

pub sum-more : (f : ℕ → ℕ) (n : ℕ) → sum_by f (range_with_len 0 (n + 1)) ≡ sum_by f (range_with_len 0 n) + f n
sum-more f n =
    let here : 0 + n ≡ n = omega arith in
    ap (λ t. sum_by f t) (range-more 0 n) ∙ sum_by_push f (range_with_len 0 n) (0 + n) ∙ ap (λ k. sum_by f (range_with_len 0 n) + f k) here

pub count-bound : (p : ℕ → Bool) (n : ℕ) → count_by p (range_with_len 0 n) ≤ n
count-bound p n =
    let most = count_by-le-length p (range_with_len 0 n) in
    let size = length-range_with_len 0 n in
    omega (arith, most, size)

-- ---- items

-- an item is the same at each default
pub get_or-same : {X : Type 0} (xs : List X) (i : ℕ) (d e : X) → i < length xs → get_or xs i d ≡ get_or xs i e
get_or-same [] i d e within = absurd (omega arith)
get_or-same (x ∷ xs) zero d e within = refl
get_or-same (x ∷ xs) (suc i) d e within =
    let inside : i < length xs = omega (arith, within) in
    get_or-same xs i d e inside

-- a list that is filled item by item
pub fill-more : {X : Type 0} (f : ℕ → X) (xs : List X) (i j : ℕ) (y d : X) → j ≡ i → i < length xs → y ≡ f i
    → ((k : ℕ) → k < i → get_or xs k d ≡ f k) → (k : ℕ) → k < i + 1 → get_or (set xs j y) k d ≡ f k
fill-more f xs i j y d at within is so_far k below =
    ap (λ n. get_or (set xs n y) k d) at
    ∙ elim (cases_eq k i) as (λ _. get_or (set xs i y) k d ≡ f k) [
      | inl same ↦ ap (λ n. get_or (set xs i y) n d) same ∙ get_or-set_same xs i y d within ∙ is ∙ sym (ap f same)
      | inr other ↦ get_or-set_other xs i k y d other ∙ so_far k (omega (arith, below, other))
    ]

pub ltb-other : (i k : ℕ) → k ≢ i → ltb k i ≡ ltb k (i + 1)
ltb-other i k other =
    elim (cases_lt k i) [
      | inl below ↦
          let next : k < i + 1 = omega (arith, below) in
          lt-ltb k i below ∙ sym (lt-ltb k (i + 1) next)
      | inr above ↦
          let next : i + 1 ≤ k = omega (arith, above, other) in
          le-ltb k i above ∙ sym (le-ltb k (i + 1) next)
    ]

-- ---- functions that agree

pub map-same : {X : Type 0} (f g : ℕ → X) (a n : ℕ) → ((k : ℕ) → k < a + n → f k ≡ g k) → map f (range_with_len a n) ≡ map g (range_with_len a n)
map-same f g a zero same = refl
map-same f g a (suc n) same =
    let here : a < a + suc n = omega arith in
    let on : (a + 1) + n ≡ a + suc n = omega arith in
    ap (λ x. x ∷ map f (range_with_len (a + 1) n)) (same a here)
    ∙ ap (λ xs. g a ∷ xs) (map-same f g (a + 1) n (λ k lt. same k (omega (arith, lt, on))))

pub sum-map : {X : Type 0} (g : X → ℕ) (f : ℕ → X) (ks : List ℕ) → sum_by g (map f ks) ≡ sum_by (λ k. g (f k)) ks
sum-map g f [] = refl
sum-map g f (k ∷ ks) =
    sum_by-cons g (f k) (map f ks) ∙ ap (λ (n : ℕ). g (f k) + n) (sum-map g f ks) ∙ sym (sum_by-cons (λ (k : ℕ). g (f k)) k ks)

pub sum-same : (p q : ℕ → ℕ) (ks : List ℕ) → ((k : ℕ) → p k ≡ q k) → sum_by p ks ≡ sum_by q ks
sum-same p q [] same = refl
sum-same p q (k ∷ ks) same =
    sum_by-cons p k ks ∙ ap (λ (n : ℕ). n + sum_by p ks) (same k) ∙ ap (λ (n : ℕ). q k + n) (sum-same p q ks same) ∙ sym (sum_by-cons q k ks)

-- two sums are that of the sums
pub sum-both : {X : Type 0} (p q r : X → ℕ) (xs : List X) → ((x : X) → p x + q x ≡ r x) → sum_by p xs + sum_by q xs ≡ sum_by r xs
sum-both p q r [] all = refl
sum-both p q r (x ∷ xs) all =
    let a = sum_by-cons p x xs in
    let b = sum_by-cons q x xs in
    let c = sum_by-cons r x xs in
    let here = all x in
    let rest = sum-both p q r xs all in
    omega (arith, a, b, c, here, rest)

-- ---- codes that satellites have nowhere

-- the lines of one code more
pub never-more : {C : Type 0} (title : C → List ℕ) (names : Names) (bins : List TimeBin) (each i : ℕ) (codes : List C) (d : C) (all mid after : List ℕ) → i < length codes
    → all ≡ mid ++ all_never_lines title names bins each i (drop i codes) → after ≡ mid ++ never_lines names bins each i (title (get_or codes i d))
    → all ≡ after ++ all_never_lines title names bins each (i + 1) (drop (i + 1) codes)
never-more {C} title names bins each i codes d all mid after within so_far more =
    let c = get_or codes i d in
    let rest = drop (i + 1) codes in
    so_far ∙ ap (λ (cs : List C). mid ++ all_never_lines title names bins each i cs) (drop_more codes i d within)
    ∙ sym (append_assoc mid (never_lines names bins each i (title c)) (all_never_lines title names bins each (i + 1) rest))
    ∙ ap (λ (t : List ℕ). t ++ all_never_lines title names bins each (i + 1) rest) (sym more)
