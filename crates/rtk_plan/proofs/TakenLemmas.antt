-- Each capture of the station is taken once.
use Rattle.std.proofs.Common.{◌≡◌, ◌≢◌, ◌<◌, ◌≤◌, ◌+◌, ◌==◌, ℕ, zero, suc, Bool, true, false, cond, List, [], ◌∷◌, ◌++◌, length, map, Option, None, Some, inl, inr, refl, sym, ap, ◌∙◌, append_assoc, append-nil, eq-eqb, ne_eqb, arith}
use Rattle.std.specs.Prelude.{slice_get, slice_set, filter, flat_map, nat_lt, nat_le, not, if◌then◌else◌}
use Rattle.std.specs.List.{range_with_len, sum_by, AllByRecursion}
use Rattle.std.specs.Option.{option_map_or}
use Rattle.std.proofs.lemmas.Bool.{cases_eq}
use Rattle.std.proofs.lemmas.List.{length-set, length-append, length-map}
use Rattle.std.proofs.lemmas.List.Sums.{sum_by-cons, sum_by-append}
use Rattle.rtk_captures.specs.Joining.{given_at, comes_before, put_in_order, in_order_after, in_order, link_place, ends_with, links_after, links_of}
use Rattle.rtk_captures.specs.Kept.{is_heard, is_heard_at, places_from, kept_captures, empty_captures}
use Rattle.rtk_plan.specs.LeftOut.{left_out_lines}
use Rattle.rtk_plan.specs.KnownLines.{leaves_long, skipped_line, skipped_lines, epochs_lines, not_taken, lines_behind_late, late_count_line, known_lines}
use Rattle.rtk_survey.specs.Surveys.{places_of}
use Rattle.rtk_captures.specs.Linking.{kept_in_order, captures_of_link, is_nonempty, joined_links, links_found, one_place, links_as_given}
use Rattle.rtk_plan.specs.LinkPlaces.{places_among_links, AreLinksOf}
use Rattle.rtk_plan.specs.ClockDating.{midway, clock_dating}
use Rattle.rtk_plan.specs.declared.clock_dating.ClockDating.{ClockDating}
use Rattle.rtk_survey.specs.declared.survey.CaptureSurvey.{CaptureSurvey}
use Rattle.rtk_captures.specs.Dating.{captures_of}
use Rattle.rtk_captures.specs.StationCaptures.{capture_of}
use Rattle.rtk_plan.specs.Laws.{times, own_places, times_taken, IsInText, EachIsTakenOnce, EachIsLeftOutOnce, LeftOutIsTold}
use Rattle.rtk_captures.specs.declared.joining.Ordered.{Ordered}
use Rattle.rtk_survey.specs.declared.placing.Placed.{Placed}
use Rattle.rtk_captures.specs.declared.station_capture.StationCapture.{StationCapture}

-- ---- how often a place stands in a list

abbrev one_if : Bool → ℕ
one_if b = cond b 1 0

times-cons : (p x : ℕ) (xs : List ℕ) → times p (x ∷ xs) ≡ one_if (x == p) + times p xs
times-cons p x xs = sum_by-cons (λ y. cond (y == p) 1 0) x xs

times-append : (p : ℕ) (xs ys : List ℕ) → times p (xs ++ ys) ≡ times p xs + times p ys
times-append p xs ys = sum_by-append (λ y. cond (y == p) 1 0) xs ys

times-if : (b : Bool) (p x : ℕ) (xs : List ℕ) → times p (if b then x ∷ xs else xs) ≡ cond b (one_if (x == p)) 0 + times p xs
times-if true p x xs = times-cons p x xs
times-if false p x xs = omega arith

none-if : (b : Bool) (a : ℕ) → a ≡ 0 → cond b a 0 ≡ 0
none-if true a is = is
none-if false a is = refl

no-match : (a p : ℕ) → a ≢ p → one_if (a == p) ≡ 0
no-match a p other = ap one_if (ne_eqb a p other)

match : (a p : ℕ) → a ≡ p → one_if (a == p) ≡ 1
match a p same = ap one_if (eq-eqb a p same)

-- ---- the captures that pass a test, by their places

places-after : (test : StationCapture → Bool) (at p : ℕ) (cs : List StationCapture) → p < at → times p (places_from at test cs) ≡ 0
places-after test at p [] lt = refl
places-after test at p (c ∷ cs) lt =
    let first = times-if (test c) p at (places_from (at + 1) test cs) in
    let rest = places-after test (at + 1) p cs (omega (arith, lt)) in
    let none = none-if (test c) (one_if (at == p)) (no-match at p (λ same. omega (arith, lt, same))) in
    omega (arith, first, rest, none)

pub places-at : (test : StationCapture → Bool) (at k p : ℕ) (cs : List StationCapture) → p ≡ at + k → k < length cs
    → times p (places_from at test cs) ≡ cond (option_map_or test (slice_get cs k) false) 1 0
places-at test at k p [] is lt = absurd (omega (arith, lt))
places-at test at zero p (c ∷ cs) is lt =
    let first = times-if (test c) p at (places_from (at + 1) test cs) in
    let rest = places-after test (at + 1) p cs (omega (arith, is)) in
    let here = ap (λ (n : ℕ). cond (test c) n 0) (match at p (omega (arith, is))) in
    omega (arith, first, rest, here)
places-at test at (suc k) p (c ∷ cs) is lt =
    let first = times-if (test c) p at (places_from (at + 1) test cs) in
    let rest = places-at test (at + 1) k p cs (omega (arith, is)) (omega (arith, lt)) in
    let none = none-if (test c) (one_if (at == p)) (no-match at p (λ same. omega (arith, is, same))) in
    omega (arith, first, rest, none)

-- ---- captures in the order in which they are taken

abbrev given_of : List Ordered → List ℕ
given_of os = map (λ (o : Ordered). o.given) os

given-is : (at : ℕ) (c : Option Placed) → (given_at at c).given ≡ at
given-is at None = refl
given-is at (Some c) = refl

put-there : (b : Bool) (p : ℕ) (x y : Ordered) (ys more : List Ordered) → times p (given_of more) ≡ one_if (x.given == p) + times p (given_of ys)
    → times p (given_of (if b then x ∷ y ∷ ys else y ∷ more)) ≡ one_if (x.given == p) + times p (given_of (y ∷ ys))
put-there true p x y ys more held = times-cons p x.given (given_of (y ∷ ys))
put-there false p x y ys more held =
    let first = times-cons p y.given (given_of more) in
    let second = times-cons p y.given (given_of ys) in
    omega (arith, first, second, held)

put-once : (p : ℕ) (x : Ordered) (ys : List Ordered) → times p (given_of (put_in_order x ys)) ≡ one_if (x.given == p) + times p (given_of ys)
put-once p x [] = times-cons p x.given []
put-once p x (y ∷ ys) = put-there (comes_before x y) p x y ys (put_in_order x ys) (put-once p x ys)

put-given : (p at : ℕ) (c : Option Placed) (ys : List Ordered) → times p (given_of (put_in_order (given_at at c) ys)) ≡ one_if (at == p) + times p (given_of ys)
put-given p at c ys = put-once p (given_at at c) ys ∙ ap (λ (n : ℕ). one_if (n == p) + times p (given_of ys)) (given-is at c)

order-after : (at p : ℕ) (done : List Ordered) (cs : List (Option Placed)) → p < at → times p (given_of (in_order_after at done cs)) ≡ times p (given_of done)
order-after at p done [] lt = refl
order-after at p done (c ∷ cs) lt =
    let rest = order-after (at + 1) p (put_in_order (given_at at c) done) cs (omega (arith, lt)) in
    let first = put-given p at c done in
    let none = no-match at p (λ same. omega (arith, lt, same)) in
    omega (arith, rest, first, none)

order-at : (at k p : ℕ) (done : List Ordered) (cs : List (Option Placed)) → p ≡ at + k → k < length cs
    → times p (given_of (in_order_after at done cs)) ≡ 1 + times p (given_of done)
order-at at k p done [] is lt = absurd (omega (arith, lt))
order-at at zero p done (c ∷ cs) is lt =
    let rest = order-after (at + 1) p (put_in_order (given_at at c) done) cs (omega (arith, is)) in
    let first = put-given p at c done in
    let here = match at p (omega (arith, is)) in
    omega (arith, rest, first, here)
order-at at (suc k) p done (c ∷ cs) is lt =
    let rest = order-at (at + 1) k p (put_in_order (given_at at c) done) cs (omega (arith, is)) (omega (arith, lt)) in
    let first = put-given p at c done in
    let none = no-match at p (λ same. omega (arith, is, same)) in
    omega (arith, rest, first, none)

-- ---- those that have something of the station

heard-step : (b h : Bool) (p : ℕ) (o : Ordered) (os kept : List Ordered) → times p (given_of kept) ≡ cond h (times p (given_of os)) 0
    → (o.given ≡ p → b ≡ h) → times p (given_of (if b then o ∷ kept else kept)) ≡ cond h (times p (given_of (o ∷ os))) 0
heard-step true true p o os kept held same =
    let first = times-cons p o.given (given_of kept) in
    let second = times-cons p o.given (given_of os) in
    omega (arith, first, second, held)
heard-step false false p o os kept held same = held
heard-step true false p o os kept held same =
    let first = times-cons p o.given (given_of kept) in
    let none = no-match o.given p (λ is. let apart : true ≡ false = same is in cc) in
    omega (arith, first, none, held)
heard-step false true p o os kept held same =
    let second = times-cons p o.given (given_of os) in
    let none = no-match o.given p (λ is. let apart : false ≡ true = same is in cc) in
    omega (arith, second, none, held)

heard-alone : (cs : List StationCapture) (p : ℕ) (os : List Ordered) → times p (given_of (kept_in_order cs os)) ≡ cond (is_heard_at cs p) (times p (given_of os)) 0
heard-alone cs p [] = sym (none-if (is_heard_at cs p) 0 refl)
heard-alone cs p (o ∷ os) =
    heard-step (is_heard_at cs o.given) (is_heard_at cs p) p o os (kept_in_order cs os) (heard-alone cs p os) (λ same. ap (λ (n : ℕ). is_heard_at cs n) same)

-- ---- the links that they join

at-most : (b : Bool) (n m : ℕ) → n ≤ m → (if b then 0 else 1 + n) ≤ m + 1
at-most true n m le = omega (arith, le)
at-most false n m le = omega (arith, le)

place-bound : (ends : List ℕ) (from : ℕ) → link_place ends from ≤ length ends
place-bound [] from = omega arith
place-bound (end ∷ ends) from =
    let step = at-most (nat_le end from) (link_place ends from) (length ends) (place-bound ends from) in
    let is : link_place (end ∷ ends) from ≡ (if nat_le end from then 0 else 1 + link_place ends from) = refl in
    omega (arith, step, is)

length-if : (b : Bool) (ends : List ℕ) (place until : ℕ) → length (if b then slice_set ends place until else ends ++ until ∷ []) ≤ length ends + 1
length-if true ends place until = let same = length-set ends place until in omega (arith, same)
length-if false ends place until = let more = length-append ends (until ∷ []) in omega (arith, more)

ends-bound : (ends : List ℕ) (place until : ℕ) → length (ends_with ends place until) ≤ length ends + 1
ends-bound ends place until = length-if (nat_lt place (length ends)) ends place until

links-below : (ends : List ℕ) (cs : List Ordered) (most : ℕ) → length ends + length cs ≤ most → AllByRecursion (λ n. n < most) (links_after ends cs)
links-below ends [] most le = tt
links-below ends (c ∷ cs) most le =
    let place : ℕ = link_place ends c.from in
    let bound = place-bound ends c.from in
    let longer = ends-bound ends place c.until in
    (omega (arith, bound, le), links-below (ends_with ends place c.until) cs most (omega (arith, longer, le)))

links-each : (ends : List ℕ) (cs : List Ordered) → length (links_after ends cs) ≡ length cs
links-each ends [] = refl
links-each ends (c ∷ cs) =
    let rest = links-each (ends_with ends (link_place ends c.from) c.until) cs in
    omega (arith, rest)

-- a number more at one of the numbers from a first one on, or at none of them
spread-none : (a n from count : ℕ) (g h : ℕ → ℕ) → ((k : ℕ) → h k ≡ cond (n == k) a 0 + g k) → n < from → sum_by h (range_with_len from count) ≡ sum_by g (range_with_len from count)
spread-none a n from zero g h is lt = refl
spread-none a n from (suc count) g h is lt =
    let first = sum_by-cons h from (range_with_len (from + 1) count) in
    let second = sum_by-cons g from (range_with_len (from + 1) count) in
    let rest = spread-none a n (from + 1) count g h is (omega (arith, lt)) in
    let here = is from ∙ ap (λ (b : Bool). cond b a 0 + g from) (ne_eqb n from (λ same. omega (arith, lt, same))) in
    omega (arith, first, second, rest, here)

spread : (a n from k count : ℕ) (g h : ℕ → ℕ) → ((j : ℕ) → h j ≡ cond (n == j) a 0 + g j) → n ≡ from + k → k < count
    → sum_by h (range_with_len from count) ≡ a + sum_by g (range_with_len from count)
spread a n from k zero g h is at lt = absurd (omega (arith, lt))
spread a n from zero (suc count) g h is at lt =
    let first = sum_by-cons h from (range_with_len (from + 1) count) in
    let second = sum_by-cons g from (range_with_len (from + 1) count) in
    let rest = spread-none a n (from + 1) count g h is (omega (arith, at)) in
    let here = is from ∙ ap (λ (b : Bool). cond b a 0 + g from) (eq-eqb n from (omega (arith, at))) in
    omega (arith, first, second, rest, here)
spread a n from (suc k) (suc count) g h is at lt =
    let first = sum_by-cons h from (range_with_len (from + 1) count) in
    let second = sum_by-cons g from (range_with_len (from + 1) count) in
    let rest = spread a n (from + 1) k count g h is (omega (arith, at)) (omega (arith, lt)) in
    let here = is from ∙ ap (λ (b : Bool). cond b a 0 + g from) (ne_eqb n from (λ same. omega (arith, at, same))) in
    omega (arith, first, second, rest, here)

sum-zeros : (from count : ℕ) → sum_by (λ _. 0) (range_with_len from count) ≡ 0
sum-zeros from zero = refl
sum-zeros from (suc count) =
    let first = sum_by-cons (λ _. 0) from (range_with_len (from + 1) count) in
    let rest = sum-zeros (from + 1) count in
    omega (arith, first, rest)

-- each capture goes to one link
each-link : (p : ℕ) (os : List Ordered) (ns : List ℕ) (most : ℕ) → length ns ≡ length os → AllByRecursion (λ n. n < most) ns
    → sum_by (λ (link : ℕ). times p (captures_of_link link os ns)) (range_with_len 0 most) ≡ times p (given_of os)
each-link p [] ns most same below = sum-zeros 0 most
each-link p (o ∷ os) [] most same below = absurd (omega (arith, same))
each-link p (o ∷ os) (n ∷ ns) most same below =
    let a : ℕ = one_if (o.given == p) in
    let g : ℕ → ℕ = λ link. times p (captures_of_link link os ns) in
    let h : ℕ → ℕ = λ link. times p (captures_of_link link (o ∷ os) (n ∷ ns)) in
    let all = spread a n 0 n most g h (λ link. times-if (n == link) p o.given (captures_of_link link os ns)) (omega arith) below.0 in
    let rest : sum_by g (range_with_len 0 most) ≡ times p (given_of os) = each-link p os ns most (omega (arith, same)) below.1 in
    let first = times-cons p o.given (given_of os) in
    all ∙ ap (λ (m : ℕ). a + m) rest ∙ sym first

-- ---- how often links take a capture

taken-of : (p : ℕ) (f : ℕ → List ℕ) (ks : List ℕ) → times_taken p (map f ks) ≡ sum_by (λ (j : ℕ). times p (f j)) ks
taken-of p f [] = refl
taken-of p f (k ∷ ks) =
    let first = times-append p (f k) (flat_map own_places (map f ks)) in
    let sum = sum_by-cons (λ (j : ℕ). times p (f j)) k ks in
    first ∙ ap (λ (m : ℕ). times p (f k) + m) (taken-of p f ks) ∙ sym sum

keep-some : (p : ℕ) (link : List ℕ) (b : Bool) (links kept : List (List ℕ)) → b ≡ is_nonempty link → times_taken p kept ≡ times_taken p links
    → times_taken p (if b then link ∷ kept else kept) ≡ times_taken p (link ∷ links)
keep-some p link true links kept is held =
    let first = times-append p link (flat_map own_places kept) in
    let second = times-append p link (flat_map own_places links) in
    omega (arith, first, second, held)
keep-some p [] false links kept is held = held
keep-some p (x ∷ xs) false links kept is held =
    let some : (length (x ∷ xs) == 0) ≡ false = ne_eqb (length (x ∷ xs)) 0 (λ none. omega (arith, none)) in
    let apart : false ≡ true = is ∙ ap not some in
    let no : ⊥ = cc in
    absurd no

nonempty-take : (p : ℕ) (links : List (List ℕ)) → times_taken p (filter is_nonempty links) ≡ times_taken p links
nonempty-take p [] = refl
nonempty-take p (link ∷ links) = keep-some p link (is_nonempty link) links (filter is_nonempty links) refl (nonempty-take p links)

pub joined-take : (p : ℕ) (os : List Ordered) → times_taken p (joined_links os) ≡ times p (given_of os)
joined-take p os =
    let ns : List ℕ = links_of os in
    let f : ℕ → List ℕ = λ link. captures_of_link link os ns in
    nonempty-take p (map f (range_with_len 0 (length os))) ∙ taken-of p f (range_with_len 0 (length os))
    ∙ each-link p os ns (length os) (links-each [] os) (links-below [] os (length os) (omega arith))

-- ---- all of it

pub found-take : (cs : List StationCapture) (placed : List (Option Placed)) (p : ℕ) → length placed ≡ length cs → p < length cs
    → times_taken p (links_found cs placed) ≡ (if is_heard_at cs p then 1 else 0)
found-take cs placed p same lt =
    let one = order-at 0 p p [] placed (omega arith) (omega (arith, same, lt)) in
    joined-take p (kept_in_order cs (in_order placed)) ∙ heard-alone cs p (in_order placed)
    ∙ ap (λ (n : ℕ). cond (is_heard_at cs p) n 0) one

given-take : (p : ℕ) (places : List ℕ) → times_taken p (map one_place places) ≡ times p places
given-take p [] = refl
given-take p (x ∷ xs) =
    let first = times-append p (x ∷ []) (flat_map own_places (map one_place xs)) in
    let alone = times-cons p x [] in
    let second = times-cons p x xs in
    let rest = given-take p xs in
    let nothing : times p [] ≡ 0 = refl in
    omega (arith, first, alone, second, rest, nothing)

pub as-given-take : (cs : List StationCapture) (p : ℕ) → p < length cs → times_taken p (links_as_given cs) ≡ (if is_heard_at cs p then 1 else 0)
as-given-take cs p lt = given-take p (kept_captures cs) ∙ places-at is_heard 0 p p cs (omega arith) lt

turned : (b : Bool) → one_if (not b) ≡ (if b then 0 else 1)
turned true = refl
turned false = refl

other-way : (cs : List StationCapture) (k : ℕ) → k < length cs → one_if (option_map_or (λ c. not (is_heard c)) (slice_get cs k) false) ≡ (if is_heard_at cs k then 0 else 1)
other-way [] k lt = absurd (omega (arith, lt))
other-way (c ∷ cs) zero lt = turned c.is_heard
other-way (c ∷ cs) (suc k) lt = other-way cs k (omega (arith, lt))

pub empty-take : (cs : List StationCapture) (p : ℕ) → p < length cs → times p (empty_captures cs) ≡ (if is_heard_at cs p then 0 else 1)
empty-take cs p lt = places-at (λ c. not (is_heard c)) 0 p p cs (omega arith) lt ∙ other-way cs p lt

as-many-places : (way : ClockDating) (ps : List (Option Placed)) (at : ℕ) (ss : List CaptureSurvey) → length (places_among_links way ps at ss) ≡ length ss
as-many-places way ps at [] = refl
as-many-places way ps at (s ∷ ss) = ap suc (as-many-places way ps (at + 1) ss)

-- the links of a plan
links-take : (as_given : Bool) (given : Option ℕ) (ss : List CaptureSurvey) (station : ℕ) (links : List (List ℕ)) → AreLinksOf as_given given ss station links
    → (p : ℕ) → p < length (captures_of ss station) → times_taken p links ≡ (if is_heard_at (captures_of ss station) p then 1 else 0)
links-take true given ss station links is p lt = ap (λ (ls : List (List ℕ)). times_taken p ls) is ∙ as-given-take (captures_of ss station) p lt
links-take false given ss station links is p lt =
    let cs : List StationCapture = captures_of ss station in
    let way : ClockDating = clock_dating given station is.2.2.2.0 (midway is.2.0.from is.2.0.until) in
    let places : List (Option Placed) = places_among_links way is.0 0 ss in
    let each : length places ≡ length cs = as-many-places way is.0 0 ss ∙ sym (length-map ss (capture_of station)) in
    ap (λ (ls : List (List ℕ)). times_taken p ls) is.2.2.2.2 ∙ found-take cs places p each lt

pub each-taken-once : EachIsTakenOnce
each-taken-once as_given given ss station links is place lt = links-take as_given given ss station links is place lt

pub each-left-out-once : EachIsLeftOutOnce
each-left-out-once cs place lt = empty-take cs place lt

-- ---- what is left out is told

here : (f : ℕ → List ℕ) (x : ℕ) (xs : List ℕ) (p : ℕ) → x ≡ p → IsInText (f p) (flat_map f (x ∷ xs))
here f x xs p same = ([], flat_map f xs, ap (λ (n : ℕ). f n ++ flat_map f xs) same)

later : (f : ℕ → List ℕ) (x : ℕ) (xs : List ℕ) (part : List ℕ) → IsInText part (flat_map f xs) → IsInText part (flat_map f (x ∷ xs))
later f x xs part is =
    (f x ++ is.0, is.1, ap (λ (t : List ℕ). f x ++ t) is.2 ∙ sym (append_assoc (f x) (is.0 ++ part) is.1) ∙ ap (λ (t : List ℕ). t ++ is.1) (sym (append_assoc (f x) is.0 part)))

line-of : (f : ℕ → List ℕ) (xs : List ℕ) (p : ℕ) → 0 < times p xs → IsInText (f p) (flat_map f xs)
line-of f [] p some = let none : times p [] ≡ 0 = refl in absurd (omega (arith, some, none))
line-of f (x ∷ xs) p some = elim (cases_eq x p) [
  | inl same ↦ here f x xs p same
  | inr other ↦
      let first = times-cons p x xs in
      let none = no-match x p other in
      later f x xs (f p) (line-of f xs p (omega (arith, some, first, none)))
]

before-and-after : (a t b part : List ℕ) → IsInText part t → IsInText part ((a ++ t) ++ b)
before-and-after a t b part is =
    let before : List ℕ = is.0 in
    let after : List ℕ = is.1 in
    (a ++ before, after ++ b, ap (λ (u : List ℕ). (a ++ u) ++ b) is.2 ∙ simp append_assoc)

pub left-out-told : LeftOutIsTold
unfolding lines_behind_late known_lines
left-out-told names ss plan known late by_stray place lasts some =
    let skipped : List ℕ = skipped_lines names plan.captures.items plan.skipped.items in
    let epochs : List ℕ = epochs_lines names plan.captures.items (places_of plan.links.items) in
    let rest : List ℕ = not_taken ss (leaves_long ss plan) plan.setup in
    let line = line-of (skipped_line names plan.captures.items) plan.skipped.items place some in
    let first = before-and-after [] skipped epochs (skipped_line names plan.captures.items place) line in
    let last = before-and-after [] (skipped ++ epochs) rest (skipped_line names plan.captures.items place) first in
    let left : List ℕ = left_out_lines names ss plan in
    let behind : List ℕ = ((skipped ++ epochs) ++ rest) ++ left in
    let more = before-and-after [] ((skipped ++ epochs) ++ rest) left (skipped_line names plan.captures.items place) last in
    let whole = before-and-after (known.first.items ++ late_count_line late by_stray known.window) behind [] (skipped_line names plan.captures.items place) more in (
      whole.0,
      whole.1,
      ap (λ (t : List ℕ). (known.first.items ++ late_count_line late by_stray known.window) ++ t) lasts
          ∙ sym (append-nil ((known.first.items ++ late_count_line late by_stray known.window) ++ behind)) ∙ whole.2,
    )
