-- Two lists that are walked together.
use Rattle.std.proofs.Common.{◌≡◌, ◌≢◌, ◌<◌, ◌≤◌, ◌+◌, ◌==◌, ℕ, zero, suc, min, Bool, true, false, List, [], ◌∷◌, ◌++◌, length, map, drop, get_or, append_assoc, append-nil, Option, refl, sym, ap, ◌∙◌, eq-eqb, ne_eqb, arith}
use Rattle.std.proofs.lemmas.List.{map-append}
use Rattle.std.proofs.lemmas.List.FromFn.{filter_of_map_range_with_len_more}
use Rattle.std.specs.Prelude.{filter, if◌then◌else◌}
use Rattle.std.specs.List.{range_with_len}
use Rattle.std.specs.declared.vec.Vec.{Vec}
use Rattle.rtk_survey.proofs.PublicLaws.{cut-at}
use Rattle.rtk_survey.specs.declared.placing.Placed.{Placed}
use Rattle.rtk_captures.specs.declared.station_capture.StationCapture.{StationCapture}
use Rattle.rtk_captures.specs.declared.joining.Ordered.{Ordered}
use Rattle.rtk_survey.specs.Surveys.{places_of}
use Rattle.rtk_captures.specs.Linking.{captures_of_link, is_nonempty}
use Rattle.rtk_captures.specs.Dating.{some_out_of_reach}
use Rattle.rtk_captures.specs.Stray.{greatest_of_others}

-- ---- the captures of a link

of-link-step : (link : ℕ) (os : List Ordered) (ns : List ℕ) (i : ℕ) (o : Ordered) (n : ℕ) → i < length os → i < length ns
    → captures_of_link link (drop i os) (drop i ns) ≡ (if get_or ns i n == link then (get_or os i o).given ∷ captures_of_link link (drop (i + 1) os) (drop (i + 1) ns) else captures_of_link link (drop (i + 1) os) (drop (i + 1) ns))
of-link-step link os ns i o n lt within =
    ap (λ (xs : List Ordered). captures_of_link link xs (drop i ns)) (cut-at os i o lt)
    ∙ ap (λ (ys : List ℕ). captures_of_link link (get_or os i o ∷ drop (i + 1) os) ys) (cut-at ns i n within)

pub of-link-found : (link : ℕ) (os : List Ordered) (ns : List ℕ) (i : ℕ) (o : Ordered) (n : ℕ) → i < length os → i < length ns → get_or ns i n ≡ link
    → captures_of_link link (drop i os) (drop i ns) ≡ (get_or os i o).given ∷ captures_of_link link (drop (i + 1) os) (drop (i + 1) ns)
of-link-found link os ns i o n lt within is =
    let rest : List ℕ = captures_of_link link (drop (i + 1) os) (drop (i + 1) ns) in
    of-link-step link os ns i o n lt within ∙ ap (λ (b : Bool). if b then (get_or os i o).given ∷ rest else rest) (eq-eqb (get_or ns i n) link is)

pub of-link-passed : (link : ℕ) (os : List Ordered) (ns : List ℕ) (i : ℕ) (o : Ordered) (n : ℕ) → i < length os → i < length ns → get_or ns i n ≢ link
    → captures_of_link link (drop i os) (drop i ns) ≡ captures_of_link link (drop (i + 1) os) (drop (i + 1) ns)
of-link-passed link os ns i o n lt within other =
    let rest : List ℕ = captures_of_link link (drop (i + 1) os) (drop (i + 1) ns) in
    of-link-step link os ns i o n lt within ∙ ap (λ (b : Bool). if b then (get_or os i o).given ∷ rest else rest) (ne_eqb (get_or ns i n) link other)

no-numbers : (link : ℕ) (os : List Ordered) → captures_of_link link os [] ≡ []
no-numbers link [] = refl
no-numbers link (o ∷ os) = refl

pub of-link-end : (link : ℕ) (os : List Ordered) (ns : List ℕ) (i : ℕ) → min (length os) (length ns) ≤ i → captures_of_link link (drop i os) (drop i ns) ≡ []
of-link-end link [] ns zero past = refl
of-link-end link [] ns (suc i) past = refl
of-link-end link (o ∷ os) [] zero past = refl
of-link-end link (o ∷ os) [] (suc i) past = no-numbers link (drop i os)
of-link-end link (o ∷ os) (n ∷ ns) zero past = absurd (omega (arith, past))
of-link-end link (o ∷ os) (n ∷ ns) (suc i) past = of-link-end link os ns i (omega (arith, past))

-- ---- the links that captures join

pub captures-more : (link : ℕ) (os : List Ordered) (ns : List ℕ) (i : ℕ) (o : Ordered) (n : ℕ) (before places : List ℕ) → i < length os → i < length ns → get_or ns i n ≡ link
    → places ≡ before ++ (get_or os i o).given ∷ [] → before ++ captures_of_link link (drop i os) (drop i ns) ≡ captures_of_link link os ns
    → places ++ captures_of_link link (drop (i + 1) os) (drop (i + 1) ns) ≡ captures_of_link link os ns
captures-more link os ns i o n before places lt within is pushed held =
    let rest : List ℕ = captures_of_link link (drop (i + 1) os) (drop (i + 1) ns) in
    ap (λ (xs : List ℕ). xs ++ rest) pushed ∙ append_assoc before ((get_or os i o).given ∷ []) rest
    ∙ ap (λ (xs : List ℕ). before ++ xs) (sym (of-link-found link os ns i o n lt within is)) ∙ held

pub captures-same : (link : ℕ) (os : List Ordered) (ns : List ℕ) (i : ℕ) (o : Ordered) (n : ℕ) (before places : List ℕ) → i < length os → i < length ns → get_or ns i n ≢ link
    → places ≡ before → before ++ captures_of_link link (drop i os) (drop i ns) ≡ captures_of_link link os ns
    → places ++ captures_of_link link (drop (i + 1) os) (drop (i + 1) ns) ≡ captures_of_link link os ns
captures-same link os ns i o n before places lt within other same held =
    let rest : List ℕ = captures_of_link link (drop (i + 1) os) (drop (i + 1) ns) in
    ap (λ (xs : List ℕ). xs ++ rest) same ∙ ap (λ (xs : List ℕ). before ++ xs) (sym (of-link-passed link os ns i o n lt within other)) ∙ held

pub link-kept : {A : Type 0} (f : ℕ → List ℕ) (k : ℕ) (links new : List (Vec ℕ A)) (v : Vec ℕ A) → v.items ≡ f k → is_nonempty (f k) ≡ true → new ≡ links ++ v ∷ []
    → places_of links ≡ filter is_nonempty (map f (range_with_len 0 k)) → places_of new ≡ filter is_nonempty (map f (range_with_len 0 (k + 1)))
link-kept {A} f k links new v is some pushed held =
    let had : List (List ℕ) = filter is_nonempty (map f (range_with_len 0 k)) in
    ap (λ (ls : List (Vec ℕ A)). places_of ls) pushed ∙ map-append (λ (link : Vec ℕ A). link.items) links (v ∷ [])
    ∙ ap (λ (xs : List (List ℕ)). xs ++ v.items ∷ []) held ∙ ap (λ (xs : List ℕ). had ++ xs ∷ []) is
    ∙ sym (filter_of_map_range_with_len_more is_nonempty f 0 k k (omega arith) ∙ ap (λ (b : Bool). had ++ (if b then f k ∷ [] else [])) some)

pub link-empty : {A : Type 0} (f : ℕ → List ℕ) (k : ℕ) (links new : List (Vec ℕ A)) → is_nonempty (f k) ≡ false → new ≡ links
    → places_of links ≡ filter is_nonempty (map f (range_with_len 0 k)) → places_of new ≡ filter is_nonempty (map f (range_with_len 0 (k + 1)))
link-empty {A} f k links new none same held =
    let had : List (List ℕ) = filter is_nonempty (map f (range_with_len 0 k)) in
    ap (λ (ls : List (Vec ℕ A)). places_of ls) same ∙ held
    ∙ sym (filter_of_map_range_with_len_more is_nonempty f 0 k k (omega arith) ∙ ap (λ (b : Bool). had ++ (if b then f k ∷ [] else [])) none ∙ append-nil had)

-- ---- captures with their dated epochs

none-placed : (near : ℕ) (cs : List StationCapture) → some_out_of_reach near cs [] ≡ false
none-placed near [] = refl
none-placed near (c ∷ cs) = refl

pub reach-end : (near : ℕ) (cs : List StationCapture) (ps : List (Option Placed)) (i : ℕ) → min (length cs) (length ps) ≤ i → some_out_of_reach near (drop i cs) (drop i ps) ≡ false
reach-end near [] ps zero past = refl
reach-end near [] ps (suc i) past = refl
reach-end near (c ∷ cs) [] zero past = refl
reach-end near (c ∷ cs) [] (suc i) past = none-placed near (drop i cs)
reach-end near (c ∷ cs) (p ∷ ps) zero past = absurd (omega (arith, past))
reach-end near (c ∷ cs) (p ∷ ps) (suc i) past = reach-end near cs ps i (omega (arith, past))

-- ---- the greatest epoch of all captures but the stray one

none-greater : (known : Option ℕ) (cs : List StationCapture) (until : ℕ) → greatest_of_others known cs [] until ≡ known
none-greater known [] until = refl
none-greater known (c ∷ cs) until = refl

pub others-end : (known : Option ℕ) (cs : List StationCapture) (ps : List (Option Placed)) (until i : ℕ) → min (length cs) (length ps) ≤ i
    → greatest_of_others known (drop i cs) (drop i ps) until ≡ known
others-end known [] ps until zero past = refl
others-end known [] ps until (suc i) past = refl
others-end known (c ∷ cs) [] until zero past = refl
others-end known (c ∷ cs) [] until (suc i) past = none-greater known (drop i cs) until
others-end known (c ∷ cs) (p ∷ ps) until zero past = absurd (omega (arith, past))
others-end known (c ∷ cs) (p ∷ ps) until (suc i) past = others-end known cs ps until i (omega (arith, past))
