-- Late arrivals change nothing; closed epochs and station messages stay.
use Rattle.std.proofs.Common.{◌≡◌, ◌↔◌, ℕ, zero, suc, ◌≤◌, Bool, true, false, List, [], ◌∷◌, ◌++◌, length, take, drop, Option, None, Some, refl, ap, sym, ◌∙◌, arith, inl, inr, subst}
use Rattle.std.specs.Prelude.{nat_le, ◌==◌, ◌&&◌, not, if◌then◌else◌, min}
use Rattle.std.proofs.Common.{append_assoc}
use Rattle.std.proofs.lemmas.Bool.{le-leb, leb-true, cases_lt, cases_eq, ne_eqb, cases_Bool, both_ways}
use Rattle.std.proofs.lemmas.List.{length-take}
use Rattle.rtk_message.specs.declared.any_message.AnyMessage.{AnyMessage as Message}
use Rattle.rtk_message.specs.AnyDecoded.{number_of}
use Rattle.rtk_collect.specs.Equal.{equal_stations, is_first}
use Rattle.rtk_collect.specs.EpochSet.{EpochSetView, EpochsFall}
use Rattle.rtk_collect.specs.Arrival.{Arrival, At}
use Rattle.rtk_collect.specs.Late.{epochs, with_epoch, late}
use Rattle.rtk_collect.specs.Accepted.{no_cells, station, first, kept, closed, with_arrival, IsTaken}
use Rattle.rtk_collect.specs.Laws.{without_late, AreInTime, LateArrivalsChangeNothing, ClosedOnlyGrow, ClosedFall, ClosedAfter, ExcusedIsKept, StationsAreFinal, LateLeavesKept, InTimeJoinsKept}
use Rattle.rtk_collect.proofs.ArrivalsLemmas.{leadingN, leadingN-take, late-leading, is-late, is-open, take-with_epoch, take-with_epoch-late, keys, same_greatest, kept-falls, drop-with_arrival}
use Rattle.rtk_collect.proofs.JoinsLemmas.{same-le, closed-drop, whole, leading-kept}
use Rattle.rtk_collect.proofs.StationLemmas.{length-keys, and-none, excused-is}
use Rattle.rtk_collect.specs.Entries.{Entries}

late-above : (n e : ℕ) (m : Message) (before : List Arrival) → late n (At (Some e) m) before ≡ true → n ≤ leadingN e (epochs before)
late-above n e m before h = leb-true n _ (sym (late-leading n e m before) ∙ h)

pub kept-late : {E S : Type 0} (es : Entries E S) (of : Message → List E) → LateLeavesKept es of
kept-late es of n e m before h = ap (λ (b : Bool). if b then kept es of n before else with_arrival es e (of m) (kept es of n before)) h

pub kept-new : {E S : Type 0} (es : Entries E S) (of : Message → List E) → InTimeJoinsKept es of
kept-new es of n e m before h = ap (λ (b : Bool). if b then kept es of n before else with_arrival es e (of m) (kept es of n before)) h

without-head : (n : ℕ) (a : Arrival) (before : List Arrival) → late n a before ≡ true → without_late n (a ∷ before) ≡ without_late n before
without-head n a before h = ap (λ (b : Bool). if b then without_late n before else a ∷ without_late n before) h

without-stays : (n : ℕ) (a : Arrival) (before : List Arrival) → late n a before ≡ false → without_late n (a ∷ before) ≡ a ∷ without_late n before
without-stays n a before h = ap (λ (b : Bool). if b then without_late n before else a ∷ without_late n before) h

without-epochs : (n : ℕ) (arrivals : List Arrival) → take n (epochs (without_late n arrivals)) ≡ take n (epochs arrivals)
without-epochs n [] = refl
without-epochs n (At None m ∷ before) = elim (cases_Bool (late n (At None m) before)) [
  | inl over ↦ ap (λ t. take n (epochs t)) (without-head n (At None m) before over) ∙ without-epochs n before
  | inr fresh ↦ ap (λ t. take n (epochs t)) (without-stays n (At None m) before fresh) ∙ without-epochs n before
]
without-epochs n (At (Some e) m ∷ before) = elim (cases_Bool (late n (At (Some e) m) before)) [
  | inl over ↦ ap (λ t. take n (epochs t)) (without-head n (At (Some e) m) before over) ∙ without-epochs n before ∙ sym (take-with_epoch-late n e (epochs before) (late-above n e m before over))
  | inr fresh ↦ ap (λ t. take n (epochs t)) (without-stays n (At (Some e) m) before fresh) ∙ take-with_epoch n e (epochs (without_late n before))
      ∙ ap (λ t. take n (with_epoch e t)) (without-epochs n before) ∙ sym (take-with_epoch n e (epochs before))
]

without-count : (n : ℕ) (arrivals : List Arrival) → min n (length (epochs (without_late n arrivals))) ≡ min n (length (epochs arrivals))
without-count n arrivals = sym (length-take n (epochs (without_late n arrivals))) ∙ ap length (without-epochs n arrivals) ∙ length-take n (epochs arrivals)

-- whether a station message is late, from the count of epochs and the kept one
pub late-station : (n : ℕ) (m : Message) (before : List Arrival) → late n (At None m) before ≡ (nat_le n (length (epochs before)) && not (is_first equal_stations (station n (number_of m) before) m))
late-station n m before = ap (λ b. nat_le n (length (epochs before)) && not b) (excused-is n m before)

same-station : (n : ℕ) (m : Message) (x y : List Arrival) → station n (number_of m) x ≡ station n (number_of m) y → min n (length (epochs x)) ≡ min n (length (epochs y)) → late n (At None m) x ≡ late n (At None m) y
same-station n m x y s c =
    late-station n m x ∙ ap (λ o. nat_le n (length (epochs x)) && not (is_first equal_stations o m)) s
    ∙ ap (λ b. b && not (is_first equal_stations (station n (number_of m) y) m)) (same-le n _ _ c) ∙ sym (late-station n m y)

pub station-late : (n k : ℕ) (m : Message) (before : List Arrival) → late n (At None m) before ≡ true → station n k (At None m ∷ before) ≡ station n k before
station-late n k m before h =
    ap (λ b. if (number_of m == k) && not b then first (station n k before) m else station n k before) h ∙ ap (λ b. if b then first (station n k before) m else station n k before) (and-none (number_of m == k))

without-station : (n k : ℕ) (arrivals : List Arrival) → station n k (without_late n arrivals) ≡ station n k arrivals
without-station n k [] = refl
without-station n k (At (Some e) m ∷ before) = elim (cases_Bool (late n (At (Some e) m) before)) [
  | inl over ↦ ap (station n k) (without-head n (At (Some e) m) before over) ∙ without-station n k before
  | inr fresh ↦ ap (station n k) (without-stays n (At (Some e) m) before fresh) ∙ without-station n k before
]
without-station n k (At None m ∷ before) = elim (cases_Bool (late n (At None m) before)) [
  | inl over ↦ ap (station n k) (without-head n (At None m) before over) ∙ without-station n k before ∙ sym (station-late n k m before over)
  | inr fresh ↦ ap (station n k) (without-stays n (At None m) before fresh)
      ∙ ap (λ b. if (number_of m == k) && not b then first (station n k (without_late n before)) m else station n k (without_late n before))
      (same-station n m (without_late n before) before (without-station n (number_of m) before) (without-count n before))
      ∙ ap (λ o. if (number_of m == k) && not (late n (At None m) before) then first o m else o) (without-station n k before)
]

without-late : (n : ℕ) (a : Arrival) (arrivals : List Arrival) → late n a (without_late n arrivals) ≡ late n a arrivals
without-late n (At None m) arrivals = same-station n m (without_late n arrivals) arrivals (without-station n (number_of m) arrivals) (without-count n arrivals)
without-late n (At (Some e) m) arrivals = late-leading n e m (without_late n arrivals)
    ∙ same-le n _ _ (sym (leadingN-take n e (epochs (without_late n arrivals))) ∙ ap (leadingN e) (without-epochs n arrivals) ∙ leadingN-take n e (epochs arrivals))
    ∙ sym (late-leading n e m arrivals)

without-kept : {E S : Type 0} (es : Entries E S) (of : Message → List E) (n : ℕ) (arrivals : List Arrival) → kept es of n (without_late n arrivals) ≡ kept es of n arrivals
without-kept es of n [] = refl
without-kept es of n (At None m ∷ before) = elim (cases_Bool (late n (At None m) before)) [
  | inl over ↦ ap (kept es of n) (without-head n (At None m) before over) ∙ without-kept es of n before
  | inr fresh ↦ ap (kept es of n) (without-stays n (At None m) before fresh) ∙ without-kept es of n before
]
without-kept es of n (At (Some e) m ∷ before) = elim (cases_Bool (late n (At (Some e) m) before)) [
  | inl over ↦ ap (kept es of n) (without-head n (At (Some e) m) before over) ∙ without-kept es of n before ∙ sym (kept-late es of n e m before over)
  | inr fresh ↦ ap (kept es of n) (without-stays n (At (Some e) m) before fresh) ∙ kept-new es of n e m (without_late n before) (without-late n (At (Some e) m) before ∙ fresh)
      ∙ ap (with_arrival es e (of m)) (without-kept es of n before) ∙ sym (kept-new es of n e m before fresh)
]

in-time : (n : ℕ) (arrivals : List Arrival) → AreInTime n (without_late n arrivals)
in-time n [] = tt
in-time n (a ∷ before) = elim (cases_Bool (late n a before)) [
  | inl over ↦ subst (AreInTime n) (sym (without-head n a before over)) (in-time n before)
  | inr fresh ↦ subst (AreInTime n) (sym (without-stays n a before fresh)) (without-late n a before ∙ fresh, in-time n before)
]

without-taken : (n : ℕ) (a : Arrival) (arrivals : List Arrival) → IsTaken n a (without_late n arrivals) ↔ IsTaken n a arrivals
without-taken n a [] = (λ h. h, λ h. h)
without-taken n a (x ∷ before) =
    let w = without-taken n a before in
    elim (cases_Bool (late n x before)) [
      | inl over ↦ (
        λ h. inr (w.0 (subst (IsTaken n a) (without-head n x before over) h)),
        λ h. subst (IsTaken n a) (sym (without-head n x before over)) (elim h [ inl now ↦ absurd (both_ways (late n x before) now.0 over) | inr r ↦ w.1 r ]),
      )
      | inr fresh ↦ (
        λ h. elim (subst (IsTaken n a) (without-stays n x before fresh) h) [ inl now ↦ inl (fresh, now.1) | inr r ↦ inr (w.0 r) ],
        λ h. subst (IsTaken n a) (sym (without-stays n x before fresh)) (elim h [ inl now ↦ inl (without-late n x before ∙ fresh, now.1) | inr r ↦ inr (w.1 r) ]),
      )
    ]

pub late-change-nothing : {E S : Type 0} (es : Entries E S) (of : Message → List E) → LateArrivalsChangeNothing es of
late-change-nothing es of n arrivals = ((λ a. without-late n a arrivals), in-time n arrivals, (λ a. without-taken n a arrivals), without-kept es of n arrivals, (λ k. without-station n k arrivals))

-- closed epochs

one-grows : {E S : Type 0} (es : Entries E S) (of : Message → List E) (n : ℕ) (a : Arrival) (before : List Arrival) → (more : List (EpochSetView E)) × (closed es of n (a ∷ before) ≡ more ++ closed es of n before)
one-grows es of n (At None m) before = ([], refl)
one-grows {E = E} es of n (At (Some e) m) before =
    let d : EpochSetView E = no_cells 0 in
    elim (cases_lt (leadingN e (epochs before)) n) [
      | inl fresh ↦ (
        drop n (with_arrival es e (of m) (take n (kept es of n before))),
        closed-drop es of n d (At (Some e) m ∷ before) ∙ ap (drop n) (is-open es of n e m before fresh) ∙ drop-with_arrival es n e (of m) (kept es of n before) (leading-kept es of n e before fresh)
            ∙ ap (λ t. drop n (with_arrival es e (of m) (take n (kept es of n before))) ++ t) (sym (closed-drop es of n d before)),
      )
      | inr over ↦ ([], closed-drop es of n d (At (Some e) m ∷ before) ∙ ap (drop n) (is-late es of n e m before over) ∙ sym (closed-drop es of n d before))
    ]

pub closed-only-grow : {E S : Type 0} (es : Entries E S) (of : Message → List E) → ClosedOnlyGrow es of
closed-only-grow es of n [] before = ([], refl)
closed-only-grow es of n (a ∷ later) before =
    let r = closed-only-grow es of n later before in
    let s = one-grows es of n a (later ++ before) in
    (s.0 ++ r.0, s.1 ∙ ap (λ t. s.0 ++ t) r.1 ∙ sym (append_assoc s.0 r.0 (closed es of n before)))

falls-drop : {E : Type 0} (n : ℕ) (xs : List (EpochSetView E)) → EpochsFall xs → EpochsFall (drop n xs)
falls-drop zero xs f = f
falls-drop (suc n) [] f = tt
falls-drop (suc n) (x ∷ xs) f = falls-drop n xs f.1

pub closed-fall : {E S : Type 0} (es : Entries E S) (of : Message → List E) → ClosedFall es of
closed-fall es of n arrivals = subst EpochsFall (sym (closed-drop es of n (no_cells 0) arrivals)) (falls-drop n (kept es of n arrivals) (kept-falls es of n arrivals))

pub closed-after : {E S : Type 0} (es : Entries E S) (of : Message → List E) → ClosedAfter es of
closed-after es of n arrivals = elim (cases_lt (length (epochs arrivals)) n) [
  | inl less ↦
      let a : min n (length (keys (kept es of n arrivals))) ≡ min n (length (epochs arrivals)) = sym (length-take n (keys (kept es of n arrivals))) ∙ ap length (same_greatest es of n arrivals) ∙ length-take n (epochs arrivals) in
      let k : length (keys (kept es of n arrivals)) ≡ length (kept es of n arrivals) = length-keys (kept es of n arrivals) in
      inl (closed-drop es of n (no_cells 0) arrivals ∙ (whole n (kept es of n arrivals) (omega arith)).1)
  | inr over ↦ inr over
]

-- station messages

pub excused-is-kept : ExcusedIsKept
excused-is-kept n m before = excused-is n m before

stays-full : (n k : ℕ) (m : Message) (before : List Arrival) (o : Option Message) → o ≡ station n k before → n ≤ length (epochs before) → station n k (At None m ∷ before) ≡ station n k before
stays-full n k m before (Some x) e h = elim (cases_Bool ((number_of m == k) && not (late n (At None m) before))) [
  | inl now ↦ ap (λ b. if b then first (station n k before) m else station n k before) now ∙ ap (λ o. first o m) (sym e) ∙ e
  | inr not_now ↦ ap (λ b. if b then first (station n k before) m else station n k before) not_now
]
stays-full n k m before None e h = elim (cases_eq (number_of m) k) [
  | inl same ↦
      let s : station n (number_of m) before ≡ None = ap (λ t. station n t before) same ∙ sym e in
      let over : late n (At None m) before ≡ true =
      late-station n m before ∙ ap (λ o. nat_le n (length (epochs before)) && not (is_first equal_stations o m)) s ∙ ap (λ b. b && true) (le-leb n (length (epochs before)) h) in
      station-late n k m before over
  | inr other ↦ ap (λ b. if b && not (late n (At None m) before) then first (station n k before) m else station n k before) (ne_eqb (number_of m) k other)
]

final-stays : (n k : ℕ) (a : Arrival) (before : List Arrival) → n ≤ length (epochs before) → station n k (a ∷ before) ≡ station n k before
final-stays n k (At (Some e) m) before h = refl
final-stays n k (At None m) before h = stays-full n k m before (station n k before) refl h

pub stations-are-final : StationsAreFinal
stations-are-final n before h =
    ((λ m. late-station n m before ∙ ap (λ b. b && not (is_first equal_stations (station n (number_of m) before) m)) (le-leb n (length (epochs before)) h)), (λ a k. final-stays n k a before h))
