-- What is kept is what came in time.
use Rattle.std.proofs.Common.{◌≡◌, ◌⊎◌, ℕ, false, List, [], ◌∷◌, Option, None, Some, refl, ap, sym, ◌∙◌, inl, inr, subst}
use Rattle.std.specs.Prelude.{◌&&◌, not, if◌then◌else◌}
use Rattle.std.specs.Option.{unwrap_or}
use Rattle.std.proofs.lemmas.Bool.{cases_order, cases_eq, eq-eqb, cases_Bool, both_ways}
use Rattle.rtk_message.specs.declared.any_message.AnyMessage.{AnyMessage as Message}
use Rattle.rtk_message.specs.AnyDecoded.{number_of}
use Rattle.rtk_collect.specs.Key.{key}
use Rattle.rtk_collect.specs.EpochSet.{EpochSetView, with_cell, with_cells}
use Rattle.rtk_collect.specs.Arrival.{Arrival, At}
use Rattle.rtk_collect.specs.Late.{late}
use Rattle.rtk_collect.specs.Accepted.{station, first, kept, with_arrival, IsTaken, AmongCells, IsTakenCell, IsConsistent}
use Rattle.rtk_collect.specs.Laws.{HasEpoch, IsKept, KeptAreTaken}
use Rattle.rtk_collect.proofs.CellsLemmas.{with_cell-new, with_cell-past, with_cell-same}
use Rattle.rtk_collect.proofs.ArrivalsLemmas.{with_arrival-new, with_arrival-below, with_arrival-same}
use Rattle.rtk_collect.proofs.StationLemmas.{other-stays}
use Rattle.rtk_collect.proofs.LateLemmas.{kept-late, kept-new, station-late}
use Rattle.rtk_collect.specs.Entries.{Entries}

-- members of a merge

with_cell-among : {E S : Type 0} (es : Entries E S) (x c : E) (xs : List E) → AmongCells x (with_cell es c xs) → (x ≡ c) ⊎ AmongCells x xs
with_cell-among es x c [] m = m
with_cell-among {E = E} es x c (y ∷ ys) m = elim (cases_order (key es c) (key es y)) [
  | inl same ↦ inr (subst (λ (t : List E). AmongCells x t) (with_cell-same es c y ys same) m)
  | inr more ↦ elim more [
    | inl new ↦ subst (λ (t : List E). AmongCells x t) (with_cell-new es c y ys new) m
    | inr past ↦ elim (subst (λ (t : List E). AmongCells x t) (with_cell-past es c y ys past) m) [
      | inl e ↦ inr (inl e)
      | inr r ↦ elim (with_cell-among es x c ys r) [ inl e ↦ inl e | inr s ↦ inr (inr s) ]
    ]
  ]
]

among-with_cell : {E S : Type 0} (es : Entries E S) (x c : E) (xs : List E) → AmongCells x xs → AmongCells x (with_cell es c xs)
among-with_cell es x c [] m = absurd m
among-with_cell {E = E} es x c (y ∷ ys) m = elim (cases_order (key es c) (key es y)) [
  | inl same ↦ subst (λ (t : List E). AmongCells x t) (sym (with_cell-same es c y ys same)) m
  | inr more ↦ elim more [
    | inl new ↦ subst (λ (t : List E). AmongCells x t) (sym (with_cell-new es c y ys new)) (inr m)
    | inr past ↦ subst (λ (t : List E). AmongCells x t) (sym (with_cell-past es c y ys past)) (elim m [ inl e ↦ inl e | inr r ↦ inr (among-with_cell es x c ys r) ])
  ]
]

cell-joined : {E S : Type 0} (es : Entries E S) (c : E) (xs : List E) → (d : E) × AmongCells d (with_cell es c xs) × (key es d ≡ key es c) × ((d ≡ c) ⊎ AmongCells d xs)
cell-joined es c [] = (c, inl refl, refl, inl refl)
cell-joined {E = E} es c (y ∷ ys) = elim (cases_order (key es c) (key es y)) [
  | inl same ↦ (y, subst (λ (t : List E). AmongCells y t) (sym (with_cell-same es c y ys same)) (inl refl), sym same, inr (inl refl))
  | inr more ↦ elim more [
    | inl new ↦ (c, subst (λ (t : List E). AmongCells c t) (sym (with_cell-new es c y ys new)) (inl refl), refl, inl refl)
    | inr past ↦
        let j = cell-joined es c ys in
        (j.0, subst (λ (t : List E). AmongCells j.0 t) (sym (with_cell-past es c y ys past)) (inr j.1), j.2, elim j.3 [ inl e ↦ inl e | inr r ↦ inr (inr r) ])
  ]
]

with_cells-among : {E S : Type 0} (es : Entries E S) (x : E) (cs xs : List E) → AmongCells x (with_cells es cs xs) → AmongCells x cs ⊎ AmongCells x xs
with_cells-among es x [] xs m = inr m
with_cells-among es x (c ∷ more) xs m = elim (with_cells-among es x more (with_cell es c xs) m) [
  | inl a ↦ inl (inr a)
  | inr r ↦ elim (with_cell-among es x c xs r) [ inl e ↦ inl (inl e) | inr s ↦ inr s ]
]

among-with_cells : {E S : Type 0} (es : Entries E S) (x : E) (cs xs : List E) → AmongCells x xs → AmongCells x (with_cells es cs xs)
among-with_cells es x [] xs m = m
among-with_cells es x (c ∷ more) xs m = among-with_cells es x more (with_cell es c xs) (among-with_cell es x c xs m)

cells-joined : {E S : Type 0} (es : Entries E S) (c : E) (cs xs : List E) → AmongCells c cs → (d : E) × AmongCells d (with_cells es cs xs) × (key es d ≡ key es c)
cells-joined es c [] xs m = absurd m
cells-joined es c (y ∷ more) xs m = elim m [
  | inl e ↦ let j = cell-joined es y xs in (j.0, among-with_cells es j.0 more (with_cell es y xs) j.1, j.2 ∙ ap (key es) (sym e))
  | inr r ↦ cells-joined es c more (with_cell es y xs) r
]

-- members of the kept epochs

with_arrival-kept : {E S : Type 0} (es : Entries E S) (e : ℕ) (x : E) (f : ℕ) (cs : List E) (xs : List (EpochSetView E)) → IsKept e x (with_arrival es f cs xs) → ((f ≡ e) × AmongCells x cs) ⊎ IsKept e x xs
with_arrival-kept es e x f cs [] m = elim m [
  | inl h ↦ elim (with_cells-among es x cs [] h.1) [ inl a ↦ inl (h.0, a) | inr r ↦ absurd r ]
  | inr r ↦ absurd r
]
with_arrival-kept {E = E} es e x f cs (y ∷ ys) m = elim (cases_order y.epoch f) [
  | inl same ↦ elim (subst (λ (t : List (EpochSetView E)). IsKept e x t) (with_arrival-same es f cs y ys (sym same)) m) [
    | inl h ↦ elim (with_cells-among es x cs y.cells h.1) [ inl a ↦ inl (sym same ∙ h.0, a) | inr r ↦ inr (inl (h.0, r)) ]
    | inr r ↦ inr (inr r)
  ]
  | inr more ↦ elim more [
    | inl new ↦ elim (subst (λ (t : List (EpochSetView E)). IsKept e x t) (with_arrival-new es f cs y ys new) m) [
      | inl h ↦ elim (with_cells-among es x cs [] h.1) [ inl a ↦ inl (h.0, a) | inr r ↦ absurd r ]
      | inr r ↦ inr r
    ]
    | inr below ↦ elim (subst (λ (t : List (EpochSetView E)). IsKept e x t) (with_arrival-below es f cs y ys below) m) [
      | inl h ↦ inr (inl h)
      | inr r ↦ elim (with_arrival-kept es e x f cs ys r) [ inl a ↦ inl a | inr s ↦ inr (inr s) ]
    ]
  ]
]

kept-with_arrival : {E S : Type 0} (es : Entries E S) (e : ℕ) (x : E) (f : ℕ) (cs : List E) (xs : List (EpochSetView E)) → IsKept e x xs → IsKept e x (with_arrival es f cs xs)
kept-with_arrival es e x f cs [] m = absurd m
kept-with_arrival {E = E} es e x f cs (y ∷ ys) m = elim (cases_order y.epoch f) [
  | inl same ↦ subst (λ (t : List (EpochSetView E)). IsKept e x t) (sym (with_arrival-same es f cs y ys (sym same))) (elim m [ inl h ↦ inl (h.0, among-with_cells es x cs y.cells h.1) | inr r ↦ inr r ])
  | inr more ↦ elim more [
    | inl new ↦ subst (λ (t : List (EpochSetView E)). IsKept e x t) (sym (with_arrival-new es f cs y ys new)) (inr m)
    | inr below ↦ subst (λ (t : List (EpochSetView E)). IsKept e x t) (sym (with_arrival-below es f cs y ys below)) (elim m [ inl h ↦ inl h | inr r ↦ inr (kept-with_arrival es e x f cs ys r) ])
  ]
]

arrival-joined : {E S : Type 0} (es : Entries E S) (c : E) (e : ℕ) (cs : List E) (xs : List (EpochSetView E)) → AmongCells c cs → (d : E) × IsKept e d (with_arrival es e cs xs) × (key es d ≡ key es c)
arrival-joined es c e cs [] m = let j = cells-joined es c cs [] m in (j.0, inl (refl, j.1), j.2)
arrival-joined {E = E} es c e cs (y ∷ ys) m = elim (cases_order y.epoch e) [
  | inl same ↦ let j = cells-joined es c cs y.cells m in (j.0, subst (λ (t : List (EpochSetView E)). IsKept e j.0 t) (sym (with_arrival-same es e cs y ys (sym same))) (inl (same, j.1)), j.2)
  | inr more ↦ elim more [
    | inl new ↦ let j = cells-joined es c cs [] m in (j.0, subst (λ (t : List (EpochSetView E)). IsKept e j.0 t) (sym (with_arrival-new es e cs y ys new)) (inl (refl, j.1)), j.2)
    | inr below ↦ let j = arrival-joined es c e cs ys m in (j.0, subst (λ (t : List (EpochSetView E)). IsKept e j.0 t) (sym (with_arrival-below es e cs y ys below)) (inr j.1), j.2)
  ]
]

-- a cell that came in time, by recursion
abbrev pub TakenCell : {E S : Type 0} (es : Entries E S) (of : Message → List E) → ℕ → ℕ → E → List Arrival → Type 0
TakenCell es of n e c [] = ⊥
TakenCell es of n e c (At None m ∷ before) = TakenCell es of n e c before
TakenCell es of n e c (At (Some f) m ∷ before) = ((late n (At (Some f) m) before ≡ false) × (f ≡ e) × AmongCells c (of m)) ⊎ TakenCell es of n e c before

cell-taken : {E S : Type 0} (es : Entries E S) (of : Message → List E) (n e : ℕ) (c : E) (arrivals : List Arrival) → TakenCell es of n e c arrivals → IsTakenCell es of n e c arrivals
cell-taken es of n e c [] t = absurd t
cell-taken es of n e c (At None m ∷ before) t = let r = cell-taken es of n e c before t in (r.0, inr r.1, r.2)
cell-taken es of n e c (At (Some f) m ∷ before) t = elim t [
  | inl now ↦ (m, inl (now.0, ap (λ g. At (Some g) m) now.1), now.2)
  | inr r ↦ let s = cell-taken es of n e c before r in (s.0, inr s.1, s.2)
]

abbrev message_at : Arrival → Message
message_at (At e m) = m

abbrev moment_at : Arrival → Option ℕ
moment_at (At e m) = e

abbrev or_zero : Option ℕ → ℕ
or_zero None = 0
or_zero (Some e) = e

none-some : (e : ℕ) (m o : Message) → At None m ≡ At (Some e) o → ⊥
none-some e m o h = let q : None ≡ Some e = ap moment_at h in cc

taken-cell : {E S : Type 0} (es : Entries E S) (of : Message → List E) (n e : ℕ) (c : E) (m : Message) (arrivals : List Arrival) → IsTaken n (At (Some e) m) arrivals → AmongCells c (of m) → TakenCell es of n e c arrivals
taken-cell es of n e c m [] t a = absurd t
taken-cell es of n e c m (At None o ∷ before) t a = elim t [
  | inl now ↦ absurd (none-some e o m now.1)
  | inr r ↦ taken-cell es of n e c m before r a
]
taken-cell es of n e c m (At (Some f) o ∷ before) t a = elim t [
  | inl now ↦ inl (now.0, ap (λ x. or_zero (moment_at x)) now.1, subst (λ x. AmongCells c (of (message_at x))) (sym now.1) a)
  | inr r ↦ inr (taken-cell es of n e c m before r a)
]

kept-taken : {E S : Type 0} (es : Entries E S) (of : Message → List E) (n e : ℕ) (c : E) (arrivals : List Arrival) → IsKept e c (kept es of n arrivals) → TakenCell es of n e c arrivals
kept-taken es of n e c [] m = absurd m
kept-taken es of n e c (At None o ∷ before) m = kept-taken es of n e c before m
kept-taken es of n e c (At (Some f) o ∷ before) m = elim (cases_Bool (late n (At (Some f) o) before)) [
  | inl over ↦ inr (kept-taken es of n e c before (subst (IsKept e c) (kept-late es of n f o before over) m))
  | inr fresh ↦ elim (with_arrival-kept es e c f (of o) (kept es of n before) (subst (IsKept e c) (kept-new es of n f o before fresh) m)) [
    | inl now ↦ inl (fresh, now.0, now.1)
    | inr r ↦ inr (kept-taken es of n e c before r)
  ]
]

abbrev CellsAgree : {E S : Type 0} (es : Entries E S) (of : Message → List E) → ℕ → List Arrival → Type 0
CellsAgree {E = E} es of n arrivals = (e : ℕ) (c d : E) → TakenCell es of n e c arrivals → TakenCell es of n e d arrivals → key es c ≡ key es d → c ≡ d

taken-kept : {E S : Type 0} (es : Entries E S) (of : Message → List E) (n e : ℕ) (c : E) (arrivals : List Arrival) → CellsAgree es of n arrivals → TakenCell es of n e c arrivals → IsKept e c (kept es of n arrivals)
taken-kept es of n e c [] agree t = absurd t
taken-kept es of n e c (At None o ∷ before) agree t = taken-kept es of n e c before agree t
taken-kept {E = E} es of n e c (At (Some f) o ∷ before) agree t =
    let older : CellsAgree es of n before = λ g p q u v w. agree g p q (inr u) (inr v) w in
    elim (cases_Bool (late n (At (Some f) o) before)) [
      | inl over ↦ subst (IsKept e c) (sym (kept-late es of n f o before over)) (elim t [
        | inl now ↦ absurd (both_ways (late n (At (Some f) o) before) now.0 over)
        | inr r ↦ taken-kept es of n e c before older r
      ])
      | inr fresh ↦ subst (IsKept e c) (sym (kept-new es of n f o before fresh)) (elim t [
        | inl now ↦
            let j = arrival-joined es c f (of o) (kept es of n before) now.2 in
            let there : IsKept e j.0 (with_arrival es f (of o) (kept es of n before)) = subst (λ (g : ℕ). IsKept g j.0 (with_arrival es f (of o) (kept es of n before))) now.1 j.1 in
            let came : TakenCell es of n e j.0 (At (Some f) o ∷ before) = kept-taken es of n e j.0 (At (Some f) o ∷ before) (subst (IsKept e j.0) (sym (kept-new es of n f o before fresh)) there) in
            let same : j.0 ≡ c = agree e j.0 c came (inl now) j.2 in
            subst (λ (z : E). IsKept e z (with_arrival es f (of o) (kept es of n before))) same there
        | inr r ↦ kept-with_arrival es e c f (of o) (kept es of n before) (taken-kept es of n e c before older r)
      ])
    ]

-- the epochs that were opened

has-arrival : {E S : Type 0} (es : Entries E S) (e f : ℕ) (cs : List E) (xs : List (EpochSetView E)) → HasEpoch e (with_arrival es f cs xs) → (f ≡ e) ⊎ HasEpoch e xs
has-arrival es e f cs [] m = m
has-arrival es e f cs (y ∷ ys) m = elim (cases_order y.epoch f) [
  | inl same ↦ inr (subst (HasEpoch e) (with_arrival-same es f cs y ys (sym same)) m)
  | inr more ↦ elim more [
    | inl new ↦ subst (HasEpoch e) (with_arrival-new es f cs y ys new) m
    | inr below ↦ elim (subst (HasEpoch e) (with_arrival-below es f cs y ys below) m) [
      | inl q ↦ inr (inl q)
      | inr r ↦ elim (has-arrival es e f cs ys r) [ inl a ↦ inl a | inr s ↦ inr (inr s) ]
    ]
  ]
]

arrival-has : {E S : Type 0} (es : Entries E S) (e f : ℕ) (cs : List E) (xs : List (EpochSetView E)) → (f ≡ e) ⊎ HasEpoch e xs → HasEpoch e (with_arrival es f cs xs)
arrival-has es e f cs [] m = m
arrival-has es e f cs (y ∷ ys) m = elim (cases_order y.epoch f) [
  | inl same ↦ subst (HasEpoch e) (sym (with_arrival-same es f cs y ys (sym same))) (elim m [ inl a ↦ inl (same ∙ a) | inr r ↦ r ])
  | inr more ↦ elim more [
    | inl new ↦ subst (HasEpoch e) (sym (with_arrival-new es f cs y ys new)) m
    | inr below ↦ subst (HasEpoch e) (sym (with_arrival-below es f cs y ys below)) (elim m [
      | inl a ↦ inr (arrival-has es e f cs ys (inl a))
      | inr r ↦ elim r [ inl q ↦ inl q | inr s ↦ inr (arrival-has es e f cs ys (inr s)) ]
    ])
  ]
]

abbrev OpenedBy : ℕ → ℕ → List Arrival → Type 0
OpenedBy n e arrivals = (m : Message) × IsTaken n (At (Some e) m) arrivals

pub has-opened : {E S : Type 0} (es : Entries E S) (of : Message → List E) (n e : ℕ) (arrivals : List Arrival) → HasEpoch e (kept es of n arrivals) → OpenedBy n e arrivals
has-opened es of n e [] m = absurd m
has-opened es of n e (At None o ∷ before) m = let r = has-opened es of n e before m in (r.0, inr r.1)
has-opened es of n e (At (Some f) o ∷ before) m = elim (cases_Bool (late n (At (Some f) o) before)) [
  | inl over ↦ let r = has-opened es of n e before (subst (HasEpoch e) (kept-late es of n f o before over) m) in (r.0, inr r.1)
  | inr fresh ↦ elim (has-arrival es e f (of o) (kept es of n before) (subst (HasEpoch e) (kept-new es of n f o before fresh) m)) [
    | inl a ↦ (o, inl (fresh, ap (λ g. At (Some g) o) a))
    | inr r ↦ let s = has-opened es of n e before r in (s.0, inr s.1)
  ]
]

pub opened-has : {E S : Type 0} (es : Entries E S) (of : Message → List E) (n e : ℕ) (m : Message) (arrivals : List Arrival) → IsTaken n (At (Some e) m) arrivals → HasEpoch e (kept es of n arrivals)
opened-has es of n e m [] t = absurd t
opened-has es of n e m (At None o ∷ before) t = elim t [
  | inl now ↦ absurd (none-some e o m now.1)
  | inr r ↦ opened-has es of n e m before r
]
opened-has es of n e m (At (Some f) o ∷ before) t = elim (cases_Bool (late n (At (Some f) o) before)) [
  | inl over ↦ subst (HasEpoch e) (sym (kept-late es of n f o before over)) (elim t [ inl now ↦ absurd (both_ways (late n (At (Some f) o) before) now.0 over) | inr r ↦ opened-has es of n e m before r ])
  | inr fresh ↦ subst (HasEpoch e) (sym (kept-new es of n f o before fresh))
      (arrival-has es e f (of o) (kept es of n before) (elim t [ inl now ↦ inl (ap (λ x. or_zero (moment_at x)) now.1) | inr r ↦ inr (opened-has es of n e m before r) ]))
]

-- the station messages

abbrev StationsAgree : ℕ → List Arrival → Type 0
StationsAgree n arrivals = (m o : Message) → IsTaken n (At None m) arrivals → IsTaken n (At None o) arrivals → number_of m ≡ number_of o → m ≡ o

some-some : (x y : Message) → Some x ≡ Some y → x ≡ y
some-some x y h = ap (λ o. unwrap_or o x) h

now-kept : (n k : ℕ) (m : Message) (before : List Arrival) → late n (At None m) before ≡ false → number_of m ≡ k → station n k (At None m ∷ before) ≡ first (station n k before) m
now-kept n k m before h num =
    ap (λ b. if b && not (late n (At None m) before) then first (station n k before) m else station n k before) (eq-eqb (number_of m) k num)
    ∙ ap (λ b. if not b then first (station n k before) m else station n k before) h

-- the kept one by its cases
first-is : (o : Option Message) (m x : Message) → first o m ≡ Some x → (o ≡ Some x) ⊎ (m ≡ x)
first-is None m x h = inr (some-some m x h)
first-is (Some y) m x h = inl h

pub station-taken : (n k : ℕ) (x : Message) (arrivals : List Arrival) → station n k arrivals ≡ Some x → IsTaken n (At None x) arrivals × (number_of x ≡ k)
station-taken n k x [] h = cc
station-taken n k x (At (Some e) m ∷ before) h = let r = station-taken n k x before h in (inr r.0, r.1)
station-taken n k x (At None m ∷ before) h = elim (cases_eq (number_of m) k) [
  | inl same ↦ elim (cases_Bool (late n (At None m) before)) [
    | inl over ↦ let r = station-taken n k x before (sym (station-late n k m before over) ∙ h) in (inr r.0, r.1)
    | inr fresh ↦ elim (first-is (station n k before) m x (sym (now-kept n k m before fresh same) ∙ h)) [
      | inl old ↦ let r = station-taken n k x before old in (inr r.0, r.1)
      | inr new ↦ (inl (fresh, ap (At None) new), ap number_of (sym new) ∙ same)
    ]
  ]
  | inr other ↦ let r = station-taken n k x before (sym (other-stays n k m before other) ∙ h) in (inr r.0, r.1)
]

first-agrees : (o : Option Message) (m : Message) → ((x : Message) → o ≡ Some x → x ≡ m) → first o m ≡ Some m
first-agrees None m h = refl
first-agrees (Some y) m h = ap Some (h y refl)

pub taken-station : (n : ℕ) (x : Message) (arrivals : List Arrival) → StationsAgree n arrivals → IsTaken n (At None x) arrivals → station n (number_of x) arrivals ≡ Some x
taken-station n x [] agree t = absurd t
taken-station n x (At (Some e) m ∷ before) agree t = elim t [
  | inl now ↦ absurd (none-some e x m (sym now.1))
  | inr r ↦ taken-station n x before (λ p q u v. agree p q (inr u) (inr v)) r
]
taken-station n x (At None m ∷ before) agree t =
    let older : StationsAgree n before = λ p q u v. agree p q (inr u) (inr v) in
    elim (cases_eq (number_of m) (number_of x)) [
      | inl same ↦ elim (cases_Bool (late n (At None m) before)) [
        | inl over ↦ station-late n (number_of x) m before over ∙ elim t [ inl now ↦ absurd (both_ways (late n (At None m) before) now.0 over) | inr r ↦ taken-station n x before older r ]
        | inr fresh ↦
            let is : m ≡ x = agree m x (inl (fresh, refl)) t same in
            now-kept n (number_of x) m before fresh same ∙ ap (first (station n (number_of x) before)) is
            ∙ first-agrees (station n (number_of x) before) x (λ y h. let r = station-taken n (number_of x) y before h in agree y x (inr r.0) t r.1)
      ]
      | inr other ↦ other-stays n (number_of x) m before other ∙ elim t [
        | inl now ↦ absurd (other (ap (λ a. number_of (message_at a)) now.1))
        | inr r ↦ taken-station n x before older r
      ]
    ]

agree-cells : {E S : Type 0} (es : Entries E S) (of : Message → List E) (n : ℕ) (arrivals : List Arrival) → IsConsistent es of n arrivals → CellsAgree es of n arrivals
agree-cells es of n arrivals h e c d t u k = h.cells e c d (cell-taken es of n e c arrivals t) (cell-taken es of n e d arrivals u) k

pub kept-are-taken : {E S : Type 0} (es : Entries E S) (of : Message → List E) → KeptAreTaken es of
kept-are-taken es of n arrivals = (
  (λ e. (has-opened es of n e arrivals, λ o. opened-has es of n e o.0 arrivals o.1)),
  (λ e c m. cell-taken es of n e c arrivals (kept-taken es of n e c arrivals m)),
  (λ m k h. station-taken n k m arrivals h),
  (λ h. ((λ e c t. taken-kept es of n e c arrivals (agree-cells es of n arrivals h) (taken-cell es of n e c t.0 arrivals t.1 t.2)), (λ m t. taken-station n m arrivals h.stations t))),
)
