-- What a window of GPS answers, with its cells as signals of any system.
use Rattle.std.proofs.Common.{◌≡◌, ◌≢◌, ◌∙◌, ◌↔◌, filter, ℕ, ◌+◌, ◌-◌, ◌*◌, ◌<◌, ℤ, Bool, true, false, cond, List, [], ◌∷◌, ◌++◌, map, take, Option, None, Some, inl, inr, refl, ap, sym, subst, arith, nat_eq}
use Rattle.std.specs.Prelude.{All, IsTrue, option_map, option_to_list, nat_lt, nat_le, ◌==◌, ◌||◌, ◌&&◌, not}
use Rattle.std.specs.List.{list_all, list_any}
use Rattle.std.proofs.lemmas.Bool.{cases_order, cases_lt, cases_Bool, and_parts, both_ways, eqb-true}
use Rattle.std.proofs.lemmas.Bool.Decides.{nat_tests}
use Rattle.std.proofs.lemmas.List.{map-append, take-map}
use Rattle.std.proofs.lemmas.List.Elements.{All-cons, All-head, All-tail, All-weaker}
use Rattle.rtk_message.specs.declared.accepted.Accepted.{Accepted}
use Rattle.rtk_message.specs.declared.any_message.AnyMessage.{AnyMessage as Message}
use Rattle.rtk_message.specs.declared.any_message.AnyMessage.TheVariants as any
use Rattle.rtk_message.specs.declared.system.System.{System}
use Rattle.rtk_message.specs.declared.system.System.TheVariants.{Gps, Glonass, Galileo, Beidou, Qzss, Sbas, Navic}
use Rattle.rtk_message.specs.Accepted as accepted
use Rattle.rtk_message.specs.AnyDecoded.{number_of}
use Rattle.rtk_message.specs.MsmForm.{type_of}
use Rattle.rtk_message.proofs.PublicLaws.{accepts-type, takes-gps}
use Rattle.rtk_obs.specs.declared.any_code.AnyCode.{AnyCode}
use Rattle.rtk_obs.specs.declared.cell.Cell.{Cell}
use Rattle.rtk_obs.specs.declared.cell.CellEntry.{CellEntry}
use Rattle.rtk_obs.specs.declared.code.Code.{Code}
use Rattle.rtk_obs.specs.declared.signal_cells.SignalEntry.{SignalEntry}
use Rattle.rtk_obs.specs.AnyCode.{code_of_gps}
use Rattle.rtk_obs.specs.AnyCode as any_code
use Rattle.rtk_obs.specs.Cell.{IsSatellite}
use Rattle.rtk_obs.proofs.PublicLaws.{cells_of-satellites, entries-of-gps, number-of-gps, place_bound, same_signal}
use Rattle.rtk_obs.specs.Code.{place_of}
use Rattle.rtk_obs.specs.MessageCells.{cells_of}
use Rattle.rtk_obs.specs.SatelliteIndex.{letter_of}
use Rattle.rtk_obs.specs.SignalCells.{signal_of, entries_of}
use Rattle.rtk_collect.specs.declared.conflicts.AnySatelliteCode.{AnySatelliteCode}
use Rattle.rtk_collect.specs.declared.conflicts.SatelliteCode.{SatelliteCode}
use Rattle.rtk_collect.specs.declared.outcome.Outcome.{Outcome}
use Rattle.rtk_collect.specs.declared.outcome.Outcome.TheVariants.{Taken, Conflict, Repeat, Late}
use Rattle.rtk_collect.specs.Accepted.{kept, cells_at, closed}
use Rattle.rtk_collect.specs.Answer.{Class, LateClass, IsRightAnswer, class_by, class_of, class_of_cells, class_in_time, conflicts_of, conflicts_with}
use Rattle.rtk_collect.specs.Arrival.{Arrival, At, message_of}
use Rattle.rtk_collect.specs.Collector.{CollectorView, RepresentsArrivals}
use Rattle.rtk_collect.specs.EpochSet.{AreLeftBeside, EpochSetView, left_beside, with_cell, cell_under, one_more, fresh, equal_values, conflict, conflicts}
use Rattle.rtk_collect.specs.Gps.{gps}
use Rattle.rtk_collect.specs.Key.{Above, KeysRise, key}
use Rattle.rtk_collect.specs.Late.{epochs, greater, late}
use Rattle.rtk_collect.specs.Offered.{AnswersArrival}
use Rattle.rtk_collect.specs.Signals.{signals, entries_by, GpsIsKept, GpsKeepsItsOrder, IsGpsMessage, epoch_of_signals}
use Rattle.rtk_collect.proofs.PublicLaws.{gps-keeps-its-order, gps-is-kept}
use Rattle.rtk_rinex.specs.MixedHead.{letter}
use Rattle.rtk_convert.specs.Conversion.{AllTaken}
use Rattle.rtk_convert.specs.Epochs.{set_of, window_of, outcome_of}
use Rattle.rtk_convert.proofs.EntriesLemmas.{filter-map}
use Rattle.rtk_setup.specs.Setup.{SetupView, cells_by, is_of_gps, kinds_taken, obs1012_taken, taken_by, takes, channels_of}
use Rattle.rtk_convert.specs.Steps.AddedMessage.{IsTakenBy}
use Rattle.rtk_convert.specs.Steps.OfferedMessage.{AnswersMessage, name_of_gps}
use Rattle.rtk_convert.proofs.EntriesLemmas.{filter-map}

-- ---- a setup with codes of GPS alone takes messages of GPS alone, and stations

not-first : (b c : Bool) → b ≡ false → c ≡ false → (b || c) ≡ false
not-first true c h k = h
not-first false c h k = k

letter-no : (l m : ℕ) → (l == 71) ≡ true → m ≢ 71 → (l == m) ≡ false
letter-no l m h ne = let e : l ≡ 71 = eqb-true l 71 h in grind (arith, nat_tests)

lists-none : (listed : List AnyCode) (m : ℕ) → list_all (λ c. letter c == 71) listed ≡ true → m ≢ 71 → list_any (λ c. letter c == m) listed ≡ false
lists-none [] m h ne = refl
lists-none (c ∷ listed) m h ne =
    let p = and_parts (letter c == 71) (list_all (λ c. letter c == 71) listed) h in
    not-first (letter c == m) (list_any (λ c. letter c == m) listed) (letter-no (letter c) m p.0 ne) (lists-none listed m p.1 ne)

-- all codes are of GPS, and the file shows no Doppler shifts
pub gps-alone : (s : SetupView) → IsTrue (is_of_gps s) → list_all (λ c. letter c == 71) s.head.listed ≡ true
gps-alone s is = (and_parts (not s.head.doppler) (list_all (λ c. letter c == 71) s.head.listed) is).1

not-shown : (b : Bool) → not b ≡ true → b ≡ false
not-shown false h = refl
not-shown true h = absurd cc

pub shows-none : (s : SetupView) → IsTrue (is_of_gps s) → s.head.doppler ≡ false
shows-none s is = not-shown s.head.doppler (and_parts (not s.head.doppler) (list_all (λ c. letter c == 71) s.head.listed) is).0

-- no kind of another system is taken
kinds-none : (s : SetupView) (system : System) → IsTrue (is_of_gps s) → letter_of system ≢ 71 → kinds_taken s system ≡ accepted.no_kind
kinds-none s system is ne = rw (lists-none s.head.listed (letter_of system) (gps-alone s is) ne) refl

and-false : (b : Bool) → (b && false) ≡ false
and-false true = refl
and-false false = refl

-- 1012 is not taken
none-of-1012 : (s : SetupView) → IsTrue (is_of_gps s) → obs1012_taken s ≡ false
none-of-1012 s is = ap (λ (b : Bool). s.takes_1012 && b) (lists-none s.head.listed (letter_of Glonass) (gps-alone s is) (λ e. omega arith)) ∙ and-false s.takes_1012

-- the cells are those without SBAS in a 1004
pub gps-cells : (s : SetupView) → IsTrue (is_of_gps s) → cells_by s ≡ entries_of (channels_of s.head.glonass)
gps-cells s is =
    ap (λ (b : Bool). entries_by b s.head.doppler (channels_of s.head.glonass)) (lists-none s.head.listed (letter_of Sbas) (gps-alone s is) (λ e. omega arith))
    ∙ ap (λ (d : Bool). entries_by false d (channels_of s.head.glonass)) (shows-none s is)

pub taken-of-gps : (s : SetupView) → IsTrue (is_of_gps s) → taken_by s ≡ accepted.of_gps (kinds_taken s Gps)
taken-of-gps s is =
    rw (
      kinds-none s Glonass is (λ e. omega arith),
      kinds-none s Galileo is (λ e. omega arith),
      kinds-none s Beidou is (λ e. omega arith),
      kinds-none s Qzss is (λ e. omega arith),
      kinds-none s Sbas is (λ e. omega arith),
      kinds-none s Navic is (λ e. omega arith),
      none-of-1012 s is,
    ) refl

-- a message that the setup takes is read
pub accepts-taken : (s : SetupView) (n : ℕ) → IsTrue (takes s n) → accepted.accepts (taken_by s) n ≡ true
accepts-taken s n h = elim (cases_Bool (n == 1004)) [
  | inl is ↦ rw is refl
  | inr other ↦ rw other (rw other at h)
]

pub gps-message : (s : SetupView) (m : Message) → IsTrue (is_of_gps s) → IsTakenBy s m → IsGpsMessage m
gps-message s (any.Message m) is h = tt
gps-message s (any.Msm m) is h =
    takes-gps (kinds_taken s Gps) (type_of m)
    (ap (λ (a : Accepted). accepted.takes a (type_of m)) (sym (taken-of-gps s is)) ∙ sym (accepts-type (taken_by s) (type_of m)) ∙ accepts-taken s (number_of (any.Msm m)) h)
gps-message s (any.Obs1012 m) is h = both_ways (obs1012_taken s) (none-of-1012 s is) h

pub gps-messages : (s : SetupView) (arrivals : List Arrival) → IsTrue (is_of_gps s) → AllTaken s arrivals → All (λ (a : Arrival). IsGpsMessage (message_of a)) arrivals
gps-messages s arrivals is h =
    All-weaker (λ (a : Arrival). IsTrue (takes s (number_of (message_of a)))) (λ (a : Arrival). IsGpsMessage (message_of a)) (λ a taken. gps-message s (message_of a) is taken) arrivals h

pub entries-same : (channels : List (Option ℤ)) (m : Message) → IsGpsMessage m → entries_of channels m ≡ map signal_of (cells_of m)
entries-same channels (any.Message m) is = refl
entries-same channels (any.Msm m) is = entries-of-gps channels m is
entries-same channels (any.Obs1012 m) is = absurd is

-- ---- cells of GPS as cells of any system

code-once : (c d : Code) → code_of_gps c ≡ code_of_gps d → c ≡ d
code-once c d same =
    let place : place_of c ≡ place_of d = sym (number-of-gps c) ∙ ap any_code.number_of same ∙ number-of-gps d in
    (same_signal 1 1 c d (omega arith, omega arith) (omega arith, omega arith) (ap (λ (k : ℕ). (1 - 1) * 16 + k) place)).1

abbrev cell_entry : ℕ → Code → Cell → CellEntry
cell_entry s c x = record { satellite = s; code = c; cell = x }

entry-once : (c d : CellEntry) → signal_of c ≡ signal_of d → c ≡ d
entry-once c d h =
    let one : c.satellite ≡ d.satellite = ap (λ (e : SignalEntry). e.satellite) h in
    let two : c.code ≡ d.code = code-once c.code d.code (ap (λ (e : SignalEntry). e.code) h) in
    let three : c.cell ≡ d.cell = ap (λ (e : SignalEntry). e.cell) h in
    ap (λ (s : ℕ). cell_entry s c.code c.cell) one ∙ ap (λ (k : Code). cell_entry d.satellite k c.cell) two ∙ ap (λ (x : Cell). cell_entry d.satellite d.code x) three

module _ {A B : Type 0} (f : A → B) (once : (x y : A) → f x ≡ f y → x ≡ y) where
  first_or : B → List B → B
  first_or d [] = d
  first_or d (x ∷ xs) = x

  rest_of : List B → List B
  rest_of [] = []
  rest_of (x ∷ xs) = xs

  pub map-once : (xs ys : List A) → map f xs ≡ map f ys → xs ≡ ys
  unfolding first_or rest_of
  map-once [] [] h = refl
  map-once [] (y ∷ ys) h = cc
  map-once (x ∷ xs) [] h = cc
  map-once (x ∷ xs) (y ∷ ys) h =
      ap (λ (z : A). z ∷ xs) (once x y (ap (first_or (f x)) h)) ∙ ap (λ (zs : List A). y ∷ zs) (map-once xs ys (ap rest_of h))

epoch-once : (x y : EpochSetView CellEntry) → epoch_of_signals x ≡ epoch_of_signals y → x ≡ y
epoch-once x y h =
    let one : x.epoch ≡ y.epoch = ap (λ (e : EpochSetView SignalEntry). e.epoch) h in
    let two : x.cells ≡ y.cells = map-once signal_of entry-once x.cells y.cells (ap (λ (e : EpochSetView SignalEntry). e.cells) h) in
    ap (λ (e : ℕ). record { epoch = e; cells = x.cells }) one ∙ ap (λ (cs : List CellEntry). record { epoch = y.epoch; cells = cs }) two

pub sets-once : (xs ys : List (EpochSetView CellEntry)) → map epoch_of_signals xs ≡ map epoch_of_signals ys → xs ≡ ys
sets-once xs ys h = map-once epoch_of_signals epoch-once xs ys h

-- ---- what is fresh and what conflicts

less-same : (a b c d : ℕ) → (a < b) ↔ (c < d) → nat_lt c d ≡ nat_lt a b
less-same a b c d h = elim (cases_lt a b) [
  | inl l ↦ let m = h.0 l in grind (arith, nat_tests)
  | inr l ↦ elim (cases_lt c d) [
    | inl m ↦ absurd (let n = h.1 m in omega arith)
    | inr m ↦ grind (arith, nat_tests)
  ]
]

equal-same : (a b c d : ℕ) → (a < b) ↔ (c < d) → (b < a) ↔ (d < c) → (c == d) ≡ (a == b)
equal-same a b c d h k = elim (cases_order a b) [
  | inl e ↦ elim (cases_order c d) [
    | inl f ↦ grind (arith, nat_tests)
    | inr (inl l) ↦ absurd (let n = h.1 l in omega arith)
    | inr (inr l) ↦ absurd (let n = k.1 l in omega arith)
  ]
  | inr (inl l) ↦ let m = h.0 l in grind (arith, nat_tests)
  | inr (inr l) ↦ let m = k.0 l in grind (arith, nat_tests)
]

-- its satellite is one of GPS
abbrev HasSatellite : CellEntry → Type 0
HasSatellite e = IsSatellite e.satellite

name-same : (e : CellEntry) → HasSatellite e → name_of_gps (gps.signal e) ≡ signals.signal (signal_of e)
name-same e h =
    let low = h.0 in
    let high = h.1 in
    let one : nat_le 1 e.satellite ≡ true = grind (arith, nat_tests) in
    let two : nat_le e.satellite 221 ≡ true = grind (arith, nat_tests) in
    rw (one, two) refl

module _ (order : GpsKeepsItsOrder) where
  less : (c d : CellEntry) → nat_lt (key signals (signal_of c)) (key signals (signal_of d)) ≡ nat_lt (key gps c) (key gps d)
  less c d = less-same (key gps c) (key gps d) (key signals (signal_of c)) (key signals (signal_of d)) (order c d)

  equal : (c d : CellEntry) → (key signals (signal_of c) == key signals (signal_of d)) ≡ (key gps c == key gps d)
  equal c d = equal-same (key gps c) (key gps d) (key signals (signal_of c)) (key signals (signal_of d)) (order c d) (order d c)

  with-if : (p q : Bool) (c x : CellEntry) (xs zs : List CellEntry) (ys : List SignalEntry) → ys ≡ map signal_of zs
      → cond p (signal_of c ∷ signal_of x ∷ map signal_of xs) (cond q (signal_of x ∷ ys) (signal_of x ∷ map signal_of xs)) ≡ map signal_of (cond p (c ∷ x ∷ xs) (cond q (x ∷ zs) (x ∷ xs)))
  with-if true q c x xs zs ys e = refl
  with-if false true c x xs zs ys e = ap (λ (ts : List SignalEntry). signal_of x ∷ ts) e
  with-if false false c x xs zs ys e = refl

  with-same : (c : CellEntry) (xs : List CellEntry) → with_cell signals (signal_of c) (map signal_of xs) ≡ map signal_of (with_cell gps c xs)
  with-same c [] = refl
  with-same c (x ∷ xs) =
      ap (λ (b : Bool). cond b (signal_of c ∷ signal_of x ∷ map signal_of xs)
      (cond (nat_lt (key signals (signal_of x)) (key signals (signal_of c))) (signal_of x ∷ with_cell signals (signal_of c) (map signal_of xs)) (signal_of x ∷ map signal_of xs))) (less c x)
      ∙ ap (λ (b : Bool). cond (nat_lt (key gps c) (key gps x)) (signal_of c ∷ signal_of x ∷ map signal_of xs)
      (cond b (signal_of x ∷ with_cell signals (signal_of c) (map signal_of xs)) (signal_of x ∷ map signal_of xs))) (less x c)
      ∙ with-if (nat_lt (key gps c) (key gps x)) (nat_lt (key gps x) (key gps c)) c x xs (with_cell gps c xs) (with_cell signals (signal_of c) (map signal_of xs)) (with-same c xs)

  under-if : (b : Bool) (x : CellEntry) (o : Option CellEntry) (p : Option SignalEntry) → p ≡ option_map signal_of o → cond b (Some (signal_of x)) p ≡ option_map signal_of (cond b (Some x) o)
  under-if true x o p e = refl
  under-if false x o p e = e

  under-same : (c : CellEntry) (xs : List CellEntry) → cell_under signals (key signals (signal_of c)) (map signal_of xs) ≡ option_map signal_of (cell_under gps (key gps c) xs)
  under-same c [] = refl
  under-same c (x ∷ xs) =
      ap (λ (b : Bool). cond b (Some (signal_of x)) (cell_under signals (key signals (signal_of c)) (map signal_of xs))) (equal c x)
      ∙ under-if (key gps c == key gps x) x (cell_under gps (key gps c) xs) (cell_under signals (key signals (signal_of c)) (map signal_of xs)) (under-same c xs)

  more-same : (o : Option CellEntry) (n : ℕ) → one_more (option_map signal_of o) n ≡ one_more o n
  more-same None n = refl
  more-same (Some x) n = refl

  fresh-same : (cs xs : List CellEntry) → fresh signals (map signal_of cs) (map signal_of xs) ≡ fresh gps cs xs
  fresh-same [] xs = refl
  fresh-same (c ∷ cs) xs =
      ap (λ (o : Option SignalEntry). one_more o (fresh signals (map signal_of cs) (map signal_of xs))) (under-same c xs)
      ∙ more-same (cell_under gps (key gps c) xs) (fresh signals (map signal_of cs) (map signal_of xs)) ∙ ap (one_more (cell_under gps (key gps c) xs)) (fresh-same cs xs)

  conflict-if : (b : Bool) (x y : AnySatelliteCode) (z : SatelliteCode) → name_of_gps z ≡ x → cond b [] (x ∷ []) ≡ map name_of_gps (cond b [] (z ∷ []))
  conflict-if true x y z e = refl
  conflict-if false x y z e = ap (λ (n : AnySatelliteCode). n ∷ []) (sym e)

  conflict-same : (c : CellEntry) (o : Option CellEntry) → HasSatellite c → conflict signals (signal_of c) (option_map signal_of o) ≡ map name_of_gps (conflict gps c o)
  conflict-same c None h = refl
  conflict-same c (Some x) h = conflict-if (equal_values gps x c) (signals.signal (signal_of c)) (signals.signal (signal_of c)) (gps.signal c) (name-same c h)

  conflicts-same : (cs xs : List CellEntry) → All HasSatellite cs → conflicts signals (map signal_of cs) (map signal_of xs) ≡ map name_of_gps (conflicts gps cs xs)
  conflicts-same [] xs h = refl
  conflicts-same (c ∷ cs) xs h =
      ap (λ (o : Option SignalEntry). conflict signals (signal_of c) o ++ conflicts signals (map signal_of cs) (with_cell signals (signal_of c) (map signal_of xs))) (under-same c xs)
      ∙ ap (λ (ys : List SignalEntry). conflict signals (signal_of c) (option_map signal_of (cell_under gps (key gps c) xs)) ++ conflicts signals (map signal_of cs) ys) (with-same c xs)
      ∙ ap (λ (ns : List AnySatelliteCode). ns ++ conflicts signals (map signal_of cs) (map signal_of (with_cell gps c xs))) (conflict-same c (cell_under gps (key gps c) xs) (All-head HasSatellite c cs h))
      ∙ ap (λ (ns : List AnySatelliteCode). map name_of_gps (conflict gps c (cell_under gps (key gps c) xs)) ++ ns) (conflicts-same cs (with_cell gps c xs) (All-tail HasSatellite c cs h))
      ∙ sym (map-append name_of_gps (conflict gps c (cell_under gps (key gps c) xs)) (conflicts gps cs (with_cell gps c xs)))

  by-same : (xs : List SatelliteCode) → class_by (map name_of_gps xs) ≡ class_by xs
  by-same [] = refl
  by-same (x ∷ xs) = refl

  class-same : (cs : List CellEntry) (o : Option (List CellEntry)) → All HasSatellite cs → class_of_cells signals (map signal_of cs) (option_map (map signal_of) o) ≡ class_of_cells gps cs o
  class-same cs None h = refl
  class-same cs (Some held) h =
      rw (fresh-same cs held, conflicts-same cs held h, by-same (conflicts gps cs held)) refl

  with-conflicts : (cs : List CellEntry) (o : Option (List CellEntry)) → All HasSatellite cs → conflicts_with signals (map signal_of cs) (option_map (map signal_of) o) ≡ map name_of_gps (conflicts_with gps cs o)
  with-conflicts cs None h = conflicts-same cs [] h
  with-conflicts cs (Some held) h = conflicts-same cs held h

  at-if : (b : Bool) (x : List CellEntry) (o : Option (List CellEntry)) (p : Option (List SignalEntry)) → p ≡ option_map (map signal_of) o → cond b (Some (map signal_of x)) p ≡ option_map (map signal_of) (cond b (Some x) o)
  at-if true x o p e = refl
  at-if false x o p e = e

  at-same : (e : ℕ) (xs : List (EpochSetView CellEntry)) → cells_at e (map epoch_of_signals xs) ≡ option_map (map signal_of) (cells_at e xs)
  at-same e [] = refl
  at-same e (x ∷ xs) = at-if (e == x.epoch) x.cells (cells_at e xs) (cells_at e (map epoch_of_signals xs)) (at-same e xs)

  -- ---- the answer

  module _ (law : GpsIsKept) (channels : List (Option ℤ)) (n : ℕ) where
    closed-same : (arrivals : List Arrival) → All (λ (a : Arrival). IsGpsMessage (message_of a)) arrivals
        → closed signals (entries_of channels) n arrivals ≡ map epoch_of_signals (closed gps cells_of n arrivals)
    closed-same arrivals h =
        ap (filter (λ (x : EpochSetView SignalEntry). nat_le n (greater (Some x.epoch) (epochs arrivals)))) (law channels n arrivals h)
        ∙ filter-map epoch_of_signals (λ x. nat_le n (greater (Some x.epoch) (epochs arrivals))) (λ x. nat_le n (greater (Some x.epoch) (epochs arrivals))) (λ e. refl) (kept gps cells_of n arrivals)

    class-is : (a : Arrival) (before : List Arrival) → IsGpsMessage (message_of a) → All (λ (b : Arrival). IsGpsMessage (message_of b)) before → All HasSatellite (cells_of (message_of a))
        → class_in_time signals (entries_of channels) n a before ≡ class_in_time gps cells_of n a before
    class-is (At None m) before is h range = refl
    class-is (At (Some e) m) before is h range =
        ap (λ (cs : List SignalEntry). class_of_cells signals cs (cells_at e (kept signals (entries_of channels) n before))) (entries-same channels m is)
        ∙ ap (λ (xs : List (EpochSetView SignalEntry)). class_of_cells signals (map signal_of (cells_of m)) (cells_at e xs)) (law channels n before h)
        ∙ ap (class_of_cells signals (map signal_of (cells_of m))) (at-same e (kept gps cells_of n before))
        ∙ class-same (cells_of m) (cells_at e (kept gps cells_of n before)) range

    conflicts-are : (a : Arrival) (before : List Arrival) → IsGpsMessage (message_of a) → All (λ (b : Arrival). IsGpsMessage (message_of b)) before → All HasSatellite (cells_of (message_of a))
        → conflicts_of signals (entries_of channels) n a before ≡ map name_of_gps (conflicts_of gps cells_of n a before)
    conflicts-are (At None m) before is h range = refl
    conflicts-are (At (Some e) m) before is h range =
        ap (λ (cs : List SignalEntry). conflicts_with signals cs (cells_at e (kept signals (entries_of channels) n before))) (entries-same channels m is)
        ∙ ap (λ (xs : List (EpochSetView SignalEntry)). conflicts_with signals (map signal_of (cells_of m)) (cells_at e xs)) (law channels n before h)
        ∙ ap (conflicts_with signals (map signal_of (cells_of m))) (at-same e (kept gps cells_of n before))
        ∙ with-conflicts (cells_of m) (cells_at e (kept gps cells_of n before)) range

    class-of : (a : Arrival) (before : List Arrival) → IsGpsMessage (message_of a) → All (λ (b : Arrival). IsGpsMessage (message_of b)) before → All HasSatellite (cells_of (message_of a))
        → class_of signals (entries_of channels) n a before ≡ class_of gps cells_of n a before
    class-of a before is h range = ap (λ (c : Class). cond (late n a before) LateClass c) (class-is a before is h range)

    done-same : (o : Option (EpochSetView CellEntry)) (xs : List (EpochSetView CellEntry))
        → map epoch_of_signals (option_to_list o ++ xs) ≡ option_to_list (option_map (set_of signal_of) o) ++ map epoch_of_signals xs
    done-same None xs = refl
    done-same (Some x) xs = refl

    module _ (a : Arrival) (before : List Arrival) (is : IsGpsMessage (message_of a)) (h : All (λ (b : Arrival). IsGpsMessage (message_of b)) before) (range : All HasSatellite (cells_of (message_of a))) where
      all : All (λ (b : Arrival). IsGpsMessage (message_of b)) (a ∷ before)
      all = All-cons (λ (b : Arrival). IsGpsMessage (message_of b)) a before is h

      no-more : closed gps cells_of n (a ∷ before) ≡ closed gps cells_of n before → closed signals (entries_of channels) n (a ∷ before) ≡ closed signals (entries_of channels) n before
      no-more e = closed-same (a ∷ before) all ∙ ap (map epoch_of_signals) e ∙ sym (closed-same before h)

      pub right-same : (offer : Outcome CellEntry SatelliteCode) (listed : List SatelliteCode) → IsRightAnswer gps cells_of n a before offer listed
          → IsRightAnswer signals (entries_of channels) n a before (outcome_of signal_of offer) (map name_of_gps listed)
      right-same Late listed r = (class-of a before is h range ∙ r.0, ap (map name_of_gps) r.1, no-more r.2)
      right-same (Taken done) listed r = (
        class-of a before is h range ∙ r.0,
        ap (map name_of_gps) r.1 ∙ sym (conflicts-are a before is h range),
        closed-same (a ∷ before) all ∙ ap (map epoch_of_signals) r.2 ∙ done-same done (closed gps cells_of n before)
            ∙ ap (λ (xs : List (EpochSetView SignalEntry)). option_to_list (option_map (set_of signal_of) done) ++ xs) (sym (closed-same before h)),
      )
      right-same Conflict listed r = (class-of a before is h range ∙ r.0, ap (map name_of_gps) r.1 ∙ sym (conflicts-are a before is h range), no-more r.2)
      right-same Repeat listed r = (class-of a before is h range ∙ r.0, ap (map name_of_gps) r.1, no-more r.2)

    pub represents-signals : (w : CollectorView CellEntry) (arrivals : List Arrival) → w.places ≡ n → All (λ (a : Arrival). IsGpsMessage (message_of a)) arrivals → RepresentsArrivals gps cells_of w arrivals
        → RepresentsArrivals signals (entries_of channels) (window_of signal_of w) arrivals
    represents-signals w arrivals size h r = record {
      sets = ap (map epoch_of_signals) r.sets ∙ sym (take-map epoch_of_signals w.places (kept gps cells_of w.places arrivals))
          ∙ ap (λ (k : ℕ). take w.places (map epoch_of_signals (kept gps cells_of k arrivals))) size
          ∙ ap (take w.places) (sym (law channels n arrivals h)) ∙ ap (λ (k : ℕ). take w.places (kept signals (entries_of channels) k arrivals)) (sym size);
      arp1005 = r.arp1005;
      arp1006 = r.arp1006;
    }

    pub represents-gps : (w : CollectorView CellEntry) (arrivals : List Arrival) → w.places ≡ n → All (λ (a : Arrival). IsGpsMessage (message_of a)) arrivals
        → RepresentsArrivals signals (entries_of channels) (window_of signal_of w) arrivals → RepresentsArrivals gps cells_of w arrivals
    represents-gps w arrivals size h r = record {
      sets = sets-once w.sets (take w.places (kept gps cells_of w.places arrivals))
          (r.sets ∙ ap (λ (k : ℕ). take w.places (kept signals (entries_of channels) k arrivals)) size ∙ ap (take w.places) (law channels n arrivals h)
          ∙ ap (λ (k : ℕ). take w.places (map epoch_of_signals (kept gps cells_of k arrivals))) (sym size)
          ∙ take-map epoch_of_signals w.places (kept gps cells_of w.places arrivals));
      arp1005 = r.arp1005;
      arp1006 = r.arp1006;
    }

-- the window of GPS answers rightly, with its cells as signals
pub gps-answers : (s : SetupView) (old new : CollectorView CellEntry) (a : Arrival) (offer : Outcome CellEntry SatelliteCode) (listed : List SatelliteCode)
    → IsTrue (is_of_gps s) → IsTakenBy s (message_of a) → new.places ≡ old.places → AnswersArrival gps cells_of old a offer listed new
    → AnswersMessage s (window_of signal_of old) a (outcome_of signal_of offer) (map name_of_gps listed) (window_of signal_of new)
gps-answers s old new a offer listed is taken size meets before kept =
    let order : GpsKeepsItsOrder = gps-keeps-its-order in
    let law : GpsIsKept = gps-is-kept in
    let channels = channels_of s.head.glonass in
    let one = gps-message s (message_of a) is taken in
    let all = gps-messages s before is kept.taken in
    let same = gps-cells s is in
    let window = subst (λ (of : Message → List SignalEntry). RepresentsArrivals signals of (window_of signal_of old) before) same kept.window in
    let m = meets before (represents-gps order law channels old.places old before refl all window) in (
      subst (λ (of : Message → List SignalEntry). IsRightAnswer signals of old.places a before (outcome_of signal_of offer) (map name_of_gps listed)) (sym same)
          (right-same order law channels old.places a before one all (cells_of-satellites (message_of a)) offer listed m.0),
      subst (λ (of : Message → List SignalEntry). RepresentsArrivals signals of (window_of signal_of new) (a ∷ before)) (sym same)
          (represents-signals order law channels old.places new (a ∷ before) size (All-cons (λ (b : Arrival). IsGpsMessage (message_of b)) a before one all) m.1),
    )

-- ---- the order of cells, and those that are left

above-same : GpsKeepsItsOrder → (c : CellEntry) (xs : List CellEntry) → Above gps (key gps c) xs → Above signals (key signals (signal_of c)) (map signal_of xs)
above-same order c [] h = tt
above-same order c (x ∷ xs) h = (order c x).0 h

-- cells that rise, rise as signals
pub rise-same : GpsKeepsItsOrder → (xs : List CellEntry) → KeysRise gps xs → KeysRise signals (map signal_of xs)
rise-same order [] h = tt
rise-same order (x ∷ xs) h = (above-same order x xs h.0, rise-same order xs h.1)

test-signals : (a b m n : ℕ) → m < 16 → n < 16 → (a * 128 + m == b * 128 + n) ≡ (nat_eq a b && nat_eq m n)
test-signals a b m n h k = grind (arith, nat_tests)

test-gps : (a b m n : ℕ) → m < 16 → n < 16 → (a * 16 + m == b * 16 + n) ≡ (nat_eq a b && nat_eq m n)
test-gps a b m n h k = grind (arith, nat_tests)

-- two cells have one satellite and code exactly if they have as signals
place-test : (k c : CellEntry) → (signals.place (signal_of k) == signals.place (signal_of c)) ≡ (gps.place k == gps.place c)
place-test k c =
    ap (λ (m : ℕ). k.satellite * 128 + m == c.satellite * 128 + any_code.number_of (code_of_gps c.code)) (number-of-gps k.code)
    ∙ ap (λ (n : ℕ). k.satellite * 128 + place_of k.code == c.satellite * 128 + n) (number-of-gps c.code)
    ∙ test-signals k.satellite c.satellite (place_of k.code) (place_of c.code) (place_bound k.code) (place_bound c.code)
    ∙ sym (test-gps k.satellite c.satellite (place_of k.code) (place_of c.code) (place_bound k.code) (place_bound c.code))

any-same : (known : List CellEntry) (c : CellEntry)
    → list_any (λ k. signals.place k == signals.place (signal_of c)) (map signal_of known) ≡ list_any (λ k. gps.place k == gps.place c) known
any-same [] c = refl
any-same (k ∷ known) c =
    ap (λ (b : Bool). b || list_any (λ k. signals.place k == signals.place (signal_of c)) (map signal_of known)) (place-test k c)
    ∙ ap (λ (b : Bool). (gps.place k == gps.place c) || b) (any-same known c)

left-same : (known cells : List CellEntry) → left_beside signals (map signal_of known) (map signal_of cells) ≡ map signal_of (left_beside gps known cells)
left-same known cells =
    filter-map signal_of (λ (c : CellEntry). not (list_any (λ k. gps.place k == gps.place c) known))
    (λ (c : SignalEntry). not (list_any (λ k. signals.place k == signals.place c) (map signal_of known))) (λ e. ap not (any-same known e)) cells

-- the same cells are left beside others
pub left-too : (known cells more : List CellEntry) → AreLeftBeside gps known cells more → AreLeftBeside signals (map signal_of known) (map signal_of cells) (map signal_of more)
left-too known cells more h = elim h [
  | inl same ↦ inl (ap (map signal_of) same)
  | inr less ↦ inr (ap (map signal_of) less ∙ sym (left-same known cells))
]
