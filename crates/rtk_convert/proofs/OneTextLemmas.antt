-- No arrival adds to both the file so far and the lines.
use Rattle.std.proofs.Common.{◌≡◌, ◌⊎◌, ℕ, ◌-◌, Bool, false, List, [], ◌∷◌, ◌++◌, length, Option, None, Some, Result, Ok, refl, ap, sym, subst, ◌∙◌, arith, inl, inr}
use Rattle.std.specs.Prelude.{if◌then◌else◌, IfOk}
use Rattle.std.proofs.lemmas.Bool.{cases_Bool}
use Rattle.std.proofs.lemmas.List.{append-nil, length-append}
use Rattle.rtk_bits.specs.Bits.{bits}
use Rattle.rtk_message.specs.declared.any_message.AnyMessage.{AnyMessage as Message}
use Rattle.rtk_message.specs.declared.any_fault.AnyFault.{AnyFault}
use Rattle.rtk_message.specs.declared.system.System.TheVariants.{Sbas}
use Rattle.rtk_message.specs.AnyDecoded.{DecodesBy, Encodes, IsValid, number_of}
use Rattle.rtk_obs.specs.declared.signal_cells.SignalEntry.{SignalEntry}
use Rattle.rtk_collect.specs.Signals.{signals}
use Rattle.rtk_collect.specs.EpochSet.{EpochSetView}
use Rattle.rtk_collect.specs.Arrival.{Arrival, At, message_of}
use Rattle.rtk_collect.specs.Late.{late}
use Rattle.rtk_collect.specs.Accepted.{kept, cells_at, closed}
use Rattle.rtk_collect.specs.Answer.{Class, LateClass, TakenClass, class_of, class_of_cells, class_in_time, conflicts_of, conflicts_with}
use Rattle.rtk_collect.proofs.PublicLaws.{closed-only-grow, kept-late, signals-open, closed-length, held-length}
use Rattle.rtk_convert.specs.declared.frame_class.FrameClass.{FrameClass}
use Rattle.rtk_convert.specs.declared.frame_class.FrameClass.TheVariants.{OtherMessage, Refused, Foreign, Dated}
use Rattle.rtk_convert.specs.FileOfArrivals.{file_so_far}
use Rattle.rtk_convert.specs.FrameClass.{IsClassOfReading, IsClassOfPayload, Found, arrivals}
use Rattle.rtk_convert.specs.Report.{class_lines, cell_lines, frame_lines, lines}
use Rattle.rtk_setup.specs.Setup.{SetupView, cells_by, channels_of, lists_system, taken_by}
use Rattle.rtk_convert.specs.Conversion.{found_on, AddsToOne}
use Rattle.rtk_convert.proofs.ClassLemmas.{dated-reading}
use Rattle.rtk_convert.proofs.SoFarLemmas.{so_far-stays}

-- ---- an arrival holds a valid message

valid-of : (bits_in : List Bool) (r : Result Message AnyFault) (m : Message) → IfOk r (λ x. Encodes bits_in x) → r ≡ Ok m → IsValid m
valid-of bits_in r m h is = (subst (λ (x : Result Message AnyFault). IfOk x (λ y. Encodes bits_in y)) is h).valid

valid-by : (s : SetupView) (payload : List ℕ) (r : Result Message AnyFault) (a : Arrival) → DecodesBy (taken_by s) (bits payload) r → IsClassOfReading s r (Dated a) → IsValid (message_of a)
valid-by s payload r (At e m) d f =
    let p = dated-reading s r (At e m) f in
    subst IsValid (sym p.2.dated.0) (valid-of (bits payload) r p.0 d.message p.1)

comes-valid : (s : SetupView) (payload : List ℕ) (a : Arrival) → IsClassOfPayload s payload (Dated a) → IsValid (message_of a)
comes-valid s payload a c = valid-by s payload c.0 a c.1 c.2

-- ---- no epoch closes if as many are kept as before

same-length : (more xs all : List (EpochSetView SignalEntry)) → all ≡ more ++ xs → length all ≡ length xs → all ≡ xs
same-length [] xs all e l = e
same-length (x ∷ more) xs all e l = let k = ap length e ∙ length-append (x ∷ more) xs in absurd (omega arith)

closed-same : (s : SetupView) (n : ℕ) (a : Arrival) (before : List Arrival) → length (kept signals (cells_by s) n (a ∷ before)) ≡ length (kept signals (cells_by s) n before)
    → closed signals (cells_by s) n (a ∷ before) ≡ closed signals (cells_by s) n before
closed-same s n a before h =
    let g = closed-only-grow signals (cells_by s) n (a ∷ []) before in
    same-length g.0 (closed signals (cells_by s) n before) (closed signals (cells_by s) n (a ∷ before)) g.1
    (closed-length signals (cells_by s) n (a ∷ before) ∙ ap (λ (k : ℕ). k - n) h ∙ sym (closed-length signals (cells_by s) n before))

-- ---- an arrival

abbrev One : SetupView → ℕ → Arrival → List Arrival → Type 0
One s link a before = (file_so_far s (a ∷ before) ≡ file_so_far s before) ⊎ (frame_lines s link (Dated a) before ≡ [])

stays : (s : SetupView) (link : ℕ) (a : Arrival) (before : List Arrival) → length (kept signals (cells_by s) s.window (a ∷ before)) ≡ length (kept signals (cells_by s) s.window before) → One s link a before
stays s link a before h = inl (so_far-stays s a before (closed-same s s.window a before h))

-- observations that come in time: their epoch is open, or they open it and conflict with nothing
one-in-time : (s : SetupView) (link e : ℕ) (m : Message) (before : List Arrival) (o : Option (List SignalEntry)) → IsValid m → late s.window (At (Some e) m) before ≡ false → cells_at e (kept signals (cells_by s) s.window before) ≡ o
    → One s link (At (Some e) m) before
one-in-time s link e m before None valid fresh none =
    let class : class_of signals (cells_by s) s.window (At (Some e) m) before ≡ TakenClass =
    ap (λ (b : Bool). if b then LateClass else class_in_time signals (cells_by s) s.window (At (Some e) m) before) fresh ∙ ap (class_of_cells signals (cells_by s m)) none in
    inr (ap (λ (c : Class). class_lines link (number_of m) (Some e) c (conflicts_of signals (cells_by s) s.window (At (Some e) m) before)) class
    ∙ ap (cell_lines link (number_of m) (Some e)) (ap (conflicts_with signals (cells_by s m)) none ∙ signals-open (lists_system s.head.listed Sbas) s.head.doppler (channels_of s.head.glonass) m valid))
one-in-time s link e m before (Some b) valid fresh held = stays s link (At (Some e) m) before (held-length signals (cells_by s) s.window e m b before held)

one-text : (s : SetupView) (link : ℕ) (a : Arrival) (before : List Arrival) → IsValid (message_of a) → One s link a before
one-text s link (At None m) before valid = stays s link (At None m) before refl
one-text s link (At (Some e) m) before valid = elim (cases_Bool (late s.window (At (Some e) m) before)) [
  | inl over ↦ stays s link (At (Some e) m) before (ap length (kept-late signals (cells_by s) s.window e m before over))
  | inr fresh ↦ one-in-time s link e m before (cells_at e (kept signals (cells_by s) s.window before)) valid fresh refl
]

-- a payload that is an arrival adds to one text at most
pub one-arrived : (s : SetupView) (link : ℕ) (payload : List ℕ) (a : Arrival) (before : List Found) → IsClassOfPayload s payload (Dated a) → AddsToOne s (found_on link (Dated a)) before
one-arrived s link payload a before comes = elim (one-text s link a (arrivals before) (comes-valid s payload a comes)) [
  | inl same ↦ inl same
  | inr none ↦ inr (ap (λ (t : List ℕ). lines s before ++ t) none ∙ append-nil (lines s before))
]

-- and so does each frame: a frame that is no arrival leaves the file as it is
pub one-added : (s : SetupView) (payload : List ℕ) (f : FrameClass) (link : ℕ) (before : List Found) → IsClassOfPayload s payload f → AddsToOne s (found_on link f) before
one-added s payload OtherMessage link before comes = inl refl
one-added s payload (Refused fault) link before comes = inl refl
one-added s payload Foreign link before comes = inl refl
one-added s payload (Dated a) link before comes = one-arrived s link payload a before comes
