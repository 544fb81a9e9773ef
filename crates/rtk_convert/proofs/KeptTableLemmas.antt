-- The file of what is kept of found frames is the text of a table.
use Rattle.std.proofs.Common.{◌≡◌, ◌<◌, ◌^◌, ℕ, Bool, true, false, List, [], ◌∷◌, length, Option, None, Some, Result, sym, subst, arith, inl, inr, ℤ, pos, negsuc}
use Rattle.std.specs.Prelude.{◌≤ℤ◌, ◌<ℤ◌, ◌==◌, ◌&&◌, not, if◌then◌else◌, All, IfOk}
use Rattle.std.specs.List.{AllByRecursion}
use Rattle.std.proofs.lemmas.Bool.{cases_Bool, cases_order}
use Rattle.std.proofs.lemmas.Int.{ints}
use Rattle.std.proofs.lemmas.List.Elements.{All-nil, All-from_recursion, recursion_from_All}
use Rattle.rtk_bits.specs.Bits.{bits}
use Rattle.rtk_message.specs.declared.any_message.AnyMessage.{AnyMessage as Message}
use Rattle.rtk_message.specs.declared.any_message.AnyMessage.TheVariants as any
use Rattle.rtk_message.specs.declared.message.Message.TheVariants.{Obs1004, Arp1005, Arp1006, Msm1074}
use Rattle.rtk_message.specs.declared.any_fault.AnyFault.{AnyFault}
use Rattle.rtk_message.specs.declared.system.System.{System}
use Rattle.rtk_message.specs.declared.system.System.TheVariants.{Sbas}
use Rattle.rtk_message.specs.AnyDecoded.{DecodesBy, Encodes, IsValid, number_of, tow_of}
use Rattle.rtk_obs.specs.declared.signal_cells.SignalEntry.{SignalEntry}
use Rattle.rtk_obs.specs.SignalCells.{IsSignalInRange}
use Rattle.rtk_obs.specs.Dating.{IsReference}
use Rattle.rtk_obs.specs.Coordinates.{IsCoordinate}
use Rattle.rtk_collect.specs.Signals.{signals}
use Rattle.rtk_collect.specs.EpochSet.{EpochSetView, joined}
use Rattle.rtk_collect.specs.Arrival.{Arrival, At}
use Rattle.rtk_collect.specs.Late.{late}
use Rattle.rtk_collect.specs.Accepted.{first, station, no_cells, with_arrival, kept}
use Rattle.rtk_collect.proofs.PublicLaws.{with_cells-all, with_arrival-new, with_arrival-below, with_arrival-same, kept-falls, kept-late, kept-new}
use Rattle.rtk_rinex.specs.Header.{IsPositionView}
use Rattle.rtk_obs.specs.Reading.{IsMoment}
use Rattle.rtk_rinex.specs.MixedTable.{MixedTable, IsMixedTable, mixed_table_text}
use Rattle.rtk_convert.specs.declared.frame_class.FrameClass.{FrameClass}
use Rattle.rtk_convert.specs.declared.frame_class.FrameClass.TheVariants.{OtherMessage, Refused, Foreign, Dated}
use Rattle.rtk_convert.specs.ArrivalLaws.{HasPayload, KeptFileIsTable}
use Rattle.rtk_convert.specs.File.{record_count}
use Rattle.rtk_convert.specs.FileLaws.{HasPhaseBy, IsGoodEpoch}
use Rattle.rtk_convert.specs.FileOfArrivals.{no_site, site_of_1005, site_of_stations, site_of_kept, kept_file}
use Rattle.rtk_convert.specs.FrameClass.{IsDatedMessage, IsMomentOf, system_of, IsClassOfReading, IsClassOfPayload, Found, and_arrived, arrivals}
use Rattle.rtk_setup.specs.Setup.{SetupView, IsSetupView, cells_by, channels_of, lists_system, taken_by}
use Rattle.rtk_convert.proofs.ClassLemmas.{dated-reading}
use Rattle.rtk_convert.proofs.MomentLemmas.{clock-moment}
use Rattle.rtk_convert.proofs.PhasesLemmas.{phases-by}
use Rattle.rtk_convert.proofs.SignalsOf1004Lemmas.{in-range}
use Rattle.rtk_convert.proofs.TableLemmas.{file-has_records}

-- ---- arrivals of payloads are valid, and their epochs are moments

abbrev IsTimed : Option ℕ → Type 0
IsTimed None = Unit {0}
IsTimed (Some t) = IsMoment t

abbrev IsGoodArrival : Arrival → Type 0
IsGoodArrival (At e m) = IsValid m × IsTimed e

timed : (s : SetupView) (system : System) (clock e : Option ℕ) → IsReference s.near → IsMomentOf s system clock e → IsTimed e
timed s system None None r h = tt
timed s system (Some c) (Some t) r h = clock-moment system s.near c s.leap_seconds t r h
timed s system None (Some t) r h = absurd h
timed s system (Some c) None r h = absurd h

good-message : (s : SetupView) (m : Message) (a : Arrival) → IsReference s.near → IsValid m → IsDatedMessage s m a → IsGoodArrival a
good-message s m (At e n) near valid is = (subst IsValid (sym is.0) valid, timed s (system_of m) (tow_of m) e near is.1)

good-by : (s : SetupView) (payload : List ℕ) (r : Result Message AnyFault) (a : Arrival) → IsReference s.near → DecodesBy (taken_by s) (bits payload) r → IsClassOfReading s r (Dated a) → IsGoodArrival a
good-by s payload r a near d f =
    let p = dated-reading s r a f in
    let encodes = subst (λ (x : Result Message AnyFault). IfOk x (λ y. Encodes (bits payload) y)) p.1 d.message in
    good-message s p.0 a near encodes.valid p.2.dated

and-good : (s : SetupView) (f : FrameClass) (before : List Arrival) → IsReference s.near → (payload : List ℕ) → IsClassOfPayload s payload f → AllByRecursion IsGoodArrival before → AllByRecursion IsGoodArrival (and_arrived f before)
and-good s OtherMessage before near payload c h = h
and-good s (Refused fault) before near payload c h = h
and-good s Foreign before near payload c h = h
and-good s (Dated a) before near payload c h = (good-by s payload c.0 a near c.1 c.2, h)

arrivals-good : (s : SetupView) (found : List Found) → IsReference s.near → AllByRecursion (HasPayload s) found → AllByRecursion IsGoodArrival (arrivals found)
arrivals-good s [] near h = tt
arrivals-good s (f ∷ before) near h = and-good s f.class (arrivals before) near h.0.0 h.0.1 (arrivals-good s before near h.1)

-- ---- so are the kept epochs

module _ (s : SetupView) where
  abbrev AreGoodCells : List SignalEntry → Type 0
  AreGoodCells cs = All IsSignalInRange cs × All (HasPhaseBy s) cs

  joined-good : (cs : List SignalEntry) (x : EpochSetView SignalEntry) → AreGoodCells cs → IsGoodEpoch s x → IsGoodEpoch s (joined signals cs x)
  joined-good cs x h g = record { time = g.time; cells = with_cells-all signals IsSignalInRange cs x.cells h.0 g.cells; phases = with_cells-all signals (HasPhaseBy s) cs x.cells h.1 g.phases }

  opened-good : (e : ℕ) (cs : List SignalEntry) → IsMoment e → AreGoodCells cs → IsGoodEpoch s (joined signals cs (no_cells e))
  opened-good e cs m h = joined-good cs (no_cells e) h (record { time = m; cells = All-nil IsSignalInRange; phases = All-nil (HasPhaseBy s) })

  with_arrival-good : (e : ℕ) (cs : List SignalEntry) (xs : List (EpochSetView SignalEntry)) → IsMoment e → AreGoodCells cs → AllByRecursion (IsGoodEpoch s) xs → AllByRecursion (IsGoodEpoch s) (with_arrival signals e cs xs)
  with_arrival-good e cs [] m h g = (opened-good e cs m h, tt)
  with_arrival-good e cs (x ∷ xs) m h g = elim (cases_order x.epoch e) [
    | inl same ↦ subst (AllByRecursion (IsGoodEpoch s)) (sym (with_arrival-same signals e cs x xs (sym same))) (joined-good cs x h g.0, g.1)
    | inr more ↦ elim more [
      | inl new ↦ subst (AllByRecursion (IsGoodEpoch s)) (sym (with_arrival-new signals e cs x xs new)) (opened-good e cs m h, g)
      | inr below ↦ subst (AllByRecursion (IsGoodEpoch s)) (sym (with_arrival-below signals e cs x xs below)) (g.0, with_arrival-good e cs xs m h g.1)
    ]
  ]

  kept-good : (n : ℕ) (arrivals : List Arrival) → AllByRecursion IsGoodArrival arrivals → AllByRecursion (IsGoodEpoch s) (kept signals (cells_by s) n arrivals)
  kept-good n [] h = tt
  kept-good n (At None m ∷ before) h = kept-good n before h.1
  kept-good n (At (Some e) m ∷ before) h = elim (cases_Bool (late n (At (Some e) m) before)) [
    | inl over ↦ subst (AllByRecursion (IsGoodEpoch s)) (sym (kept-late signals (cells_by s) n e m before over)) (kept-good n before h.1)
    | inr fresh ↦ subst (AllByRecursion (IsGoodEpoch s)) (sym (kept-new signals (cells_by s) n e m before fresh))
        (with_arrival-good e (cells_by s m) (kept signals (cells_by s) n before) h.0.1 (in-range (lists_system s.head.listed Sbas) s.head.doppler (channels_of s.head.glonass) m h.0.0, phases-by s.head (lists_system s.head.listed Sbas) s.head.doppler m) (kept-good n before h.1))
  ]

-- ---- and so is the position

abbrev IfValid : Option Message → Type 0
IfValid None = Unit {0}
IfValid (Some m) = IsValid m

station-if : (b : Bool) (o : Option Message) (m : Message) → IsValid m → IfValid o → IfValid (if b then first o m else o)
station-if true None m v h = v
station-if true (Some x) m v h = h
station-if false o m v h = h

station-good : (n k : ℕ) (arrivals : List Arrival) → AllByRecursion IsGoodArrival arrivals → IfValid (station n k arrivals)
station-good n k [] h = tt
station-good n k (At (Some e) m ∷ before) h = station-good n k before h.1
station-good n k (At None m ∷ before) h = station-if ((number_of m == k) && not (late n (At None m) before)) (station n k before) m h.0.0 (station-good n k before h.1)

abbrev FitsField : ℤ → Type 0
FitsField v = (negsuc 137438953471 ≤ℤ v) × (v <ℤ pos 137438953472)

coordinate : (v : ℤ) → FitsField v → IsCoordinate v
coordinate v h = let l = h.1 in record { least = h.0; greatest = omega (arith, ints, l) }

zeros-good : IsPositionView no_site
zeros-good =
    let zero : IsCoordinate (pos 0) = record { least = omega (arith, ints); greatest = omega (arith, ints) } in (zero, zero, zero, omega arith)

site_of_1005-good : (o : Option Message) → IfValid o → IsPositionView (site_of_1005 o)
site_of_1005-good None v = zeros-good
site_of_1005-good (Some (any.Message (Obs1004 m))) v = zeros-good
site_of_1005-good (Some (any.Message (Arp1005 m))) v = (coordinate m.x v.1.1.1.1.1.1.0, coordinate m.y v.1.1.1.1.1.1.1.1.1.0, coordinate m.z v.1.1.1.1.1.1.1.1.1.1.1.0, omega arith)
site_of_1005-good (Some (any.Message (Arp1006 m))) v = zeros-good
site_of_1005-good (Some (any.Message (Msm1074 m))) v = zeros-good
site_of_1005-good (Some (any.Msm m)) v = zeros-good
site_of_1005-good (Some (any.Obs1012 m)) v = zeros-good

site-good : (short tall : Option Message) → IfValid short → IfValid tall → IsPositionView (site_of_stations short tall)
site-good short None s t = site_of_1005-good short s
site-good short (Some (any.Message (Obs1004 m))) s t = site_of_1005-good short s
site-good short (Some (any.Message (Arp1005 m))) s t = site_of_1005-good short s
site-good short (Some (any.Message (Arp1006 m))) s v = (coordinate m.arp.x v.1.1.1.1.1.1.0, coordinate m.arp.y v.1.1.1.1.1.1.1.1.1.0, coordinate m.arp.z v.1.1.1.1.1.1.1.1.1.1.1.0, v.1.1.1.1.1.1.1.1.1.1.1.1.0)
site-good short (Some (any.Message (Msm1074 m))) s t = site_of_1005-good short s
site-good short (Some (any.Msm m)) s t = site_of_1005-good short s
site-good short (Some (any.Obs1012 m)) s t = site_of_1005-good short s

-- ---- so the file is the text of a table, with as many records as are counted

pub kept-file-has_records : (s : SetupView) (found : List Found) → IsSetupView s → All (HasPayload s) found
    → (t : MixedTable) × IsMixedTable t × (kept_file s (arrivals found) ≡ mixed_table_text t)
    × (length (kept signals (cells_by s) s.window (arrivals found)) < 2 ^ 64 → length t.epochs ≡ record_count s.head.doppler s.head.listed (kept signals (cells_by s) s.window (arrivals found)))
kept-file-has_records s found good_setup h =
    let n : ℕ = s.window in
    let good = arrivals-good s found good_setup.1 (recursion_from_All (HasPayload s) found h) in
    file-has_records s (site_of_kept n (arrivals found)) (kept signals (cells_by s) n (arrivals found)) good_setup
    (site-good (station n 1005 (arrivals found)) (station n 1006 (arrivals found)) (station-good n 1005 (arrivals found) good) (station-good n 1006 (arrivals found) good))
    (kept-falls signals (cells_by s) n (arrivals found))
    (All-from_recursion (IsGoodEpoch s) (kept signals (cells_by s) n (arrivals found)) (kept-good s n (arrivals found) good))

pub kept-file-is_table : KeptFileIsTable
kept-file-is_table s found good_setup h = let t = kept-file-has_records s found good_setup h in (t.0, t.1, t.2)
