-- The cells of a message, whatever its type: each is of a satellite from 1 to 32 and in range, no two
-- are of one satellite and code, and all came in one kind of message.
use Rattle.std.proofs.Common.{◌≡◌, ℕ, Bool, true, false, cond, List, [], ◌∷◌, refl, filter, arith}
use Rattle.std.specs.List.{All, AllByRecursion, flat_map}
use Rattle.std.proofs.lemmas.Bool.Decides.{nat_tests}
use Rattle.std.proofs.lemmas.List.Elements.{All-from_recursion, All-nil}
use Rattle.rtk_message.specs.AnyDecoded.{IsValid}
use Rattle.rtk_message.specs.declared.obs1004.Satellite.{Satellite}
use Rattle.rtk_message.specs.declared.any_message.AnyMessage.{AnyMessage}
use Rattle.rtk_message.specs.declared.any_message.AnyMessage.TheVariants as any
use Rattle.rtk_message.specs.declared.message.Message.TheVariants.{Obs1004, Arp1005, Arp1006, Msm1074}
use Rattle.rtk_obs.specs.declared.cell.CellEntry.{CellEntry}
use Rattle.rtk_obs.specs.declared.cell.CellSource.{CellSource}
use Rattle.rtk_obs.specs.declared.cell.CellSource.TheVariants.{Legacy, Msm}
use Rattle.rtk_obs.specs.Cell.{is_satellite, IsSatellite, IsInRange, AreDistinct}
use Rattle.rtk_obs.specs.LegacyCells.{first_entries, satellite_entries, cells_of_1004}
use Rattle.rtk_obs.specs.MsmCells.{cell_of_1074, cell_of_msm, cells_of_1074, cells_of_msm}
use Rattle.rtk_obs.specs.MessageCells.{cells_of, AreOfOneKind}
use Rattle.rtk_obs.proofs.MsmLemmas.{all-msm_entries}
use Rattle.rtk_obs.proofs.LegacyLemmas.{cells_of_valid}
use Rattle.rtk_obs.proofs.MsmFieldLemmas.{cells_in_range-1074, cells_in_range-msm, gps_or_none}
use Rattle.rtk_obs.proofs.DistinctLemmas.{cells_of_1004-distinct, cells_of_1074-distinct, cells_of_msm-distinct, none-distinct}

-- ---- satellites

abbrev HasSatellite : CellEntry → Type 0
HasSatellite c = IsSatellite c.satellite

satellite-is : (n : ℕ) → is_satellite n ≡ true → IsSatellite n
satellite-is n h = grind (arith, nat_tests)

legacy-if : (b : Bool) (s : Satellite) (rest : List Satellite) → is_satellite s.satellite ≡ b → AllByRecursion HasSatellite (flat_map satellite_entries rest)
    → AllByRecursion HasSatellite (flat_map satellite_entries (cond b (s ∷ rest) rest))
legacy-if true s rest e a = (satellite-is s.satellite e, (satellite-is s.satellite e, a))
legacy-if false s rest e a = a

of-legacy : (ss : List Satellite) → AllByRecursion HasSatellite (flat_map satellite_entries (filter (λ (t : Satellite). is_satellite t.satellite) ss))
of-legacy [] = tt
of-legacy (s ∷ ss) = legacy-if (is_satellite s.satellite) s (filter (λ (t : Satellite). is_satellite t.satellite) ss) refl (of-legacy ss)

of-message : (m : AnyMessage) → AllByRecursion HasSatellite (cells_of m)
of-message (any.Message (Obs1004 m)) = of-legacy (first_entries m.satellites)
of-message (any.Message (Arp1005 m)) = tt
of-message (any.Message (Arp1006 m)) = tt
of-message (any.Message (Msm1074 m)) = all-msm_entries m.header (cell_of_1074 m) HasSatellite (λ k row satellite code is. is) m.cell_mask
of-message (any.Msm m) =
    gps_or_none (λ (cs : List CellEntry). AllByRecursion HasSatellite cs) m.system _ (all-msm_entries m.header (cell_of_msm m) HasSatellite (λ k row satellite code is. is) m.cell_mask) tt
of-message (any.Obs1012 m) = tt

pub cells_of-satellites : (m : AnyMessage) → All HasSatellite (cells_of m)
cells_of-satellites m = All-from_recursion HasSatellite (cells_of m) (of-message m)

-- ---- one kind

abbrev IsOf : CellSource → CellEntry → Type 0
IsOf source c = c.cell.source ≡ source

pub all-legacy : (ss : List Satellite) → AllByRecursion (IsOf Legacy) (flat_map satellite_entries ss)
all-legacy [] = tt
all-legacy (s ∷ ss) = (refl, (refl, all-legacy ss))

pub cells_of-kind : (m : AnyMessage) → AreOfOneKind (cells_of m)
cells_of-kind (any.Message (Obs1004 m)) =
    (Legacy, All-from_recursion (IsOf Legacy) (cells_of_1004 m.satellites) (all-legacy (filter (λ (t : Satellite). is_satellite t.satellite) (first_entries m.satellites))))
cells_of-kind (any.Message (Arp1005 m)) = (Legacy, All-nil (IsOf Legacy))
cells_of-kind (any.Message (Arp1006 m)) = (Legacy, All-nil (IsOf Legacy))
cells_of-kind (any.Message (Msm1074 m)) =
    (Msm, All-from_recursion (IsOf Msm) (cells_of_1074 m) (all-msm_entries m.header (cell_of_1074 m) (IsOf Msm) (λ k row satellite code is. refl) m.cell_mask))
cells_of-kind (any.Msm m) = (
  Msm,
  All-from_recursion (IsOf Msm) (cells_of_msm m)
      (gps_or_none (λ (cs : List CellEntry). AllByRecursion (IsOf Msm) cs) m.system _ (all-msm_entries m.header (cell_of_msm m) (IsOf Msm) (λ k row satellite code is. refl) m.cell_mask) tt),
)
cells_of-kind (any.Obs1012 m) = (Legacy, All-nil (IsOf Legacy))

-- ---- ranges and signals

pub cells_of-in_range : (m : AnyMessage) → IsValid m → All IsInRange (cells_of m)
cells_of-in_range (any.Message (Obs1004 m)) valid = cells_of_valid m valid
cells_of-in_range (any.Message (Arp1005 m)) valid = All-nil IsInRange
cells_of-in_range (any.Message (Arp1006 m)) valid = All-nil IsInRange
cells_of-in_range (any.Message (Msm1074 m)) valid = cells_in_range-1074 m valid
cells_of-in_range (any.Msm m) valid = cells_in_range-msm m valid
cells_of-in_range (any.Obs1012 m) valid = All-nil IsInRange

pub cells_of-distinct : (m : AnyMessage) → IsValid m → AreDistinct (cells_of m)
cells_of-distinct (any.Message (Obs1004 m)) valid = cells_of_1004-distinct m.satellites
cells_of-distinct (any.Message (Arp1005 m)) valid = none-distinct
cells_of-distinct (any.Message (Arp1006 m)) valid = none-distinct
cells_of-distinct (any.Message (Msm1074 m)) valid = cells_of_1074-distinct m valid
cells_of-distinct (any.Msm m) valid = cells_of_msm-distinct m valid
cells_of-distinct (any.Obs1012 m) valid = none-distinct
