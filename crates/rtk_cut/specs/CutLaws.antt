-- Laws on parts of files. Those on epochs hold of files of GPS and of any systems alike.
use Rattle.std.specs.Prelude.{◌≡◌, ◌<◌, ◌≤◌, ℕ, ◌+◌, ◌*◌, false, List, [], ◌∷◌, ◌++◌, map, slice_get, All, AllPairs, Any, Option, None, Some, IfSome, IsSome, unwrap_or, IsTrue, ◌↔◌}
use Rattle.std.specs.List.{filter}
use Rattle.rtk_frame.specs.Stream.{with_more, TakesPart}
use Rattle.rtk_rinex.specs.declared.epoch_table.Observed.{Observed}
use Rattle.rtk_rinex.specs.declared.epoch_table.SatelliteRow.{SatelliteRow}
use Rattle.rtk_obs.specs.Reading.{IsMoment}
use Rattle.rtk_rinex.specs.Record.{EpochTableView}
use Rattle.rtk_rinex.specs.Table.{WellFormedTable, IsWellFormedTable, IsObservedWithDoppler, table_text}
use Rattle.rtk_rinex.specs.MixedTable.{MixedTable, IsMixedTable, mixed_table_text}
use Rattle.rtk_cut.specs.declared.part.Part.{Part}
use Rattle.rtk_cut.specs.Cut.{near_of, is_near_step, is_in_span, cut_of_epochs, cut_of, mixed_cut_of}
use Rattle.rtk_cut.specs.CutWriting.{WritesPart, WritesFirstOfPart, WritesMixedPart, WritesFirstOfMixedPart}

-- a moment, if there is one
abbrev pub IsMomentOrNone : Option ℕ → Type 0
IsMomentOrNone None = Unit {0}
IsMomentOrNone (Some t) = IsMoment t

-- the one is not after the other, if both are there
abbrev pub IsOrdered : Option ℕ → Option ℕ → Type 0
IsOrdered None until = Unit {0}
IsOrdered (Some from) None = Unit {0}
IsOrdered (Some from) (Some until) = from ≤ until

abbrev pub part_of : Option ℕ → Option ℕ → Option ℕ → Part
part_of from until every = record { from = from; until = until; every = every }

-- ---- the epochs of files

-- each satellite stands once, and each code shows what a code of a file can show
pub record IsFileEpoch (e : EpochTableView) : Type 0 where
  pub observed : All (λ r. All IsObservedWithDoppler r.observed.items) e.rows
  pub rise : AllPairs (λ a b. a.satellite < b.satellite) e.rows

-- such epochs, whose moments rise
pub record AreFileEpochs (epochs : List EpochTableView) : Type 0 where
  pub all : All IsFileEpoch epochs
  pub rise : AllPairs (λ a b. a.time < b.time) epochs

-- so are the epochs of each file
pub record EpochsAreOfFiles : Type 0 where
  pub gps : (t : WellFormedTable) → IsWellFormedTable t → AreFileEpochs t.epochs
  pub mixed : (t : MixedTable) → IsMixedTable t → AreFileEpochs t.epochs

-- ---- whole files

-- a part of a well-formed file is well-formed
pub record PartsAreTables : Type 0 where
  pub gps : (part : Part) (t : WellFormedTable) → IsMomentOrNone part.from → IsWellFormedTable t → IsWellFormedTable (cut_of part t)
  pub mixed : (part : Part) (t : MixedTable) → IsMomentOrNone part.from → IsMixedTable t → IsMixedTable (mixed_cut_of part t)

-- without a step the records are the file's own
abbrev pub RecordsAreOwn : Type 0
RecordsAreOwn =
    (from until : Option ℕ) (epochs : List EpochTableView) → AreFileEpochs epochs
    → cut_of_epochs (part_of from until None) epochs ≡ filter (is_in_span (near_of epochs) from until) epochs

-- the records of two spans that meet are those of the span of both
abbrev pub SpansJoin : Type 0
SpansJoin =
    (from until every : Option ℕ) (meet : ℕ) (epochs : List EpochTableView) → AreFileEpochs epochs → IsOrdered from (Some meet) → IsOrdered (Some meet) until
    → cut_of_epochs (part_of from (Some meet) every) epochs ++ cut_of_epochs (part_of (Some meet) until every) epochs ≡ cut_of_epochs (part_of from until every) epochs

-- all records are on the step
abbrev pub AreOnStep : Option ℕ → List EpochTableView → Type 0
AreOnStep every epochs = All (λ e. IsTrue (is_near_step (near_of epochs) every e.time)) epochs

-- such a step gives the file itself
pub record OwnStepGivesFile : Type 0 where
  pub gps : (every : Option ℕ) (t : WellFormedTable) → IsWellFormedTable t → AreOnStep every t.epochs → cut_of (part_of None None every) t ≡ t
  pub mixed : (every : Option ℕ) (t : MixedTable) → IsMixedTable t → AreOnStep every t.epochs → mixed_cut_of (part_of None None every) t ≡ t

-- ---- which records, slips and values a part has, in words that its definition does not use: a
-- mistake in the definition shows here

-- a moment is near enough to a whole number of steps in s after 1980-01-06
abbrev pub IsNearSteps : ℕ → Option ℕ → ℕ → Type 0
IsNearSteps near None t = Unit {0}
IsNearSteps near (Some every) t = (n : ℕ) × (n * (every * 1000) ≤ t + near) × (t ≤ n * (every * 1000) + near)

-- a part has the record of this moment, if the file has one
pub record IsAskedFor (near : ℕ) (part : Part) (t : ℕ) : Type 0 where
  pub steps : IsNearSteps near part.every t
  pub from : IfSome part.from (λ first. first ≤ t + near)
  pub until : IfSome part.until (λ past. t + near < past)

-- a part has the records of the file that are asked for, and no others
abbrev pub HasRecordsAskedFor : Part → List EpochTableView → List EpochTableView → Type 0
HasRecordsAskedFor part es gs =
    (time : ℕ) → Any (λ g. g.time ≡ time) gs ↔ (Any (λ e. e.time ≡ time) es × IsAskedFor (near_of es) part time)

-- the record has this observation of the satellite and of the code at this place
abbrev pub Observes : ℕ → ℕ → Observed → EpochTableView → Type 0
Observes s c o e = Any (λ r. (r.satellite ≡ s) × (slice_get r.observed.items c ≡ Some o)) e.rows

abbrev pub ShowsPhase : ℕ → ℕ → EpochTableView → Type 0
ShowsPhase s c e = (o : Observed) × Observes s c o e × IsSome o.phase_millicycles

abbrev pub ShowsSlip : ℕ → ℕ → EpochTableView → Type 0
ShowsSlip s c e = (o : Observed) × Observes s c o e × IsTrue o.slip

-- the record of this moment shows the phase, and has a slip of it to show: its own, or one of the
-- records of a gap before it, where none on the step shows the phase; the gap may have any length
pub record HasSlipToShow (near : ℕ) (every : Option ℕ) (s c : ℕ) (epochs : List EpochTableView) (time : ℕ) : Type 0 where
  pub start : List EpochTableView
  pub gap : List EpochTableView
  pub shows : EpochTableView
  pub rest : List EpochTableView
  pub are : epochs ≡ (start ++ gap) ++ shows ∷ rest
  pub at : shows.time ≡ time
  pub phase : ShowsPhase s c shows
  pub unseen : All (λ e. IsNearSteps near every e.time → ShowsPhase s c e → ⊥) gap
  pub slip : Any (ShowsSlip s c) (gap ++ shows ∷ [])

-- no slip is lost: the part shows it
abbrev pub KeepsSlips : Part → List EpochTableView → List EpochTableView → Type 0
KeepsSlips part es gs =
    (s c time : ℕ) → IsAskedFor (near_of es) part time → HasSlipToShow (near_of es) part.every s c es time
    → Any (λ g. (g.time ≡ time) × ShowsSlip s c g) gs

-- and none is invented
abbrev pub HasSlipsOf : Part → List EpochTableView → List EpochTableView → Type 0
HasSlipsOf part es gs = (s c : ℕ) → All (λ g. ShowsSlip s c g → HasSlipToShow (near_of es) part.every s c es g.time) gs

abbrev pub without_slip : Observed → Observed
without_slip o = record o { slip = false }

abbrev pub row_without_slips : SatelliteRow → SatelliteRow
row_without_slips r = record { satellite = r.satellite; observed = record { items = map without_slip r.observed.items } }

abbrev pub without_slips : EpochTableView → EpochTableView
without_slips e = record { time = e.time; rows = map row_without_slips e.rows }

-- each record is one of the file's, but for its slips
abbrev pub DifferInSlips : List EpochTableView → List EpochTableView → Type 0
DifferInSlips es gs = All (λ g. Any (λ e. without_slips g ≡ without_slips e) es) gs

abbrev pub RecordsAreAskedFor : Type 0
RecordsAreAskedFor = (part : Part) (epochs : List EpochTableView) → HasRecordsAskedFor part epochs (cut_of_epochs part epochs)

abbrev pub SlipsAreKept : Type 0
SlipsAreKept = (part : Part) (epochs : List EpochTableView) → KeepsSlips part epochs (cut_of_epochs part epochs)

abbrev pub SlipsAreFound : Type 0
SlipsAreFound = (part : Part) (epochs : List EpochTableView) → AreFileEpochs epochs → HasSlipsOf part epochs (cut_of_epochs part epochs)

abbrev pub OthersStay : Type 0
OthersStay = (part : Part) (epochs : List EpochTableView) → DifferInSlips epochs (cut_of_epochs part epochs)

-- all of this
pub record AreEpochsOfPart (part : Part) (es gs : List EpochTableView) : Type 0 where
  pub records : HasRecordsAskedFor part es gs
  pub kept : KeepsSlips part es gs
  pub found : HasSlipsOf part es gs
  pub others : DifferInSlips es gs

-- a file with these epochs, and the header of the file, but for the first time, which is that of the first
-- record
pub record IsPartOf (part : Part) (t u : WellFormedTable) : Type 0 where
  pub table : IsWellFormedTable u
  pub head : u.head ≡ t.head
  pub site : u.site ≡ t.site
  pub without_record : u.epochs ≡ [] → u.first ≡ unwrap_or part.from t.first
  pub epochs : AreEpochsOfPart part t.epochs u.epochs

pub record IsMixedPartOf (part : Part) (t u : MixedTable) : Type 0 where
  pub table : IsMixedTable u
  pub head : u.head ≡ t.head
  pub site : u.site ≡ t.site
  pub without_record : u.epochs ≡ [] → u.first ≡ unwrap_or part.from t.first
  pub epochs : AreEpochsOfPart part t.epochs u.epochs

-- what is written is the text of such a part, or a first part of it
pub record IsTextOfPart (text : List ℕ) (part : Part) (t : WellFormedTable) : Type 0 where
  pub shown : WellFormedTable
  pub is : IsPartOf part t shown
  pub all : (before after : Option (List ℕ)) → WritesPart text part before after → after ≡ with_more before (table_text shown)
  pub first : (before after : Option (List ℕ)) → WritesFirstOfPart text part before after → TakesPart before after (table_text shown)

pub record IsTextOfMixedPart (text : List ℕ) (part : Part) (t : MixedTable) : Type 0 where
  pub shown : MixedTable
  pub is : IsMixedPartOf part t shown
  pub all : (before after : Option (List ℕ)) → WritesMixedPart text part before after → after ≡ with_more before (mixed_table_text shown)
  pub first : (before after : Option (List ℕ)) → WritesFirstOfMixedPart text part before after → TakesPart before after (mixed_table_text shown)

pub record PartsAreWritten : Type 0 where
  pub gps : (text : List ℕ) (part : Part) (t : WellFormedTable) → IsWellFormedTable t → IsMomentOrNone part.from → text ≡ table_text t → IsTextOfPart text part t
  pub mixed : (text : List ℕ) (part : Part) (t : MixedTable) → IsMixedTable t → IsMomentOrNone part.from → text ≡ mixed_table_text t → IsTextOfMixedPart text part t
