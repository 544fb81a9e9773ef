-- What is said of a text by its files; the letter in the first line of each, and which texts are read as those of GPS.
use Rattle.std.proofs.Common.{◌≡◌, ◌==◌, ◌&&◌, not, inl, inr, Bool, true, false, true≢false, ℕ, List, [], ◌∷◌, ◌++◌, length, codes, ap, sym, refl, ◌∙◌, append_assoc, drop, subst}
use Rattle.std.specs.Prelude.{flat_map, All, Option, None, IfSome}
use Rattle.std.proofs.lemmas.List.{append-nil}
use Rattle.std.proofs.lemmas.List.Elements.{All-head, All-tail, All-weaker}
use Rattle.rtk_rinex.specs.Columns.{left}
use Rattle.rtk_rinex.specs.Header.{header_line, version_line, made_line, marker_line, position_lines, types_lines, last_lines, unit_line, first_line, header_text}
use Rattle.rtk_rinex.specs.MixedHeader.{version_letter, mixed_version_line, unknown_lines, by_system, system_types_lines, phase_shift_line, glonass_lines, mixed_header_text}
use Rattle.rtk_obs.specs.Reading.{IsMoment, reading_of}
use Rattle.rtk_rinex.specs.Record.{EpochTableView, record_text}
use Rattle.rtk_rinex.specs.MixedRecord.{mixed_record_text}
use Rattle.rtk_rinex.specs.MixedForm.{form_of_head}
use Rattle.rtk_rinex.specs.Table.{WellFormedTable, IsWellFormedTable, IsTableEpoch, table_text}
use Rattle.rtk_rinex.specs.MixedTable.{MixedTable, IsMixedTable, IsMixedEpoch, mixed_table_text, has_shift_type, GpsShowsNoShifts}
use Rattle.rtk_rinex.specs.CheckText.{satellite_lines}
use Rattle.rtk_rinex.specs.CheckTable.{TableView, HoldsTable, IsWithoutTable, OneTable, OneFault}
use Rattle.rtk_rinex.specs.MixedCheckTable.{HoldsMixedTable, IsWithoutMixedTable, MixedOneTable, MixedOneFault}
use Rattle.rtk_rinex.specs.declared.check_fault.CheckFault.{CheckFault}
use Rattle.rtk_tracking.specs.Epochs.{epochs_onto, newest_moment}
use Rattle.rtk_cut.specs.declared.part.Part.{Part}
use Rattle.rtk_cut.specs.Cut.{cut_of, mixed_cut_of}
use Rattle.rtk_cut.specs.CutLaws.{part_of, OwnStepGivesFile}
use Rattle.rtk_cut.specs.Extent.{extent_of}
use Rattle.rtk_label.specs.Labelled.{LabelView, IsLabel, IsFor, blank_label, front_lines, mixed_front_lines, labelled_with, labelled_mixed_with}
use Rattle.rtk_label.specs.LabelLaws.{BlankIsFile, FrontIsChanged, MixedLabelLaws}
use Rattle.rtk_label.specs.LabelWriting.{IsParted}
use Rattle.rtk_label.specs.declared.time_lines.TimeLines.{TimeLines}
use Rattle.rtk_commands.specs.CutInput.{part_of_file}
use Rattle.rtk_commands.specs.FileTable.{FileTable, OfGps, OfSystems, IsFileTable, file_text, file_site, file_front, file_epochs, file_lines, file_with_lines, labelled_file, letter_in, is_gps_text, GpsTablesAreFiles, IsTextOfSomeFile, HoldsFile, IsTextOfNoFile, IsFaultOfFile, text_of, HasItsLetter}
use Rattle.rtk_commands.specs.WithLabel.{IsPartedTable}
use Rattle.rtk_commands.specs.declared.any_table.AnyTable.{AnyTable}
use Rattle.rtk_commands.specs.declared.any_table.AnyTable.TheVariants.{Gps, Mixed}

-- ---- the letter in the first line

letter-of_line : (letter : ℕ) (rest : List ℕ) → letter_in (mixed_version_line letter ++ rest) ≡ letter
unfolding header_line left
letter-of_line letter rest = refl

glue-gps : (v m k a b c d p t l r : List ℕ) → (((((((((v ++ m) ++ k) ++ a) ++ b) ++ c) ++ d) ++ p) ++ t) ++ l) ++ r
    ≡ v ++ (m ++ (k ++ (a ++ (b ++ (c ++ (d ++ (p ++ (t ++ (l ++ r)))))))))
glue-gps v m k a b c d p t l r = simp append_assoc

gps-letter : (t : WellFormedTable) → letter_in (table_text t) ≡ 71
unfolding header_text
gps-letter t =
    let made = reading_of t.head.made in
    ap letter_in (glue-gps version_line (made_line made) (marker_line t.head.marker) (header_line (codes "GEODETIC") (codes "MARKER TYPE")) (header_line [] (codes "OBSERVER / AGENCY"))
    (header_line [] (codes "REC # / TYPE / VERS")) (header_line [] (codes "ANT # / TYPE")) (position_lines t.site) (types_lines t.head.listed) (last_lines (reading_of t.first)) (flat_map record_text t.epochs))
    ∙ letter-of_line 71 _

-- the text of a table of GPS has this letter, and no type of a Doppler shift
pub gps-tables : GpsShowsNoShifts → GpsTablesAreFiles
gps-tables none t good = (
  good,
  ap (λ (x : ℕ). (x == 71) && not (has_shift_type (table_text t))) (gps-letter t) ∙ ap (λ (b : Bool). not b) (none t good),
)

glue-mixed : (v m k u p t s f h g e r : List ℕ) → ((((((((((v ++ m) ++ k) ++ u) ++ p) ++ t) ++ s) ++ f) ++ h) ++ g) ++ e) ++ r
    ≡ v ++ (m ++ (k ++ (u ++ (p ++ (t ++ (s ++ (f ++ (h ++ (g ++ (e ++ r))))))))))
glue-mixed v m k u p t s f h g e r = simp append_assoc

pub mixed-letter : (t : MixedTable) → letter_in (mixed_table_text t) ≡ version_letter t.head.listed
unfolding mixed_header_text
mixed-letter t =
    let made = reading_of t.head.made in
    ap letter_in (glue-mixed (mixed_version_line (version_letter t.head.listed)) (made_line made) (marker_line t.head.marker) unknown_lines (position_lines t.site) (by_system (system_types_lines t.head.doppler) t.head.listed)
    unit_line (first_line (reading_of t.first)) (by_system phase_shift_line t.head.listed) (glonass_lines t.head.glonass) (header_line [] (codes "END OF HEADER")) (flat_map (mixed_record_text t.head.doppler) t.epochs))
    ∙ letter-of_line (version_letter t.head.listed) _

-- ---- which files a text can be

pub gps-only : (P : FileTable → Type 0) (text : List ℕ) → is_gps_text text ≡ true → ((t : WellFormedTable) → IsWellFormedTable t → text ≡ table_text t → P (OfGps t))
    → (f : FileTable) → IsFileTable f → text ≡ file_text f → P f
gps-only P text gps each (OfGps t) good e = each t good.0 e
gps-only P text gps each (OfSystems t) good e = absurd (true≢false (sym gps ∙ ap is_gps_text e ∙ good.1))

pub mixed-only : (P : FileTable → Type 0) (text : List ℕ) → is_gps_text text ≡ false → ((t : MixedTable) → IsMixedTable t → text ≡ mixed_table_text t → P (OfSystems t))
    → (f : FileTable) → IsFileTable f → text ≡ file_text f → P f
mixed-only P text other each (OfGps t) good e = absurd (true≢false (sym good.1 ∙ sym (ap is_gps_text e) ∙ other))
mixed-only P text other each (OfSystems t) good e = each t good.0 e

-- the same of a table in its text
pub of-gps : (P : FileTable → Type 0) (table : AnyTable) (v : TableView) → table ≡ Gps v → HasItsLetter table → ((t : WellFormedTable) → IsWellFormedTable t → v.text ≡ table_text t → P (OfGps t))
    → (f : FileTable) → IsFileTable f → text_of table ≡ file_text f → P f
of-gps P table v is letter each f good e =
    gps-only P v.text (subst (λ (x : AnyTable). HasItsLetter x) is letter) each f good (subst (λ (x : AnyTable). text_of x ≡ file_text f) is e)

pub of-mixed : (P : FileTable → Type 0) (table : AnyTable) (v : TableView) → table ≡ Mixed v → HasItsLetter table → ((t : MixedTable) → IsMixedTable t → v.text ≡ mixed_table_text t → P (OfSystems t))
    → (f : FileTable) → IsFileTable f → text_of table ≡ file_text f → P f
of-mixed P table v is letter each f good e =
    mixed-only P v.text (subst (λ (x : AnyTable). HasItsLetter x) is letter) each f good (subst (λ (x : AnyTable). text_of x ≡ file_text f) is e)

-- what holds of each file of a text holds of its table
pub each-gps : (P : FileTable → Type 0) (table : AnyTable) (v : TableView) → table ≡ Gps v → HasItsLetter table → ((f : FileTable) → IsFileTable f → text_of table ≡ file_text f → P f)
    → (t : WellFormedTable) → IsWellFormedTable t → v.text ≡ table_text t → P (OfGps t)
each-gps P table v is letter each t good e =
    let own : is_gps_text v.text ≡ true = subst (λ (x : AnyTable). HasItsLetter x) is letter in
    each (OfGps t) (good, sym (ap is_gps_text e) ∙ own) (subst (λ (x : AnyTable). text_of x ≡ table_text t) (sym is) e)

pub each-mixed : (P : FileTable → Type 0) (table : AnyTable) (v : TableView) → table ≡ Mixed v → HasItsLetter table → ((f : FileTable) → IsFileTable f → text_of table ≡ file_text f → P f)
    → (t : MixedTable) → IsMixedTable t → v.text ≡ mixed_table_text t → P (OfSystems t)
each-mixed P table v is letter each t good e =
    let other : is_gps_text v.text ≡ false = subst (λ (x : AnyTable). HasItsLetter x) is letter in
    each (OfSystems t) (good, sym (ap is_gps_text e) ∙ other) (subst (λ (x : AnyTable). text_of x ≡ mixed_table_text t) (sym is) e)

pub gps-some : (text : List ℕ) (n s : ℕ) → is_gps_text text ≡ true → HoldsTable text n s → IsTextOfSomeFile text
gps-some text n s gps holds = (OfGps holds.table, (holds.is_table, sym (ap is_gps_text holds.text) ∙ gps), holds.text)

pub mixed-some : (text : List ℕ) (n s : ℕ) → is_gps_text text ≡ false → HoldsMixedTable text n s → IsTextOfSomeFile text
mixed-some text n s other holds = (OfSystems holds.table, (holds.is_table, sym (ap is_gps_text holds.text) ∙ other), holds.text)

pub gps-holds : (text : List ℕ) (n s : ℕ) → is_gps_text text ≡ true → HoldsTable text n s → HoldsFile text n s
gps-holds text n s gps holds = (OfGps holds.table, (holds.is_table, sym (ap is_gps_text holds.text) ∙ gps), holds.text, holds.epochs, holds.satellites)

pub mixed-holds : (text : List ℕ) (n s : ℕ) → is_gps_text text ≡ false → HoldsMixedTable text n s → HoldsFile text n s
mixed-holds text n s other holds =
    (OfSystems holds.table, (holds.is_table, sym (ap is_gps_text holds.text) ∙ other), holds.text, holds.epochs, holds.satellites)

-- a text is that of one file at most
pub one-file : OneTable → MixedOneTable → (f g : FileTable) → IsFileTable f → IsFileTable g → file_text f ≡ file_text g → f ≡ g
one-file one mixed (OfGps t) (OfGps u) good also e = ap OfGps (one t u good.0 also.0 e)
one-file one mixed (OfGps t) (OfSystems u) good also e = absurd (true≢false (sym good.1 ∙ ap is_gps_text e ∙ also.1))
one-file one mixed (OfSystems t) (OfGps u) good also e = absurd (true≢false (sym also.1 ∙ sym (ap is_gps_text e) ∙ good.1))
one-file one mixed (OfSystems t) (OfSystems u) good also e = ap OfSystems (mixed t u good.0 also.0 e)

-- and has one number of records and of satellite lines
pub one-count : OneTable → MixedOneTable → (text : List ℕ) (records lines other_records other_lines : ℕ) → HoldsFile text records lines → HoldsFile text other_records other_lines
    → (records ≡ other_records) × (lines ≡ other_lines)
one-count one mixed text records lines other_records other_lines (f, good, is, rs, ls) (g, also, was, qs, ks) =
    let same : f ≡ g = one-file one mixed f g good also (sym is ∙ was) in (
      sym rs ∙ ap (λ h. length (file_epochs h)) same ∙ qs,
      sym ls ∙ ap (λ h. satellite_lines (file_epochs h)) same ∙ ks,
    )

-- and has one first fault
pub one-fault-of-file : OneFault → MixedOneFault → (text : List ℕ) (f g : CheckFault) → IsFaultOfFile text f → IsFaultOfFile text g → f ≡ g
one-fault-of-file one mixed text f g is was = elim is [
  | inl gps ↦ elim was [
    | inl also ↦ one text f g gps.1 also.1
    | inr other ↦ absurd (true≢false (sym gps.0 ∙ other.0))
  ]
  | inr systems ↦ elim was [
    | inl gps ↦ absurd (true≢false (sym gps.0 ∙ systems.0))
    | inr also ↦ mixed text f g systems.1 also.1
  ]
]

pub gps-none : (text : List ℕ) → is_gps_text text ≡ true → IsWithoutTable text → IsTextOfNoFile text
gps-none text gps none f good e = gps-only (λ _. ⊥) text gps none f good e

pub mixed-none : (text : List ℕ) → is_gps_text text ≡ false → IsWithoutMixedTable text → IsTextOfNoFile text
mixed-none text other none f good e = mixed-only (λ _. ⊥) text other none f good e

-- ---- the label and the time lines of a file

pub labelled-file : (text plain : List ℕ) (m : LabelView) (w : TimeLines) → IsPartedTable text plain m w → (f : FileTable) → IsFileTable f → plain ≡ file_text f
    → (text ≡ labelled_file w m f) × IsFor m (file_site f)
labelled-file text plain m w p (OfGps t) good e =
    let is = p.parted.labelled t good.0 e in (is.0 ∙ ap (λ (x : List ℕ). labelled_with x m t) (p.due (OfGps t) good e), is.1)
labelled-file text plain m w p (OfSystems t) good e =
    let is = p.parted.labelled_mixed t good.0 e in (is.0 ∙ ap (λ (x : List ℕ). labelled_mixed_with x m t) (p.due (OfSystems t) good e), is.1)

-- the moment of the last record is a moment
newest-good : (es before : List EpochTableView) → All (λ (e : EpochTableView). IsMoment e.time) es → IfSome (newest_moment before) IsMoment → IfSome (newest_moment (epochs_onto es before)) IsMoment
newest-good [] before all first = first
newest-good (e ∷ es) before all first =
    newest-good es (e ∷ before) (All-tail (λ (x : EpochTableView). IsMoment x.time) e es all) (All-head (λ (x : EpochTableView). IsMoment x.time) e es all)

pub gps-moment : (t : WellFormedTable) → IsWellFormedTable t → IfSome (extent_of t.epochs).last IsMoment
gps-moment t good =
    newest-good t.epochs [] (All-weaker (IsTableEpoch (length t.head.listed)) (λ (e : EpochTableView). IsMoment e.time) (λ e is. is.time) t.epochs good.epochs) tt

pub mixed-moment : (t : MixedTable) → IsMixedTable t → IfSome (extent_of t.epochs).last IsMoment
mixed-moment t good =
    newest-good t.epochs [] (All-weaker (IsMixedEpoch (form_of_head t.head)) (λ (e : EpochTableView). IsMoment e.time) (λ e is. is.time) t.epochs good.epochs) tt

pub every-file : (text plain : List ℕ) (m : LabelView) (w : TimeLines) (lines : List ℕ) → IsParted text plain m w lines → (f : FileTable) (v : TimeLines) (l : LabelView) → IsFileTable f → IsLabel l
    → IsFor l (file_site f) → text ≡ labelled_file v l f → (plain ≡ file_text f) × (m ≡ l) × (lines ≡ file_lines v f) × (file_lines w f ≡ lines)
every-file text plain m w lines parted (OfGps t) v l good is for e =
    parted.every t l v (extent_of t.epochs).interval_ms (extent_of t.epochs).last good.0 is for (gps-moment t good.0) e
every-file text plain m w lines parted (OfSystems t) v l good is for e =
    parted.every_mixed t l v (extent_of t.epochs).interval_ms (extent_of t.epochs).last good.0 is for (mixed-moment t good.0) e

-- the front of a part is that of the file; what stands behind its lines is that of the part
pub front-of_part : (w : TimeLines) (l : LabelView) (part : Part) (f : FileTable)
    → labelled_file w l (part_of_file part f) ≡ (file_front l f ++ file_lines w (part_of_file part f)) ++ drop 729 (file_text (part_of_file part f))
front-of_part w l part (OfGps t) = refl
front-of_part w l part (OfSystems t) = refl

pub front-of_file : (lines : List ℕ) (l : LabelView) (f : FileTable) → file_with_lines lines l f ≡ (file_front l f ++ lines) ++ drop 729 (file_text f)
front-of_file lines l (OfGps t) = refl
front-of_file lines l (OfSystems t) = refl

-- the part that is asked for without a step and without a span is the file
pub whole-part : OwnStepGivesFile → (f : FileTable) → IsFileTable f → part_of_file (part_of None None None) f ≡ f
whole-part law (OfGps t) good = ap OfGps (law.gps None t good.0 (λ k d lt. refl))
whole-part law (OfSystems t) good = ap OfSystems (law.mixed None t good.0 (λ k d lt. refl))

pub whole-table : OwnStepGivesFile → (t : MixedTable) → IsMixedTable t → mixed_cut_of (part_of None None None) t ≡ t
whole-table law t good = law.mixed None t good (λ k d lt. refl)

-- a blank label and no line give the file
pub nothing-gives_file : BlankIsFile → FrontIsChanged → MixedLabelLaws → (f : FileTable) → IsFileTable f → file_with_lines [] blank_label f ≡ file_text f
nothing-gives_file blank front mixed (OfGps t) good =
    ap (λ (x : List ℕ). x ++ drop 729 (file_text (OfGps t))) (append-nil (front_lines blank_label t.head t.site))
    ∙ sym (front blank_label t t good.0 refl refl) ∙ blank t
nothing-gives_file blank front mixed (OfSystems t) good =
    ap (λ (x : List ℕ). x ++ drop 729 (file_text (OfSystems t))) (append-nil (mixed_front_lines blank_label t.head t.site))
    ∙ sym (mixed.front blank_label t t good.0 refl refl) ∙ mixed.blank t
