-- A file of GPS: its records, one after another, and the epochs that they show.
use Rattle.std.proofs.Common.{◌≡◌, ◌≤◌, ℕ, Bool, false, not, ◌&&◌, ltb, Option, Some, None, List, [], ◌∷◌, map, length, sym, ap, subst, ◌∙◌, arith}
use Rattle.std.specs.Prelude.{All, MatchOption, IfSome}
use Rattle.std.specs.List.{list_any}
use Rattle.std.proofs.lemmas.List.Elements.{All-weaker}
use Rattle.rtk_rinex.specs.declared.epoch_table.SatelliteRow.{SatelliteRow}
use Rattle.rtk_rinex.specs.Record.{EpochTableView, IsSatelliteRow, HasWidth, record_text}
use Rattle.rtk_rinex.specs.Records.{RecordsView, AreLeft, IsNextOf}
use Rattle.rtk_rinex.specs.Table.{IsObserved, IsObservedWithDoppler, IsTableRow, IsTableEpoch}
use Rattle.rtk_cut.specs.Cut.{Step, cut_epoch}
use Rattle.rtk_cut.specs.CutLaws.{IsFileEpoch}
use Rattle.rtk_cut.specs.Steps.FileTexts.{IsNextIn}
use Rattle.rtk_cut.specs.Steps.Pending.{mark_of, HaveMarks, MarksBecome, StandsForSlips, ClearsSlips, row_has_phase, row_with_marks}
use Rattle.rtk_cut.proofs.CodeLemmas.{observed-in_any}
use Rattle.rtk_cut.proofs.PendingLemmas.{shown, marks-within, epoch-shown}
use Rattle.rtk_cut.proofs.MarkLemmas.{marks-width}

-- ---- the records

-- the epochs that are left, in a file of n codes
abbrev pub AreLeftOf : ℕ → RecordsView → List EpochTableView → Type 0
AreLeftOf n r epochs = AreLeft r epochs × (r.code_count ≡ n)

-- a text is the record of an epoch that was read
abbrev pub IsTextOf : ℕ → EpochTableView → List ℕ → EpochTableView → Type 0
IsTextOf n epoch text e = (epoch ≡ e) × (text ≡ record_text e) × IsTableEpoch n e

next-in : (n : ℕ) (r r' : RecordsView) (epoch : EpochTableView) (text : List ℕ) (epochs : List EpochTableView) → r'.code_count ≡ r.code_count → r.code_count ≡ n → IsNextOf epochs text epoch r' → IsTableEpoch r.code_count epoch
    → IsNextIn (AreLeftOf n r') (IsTextOf n epoch text) epochs
next-in n r r' epoch text [] same wide next good = absurd next
next-in n r r' epoch text (e ∷ es) same wide next good =
    ((next.1, next.0, subst (λ (k : ℕ). IsTableEpoch k e) wide (subst (λ (x : EpochTableView). IsTableEpoch r.code_count x) next.1 good)), (next.2, same ∙ wide))

pub next-answers : {T : Type 0} (now : T → List ℕ) (n : ℕ) (r r' : RecordsView) (epoch : EpochTableView) (answer : Option T) (epochs : List EpochTableView) → r'.code_count ≡ r.code_count → r.code_count ≡ n
    → MatchOption answer (epochs ≡ []) (λ text. IsNextOf epochs (now text) epoch r') → IfSome answer (λ text. IsTableEpoch r.code_count epoch × (now text ≡ record_text epoch))
    → MatchOption answer (epochs ≡ []) (λ text. IsNextIn (AreLeftOf n r') (IsTextOf n epoch (now text)) epochs)
next-answers now n r r' epoch None epochs same wide next good = next
next-answers now n r r' epoch (Some text) epochs same wide next good = next-in n r r' epoch (now text) epochs same wide next good.0

-- ---- the epochs

-- there are marks of each satellite of GPS
pub gps-have_marks : (marks : List Bool) (rows : List SatelliteRow) → length marks ≡ 528 → All IsSatelliteRow rows → HaveMarks marks rows
gps-have_marks marks rows size good k d lt =
    let row = good k d lt in
    let high = row.satellite.1 in
    omega (arith, size, high)

epoch-wide : (n : ℕ) (e : EpochTableView) → IsTableEpoch n e → HasWidth n e.rows
epoch-wide n e good = All-weaker (IsTableRow n) (λ (r : SatelliteRow). length r.observed.items ≡ n) (λ r row. row.width) e.rows good.rows

pub gps-epoch : (n : ℕ) (e : EpochTableView) → IsTableEpoch n e → IsFileEpoch e
gps-epoch n e good =
    record {
      observed = All-weaker (IsTableRow n) (λ (r : SatelliteRow). All IsObservedWithDoppler r.observed.items)
          (λ r row. All-weaker IsObserved IsObservedWithDoppler (observed-in_any false) r.observed.items row.observed) e.rows good.rows;
      rise = good.rise;
    }

-- what was made of an epoch that was read, by k codes, as many as the file has
pub record IsMade (k n : ℕ) (marks marks' : List Bool) (epoch made : EpochTableView) (is_changed : Bool) : Type 0 where
  pub wide : k ≡ n
  pub few : k ≤ 16
  pub has : HaveMarks marks epoch.rows
  pub size : length marks' ≡ length marks
  pub time : made.time ≡ epoch.time
  pub rows : made.rows ≡ map (row_with_marks marks k) epoch.rows
  pub marked : MarksBecome marks' (λ s c. not (list_any (row_has_phase s c) epoch.rows && ltb c k) && mark_of marks s c)
  pub same : is_changed ≡ false → HasWidth k epoch.rows → made.rows ≡ epoch.rows

pub made-width : (k n : ℕ) (marks marks' : List Bool) (epoch made : EpochTableView) (is_changed : Bool) → IsMade k n marks marks' epoch made is_changed → HasWidth n made.rows
made-width k n marks marks' epoch made is_changed is =
    subst (λ (m : ℕ). HasWidth m made.rows) is.wide (subst (λ (rows : List SatelliteRow). HasWidth k rows) (sym is.rows) (marks-width marks k epoch.rows))

own-width : (k n : ℕ) (epoch e : EpochTableView) (text : List ℕ) → k ≡ n → IsTextOf n epoch text e → HasWidth k epoch.rows
own-width k n epoch e text wide is = subst (λ (m : ℕ). HasWidth m epoch.rows) (sym wide) (subst (λ (x : EpochTableView). HasWidth n x.rows) (sym is.0) (epoch-wide n e is.2))

pub made-shown : (k n : ℕ) (marks marks' : List Bool) (epoch made : EpochTableView) (is_changed : Bool) (text : List ℕ) (e : EpochTableView) → IsMade k n marks marks' epoch made is_changed → IsTextOf n epoch text e
    → (step : Step) (earlier : List EpochTableView) → StandsForSlips marks step earlier → made ≡ cut_epoch step earlier e
made-shown k n marks marks' epoch made is_changed text e is of step earlier stands =
    ap (λ (t : ℕ). record { time = t; rows = made.rows }) is.time ∙ ap (λ (xs : List SatelliteRow). record { time = epoch.time; rows = xs }) is.rows
    ∙ epoch-shown k marks step earlier epoch is.few (subst (λ (x : EpochTableView). IsTableEpoch n x) (sym of.0) of.2).rise (own-width k n epoch e text is.wide of) is.has stands
    ∙ ap (λ (x : EpochTableView). cut_epoch step earlier x) of.0

pub made-same : (k n : ℕ) (marks marks' : List Bool) (epoch made : EpochTableView) (is_changed : Bool) (text : List ℕ) (e : EpochTableView) → IsMade k n marks marks' epoch made is_changed → is_changed ≡ false → IsTextOf n epoch text e
    → (step : Step) (earlier : List EpochTableView) → StandsForSlips marks step earlier → e ≡ cut_epoch step earlier e
made-same k n marks marks' epoch made is_changed text e is unchanged of step earlier stands =
    sym (ap (λ (t : ℕ). record { time = t; rows = made.rows }) is.time
    ∙ ap (λ (xs : List SatelliteRow). record { time = epoch.time; rows = xs }) (is.same unchanged (own-width k n epoch e text is.wide of)) ∙ of.0)
    ∙ made-shown k n marks marks' epoch made is_changed text e is of step earlier stands

pub made-clears : (k n : ℕ) (marks marks' : List Bool) (epoch made : EpochTableView) (is_changed : Bool) (text : List ℕ) (e : EpochTableView) → IsMade k n marks marks' epoch made is_changed → IsTextOf n epoch text e → ClearsSlips marks marks' e
made-clears k n marks marks' epoch made is_changed text e is of = λ step earlier on stands.
    shown marks marks' step earlier e (gps-epoch n e of.2).observed on stands is.size
    (subst (λ (x : EpochTableView). MarksBecome marks' (λ s c. not (list_any (row_has_phase s c) x.rows) && mark_of marks s c)) of.0
    (marks-within k marks marks' epoch.rows (own-width k n epoch e text is.wide of) is.marked))
