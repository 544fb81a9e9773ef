-- The rows of a record of any systems, read one after another: how they change marks, and what they show.
use Rattle.std.proofs.Common.{◌≡◌, ◌<◌, ◌≤◌, ◌+◌, ℕ, suc, Bool, true, false, not, ◌&&◌, ◌||◌, eqb, ltb, Option, Some, None, Result, Ok, Err, List, [], ◌∷◌, ◌++◌, map, length, get_or, take, drop, length-append, length-drop, take-append-drop, append-nil, refl, sym, ap, subst, ◌∙◌, arith}
use Rattle.std.specs.Prelude.{All, IfOk, IfSome, MatchOption, is_some, count_by}
use Rattle.std.specs.List.{filter, list_any}
use Rattle.std.proofs.Math.Seq.{drop-cons}
use Rattle.std.proofs.lemmas.Bool.{ltb-false}
use Rattle.std.proofs.lemmas.List.{take_more}
use Rattle.std.proofs.lemmas.List.Elements.{All-nil, All-head, All-more, All-weaker}
use Rattle.std.proofs.lemmas.List.Folds.{list_any_more}
use Rattle.std.proofs.lemmas.List.Sums.{length-filter, count_by-le-length}
use Rattle.rtk_rinex.specs.declared.epoch_table.Observed.{Observed}
use Rattle.rtk_rinex.specs.declared.epoch_table.SatelliteRow.{SatelliteRow}
use Rattle.rtk_rinex.specs.Record.{EpochTableView, no_observation, has_line_in}
use Rattle.rtk_rinex.specs.Table.{IsObservedWithDoppler, IsObservedIn}
use Rattle.rtk_rinex.specs.MixedForm.{FormView}
use Rattle.rtk_rinex.specs.MixedTable.{IsMixedRow, IsMixedEpoch}
use Rattle.rtk_rinex.specs.MixedRecord.{MixedLinesView, HoldsMixedLines, mixed_record_text}
use Rattle.rtk_rinex.specs.MixedRecords.{MixedRecordsView, AreMixedLeft, IsNextRecordOf, MixedRowsView, AreRowsLeft, IsNextRowOf}
use Rattle.rtk_cut.specs.Cut.{code_at}
use Rattle.rtk_cut.specs.CutLaws.{IsFileEpoch}
use Rattle.rtk_cut.specs.Steps.FileTexts.{IsNextIn}
use Rattle.rtk_cut.specs.Steps.Pending.{mark_of, HasMarks, HaveMarks, MarksBecome, row_has_slip, row_has_phase, codes_with_marks, row_with_marks, row_with_own_marks, epoch_with_own_marks}
use Rattle.rtk_cut.specs.Steps.MixedFile.{IsRecordIn, IsRecordWith, AreLeftIn}
use Rattle.rtk_cut.proofs.TestLemmas.{and-nothing, and-all}
use Rattle.rtk_cut.proofs.CodeLemmas.{code-past, observed-in_any}
use Rattle.rtk_cut.proofs.RowLemmas.{Rise, none-before}
use Rattle.rtk_cut.proofs.MarkLemmas.{rows-noted, codes-same, map-more, row-kept}

-- ---- the records

next-in : (r r' : MixedRecordsView) (rows : MixedRowsView) (epochs : List EpochTableView) → AreMixedLeft r epochs → IsNextRecordOf epochs rows r' → IsNextIn (AreMixedLeft r') (IsRecordIn rows) epochs
next-in r r' rows [] left next = absurd next
next-in r r' rows (e ∷ es) left next = ((next.0, (r.form, All-head (IsMixedEpoch r.form) e es left.are_epochs)), next.1)

pub next-answers : (r r' : MixedRecordsView) (answer : Option MixedRowsView) (epochs : List EpochTableView) → AreMixedLeft r epochs → MatchOption answer (epochs ≡ []) (λ rows. IsNextRecordOf epochs rows r')
    → MatchOption answer (epochs ≡ []) (λ rows. IsNextIn (AreMixedLeft r') (IsRecordIn rows) epochs)
next-answers r r' None epochs left next = next
next-answers r r' (Some rows) epochs left next = next-in r r' rows epochs left next

with-in : (doppler : Bool) (r r' : MixedRecordsView) (rows : MixedRowsView) (epochs : List EpochTableView) → r'.form ≡ r.form → rows.form ≡ r.form → r.form.doppler ≡ doppler
    → IsNextIn (AreMixedLeft r') (IsRecordIn rows) epochs → IsNextIn (AreLeftIn doppler r') (IsRecordWith doppler rows) epochs
with-in doppler r r' rows [] left own is next = absurd next
with-in doppler r r' rows (e ∷ es) left own is next =
    ((next.0, ap (λ (f : FormView). f.doppler) own ∙ is), (next.1, ap (λ (f : FormView). f.doppler) left ∙ is))

-- the same of a file with Doppler shifts, or without them
pub next-with : (doppler : Bool) (r r' : MixedRecordsView) (answer : Option MixedRowsView) (epochs : List EpochTableView) → r'.form ≡ r.form → IfSome answer (λ rows. rows.form ≡ r.form) → AreLeftIn doppler r epochs
    → MatchOption answer (epochs ≡ []) (λ rows. IsNextRecordOf epochs rows r') → MatchOption answer (epochs ≡ []) (λ rows. IsNextIn (AreLeftIn doppler r') (IsRecordWith doppler rows) epochs)
next-with doppler r r' None epochs same own left next = next
next-with doppler r r' (Some rows) epochs same own left next = with-in doppler r r' rows epochs same own left.1 (next-in r r' rows epochs left.0 next)

pub mixed-epoch : (form : FormView) (e : EpochTableView) → IsMixedEpoch form e → IsFileEpoch e
mixed-epoch form e good =
    record {
      observed = All-weaker (IsMixedRow form) (λ (r : SatelliteRow). All IsObservedWithDoppler r.observed.items)
          (λ r row. All-weaker (IsObservedIn form.doppler) IsObservedWithDoppler (observed-in_any form.doppler) r.observed.items row.observed) e.rows good.rows;
      rise = good.rise;
    }

-- ---- rows of any systems

-- there are marks of each satellite of all systems
pub all-have_marks : (f : FormView) (marks : List Bool) (rows : List SatelliteRow) → length marks ≡ 3552 → All (IsMixedRow f) rows → HaveMarks marks rows
all-have_marks f marks rows size good k d lt =
    let row = good k d lt in
    let high = row.satellite.1 in
    omega (arith, size, high)

-- ---- a row more was read

-- the row that was read is the next one of all rows
pub record IsRowAt (all : List SatelliteRow) (at : ℕ) (row : SatelliteRow) (left : MixedRowsView) : Type 0 where
  pub within : at < length all
  pub is : row ≡ get_or all at row
  pub are_left : AreRowsLeft left (drop (at + 1) all)

split-row : (all : List SatelliteRow) (at : ℕ) (row : SatelliteRow) (left : MixedRowsView) (rest : List SatelliteRow) → drop at all ≡ rest → IsNextRowOf rest row left → IsRowAt all at row left
split-row all at row left [] is next = absurd next
split-row all at row left (r ∷ rest) is next =
    let long : length (drop at all) ≡ suc (length rest) = ap length is in
    let within : at < length all = (let cut = length-drop at all in omega (arith, long, cut)) in
    let both : get_or all at row ∷ drop (suc at) all ≡ r ∷ rest = sym (drop-cons all at row within) ∙ is in
    let head : get_or all at row ≡ r = ap (λ xs. get_or xs 0 row) both in
    let tail : drop (suc at) all ≡ rest = ap (λ xs. drop 1 xs) both in
    let one : at + 1 ≡ suc at = omega arith in
    record { within = within; is = next.0 ∙ sym head; are_left = subst (λ xs. AreRowsLeft left xs) (sym (ap (λ n. drop n all) one ∙ tail)) next.1 }

pub row-at : (all : List SatelliteRow) (at : ℕ) (row : SatelliteRow) (old left : MixedRowsView) → AreRowsLeft old (drop at all) → ((rows : List SatelliteRow) → AreRowsLeft old rows → IsNextRowOf rows row left) → IsRowAt all at row left
row-at all at row old left are next = split-row all at row left (drop at all) refl (next (drop at all) are)

-- after the last one all were read
pub all-read : (all : List SatelliteRow) (at : ℕ) → drop at all ≡ [] → take at all ≡ all
all-read all at none = sym (append-nil (take at all)) ∙ ap (λ xs. take at all ++ xs) (sym none) ∙ take-append-drop at all

-- ---- off the step

pub record HasNoted (old marks : List Bool) (all : List SatelliteRow) (rows : MixedRowsView) : Type 0 where
  pub at : ℕ
  pub are_left : AreRowsLeft rows (drop at all)
  pub noted : MarksBecome marks (λ s c. list_any (row_has_slip s c) (take at all) || mark_of old s c)

pub noted-none : (marks : List Bool) (all : List SatelliteRow) (rows : MixedRowsView) → AreRowsLeft rows all → HasNoted marks marks all rows
noted-none marks all rows left = record { at = 0; are_left = left; noted = λ s c satellite code. refl }

pub noted-more : (old marks marks' : List Bool) (all : List SatelliteRow) (rows rows' : MixedRowsView) (row : SatelliteRow) → HasNoted old marks all rows → ((xs : List SatelliteRow) → AreRowsLeft rows xs → IsNextRowOf xs row rows')
    → length marks' ≡ length marks → MarksBecome marks' (λ s c. row_has_slip s c row || mark_of marks s c) → HasNoted old marks' all rows'
noted-more old marks marks' all rows rows' row so_far next size marked =
    let r = row-at all so_far.at row rows rows' so_far.are_left next in
    record {
      at = so_far.at + 1;
      are_left = r.are_left;
      noted = rows-noted all so_far.at row old marks marks' r.within size so_far.noted
          (λ s c satellite code. marked s c satellite code ∙ ap (λ (x : SatelliteRow). row_has_slip s c x || mark_of marks s c) r.is);
    }

pub noted-all : (old marks : List Bool) (all : List SatelliteRow) (rows : MixedRowsView) → HasNoted old marks all rows → ((xs : List SatelliteRow) → AreRowsLeft rows xs → xs ≡ [])
    → MarksBecome marks (λ s c. list_any (row_has_slip s c) all || mark_of old s c)
noted-all old marks all rows so_far none = λ s c satellite code.
    so_far.noted s c satellite code ∙ ap (λ xs. list_any (row_has_slip s c) xs || mark_of old s c) (all-read all so_far.at (none (drop so_far.at all) so_far.are_left))

-- ---- on the step

own-if : (s c : ℕ) (r : SatelliteRow) (b : Bool) → ltb c (length r.observed.items) ≡ b → (row_has_phase s c r && b) ≡ row_has_phase s c r
own-if s c r true is = and-all (row_has_phase s c r)
own-if s c r false is =
    and-nothing (row_has_phase s c r)
    ∙ sym (ap (λ (o : Observed). eqb r.satellite s && is_some o.phase_millicycles) (code-past c r (ltb-false c (length r.observed.items) is)) ∙ and-nothing (eqb r.satellite s))

-- no phase stands past the last code of a row
row-within : (s c : ℕ) (r : SatelliteRow) → (row_has_phase s c r && ltb c (length r.observed.items)) ≡ row_has_phase s c r
row-within s c r = own-if s c r (ltb c (length r.observed.items)) refl

or-both : (x y old : Bool) → (not y && (not x && old)) ≡ (not (x || y) && old)
or-both true true old = refl
or-both true false old = refl
or-both false true old = refl
or-both false false old = refl

-- the marks of the phases of these rows are gone
abbrev pub AreCleared : List Bool → List Bool → List SatelliteRow → Type 0
AreCleared old marks rows = MarksBecome marks (λ s c. not (list_any (row_has_phase s c) rows) && mark_of old s c)

cleared-row : (old marks marks' : List Bool) (all : List SatelliteRow) (at n : ℕ) (row : SatelliteRow) → at < length all → row ≡ get_or all at row → n ≡ length row.observed.items → length marks' ≡ length marks → AreCleared old marks (take at all)
    → MarksBecome marks' (λ s c. not (row_has_phase s c row && ltb c n) && mark_of marks s c) → AreCleared old marks' (take (at + 1) all)
cleared-row old marks marks' all at n row lt is wide size so_far marked = λ s c satellite code.
    let has : HasMarks marks s = omega (arith, size, satellite) in
    marked s c satellite code
    ∙ ap (λ (k : ℕ). not (row_has_phase s c row && ltb c k) && mark_of marks s c) wide
    ∙ ap (λ b. not b && mark_of marks s c) (row-within s c row)
    ∙ ap (λ b. not (row_has_phase s c row) && b) (so_far s c has code)
    ∙ or-both (list_any (row_has_phase s c) (take at all)) (row_has_phase s c row) (mark_of old s c)
    ∙ ap (λ (x : SatelliteRow). not (list_any (row_has_phase s c) (take at all) || row_has_phase s c x) && mark_of old s c) is
    ∙ ap (λ b. not b && mark_of old s c) (sym (list_any_more (row_has_phase s c) all at row lt))

-- a row shows the same by the marks that the rows before it left
shown-row : (old marks : List Bool) (all : List SatelliteRow) (at n : ℕ) (row : SatelliteRow) (shown : List Observed) → Rise all → at < length all → row ≡ get_or all at row → n ≡ length row.observed.items → n ≤ 16 → HasMarks marks row.satellite
    → AreCleared old marks (take at all) → shown ≡ codes_with_marks marks n row → record { satellite = row.satellite; observed = record { items = shown } } ≡ row_with_own_marks old row
shown-row old marks all at n row shown rise lt is wide few has so_far made =
    let here : (c : ℕ) → c < n → mark_of marks row.satellite c ≡ mark_of old row.satellite c =
    λ c inside. let code : c < 16 = omega arith in
    so_far row.satellite c has code
    ∙ ap (λ b. not b && mark_of old row.satellite c)
    (ap (λ (x : SatelliteRow). list_any (row_has_phase x.satellite c) (take at all)) is ∙ none-before (λ x. is_some (code_at c x).phase_millicycles) all at row rise lt) in
    ap (λ (xs : List Observed). record { satellite = row.satellite; observed = record { items = xs } })
    (made ∙ codes-same marks old n row here)
    ∙ ap (λ (k : ℕ). row_with_marks old k row) wide

abbrev pub HasFewCodes : SatelliteRow → Type 0
HasFewCodes r = length r.observed.items ≤ 16

pub record HasCleared (old marks : List Bool) (is_changed : Bool) (all : List SatelliteRow) (rows : MixedRowsView) : Type 0 where
  pub at : ℕ
  pub are_left : AreRowsLeft rows (drop at all)
  pub few : All HasFewCodes (take at all)
  pub cleared : AreCleared old marks (take at all)
  pub same : is_changed ≡ false → map (row_with_own_marks old) (take at all) ≡ take at all

pub cleared-none : (marks : List Bool) (all : List SatelliteRow) (rows : MixedRowsView) → AreRowsLeft rows all → HasCleared marks marks false all rows
cleared-none marks all rows left = record { at = 0; are_left = left; few = All-nil HasFewCodes; cleared = λ s c satellite code. refl; same = λ unchanged. refl }

or-parts : (a b : Bool) → (a || b) ≡ false → (a ≡ false) × (b ≡ false)
or-parts true b is = cc
or-parts false b is = (refl, is)

-- what the row shows was made with the marks, and was it the row's own?
pub record ShowsRow (marks marks' : List Bool) (row : SatelliteRow) (n : ℕ) (shown : List Observed) (is_changed : Bool) : Type 0 where
  pub wide : n ≡ length row.observed.items
  pub few : n ≤ 16
  pub has : HasMarks marks row.satellite
  pub size : length marks' ≡ length marks
  pub shown_is : shown ≡ codes_with_marks marks n row
  pub long : length shown ≡ n
  pub cleared : MarksBecome marks' (λ s c. not (row_has_phase s c row && ltb c n) && mark_of marks s c)
  pub same : is_changed ≡ false → (c : ℕ) → c < n → get_or shown c no_observation ≡ code_at c row

pub cleared-more : (old marks marks' : List Bool) (was is_row : Bool) (all : List SatelliteRow) (rows rows' : MixedRowsView) (row : SatelliteRow) (n : ℕ) (shown : List Observed) → Rise all → HasCleared old marks was all rows
    → ((xs : List SatelliteRow) → AreRowsLeft rows xs → IsNextRowOf xs row rows') → ShowsRow marks marks' row n shown is_row → HasCleared old marks' (was || is_row) all rows'
cleared-more old marks marks' was is_row all rows rows' row n shown rise so_far next shows =
    let r = row-at all so_far.at row rows rows' so_far.are_left next in
    let f = row_with_own_marks old in
    record {
      at = so_far.at + 1;
      are_left = r.are_left;
      few = All-more HasFewCodes all so_far.at row r.within so_far.few (subst HasFewCodes r.is (subst (λ (k : ℕ). k ≤ 16) shows.wide shows.few));
      cleared = cleared-row old marks marks' all so_far.at n row r.within r.is shows.wide shows.size so_far.cleared shows.cleared;
      same = λ unchanged.
          let both = or-parts was is_row unchanged in
          let own : f row ≡ row =
          sym (shown-row old marks all so_far.at n row shown rise r.within r.is shows.wide shows.few shows.has so_far.cleared shows.shown_is)
          ∙ row-kept n row shown shows.long (sym shows.wide) (shows.same both.1) in
          map-more f all so_far.at row r.within ∙ ap (λ xs. xs ++ f (get_or all so_far.at row) ∷ []) (so_far.same both.0)
          ∙ ap (λ (x : SatelliteRow). take so_far.at all ++ f x ∷ []) (sym r.is)
          ∙ ap (λ (x : SatelliteRow). take so_far.at all ++ x ∷ []) (own ∙ r.is)
          ∙ sym (take_more all so_far.at row r.within);
    }

pub cleared-all : (old marks : List Bool) (is_changed : Bool) (all : List SatelliteRow) (rows : MixedRowsView) → HasCleared old marks is_changed all rows → ((xs : List SatelliteRow) → AreRowsLeft rows xs → xs ≡ [])
    → All HasFewCodes all × AreCleared old marks all × (is_changed ≡ false → map (row_with_own_marks old) all ≡ all)
cleared-all old marks is_changed all rows so_far none =
    let whole : take so_far.at all ≡ all = all-read all so_far.at (none (drop so_far.at all) so_far.are_left) in (
      subst (λ xs. All HasFewCodes xs) whole so_far.few,
      subst (λ xs. AreCleared old marks xs) whole so_far.cleared,
      λ unchanged. sym (ap (λ xs. map (row_with_own_marks old) xs) whole) ∙ so_far.same unchanged ∙ whole,
    )

-- ---- the lines of a record with marks

-- so many rows were read, and these were made of them
pub record HasMadeRows (old marks : List Bool) (all : List SatelliteRow) (rows : MixedRowsView) (made : List SatelliteRow) : Type 0 where
  pub at : ℕ
  pub are_left : AreRowsLeft rows (drop at all)
  pub cleared : AreCleared old marks (take at all)
  pub are : made ≡ map (row_with_own_marks old) (take at all)

-- their lines are written
pub record HasMadeLines (old marks : List Bool) (read rows : MixedRowsView) (lines : MixedLinesView) : Type 0 where
  pub made : List SatelliteRow
  pub holds : HoldsMixedLines lines made
  pub room : length made + rows.count ≤ 221
  pub so_far : (e : EpochTableView) → IsRecordIn read e → HasMadeRows old marks e.rows rows made

pub made-none : (marks : List Bool) (read rows : MixedRowsView) (lines : MixedLinesView) → HoldsMixedLines lines [] → rows ≡ read → rows.count ≤ 221 → HasMadeLines marks marks read rows lines
made-none marks read rows lines holds is few = record {
  made = [];
  holds = holds;
  room = omega (arith, few);
  so_far = λ e record_of. record { at = 0; are_left = subst (λ (r : MixedRowsView). AreRowsLeft r e.rows) (sym is) record_of.0.rows; cleared = λ s c satellite code. refl; are = refl };
}

-- a line more has room
pub made-room : (old marks : List Bool) (read rows : MixedRowsView) (lines : MixedLinesView) (count : ℕ) → HasMadeLines old marks read rows lines → rows.count ≡ suc count → lines.lines.count < 221
made-room old marks read rows lines count so_far is =
    let p : SatelliteRow → Bool = has_line_in lines.doppler in
    let lined : lines.lines.count ≡ length (filter p so_far.made) = so_far.holds.count in
    let counted : length (filter p so_far.made) ≡ count_by p so_far.made = length-filter p so_far.made in
    let few : count_by p so_far.made ≤ length so_far.made = count_by-le-length p so_far.made in
    let room = so_far.room in
    omega (arith, lined, counted, few, room, is)

pub made-more : (old marks marks' : List Bool) (read rows rows' : MixedRowsView) (lines lines' : MixedLinesView) (row : SatelliteRow) (n : ℕ) (shown : List Observed) (is_changed : Bool) → HasMadeLines old marks read rows lines
    → ((xs : List SatelliteRow) → AreRowsLeft rows xs → IsNextRowOf xs row rows') → rows.count ≡ suc rows'.count → ShowsRow marks marks' row n shown is_changed
    → ((xs : List SatelliteRow) → HoldsMixedLines lines xs → HoldsMixedLines lines' (xs ++ record { satellite = row.satellite; observed = record { items = shown } } ∷ []))
    → HasMadeLines old marks' read rows' lines'
made-more old marks marks' read rows rows' lines lines' row n shown is_changed so_far next count shows pushes =
    let new : SatelliteRow = record { satellite = row.satellite; observed = record { items = shown } } in
    let long : length (so_far.made ++ new ∷ []) ≡ length so_far.made + 1 = length-append so_far.made (new ∷ []) in
    let room = so_far.room in
    record {
      made = so_far.made ++ new ∷ [];
      holds = pushes so_far.made so_far.holds;
      room = omega (arith, long, room, count);
      so_far = λ e record_of.
          let before = so_far.so_far e record_of in
          let rise : Rise e.rows = record_of.1.1.rise in
          let r = row-at e.rows before.at row rows rows' before.are_left next in
          let f = row_with_own_marks old in
          record {
            at = before.at + 1;
            are_left = r.are_left;
            cleared = cleared-row old marks marks' e.rows before.at n row r.within r.is shows.wide shows.size before.cleared shows.cleared;
            are = ap (λ xs. xs ++ new ∷ []) before.are
                ∙ ap (λ (x : SatelliteRow). map f (take before.at e.rows) ++ x ∷ [])
                (shown-row old marks e.rows before.at n row shown rise r.within r.is shows.wide shows.few shows.has before.cleared shows.shown_is ∙ ap f r.is)
                ∙ sym (map-more f e.rows before.at row r.within);
          };
    }

pub made-all : (old marks : List Bool) (all : List SatelliteRow) (rows : MixedRowsView) (made : List SatelliteRow) → HasMadeRows old marks all rows made → ((xs : List SatelliteRow) → AreRowsLeft rows xs → xs ≡ [])
    → made ≡ map (row_with_own_marks old) all
made-all old marks all rows made so_far none = so_far.are ∙ ap (λ xs. map (row_with_own_marks old) xs) (all-read all so_far.at (none (drop so_far.at all) so_far.are_left))

-- an epoch whose rows are as they are is itself
pub own-cleared : (old : List Bool) (e : EpochTableView) → map (row_with_own_marks old) e.rows ≡ e.rows → epoch_with_own_marks old e ≡ e
own-cleared old e same = ap (λ (xs : List SatelliteRow). record { time = e.time; rows = xs }) same

-- a text that was made of a record with marks is that of the epoch with them
pub ok-shown : {V E : Type 0} (items : V → List ℕ) (r : Result V E) (read : MixedRowsView) (marks : List Bool) (doppler : Bool) → IfOk r (λ v. (e : EpochTableView) → IsRecordIn read e → items v ≡ mixed_record_text read.form.doppler (epoch_with_own_marks marks e))
    → IfOk r (λ v. (e : EpochTableView) → ((x : EpochTableView) × IsRecordWith doppler read x × (e ≡ epoch_with_own_marks marks x)) → items v ≡ mixed_record_text doppler e)
ok-shown items (Ok v) read marks doppler ok = λ e is.
    ok is.0 is.1.0 ∙ ap (λ (d : Bool). mixed_record_text d (epoch_with_own_marks marks is.0)) is.1.1 ∙ ap (mixed_record_text doppler) (sym is.2)
ok-shown items (Err x) read marks doppler ok = tt
