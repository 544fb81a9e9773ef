-- The rows and the epochs of one system of a file.
use Rattle.std.proofs.Common.{◌≡◌, ◌<◌, ◌≤◌, ◌+◌, ◌++◌, cond, suc, Bool, true, false, List, [], ◌∷◌, length, map, get_or, append-nil, append_assoc, length-append, refl, sym, ap, subst, ◌∙◌, arith}
use Rattle.std.specs.Int.{IsInRange}
use Rattle.std.specs.List.{filter}
use Rattle.std.proofs.lemmas.List.{get_or-map, length-map}
use Rattle.std.proofs.lemmas.List.Elements.{All-push}
use Rattle.std.proofs.lemmas.List.Kept.{AllPairs-filter}
use Rattle.rtk_message.specs.declared.system.System.{System}
use Rattle.rtk_rinex.specs.MixedForm.{FormView}
use Rattle.rtk_rinex.specs.MixedRecords.{MixedRecordsView, MixedRowsView, AreMixedLeft, AreRowsLeft, IsRecordOf, IsNextRecordOf, IsNextRowOf}
use Rattle.rtk_rinex.specs.MixedTable.{IsMixedEpoch}
use Rattle.rtk_rinex.specs.Record.{EpochTableView}
use Rattle.rtk_rinex.specs.declared.epoch_table.SatelliteRow.{SatelliteRow}
use Rattle.rtk_tracking.specs.Epochs.{epochs_onto, newest_first}
use Rattle.rtk_quality.specs.Standing.{AreRowsUpTo, RowsRise, EpochsRise}
use Rattle.rtk_quality.specs.SystemParts.{is_row_of, epoch_of_system, epochs_of_system}

-- ---- the rows of a record

filter-true : {X : Type 0} (p : X → Bool) (x : X) (xs : List X) → p x ≡ true → filter p (x ∷ xs) ≡ x ∷ filter p xs
filter-true p x xs on = ap (λ b. cond b (x ∷ filter p xs) (filter p xs)) on

filter-false : {X : Type 0} (p : X → Bool) (x : X) (xs : List X) → p x ≡ false → filter p (x ∷ xs) ≡ filter p xs
filter-false p x xs off = ap (λ b. cond b (x ∷ filter p xs) (filter p xs)) off

-- these rows of a system were read, and others are left
pub record HasReadOwn (s : System) (all : List SatelliteRow) (rows : MixedRowsView) (own : List SatelliteRow) : Type 0 where
  pub left : List SatelliteRow
  pub are_left : AreRowsLeft rows left
  pub are : own ++ filter (is_row_of s) left ≡ filter (is_row_of s) all

pub record HasReadRows (s : System) (read rows : MixedRowsView) (own : List SatelliteRow) : Type 0 where
  pub satellites : AreRowsUpTo 221 own
  pub room : length own + rows.count ≤ 221
  pub so_far : (e : EpochTableView) → IsRecordOf e read → HasReadOwn s e.rows rows own

pub own-none : (s : System) (read rows : MixedRowsView) (own : List SatelliteRow) → own ≡ [] → rows ≡ read → rows.count ≤ 221 → HasReadRows s read rows own
own-none s read rows own none is few =
    subst (λ (xs : List SatelliteRow). HasReadRows s read rows xs) (sym none) (record {
      satellites = λ i d lt. absurd (omega (arith, lt));
      room = omega (arith, few);
      so_far = λ e record_of. record { left = e.rows; are_left = subst (λ (r : MixedRowsView). AreRowsLeft r e.rows) (sym is) record_of.rows; are = refl };
    })

rows-on : (s : System) (all left own : List SatelliteRow) (row : SatelliteRow) (after : MixedRowsView) → IsNextRowOf left row after → is_row_of s row ≡ true
    → own ++ filter (is_row_of s) left ≡ filter (is_row_of s) all → HasReadOwn s all after (own ++ row ∷ [])
rows-on s all [] own row after next on are = absurd next
rows-on s all (r ∷ rest) own row after next on are =
    let p : SatelliteRow → Bool = is_row_of s in
    let first : filter p (r ∷ rest) ≡ row ∷ filter p rest = filter-true p r rest (ap p (sym next.0) ∙ on) ∙ ap (λ x. x ∷ filter p rest) (sym next.0) in
    record { left = rest; are_left = next.1; are = append_assoc own (row ∷ []) (filter p rest) ∙ ap (λ xs. own ++ xs) (sym first) ∙ are }

rows-off : (s : System) (all left own : List SatelliteRow) (row : SatelliteRow) (after : MixedRowsView) → IsNextRowOf left row after → is_row_of s row ≡ false
    → own ++ filter (is_row_of s) left ≡ filter (is_row_of s) all → HasReadOwn s all after own
rows-off s all [] own row after next off are = absurd next
rows-off s all (r ∷ rest) own row after next off are =
    let p : SatelliteRow → Bool = is_row_of s in
    record { left = rest; are_left = next.1; are = ap (λ xs. own ++ xs) (sym (filter-false p r rest (ap p (sym next.0) ∙ off))) ∙ are }

-- a row of the system more
pub own-more : (s : System) (read rows after : MixedRowsView) (own new : List SatelliteRow) (row : SatelliteRow) → HasReadRows s read rows own
    → ((xs : List SatelliteRow) → AreRowsLeft rows xs → IsNextRowOf xs row after) → rows.count ≡ suc after.count → IsInRange 1 221 row.satellite → is_row_of s row ≡ true → new ≡ own ++ row ∷ []
    → HasReadRows s read after new
own-more s read rows after own new row so_far next count inside on took =
    let long : length (own ++ row ∷ []) ≡ length own + 1 = length-append own (row ∷ []) in
    let room = so_far.room in
    subst (λ (xs : List SatelliteRow). HasReadRows s read after xs) (sym took) (record {
      satellites = All-push (λ (r : SatelliteRow). IsInRange 1 221 r.satellite) own row so_far.satellites inside;
      room = omega (arith, long, room, count);
      so_far = λ e record_of.
          let before = so_far.so_far e record_of in
          rows-on s e.rows before.left own row after (next before.left before.are_left) on before.are;
    })

-- a row of another system
pub own-past : (s : System) (read rows after : MixedRowsView) (own : List SatelliteRow) (row : SatelliteRow) → HasReadRows s read rows own
    → ((xs : List SatelliteRow) → AreRowsLeft rows xs → IsNextRowOf xs row after) → rows.count ≡ suc after.count → is_row_of s row ≡ false
    → HasReadRows s read after own
own-past s read rows after own row so_far next count off =
    let room = so_far.room in
    record {
      satellites = so_far.satellites;
      room = omega (arith, room, count);
      so_far = λ e record_of.
          let before = so_far.so_far e record_of in
          rows-off s e.rows before.left own row after (next before.left before.are_left) off before.are;
    }

-- all rows
pub own-all : (s : System) (all own : List SatelliteRow) (rows : MixedRowsView) → HasReadOwn s all rows own → ((xs : List SatelliteRow) → AreRowsLeft rows xs → xs ≡ []) → own ≡ filter (is_row_of s) all
own-all s all own rows so_far none =
    sym (append-nil own) ∙ ap (λ xs. own ++ filter (is_row_of s) xs) (sym (none so_far.left so_far.are_left)) ∙ so_far.are

-- ---- the records of a file of any systems, one after another

-- the epochs that came, in a state that stands for them, and those that are left
abbrev pub HasComeMixed : {S : Type 0} → (S → List EpochTableView → Type 0) → MixedRecordsView → S → List EpochTableView → Type 0
HasComeMixed Stands left state epochs =
    (before : List EpochTableView) × (rest : List EpochTableView) × AreMixedLeft left rest × (epochs_onto rest before ≡ newest_first epochs) × Stands state before

come-first : {S : Type 0} (Stands : S → List EpochTableView → Type 0) (left_1 left_2 : MixedRecordsView) (state_1 state_2 : S) (epochs before rest : List EpochTableView) (rows : MixedRowsView)
    → AreMixedLeft left_1 rest → epochs_onto rest before ≡ newest_first epochs → Stands state_1 before → IsNextRecordOf rest rows left_2
    → ((es : List EpochTableView) (e : EpochTableView) → IsRecordOf e rows → IsMixedEpoch left_1.form e → Stands state_1 es → Stands state_2 (e ∷ es)) → HasComeMixed Stands left_2 state_2 epochs
come-first Stands left_1 left_2 state_1 state_2 epochs before [] rows are onto stands next takes = absurd next
come-first Stands left_1 left_2 state_1 state_2 epochs before (e ∷ es) rows are onto stands next takes = (
  e ∷ before,
  es,
  next.1,
  onto,
  takes before e next.0 (are.are_epochs 0 e (omega arith)) stands,
)

pub come-record : {S : Type 0} (Stands : S → List EpochTableView → Type 0) (left_1 left_2 : MixedRecordsView) (state_1 state_2 : S) (epochs : List EpochTableView) (rows : MixedRowsView)
    → HasComeMixed Stands left_1 state_1 epochs → ((es : List EpochTableView) → AreMixedLeft left_1 es → IsNextRecordOf es rows left_2)
    → ((es : List EpochTableView) (e : EpochTableView) → IsRecordOf e rows → IsMixedEpoch left_1.form e → Stands state_1 es → Stands state_2 (e ∷ es)) → HasComeMixed Stands left_2 state_2 epochs
come-record Stands left_1 left_2 state_1 state_2 epochs rows come next takes =
    come-first Stands left_1 left_2 state_1 state_2 epochs come.0 come.1 rows come.2 come.3 come.4 (next come.1 come.2) takes

pub come-end : {S : Type 0} (Stands : S → List EpochTableView → Type 0) (left : MixedRecordsView) (state : S) (epochs : List EpochTableView)
    → HasComeMixed Stands left state epochs → ((rest : List EpochTableView) → AreMixedLeft left rest → rest ≡ []) → Stands state (newest_first epochs)
come-end Stands left state epochs come none =
    subst (λ (es : List EpochTableView). Stands state es) (sym (ap (λ (es : List EpochTableView). epochs_onto es come.0) (none come.1 come.2)) ∙ come.3) come.4

-- ---- the epochs of a system

onto-mapped : (f : EpochTableView → EpochTableView) (es before : List EpochTableView) → epochs_onto (map f es) (map f before) ≡ map f (epochs_onto es before)
onto-mapped f [] before = refl
onto-mapped f (e ∷ es) before = onto-mapped f es (e ∷ before)

pub newest-of-system : (s : System) (epochs : List EpochTableView) → newest_first (epochs_of_system s epochs) ≡ epochs_of_system s (newest_first epochs)
newest-of-system s epochs = onto-mapped (epoch_of_system s) epochs []

pub system-epochs-rise : (s : System) (epochs : List EpochTableView) → EpochsRise epochs → EpochsRise (epochs_of_system s epochs)
system-epochs-rise s epochs rise i j d lt within =
    let f : EpochTableView → EpochTableView = epoch_of_system s in
    let n = length-map epochs f in
    let high : j < length epochs = omega (arith, n, within) in
    let low : i < length epochs = omega (arith, lt, high) in
    let one : (get_or (map f epochs) i d).time ≡ (get_or epochs i d).time = ap (λ (e : EpochTableView). e.time) (get_or-map f epochs i d d low) in
    let other : (get_or (map f epochs) j d).time ≡ (get_or epochs j d).time = ap (λ (e : EpochTableView). e.time) (get_or-map f epochs j d d high) in
    let less = rise i j d lt high in
    omega (arith, one, other, less)

pub system-rows-rise : (s : System) (f : FormView) (e : EpochTableView) → IsMixedEpoch f e → RowsRise (filter (is_row_of s) e.rows)
system-rows-rise s f e good = AllPairs-filter (λ (a b : SatelliteRow). a.satellite < b.satellite) (is_row_of s) e.rows good.rise
