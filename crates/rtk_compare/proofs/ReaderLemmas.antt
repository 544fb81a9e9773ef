-- The rows of a record and the records of a file, read one after another.
use Rattle.std.proofs.Common.{◌≡◌, ◌<◌, ◌≤◌, ◌+◌, ℕ, suc, Bool, cond, Option, Some, None, List, [], ◌∷◌, ◌++◌, length, get_or, refl, sym, ap, subst, ◌∙◌, arith}
use Rattle.std.specs.Prelude.{All, MatchOption}
use Rattle.std.proofs.lemmas.List.Elements.{All-nil, All-head}
use Rattle.rtk_obs.specs.SatelliteIndex.{IsSatelliteIndex}
use Rattle.rtk_rinex.specs.Record.{EpochTableView}
use Rattle.rtk_rinex.specs.MixedTable.{IsMixedEpoch}
use Rattle.rtk_rinex.specs.MixedRecords.{MixedRowsView, MixedRecordsView, AreMixedLeft, IsNextRowOf, IsNextRecordOf, ReadsRow}
use Rattle.rtk_rinex.specs.declared.epoch_table.Observed.{Observed}
use Rattle.rtk_rinex.specs.declared.epoch_table.SatelliteRow.{SatelliteRow}
use Rattle.rtk_compare.specs.declared.record_reader.RecordReader.{RecordReader}
use Rattle.rtk_compare.specs.declared.row_reader.RowReader.{RowReader}
use Rattle.rtk_compare.specs.declared.side.Side.{Side}
use Rattle.rtk_compare.specs.declared.side.Side.TheVariants.{Old, New, Both}
use Rattle.rtk_compare.specs.Steps.Readers.{AreRowsOf, GivesNextRow, IsAtRows, some_count, rows_left, time_of, IsRecordIn, IsAtEpochs, records_left}
use Rattle.rtk_compare.specs.Steps.Records.{IsSideOf}
use Rattle.rtk_compare.specs.Steps.Rows.{Rise}
use Rattle.rtk_compare.specs.Steps.Sides.{IsNextSide, has_old, has_new}
use Rattle.rtk_compare.proofs.RowLemmas.{RiseAbove}

-- ---- which side is next

pub side-at : (a b c d : Option ℕ) (side : Option Side) → a ≡ c → b ≡ d → IsNextSide a b side → IsNextSide c d side
side-at a b c d side first second is = subst (λ (y : Option ℕ). IsNextSide c y side) second (subst (λ (x : Option ℕ). IsNextSide x b side) first is)

-- a file that comes next has something that is next
pub side-counts : (a b : Option ℕ) (side : Side) → IsNextSide a b (Some side) → 1 ≤ cond (has_old side) (some_count a) 0 + cond (has_new side) (some_count b) 0
side-counts None None side is = absurd (cc)
side-counts None (Some b) Old is = absurd (cc)
side-counts None (Some b) New is = omega arith
side-counts None (Some b) Both is = absurd (cc)
side-counts (Some a) None Old is = omega arith
side-counts (Some a) None New is = absurd (cc)
side-counts (Some a) None Both is = absurd (cc)
side-counts (Some a) (Some b) Old is = omega arith
side-counts (Some a) (Some b) New is = omega arith
side-counts (Some a) (Some b) Both is = omega arith

-- beside itself a reader is next in both files
pub both-next : (a : Option ℕ) (side : Side) → IsNextSide a a (Some side) → has_old side ≡ has_new side
both-next None side is = absurd (cc)
both-next (Some a) Old is = absurd (omega (arith, is))
both-next (Some a) New is = absurd (omega (arith, is))
both-next (Some a) Both is = refl

-- ---- rows

next-some : (s : ℕ) (all : List SatelliteRow) (next : SatelliteRow) (observed : List Observed) (left : MixedRowsView) → next.satellite ≡ s → next.observed.items ≡ observed → IsNextRowOf all next left → GivesNextRow (Some s) all (Some left) observed
next-some s [] next observed left satellite shown is = absurd is
next-some s (row ∷ rows) next observed left satellite shown is =
    (sym satellite ∙ ap (λ (r : SatelliteRow). r.satellite) is.0, sym shown ∙ ap (λ (r : SatelliteRow). r.observed.items) is.0, is.1)

pub next-row : (answer : Option ℕ) (all : List SatelliteRow) (next : ℕ → SatelliteRow) (observed : List Observed) (left : MixedRowsView) → ((s : ℕ) → (next s).satellite ≡ s) → ((s : ℕ) → (next s).observed.items ≡ observed)
    → MatchOption answer (all ≡ []) (λ s. IsNextRowOf all (next s) left) → GivesNextRow answer all (Some left) observed
next-row None all next observed left satellite shown is = is
next-row (Some s) all next observed left satellite shown is = next-some s all (next s) observed left (satellite s) (shown s) is

pub fewer-row : (answer : Option ℕ) (old new : MixedRowsView) (same : Type 0) → MatchOption answer ((old.count ≡ 0) × (new ≡ old) × same) (λ s. ReadsRow old new) → some_count answer + new.count ≤ old.count
fewer-row None old new same end = (let is = ap (λ (r : MixedRowsView). r.count) end.1 in omega (arith, is))
fewer-row (Some s) old new same reads = (let is = reads.count in omega (arith, is))

at-rows-by : (r : RowReader) (o : Option ℕ) (all : List SatelliteRow) → r.satellite ≡ o → GivesNextRow o all r.rows r.observed.items → IsAtRows r all
at-rows-by r None [] is next = is
at-rows-by r None (row ∷ rows) is next = absurd (cc)
at-rows-by r (Some s) [] is next = absurd next
at-rows-by r (Some s) (row ∷ rows) is next = (is ∙ ap Some next.0, next.1, next.2)

pub at-rows : (r : RowReader) (all : List SatelliteRow) → GivesNextRow r.satellite all r.rows r.observed.items → IsAtRows r all
at-rows r all next = at-rows-by r r.satellite all refl next

-- the satellites of these rows are good
abbrev pub AreGood : List SatelliteRow → Type 0
AreGood rows = All (λ r. IsSatelliteIndex r.satellite) rows

pub rows-good : (left : Option MixedRowsView) (rows : List SatelliteRow) → AreRowsOf left rows → AreGood rows
rows-good None rows none = subst (λ (xs : List SatelliteRow). AreGood xs) (sym none) (All-nil (λ (r : SatelliteRow). IsSatelliteIndex r.satellite))
rows-good (Some left) rows are = λ k d lt. (are.are_rows k d lt).satellite

head-good : (rows : List SatelliteRow) (r : SatelliteRow) (rs : List SatelliteRow) → AreGood rows → rows ≡ r ∷ rs → IsSatelliteIndex r.satellite
head-good rows r rs good is =
    let long : length rows ≡ suc (length rs) = ap length is in
    let some : 0 < length rows = omega (arith, long) in
    subst (λ (xs : List SatelliteRow). IsSatelliteIndex (get_or xs 0 r).satellite) is (good 0 r some)

rise-next : (r : SatelliteRow) (rows : List SatelliteRow) (y : SatelliteRow) (ys : List SatelliteRow) → Rise (r ∷ rows) → rows ≡ y ∷ ys → r.satellite < y.satellite
rise-next r rows y ys rise is =
    let long : length rows ≡ suc (length ys) = ap length is in
    let within : 1 < length (r ∷ rows) = omega (arith, long) in
    subst (λ (xs : List SatelliteRow). r.satellite < (get_or xs 0 y).satellite) is (rise 0 1 y (omega arith) within)

good-tail : (r : SatelliteRow) (rows : List SatelliteRow) → AreGood (r ∷ rows) → AreGood rows
good-tail r rows good = λ k d lt. good (suc k) d (omega (arith, lt))

rise-tail : (r : SatelliteRow) (rows : List SatelliteRow) → Rise (r ∷ rows) → Rise rows
rise-tail r rows rise = λ i j d lt within. rise (suc i) (suc j) d (omega (arith, lt)) (omega (arith, within))

pub rise-above : (n : ℕ) (rows : List SatelliteRow) → ((r : SatelliteRow) (rs : List SatelliteRow) → rows ≡ r ∷ rs → n < r.satellite) → AreGood rows → Rise rows → RiseAbove n rows
rise-above n [] above good rise = tt
rise-above n (r ∷ rows) above good rise =
    (above r rows refl, head-good (r ∷ rows) r rows good refl, rise-above r.satellite rows (λ y ys is. rise-next r rows y ys rise is) (good-tail r rows good) (rise-tail r rows rise))

pub rise-from_none : (rows : List SatelliteRow) → AreGood rows → Rise rows → RiseAbove 0 rows
rise-from_none rows good rise = rise-above 0 rows (λ r rs is. let g = head-good rows r rs good is in let low = g.0 in omega (arith, low)) good rise

-- at the end of both files no rows are left
pub rows-end : (old new : RowReader) (olds news : List SatelliteRow) → IsAtRows old olds → IsAtRows new news → IsNextSide old.satellite new.satellite None → (olds ≡ []) × (news ≡ [])
rows-end old new [] [] at_old at_new none = (refl, refl)
rows-end old new [] (n ∷ ns) at_old at_new none = absurd (let is = side-at _ _ None (Some n.satellite) None at_old at_new.0 none in cc)
rows-end old new (r ∷ rs) [] at_old at_new none = absurd (let is = side-at _ _ (Some r.satellite) None None at_old.0 at_new none in cc)
rows-end old new (r ∷ rs) (n ∷ ns) at_old at_new none = absurd (side-at _ _ (Some r.satellite) (Some n.satellite) None at_old.0 at_new.0 none)

pub fewer-rows : (side : Side) (old new old' new' : RowReader) (reads_old reads_new : Bool) → IsNextSide old.satellite new.satellite (Some side) → reads_old ≡ has_old side → reads_new ≡ has_new side
    → rows_left old' + cond reads_old (some_count old.satellite) 0 ≤ rows_left old → rows_left new' + cond reads_new (some_count new.satellite) 0 ≤ rows_left new
    → rows_left old' + rows_left new' < rows_left old + rows_left new
fewer-rows side old new old' new' reads_old reads_new next is_old is_new fewer_old fewer_new =
    let a = subst (λ (b : Bool). rows_left old' + cond b (some_count old.satellite) 0 ≤ rows_left old) is_old fewer_old in
    let b = subst (λ (b : Bool). rows_left new' + cond b (some_count new.satellite) 0 ≤ rows_left new) is_new fewer_new in
    let some = side-counts old.satellite new.satellite side next in
    omega (arith, a, b, some)

-- ---- records

pub at-epochs : (r : RecordReader) (o : Option MixedRowsView) (left : MixedRecordsView) (epochs : List EpochTableView) → r.next ≡ o → AreMixedLeft left epochs
    → MatchOption o (epochs ≡ []) (λ rows. IsNextRecordOf epochs rows r.records) → IsAtEpochs r epochs
at-epochs r None left [] is are next = is
at-epochs r None left (e ∷ es) is are next = absurd (cc)
at-epochs r (Some rows) left [] is are next = absurd next
at-epochs r (Some rows) left (e ∷ es) is are next =
    (subst (λ (x : Option MixedRowsView). IsRecordIn x e) (sym is) (next.0, (left.form, All-head (IsMixedEpoch left.form) e es are.are_epochs)), next.1)

pub fewer-record : (o : Option MixedRowsView) (old new : MixedRecordsView) → MatchOption o ((old.text ≡ []) × (new ≡ old)) (λ rows. length new.text < length old.text) → some_count o + length new.text ≤ length old.text
fewer-record None old new end = (let is = ap (λ (r : MixedRecordsView). length r.text) end.1 in omega (arith, is))
fewer-record (Some rows) old new less = omega (arith, less)

-- of what `next` says, what is less
pub less-text : (o : Option MixedRowsView) (old new : MixedRecordsView) → MatchOption o ((old.text ≡ []) × (new ≡ old)) (λ rows. old.text ≡ rows.text ++ new.text) → MatchOption o (Unit {0}) (λ rows. length new.text < length old.text)
    → MatchOption o ((old.text ≡ []) × (new ≡ old)) (λ rows. length new.text < length old.text)
less-text None old new end less = end
less-text (Some rows) old new end less = less

pub time-in : (o : Option MixedRowsView) (e : EpochTableView) → IsRecordIn o e → time_of o ≡ Some e.time
time-in None e is = absurd is
time-in (Some rows) e is = ap Some is.0.time

pub side-of : (o : Option MixedRowsView) (e : EpochTableView) → IsRecordIn o e → IsSideOf o e
side-of None e is = absurd is
side-of (Some rows) e is = is

pub epochs-end : (old new : RecordReader) (olds news : List EpochTableView) → IsAtEpochs old olds → IsAtEpochs new news → IsNextSide (time_of old.next) (time_of new.next) None → (olds ≡ []) × (news ≡ [])
epochs-end old new [] [] at_old at_new none = (refl, refl)
epochs-end old new [] (n ∷ ns) at_old at_new none = absurd (let is = side-at _ _ None (Some n.time) None (ap time_of at_old) (time-in _ n at_new.0) none in cc)
epochs-end old new (e ∷ es) [] at_old at_new none = absurd (let is = side-at _ _ (Some e.time) None None (time-in _ e at_old.0) (ap time_of at_new) none in cc)
epochs-end old new (e ∷ es) (n ∷ ns) at_old at_new none = absurd (side-at _ _ (Some e.time) (Some n.time) None (time-in _ e at_old.0) (time-in _ n at_new.0) none)

counts-time : (o : Option MixedRowsView) → some_count (time_of o) ≡ some_count o
counts-time None = refl
counts-time (Some rows) = refl

pub fewer-records : (side : Side) (old new old' new' : RecordReader) (a b : Option ℕ) (reads_old reads_new : Bool) → IsNextSide a b (Some side) → a ≡ time_of old.next → b ≡ time_of new.next
    → reads_old ≡ has_old side → reads_new ≡ has_new side
    → records_left old' + cond reads_old (some_count old.next) 0 ≤ records_left old → records_left new' + cond reads_new (some_count new.next) 0 ≤ records_left new
    → records_left old' + records_left new' < records_left old + records_left new
fewer-records side old new old' new' a b reads_old reads_new next a_is b_is is_old is_new fewer_old fewer_new =
    let first = subst (λ (b : Bool). records_left old' + cond b (some_count old.next) 0 ≤ records_left old) is_old fewer_old in
    let second = subst (λ (b : Bool). records_left new' + cond b (some_count new.next) 0 ≤ records_left new) is_new fewer_new in
    let some = side-counts (time_of old.next) (time_of new.next) side (side-at a b (time_of old.next) (time_of new.next) (Some side) a_is b_is next) in
    let old_same = ap (λ (n : ℕ). cond (has_old side) n 0) (counts-time old.next) in
    let new_same = ap (λ (n : ℕ). cond (has_new side) n 0) (counts-time new.next) in
    omega (arith, first, second, some, old_same, new_same)
