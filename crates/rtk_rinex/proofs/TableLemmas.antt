-- The record of an epoch is the record of an epoch of a well-formed table.
use Rattle.std.proofs.Common.{◌≡◌, ℕ, ◌<◌, List, [], ◌∷◌, ◌++◌, length, map, Bool, true, false, ◌&&◌, if◌then◌else◌, ℤ, Option, Some, None, arith, refl, sym, ◌∙◌, ap}
use Rattle.std.specs.Prelude.{All, AllPairs, IsTrue, nat_lt}
use Rattle.std.specs.List.{flat_map, filter, list_any}
use Rattle.std.proofs.lemmas.List.{length-map, get_or-map, nil_from_length}
use Rattle.std.proofs.lemmas.List.Elements.{All-nil, All-cons, All-head, All-tail}
use Rattle.std.proofs.lemmas.List.Kept.{AllPairs-filter}
use Rattle.std.proofs.lemmas.Bool.Decides.{nat_tests}
use Rattle.rtk_obs.specs.declared.time.Civil.{Civil}
use Rattle.rtk_rinex.specs.declared.epoch_table.Observed.{Observed}
use Rattle.rtk_rinex.specs.declared.epoch_table.SatelliteRow.{SatelliteRow}
use Rattle.rtk_obs.specs.Reading.{reading_of}
use Rattle.rtk_rinex.specs.Header.{header_text}
use Rattle.rtk_rinex.specs.Record.{EpochTableView, IsEpochTableView, IsSatelliteRow, IsStrengthOrNone, HasWidth, is_written, is_present, observation, lli_digit, observations, has_observation, has_line, satellite_line, lines_of, record_text}
use Rattle.rtk_rinex.specs.Table.{IsAbsentOrWritten, IsLock, IsObserved, IsTableRow, IsTableEpoch, shown_value, shown, shown_row, shown_epoch, IsShownByRecord, StartsAt, with_record, FilesAreTables}

-- a value: by whether it is written
value_if : (v : ℤ) (a b : ℕ) (c : Bool) → is_written v ≡ c → observation (if c then Some v else None) a b ≡ observation (Some v) a b
value_if v a b true e = refl
value_if v a b false e = rw e refl

pub observation-shown_value : (v : Option ℤ) (a b : ℕ) → observation (shown_value v) a b ≡ observation v a b
observation-shown_value None a b = refl
observation-shown_value (Some v) a b = value_if v a b (is_written v) refl

and-true : (b : Bool) → (b && true) ≡ b
and-true true = refl
and-true false = refl

phase_if : (v : ℤ) (slip half : Bool) (d : ℕ) (c : Bool) → is_written v ≡ c
    → observation (if c then Some v else None) (lli_digit (slip && c) (half && c)) d ≡ observation (Some v) (lli_digit slip half) d
phase_if v slip half d true e = rw (and-true slip, and-true half) refl
phase_if v slip half d false e = rw e refl

pub phase-shown_value : (v : Option ℤ) (slip half : Bool) (d : ℕ)
    → observation (shown_value v) (lli_digit (slip && is_present v) (half && is_present v)) d ≡ observation v (lli_digit slip half) d
phase-shown_value None slip half d = refl
phase-shown_value (Some v) slip half d = phase_if v slip half d (is_written v) refl

is_value_if : (v : ℤ) (c : Bool) → is_written v ≡ c → is_present (if c then Some v else None) ≡ c
is_value_if v true e = e
is_value_if v false e = refl

pub is_value-shown_value : (v : Option ℤ) → is_present (shown_value v) ≡ is_present v
is_value-shown_value None = refl
is_value-shown_value (Some v) = is_value_if v (is_written v) refl

pub observations-shown : (o : Observed) → observations (shown o) ≡ observations o
observations-shown o = rw (observation-shown_value o.range_mm, phase-shown_value o.phase_millicycles) refl

pub has_observation-shown : (o : Observed) → has_observation (shown o) ≡ has_observation o
has_observation-shown o = rw (is_value-shown_value o.range_mm, is_value-shown_value o.phase_millicycles) refl

pub observations-map : (os : List Observed) → flat_map observations (map shown os) ≡ flat_map observations os
observations-map [] = refl
observations-map (o ∷ os) = rw (observations-shown o, observations-map os) refl

has_observation-map : (os : List Observed) → list_any has_observation (map shown os) ≡ list_any has_observation os
has_observation-map [] = refl
has_observation-map (o ∷ os) = rw (has_observation-shown o, has_observation-map os) refl

pub has_line-shown_row : (r : SatelliteRow) → has_line (shown_row r) ≡ has_line r
has_line-shown_row r = has_observation-map r.observed.items

satellite_line-shown_row : (r : SatelliteRow) → satellite_line (shown_row r) ≡ satellite_line r
satellite_line-shown_row r = rw (observations-map r.observed.items) refl

abbrev pub HasLine : SatelliteRow → Type 0
HasLine r = IsTrue (has_line r)

abbrev HasGoodStrength : Observed → Type 0
HasGoodStrength o = IsStrengthOrNone o.strength_millidbhz

abbrev HasCodes : ℕ → SatelliteRow → Type 0
HasCodes n r = length r.observed.items ≡ n

-- the rows that have a line all have one
all_lines_if : (r : SatelliteRow) (rows : List SatelliteRow) → All HasLine rows → (c : Bool) → has_line r ≡ c
    → All HasLine (if c then r ∷ rows else rows)
all_lines_if r rows h true e = All-cons HasLine r rows e h
all_lines_if r rows h false e = h

pub all_lines : (rows : List SatelliteRow) → All HasLine (filter has_line rows)
all_lines [] = All-nil HasLine
all_lines (r ∷ rows) = all_lines_if r (filter has_line rows) (all_lines rows) (has_line r) refl

pub filter-shown_row : (rows : List SatelliteRow) → All HasLine rows → filter has_line (map shown_row rows) ≡ map shown_row rows
filter-shown_row [] h = refl
filter-shown_row (r ∷ rows) h =
    let line : has_line (shown_row r) ≡ true = has_line-shown_row r ∙ All-head HasLine r rows h in
    let rest : filter has_line (map shown_row rows) ≡ map shown_row rows = filter-shown_row rows (All-tail HasLine r rows h) in
    rw (line, rest) refl

lines-map : (rows : List SatelliteRow) → flat_map satellite_line (map shown_row rows) ≡ flat_map satellite_line rows
lines-map [] = refl
lines-map (r ∷ rows) = rw (satellite_line-shown_row r, lines-map rows) refl

lines_of-map : (c : Civil) (rows : List SatelliteRow) → lines_of c (map shown_row rows) ≡ lines_of c rows
lines_of-map c [] = refl
lines_of-map c (r ∷ rows) = rw (satellite_line-shown_row r, lines-map rows, length-map rows shown_row) refl

-- what is shown is what a file can show
written_if : (v : ℤ) (c : Bool) → is_written v ≡ c → IsAbsentOrWritten (if c then Some v else None)
written_if v true e = e
written_if v false e = tt

pub IsValue-shown_value : (v : Option ℤ) → IsAbsentOrWritten (shown_value v)
IsValue-shown_value None = tt
IsValue-shown_value (Some v) = written_if v (is_written v) refl

and-false : (b : Bool) → (b && false) ≡ false
and-false true = refl
and-false false = refl

lock_if : (v : ℤ) (slip half : Bool) (c : Bool) → IsLock (if c then Some v else None) (slip && c) (half && c)
lock_if v slip half true = tt
lock_if v slip half false = (and-false slip, and-false half)

pub IsLock-shown_value : (v : Option ℤ) (slip half : Bool) → IsLock (shown_value v) (slip && is_present v) (half && is_present v)
IsLock-shown_value None slip half = (and-false slip, and-false half)
IsLock-shown_value (Some v) slip half = lock_if v slip half (is_written v)

pub IsObserved-shown : (o : Observed) → IsStrengthOrNone o.strength_millidbhz → IsObserved (shown o)
IsObserved-shown o h =
    record {
      range = IsValue-shown_value o.range_mm;
      phase = IsValue-shown_value o.phase_millicycles;
      strength = h;
      lock = IsLock-shown_value o.phase_millicycles o.slip o.half;
      doppler = refl;
    }

IsObserved-map : (os : List Observed) → All HasGoodStrength os → All IsObserved (map shown os)
IsObserved-map [] h = All-nil IsObserved
IsObserved-map (o ∷ os) h =
    All-cons IsObserved (shown o) (map shown os) (IsObserved-shown o (All-head HasGoodStrength o os h)) (IsObserved-map os (All-tail HasGoodStrength o os h))

IsTableRow-shown_row : (n : ℕ) (r : SatelliteRow) → IsSatelliteRow r → length r.observed.items ≡ n → IsTrue (has_line r) → IsTableRow n (shown_row r)
IsTableRow-shown_row n r h w line =
    record {
      satellite = h.satellite;
      width = length-map r.observed.items shown ∙ w;
      observed = IsObserved-map r.observed.items h.strengths;
      line = has_line-shown_row r ∙ line;
    }

table_rows_if : (n : ℕ) (r : SatelliteRow) (rows : List SatelliteRow) → IsSatelliteRow r → length r.observed.items ≡ n
    → All (IsTableRow n) (map shown_row rows) → (c : Bool) → has_line r ≡ c → All (IsTableRow n) (map shown_row (if c then r ∷ rows else rows))
table_rows_if n r rows h w rest true e = All-cons (IsTableRow n) (shown_row r) (map shown_row rows) (IsTableRow-shown_row n r h w e) rest
table_rows_if n r rows h w rest false e = rest

table_rows : (n : ℕ) (rows : List SatelliteRow) → All IsSatelliteRow rows → HasWidth n rows → All (IsTableRow n) (map shown_row (filter has_line rows))
table_rows n [] h w = All-nil (IsTableRow n)
table_rows n (r ∷ rows) h w =
    table_rows_if n r (filter has_line rows) (All-head IsSatelliteRow r rows h) (All-head (HasCodes n) r rows w) (table_rows n rows (All-tail IsSatelliteRow r rows h) (All-tail (HasCodes n) r rows w)) (has_line r) refl

pub rise-map : (rows : List SatelliteRow) → AllPairs (λ a b. a.satellite < b.satellite) rows → AllPairs (λ a b. a.satellite < b.satellite) (map shown_row rows)
rise-map rows h i j d low high =
    let long : length (map shown_row rows) ≡ length rows = length-map rows shown_row in
    let below : j < length rows = omega arith in
    let first = get_or-map shown_row rows i d d (omega arith) in
    let second = get_or-map shown_row rows j d d below in
    rw (first, second) (h i j d low below)

record-shown_epoch : (e : EpochTableView) → record_text (shown_epoch e) ≡ record_text e
unfolding record_text
record-shown_epoch e =
    let rows = filter has_line e.rows in
    rw (filter-shown_row rows (all_lines e.rows)) (lines_of-map (reading_of e.time) rows)

pub record-is_shown : (n : ℕ) (e : EpochTableView) → IsEpochTableView e → HasWidth n e.rows → IsShownByRecord n e
unfolding record_text
record-is_shown n e h w =
    let rows = filter has_line e.rows in
    record {
      text = record-shown_epoch e;
      well_formed = λ some. record {
        time = h.time;
        some = some;
        rows = table_rows n e.rows h.rows w;
        rise = rise-map rows (AllPairs-filter (λ a b. a.satellite < b.satellite) has_line e.rows h.rise);
      };
      empty = λ none. sym (lines_of-map (reading_of e.time) rows) ∙ ap (lines_of (reading_of e.time)) none;
    }

-- ---- the whole file

abbrev has_record : EpochTableView → Bool
has_record e = nat_lt 0 (length (record_text e))

-- an epoch without a record adds nothing
records_if : (e : EpochTableView) (epochs : List EpochTableView) → (c : Bool) → has_record e ≡ c
    → flat_map record_text (map shown_epoch (if c then e ∷ epochs else epochs)) ≡ record_text e ++ flat_map record_text (map shown_epoch epochs)
records_if e epochs true h = rw (record-shown_epoch e) refl
records_if e epochs false h = let none : record_text e ≡ [] = nil_from_length (record_text e) (grind (arith, nat_tests)) in rw none refl

records-shown : (epochs : List EpochTableView) → flat_map record_text epochs ≡ flat_map record_text (map shown_epoch (with_record epochs))
records-shown [] = refl
records-shown (e ∷ epochs) = ap (λ (t : List ℕ). record_text e ++ t) (records-shown epochs) ∙ sym (records_if e (with_record epochs) (has_record e) refl)

abbrev IsGoodEpoch : ℕ → EpochTableView → Type 0
IsGoodEpoch n e = IsEpochTableView e × HasWidth n e.rows

table_epoch : (n : ℕ) (e : EpochTableView) → IsGoodEpoch n e → has_record e ≡ true → IsTableEpoch n (shown_epoch e)
table_epoch n e h some =
    let is = record-is_shown n e h.0 h.1 in
    is.well_formed (λ none. let no : record_text e ≡ [] = is.empty none in absurd (let long = rw no at some in cc))

table_epochs_if : (n : ℕ) (e : EpochTableView) (epochs : List EpochTableView) → IsGoodEpoch n e → All (IsTableEpoch n) (map shown_epoch epochs)
    → (c : Bool) → has_record e ≡ c → All (IsTableEpoch n) (map shown_epoch (if c then e ∷ epochs else epochs))
table_epochs_if n e epochs h rest true some = All-cons (IsTableEpoch n) (shown_epoch e) (map shown_epoch epochs) (table_epoch n e h some) rest
table_epochs_if n e epochs h rest false some = rest

table_epochs : (n : ℕ) (epochs : List EpochTableView) → All IsEpochTableView epochs → All (λ (e : EpochTableView). HasWidth n e.rows) epochs
    → All (IsTableEpoch n) (map shown_epoch (with_record epochs))
table_epochs n [] h w = All-nil (IsTableEpoch n)
table_epochs n (e ∷ epochs) h w =
    table_epochs_if n e (with_record epochs) (All-head IsEpochTableView e epochs h, All-head (λ (e : EpochTableView). HasWidth n e.rows) e epochs w)
    (table_epochs n epochs (All-tail IsEpochTableView e epochs h) (All-tail (λ (e : EpochTableView). HasWidth n e.rows) e epochs w)) (has_record e) refl

pub times-map : (epochs : List EpochTableView) → AllPairs (λ a b. a.time < b.time) epochs → AllPairs (λ a b. a.time < b.time) (map shown_epoch epochs)
times-map epochs h i j d low high =
    let long : length (map shown_epoch epochs) ≡ length epochs = length-map epochs shown_epoch in
    let below : j < length epochs = omega arith in
    let first = get_or-map shown_epoch epochs i d d (omega arith) in
    let second = get_or-map shown_epoch epochs j d d below in
    rw (first, second) (h i j d low below)

pub starts-map : (first : ℕ) (epochs : List EpochTableView) → StartsAt first epochs → StartsAt first (map shown_epoch epochs)
starts-map first [] h = tt
starts-map first (e ∷ epochs) h = h

pub file-is_shown : FilesAreTables
file-is_shown h s first epochs head site moment good wide rise starts = record {
  table = record {
    head = head;
    site = site;
    first = moment;
    starts = starts-map first (with_record epochs) starts;
    epochs = table_epochs (length h.listed) epochs good wide;
    rise = times-map (with_record epochs) (AllPairs-filter (λ a b. a.time < b.time) has_record epochs rise);
  };
  text = ap (λ (t : List ℕ). header_text h s first ++ t) (records-shown epochs);
}
