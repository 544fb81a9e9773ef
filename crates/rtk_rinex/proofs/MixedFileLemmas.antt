-- A header of any systems and the records of rising epochs after it are the text of a well-formed table.
use Rattle.std.proofs.Common.{◌≡◌, ◌≢◌, ℕ, ◌<◌, List, [], ◌∷◌, ◌++◌, length, map, get_or, Bool, true, false, if◌then◌else◌, ℤ, Option, Some, None, arith, refl, sym, ◌∙◌, ap}
use Rattle.std.specs.Prelude.{All, AllPairs, IsTrue, nat_lt}
use Rattle.std.specs.List.{flat_map, filter, list_any}
use Rattle.std.proofs.lemmas.List.{length-map, get_or-map, nil_from_length}
use Rattle.std.proofs.lemmas.List.Elements.{All-nil, All-cons, All-head, All-tail, All-map}
use Rattle.std.proofs.lemmas.List.Kept.{AllPairs-filter}
use Rattle.std.proofs.lemmas.Bool.Decides.{nat_tests}
use Rattle.rtk_message.specs.declared.system.System.{System}
use Rattle.rtk_message.specs.declared.system.System.TheVariants.{Gps, Glonass, Galileo, Beidou, Qzss, Sbas, Navic}
use Rattle.rtk_obs.specs.declared.time.Civil.{Civil}
use Rattle.rtk_obs.specs.SatelliteIndex.{index_name, system_at, bit_at, letter_of}
use Rattle.rtk_rinex.specs.declared.epoch_table.Observed.{Observed}
use Rattle.rtk_rinex.specs.declared.epoch_table.SatelliteRow.{SatelliteRow}
use Rattle.rtk_obs.specs.Reading.{reading_of}
use Rattle.rtk_rinex.specs.Record.{EpochTableView, IsStrengthOrNone, is_present, is_written, code_text, is_shown, has_line_in, trim_end}
use Rattle.rtk_rinex.specs.Table.{IsObservedIn, StartsAt, shown_value, shown_in, shown_row_in, shown_epoch_in}
use Rattle.rtk_rinex.specs.MixedHead.{MixedHeadView}
use Rattle.rtk_rinex.specs.MixedHeader.{codes_of, mixed_header_text}
use Rattle.rtk_rinex.specs.MixedRecord.{mixed_satellite_line, mixed_lines_of, mixed_record_text}
use Rattle.rtk_rinex.specs.MixedForm.{FormView, codes_in, has_channel, phases_in, has_phases, form_of_head}
use Rattle.rtk_rinex.specs.MixedTable.{HasNoPhase, IsMixedRow, IsMixedEpoch, WritesNoPhase, IsRowOfHead, IsEpochOfHead, with_mixed_record, MixedFilesAreTables}
use Rattle.rtk_rinex.proofs.TableLemmas.{observation-shown_value, phase-shown_value, is_value-shown_value, observations-shown, has_observation-shown, IsValue-shown_value, IsLock-shown_value, IsObserved-shown}

-- ---- what is shown has the same text

code_text-shown : (doppler : Bool) (o : Observed) → code_text doppler (shown_in doppler o) ≡ code_text doppler o
code_text-shown false o = observations-shown o
code_text-shown true o = rw (observation-shown_value o.range_mm, phase-shown_value o.phase_millicycles, observation-shown_value o.doppler_millihertz) refl

is_shown-shown : (doppler : Bool) (o : Observed) → is_shown doppler (shown_in doppler o) ≡ is_shown doppler o
is_shown-shown false o = has_observation-shown o
is_shown-shown true o = rw (is_value-shown_value o.range_mm, is_value-shown_value o.phase_millicycles, is_value-shown_value o.doppler_millihertz) refl

codes-map : (doppler : Bool) (os : List Observed) → flat_map (code_text doppler) (map (shown_in doppler) os) ≡ flat_map (code_text doppler) os
codes-map doppler [] = refl
codes-map doppler (o ∷ os) = rw (code_text-shown doppler o, codes-map doppler os) refl

is_shown-map : (doppler : Bool) (os : List Observed) → list_any (is_shown doppler) (map (shown_in doppler) os) ≡ list_any (is_shown doppler) os
is_shown-map doppler [] = refl
is_shown-map doppler (o ∷ os) = rw (is_shown-shown doppler o, is_shown-map doppler os) refl

has_line-shown : (doppler : Bool) (r : SatelliteRow) → has_line_in doppler (shown_row_in doppler r) ≡ has_line_in doppler r
has_line-shown doppler r = is_shown-map doppler r.observed.items

line-shown_row : (doppler : Bool) (r : SatelliteRow) → mixed_satellite_line doppler (shown_row_in doppler r) ≡ mixed_satellite_line doppler r
line-shown_row doppler r = ap (λ (t : List ℕ). trim_end (index_name r.satellite ++ t) ++ 10 ∷ []) (codes-map doppler r.observed.items)

abbrev HasSomeLine : Bool → SatelliteRow → Type 0
HasSomeLine doppler r = IsTrue (has_line_in doppler r)

-- the rows that have a line all have one
lines_if : (doppler : Bool) (r : SatelliteRow) (rows : List SatelliteRow) → All (HasSomeLine doppler) rows → (c : Bool) → has_line_in doppler r ≡ c
    → All (HasSomeLine doppler) (if c then r ∷ rows else rows)
lines_if doppler r rows h true e = All-cons (HasSomeLine doppler) r rows e h
lines_if doppler r rows h false e = h

some_lines : (doppler : Bool) (rows : List SatelliteRow) → All (HasSomeLine doppler) (filter (has_line_in doppler) rows)
some_lines doppler [] = All-nil (HasSomeLine doppler)
some_lines doppler (r ∷ rows) = lines_if doppler r (filter (has_line_in doppler) rows) (some_lines doppler rows) (has_line_in doppler r) refl

filter-shown : (doppler : Bool) (rows : List SatelliteRow) → All (HasSomeLine doppler) rows
    → filter (has_line_in doppler) (map (shown_row_in doppler) rows) ≡ map (shown_row_in doppler) rows
filter-shown doppler [] h = refl
filter-shown doppler (r ∷ rows) h =
    let line : has_line_in doppler (shown_row_in doppler r) ≡ true = has_line-shown doppler r ∙ All-head (HasSomeLine doppler) r rows h in
    let rest : filter (has_line_in doppler) (map (shown_row_in doppler) rows) ≡ map (shown_row_in doppler) rows = filter-shown doppler rows (All-tail (HasSomeLine doppler) r rows h) in
    rw (line, rest) refl

lines-map : (doppler : Bool) (rows : List SatelliteRow) → flat_map (mixed_satellite_line doppler) (map (shown_row_in doppler) rows) ≡ flat_map (mixed_satellite_line doppler) rows
lines-map doppler [] = refl
lines-map doppler (r ∷ rows) = rw (line-shown_row doppler r, lines-map doppler rows) refl

lines_of-map : (doppler : Bool) (c : Civil) (rows : List SatelliteRow) → mixed_lines_of doppler c (map (shown_row_in doppler) rows) ≡ mixed_lines_of doppler c rows
lines_of-map doppler c [] = refl
lines_of-map doppler c (r ∷ rows) = rw (line-shown_row doppler r, lines-map doppler rows, length-map rows (shown_row_in doppler)) refl

record-shown_epoch : (doppler : Bool) (e : EpochTableView) → mixed_record_text doppler (shown_epoch_in doppler e) ≡ mixed_record_text doppler e
unfolding mixed_record_text
record-shown_epoch doppler e =
    let rows = filter (has_line_in doppler) e.rows in
    rw (filter-shown doppler rows (some_lines doppler e.rows)) (lines_of-map doppler (reading_of e.time) rows)

-- ---- what is shown is what a file can show

IsObservedIn-shown : (doppler : Bool) (o : Observed) → IsStrengthOrNone o.strength_millidbhz → IsObservedIn doppler (shown_in doppler o)
IsObservedIn-shown false o h = IsObserved-shown o h
IsObservedIn-shown true o h =
    record {
      range = IsValue-shown_value o.range_mm;
      phase = IsValue-shown_value o.phase_millicycles;
      strength = h;
      lock = IsLock-shown_value o.phase_millicycles o.slip o.half;
      doppler = IsValue-shown_value o.doppler_millihertz;
    }

no_value : (v : Option ℤ) → is_present v ≡ false → shown_value v ≡ None
no_value None h = refl
no_value (Some v) h = let none : is_written v ≡ false = h in rw none refl

no_phase : (doppler : Bool) (o : Observed) → WritesNoPhase o → HasNoPhase (shown_in doppler o)
no_phase false o h = (no_value o.phase_millicycles h.0, refl)
no_phase true o h = (no_value o.phase_millicycles h.0, no_value o.doppler_millihertz h.1)

-- the codes of a system in the form of a head
codes_in-head : (h : MixedHeadView) (s : System) → codes_in (form_of_head h) s ≡ length (codes_of (letter_of s) h.listed)
codes_in-head h Gps = refl
codes_in-head h Glonass = refl
codes_in-head h Galileo = refl
codes_in-head h Beidou = refl
codes_in-head h Qzss = refl
codes_in-head h Sbas = refl
codes_in-head h Navic = refl

-- only satellites of GLONASS may show no phases
without_phases : (f : FormView) (s : System) (bit : ℕ) → phases_in f s bit ≡ false → (s ≡ Glonass) × (has_channel f.told bit ≡ false)
without_phases f Gps bit e = absurd (cc)
without_phases f Glonass bit e = (refl, e)
without_phases f Galileo bit e = absurd (cc)
without_phases f Beidou bit e = absurd (cc)
without_phases f Qzss bit e = absurd (cc)
without_phases f Sbas bit e = absurd (cc)
without_phases f Navic bit e = absurd (cc)

no_phases : (h : MixedHeadView) (r : SatelliteRow) → IsRowOfHead h r → has_phases (form_of_head h) r.satellite ≡ false → All WritesNoPhase r.observed.items
no_phases h r good none =
    let of = without_phases (form_of_head h) (system_at r.satellite) (bit_at r.satellite) none in
    good.phases of.0 of.1

row-is_shown : (h : MixedHeadView) (r : SatelliteRow) → IsRowOfHead h r → IsTrue (has_line_in h.doppler r) → IsMixedRow (form_of_head h) (shown_row_in h.doppler r)
row-is_shown h r good line = record {
  satellite = good.satellite;
  width = length-map r.observed.items (shown_in h.doppler) ∙ good.width ∙ sym (codes_in-head h (system_at r.satellite));
  observed = All-map (IsObservedIn h.doppler) (shown_in h.doppler) r.observed.items (λ k d lt. IsObservedIn-shown h.doppler (get_or r.observed.items k d) (good.strengths k d lt));
  phases = λ none. All-map HasNoPhase (shown_in h.doppler) r.observed.items (λ k d lt. no_phase h.doppler (get_or r.observed.items k d) (no_phases h r good none k d lt));
  line = has_line-shown h.doppler r ∙ line;
}

rows_if : (h : MixedHeadView) (r : SatelliteRow) (rows : List SatelliteRow) → IsRowOfHead h r → All (IsMixedRow (form_of_head h)) (map (shown_row_in h.doppler) rows)
    → (c : Bool) → has_line_in h.doppler r ≡ c → All (IsMixedRow (form_of_head h)) (map (shown_row_in h.doppler) (if c then r ∷ rows else rows))
rows_if h r rows good rest true e = All-cons (IsMixedRow (form_of_head h)) (shown_row_in h.doppler r) (map (shown_row_in h.doppler) rows) (row-is_shown h r good e) rest
rows_if h r rows good rest false e = rest

rows-are_shown : (h : MixedHeadView) (rows : List SatelliteRow) → All (IsRowOfHead h) rows
    → All (IsMixedRow (form_of_head h)) (map (shown_row_in h.doppler) (filter (has_line_in h.doppler) rows))
rows-are_shown h [] good = All-nil (IsMixedRow (form_of_head h))
rows-are_shown h (r ∷ rows) good =
    rows_if h r (filter (has_line_in h.doppler) rows) (All-head (IsRowOfHead h) r rows good) (rows-are_shown h rows (All-tail (IsRowOfHead h) r rows good)) (has_line_in h.doppler r) refl

rise-shown : (doppler : Bool) (rows : List SatelliteRow) → AllPairs (λ a b. a.satellite < b.satellite) rows
    → AllPairs (λ a b. a.satellite < b.satellite) (map (shown_row_in doppler) rows)
rise-shown doppler rows h i j d low high =
    let long : length (map (shown_row_in doppler) rows) ≡ length rows = length-map rows (shown_row_in doppler) in
    let below : j < length rows = omega arith in
    let first = get_or-map (shown_row_in doppler) rows i d d (omega arith) in
    let second = get_or-map (shown_row_in doppler) rows j d d below in
    rw (first, second) (h i j d low below)

-- ---- the whole file

abbrev has_record : Bool → EpochTableView → Bool
has_record doppler e = nat_lt 0 (length (mixed_record_text doppler e))

-- an epoch without a record adds nothing
records_if : (doppler : Bool) (e : EpochTableView) (epochs : List EpochTableView) → (c : Bool) → has_record doppler e ≡ c
    → flat_map (mixed_record_text doppler) (map (shown_epoch_in doppler) (if c then e ∷ epochs else epochs))
    ≡ mixed_record_text doppler e ++ flat_map (mixed_record_text doppler) (map (shown_epoch_in doppler) epochs)
records_if doppler e epochs true h = rw (record-shown_epoch doppler e) refl
records_if doppler e epochs false h =
    let none : mixed_record_text doppler e ≡ [] = nil_from_length (mixed_record_text doppler e) (grind (arith, nat_tests)) in rw none refl

records-shown : (doppler : Bool) (epochs : List EpochTableView)
    → flat_map (mixed_record_text doppler) epochs ≡ flat_map (mixed_record_text doppler) (map (shown_epoch_in doppler) (with_mixed_record doppler epochs))
records-shown doppler [] = refl
records-shown doppler (e ∷ epochs) =
    ap (λ (t : List ℕ). mixed_record_text doppler e ++ t) (records-shown doppler epochs)
    ∙ sym (records_if doppler e (with_mixed_record doppler epochs) (has_record doppler e) refl)

-- an epoch with a record has a row with a line
some_rows : (doppler : Bool) (e : EpochTableView) → has_record doppler e ≡ true → (shown_epoch_in doppler e).rows ≢ []
unfolding mixed_record_text
some_rows doppler e some none =
    let rows = filter (has_line_in doppler) e.rows in
    let no : mixed_record_text doppler e ≡ [] = sym (lines_of-map doppler (reading_of e.time) rows) ∙ ap (mixed_lines_of doppler (reading_of e.time)) none in
    absurd (let long = rw no at some in cc)

epoch-is_shown : (h : MixedHeadView) (e : EpochTableView) → IsEpochOfHead h e → has_record h.doppler e ≡ true → IsMixedEpoch (form_of_head h) (shown_epoch_in h.doppler e)
epoch-is_shown h e good some = record {
  time = good.time;
  some = some_rows h.doppler e some;
  rows = rows-are_shown h e.rows good.rows;
  rise = rise-shown h.doppler (filter (has_line_in h.doppler) e.rows) (AllPairs-filter (λ a b. a.satellite < b.satellite) (has_line_in h.doppler) e.rows good.rise);
}

epochs_if : (h : MixedHeadView) (e : EpochTableView) (epochs : List EpochTableView) → IsEpochOfHead h e
    → All (IsMixedEpoch (form_of_head h)) (map (shown_epoch_in h.doppler) epochs)
    → (c : Bool) → has_record h.doppler e ≡ c → All (IsMixedEpoch (form_of_head h)) (map (shown_epoch_in h.doppler) (if c then e ∷ epochs else epochs))
epochs_if h e epochs good rest true some =
    All-cons (IsMixedEpoch (form_of_head h)) (shown_epoch_in h.doppler e) (map (shown_epoch_in h.doppler) epochs) (epoch-is_shown h e good some) rest
epochs_if h e epochs good rest false some = rest

epochs-are_shown : (h : MixedHeadView) (epochs : List EpochTableView) → All (IsEpochOfHead h) epochs
    → All (IsMixedEpoch (form_of_head h)) (map (shown_epoch_in h.doppler) (with_mixed_record h.doppler epochs))
epochs-are_shown h [] good = All-nil (IsMixedEpoch (form_of_head h))
epochs-are_shown h (e ∷ epochs) good =
    epochs_if h e (with_mixed_record h.doppler epochs) (All-head (IsEpochOfHead h) e epochs good)
    (epochs-are_shown h epochs (All-tail (IsEpochOfHead h) e epochs good)) (has_record h.doppler e) refl

times-shown : (doppler : Bool) (epochs : List EpochTableView) → AllPairs (λ a b. a.time < b.time) epochs → AllPairs (λ a b. a.time < b.time) (map (shown_epoch_in doppler) epochs)
times-shown doppler epochs h i j d low high =
    let long : length (map (shown_epoch_in doppler) epochs) ≡ length epochs = length-map epochs (shown_epoch_in doppler) in
    let below : j < length epochs = omega arith in
    let first = get_or-map (shown_epoch_in doppler) epochs i d d (omega arith) in
    let second = get_or-map (shown_epoch_in doppler) epochs j d d below in
    rw (first, second) (h i j d low below)

starts-shown : (doppler : Bool) (first : ℕ) (epochs : List EpochTableView) → StartsAt first epochs → StartsAt first (map (shown_epoch_in doppler) epochs)
starts-shown doppler first [] h = tt
starts-shown doppler first (e ∷ epochs) h = h

pub mixed_file-is_shown : MixedFilesAreTables
mixed_file-is_shown h s first epochs head site moment good rise starts = record {
  table = record {
    head = head;
    site = site;
    first = moment;
    starts = starts-shown h.doppler first (with_mixed_record h.doppler epochs) starts;
    epochs = epochs-are_shown h epochs good;
    rise = times-shown h.doppler (with_mixed_record h.doppler epochs) (AllPairs-filter (λ a b. a.time < b.time) (has_record h.doppler) epochs rise);
  };
  text = ap (λ (t : List ℕ). mixed_header_text h s first ++ t) (records-shown h.doppler epochs);
}
