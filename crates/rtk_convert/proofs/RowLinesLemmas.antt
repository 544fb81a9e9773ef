-- The text of a record, whose lines are written code by code.
use Rattle.std.proofs.Common.{◌≡◌, ◌∙◌, ℕ, ◌+◌, ◌-◌, ◌<◌, ◌≤◌, List, [], ◌∷◌, ◌++◌, length, arith, refl, ap, sym, true, false, nat_le, Some, Bool, subst, drop, ◌||◌, slice_index_or}
use Rattle.std.specs.Prelude.{All}
use Rattle.std.specs.List.{flat_map, filter, list_any}
use Rattle.std.proofs.lemmas.Bool.{cond-false}
use Rattle.std.proofs.lemmas.List.{append-nil}
use Rattle.std.proofs.lemmas.Bool.Decides.{nat_tests}
use Rattle.std.proofs.lemmas.List.Elements.{All-head, All-pop, All-tail, All-filter, filter-append}
use Rattle.std.proofs.lemmas.List.Sums.{length-filter, count_by-le-length}
use Rattle.rtk_message.specs.declared.system.System.{System}
use Rattle.rtk_message.specs.declared.system.System.TheVariants.{Gps}
use Rattle.rtk_obs.specs.declared.time.Civil.{Civil}
use Rattle.rtk_obs.specs.CivilText.{last_digits}
use Rattle.rtk_obs.specs.SatelliteIndex.{satellites_before, system_at, letter_of, name_offset, index_name}
use Rattle.rtk_rinex.specs.declared.epoch_table.Observed.{Observed}
use Rattle.rtk_rinex.specs.declared.epoch_table.SatelliteRow.{SatelliteRow}
use Rattle.rtk_obs.specs.Reading.{reading_of}
use Rattle.rtk_rinex.specs.Record.{EpochTableView, observations, trim_end, is_present, has_observation, has_observation_or_doppler, is_shown, has_line, has_line_in, satellite_line, epoch_line, lines_of, record_text}
use Rattle.rtk_rinex.specs.RecordLines.{RecordLinesView, KeepsLines, HasOpenLine, IsFreeIn}
use Rattle.rtk_rinex.specs.MixedRecord.{MixedLinesView, HoldsMixedLines, HasOpenMixedLine, KeepsMixedLines, mixed_satellite_line, mixed_lines_of, mixed_record_text}
use Rattle.rtk_convert.specs.Steps.RowLines.{Keeps, HasRoom, HasGpsRows, HasGpsLine, HasMixedRows, HasMixedLine}

-- ---- room for a line more

either-false : (a b : Bool) → (a || b) ≡ false → (a ≡ false) × (b ≡ false)
either-false false b h = (refl, h)
either-false true b h = absurd cc

pub gps-room : (l : RecordLinesView) → HasRoom HasGpsRows 32 l → l.count < 32
gps-room l room =
    let rows = room.1 in
    omega (arith, room.2.holds.holds.count, room.3, length-filter has_line rows, count_by-le-length has_line rows)

pub mixed-room : (l : MixedLinesView) → HasRoom HasMixedRows 221 l → l.lines.count < 221
mixed-room l room =
    let rows = room.1 in
    omega (arith, room.2.holds.count, room.3, length-filter (has_line_in l.doppler) rows, count_by-le-length (has_line_in l.doppler) rows)

-- ---- the rows stay

pub gps-kept : (old new : RecordLinesView) → KeepsLines old new → Keeps HasGpsRows old new
gps-kept old new k doppler rows h = record {
  holds = record {
    holds = record { lines = ap (drop 36) k.text ∙ h.holds.holds.lines; count = k.count ∙ h.holds.holds.count };
    satellites = h.holds.satellites;
  };
  plain = h.plain;
}

pub mixed-kept : (old new : MixedLinesView) → KeepsMixedLines old new → Keeps HasMixedRows old new
mixed-kept old new k doppler rows h = record {
  holds = subst (λ (d : Bool). HoldsMixedLines (record { lines = new.lines; doppler = d }) rows) (sym k.doppler)
      (record { lines = ap (drop 36) k.lines.text ∙ h.holds.lines; count = k.lines.count ∙ h.holds.count });
  shows = k.doppler ∙ h.shows;
}

-- ---- the open line

pub gps-opened : (doppler : Bool) (old new : RecordLinesView) (rows : List SatelliteRow) (row : List Observed) → HasGpsRows old doppler rows → HasOpenLine false new row → HasGpsLine doppler new row
gps-opened doppler old new rows row held h = record { plain = held.plain; open_line = h }

-- of any system
pub mixed-open : (doppler : Bool) (l : MixedLinesView) (row : List Observed) → HasMixedLine doppler l row → HasOpenLine doppler l.lines row
mixed-open doppler l row h = subst (λ (d : Bool). HasOpenLine d l.lines row) h.shows h.open_line

pub mixed-line : (doppler : Bool) (old new : MixedLinesView) (row : List Observed) → old.doppler ≡ doppler → KeepsMixedLines old new → HasOpenLine doppler new.lines row → HasMixedLine doppler new row
mixed-line doppler old new row is k h =
    let shows : new.doppler ≡ doppler = k.doppler ∙ is in
    record { shows = shows; open_line = subst (λ (d : Bool). HasOpenLine d new.lines row) (sym shows) h }

-- the same where it is known whether lines show shifts
pub mixed-open-as : (doppler d : Bool) (l : MixedLinesView) (row : List Observed) → doppler ≡ d → HasMixedLine doppler l row → HasOpenLine d l.lines row
mixed-open-as doppler d l row is h = subst (λ (e : Bool). HasOpenLine e l.lines row) is (mixed-open doppler l row h)

pub mixed-line-as : (doppler d : Bool) (old new : MixedLinesView) (row : List Observed) → doppler ≡ d → old.doppler ≡ doppler → KeepsMixedLines old new → HasOpenLine d new.lines row
    → HasMixedLine doppler new row
mixed-line-as doppler d old new row is shows k h = mixed-line doppler old new row shows k (subst (λ (e : Bool). HasOpenLine e new.lines row) (sym is) h)

-- a line that is opened shows shifts if the rows before it do
pub mixed-opened : (doppler : Bool) (old new : MixedLinesView) (rows : List SatelliteRow) (row : List Observed) → HasMixedRows old doppler rows → KeepsMixedLines old new → HasOpenMixedLine new row
    → HasMixedLine doppler new row
mixed-opened doppler old new rows row held k h = record { shows = k.doppler ∙ held.shows; open_line = h }

-- ---- a code that shows nothing, also no Doppler shift

not-shown : (doppler : Bool) (o : Observed) → has_observation_or_doppler o ≡ false → is_shown doppler o ≡ false
not-shown false o h = (either-false (has_observation o) (is_present o.doppler_millihertz) h).0
not-shown true o h = h

pub free-in : (doppler : Bool) (row : List Observed) (place : ℕ) → IsFreeIn true row place → IsFreeIn doppler row place
free-in doppler row place h = record { inside = h.inside; free = λ d. not-shown doppler (slice_index_or row place d) (h.free d) }

none-shown : (doppler : Bool) (os : List Observed) → list_any has_observation_or_doppler os ≡ false → list_any (is_shown doppler) os ≡ false
none-shown doppler [] h = refl
none-shown doppler (o ∷ os) h =
    let p = either-false (has_observation_or_doppler o) (list_any has_observation_or_doppler os) h in
    rw (not-shown doppler o p.0) (none-shown doppler os p.1)

-- a row that shows nothing has no line in a file of either kind
no-line-in : (doppler : Bool) (r : SatelliteRow) → has_line_in true r ≡ false → has_line_in doppler r ≡ false
no-line-in doppler r h = none-shown doppler r.observed.items h

-- ---- the record of satellites of GPS

within : (a b : ℕ) → a ≤ b → nat_le a b ≡ true
within a b h = grind (arith, nat_tests)

-- a satellite of GPS has the letter G
pub gps-name : (i : ℕ) → i ≤ 32 → index_name i ≡ 71 ∷ last_digits 2 i
gps-name i h =
    let gps : system_at i ≡ Gps = rw (within i 32 h) refl in
    let number : i - satellites_before Gps + name_offset Gps ≡ i = omega arith in
    ap (λ (s : System). letter_of s ∷ last_digits 2 (i - satellites_before s + name_offset s)) gps ∙ ap (λ (n : ℕ). 71 ∷ last_digits 2 n) number

abbrev IsGpsRow : SatelliteRow → Type 0
IsGpsRow r = r.satellite ≤ 32

gps-line : (r : SatelliteRow) → IsGpsRow r → satellite_line r ≡ mixed_satellite_line false r
gps-line r h = ap (λ (name : List ℕ). trim_end (name ++ flat_map observations r.observed.items) ++ 10 ∷ []) (sym (gps-name r.satellite h))

gps-lines : (rows : List SatelliteRow) → All IsGpsRow rows → flat_map satellite_line rows ≡ flat_map (mixed_satellite_line false) rows
gps-lines [] h = refl
gps-lines (r ∷ rows) h = rw (gps-line r (All-head IsGpsRow r rows h), gps-lines rows (All-tail IsGpsRow r rows h)) refl

gps-of : (c : Civil) (rows : List SatelliteRow) → All IsGpsRow rows → lines_of c rows ≡ mixed_lines_of false c rows
gps-of c [] h = refl
gps-of c (r ∷ rows) h = ap (λ (t : List ℕ). epoch_line c (length (r ∷ rows)) ++ t) (gps-lines (r ∷ rows) h)

pub gps-record : (e : EpochTableView) → All (λ r. r.satellite ≤ 32) e.rows → record_text e ≡ mixed_record_text false e
unfolding record_text mixed_record_text
gps-record e h = gps-of (reading_of e.time) (filter has_line e.rows) (All-filter has_line IsGpsRow e.rows h)

-- ---- a row without an observation

lines-blank : (doppler : Bool) (rows : List SatelliteRow) (r : SatelliteRow) → has_line_in doppler r ≡ false
    → filter (has_line_in doppler) (rows ++ r ∷ []) ≡ filter (has_line_in doppler) rows
lines-blank doppler rows r none =
    filter-append (has_line_in doppler) rows (r ∷ [])
    ∙ ap (λ (xs : List SatelliteRow). filter (has_line_in doppler) rows ++ xs) (cond-false (has_line_in doppler r) (r ∷ []) [] none)
    ∙ append-nil (filter (has_line_in doppler) rows)

pub gps-blank : (l : RecordLinesView) (doppler : Bool) (rows : List SatelliteRow) (r : SatelliteRow) → has_line_in true r ≡ false → HasGpsRows l doppler (rows ++ r ∷ []) → HasGpsRows l doppler rows
gps-blank l doppler rows r none h =
    let same = lines-blank false rows r (no-line-in false r none) in
    record {
      holds = record {
        holds = record { lines = h.holds.holds.lines ∙ ap (flat_map satellite_line) same; count = h.holds.holds.count ∙ ap length same };
        satellites = (All-pop (λ (x : SatelliteRow). x.satellite ≤ 32) (rows ++ r ∷ []) rows (Some r) refl h.holds.satellites).0;
      };
      plain = h.plain;
    }

pub mixed-blank : (l : MixedLinesView) (doppler : Bool) (rows : List SatelliteRow) (r : SatelliteRow) → has_line_in true r ≡ false → HasMixedRows l doppler (rows ++ r ∷ []) → HasMixedRows l doppler rows
mixed-blank l doppler rows r none h =
    let same = lines-blank l.doppler rows r (no-line-in l.doppler r none) in
    record {
      holds = record { lines = h.holds.lines ∙ ap (flat_map (mixed_satellite_line l.doppler)) same; count = h.holds.count ∙ ap length same };
      shows = h.shows;
    }
