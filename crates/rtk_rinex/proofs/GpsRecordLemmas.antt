-- The record of satellites of GPS alone is the record in a file of GPS.
use Rattle.std.proofs.Common.{false, ◌≡◌, ◌∙◌, ℕ, ◌+◌, ◌-◌, ◌≤◌, List, [], ◌∷◌, ◌++◌, length, arith, refl, ap, true, nat_le}
use Rattle.std.specs.Prelude.{All}
use Rattle.std.specs.Int.{IsInRange}
use Rattle.std.specs.List.{flat_map, filter}
use Rattle.std.proofs.lemmas.Bool.Decides.{nat_tests}
use Rattle.std.proofs.lemmas.List.Elements.{All-head, All-tail, All-filter}
use Rattle.rtk_obs.specs.declared.time.Civil.{Civil}
use Rattle.rtk_obs.specs.CivilText.{last_digits}
use Rattle.rtk_message.specs.declared.system.System.{System}
use Rattle.rtk_message.specs.declared.system.System.TheVariants.{Gps}
use Rattle.rtk_obs.specs.SatelliteIndex.{satellites_before, system_at, letter_of, name_offset, index_name}
use Rattle.rtk_rinex.specs.declared.epoch_table.SatelliteRow.{SatelliteRow}
use Rattle.rtk_obs.specs.Reading.{reading_of}
use Rattle.rtk_rinex.specs.Record.{IsSatelliteRow, observations, trim_end, has_line, satellite_line, epoch_line, lines_of, record_text}
use Rattle.rtk_rinex.specs.MixedRecord.{mixed_satellite_line, mixed_lines_of, mixed_record_text, GpsRecordsStay}

within : (a b : ℕ) → a ≤ b → nat_le a b ≡ true
within a b h = grind (arith, nat_tests)

-- a satellite of GPS has the letter G
pub gps-name : (i : ℕ) → IsInRange 1 32 i → index_name i ≡ 71 ∷ last_digits 2 i
gps-name i h =
    let gps : system_at i ≡ Gps = rw (within i 32 h.1) refl in
    let number : i - satellites_before Gps + name_offset Gps ≡ i = omega arith in
    ap (λ (s : System). letter_of s ∷ last_digits 2 (i - satellites_before s + name_offset s)) gps ∙ ap (λ (n : ℕ). 71 ∷ last_digits 2 n) number

gps-line : (r : SatelliteRow) → IsSatelliteRow r → mixed_satellite_line false r ≡ satellite_line r
gps-line r h = ap (λ (name : List ℕ). trim_end (name ++ flat_map observations r.observed.items) ++ 10 ∷ []) (gps-name r.satellite h.satellite)

gps-lines : (rows : List SatelliteRow) → All IsSatelliteRow rows → flat_map (mixed_satellite_line false) rows ≡ flat_map satellite_line rows
gps-lines [] h = refl
gps-lines (r ∷ rows) h =
    rw (gps-line r (All-head IsSatelliteRow r rows h), gps-lines rows (All-tail IsSatelliteRow r rows h)) refl

gps-record : (c : Civil) (rows : List SatelliteRow) → All IsSatelliteRow rows → mixed_lines_of false c rows ≡ lines_of c rows
gps-record c [] h = refl
gps-record c (r ∷ rows) h = ap (λ (t : List ℕ). epoch_line c (length (r ∷ rows)) ++ t) (gps-lines (r ∷ rows) h)

pub gps_records : GpsRecordsStay
unfolding mixed_record_text record_text
gps_records e h = gps-record (reading_of e.time) (filter has_line e.rows) (All-filter has_line IsSatelliteRow e.rows h.rows)
