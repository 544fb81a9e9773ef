-- The text of a record of any systems that is written satellite by satellite.
use Rattle.std.proofs.Common.{◌≡◌, ◌≢◌, ℕ, zero, suc, ◌+◌, ◌<◌, [], ◌∷◌, ◌++◌, List, length, drop, ap, arith, refl, sym, ◌∙◌, length-append, true, false, Bool, flat_map, subst}
use Rattle.std.specs.List.{filter, list_any}
use Rattle.std.proofs.lemmas.Grind.{flat_map-append}
use Rattle.std.proofs.lemmas.List.Elements.{filter-append}
use Rattle.std.proofs.lemmas.List.{append-nil}
use Rattle.rtk_obs.specs.declared.time.Civil.{Civil}
use Rattle.rtk_obs.specs.Reading.{reading_of}
use Rattle.rtk_obs.specs.SatelliteIndex.{index_name}
use Rattle.rtk_rinex.specs.declared.epoch_table.Observed.{Observed}
use Rattle.rtk_rinex.specs.declared.epoch_table.SatelliteRow.{SatelliteRow}
use Rattle.rtk_rinex.specs.Record.{has_line_in, is_shown, epoch_line}
use Rattle.rtk_rinex.specs.RecordLines.{RecordLinesView, KeepsLines}
use Rattle.rtk_rinex.specs.MixedRecord.{MixedLinesView, HoldsMixedLines, KeepsMixedLines, mixed_satellite_line, mixed_lines_of, mixed_record_text}
use Rattle.rtk_rinex.specs.Steps.WrittenLines.{AddsLine, PutsEpochLine}

module _ (doppler : Bool) where
  abbrev lined : List SatelliteRow → List SatelliteRow
  lined rows = filter (has_line_in doppler) rows

  abbrev texts : List SatelliteRow → List ℕ
  texts rows = flat_map (mixed_satellite_line doppler) rows

  -- a record without a line is empty, and any other has its epoch line
  pub mixed_lines-none : (c : Civil) (rows : List SatelliteRow) → length rows ≡ 0 → mixed_lines_of doppler c rows ≡ []
  mixed_lines-none c [] e = refl
  mixed_lines-none c (r ∷ rows) e = absurd (omega arith)

  pub mixed_lines-some : (c : Civil) (rows : List SatelliteRow) → length rows ≢ 0
      → mixed_lines_of doppler c rows ≡ epoch_line c (length rows) ++ flat_map (mixed_satellite_line doppler) rows
  mixed_lines-some c [] h = absurd (h refl)
  mixed_lines-some c (r ∷ rows) h = refl

  filter-some : (rows : List SatelliteRow) (r : SatelliteRow) → has_line_in doppler r ≡ true → lined (rows ++ r ∷ []) ≡ lined rows ++ r ∷ []
  filter-some rows r has = filter-append (has_line_in doppler) rows (r ∷ []) ∙ rw has refl

  filter-none : (rows : List SatelliteRow) (r : SatelliteRow) → has_line_in doppler r ≡ false → lined (rows ++ r ∷ []) ≡ lined rows
  filter-none rows r none = filter-append (has_line_in doppler) rows (r ∷ []) ∙ (rw none (append-nil (lined rows)))

  -- ---- the line of one more satellite

  -- the text has the lines of these rows, and so many
  abbrev Holds : RecordLinesView → List SatelliteRow → Type 0
  Holds l rows = HoldsMixedLines (record { lines = l; doppler = doppler }) rows

  added : (old new : RecordLinesView) (rows : List SatelliteRow) (r : SatelliteRow) → Holds old rows → has_line_in doppler r ≡ true
      → drop 36 new.text ≡ drop 36 old.text ++ mixed_satellite_line doppler r → new.count ≡ old.count + 1 → Holds new (rows ++ r ∷ [])
  added old new rows r h has is one =
      let all = filter-some rows r has in
      record {
        lines = is ∙ ap (λ (t : List ℕ). t ++ mixed_satellite_line doppler r) h.lines
            ∙ sym (ap texts all ∙ flat_map-append (mixed_satellite_line doppler) (lined rows) (r ∷ [])
            ∙ ap (λ (t : List ℕ). texts (lined rows) ++ t) (append-nil (mixed_satellite_line doppler r)));
        count = rw all (omega (arith, one, h.count, length-append (lined rows) (r ∷ [])));
      }

  -- without a line the text stays
  not-added : (l : RecordLinesView) (rows : List SatelliteRow) (r : SatelliteRow) → Holds l rows → has_line_in doppler r ≡ false → Holds l (rows ++ r ∷ [])
  not-added l rows r h none =
      let same = filter-none rows r none in
      record { lines = h.lines ∙ ap texts (sym same); count = h.count ∙ ap length (sym same) }

  kept : (old new : RecordLinesView) (rows : List SatelliteRow) → KeepsLines old new → Holds old rows → Holds new rows
  kept old new rows k h = record { lines = ap (drop 36) k.text ∙ h.lines; count = k.count ∙ h.count }

  row-by : (old new : RecordLinesView) (rows : List SatelliteRow) (s : ℕ) (os : List Observed) (b : Bool) → list_any (is_shown doppler) os ≡ b → Holds old rows
      → AddsLine doppler (index_name s) os old new → Holds new (rows ++ record { satellite = s; observed = record { items = os } } ∷ [])
  row-by old new rows s os true e h a =
      let row : SatelliteRow = record { satellite = s; observed = record { items = os } } in
      added old new rows row h e (a.line e) (a.one e)
  row-by old new rows s os false e h a =
      let row : SatelliteRow = record { satellite = s; observed = record { items = os } } in
      kept old new (rows ++ row ∷ []) (a.none e) (not-added old rows row h e)

  pub mixed-row-added : (old new : RecordLinesView) (rows : List SatelliteRow) (s : ℕ) (name : List ℕ) (os : List Observed) → name ≡ index_name s
      → HoldsMixedLines (record { lines = old; doppler = doppler }) rows → AddsLine doppler name os old new
      → HoldsMixedLines (record { lines = new; doppler = doppler }) (rows ++ record { satellite = s; observed = record { items = os } } ∷ [])
  mixed-row-added old new rows s name os is h a =
      row-by old new rows s os (list_any (is_shown doppler) os) refl h (subst (λ (n : List ℕ). AddsLine doppler n os old new) is a)

  -- ---- the epoch line

  record-some : (time : Civil) (lines : List ℕ) (count : ℕ) (rows : List SatelliteRow) → lines ≡ texts (lined rows)
      → count ≡ length (lined rows) → 0 < count → epoch_line time count ++ lines ≡ mixed_lines_of doppler time (lined rows)
  record-some time lines count rows e n some =
      rw (e, n) (sym (mixed_lines-some time (lined rows) (λ z. omega arith)))

  record-none : (time : Civil) (text : List ℕ) (count : ℕ) (rows : List SatelliteRow) → text ≡ [] → count ≡ length (lined rows) → count ≡ 0
      → text ≡ mixed_lines_of doppler time (lined rows)
  record-none time text count rows e n none = e ∙ sym (mixed_lines-none time (lined rows) (sym n ∙ none))

  record-by : (time : ℕ) (old new : RecordLinesView) (rows : List SatelliteRow) (n : ℕ) → old.count ≡ n → Holds old rows → PutsEpochLine time old new
      → new.text ≡ mixed_lines_of doppler (reading_of time) (lined rows)
  record-by time old new rows zero e h p = record-none (reading_of time) new.text old.count rows (p.none e) h.count e
  record-by time old new rows (suc n) e h p =
      let some : 0 < old.count = omega (arith, e) in
      p.some some ∙ record-some (reading_of time) (drop 36 old.text) old.count rows h.lines h.count some

  pub mixed-record-of : (time : ℕ) (old new : RecordLinesView) (rows : List SatelliteRow) → HoldsMixedLines (record { lines = old; doppler = doppler }) rows → PutsEpochLine time old new
      → new.text ≡ mixed_record_text doppler (record { time = time; rows = rows })
  unfolding mixed_record_text
  mixed-record-of time old new rows h p = record-by time old new rows old.count refl h p

-- the lines stay
pub kept-mixed-lines : (old new : MixedLinesView) (rows : List SatelliteRow) → KeepsMixedLines old new → HoldsMixedLines old rows → HoldsMixedLines new rows
kept-mixed-lines old new rows k h =
    let by : Bool → Type 0 = λ d. HoldsMixedLines (record { lines = new.lines; doppler = d }) rows in
    subst by (sym k.doppler) (kept old.doppler old.lines new.lines rows k.lines h)
