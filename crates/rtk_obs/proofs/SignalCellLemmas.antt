-- The entries of the cells of a message of any system.
use Rattle.std.proofs.Common.{◌≡◌, ℕ, zero, suc, ◌+◌, ◌<◌, ◌≤◌, [], ◌∷◌, ◌++◌, List, length, take, set, map, Option, Some, None, true, false, Bool, cond, refl, sym, ap, ◌∙◌, arith, ℤ, pos}
use Rattle.std.proofs.lemmas.List.{append-nil, map-append}
use Rattle.std.proofs.lemmas.Bool.Decides.{nat_tests}
use Rattle.rtk_message.specs.declared.msm1074.Msm1074.{Msm1074}
use Rattle.rtk_message.specs.declared.msm.Msm.{Msm}
use Rattle.rtk_obs.specs.declared.any_code.AnyCode.{AnyCode}
use Rattle.rtk_obs.specs.declared.code.Code.{Code}
use Rattle.rtk_obs.specs.declared.cell.Cell.{Cell}
use Rattle.rtk_obs.specs.declared.signal_cells.SignalEntry.{SignalEntry}
use Rattle.rtk_obs.specs.declared.signal_rows.SignalRow.{SignalRow}
use Rattle.rtk_obs.specs.AnyCode.{carrier_of, code_of_gps}
use Rattle.rtk_obs.specs.Carriers.{frequency_at}
use Rattle.rtk_obs.specs.Cell.{is_satellite}
use Rattle.rtk_obs.specs.Code.{band_of}
use Rattle.rtk_obs.specs.Mask.{join_from}
use Rattle.rtk_obs.specs.MsmCells.{Slot, satellites_of, coded_entry, slot_entry, code_of_signal, cell_of_1074, cell_on}
use Rattle.rtk_obs.specs.SatelliteIndex.{index_in}
use Rattle.rtk_obs.specs.Signals.{code_in}
use Rattle.rtk_obs.specs.SignalCells.{bit_of_row, field_of_row, channel_in, entry_if, signal_entry, signal_of}
use Rattle.rtk_obs.specs.Steps.SignalRows.{SetsEntry, IsRowOf1074, IsRowOfMsm, entry_of_1074}
use Rattle.rtk_obs.proofs.MsmLemmas.{slot_of, satellite_in}

-- ---- an entry at a place of a list

put-next : (xs : List SignalEntry) (n : ℕ) (e : SignalEntry) → n < length xs → take (suc n) (set xs n e) ≡ take n xs ++ e ∷ []
put-next [] n e inside = absurd (omega (arith, inside))
put-next (x ∷ xs) zero e inside = refl
put-next (x ∷ xs) (suc n) e inside = ap (λ (t : List SignalEntry). x ∷ t) (put-next xs n e (omega (arith, inside)))

front-stays : (xs : List SignalEntry) (n : ℕ) (e : SignalEntry) → take n (set xs n e) ≡ take n xs
front-stays [] n e = refl
front-stays (x ∷ xs) zero e = refl
front-stays (x ∷ xs) (suc n) e = ap (λ (t : List SignalEntry). x ∷ t) (front-stays xs n e)

pub entry-put : (xs : List SignalEntry) (n : ℕ) (e : SignalEntry) (es : List SignalEntry) → n < length xs → es ≡ e ∷ [] → take (n + 1) (set xs n e) ≡ take n xs ++ es
entry-put xs n e es inside is =
    let next : n + 1 ≡ suc n = omega arith in
    ap (λ (k : ℕ). take k (set xs n e)) next ∙ put-next xs n e inside ∙ ap (λ (t : List SignalEntry). take n xs ++ t) (sym is)

pub no-entry-put : (xs : List SignalEntry) (n : ℕ) (e : SignalEntry) (es : List SignalEntry) → es ≡ [] → take n (set xs n e) ≡ take n xs ++ es
no-entry-put xs n e es none =
    front-stays xs n e ∙ sym (ap (λ (t : List SignalEntry). take n xs ++ t) none ∙ append-nil (take n xs))

not-true : {Q : Type 0} → false ≡ true → Q
not-true e = absurd cc

pub is-set : (e : SignalEntry) (es : List SignalEntry) → es ≡ e ∷ [] → SetsEntry true e es
is-set e es is = record { some = λ t. is; none = λ t. not-true (sym t) }

pub not-set : (e : SignalEntry) (es : List SignalEntry) → es ≡ [] → SetsEntry false e es
not-set e es none = record { some = λ t. not-true t; none = λ t. none }

-- ---- the entry of a cell of an MSM other than 1074

module _ (channels : List (Option ℤ)) (m : Msm) (k place signal : ℕ) where
  pub entry-there : (row : SignalRow) (code : AnyCode) (cell : Cell) → IsRowOfMsm channels m place row → code_in m.system signal ≡ Some code
      → cell ≡ cell_on m k place (frequency_at (carrier_of code) row.channel)
      → signal_entry channels m k (slot_of place signal) ≡ record { satellite = row.satellite; code = code; doppler_millihertz = pos 0; cell = cell } ∷ []
  entry-there row code cell is c e =
      ap (λ (i : Option ℕ). entry_if m k place (channel_in m.system channels (bit_of_row m place) (field_of_row m place)) i (code_in m.system signal)) is.satellite
      ∙ ap (λ (o : Option AnyCode). entry_if m k place (channel_in m.system channels (bit_of_row m place) (field_of_row m place)) (Some row.satellite) o) c
      ∙ ap (λ (x : Option ℤ). record { satellite = row.satellite; code = code; doppler_millihertz = pos 0; cell = cell_on m k place (frequency_at (carrier_of code) x) } ∷ []) (sym is.channel)
      ∙ ap (λ (x : Cell). record { satellite = row.satellite; code = code; doppler_millihertz = pos 0; cell = x } ∷ []) (sym e)

  pub entry-absent : (row : SignalRow) → IsRowOfMsm channels m place row → code_in m.system signal ≡ None → signal_entry channels m k (slot_of place signal) ≡ []
  entry-absent row is none =
      ap (λ (i : Option ℕ). entry_if m k place (channel_in m.system channels (bit_of_row m place) (field_of_row m place)) i (code_in m.system signal)) is.satellite
      ∙ ap (λ (o : Option AnyCode). entry_if m k place (channel_in m.system channels (bit_of_row m place) (field_of_row m place)) (Some row.satellite) o) none

  pub no-satellite : index_in m.system (bit_of_row m place) ≡ None → signal_entry channels m k (slot_of place signal) ≡ []
  no-satellite none =
      ap (λ (i : Option ℕ). entry_if m k place (channel_in m.system channels (bit_of_row m place) (field_of_row m place)) i (code_in m.system signal)) none

-- ---- the entry of a cell of a 1074

pub is-gps : (n : ℕ) → 1 ≤ n → n ≤ 32 → is_satellite n ≡ true
is-gps n low high = grind (arith, nat_tests)

pub not-gps : (n : ℕ) → 32 < n → is_satellite n ≡ false
not-gps n high = grind (arith, nat_tests)

module _ (m : Msm1074) (k place signal : ℕ) where
  pub gps-entry-there : (row : SignalRow) (code : Code) (cell : Cell) → IsRowOf1074 m place row → code_of_signal signal ≡ Some code
      → cell ≡ cell_of_1074 m k place (band_of code)
      → entry_of_1074 m k (slot_of place signal) ≡ record { satellite = row.satellite; code = code_of_gps code; doppler_millihertz = pos 0; cell = cell } ∷ []
  gps-entry-there row code cell is c e =
      let s : Slot = slot_of place signal in
      ap (λ (b : Bool). map signal_of (cond b (coded_entry (cell_of_1074 m k place) (satellite_in (satellites_of m.header) s) (code_of_signal signal)) []))
      (ap is_satellite (sym is.satellite) ∙ is.gps)
      ∙ ap (λ (o : Option Code). map signal_of (coded_entry (cell_of_1074 m k place) (satellite_in (satellites_of m.header) s) o)) c
      ∙ ap (λ (n : ℕ). record { satellite = n; code = code_of_gps code; doppler_millihertz = pos 0; cell = cell_of_1074 m k place (band_of code) } ∷ []) (sym is.satellite)
      ∙ ap (λ (x : Cell). record { satellite = row.satellite; code = code_of_gps code; doppler_millihertz = pos 0; cell = x } ∷ []) (sym e)

  pub gps-entry-absent : (row : SignalRow) → IsRowOf1074 m place row → code_of_signal signal ≡ None → entry_of_1074 m k (slot_of place signal) ≡ []
  gps-entry-absent row is none =
      let s : Slot = slot_of place signal in
      ap (λ (b : Bool). map signal_of (cond b (coded_entry (cell_of_1074 m k place) (satellite_in (satellites_of m.header) s) (code_of_signal signal)) []))
      (ap is_satellite (sym is.satellite) ∙ is.gps)
      ∙ ap (λ (o : Option Code). map signal_of (coded_entry (cell_of_1074 m k place) (satellite_in (satellites_of m.header) s) o)) none

  pub no-gps-satellite : is_satellite (satellite_in (satellites_of m.header) (slot_of place signal)) ≡ false → entry_of_1074 m k (slot_of place signal) ≡ []
  no-gps-satellite none =
      ap (λ (b : Bool). map signal_of (cond b (coded_entry (cell_of_1074 m k place) (satellite_in (satellites_of m.header) (slot_of place signal)) (code_of_signal signal)) [])) none

-- the entries of all cells, each as one of any system
pub joined-signals : (m : Msm1074) (k : ℕ) (ss : List Slot) → join_from (entry_of_1074 m) k ss ≡ map signal_of (join_from (slot_entry m.header (cell_of_1074 m)) k ss)
unfolding join_from
joined-signals m k [] = refl
joined-signals m k (s ∷ ss) =
    ap (λ (es : List SignalEntry). map signal_of (slot_entry m.header (cell_of_1074 m) k s) ++ es) (joined-signals m (suc k) ss)
    ∙ sym (map-append signal_of (slot_entry m.header (cell_of_1074 m) k s) (join_from (slot_entry m.header (cell_of_1074 m)) (suc k) ss))
