-- The entries of a message with satellites of SBAS in a 1004 or without them.
use Rattle.std.proofs.Common.{◌≡◌, ◌+◌, ◌-◌, ◌≤◌, ℕ, Bool, true, false, cond, nat_le, List, [], ◌∷◌, map, Option, None, Some, ℤ, refl, arith, pos}
use Rattle.std.specs.Prelude.{All}
use Rattle.std.specs.List.{flat_map}
use Rattle.std.proofs.lemmas.Bool.{and_parts}
use Rattle.std.proofs.lemmas.Bool.Decides.{nat_tests}
use Rattle.std.proofs.lemmas.List.Elements.{All-nil, All-cons, All-append}
use Rattle.rtk_message.specs.declared.any_message.AnyMessage.{AnyMessage as Message}
use Rattle.rtk_message.specs.declared.obs1004.Satellite.{Satellite}
use Rattle.rtk_message.specs.declared.system.System.TheVariants.{Sbas}
use Rattle.rtk_message.specs.AnyDecoded.{IsValid}
use Rattle.rtk_obs.specs.declared.any_code.AnyCode.TheVariants.{S1C}
use Rattle.rtk_obs.specs.declared.cell.CellEntry.{CellEntry}
use Rattle.rtk_obs.specs.declared.signal_cells.SignalEntry.{SignalEntry}
use Rattle.rtk_obs.specs.Cell.{IsSatellite, is_satellite}
use Rattle.rtk_obs.specs.LegacyCells.{first_entries, l1_cell_of, l1_code_of, l2_cell_of, l2_code_of, satellite_entries}
use Rattle.rtk_obs.specs.SatelliteIndex.{index_in, is_taken}
use Rattle.rtk_obs.specs.SbasCells.{is_sbas_number, satellite_signals, sbas_entry_if, signals_of_1004}
use Rattle.rtk_obs.specs.SignalCells.{IsSignalInRange, signal_of}
use Rattle.rtk_obs.proofs.PublicLaws.{entries_of-in_range, sbas-range, doppler-range}
use Rattle.rtk_collect.specs.Signals.{plain_entries_by, entries_by}

le-of : (a b : ℕ) → nat_le a b ≡ true → a ≤ b
le-of a b h = grind (arith, nat_tests)

satellite-is : (n : ℕ) → is_satellite n ≡ true → IsSatellite n
satellite-is n h = let p = and_parts (nat_le 1 n) (nat_le n 32) h in (le-of 1 n p.0, le-of n 32 p.1)

-- the entry of a satellite of SBAS, by its mask bit
abbrev pub sbas_entry : Satellite → ℕ → SignalEntry
sbas_entry s bit = record { satellite = 168 + bit; code = S1C; doppler_millihertz = pos 0; cell = l1_cell_of s }

-- what holds of all cells of GPS, and of the entry of each satellite of SBAS, holds of all entries of a 1004
module _ (P : SignalEntry → Type 0) (of-gps : (e : CellEntry) → IsSatellite e.satellite → P (signal_of e)) (of-sbas : (s : Satellite) (bit : ℕ) → is_taken Sbas bit ≡ true → P (sbas_entry s bit)) where
  sbas-if : (b : Bool) (s : Satellite) (bit : ℕ) → is_taken Sbas bit ≡ b → All P (sbas_entry_if s (cond b (Some (168 + bit)) None))
  sbas-if true s bit taken = All-cons P (sbas_entry s bit) [] (of-sbas s bit taken) (All-nil P)
  sbas-if false s bit other = All-nil P

  satellite-if : (a b : Bool) (s : Satellite) → is_satellite s.satellite ≡ a
      → All P (cond a (map signal_of (satellite_entries s)) (cond b (sbas_entry_if s (index_in Sbas (s.satellite - 39))) []))
  satellite-if true b s is =
      let one : CellEntry = record { satellite = s.satellite; code = l1_code_of s.l1_code; cell = l1_cell_of s } in
      let other : CellEntry = record { satellite = s.satellite; code = l2_code_of s.l2_code; cell = l2_cell_of s } in
      All-cons P (signal_of one) (signal_of other ∷ []) (of-gps one (satellite-is s.satellite is))
      (All-cons P (signal_of other) [] (of-gps other (satellite-is s.satellite is)) (All-nil P))
  satellite-if false true s is = sbas-if (is_taken Sbas (s.satellite - 39)) s (s.satellite - 39) refl
  satellite-if false false s is = All-nil P

  all-satellites : (ss : List Satellite) → All P (flat_map satellite_signals ss)
  all-satellites [] = All-nil P
  all-satellites (s ∷ ss) =
      All-append P (satellite_signals s) (flat_map satellite_signals ss) (satellite-if (is_satellite s.satellite) (is_sbas_number s.satellite) s refl) (all-satellites ss)

  pub each-signal : (ss : List Satellite) → All P (signals_of_1004 ss)
  each-signal ss = all-satellites (first_entries ss)

-- all entries are in range
plain-in-range : (sbas : Bool) (channels : List (Option ℤ)) (m : Message) → IsValid m → All IsSignalInRange (plain_entries_by sbas channels m)
plain-in-range true channels m valid = sbas-range channels m valid
plain-in-range false channels m valid = entries_of-in_range channels m valid

pub in-range : (sbas doppler : Bool) (channels : List (Option ℤ)) (m : Message) → IsValid m → All IsSignalInRange (entries_by sbas doppler channels m)
in-range sbas true channels m valid = doppler-range (plain_entries_by sbas channels) channels m valid (plain-in-range sbas channels m valid)
in-range sbas false channels m valid = plain-in-range sbas channels m valid
