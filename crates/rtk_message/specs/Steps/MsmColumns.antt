-- The columns of an MSM that is no 1074: their lengths, which of them were read, and that they fit.
use Rattle.std.specs.Prelude.{◌≡◌, ℕ, ◌+◌, ◌*◌, ◌≤◌, length}
use Rattle.rtk_message.specs.Fields.{FieldsFit}
use Rattle.rtk_message.specs.FieldColumns.{numbers, integers}
use Rattle.rtk_message.specs.Msm1074.{satellite_count, signal_count}
use Rattle.rtk_message.specs.MsmForm.{if_rates}
use Rattle.rtk_message.specs.declared.msm_kind.MsmForm.{MsmForm}
use Rattle.rtk_message.specs.declared.msm.Msm.{Msm}

-- each width is one that a column of its type can have
pub record HasWidths (f : MsmForm) : Type 0 where
  pub fine_range : (1 ≤ f.fine_range) × (f.fine_range ≤ 32)
  pub fine_phase : (1 ≤ f.fine_phase) × (f.fine_phase ≤ 32)
  pub lock_indicator : (1 ≤ f.lock_indicator) × (f.lock_indicator ≤ 16)
  pub cnr : (1 ≤ f.cnr) × (f.cnr ≤ 16)

-- how many bits the columns of so many cells and range rates have, column by column
abbrev pub bits_of_cells : MsmForm → ℕ → ℕ → ℕ
bits_of_cells f cells rates = f.fine_range * cells + (f.fine_phase * cells + (f.lock_indicator * cells + (1 * cells + (f.cnr * cells + 15 * rates))))

-- the columns of the satellites have this many entries, and those of range rates so many
pub record HasSatellites (n rates : ℕ) (m : Msm) : Type 0 where
  pub rough_ms : length m.rough_ms ≡ n
  pub extended : length m.extended ≡ rates
  pub rough_fraction : length m.rough_fraction ≡ n
  pub rough_rate : length m.rough_rate ≡ rates

-- the cell mask and the columns of the satellites have as many entries as the mask has satellites
abbrev pub HaveSatelliteLengths : Msm → Type 0
HaveSatelliteLengths m =
    (length m.cell_mask ≡ satellite_count m.header) × HasSatellites (satellite_count m.header) (if_rates m.kind (satellite_count m.header)) m

-- the columns of the cells have this many entries, and the column of range rates so many
pub record HasCells (n rates : ℕ) (m : Msm) : Type 0 where
  pub fine_range : length m.fine_range ≡ n
  pub fine_phase : length m.fine_phase ≡ n
  pub lock_indicator : length m.lock_indicator ≡ n
  pub half_cycle : length m.half_cycle ≡ n
  pub cnr : length m.cnr ≡ n
  pub fine_rate : length m.fine_rate ≡ rates

-- no field changes but the columns of the satellites
abbrev pub ChangesSatellites : Msm → Msm → Type 0
ChangesSatellites old new =
    new ≡ record old { rough_ms = new.rough_ms; extended = new.extended; rough_fraction = new.rough_fraction; rough_rate = new.rough_rate }

-- no field changes but the columns of the cells
abbrev pub ChangesCells : Msm → Msm → Type 0
ChangesCells old new =
    new ≡ record old { fine_range = new.fine_range; fine_phase = new.fine_phase; lock_indicator = new.lock_indicator; half_cycle = new.half_cycle; cnr = new.cnr; fine_rate = new.fine_rate }

-- each row of the cell mask and each value of the satellites fits its width
pub record SatellitesFit (m : Msm) : Type 0 where
  pub cell_mask : FieldsFit (numbers (signal_count m.header) m.cell_mask)
  pub rough_ms : FieldsFit (numbers 8 m.rough_ms)
  pub extended : FieldsFit (numbers 4 m.extended)
  pub rough_fraction : FieldsFit (numbers 10 m.rough_fraction)
  pub rough_rate : FieldsFit (integers 14 m.rough_rate)

-- each value of the cells fits its width; DF420 is a single bit, which always fits
pub record CellsFit (f : MsmForm) (m : Msm) : Type 0 where
  pub fine_range : FieldsFit (integers f.fine_range m.fine_range)
  pub fine_phase : FieldsFit (integers f.fine_phase m.fine_phase)
  pub lock_indicator : FieldsFit (numbers f.lock_indicator m.lock_indicator)
  pub cnr : FieldsFit (numbers f.cnr m.cnr)
  pub fine_rate : FieldsFit (integers 15 m.fine_rate)
