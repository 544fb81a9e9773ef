-- What the definitions of a window ask of its cells, whatever type they have.
use Rattle.std.specs.Prelude.{ℕ, ℤ}
use Rattle.rtk_obs.specs.declared.cell.Cell.{Cell}

-- of a cell with its satellite and code: a number of both, both as a name, the values, and the Doppler shift in
-- thousandths of a Hz, 0 for none
pub record Entries (E S : Type 0) : Type 0 where
  pub place : E → ℕ
  pub signal : E → S
  pub cell : E → Cell
  pub doppler : E → ℤ
