-- Time lines that nobody asks for.
use Rattle.std.proofs.Common.{◌≡◌, ◌++◌, ℕ, Bool, true, false, not, ◌&&◌, List, [], Option, refl}
use Rattle.rtk_rinex.specs.Record.{EpochTableView}
use Rattle.rtk_cut.specs.Extent.{extent_of}
use Rattle.rtk_label.specs.TimeLines.{interval_line, last_time_line, asked}
use Rattle.rtk_label.specs.declared.time_lines.TimeLines.{TimeLines}
use Rattle.rtk_commands.specs.FileTable.{lines_of_epochs}

false-not-true : false ≡ true → ⊥
false-not-true e = cc

none-asked : (interval last : Bool) (i k : Option ℕ) → (not interval && not last) ≡ true → interval_line (asked interval i) ++ last_time_line (asked last k) ≡ []
none-asked false false i k e = refl
none-asked false true i k e = absurd (false-not-true e)
none-asked true last i k e = absurd (false-not-true e)

pub no-lines : (w : TimeLines) (epochs : List EpochTableView) → (not w.interval && not w.last) ≡ true → lines_of_epochs w epochs ≡ []
no-lines w epochs e = none-asked w.interval w.last (extent_of epochs).interval_ms (extent_of epochs).last e
