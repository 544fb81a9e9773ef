use Rattle.std.proofs.Common.{◌∙◌, ap}
use Rattle.rtk_rinex.specs.Columns.{left}
use Rattle.rtk_rinex.proofs.DigitsLemmas.{length-left}
use Rattle.rtk_rinex.proofs.MixedCodeLemmas.{left-full}
use Rattle.rtk_rinex.proofs.satellite_line_read.read_cell.Goals as goal

pub returns : goal.returns
returns c = λ o h e.
    let columns = c.args.columns.now in
    c.read_observed-2.ensures o h (ap (left 48) (c.as_slice.ensures.value ∙ c.padded.ensures.value) ∙ left-full 48 (left 48 columns) (length-left 48 columns c.requires) ∙ e)
