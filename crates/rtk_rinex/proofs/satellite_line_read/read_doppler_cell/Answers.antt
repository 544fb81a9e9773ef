use Rattle.std.proofs.Common.{◌∙◌, ap}
use Rattle.rtk_rinex.specs.Columns.{left}
use Rattle.rtk_rinex.proofs.DigitsLemmas.{length-left}
use Rattle.rtk_rinex.proofs.MixedCodeLemmas.{left-full}
use Rattle.rtk_rinex.proofs.satellite_line_read.read_doppler_cell.Goals as goal

pub returns : goal.returns
returns c = λ o h e.
    let columns = c.args.columns.now in
    c.read_with_doppler-2.ensures o h (ap (left 64) (c.as_slice.ensures.value ∙ c.padded_with_doppler.ensures.value) ∙ left-full 64 (left 64 columns) (length-left 64 columns c.requires) ∙ e)
