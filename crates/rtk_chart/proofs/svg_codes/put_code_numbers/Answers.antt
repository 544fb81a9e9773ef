use Rattle.std.proofs.Common.{refl}
use Rattle.rtk_chart.specs.SvgPicture.{code_numbers}
use Rattle.rtk_chart.proofs.svg_codes.put_code_numbers.Goals as goal

pub returns : goal.returns
unfolding code_numbers
returns c =
    rw (
      c.in_ok-put_column_numbers.ensures,
      c.in_ok-halves.ensures,
      c.in_ok-rises.ensures,
      c.in_ok-returns.ensures,
      c.in_ok-slips.ensures,
      c.in_ok-missing.ensures,
      c.in_ok-phases.ensures,
    ) refl
