use Rattle.std.proofs.Common.{append_assoc}
use Rattle.rtk_chart.specs.SvgPicture.{drawn_bar}
use Rattle.rtk_chart.proofs.svg_codes.put_drawn_bar.Goals as goal

pub returns : goal.returns
unfolding drawn_bar
returns c =
    rw (
      c.in_ok-put_locks.ensures,
      c.in_ok-put_missing.ensures,
      c.in_ok-put_levels.ensures,
      c.in_ok-put_code_numbers.ensures,
    ) (simp append_assoc)
