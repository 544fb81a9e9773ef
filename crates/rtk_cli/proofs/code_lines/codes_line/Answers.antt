use Rattle.std.proofs.Common.{sym, ap}
use Rattle.rtk_cli.specs.CodeLines.{codes_line}
use Rattle.rtk_cli.proofs.code_lines.codes_line.Goals as goal

pub returns-in-Gps : goal.returns-in-Gps
unfolding codes_line
returns-in-Gps c = ap codes_line (sym c.in-Gps.is)

pub returns-in-Glonass : goal.returns-in-Glonass
unfolding codes_line
returns-in-Glonass c = ap codes_line (sym c.in-Glonass.is)

pub returns-in-Galileo : goal.returns-in-Galileo
unfolding codes_line
returns-in-Galileo c = ap codes_line (sym c.in-Galileo.is)

pub returns-in-Beidou : goal.returns-in-Beidou
unfolding codes_line
returns-in-Beidou c = ap codes_line (sym c.in-Beidou.is)

pub returns-in-Qzss : goal.returns-in-Qzss
unfolding codes_line
returns-in-Qzss c = ap codes_line (sym c.in-Qzss.is)

pub returns-in-Sbas : goal.returns-in-Sbas
unfolding codes_line
returns-in-Sbas c = ap codes_line (sym c.in-Sbas.is)

pub returns-in-Navic : goal.returns-in-Navic
unfolding codes_line
returns-in-Navic c = ap codes_line (sym c.in-Navic.is)
