use Rattle.std.proofs.Common.{◌≡◌, ◌+◌, ◌-◌, refl, arith}
use Rattle.rtk_rinex.proofs.record_lines.put_doppler_code_at.Goals as goal

pub returns : goal.returns
returns c =
    let size : c.args.at + 64 - c.args.at ≡ 64 = omega arith in
    rw (size, c.put_doppler_columns.ensures) refl
