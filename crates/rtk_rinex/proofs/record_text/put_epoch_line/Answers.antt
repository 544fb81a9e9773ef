use Rattle.std.proofs.Common.{decimal, codes, false, ◌++◌, ◌∷◌, [], refl, ◌∙◌, arith}
use Rattle.rtk_rinex.specs.Columns.{right, decimals, seconds_of}
use Rattle.rtk_rinex.specs.Record.{epoch_date_text}
use Rattle.rtk_rinex.proofs.EpochLemmas.{length-seconds, three-parts, line-parts}
use Rattle.rtk_rinex.proofs.record_text.put_epoch_line.Goals as goal

pub returns : goal.returns
returns c =
    let t = c.args.time in
    rw (c.put_epoch_date.ensures, c.put_seconds.ensures, c.put_count.ensures)
    (three-parts c.args.text.now (epoch_date_text t) (right 11 (decimals 7 false (seconds_of t))) (codes "  0" ++ (right 3 (decimal c.args.count) ++ 10 ∷ [])) refl (length-seconds (seconds_of t) (omega arith))
    ∙ line-parts t c.args.count _)
