use Rattle.rtk_rinex.proofs.EpochLemmas.{date-pairs}
use Rattle.rtk_rinex.proofs.record_text.put_epoch_date.Goals as goal

pub returns : goal.returns
returns c =
    let r = c.requires in
    rw (
      c.put_pair-6.ensures,
      c.put_pair-5.ensures,
      c.put_pair-4.ensures,
      c.put_pair-3.ensures,
      c.put_pair-2.ensures,
      c.put_pair.ensures,
      c.copy_from_slice.ensures.after,
      c.from-6.ensures,
      c.from-5.ensures,
      c.from-4.ensures,
      c.from-3.ensures,
      c.from-2.ensures,
      c.from.ensures,
    )
    (date-pairs c.args.time r.year r.date.0 r.date.1 r.clock.0 r.clock.1)
