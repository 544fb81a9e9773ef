use Rattle.rtk_quality.proofs.HourLemmas.{hours-more}
use Rattle.std.proofs.Common.{refl}
use Rattle.rtk_quality.proofs.hours.Hours.note_record.Goals as goal

pub returns : goal.returns
returns c = λ hs are.
    hours-more c.args.interval c.args.unit_ms c.args.last c.args.codes.now c.args.time c.args.rows.now c.args.locks.now hs
    c.args.time c.hour_at-hour.result c.missing_before-missing.result.since c.missing_before-missing.result.until c.args.self.now _ c.hour_onto-newest.result c.add_record.new.self
    refl c.hour_at-hour.ensures c.missing_before-missing.ensures.since c.missing_before-missing.ensures.until c.hour_onto-newest.ensures c.add_record.ensures refl c.in_ok-end_newest.ensures are
