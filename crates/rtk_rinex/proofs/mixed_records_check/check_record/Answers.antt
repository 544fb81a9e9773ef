use Rattle.std.proofs.Common.{◌≢◌, length, None, arith, ap}
use Rattle.rtk_obs.specs.Reading.{reading_of}
use Rattle.rtk_rinex.proofs.MixedCheckLemmas.{rows-all, rows-rise, record-lines, record-is}
use Rattle.rtk_rinex.proofs.mixed_records_check.check_record.Goals as goal

pub returns-clause-record : goal.returns-clause-record
returns-clause-record c =
    let line = c.in-Some.ensures in
    let is = c.in-Ok.ensures.line in
    let r = c.in_ok-rest.ensures.rows in
    let stamp = c.in-Ok.stamp in
    let some : length r.rows ≢ 0 = λ e. omega (arith, e, r.count, is.0.1) in
    let whole = record-lines c.args.form.now stamp.time r.rows (rows-all c.args.form.now None r.rows r.are_rows) some in
    record {
      rows = r.rows;
      is_epoch = record {
        time = is.0.0;
        some = λ e. some (ap length e);
        rows = rows-all c.args.form.now None r.rows r.are_rows;
        rise = rows-rise c.args.form.now None r.rows r.are_rows;
      };
      next = is.1;
      count = r.count;
      text = record-is c.args.form.now.doppler c.args.text.now c.in-Some.epoch_line.now c.in-Some.after.now (reading_of stamp.time) r.rows stamp.count c.in_ok-rest.rest.now _ line.1 is.0.2 r.text r.count whole;
    }
