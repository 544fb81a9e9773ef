use Rattle.std.proofs.Common.{◌++◌, [], ◌∷◌, None, arith, refl, sym, length-append}
use Rattle.rtk_rinex.specs.Record.{EpochTableView}
use Rattle.rtk_rinex.specs.MixedRecord.{mixed_record_text}
use Rattle.rtk_rinex.proofs.CheckLemmas.{last_time-more, text-more, record_lines-more, satellite_lines-more}
use Rattle.rtk_rinex.proofs.MixedCheckLemmas.{epochs-more}
use Rattle.rtk_rinex.proofs.mixed_records_check.check_mixed_records.Goals as goal

pub loop-rest-init : goal.loop-rest-init
loop-rest-init c = (
  record { epochs = []; are_epochs = tt; text = refl },
  refl,
  omega arith,
  refl,
  refl,
  omega arith,
  omega arith,
  omega arith,
)

pub loop-rest-preserved : goal.loop-rest-preserved
loop-rest-preserved c =
    let l = c.loop-rest in
    let r = l.invariant.0 in
    let read = c.in-Ok.ensures.record in
    let e : EpochTableView = record { time = c.in-Ok.read.0.time; rows = read.rows } in
    let next = rw l.invariant.1 at read.next in
    let lines = record_lines-more r.epochs e in
    let rows = satellite_lines-more r.epochs e in (
      record {
        epochs = r.epochs ++ e ∷ [];
        are_epochs = epochs-more c.args.form.now c.args.first None r.epochs e r.are_epochs read.is_epoch next;
        text = text-more (mixed_record_text c.args.form.now.doppler) r.epochs e c.args.text.now l.rest.now (mixed_record_text c.args.form.now.doppler e) c.in-Ok.read.1.now r.text read.text refl;
      },
      sym (last_time-more None r.epochs e),
      omega (arith, lines, read.count, l.invariant.2),
      simp length-append (omega (arith, l.invariant.2)),
      omega (arith, rows, read.count, l.invariant.2),
      omega (arith, l.invariant.2, c.in-Ok.ensures.len),
      omega (arith, l.invariant.2, c.in-Ok.ensures.len),
      omega (arith, l.invariant.2, c.in-Ok.ensures.len),
    )
