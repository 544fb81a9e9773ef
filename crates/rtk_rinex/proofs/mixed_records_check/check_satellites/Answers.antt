use Rattle.std.proofs.Common.{[], ◌∷◌, ◌++◌, None, Some, ap, ◌∙◌, arith, refl, sym, length-append, rules}
use Rattle.rtk_rinex.specs.MixedRecord.{mixed_satellite_line}
use Rattle.rtk_rinex.specs.CheckText.{last_satellite}
use Rattle.rtk_rinex.proofs.CheckLemmas.{last_satellite-more, text-more}
use Rattle.rtk_rinex.proofs.MixedCheckLemmas.{rows-more, satellite-fault}
use Rattle.rtk_rinex.proofs.mixed_records_check.check_satellites.Goals as goal

pub loop-k-init : goal.loop-k-init
loop-k-init c = (
  record { rows = []; are_rows = tt; count = refl; text = refl },
  refl,
  omega arith,
)

pub overflow_add-line-in-loop-k : goal.overflow_add-line-in-loop-k
overflow_add-line-in-loop-k c = omega (arith, c.loop-k.invariant.2)

pub returns-in-Err-clause-fault : goal.returns-in-Err-clause-fault
returns-in-Err-clause-fault c =
    let r = c.loop-k.invariant.0 in
    let line = c.in-Some.ensures in
    let fault = rw c.loop-k.invariant.1 at c.in-Err.ensures.fault in
    record {
      rows = r.rows;
      rest = c.loop-k.rest.now;
      are_rows = r.are_rows;
      due = omega (arith, r.count);
      text = r.text;
      line = omega (arith, r.count);
      cause = satellite-fault c.args.form.now (last_satellite None r.rows) c.loop-k.rest.now c.in-Some.satellite_line.now c.in-Some.after.now c.in-Err.cause line.0 line.1 fault;
    }

pub loop-k-preserved : goal.loop-k-preserved
loop-k-preserved c =
    let l = c.loop-k in
    let r = l.invariant.0 in
    let line = c.in-Some.ensures in
    let is = c.in-Ok.ensures.row in
    let row = is.0 in
    let next = rw (l.invariant.1, ← is.3) at c.in-Ok.ensures.next in (
      record {
        rows = r.rows ++ row ∷ [];
        are_rows = rows-more c.args.form.now None r.rows row r.are_rows is.1 next;
        count = simp length-append (omega (arith, r.count));
        text = text-more (mixed_satellite_line c.args.form.now.doppler) r.rows row c.args.text.now l.rest.now c.in-Some.satellite_line.now c.in-Some.after.now r.text line.1 is.2;
      },
      sym (last_satellite-more None r.rows row ∙ ap Some is.3),
      omega (arith, l.invariant.2, line.2),
    )

pub returns-clause-rows : goal.returns-clause-rows
returns-clause-rows c = search rules depth 5 fits 300

pub returns-clause-len : goal.returns-clause-len
returns-clause-len c = search rules depth 5 fits 300
