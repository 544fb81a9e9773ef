use Rattle.std.proofs.Common.{◌≡◌, ◌∙◌, sym, arith}
use Rattle.rtk_rinex.specs.Record.{trim_end}
use Rattle.rtk_label.proofs.TrimLemmas.{trim_end-step, trim_end-done}
use Rattle.rtk_label.proofs.fields.trimmed_len.Goals as goal

pub loop-end-preserved : goal.loop-end-preserved
loop-end-preserved c =
    let l = c.loop-end in record {
      within = omega arith;
      blanks = sym (trim_end-step c.args.bytes.now l.end (omega arith) l.invariant.within c.if-bytes-end-eq32.true) ∙ l.invariant.blanks;
    }

pub returns-else-bytes-end-eq32-clause-value : goal.returns-else-bytes-end-eq32-clause-value
returns-else-bytes-end-eq32-clause-value c =
    let l = c.loop-end in sym (trim_end-done _ l.end (omega arith) l.invariant.within c.if-bytes-end-eq32.false) ∙ l.invariant.blanks

pub returns-after-loop-end-clause-value : goal.returns-after-loop-end-clause-value
unfolding trim_end
returns-after-loop-end-clause-value c =
    let none : c.loop-end.end ≡ 0 = omega arith in rw none (rw none at c.loop-end.invariant.blanks)
