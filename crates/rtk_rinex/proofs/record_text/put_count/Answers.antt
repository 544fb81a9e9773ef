use Rattle.std.proofs.Common.{◌≡◌, decimal, refl, ◌∙◌, arith}
use Rattle.std.proofs.lemmas.Fmt.{length-decimal-le}
use Rattle.rtk_rinex.specs.Columns.{right}
use Rattle.rtk_rinex.proofs.ColumnsLemmas.{right-digits}
use Rattle.rtk_rinex.proofs.record_text.put_count.Goals as goal

pub put_decimal-requires : goal.put_decimal-requires
put_decimal-requires c = rw c.copy_from_slice.ensures.after (length-decimal-le 3 c.args.count (omega arith) (omega arith) (omega arith))

pub returns : goal.returns
returns c =
    let old = c.copy_from_slice.ensures.after in
    let start = rw old at c.put_decimal.ensures.start in
    let text : c.put_decimal.new.field ≡ right 3 (decimal c.args.count) = c.put_decimal.ensures.written ∙ (rw old (right-digits 3 c.put_decimal.result (decimal c.args.count) start)) in
    rw (old, text) refl
