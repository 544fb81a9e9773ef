use Rattle.std.proofs.Common.{◌≡◌, ◌∙◌, ap, sym, arith, to_z, of_z, w64, Some}
use Rattle.std.proofs.lemmas.Int.{ints}
use Rattle.rtk_rinex.proofs.CellLemmas.{has-value}
use Rattle.rtk_rinex.proofs.ValuesLemmas.{written-limits}
use Rattle.rtk_rinex.proofs.KnownLemmas.{no-value, has-written, long-value, told-value}
use Rattle.rtk_rinex.proofs.value_read.read_value.Goals as goal

pub returns-then-columns-eq32 : goal.returns-then-columns-eq32
returns-then-columns-eq32 c = λ v first second h e. no-value c.args.columns.now v first second h e c.if-columns-eq32.true

pub returns-then-not-is_long_without_sign : goal.returns-then-not-is_long_without_sign
returns-then-not-is_long_without_sign c = λ v first second h e.
    let w = has-written c.args.columns.now v first second h e c.if-columns-eq32.false in
    let field = (has-value c.args.columns.now w.value first second w.written w.text).field in
    told-value c.written_value.result c.split_at.result.0.now w.value c.written_value.ensures w.written (c.split_at.ensures.front ∙ field) ∙ sym w.is

pub returns : goal.returns
returns c = λ v first second h e.
    let columns = c.args.columns.now in
    let w = has-written columns v first second h e c.if-columns-eq32.false in
    let plain = c.is_long_without_sign.ensures c.if-not-is_long_without_sign.false in
    let value = c.without_sign.result in
    let is : value ≡ w.value = c.without_sign.ensures
    ∙ (rw (c.number_of_padded_digits-whole.ensures.value, c.number_of_padded_digits-decimals.ensures.value) (long-value columns w.value first second w.written w.text plain.0 plain.1 plain.2)) in
    let limits = written-limits w.value w.written in
    let same : to_z w64 (of_z w64 value) ≡ value = omega (arith, ints, limits, is) in
    rw same (ap Some is ∙ sym w.is)
