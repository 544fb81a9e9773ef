use Rattle.std.proofs.Common.{arith}
use Rattle.rtk_message.proofs.ColumnLemmas.{some_bits}
use Rattle.rtk_message.proofs.FieldLemmas.{took_rest}
use Rattle.rtk_message.proofs.column.read_fields.Goals as goal

pub next_word-word-requires-clause-width : goal.next_word-word-requires-clause-width
next_word-word-requires-clause-width g c = (some_bits c.args.width c.args.fields c.requires.some.0 c.requires.some.1, c.requires.some.2)

pub returns-clause-fields : goal.returns-clause-fields
returns-clause-fields g c =
    let word = c.next_word-word.ensures in
    let set = c.set_fields.ensures in
    λ from before. took_rest c.set_fields.new.word (set.fields c.next_word-word.new.reader from (rw (← word.bits) before)) (omega (arith, set.left, word.width))

pub returns-clause-left : goal.returns-clause-left
returns-clause-left g c = c.next_word-word.ensures.left
