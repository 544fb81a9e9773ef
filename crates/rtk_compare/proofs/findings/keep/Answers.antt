use Rattle.std.proofs.Common.{◌≤◌, ◌++◌, ◌∷◌, [], length, length-append, sym, ◌∙◌, arith}
use Rattle.std.proofs.lemmas.List.{take_all, take-append-le}
use Rattle.rtk_compare.proofs.findings.keep.Goals as goal

pub returns-then-len-lt-MOST_OF_CLASS : goal.returns-then-len-lt-MOST_OF_CLASS
returns-then-len-lt-MOST_OF_CLASS g c =
    let items = c.args.first.now.items in
    let one = c.args.difference ∷ [] in
    let long = length-append items one in
    c.push.ensures.items ∙ sym (take_all 100 (items ++ one) (omega (arith, long, c.len.ensures.value, c.if-len-lt-MOST_OF_CLASS.true)))

pub returns-else-len-lt-MOST_OF_CLASS : goal.returns-else-len-lt-MOST_OF_CLASS
returns-else-len-lt-MOST_OF_CLASS g c =
    let items = c.args.first.now.items in
    let full : 100 ≤ length items = omega (arith, c.len.ensures.value, c.if-len-lt-MOST_OF_CLASS.false) in
    let most : length items ≤ 100 = omega (arith, c.len.ensures.value, c.len.ensures.fits) in
    sym (rw take-append-le (take_all 100 items most))
