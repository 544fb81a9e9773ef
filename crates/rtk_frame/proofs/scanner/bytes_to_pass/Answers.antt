use Rattle.std.proofs.Common.{◌≡◌, ℕ, List, length, drop, arith, length-drop}
use Rattle.rtk_frame.proofs.Passing.{scanned_skip, scanned_none}
use Rattle.rtk_frame.proofs.scanner.bytes_to_pass.Goals as goal

pub returns-then-len-passed-clause-scanned : goal.returns-then-len-passed-clause-scanned
returns-then-len-passed-clause-scanned c = λ text h.
    let s : List ℕ = drop c.args.passed c.args.ring.now.items in
    let zero : length s ≡ 0 = omega (arith, length-drop c.args.passed c.args.ring.now.items, c.len.ensures.len) in
    scanned_skip text s c.args.piece.now c.before_preamble.result zero c.before_preamble.ensures.within c.before_preamble.ensures.none h

pub returns-else-len-passed-clause-scanned : goal.returns-else-len-passed-clause-scanned
returns-else-len-passed-clause-scanned c = λ text h. scanned_none text (drop c.args.passed c.args.ring.now.items) h
