use Rattle.std.proofs.Common.{◌≡◌, ◌+◌, ◌-◌, ◌++◌, ℕ, List, sym, ap, ◌∙◌, append_assoc, arith}
use Rattle.rtk_systems.specs.MessageLines.{unread_line, unread_lines_from}
use Rattle.rtk_systems.proofs.MessageLineLemmas.{numbered-step}
use Rattle.rtk_systems.proofs.message_lines.put_numbered.Goals as goal

pub loop-at-preserved : goal.loop-at-preserved
loop-at-preserved c =
    let words = c.args.words.now in
    let taken = c.args.taken in
    let a : ℕ = c.args.first + c.loop-at.at in
    let b : ℕ = c.args.first + (c.loop-at.at + 1) in
    let k : ℕ = c.args.count - (c.loop-at.at + 1) in
    let more : c.args.count - c.loop-at.at ≡ k + 1 = omega (arith, c.loop-at-test.true) in
    let rest : List ℕ = unread_lines_from words taken c.args.surveys.now b k in
    let had = c.loop-at.lines.items in
    ap (λ (xs : List ℕ). xs ++ rest) c.in_ok-put_unread_line.ensures ∙ append_assoc had (unread_line words taken c.args.surveys.now a) rest
    ∙ ap (λ (xs : List ℕ). had ++ xs) (sym (numbered-step words taken c.args.surveys.now a b (c.args.count - c.loop-at.at) k more (omega arith)))
    ∙ c.loop-at.invariant
