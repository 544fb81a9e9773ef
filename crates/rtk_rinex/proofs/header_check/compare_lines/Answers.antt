use Rattle.std.proofs.Common.{◌≡◌, ◌∙◌, ◌+◌, ◌++◌, length, take, arith, sym, refl}
use Rattle.std.proofs.lemmas.List.{take-append-drop}
use Rattle.rtk_rinex.specs.Lines.{IsLine}
use Rattle.rtk_rinex.proofs.ValuesLemmas.{clash}
use Rattle.rtk_rinex.proofs.HeaderVerdictLemmas.{none_alike, alike_on, unlike_at}
use Rattle.rtk_rinex.proofs.header_check.compare_lines.Goals as goal

pub loop-end-init : goal.loop-end-init
loop-end-init c = (none_alike c.args.text.now c.args.written.now, omega arith)

pub loop-end-preserved : goal.loop-end-preserved
loop-end-preserved c =
    let l = c.loop-end in
    let line = c.split_at.result.0.now in
    let more = c.split_at.result.1.now in
    let is : IsLine line = rw c.split_at.ensures.front c.in-Some.ensures.line.1 in
    let wanted : l.wanted.now ≡ line ++ more = rw (c.split_at.ensures.front, c.split_at.ensures.back) (sym (take-append-drop (c.in-Some.end + 1) l.wanted.now)) in
    let same : take (length line) l.rest.now ≡ line = sym c.front.ensures.value ∙ c.is_same.ensures.0 c.if-not-is_same.false in (
      rw c.after-rest.ensures (alike_on l.lines c.args.text.now c.args.written.now l.rest.now l.wanted.now line more l.invariant.0 is wanted same),
      omega (arith, l.invariant.1, c.split_at.ensures.back_len),
    )

pub returns-then-not-is_same-clause-unlike : goal.returns-then-not-is_same-clause-unlike
returns-then-not-is_same-clause-unlike c =
    let l = c.loop-end in
    let line = c.split_at.result.0.now in
    let more = c.split_at.result.1.now in
    let is : IsLine line = rw c.split_at.ensures.front c.in-Some.ensures.line.1 in
    let wanted : l.wanted.now ≡ line ++ more = rw (c.split_at.ensures.front, c.split_at.ensures.back) (sym (take-append-drop (c.in-Some.end + 1) l.wanted.now)) in
    unlike_at l.lines c.args.text.now c.args.written.now l.rest.now l.wanted.now line more _ l.invariant.0 is wanted
    (λ same. clash c.is_same.result c.if-not-is_same.true (c.is_same.ensures.1 (c.front.ensures.value ∙ same))) refl c.line_cause.ensures

pub returns-clause-alike : goal.returns-clause-alike
returns-clause-alike c = (c.loop-end.rest.now, c.loop-end.wanted.now, c.in_default.ensures.parts, c.loop-end.invariant.0)
