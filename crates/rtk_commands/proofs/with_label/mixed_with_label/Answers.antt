use Rattle.std.proofs.Common.{◌≡◌, ◌+◌, ◌∙◌, List, ℕ, length, ap, sym, subst, arith, refl}
use Rattle.rtk_rinex.specs.MixedCheckTable.{HoldsMixedTable}
use Rattle.rtk_commands.proofs.CompareLemmas.{parted_mixed, none-wrong_mixed, refused_mixed, refused_mixed_line}
use Rattle.rtk_commands.proofs.WithLabelLemmas.{parted_as}
use Rattle.rtk_commands.proofs.with_label.mixed_with_label.Goals as goal

-- a table by another name of its text
holds_as : (plain left : List ℕ) (n k : ℕ) → left ≡ plain → HoldsMixedTable plain n k → HoldsMixedTable left n k
holds_as plain left n k e holds = subst (λ (x : List ℕ). HoldsMixedTable x n k) (sym e) holds

pub returns-in-Err : goal.returns-in-Err
returns-in-Err c =
    let u = c.unlabel-unlabelled.result in
    let plain = c.split_at.result.1.now in
    refused_mixed u.label u.times u.lines.items c.args.text.now plain u.from c.fault_in_text.result c.in-Err.fault
    (parted_as _ c.args.text.now _ plain u.label u.times u.lines.items refl c.split_at.ensures.back c.unlabel-unlabelled.ensures.parted)
    c.in-Err.ensures.none c.in-Err.ensures.fault c.unlabel-unlabelled.ensures.from
    (omega (arith, c.split_at.ensures.back_len, c.unlabel-unlabelled.ensures.within, c.unlabel-unlabelled.ensures.len)) c.fault_in_text.ensures.line c.fault_in_text.ensures.cause

pub returns-in-None : goal.returns-in-None
returns-in-None c =
    let u = c.unlabel-unlabelled.result in
    let plain = c.in-Ok.table.text in
    parted_mixed c.args.text.now plain u.label u.times u.lines.items _ _
    (parted_as _ c.args.text.now _ plain u.label u.times u.lines.items refl (c.in-Ok.ensures.text ∙ c.split_at.ensures.back) c.unlabel-unlabelled.ensures.parted)
    (holds_as _ plain _ _ c.in-Ok.ensures.text c.in-Ok.ensures.table)
    (none-wrong_mixed plain u.lines.items u.from u.times c.in_ok-wrong.wrong c.in_ok-wrong.ensures c.in-None.is)

pub returns-in-Some : goal.returns-in-Some
returns-in-Some c =
    let u = c.unlabel-unlabelled.result in
    let plain = c.in-Ok.table.text in
    let same : length plain ≡ length c.split_at.result.1.now = ap length c.in-Ok.ensures.text in
    refused_mixed_line u.label u.times u.lines.items c.args.text.now plain u.from c.in-Some.line _ _ c.in_ok-wrong.wrong
    (parted_as _ c.args.text.now _ plain u.label u.times u.lines.items refl (c.in-Ok.ensures.text ∙ c.split_at.ensures.back) c.unlabel-unlabelled.ensures.parted)
    (holds_as _ plain _ _ c.in-Ok.ensures.text c.in-Ok.ensures.table) c.in_ok-wrong.ensures c.in-Some.is c.unlabel-unlabelled.ensures.from
    (omega (arith, same, c.split_at.ensures.back_len, c.unlabel-unlabelled.ensures.within, c.unlabel-unlabelled.ensures.len))
