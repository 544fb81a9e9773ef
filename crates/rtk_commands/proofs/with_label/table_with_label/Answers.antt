use Rattle.std.proofs.Common.{◌≡◌, ◌+◌, ◌∙◌, length, ap, arith, refl}
use Rattle.rtk_commands.specs.FileTable.{text_of}
use Rattle.rtk_commands.proofs.WithLabelLemmas.{parted_as, some_as, none-wrong, refused_with, refused_by_line}
use Rattle.rtk_commands.proofs.with_label.table_with_label.Goals as goal

pub returns-in-Err : goal.returns-in-Err
returns-in-Err c =
    let u = c.unlabel-unlabelled.result in
    let plain = c.split_at.result.1.now in
    refused_with u.label u.times u.lines.items c.args.text.now plain u.from c.fault_in_text.result c.in-Err.fault
    (parted_as _ c.args.text.now _ plain u.label u.times u.lines.items refl c.split_at.ensures.back c.unlabel-unlabelled.ensures.parted)
    c.in-Err.ensures.none c.in-Err.ensures.fault c.unlabel-unlabelled.ensures.from
    (omega (arith, c.split_at.ensures.back_len, c.unlabel-unlabelled.ensures.within, c.unlabel-unlabelled.ensures.len)) c.fault_in_text.ensures.line c.fault_in_text.ensures.cause

pub returns-in-None : goal.returns-in-None
returns-in-None c =
    let u = c.unlabel-unlabelled.result in
    let plain = text_of c.in-Ok.table in (
      record {
        lines = u.lines.items;
        parted = parted_as _ c.args.text.now _ plain u.label u.times u.lines.items refl (c.in-Ok.ensures.text ∙ c.split_at.ensures.back) c.unlabel-unlabelled.ensures.parted;
        some = some_as _ plain c.in-Ok.ensures.text c.in-Ok.ensures.table;
        due = none-wrong plain u.lines.items u.from u.times c.in_ok-wrong.wrong c.in_ok-wrong.ensures c.in-None.is;
      },
      c.in-Ok.ensures.letter,
    )

pub returns-in-Some : goal.returns-in-Some
returns-in-Some c =
    let u = c.unlabel-unlabelled.result in
    let plain = text_of c.in-Ok.table in
    let same : length plain ≡ length c.split_at.result.1.now = ap length c.in-Ok.ensures.text in
    refused_by_line u.label u.times u.lines.items c.args.text.now plain u.from c.in-Some.line c.in_ok-wrong.wrong
    (parted_as _ c.args.text.now _ plain u.label u.times u.lines.items refl (c.in-Ok.ensures.text ∙ c.split_at.ensures.back) c.unlabel-unlabelled.ensures.parted)
    (some_as _ plain c.in-Ok.ensures.text c.in-Ok.ensures.table) c.in_ok-wrong.ensures c.in-Some.is c.unlabel-unlabelled.ensures.from
    (omega (arith, same, c.split_at.ensures.back_len, c.unlabel-unlabelled.ensures.within, c.unlabel-unlabelled.ensures.len))
