use Rattle.std.proofs.Common.{◌≡◌, ◌<◌, ◌≤◌, ◌+◌, ◌-◌, ◌*◌, ◌/◌, List, ◌++◌, ℕ, length, take, drop, ap, refl, arith, ◌∙◌}
use Rattle.std.proofs.lemmas.List.{length-take-le}
use Rattle.rtk_label.proofs.PieceLemmas.{drop-over}
use Rattle.rtk_label.proofs.CutLemmas.{cut_number}
use Rattle.rtk_label.proofs.WholeLemmas.{cut_is}
use Rattle.rtk_label.proofs.unlabelled.unlabel_cut.Goals as goal

lines_len : (text lines : List ℕ) → lines ≡ take (81 * (length text / 81)) text → length lines ≡ 81 * (length text / 81)
lines_len text lines e = ap length e ∙ length-take-le (81 * (length text / 81)) text (omega arith)

pub len_in-from-requires : goal.len_in-from-requires
len_in-from-requires c h = c.as_slice.ensures.value ∙ c.number_in-number.ensures.none h

pub reading_of-reading-requires-clause-number : goal.reading_of-reading-requires-clause-number
reading_of-reading-requires-clause-number c =
    rw c.as_slice-2.ensures.value
    (cut_number c.columns_at-lines.result.now c.number_in-number.result.items c.completed-ten.result.items c.len_in-from.result (length c.args.text.now / 81)
    c.completed-ten.ensures.items c.completed-ten.ensures.len (lines_len c.args.text.now c.columns_at-lines.result.now c.columns_at-lines.ensures.value)
    c.number_in-number.ensures.none c.number_in-number.ensures.some (λ h. c.len_in-from.ensures.blank (rw c.as_slice.ensures.value h)))

pub returns-clause-cut : goal.returns-clause-cut
returns-clause-cut c =
    let text = c.args.text.now in
    let lines = c.columns_at-lines.result.now in
    let from = c.len_in-from.result in
    let whole = 81 * (length text / 81) in
    let size : length lines ≡ whole = lines_len text lines c.columns_at-lines.ensures.value in
    let low : from ≤ length lines = c.len_in-from.ensures.within in
    let sum : from + (whole - from) ≡ whole = omega (arith, size, low) in
    let short : length text < 810 = c.requires in
    cut_is text lines c.completed-ten.result.items c.number_in-number.result.items c.reading_of-reading.result.front.items _ from (length text / 81) c.reading_of-reading.result.label
    c.columns_at-lines.ensures.value
    (record {
      many = size;
      few = omega (arith, size, short);
      ten_is = c.completed-ten.ensures.items;
      none = c.number_in-number.ensures.none;
      read = rw c.as_slice-2.ensures.value at c.reading_of-reading.ensures.read;
      front_is = rw c.as_slice-2.ensures.value at c.reading_of-reading.ensures.front;
    })
    (rw (c.copy_from_slice.ensures.after, c.columns_at.ensures.value, c.as_slice-3.ensures.value, size)
    (drop-over from (whole - from) (whole - from) text (take (whole - from) c.reading_of-reading.result.front.items) (omega (arith, size, low)) refl
    ∙ ap (λ (n : ℕ). take (whole - from) c.reading_of-reading.result.front.items ++ drop n text) sum))
