use Rattle.std.proofs.Common.{◌≡◌, ◌∙◌, ◌+◌, length, take, drop, ap, refl}
use Rattle.rtk_label.specs.Steps.Fronts.{plain_front}
use Rattle.rtk_label.specs.Steps.Shown.{IsLabelIn, IsRead}
use Rattle.rtk_label.proofs.PartedLemmas.{within, from_is, label_good, length-front}
use Rattle.rtk_label.proofs.unlabelled.reading_of.Goals as goal

reading : (c : goal.After-plain-front) → IsRead c.args.text.now c.args.number.items c.args.from c.read_label-label.result
reading c =
    let label : IsLabelIn (take 243 c.args.text.now) c.args.number.items (take 486 (drop (c.args.from + 243) c.args.text.now)) c.read_label-label.result =
    rw (c.columns_at-top.ensures.value, c.columns_at-middle.ensures.value) at c.read_label-label.ensures in
    record {
      long = c.requires.ten;
      line = c.requires.number;
      blank = c.requires.blank;
      filled = c.requires.filled;
      label = label;
      good = label_good _ _ _ c.read_label-label.result c.requires.number.good label;
    }

front : (c : goal.After-plain-front) → c.plain-front.result.items ≡ plain_front c.args.text.now c.args.from c.read_label-label.result
front c = c.plain-front.ensures ∙ rw (c.columns_at-top.ensures.value, c.columns_at-middle.ensures.value) refl

pub returns-clause-read : goal.returns-clause-read
returns-clause-read c = reading c

pub returns-clause-front : goal.returns-clause-front
returns-clause-front c = front c

pub returns-clause-good : goal.returns-clause-good
returns-clause-good c = (reading c).good

pub returns-clause-len : goal.returns-clause-len
returns-clause-len c = ap length (front c) ∙ length-front c.args.text.now _ c.args.from c.read_label-label.result (reading c)

pub returns-clause-from : goal.returns-clause-from
returns-clause-from c = from_is c.args.text.now _ c.args.from c.read_label-label.result (reading c)

pub returns-clause-line : goal.returns-clause-line
returns-clause-line c = within c.args.text.now _ c.args.from c.read_label-label.result (reading c)
