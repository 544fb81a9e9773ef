use Rattle.std.proofs.Common.{◌++◌, Bool, sym, ap, ◌∙◌}
use Rattle.std.proofs.lemmas.List.{append-nil}
use Rattle.rtk_quality.specs.Shifts.{shifts_part}
use Rattle.rtk_quality.proofs.shifts.put_shifts_if.Goals as goal

pub returns-then-not-has_shifts : goal.returns-then-not-has_shifts
returns-then-not-has_shifts c = λ most interval es stand.
    sym (append-nil c.args.text.now.items)
    ∙ ap (λ (b : Bool). c.args.text.now.items ++ shifts_part b c.args.form c.args.codes.now most interval es) (sym c.if-not-has_shifts.true)

pub returns : goal.returns
returns c = λ most interval es stand.
    c.in_ok-put_shifts.ensures most interval es stand
    ∙ ap (λ (b : Bool). c.args.text.now.items ++ shifts_part b c.args.form c.args.codes.now most interval es) (sym c.if-not-has_shifts.false)
