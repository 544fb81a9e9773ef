use Rattle.std.proofs.Common.{◌++◌, ℕ, Bool, List, [], cond, sym, ap, ◌∙◌, codes}
use Rattle.rtk_plan.specs.LeftOut.{refused_number_line, dayless_line}
use Rattle.rtk_plan.proofs.left_out.put_dayless_numbered.Goals as goal

pub returns : goal.returns
unfolding dayless_line
returns c =
    let line : List ℕ = refused_number_line (codes " refused M4 ") c.args.name.now c.args.number c.args.count in
    c.in_ok-put_refused.ensures
    ∙ ap (λ (accepts : Bool). c.args.lines.now.items ++ cond accepts line []) (sym (sym c.accepts.ensures ∙ c.if-not-accepts.false))
