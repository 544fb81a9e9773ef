use Rattle.std.proofs.Common.{◌≡◌, ◌∙◌, ◌*◌, ◌/◌, ap, arith, Some}
use Rattle.rtk_rinex.proofs.HeaderShownLemmas.{count_is}
use Rattle.rtk_rinex.proofs.header_check.read_code_count.Goals as goal
use Rattle.rtk_rinex.proofs.header_check.read_code_count.Goals.{then-count-eq0-via-then-count-eq0, then-count-eq0-via-else-count-eq0+then-count-gt16}

pub returns-then-count-eq0-clause-shown : goal.returns-then-count-eq0-clause-shown
returns-then-count-eq0-clause-shown c = λ n types range line.
    let shown : c.number_at.result ≡ 3 * n = c.number_at.ensures.value ∙ count_is c.args.text.now types line.0 n range line.1 in
    elim c.then-count-eq0.branch [
      | then-count-eq0-via-then-count-eq0 w ↦ absurd (omega (arith, shown, range, w.if-count-eq0.true))
      | then-count-eq0-via-else-count-eq0+then-count-gt16 w ↦ absurd (omega (arith, shown, range, w.if-count-gt16.true))
    ]

pub returns-clause-shown : goal.returns-clause-shown
returns-clause-shown c = λ n types range line.
    let shown : c.number_at.result ≡ 3 * n = c.number_at.ensures.value ∙ count_is c.args.text.now types line.0 n range line.1 in
    let count : c.number_at.result / 3 ≡ n = omega (arith, shown) in
    ap Some count
