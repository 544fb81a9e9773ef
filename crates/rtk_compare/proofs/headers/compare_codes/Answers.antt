use Rattle.std.proofs.Common.{List, ap, arith}
use Rattle.std.proofs.lemmas.List.{take_more, take_all}
use Rattle.rtk_obs.specs.declared.any_code.AnyCode.{AnyCode}
use Rattle.rtk_compare.specs.Headers.{code_line, code_lines}
use Rattle.rtk_compare.proofs.FindingLemmas.{adds-as, adds-each}
use Rattle.rtk_compare.proofs.headers.compare_codes.Goals as goal

pub loop-code-preserved : goal.loop-code-preserved
loop-code-preserved c =
    let l = c.loop-code in
    adds-each (λ (code : AnyCode). code_line code c.args.news.now) c.args.olds.now l.code-index _ l.invariant c.compare_code.ensures (take_more c.args.olds.now l.code-index _ c.loop-code-test.true)

pub returns : goal.returns
returns c =
    let l = c.loop-code in
    adds-as (ap (λ (cs : List AnyCode). code_lines cs c.args.news.now) (take_all l.code-index c.args.olds.now (omega (arith, c.loop-code-test.false)))) l.invariant
