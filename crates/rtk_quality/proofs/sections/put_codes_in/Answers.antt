use Rattle.std.proofs.Common.{◌≤◌, ◌++◌, ℕ, List, length, sym, ap, ◌∙◌, arith}
use Rattle.std.proofs.lemmas.List.{append-nil, drop_all}
use Rattle.rtk_obs.specs.declared.any_code.AnyCode.{AnyCode}
use Rattle.rtk_quality.specs.Quality.{numbers_of}
use Rattle.rtk_quality.specs.QualityText.{code_in, each_code}
use Rattle.rtk_quality.proofs.SectionLemmas.{numbers-more}
use Rattle.rtk_quality.proofs.sections.put_codes_in.Goals as goal

pub loop-at-preserved : goal.loop-at-preserved
loop-at-preserved c = λ interval before stands.
    numbers-more (code_in c.args.form c.args.section c.args.satellite) (numbers_of interval before) c.loop-at.at c.args.codes.now _ c.numbers.result _ c.loop-at.text.items c.put_code_in.new.text.items
    c.loop-at-test.true (c.loop-at.invariant interval before stands) c.in_ok-put_code_in.ensures (c.numbers.ensures interval before stands)

pub returns : goal.returns
returns c = λ interval before stands.
    let end : length c.args.codes.now ≤ c.loop-at.at = omega (arith, c.loop-at-test.false) in
    let line : ℕ → AnyCode → List ℕ = λ place code. code_in c.args.form c.args.section c.args.satellite code (numbers_of interval before place) in
    sym (c.loop-at.invariant interval before stands ∙ ap (λ cs. c.loop-at.text.items ++ each_code line c.loop-at.at cs) (drop_all c.loop-at.at c.args.codes.now end)
    ∙ append-nil c.loop-at.text.items)
