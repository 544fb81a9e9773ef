use Rattle.std.proofs.Common.{◌≤◌, ◌++◌, ℕ, List, length, sym, ap, ◌∙◌, arith}
use Rattle.std.proofs.lemmas.List.{append-nil, drop_all}
use Rattle.rtk_obs.specs.declared.any_code.AnyCode.{AnyCode}
use Rattle.rtk_quality.specs.Quality.{totals_of}
use Rattle.rtk_quality.specs.QualityText.{each_code}
use Rattle.rtk_quality.specs.Shifts.{shift_entry}
use Rattle.rtk_quality.specs.declared.code_numbers.CodeNumbers.{CodeNumbers}
use Rattle.rtk_quality.proofs.SectionLemmas.{numbers-more}
use Rattle.rtk_quality.proofs.shifts.put_each_shift.Goals as goal

pub loop-at-preserved : goal.loop-at-preserved
loop-at-preserved c = λ most interval es stand.
    numbers-more (λ (code : AnyCode) (n : CodeNumbers). shift_entry c.args.form code n.counts.shifts) (λ (place : ℕ). totals_of most interval es place) c.loop-at.at c.args.codes.now _
    c.totals_of-numbers.result _ c.loop-at.text.items c.put_shift_entry.new.text.items c.loop-at-test.true (c.loop-at.invariant most interval es stand) c.in_ok-put_shift_entry.ensures
    (c.totals_of-numbers.ensures most interval es stand)

pub returns : goal.returns
returns c = λ most interval es stand.
    let end : length c.args.codes.now ≤ c.loop-at.at = omega (arith, c.loop-at-test.false) in
    let line : ℕ → AnyCode → List ℕ = λ place code. shift_entry c.args.form code (totals_of most interval es place).counts.shifts in
    sym (c.loop-at.invariant most interval es stand ∙ ap (λ cs. c.loop-at.text.items ++ each_code line c.loop-at.at cs) (drop_all c.loop-at.at c.args.codes.now end)
    ∙ append-nil c.loop-at.text.items)
