use Rattle.std.proofs.Common.{◌≡◌, ◌≤◌, ◌++◌, ℕ, List, length, sym, ap, ◌∙◌, arith}
use Rattle.std.proofs.lemmas.List.{append-nil, drop_all}
use Rattle.rtk_obs.specs.declared.any_code.AnyCode.{AnyCode}
use Rattle.rtk_quality.specs.Quality.{possible_in, satellites_in, station_numbers, code_of_station}
use Rattle.rtk_quality.specs.QualityText.{each_code}
use Rattle.rtk_quality.specs.Entries.{code_entry}
use Rattle.rtk_quality.specs.declared.code_numbers.CodeNumbers.{CodeNumbers}
use Rattle.rtk_quality.proofs.SectionLemmas.{station-more}
use Rattle.rtk_quality.proofs.sections.put_each_code.Goals as goal

pub loop-at-preserved : goal.loop-at-preserved
loop-at-preserved c = λ most interval es stand.
    let tracked : c.satellites_in-tracked.result ≡ satellites_in most interval es = c.satellites_in-tracked.ensures most interval es stand in
    let possible : c.possible_in-possible.result ≡ possible_in most interval es = c.possible_in-possible.ensures most interval es stand in
    let numbers : c.of_station-numbers.result ≡ code_of_station most interval es c.loop-at.at =
    c.of_station-numbers.ensures
    ∙ ap (λ (n : ℕ). station_numbers n c.totals_of.result) possible
    ∙ ap (λ (t : CodeNumbers). station_numbers (possible_in most interval es) t) (c.totals_of.ensures most interval es stand) in
    station-more c.args.form (code_of_station most interval es) c.loop-at.at c.args.codes.now _ (satellites_in most interval es) c.satellites_in-tracked.result c.of_station-numbers.result _ c.loop-at.text.items c.put_code_entry.new.text.items
    c.loop-at-test.true (c.loop-at.invariant most interval es stand) tracked c.in_ok-put_code_entry.ensures numbers

pub returns : goal.returns
returns c = λ most interval es stand.
    let end : length c.args.codes.now ≤ c.loop-at.at = omega (arith, c.loop-at-test.false) in
    let line : ℕ → AnyCode → List ℕ = λ place code. code_entry c.args.form code (satellites_in most interval es) (code_of_station most interval es place) in
    sym (c.loop-at.invariant most interval es stand ∙ ap (λ cs. c.loop-at.text.items ++ each_code line c.loop-at.at cs) (drop_all c.loop-at.at c.args.codes.now end)
    ∙ append-nil c.loop-at.text.items)
