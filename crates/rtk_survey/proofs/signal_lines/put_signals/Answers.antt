use Rattle.std.proofs.Common.{◌≡◌, ◌++◌, Bool, List, ℕ, false, get_or, ap, ◌∙◌}
use Rattle.std.specs.Prelude.{codes}
use Rattle.rtk_obs.specs.declared.any_code.AnyCode.{AnyCode}
use Rattle.rtk_obs.specs.declared.code.Code.{Code}
use Rattle.rtk_obs.specs.AnyCode.{number_of}
use Rattle.rtk_obs.specs.Code.{place_of}
use Rattle.rtk_survey.specs.BitMarks.{is_marked_in}
use Rattle.rtk_survey.specs.SummaryText.{list_line, satellites_text, indices_text, all_codes_text, signal_lines}
use Rattle.rtk_survey.proofs.ListLemmas.{and-then}
use Rattle.rtk_survey.proofs.signal_lines.put_signals.Goals as goal

pub returns : goal.returns
unfolding signal_lines
returns c =
    let satellites : List ℕ =
    satellites_text (λ n. get_or c.args.signals.now.satellites n false) ++ indices_text (λ n. is_marked_in c.args.others.now.satellites.words n) in
    let coded : Code → Bool = λ code. get_or c.args.signals.now.codes.marks (place_of code) false in
    let other : AnyCode → Bool = λ code. is_marked_in c.args.others.now.codes.words (number_of code) in
    let l0 : List ℕ = c.args.lines.now.items in
    let l1 : List ℕ = c.put_list.new.lines.items in
    let l2 : List ℕ = c.put_list-2.new.lines.items in
    let first : l1 ≡ l0 ++ list_line (codes " satellites") satellites =
    c.in_ok-put_list.ensures ∙ ap (λ (t : List ℕ). l0 ++ list_line (codes " satellites") t) (c.as_slice.ensures.value ∙ c.in_ok-satellites.ensures) in
    let second : l2 ≡ l1 ++ list_line (codes " codes") (all_codes_text coded other) =
    c.in_ok-put_list-2.ensures ∙ ap (λ (t : List ℕ). l1 ++ list_line (codes " codes") t) (c.as_slice-2.ensures.value ∙ c.in_ok-codes.ensures) in
    and-then l0 l1 l2 (list_line (codes " satellites") satellites) (list_line (codes " codes") (all_codes_text coded other)) first second
