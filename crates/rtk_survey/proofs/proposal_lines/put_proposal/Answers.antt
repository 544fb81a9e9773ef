use Rattle.std.proofs.Common.{◌≡◌, ◌++◌, ◌∙◌, ℕ, Bool, List, Option, false, get_or, ap}
use Rattle.std.proofs.Math.Path.{fun_ext}
use Rattle.rtk_message.specs.declared.msm_kind.MsmKind.{MsmKind}
use Rattle.rtk_obs.specs.declared.any_code.AnyCode.{AnyCode}
use Rattle.rtk_obs.specs.declared.code.Code.{Code}
use Rattle.rtk_obs.specs.AnyCode.{number_of}
use Rattle.rtk_obs.specs.Code.{place_of}
use Rattle.rtk_survey.specs.BitMarks.{is_marked_in}
use Rattle.rtk_survey.specs.Contents.{epochs_held, codes_held}
use Rattle.rtk_survey.specs.FrameDates.{proposed_date}
use Rattle.rtk_survey.specs.NextCommand.{next_options, station_proposal}
use Rattle.rtk_survey.specs.Steps.OtherSystems.{glonass_held, taken_held}
use Rattle.rtk_survey.specs.Steps.Tables.{system_epochs_held}
use Rattle.rtk_survey.specs.SummaryText.{near_text, second_frequency_line, other_msm_lines, all_codes_text, next_lines, proposal_lines}
use Rattle.rtk_survey.specs.UncheckedClocks.{systems_sent}
use Rattle.rtk_survey.specs.declared.date_message.UtcDate.{UtcDate}
use Rattle.rtk_survey.specs.declared.msm_parts.MsmPart.{MsmPart}
use Rattle.rtk_survey.specs.declared.systems_sent.SystemsSent.{SystemsSent}
use Rattle.rtk_survey.proofs.ListLemmas.{and-then}
use Rattle.rtk_survey.proofs.proposal_lines.put_proposal.Goals as goal

pub returns : goal.returns
unfolding station_proposal proposal_lines
returns c =
    let s = c.args.station.now in
    let name : List ℕ = c.args.name.now in
    let number : ℕ = c.args.number in
    let date : Option UtcDate = proposed_date s.dates in
    let beside : ℕ → ℕ = system_epochs_held s in
    let items : List ℕ = glonass_held date s in
    let code : MsmKind → Code → Bool = codes_held s.msm in
    let near : List ℕ = near_text date in
    -- what each call gave
    let marked : AnyCode → Bool = λ k. is_marked_in c.taken_codes-others.result.words (number_of k) in
    let test : Code → Bool = λ k. get_or c.part.result.now.codes.marks (place_of k) false in
    let text : MsmKind → (Code → Bool) → (AnyCode → Bool) → List ℕ =
    λ kind t other. second_frequency_line t ++ other_msm_lines (epochs_held s.msm) kind ++ next_lines name near number (next_options beside items kind (systems_sent t other)) (all_codes_text t other) in
    let taken : AnyCode → Bool = taken_held date s in
    let marked-is : marked ≡ taken =
    fun_ext (λ k. c.taken_codes-others.ensures k ∙ ap (λ (d : Option UtcDate). taken_held d s k) c.proposed_date-near.ensures) in
    let l0 : List ℕ = c.args.lines.now.items in
    let l1 : List ℕ = c.put_second_frequency.new.lines.items in
    let l2 : List ℕ = c.put_other_msms.new.lines.items in
    let l3 : List ℕ = c.put_next.new.lines.items in
    let named : MsmKind = c.proposed-named.result in
    let options : List ℕ = next_options beside items named (systems_sent test marked) in
    let next : l3 ≡ l2 ++ next_lines name near number options (all_codes_text test marked) =
    c.in_ok-put_next.ensures
    ∙ ap (λ (d : Option UtcDate). l2 ++ next_lines name (near_text d) number c.as_slice.result.now c.as_slice-2.result.now) c.proposed_date-near.ensures
    ∙ ap (λ (t : List ℕ). l2 ++ next_lines name near number t c.as_slice-2.result.now)
    (c.as_slice.ensures.value ∙ c.in_ok-options.ensures
    ∙ ap (λ (g : Option UtcDate). next_options beside (glonass_held g s) named c.of-sent.result) c.proposed_date-near.ensures
    ∙ ap (λ (x : SystemsSent). next_options beside items named x) c.of-sent.ensures)
    ∙ ap (λ (t : List ℕ). l2 ++ next_lines name near number options t) (c.as_slice-2.ensures.value ∙ c.in_ok-codes.ensures) in
    let all : l3 ≡ l0 ++ text named test marked =
    and-then l0 l2 l3 (second_frequency_line test ++ other_msm_lines (epochs_held s.msm) named) (next_lines name near number options (all_codes_text test marked))
    (and-then l0 l1 l2 (second_frequency_line test) (other_msm_lines (epochs_held s.msm) named) c.in_ok-put_second_frequency.ensures c.in_ok-put_other_msms.ensures) next in
    all
    ∙ ap (λ (o : AnyCode → Bool). l0 ++ text named test o) marked-is
    ∙ ap (λ (p : MsmPart). l0 ++ text named (λ k. get_or p.codes.marks (place_of k) false) taken) c.part.ensures
    ∙ ap (λ (k : MsmKind). l0 ++ text k (code k) taken) c.proposed-named.ensures
