use Rattle.std.proofs.Common.{◌≡◌, ◌∙◌, ℕ, Bool, List, None, sym, ap, subst}
use Rattle.rtk_obs.specs.declared.any_code.AnyCode.{AnyCode}
use Rattle.rtk_setup.specs.declared.system_kinds.SystemKinds.{SystemKinds}
use Rattle.rtk_captures.specs.Dating.{captures_of}
use Rattle.rtk_captures.specs.declared.refusal.Refusal.{Refusal}
use Rattle.rtk_captures.specs.declared.refusal.Refusal.TheVariants.{NoCode}
use Rattle.rtk_survey.specs.Surveys.{places_of}
use Rattle.rtk_systems.specs.declared.values.TakenMessages.{TakenMessages}
use Rattle.rtk_plan.specs.Causes.{FindsNoCode, IsRatesCause, IsSetupCause}
use Rattle.rtk_plan.specs.Plan.{AreCodesChosen, near_chosen, codes_taken_from, kinds_found}
use Rattle.rtk_plan.specs.Steps.SetupParts.{HasSetupParts}
use Rattle.rtk_plan.proofs.RefusedLemmas.{exit-also, no-code-found, no-rates-found}
use Rattle.rtk_plan.proofs.SetupLemmas.{taken_kinds, is-setup, stays-in-reach}
use Rattle.rtk_plan.proofs.station_setup.setup_near.Goals as goal

-- no code is found
pub returns-in_err-codes-clause-refused : goal.returns-in_err-codes-clause-refused
returns-in_err-codes-clause-refused c =
    let ss = c.args.surveys.now in
    let w = c.args.wanted.now in
    let links = places_of c.args.links.now in
    let seconds = c.args.seconds.now in
    let other = c.args.other.now in
    let kinds = c.kinds_to_convert-kinds.result in
    let taken : TakenMessages = taken_kinds kinds c.is_some-with_1012.result in
    let same : taken ≡ codes_taken_from (kinds_found w.msm ss links c.args.station) other =
    ap (λ (b : Bool). taken_kinds kinds b) c.is_some-with_1012.ensures ∙ ap (λ (ks : SystemKinds). codes_taken_from ks other) c.kinds_to_convert-kinds.ensures in
    exit-also (λ (r : Refusal). (r ≡ NoCode) × (w.codes ≡ None) × FindsNoCode ss taken w c.args.station seconds c.args.near) (IsSetupCause ss links w c.args.station c.args.near)
    c.in_err-codes.field-0.0 c.from_residual.result c.from_residual.ensures.1
    (no-code-found ss links w c.args.station seconds c.args.near other taken same c.requires.seconds c.requires.other) c.in_err-codes.ensures.refused

-- a listed system has no rates
pub returns-in_err-demand_rates-clause-refused : goal.returns-in_err-demand_rates-clause-refused
returns-in_err-demand_rates-clause-refused c =
    let ss = c.args.surveys.now in
    let w = c.args.wanted.now in
    let links = places_of c.args.links.now in
    let seconds = c.args.seconds.now in
    let other = c.args.other.now in
    let kinds = c.kinds_to_convert-kinds.result in
    let listed = c.as_slice-listed.result.now in
    let codes : AreCodesChosen w ss c.args.station seconds c.args.near (codes_taken_from kinds other) listed =
    subst (λ (cs : List AnyCode). AreCodesChosen w ss c.args.station seconds c.args.near (codes_taken_from kinds other) cs) (sym c.as_slice-listed.ensures.value)
    (subst (λ (b : Bool). AreCodesChosen w ss c.args.station seconds c.args.near (taken_kinds kinds b) c.in_ok-codes.codes.items) c.is_some-with_1012.ensures c.in_ok-codes.ensures.codes) in
    exit-also (IsRatesCause w.doppler kinds listed) (IsSetupCause ss links w c.args.station c.args.near) c.in_err-demand_rates.field-0.0
    c.from_residual-in_err-demand_rates.result c.from_residual-in_err-demand_rates.ensures.1
    (no-rates-found ss links w c.args.station seconds c.args.near other kinds listed c.kinds_to_convert-kinds.ensures c.requires.seconds c.requires.other codes)
    c.in_err-demand_rates.ensures.refused

-- the setup is of parts that are named or found
pub returns-clause-setup : goal.returns-clause-setup
returns-clause-setup c =
    let ss = c.args.surveys.now in
    let w = c.args.wanted.now in
    let links = places_of c.args.links.now in
    let station = c.args.station in
    let seconds = c.args.seconds.now in
    let other = c.args.other.now in
    let kinds = c.kinds_to_convert-kinds.result in
    let listed = c.as_slice-listed.result.now in
    let takes = c.converts_1012-obs1012.result in
    let near = c.near_chosen-reference.result in
    let codes : AreCodesChosen w ss station seconds c.args.near (codes_taken_from kinds other) listed =
    subst (λ (cs : List AnyCode). AreCodesChosen w ss station seconds c.args.near (codes_taken_from kinds other) cs) (sym c.as_slice-listed.ensures.value)
    (subst (λ (b : Bool). AreCodesChosen w ss station seconds c.args.near (taken_kinds kinds b) c.in_ok-codes.codes.items) c.is_some-with_1012.ensures c.in_ok-codes.ensures.codes) in
    let moment : near ≡ near_chosen takes c.args.near other =
    c.near_chosen-reference.ensures ∙ ap (λ (n : ℕ). near_chosen takes n other) c.in-Ok-new.ensures.moment in
    let parts : HasSetupParts ss w c.args.made station near (taken_kinds kinds takes) listed seconds c.setup_with.result =
    subst (λ (n : ℕ). HasSetupParts ss w c.args.made n near (taken_kinds kinds takes) listed seconds c.setup_with.result) c.in-Ok.ensures.number c.setup_with.ensures in
    is-setup ss links w c.args.made station c.args.near other seconds kinds listed takes near c.setup_with.result
    c.requires.near c.requires.other c.requires.chosen c.kinds_to_convert-kinds.ensures codes c.requires.seconds c.converts_1012-obs1012.ensures moment c.in_ok-demand_rates.ensures.rates parts

-- both moments are in reach
pub returns-clause-in_reach : goal.returns-clause-in_reach
returns-clause-in_reach c =
    let w = c.args.wanted.now in
    let takes = c.converts_1012-obs1012.result in
    let other = c.args.other.now in
    stays-in-reach w.near (captures_of c.args.surveys.now c.args.station) takes c.args.near other c.setup_with.result.near c.requires.reach c.requires.other_reach
    (c.setup_with.ensures.near_is ∙ c.near_chosen-reference.ensures ∙ ap (λ (n : ℕ). near_chosen takes n other) c.in-Ok-new.ensures.moment)
