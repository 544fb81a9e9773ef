use Rattle.std.proofs.Common.{◌≡◌, [], None}
use Rattle.rtk_plan.specs.Causes.{FindsNoCode}
use Rattle.rtk_systems.specs.Values.{codes_in_captures}
use Rattle.rtk_captures.specs.declared.refusal.Refusal.{Refusal}
use Rattle.rtk_captures.specs.declared.refusal.Refusal.TheVariants.{NoCode}
use Rattle.rtk_plan.proofs.RefusedLemmas.{exit-also, no-code-of}
use Rattle.rtk_plan.proofs.station_setup.codes_to_convert.Goals as goal

pub returns-clause-codes : goal.returns-clause-codes
returns-clause-codes c = (c.in_ok-systems.systems, c.in_ok-systems.ensures, c.in_ok-codes.ensures.codes)

-- no code of the systems that are taken is found
pub returns-in_err-codes-clause-refused : goal.returns-in_err-codes-clause-refused
returns-in_err-codes-clause-refused c =
    let ss = c.args.surveys.now in
    let w = c.args.wanted.now in
    let systems = c.in_ok-systems.systems in
    exit-also (λ (r : Refusal). (r ≡ NoCode) × (w.codes ≡ None) × (codes_in_captures ss c.args.station systems c.args.taken ≡ []))
    (λ (r : Refusal). (r ≡ NoCode) × (w.codes ≡ None) × FindsNoCode ss c.args.taken w c.args.station c.args.seconds.now c.args.near)
    c.in_err-codes.field-0.0 c.from_residual-in_err-codes.result c.from_residual-in_err-codes.ensures.1
    (no-code-of ss w c.args.station c.args.seconds.now c.args.near c.args.taken systems c.in_ok-systems.ensures) c.in_err-codes.ensures.refused
