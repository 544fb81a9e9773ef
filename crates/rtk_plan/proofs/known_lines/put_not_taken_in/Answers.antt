use Rattle.std.proofs.Common.{◌++◌, ℕ, Bool, List, ap, ◌∙◌}
use Rattle.rtk_message.specs.declared.accepted.Accepted.{Accepted}
use Rattle.rtk_message.specs.declared.system.System.TheVariants.{Gps, Sbas}
use Rattle.rtk_setup.specs.Setup.{taken_by, lists_system}
use Rattle.rtk_plan.specs.KnownLines.{not_taken_by}
use Rattle.rtk_plan.proofs.known_lines.put_not_taken_in.Goals as goal

pub returns : goal.returns
returns c =
    let old : List ℕ = c.args.lines.now.items in
    let ss = c.args.surveys.now in
    let setup = c.args.setup.now in
    let taken = c.accepted-taken.result in
    let has_gps = c.takes_gps-has_gps.result in
    let has_sbas = c.takes_sbas-has_sbas.result in
    let has_doppler = c.has_doppler-has_doppler.result in
    let is_long = c.args.is_long in
    c.in_ok-put_not_taken.ensures
    ∙ ap (λ (n : ℕ). old ++ not_taken_by taken has_gps has_sbas has_doppler is_long ss n) c.station.ensures.value
    ∙ ap (λ (a : Accepted). old ++ not_taken_by a has_gps has_sbas has_doppler is_long ss setup.station) c.accepted-taken.ensures
    ∙ ap (λ (b : Bool). old ++ not_taken_by (taken_by setup) b has_sbas has_doppler is_long ss setup.station) c.takes_gps-has_gps.ensures
    ∙ ap (λ (b : Bool). old ++ not_taken_by (taken_by setup) (lists_system setup.head.listed Gps) b has_doppler is_long ss setup.station) c.takes_sbas-has_sbas.ensures
    ∙ ap (λ (b : Bool). old ++ not_taken_by (taken_by setup) (lists_system setup.head.listed Gps) (lists_system setup.head.listed Sbas) b is_long ss setup.station) c.has_doppler-has_doppler.ensures
