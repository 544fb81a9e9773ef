use Rattle.std.proofs.Common.{◌≡◌, ◌∙◌, ◌≤◌, ℕ, ap, sym, subst}
use Rattle.rtk_message.specs.declared.system.System.{System}
use Rattle.rtk_obs.specs.SatelliteIndex.{system_at}
use Rattle.rtk_convert.proofs.CodesLemmas.{codes-apart, codes-to, few-are}
use Rattle.rtk_convert.proofs.SystemLemmas.{last_of, not-after-gps, not-after-last, same-to-last}
use Rattle.rtk_convert.proofs.row_form.form_from.Goals as goal

pub columns_of-requires-clause-few : goal.columns_of-requires-clause-few
columns_of-requires-clause-few c = few-are c.args.listed.now c.args.satellite c.system-system.result c.codes_of-codes.result.now c.requires.listed c.codes_of-codes.ensures

pub columns_of-requires-clause-distinct : goal.columns_of-requires-clause-distinct
columns_of-requires-clause-distinct c = codes-apart c.args.listed.now c.args.satellite c.system-system.result c.codes_of-codes.result.now c.requires.listed c.codes_of-codes.ensures

pub returns-clause-codes : goal.returns-clause-codes
returns-clause-codes c =
    let is : c.system-system.result ≡ system_at c.args.satellite = c.system-system.ensures ∙ ap system_at c.in-Some.ensures.1 in
    codes-to c.args.listed.now c.args.satellite c.system-system.result c.codes_of-codes.result.now c.requires.listed c.codes_of-codes.ensures c.last_satellite.result
    (λ n from to. same-to-last c.args.satellite n c.requires.satellite from (subst (λ (s : System). n ≤ last_of s) is (subst (λ (k : ℕ). n ≤ k) c.last_satellite.ensures to)) ∙ sym is)

pub returns-clause-columns : goal.returns-clause-columns
returns-clause-columns c = record { places = c.columns_of.ensures; without = c.plain_codes.ensures }

pub returns-clause-last : goal.returns-clause-last
returns-clause-last c =
    let is : c.system-system.result ≡ system_at c.args.satellite = c.system-system.ensures ∙ ap system_at c.in-Some.ensures.1 in
    let l = not-after-last c.args.satellite c.requires.satellite in
    rw (c.last_satellite.ensures, is) l

pub returns-clause-least : goal.returns-clause-least
returns-clause-least c = rw c.last_satellite.ensures (not-after-gps c.system-system.result)
