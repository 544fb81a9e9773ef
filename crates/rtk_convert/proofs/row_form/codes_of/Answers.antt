use Rattle.std.proofs.Common.{◌≡◌, ◌<◌, ◌-◌, length, rules, sym, ap, ◌∙◌, arith}
use Rattle.std.proofs.lemmas.List.{get_or_default}
use Rattle.rtk_obs.specs.declared.any_code.AnyCode.TheVariants.{G1C}
use Rattle.rtk_obs.specs.AnyCode.{system_of}
use Rattle.rtk_convert.proofs.CodesLemmas.{codes-all, codes-between}
use Rattle.rtk_convert.proofs.row_form.codes_of.Goals as goal

pub returns-then-eq-2 : goal.returns-then-eq-2
returns-then-eq-2 c =
    let listed = c.args.listed.now in
    let some = c.requires.count.0 in
    let inside : length listed - 1 < length listed = omega (arith, some) in
    let first : c.system-first.result ≡ c.args.system = search rules in
    let last : c.system-last.result ≡ c.args.system = search rules in
    codes-all c.args.system listed c.requires
    (λ d. ap system_of (get_or_default listed 0 d G1C some) ∙ sym c.system-first.ensures ∙ first)
    (λ d. ap system_of (get_or_default listed (length listed - 1) d G1C inside) ∙ sym c.system-last.ensures ∙ last)

pub returns : goal.returns
returns c =
    let e = c.codes_end-end.ensures in
    codes-between c.args.system c.args.listed.now c.codes_before-begin.result c.codes_end-end.result c.requires c.codes_before-begin.ensures e.from e.within e.own e.last
