use Rattle.std.proofs.Common.{rules, ◌≡◌, ◌∷◌, ℕ, Option, sym, subst, ap, ◌∙◌}
use Rattle.std.specs.BTreeMap.{BTreeMap}
use Rattle.std.specs.BTreeMap.Entry.{map_with_value}
use Rattle.std.specs.Option.{unwrap_or}
use Rattle.rtk_survey.specs.Contents.{HasSystems}
use Rattle.rtk_survey.specs.declared.system_msm.SystemMsm.{SystemMsm}
use Rattle.rtk_survey.proofs.SystemLemmas.{system-more}
use Rattle.rtk_survey.proofs.system_msm.take_beside.Goals as goal

pub returns : goal.returns
returns c = λ ms all.
    let after = c.take.new.self in
    let m = map_with_value c.in_ok-parts.field-0 after in
    let was = c.or_insert-part.ensures.value ∙ ap (λ (o : Option SystemMsm). unwrap_or o c.new.result) c.in_ok-parts.ensures.value in
    let e : c.parts-3-1.given.0 ≡ m = search rules in
    subst (λ (x : BTreeMap ℕ SystemMsm). HasSystems x (c.args.message.now ∷ ms)) (sym e)
    (system-more c.args.parts.now m c.or_insert-part.result.now after c.new.result ms c.args.message.now c.number.result c.number.ensures c.requires.beside was c.new.ensures
    (c.in_ok-parts.ensures.update.0 after) c.take.ensures all)
