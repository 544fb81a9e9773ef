use Rattle.std.proofs.Common.{◌≡◌, ◌++◌, ℕ, Option, subst}
use Rattle.std.specs.Prelude.{OnOk}
use Rattle.rtk_quality.specs.Forms.{value_text}
use Rattle.rtk_quality.proofs.form.put_narrow.Goals as goal

pub returns : goal.returns
returns c =
    subst (λ (n : Option ℕ). OnOk c.put_value.result (c.put_value.new.text.items ≡ c.args.text.now.items ++ value_text c.args.form c.args.words.now c.args.key.now c.args.decimals n))
    c.widened.ensures c.put_value.ensures
