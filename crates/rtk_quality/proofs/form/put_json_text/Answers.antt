use Rattle.std.proofs.Common.{◌≡◌, ◌++◌, List, ℕ, take, ap, ◌∙◌, arith}
use Rattle.std.specs.Prelude.{flat_map}
use Rattle.std.proofs.lemmas.Grind.{common_steps}
use Rattle.rtk_quality.specs.Forms.{json_character, json_text}
use Rattle.rtk_quality.proofs.form.put_json_text.Goals as goal

pub returns : goal.returns
unfolding json_text
returns c =
    let xs : List ℕ = c.args.words.now in
    let all : take c.loop-character.character-index xs ≡ xs = grind (arith, common_steps) in
    c.loop-character.invariant ∙ ap (λ (ys : List ℕ). c.args.text.now.items ++ flat_map json_character ys) all
