use Rattle.std.proofs.Common.{◌≡◌, ◌++◌, take}
use Rattle.std.specs.Prelude.{flat_map}
use Rattle.rtk_quality.specs.Forms.{json_character}
use Rattle.rtk_quality.proofs.form.put_json_text.Given as goal

abbrev pub invariant-loop-character : goal.invariant-loop-character
invariant-loop-character l = l.text.items ≡ l.fn.text.items ++ flat_map json_character (take l.character-index l.words)
