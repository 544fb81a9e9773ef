use Rattle.std.proofs.Common.{List, ℕ, ◌++◌, map, ap, ◌∙◌}
use Rattle.rtk_cli.specs.Steps.Parts.{marked_parts_after}
use Rattle.rtk_cli.specs.Steps.AnyCodeList.{code_word, IsNameCause}
use Rattle.rtk_cli.proofs.RefusedLemmas.{refused-by}
use Rattle.rtk_cli.proofs.code_words.any_codes_said.Goals as goal

-- a name is no code's word
pub returns-in_default-clause-refused : goal.returns-in_default-clause-refused
returns-in_default-clause-refused c =
    refused-by (IsNameCause c.args.text.now) c.cause_of_name.result c.into.result c.into.ensures (
      c.first_part.result.0.now,
      (
        c.loop-code.codes.items,
        marked_parts_after 44 c.first_part.result.1,
        c.loop-code.invariant ∙ ap (λ (t : List (List ℕ)). map code_word c.loop-code.codes.items ++ t) c.first_part.ensures.parts,
        c.in_default.ensures,
      ),
      c.cause_of_name.ensures,
    )
