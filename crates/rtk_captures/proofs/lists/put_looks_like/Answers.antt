use Rattle.std.proofs.Common.{ℕ, List, ◌++◌, ap, ◌∙◌, codes}
use Rattle.rtk_survey.specs.Look.{look_name}
use Rattle.rtk_captures.specs.Lists.{unpacker, unpacking}
use Rattle.rtk_survey.proofs.PublicLaws.{three-parts}
use Rattle.rtk_captures.proofs.lists.put_looks_like.Goals as goal

pub returns : goal.returns
returns c =
    let how : List ℕ = unpacking (unpacker c.args.look) c.args.name.now in
    c.in_ok-put_unpacking.ensures
    ∙ ap (λ (command : List ℕ). c.extend_from_slice-2.new.self.items ++ unpacking command c.args.name.now) c.unpacker.ensures
    ∙ ap (λ l. l ++ how) (c.in_ok-extend_from_slice-2.ensures.items
    ∙ ap (λ (name : List ℕ). c.extend_from_slice.new.self.items ++ name) c.name.ensures
    ∙ ap (λ l. l ++ look_name c.args.look) c.in_ok-extend_from_slice.ensures.items)
    ∙ three-parts c.args.lines.now.items (codes " looks like ") (look_name c.args.look) how
