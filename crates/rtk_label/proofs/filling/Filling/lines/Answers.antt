use Rattle.std.proofs.Common.{ℕ, List, ap, arith, ◌∙◌}
use Rattle.rtk_label.specs.Filling.{filling_label, filling_front}
use Rattle.rtk_label.specs.Steps.Fronts.{filled_front}
use Rattle.rtk_label.proofs.WriteLemmas.{fills-front}
use Rattle.rtk_label.proofs.filling.Filling.lines.Goals as goal

pub returns : goal.returns
returns c =
    let label = filling_label c.args.self.now in
    let front : List ℕ = filling_front c.args.self.now in (
      omega arith,
      fills-front label front c.filled.result.items c.filled.ensures.good (c.filled.ensures.value ∙ ap (λ (text : List ℕ). filled_front label text) c.as_slice.ensures.value),
    )
