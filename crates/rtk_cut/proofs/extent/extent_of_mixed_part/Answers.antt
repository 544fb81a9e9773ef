use Rattle.std.proofs.Common.{◌≡◌, [], ap, ◌∙◌}
use Rattle.rtk_tracking.specs.Interval.{nearness_of}
use Rattle.rtk_cut.specs.declared.part.Choice.{Choice}
use Rattle.rtk_cut.specs.Cut.{choice_of, near_of, kept_after}
use Rattle.rtk_cut.specs.Extent.{extent_of}
use Rattle.rtk_cut.proofs.WholeLemmas.{if_ok-map}
use Rattle.rtk_cut.proofs.extent.extent_of_mixed_part.Goals as goal

pub returns : goal.returns
returns c =
    if_ok-map c.extent_of_file.result (λ extent extends t is text.
    let f = c.new.ensures.file t is text in
    let choice : c.new-choice.result ≡ choice_of c.args.part (near_of t.epochs) = c.new-choice.ensures ∙ ap (choice_of c.args.part) (c.nearness_ms.ensures.value ∙ ap nearness_of (c.in_ok-interval_ms.ensures t is text)) in
    extends t.epochs f.left ∙ ap (λ (x : Choice). extent_of (kept_after x [] t.epochs)) choice) c.extent_of_file.ensures
