use Rattle.std.proofs.Common.{◌≡◌, ap, subst, ◌∙◌}
use Rattle.rtk_frame.specs.Stream.{with_more, TakesPart}
use Rattle.rtk_tracking.specs.Interval.{nearness_of}
use Rattle.rtk_cut.specs.declared.part.Choice.{Choice}
use Rattle.rtk_cut.specs.Cut.{choice_of, near_of}
use Rattle.rtk_cut.specs.Steps.PartFile.{CountsEpochs}
use Rattle.rtk_cut.proofs.WholeLemmas.{gps-part, on_ok-map, if_ok-map, on_err-map}
use Rattle.rtk_cut.proofs.part_file.cut.Goals as goal

pub returns-clause-all : goal.returns-clause-all
returns-clause-all g c =
    on_ok-map c.cut_file.result (λ all t is text.
    let f = c.in_ok-file.ensures.file t is text in
    let choice : c.new-choice.result ≡ choice_of c.args.part (near_of t.epochs) = c.new-choice.ensures ∙ ap (choice_of c.args.part) (c.nearness_ms.ensures.value ∙ ap nearness_of (c.in_ok-interval_ms.ensures t is text)) in
    all t.epochs (f.left, f.width) ∙ ap (with_more (g.W.Sink.taken c.args.out.now)) (gps-part c.new-choice.result _ c.args.part t choice f.texts)) c.cut_file.ensures.all

pub returns-clause-counts : goal.returns-clause-counts
returns-clause-counts g c =
    if_ok-map c.cut_file.result (λ counts count t is text.
    let f = c.in_ok-file.ensures.file t is text in
    let choice : c.new-choice.result ≡ choice_of c.args.part (near_of t.epochs) = c.new-choice.ensures ∙ ap (choice_of c.args.part) (c.nearness_ms.ensures.value ∙ ap nearness_of (c.in_ok-interval_ms.ensures t is text)) in
    subst (λ (x : Choice). CountsEpochs x t.epochs counts) choice (count t.epochs (f.left, f.width))) c.cut_file.ensures.counts

pub returns-clause-part : goal.returns-clause-part
returns-clause-part g c =
    on_err-map c.cut_file.result (λ part t is text.
    let f = c.in_ok-file.ensures.file t is text in
    let choice : c.new-choice.result ≡ choice_of c.args.part (near_of t.epochs) = c.new-choice.ensures ∙ ap (choice_of c.args.part) (c.nearness_ms.ensures.value ∙ ap nearness_of (c.in_ok-interval_ms.ensures t is text)) in
    subst (TakesPart (g.W.Sink.taken c.args.out.now) (g.W.Sink.taken c.cut_file.new.out)) (gps-part c.new-choice.result _ c.args.part t choice f.texts) (part t.epochs (f.left, f.width))) c.cut_file.ensures.part
