use Rattle.std.proofs.Common.{◌++◌, ◌-◌, ℕ, List, length, codes, ap, sym, ◌∙◌, append_assoc}
use Rattle.rtk_survey.specs.Counting.{shown_count}
use Rattle.rtk_survey.specs.ReadFrames.{bytes_in}
use Rattle.rtk_survey.specs.SummaryText.{number_line}
use Rattle.rtk_survey.proofs.lines.put_sizes.Goals as goal

pub returns : goal.returns
returns c = λ q size fs shown stands.
    let l0 : List ℕ = c.args.lines.now.items in
    let bytes : List ℕ = number_line (codes "bytes ") (shown_count size) in
    let line : ℕ → List ℕ = λ n. number_line (codes "outside-frames ") n in
    let outside : List ℕ = line (shown_count size - shown_count (bytes_in fs)) in
    let last : ℕ → List ℕ = λ n. number_line (codes "frames ") n in
    let first = c.in_ok-put_line.ensures ∙ ap (λ (n : ℕ). l0 ++ number_line (codes "bytes ") n) shown in
    let second = c.in_ok-put_line-2.ensures ∙ ap (λ (n : ℕ). c.put_line.new.lines.items ++ line n) (c.saturating_sub-outside.ensures ∙ ap (λ (n : ℕ). n - c.args.contents.now.framed) shown ∙ ap (λ (n : ℕ). shown_count size - n) stands.framed) in
    let third = c.in_ok-put_line-3.ensures ∙ ap (λ (n : ℕ). c.put_line-2.new.lines.items ++ last n) stands.frames in
    third
    ∙ ap (λ (t : List ℕ). t ++ last (shown_count (length fs))) (second ∙ ap (λ (t : List ℕ). t ++ outside) first)
    ∙ append_assoc (l0 ++ bytes) outside (last (shown_count (length fs)))
    ∙ append_assoc l0 bytes (outside ++ last (shown_count (length fs)))
    ∙ ap (λ (t : List ℕ). l0 ++ t) (sym (append_assoc bytes outside (last (shown_count (length fs)))))
