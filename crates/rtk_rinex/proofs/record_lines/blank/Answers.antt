use Rattle.std.proofs.Common.{◌≡◌, ℕ, ◌+◌, ◌-◌, ◌≤◌, ◌++◌, List, length, replicate, take, drop, ap, arith, refl, ◌∙◌}
use Rattle.std.proofs.lemmas.List.{drop-drop, length-take, length-drop, replicate-append-replicate}
use Rattle.rtk_rinex.proofs.record_lines.blank.Goals as goal

blanked : (text part : List ℕ) (begin end k : ℕ) → begin ≤ end → end ≤ length text → k ≡ end - begin → part ≡ replicate k 32 → drop end text ≡ replicate (length text - end) 32
    → take begin text ++ (part ++ drop k (drop begin text)) ≡ take begin text ++ replicate (length text - begin) 32
blanked text part begin end k from within e is after =
    let place : begin + k ≡ end = omega arith in
    let sum : k + (length text - end) ≡ length text - begin = omega arith in
    ap (λ (xs : List ℕ). take begin text ++ xs)
    (ap (λ (xs : List ℕ). part ++ xs) (drop-drop k begin text ∙ ap (λ (n : ℕ). drop n text) place ∙ after)
    ∙ ap (λ (xs : List ℕ). xs ++ replicate (length text - end) 32) is ∙ replicate-append-replicate {A = ℕ} k (length text - end) 32 ∙ ap (λ (n : ℕ). replicate n 32) sum)

pub returns : goal.returns
returns c =
    let text = c.args.text.now in
    let k = c.args.end - c.args.begin in
    let size : length (take k (drop c.args.begin text)) ≡ k = omega (arith, length-take k (drop c.args.begin text), length-drop c.args.begin text) in
    blanked text c.clear.new.part c.args.begin c.args.end k c.requires.from c.requires.within refl (c.clear.ensures ∙ ap (λ (n : ℕ). replicate n 32) size) c.requires.after
