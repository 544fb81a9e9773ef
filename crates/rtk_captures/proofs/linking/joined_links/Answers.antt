use Rattle.std.proofs.Common.{◌≡◌, ℕ, List, sym, ap, ◌∙◌}
use Rattle.rtk_captures.specs.Linking.{captures_of_link, is_nonempty}
use Rattle.rtk_captures.proofs.WalkLemmas.{link-kept, link-empty}
use Rattle.rtk_captures.proofs.linking.joined_links.Goals.{then-is_nonempty+in_ok-push, else-is_nonempty}
use Rattle.rtk_captures.proofs.linking.joined_links.Goals as goal

pub loop-link-preserved : goal.loop-link-preserved
loop-link-preserved c =
    let os = c.args.ordered.now in
    let i : ℕ = c.loop-link.link in
    let f : ℕ → List ℕ = λ link. captures_of_link link os c.in_ok-numbers.numbers.items in
    let is : c.in_ok-captures.captures.items ≡ f i = c.in_ok-captures.ensures ∙ ap (λ (ns : List ℕ). captures_of_link i os ns) c.as_slice.ensures.value in
    let tested : c.is_nonempty.result ≡ is_nonempty (f i) = c.is_nonempty.ensures ∙ ap (λ (xs : List ℕ). is_nonempty xs) (c.as_slice-in-loop-link.ensures.value ∙ is) in
    elim c.if-is_nonempty.branch [
      | then-is_nonempty+in_ok-push w ↦
          link-kept f i c.loop-link.links.items c.if-is_nonempty.links.items c.in_ok-captures.captures is (sym tested ∙ w.if-is_nonempty.true)
          (ap (λ v. v.items) w.links-is ∙ w.in_ok-push.ensures.items) c.loop-link.invariant
      | else-is_nonempty w ↦
          link-empty f i c.loop-link.links.items c.if-is_nonempty.links.items (sym tested ∙ w.if-is_nonempty.false) (ap (λ v. v.items) w.links-is) c.loop-link.invariant
    ]
