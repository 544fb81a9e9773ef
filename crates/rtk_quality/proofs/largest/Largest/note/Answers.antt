use Rattle.std.proofs.Common.{◌≡◌, ℕ, ltb, take, sym, ap, ◌∙◌}
use Rattle.std.specs.Prelude.{insert}
use Rattle.std.specs.List.{position_or_len}
use Rattle.std.proofs.lemmas.Bool.{lt-ltb, le-ltb}
use Rattle.std.proofs.lemmas.List.Sums.{position_or_len_is}
use Rattle.rtk_quality.proofs.LargestLemmas.{thing-inserted, thing-kept}
use Rattle.rtk_quality.proofs.largest.Largest.note.Goals as goal

pub returns : goal.returns
returns g c = λ all are.
    let size = g.T.Measured.size in
    let things = c.args.self.now.things.items in
    let thing = c.args.thing in
    let place = rw (c.as_slice.ensures.value, c.size.ensures) at c.place_of-place.ensures in
    let first : c.place_of-place.result ≡ position_or_len (λ y. ltb (size y) (size thing)) things =
    sym (position_or_len_is (λ y. ltb (size y) (size thing)) things c.place_of-place.result thing place.within
    (λ k lt. le-ltb _ (size thing) (place.larger k thing lt)) (λ lt. lt-ltb _ (size thing) (place.next thing lt))) in
    thing-kept size thing c.args.self.now _ all are c.saturating_add-self.ensures
    (c.truncate.ensures.items
    ∙ ap (λ ys. take 10 ys) (c.in_ok-insert.ensures.items ∙ ap (λ (k : ℕ). insert things k thing) first ∙ thing-inserted size thing things))
