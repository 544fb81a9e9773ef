use Rattle.std.proofs.Common.{◌≡◌, ◌<◌, ◌+◌, get_or, length, List, [], ◌∷◌, ◌++◌, take, drop, flat_map, ℕ, sym, ap, ◌∙◌, take-append-drop, append_assoc, append-nil, Bor}
use Rattle.std.proofs.lemmas.Bool.{eqb-true, eq-eqb}
use Rattle.std.proofs.lemmas.Grind.{flat_map-append}
use Rattle.std.proofs.lemmas.List.{take_more}
use Rattle.std.specs.Cmp.Lexicographic.{pointwise_decides}
use Rattle.rtk_test_support.proofs.comparing.consists_of.Goals as goal

-- the bytes of the parts as far as the next one are those before it and its own
bytes_more : (parts : List (Bor (List ℕ))) (i : ℕ) (d : Bor (List ℕ)) → i < length parts
    → flat_map (λ part. part.now) (take (i + 1) parts) ≡ flat_map (λ part. part.now) (take i parts) ++ (get_or parts i d).now
bytes_more parts i d h =
    ap (flat_map (λ part. part.now)) (take_more parts i d h)
    ∙ flat_map-append (λ part. part.now) (take i parts) (get_or parts i d ∷ [])
    ∙ ap (λ own. flat_map (λ part. part.now) (take i parts) ++ own) (append-nil (get_or parts i d).now)

-- a text whose rest begins with the next part goes on after it
after_part : (text rest next : List ℕ) (parts : List (Bor (List ℕ))) (i : ℕ) (d : Bor (List ℕ)) → i < length parts
    → text ≡ flat_map (λ part. part.now) (take i parts) ++ rest → rest ≡ (get_or parts i d).now ++ next
    → text ≡ flat_map (λ part. part.now) (take (i + 1) parts) ++ next
after_part text rest next parts i d h before own =
    before ∙ ap (λ r. flat_map (λ part. part.now) (take i parts) ++ r) own
    ∙ sym (append_assoc (flat_map (λ part. part.now) (take i parts)) (get_or parts i d).now next)
    ∙ ap (λ whole. whole ++ next) (sym (bytes_more parts i d h))

pub loop-part-preserved : goal.loop-part-preserved
loop-part-preserved c =
    let found = c.in-Some.ensures.cases in
    let part = c.as_bytes.result.now in
    let front : take (length part) c.loop-part.rest.now ≡ part =
    (pointwise_decides (λ a b. (eqb-true a b, eq-eqb a b)) _ _).0 found.0 in
    let rest : c.loop-part.rest.now ≡ part ++ c.in-Some.next.now =
    sym (take-append-drop (length part) c.loop-part.rest.now) ∙ ap (λ p. p ++ drop (length part) c.loop-part.rest.now) front
    ∙ ap (λ after. part ++ after) (sym found.1) in
    after_part c.args.text.now c.loop-part.rest.now c.in-Some.next.now c.args.parts.now c.loop-part.part-index (record { ref_ptr = (0, 0); now = [] })
    c.loop-part-test.true c.loop-part.invariant (rest ∙ ap (λ p. p ++ c.in-Some.next.now) c.as_bytes.ensures.value)
