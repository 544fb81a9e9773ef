use Rattle.std.proofs.Common.{◌≡◌, ◌∙◌, ◌/◌, ◌∷◌, ◌++◌, refl, to_z, of_z, w64, ℕ, List, drop, get_or, ap, sym, arith, unsigned_abs}
use Rattle.std.proofs.lemmas.Int.{ints}
use Rattle.std.proofs.lemmas.List.{take-append-drop}
use Rattle.rtk_rinex.specs.Columns.{is_negative}
use Rattle.rtk_rinex.proofs.ValuesLemmas.{written-limits}
use Rattle.rtk_rinex.proofs.FieldLemmas.{has-parts, text_of-parts, no_zero, rest_is, bound, value_of, cons_of}
use Rattle.rtk_rinex.proofs.value_check.written_value.Goals as goal

pub returns-then-decimals-ne46 : goal.returns-then-decimals-ne46
returns-then-decimals-ne46 c = λ v h e.
    let p = has-parts c.args.field.now v h e in
    c.if-decimals-ne46.true (ap (λ (xs : List ℕ). get_or xs 0 0) (c.split_at.ensures.back ∙ p.rest))

pub returns-in_err-negative : goal.returns-in_err-negative
returns-in_err-negative c =
    rw c.from_residual.ensures (λ v h e.
    let p = has-parts c.args.field.now v h e in
    c.in_err-negative.ensures.value (is_negative v) (unsigned_abs v / 1000) p.few (c.split_at.ensures.front ∙ p.whole))

pub returns-in_err-magnitude : goal.returns-in_err-magnitude
returns-in_err-magnitude c =
    rw c.from_residual-in_err-magnitude.ensures (λ v h e.
    let p = has-parts c.args.field.now v h e in
    c.in_err-magnitude.ensures (unsigned_abs v) (rest_is c.split_at.result.1.now ∙ ap (λ (xs : List ℕ). drop 1 xs) (c.split_at.ensures.back ∙ p.rest)))

pub returns-then-magnitude-eq0 : goal.returns-then-magnitude-eq0
returns-then-magnitude-eq0 c = λ v h e.
    let front = c.split_at.result.0.now in
    let back = c.split_at.result.1.now in
    let whole : c.args.field.now ≡ front ++ back = sym (take-append-drop 10 c.args.field.now) ∙ (rw (c.split_at.ensures.front, c.split_at.ensures.back) refl) in
    let point : back ≡ 46 ∷ drop 1 back = sym (cons_of back (omega (arith, c.split_at.ensures.back_len))) ∙ ap (λ (x : ℕ). x ∷ drop 1 back) c.if-decimals-ne46.false in
    let last = sym (rest_is back) ∙ c.in_ok-magnitude.ensures.1 in
    let text = text_of-parts c.args.field.now front back (drop 1 back) c.in_ok-negative.negative c.in_ok-negative.whole c.in_ok-magnitude.field-0 whole point
    c.in_ok-negative.ensures.value last c.in_ok-magnitude.ensures.0 in
    no_zero c.args.field.now c.in_ok-negative.negative _ v c.if-magnitude-eq0.true text h e

pub returns : goal.returns
returns c =
    let front = c.split_at.result.0.now in
    let back = c.split_at.result.1.now in
    let whole : c.args.field.now ≡ front ++ back = sym (take-append-drop 10 c.args.field.now) ∙ (rw (c.split_at.ensures.front, c.split_at.ensures.back) refl) in
    let point : back ≡ 46 ∷ drop 1 back = sym (cons_of back (omega (arith, c.split_at.ensures.back_len))) ∙ ap (λ (x : ℕ). x ∷ drop 1 back) c.if-decimals-ne46.false in
    let last = sym (rest_is back) ∙ c.in_ok-magnitude.ensures.1 in
    let text = text_of-parts c.args.field.now front back (drop 1 back) c.in_ok-negative.negative c.in_ok-negative.whole c.in_ok-magnitude.field-0 whole point
    c.in_ok-negative.ensures.value last c.in_ok-magnitude.ensures.0 in
    let value = c.with_sign.result in
    let is = value_of c.args.field.now c.in_ok-negative.negative _ value c.with_sign.ensures c.if-magnitude-eq0.false
    (bound c.in_ok-negative.negative c.in_ok-negative.whole c.in_ok-magnitude.field-0 c.in_ok-negative.ensures.bound c.in_ok-magnitude.ensures.0) text in
    let limits = written-limits value is.0 in
    let same : to_z w64 (of_z w64 value) ≡ value = omega (arith, ints, limits) in
    rw same is
