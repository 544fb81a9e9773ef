use Rattle.std.proofs.Common.{◌≡◌, ◌+◌, ◌-◌, ◌/◌, ◌%◌, ◌<◌, take, set, sym, ap, ◌∙◌, arith, append_assoc, take-take, refl, drop, decimal, ◌∷◌, length}
use Rattle.std.proofs.lemmas.Fmt.{decimal_digit}
use Rattle.std.proofs.lemmas.List.{drop-set, take-set, take-set-le, take-append-drop, length-set}
use Rattle.rtk_rinex.proofs.ColumnsLemmas.{decimal-pair, length-decimal-pair, decimal-two, length-decimal-two, length-decimal-one}
use Rattle.rtk_rinex.proofs.columns.put_decimal.Goals as goal

-- two digits, or the last of them

pub overflow_sub-at : goal.overflow_sub-at
overflow_sub-at c = omega (arith, length-decimal-two c.loop-rest.rest)

pub put_pair-requires-clause-columns : goal.put_pair-requires-clause-columns
put_pair-requires-clause-columns c = omega (arith, length-decimal-two c.loop-rest.rest)

pub loop-rest-preserved : goal.loop-rest-preserved
loop-rest-preserved c =
    let l = c.loop-rest in
    let fewer = length-decimal-two l.rest c.loop-rest-test.true l.auto.rest-fits.fits in
    let back : l.at - 2 + 1 + 1 ≡ l.at = omega arith in
    let second : l.at - 2 + 1 < length l.field = omega arith in
    let two = l.rest % 100 in
    let with_ones = set l.field (l.at - 2 + 1) (48 + two % 10) in
    let first : l.at - 2 < length with_ones = simp length-set (omega arith) in record {
      room = omega arith;
      within = rw c.put_pair.ensures (simp length-set (omega arith));
      before = ap (take (l.at - 2)) c.put_pair.ensures ∙ take-set _ (l.at - 2) _ ∙ take-set-le (l.at - 2) l.field (l.at - 2 + 1) _ (omega arith)
          ∙ sym (take-take (l.at - 2) l.at l.field (omega arith)) ∙ ap (take (l.at - 2)) l.invariant.before ∙ take-take (l.at - 2) l.at _ (omega arith);
      start = rw c.put_pair.ensures (simp length-set (omega (arith, l.invariant.start)));
      written = rw (c.put_pair.ensures, drop-set with_ones (l.at - 2) _ first, drop-set l.field (l.at - 2 + 1) _ second, back)
          (rw (decimal-two l.rest c.loop-rest-test.true l.auto.rest-fits.fits, append_assoc) at l.invariant.written);
    }

-- the first two digits

pub overflow_sub-at-then-rest-ge10 : goal.overflow_sub-at-then-rest-ge10
overflow_sub-at-then-rest-ge10 c = omega (arith, length-decimal-pair c.loop-rest.rest)

pub put_pair-requires-then-rest-ge10-clause-columns : goal.put_pair-requires-then-rest-ge10-clause-columns
put_pair-requires-then-rest-ge10-clause-columns c = omega (arith, length-decimal-pair c.loop-rest.rest)

pub returns-then-rest-ge10-clause-start : goal.returns-then-rest-ge10-clause-start
returns-then-rest-ge10-clause-start c = omega (arith, length-decimal-pair c.loop-rest.rest, c.loop-rest.invariant.start)

pub returns-then-rest-ge10-clause-written : goal.returns-then-rest-ge10-clause-written
returns-then-rest-ge10-clause-written c =
    let l = c.loop-rest in
    let long = length-decimal-pair l.rest (omega arith) (omega arith) in
    let back : l.at - 2 + 1 + 1 ≡ l.at = omega arith in
    let second : l.at - 2 + 1 < length l.field = omega arith in
    let with_ones = set l.field (l.at - 2 + 1) (48 + l.rest % 10) in
    let first : l.at - 2 < length with_ones = simp length-set (omega arith) in
    let front : take (l.at - 2) l.field ≡ take (l.at - 2) c.args.field.now = sym (take-take (l.at - 2) l.at l.field (omega arith)) ∙ ap (take (l.at - 2)) l.invariant.before ∙ take-take (l.at - 2) l.at _ (omega arith) in
    let rest : (48 + l.rest / 10) ∷ (48 + l.rest % 10) ∷ drop l.at l.field ≡ decimal c.args.number = rw (decimal-pair l.rest (omega arith) (omega arith)) at l.invariant.written in
    rw c.put_pair-then-rest-ge10.ensures
    (sym (take-append-drop (l.at - 2) _) ∙ rw (take-set with_ones (l.at - 2) _, take-set-le (l.at - 2) l.field (l.at - 2 + 1) (48 + l.rest % 10) (omega arith), drop-set with_ones (l.at - 2) _ first, drop-set l.field (l.at - 2 + 1) _ second, back, front, rest) refl)

-- or the first digit

pub overflow_sub-at-else-rest-ge10 : goal.overflow_sub-at-else-rest-ge10
overflow_sub-at-else-rest-ge10 c = omega (arith, length-decimal-one c.loop-rest.rest)

pub bounds-field-at : goal.bounds-field-at
bounds-field-at c = omega (arith, length-decimal-one c.loop-rest.rest)

pub returns-else-rest-ge10-clause-start : goal.returns-else-rest-ge10-clause-start
returns-else-rest-ge10-clause-start c = omega (arith, length-decimal-one c.loop-rest.rest, c.loop-rest.invariant.start)

pub returns-else-rest-ge10-clause-written : goal.returns-else-rest-ge10-clause-written
returns-else-rest-ge10-clause-written c =
    let l = c.loop-rest in
    let long = length-decimal-one l.rest (omega arith) in
    let back : l.at - 1 + 1 ≡ l.at = omega arith in
    let inside : l.at - 1 < length l.field = omega arith in
    let front : take (l.at - 1) l.field ≡ take (l.at - 1) c.args.field.now = sym (take-take (l.at - 1) l.at l.field (omega arith)) ∙ ap (take (l.at - 1)) l.invariant.before ∙ take-take (l.at - 1) l.at _ (omega arith) in
    let rest : (48 + l.rest) ∷ drop l.at l.field ≡ decimal c.args.number = rw (decimal_digit l.rest (omega arith)) at l.invariant.written in
    sym (take-append-drop (l.at - 1) _) ∙ rw (take-set l.field (l.at - 1) _, drop-set l.field (l.at - 1) _ inside, back, front, rest) refl
