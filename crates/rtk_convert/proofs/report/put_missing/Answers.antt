use Rattle.std.proofs.Common.{◌≡◌, ◌∙◌, ◌++◌, ℕ, suc, false, true, List, [], ◌∷◌, length, refl, sym, ap, arith}
use Rattle.std.specs.Prelude.{◌==◌, codes}
use Rattle.std.proofs.lemmas.Bool.{eqb-true}
use Rattle.std.proofs.lemmas.List.{append-nil}
use Rattle.arrayvec.specs.ArrayVec.{array_vec_len}
use Rattle.rtk_convert.specs.ReportText.{missing_line}
use Rattle.rtk_convert.specs.Steps.LastLines.{missing_letters_by}
use Rattle.rtk_convert.proofs.JoinLemmas.{three}
use Rattle.rtk_convert.proofs.report.put_missing.Goals as goal

-- the line of some letters
line-of : (letters : List ℕ) → (length letters == 0) ≡ false → codes "no-message" ++ letters ++ 10 ∷ [] ≡ missing_line letters
line-of [] h = absurd cc
line-of (x ∷ letters) h = refl

-- that of none
line-none : (letters : List ℕ) → (length letters == 0) ≡ true → missing_line letters ≡ []
line-none [] h = refl
line-none (x ∷ letters) h = let q : suc (length letters) ≡ 0 = eqb-true (suc (length letters)) 0 h in absurd (omega arith)

pub put_letter-requires-2-clause-room : goal.put_letter-requires-2-clause-room
put_letter-requires-2-clause-room c =
    let start : array_vec_len c.new-letters.result ≡ 0 = ap length c.new-letters.ensures in
    omega (arith, c.put_letter.ensures.few)

pub put_letter-requires-3-clause-room : goal.put_letter-requires-3-clause-room
put_letter-requires-3-clause-room c =
    let start : array_vec_len c.new-letters.result ≡ 0 = ap length c.new-letters.ensures in
    omega (arith, c.put_letter.ensures.few, c.put_letter-2.ensures.few)

pub put_letter-requires-4-clause-room : goal.put_letter-requires-4-clause-room
put_letter-requires-4-clause-room c =
    let start : array_vec_len c.new-letters.result ≡ 0 = ap length c.new-letters.ensures in
    omega (arith, c.put_letter.ensures.few, c.put_letter-2.ensures.few, c.put_letter-3.ensures.few)

pub put_letter-requires-5-clause-room : goal.put_letter-requires-5-clause-room
put_letter-requires-5-clause-room c =
    let start : array_vec_len c.new-letters.result ≡ 0 = ap length c.new-letters.ensures in
    omega (arith, c.put_letter.ensures.few, c.put_letter-2.ensures.few, c.put_letter-3.ensures.few, c.put_letter-4.ensures.few)

pub put_letter-requires-6-clause-room : goal.put_letter-requires-6-clause-room
put_letter-requires-6-clause-room c =
    let start : array_vec_len c.new-letters.result ≡ 0 = ap length c.new-letters.ensures in
    omega (arith, c.put_letter.ensures.few, c.put_letter-2.ensures.few, c.put_letter-3.ensures.few, c.put_letter-4.ensures.few, c.put_letter-5.ensures.few)

pub put_letter-requires-7-clause-room : goal.put_letter-requires-7-clause-room
put_letter-requires-7-clause-room c =
    let start : array_vec_len c.new-letters.result ≡ 0 = ap length c.new-letters.ensures in
    omega (arith, c.put_letter.ensures.few, c.put_letter-2.ensures.few, c.put_letter-3.ensures.few, c.put_letter-4.ensures.few, c.put_letter-5.ensures.few, c.put_letter-6.ensures.few)

pub returns-then-is_empty : goal.returns-then-is_empty
returns-then-is_empty c =
    let all : c.put_letter-7.new.letters.items ≡ missing_letters_by c.args.setup.now c.args.systems =
    rw (c.put_letter-7.ensures.letters, c.put_letter-6.ensures.letters, c.put_letter-5.ensures.letters, c.put_letter-4.ensures.letters, c.put_letter-3.ensures.letters, c.put_letter-2.ensures.letters, c.put_letter.ensures.letters, c.new-letters.ensures) refl in
    sym (append-nil c.args.lines.now.items) ∙ ap (λ (t : List ℕ). c.args.lines.now.items ++ t)
    (sym (line-none c.put_letter-7.new.letters.items (sym c.is_empty.ensures ∙ c.if-is_empty.true)) ∙ ap missing_line all)

pub returns : goal.returns
returns c =
    let all : c.put_letter-7.new.letters.items ≡ missing_letters_by c.args.setup.now c.args.systems =
    rw (c.put_letter-7.ensures.letters, c.put_letter-6.ensures.letters, c.put_letter-5.ensures.letters, c.put_letter-4.ensures.letters, c.put_letter-3.ensures.letters, c.put_letter-2.ensures.letters, c.put_letter.ensures.letters, c.new-letters.ensures) refl in
    let line = line-of c.put_letter-7.new.letters.items (sym c.is_empty.ensures ∙ c.if-is_empty.false) ∙ ap missing_line all in
    rw (c.in_ok-push.ensures.items, c.in_ok-extend_from_slice-2.ensures.items, c.in_ok-extend_from_slice.ensures.items, c.as_slice.ensures.value)
    (three c.args.lines.now.items (codes "no-message") c.put_letter-7.new.letters.items (10 ∷ []))
    ∙ ap (λ (t : List ℕ). c.args.lines.now.items ++ t) line
