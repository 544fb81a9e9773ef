use Rattle.std.proofs.Common.{◌≡◌, ℕ, ◌+◌, ◌-◌, ◌≤◌, ◌++◌, List, length, replicate, take, drop, ap, arith, sym, ◌∙◌, append_assoc, length-append}
use Rattle.std.proofs.lemmas.List.{append-nil, take_at, drop_at, drop_all, drop-drop, length-take, length-drop, length-replicate, replicate-append-replicate}
use Rattle.rtk_rinex.proofs.record_lines.clear.Goals as goal

-- one more part is blank
blanked : (old now part : List ℕ) (at n : ℕ) → now ≡ replicate at 32 ++ drop at old → part ≡ replicate n 32
    → take at now ++ (part ++ drop n (drop at now)) ≡ replicate (at + n) 32 ++ drop (at + n) old
blanked old now part at n is blank =
    let size : length (replicate {A = ℕ} at 32) ≡ at = length-replicate {A = ℕ} at 32 in
    let front : take at now ≡ replicate at 32 = ap (take at) is ∙ take_at (replicate at 32) (drop at old) at size in
    let rest : drop at now ≡ drop at old = ap (drop at) is ∙ drop_at (replicate at 32) (drop at old) at size in
    ap (λ (xs : List ℕ). xs ++ (part ++ drop n (drop at now))) front
    ∙ ap (λ (xs : List ℕ). replicate at 32 ++ (xs ++ drop n (drop at now))) blank
    ∙ ap (λ (xs : List ℕ). replicate at 32 ++ (replicate n 32 ++ drop n xs)) rest
    ∙ ap (λ (xs : List ℕ). replicate at 32 ++ (replicate n 32 ++ xs)) (drop-drop n at old)
    ∙ sym (append_assoc (replicate at 32) (replicate n 32) (drop (at + n) old))
    ∙ ap (λ (xs : List ℕ). xs ++ drop (at + n) old) (replicate-append-replicate {A = ℕ} at n 32)

same-length : (old now : List ℕ) (at : ℕ) → now ≡ replicate at 32 ++ drop at old → at ≤ length old → length now ≡ length old
same-length old now at is within =
    ap length is ∙ omega (arith, length-append (replicate {A = ℕ} at 32) (drop at old), length-replicate {A = ℕ} at 32, length-drop at old)

pub loop-at-preserved : goal.loop-at-preserved
loop-at-preserved c =
    let at = c.loop-at.at in
    let old = c.args.part.now in
    let now = c.loop-at.part in
    let i = c.loop-at.invariant in
    let k = at + 2000 - at in
    let same : k ≡ 2000 = omega arith in
    let long : length now ≡ length old = same-length old now at i.blank i.within in
    let size : length (take k (drop at now)) ≡ 2000 = omega (arith, length-take k (drop at now), length-drop at now, same, c.loop-at-test.true) in
    record {
      blank = ap (λ (n : ℕ). take at now ++ (c.fill.new.self ++ drop n (drop at now))) same
          ∙ blanked old now c.fill.new.self at 2000 i.blank (c.fill.ensures.after (λ y e. e) ∙ ap (λ (n : ℕ). replicate n 32) size);
      within = omega (arith, long, c.loop-at-test.true);
    }

pub returns : goal.returns
returns c =
    let at = c.loop-at.at in
    let old = c.args.part.now in
    let now = c.loop-at.part in
    let i = c.loop-at.invariant in
    let k = length now - at in
    let long : length now ≡ length old = same-length old now at i.blank i.within in
    let size : length (take k (drop at now)) ≡ k = omega (arith, length-take k (drop at now), length-drop at now) in
    let all : at + k ≡ length old = omega (arith, long, i.within) in
    blanked old now c.fill-2.new.self at k i.blank (c.fill-2.ensures.after (λ y e. e) ∙ ap (λ (n : ℕ). replicate n 32) size)
    ∙ ap (λ (n : ℕ). replicate n 32 ++ drop n old) all
    ∙ ap (λ (xs : List ℕ). replicate (length old) 32 ++ xs) (drop_all (length old) old (omega arith))
    ∙ append-nil (replicate (length old) 32)
