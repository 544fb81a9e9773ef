use Rattle.std.proofs.Common.{◌≡◌, ◌-◌, ℕ, List, ◌++◌, length, take, drop, replicate, ap, ◌∙◌, arith, refl, length-append}
use Rattle.std.proofs.lemmas.List.{take_at, drop_at, append-nil}
use Rattle.rtk_rinex.proofs.record_text.put_last_columns.Goals as goal

-- the columns after the first text
after-one : (old f : List ℕ) → old ≡ replicate 32 32 → f ++ drop 16 old ≡ f ++ replicate 16 32
after-one old f blank = ap (λ (b : List ℕ). f ++ drop 16 b) blank

length-one : (f : List ℕ) → length f ≡ 16 → length (f ++ replicate 16 32) - 16 ≡ 16
length-one f l = simp length-append (omega arith)

-- the two texts
both : (f h : List ℕ) (n : ℕ) → length f ≡ 16 → n ≡ 16 → take 16 (f ++ replicate 16 32) ++ (h ++ drop n (drop 16 (f ++ replicate 16 32))) ≡ f ++ h
both f h n l e =
    ap (λ (t : List ℕ). t ++ (h ++ drop n (drop 16 (f ++ replicate 16 32)))) (take_at f (replicate 16 32) 16 l)
    ∙ ap (λ (z : List ℕ). f ++ (h ++ drop n z)) (drop_at f (replicate 16 32) 16 l)
    ∙ ap (λ (k : ℕ). f ++ (h ++ drop k (replicate 16 32))) e
    ∙ ap (λ (t : List ℕ). f ++ t) (append-nil h)

pub put_strength-requires : goal.put_strength-requires
put_strength-requires c =
    let f = c.put_doppler.new.field in
    let l = c.put_doppler.ensures.len in
    let one = after-one c.args.columns.now f c.requires.blank in
    record { blank = ap (λ (b : List ℕ). take (length b - 16) (drop 16 b)) one ∙ ap (λ (n : ℕ). take n (drop 16 (f ++ replicate 16 32))) (length-one f l) ∙ ap (take 16) (drop_at f (replicate 16 32) 16 l) }

pub returns-clause-value : goal.returns-clause-value
returns-clause-value c =
    let f = c.put_doppler.new.field in
    let h = c.put_strength.new.field in
    let l = c.put_doppler.ensures.len in
    let one = after-one c.args.columns.now f c.requires.blank in
    ap (λ (b : List ℕ). take 16 b ++ (h ++ drop (length b - 16) (drop 16 b))) one ∙ both f h (length (f ++ replicate 16 32) - 16) l (length-one f l)
    ∙ rw (c.put_doppler.ensures.value, c.put_strength.ensures.value) refl
