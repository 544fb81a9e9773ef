use Rattle.std.proofs.Common.{◌≡◌, ◌-◌, ℕ, List, ◌++◌, length, take, drop, replicate, ap, sym, ◌∙◌, refl, arith, append_assoc, Option, ℤ}
use Rattle.std.proofs.lemmas.List.{drop_at, length-append}
use Rattle.rtk_rinex.specs.Record.{observation, observations, strength_digit, lli_digit, strength_value}
use Rattle.rtk_rinex.specs.declared.epoch_table.Observed.{Observed}
use Rattle.rtk_rinex.proofs.ColumnsLemmas.{over-second, over-third, third-place}
use Rattle.rtk_rinex.proofs.record_text.put_columns.Goals as goal

-- the columns after the second text
after-two : (old f g : List ℕ) → old ≡ replicate 48 32 → length f ≡ 16 → take 16 (f ++ drop 16 old) ++ (g ++ drop 16 (drop 16 (f ++ drop 16 old))) ≡ f ++ (g ++ replicate 16 32)
after-two old f g blank l = ap (λ (b : List ℕ). take 16 (f ++ drop 16 b) ++ (g ++ drop 16 (drop 16 (f ++ drop 16 b)))) blank ∙ over-second f g l

length-two : (f g : List ℕ) → length f ≡ 16 → length g ≡ 16 → length (f ++ (g ++ replicate 16 32)) - 32 ≡ 16
length-two f g l m = simp length-append (omega arith)

are-columns : (o : Observed) (d k : ℕ) (s : Option ℤ) (f g h : List ℕ) → d ≡ strength_digit o.strength_millidbhz → k ≡ lli_digit o.slip o.half → s ≡ strength_value o.strength_millidbhz
    → f ≡ observation o.range_mm 32 d → g ≡ observation o.phase_millicycles k d → h ≡ observation s 32 32 → f ++ (g ++ h) ≡ observations o
are-columns o d k s f g h digit lock strength one two three = sym (append_assoc f g h) ∙ rw (one, two, three, digit, lock, strength) refl

pub put_observation-requires-2 : goal.put_observation-requires-2
put_observation-requires-2 c =
    let blank : drop 16 c.args.columns.now ≡ replicate 32 32 = ap (drop 16) c.requires.blank in
    record { blank = ap (take 16) (drop_at c.put_observation.new.field (drop 16 c.args.columns.now) 16 c.put_observation.ensures.len ∙ blank) }

pub put_strength-requires : goal.put_strength-requires
put_strength-requires c =
    let f = c.put_observation.new.field in
    let g = c.put_observation-2.new.field in
    let l = c.put_observation.ensures.len in
    let m = c.put_observation-2.ensures.len in
    let two = after-two c.args.columns.now f g c.requires.blank l in
    record { blank = ap (λ (b : List ℕ). take (length b - 32) (drop 32 b)) two ∙ ap (λ (n : ℕ). take n (drop 32 (f ++ (g ++ replicate 16 32)))) (length-two f g l m) ∙ ap (take 16) (third-place f g l m) }

pub returns : goal.returns
returns c =
    let f = c.put_observation.new.field in
    let g = c.put_observation-2.new.field in
    let h = c.put_strength.new.field in
    let l = c.put_observation.ensures.len in
    let m = c.put_observation-2.ensures.len in
    let two = after-two c.args.columns.now f g c.requires.blank l in
    let whole = ap (λ (b : List ℕ). take 32 b ++ (h ++ drop (length b - 32) (drop 32 b))) two ∙ over-third f g h (length (f ++ (g ++ replicate 16 32)) - 32) l m (length-two f g l m) in
    whole ∙ are-columns c.args.observed.now _ _ _ f g h c.digit_of_strength-digit.ensures c.digit_of_lock-lock.ensures refl
    c.put_observation.ensures.value c.put_observation-2.ensures.value c.put_strength.ensures.value
