use Rattle.std.proofs.Common.{◌≡◌, ◌-◌, ℕ, List, ◌++◌, length, take, drop, replicate, ap, sym, ◌∙◌, arith, length-append, append_assoc}
use Rattle.std.proofs.lemmas.List.{take_at, drop_at, append-nil}
use Rattle.rtk_rinex.specs.Record.{observation, observations_with_doppler, strength_digit, lli_digit, strength_value}
use Rattle.rtk_rinex.specs.declared.epoch_table.Observed.{Observed}
use Rattle.rtk_rinex.proofs.record_text.put_doppler_columns.Goals as goal

-- the columns after the second text
after-two : (old f g : List ℕ) → old ≡ replicate 64 32 → length f ≡ 16
    → take 16 (f ++ drop 16 old) ++ (g ++ drop 16 (drop 16 (f ++ drop 16 old))) ≡ f ++ (g ++ replicate 32 32)
after-two old f g blank l =
    ap (λ (b : List ℕ). take 16 (f ++ drop 16 b) ++ (g ++ drop 16 (drop 16 (f ++ drop 16 b)))) blank
    ∙ ap (λ (t : List ℕ). t ++ (g ++ drop 16 (drop 16 (f ++ replicate 48 32)))) (take_at f (replicate 48 32) 16 l)
    ∙ ap (λ (z : List ℕ). f ++ (g ++ drop 16 z)) (drop_at f (replicate 48 32) 16 l)

length-two : (f g : List ℕ) → length f ≡ 16 → length g ≡ 16 → length (f ++ (g ++ replicate 32 32)) - 32 ≡ 32
length-two f g l m = simp length-append (omega arith)

last-place : (f g : List ℕ) → length f ≡ 16 → length g ≡ 16 → drop 32 (f ++ (g ++ replicate 32 32)) ≡ replicate 32 32
last-place f g l m =
    let two : length (f ++ g) ≡ 32 = simp length-append (omega arith) in
    ap (drop 32) (sym (append_assoc f g (replicate 32 32))) ∙ drop_at (f ++ g) (replicate 32 32) 32 two

over-last : (f g h : List ℕ) (n : ℕ) → length f ≡ 16 → length g ≡ 16 → n ≡ 32
    → take 32 (f ++ (g ++ replicate 32 32)) ++ (h ++ drop n (drop 32 (f ++ (g ++ replicate 32 32)))) ≡ (f ++ g) ++ h
over-last f g h n l m e =
    let two : length (f ++ g) ≡ 32 = simp length-append (omega arith) in
    let front : take 32 (f ++ (g ++ replicate 32 32)) ≡ f ++ g = ap (take 32) (sym (append_assoc f g (replicate 32 32))) ∙ take_at (f ++ g) (replicate 32 32) 32 two in
    ap (λ (t : List ℕ). t ++ (h ++ drop n (drop 32 (f ++ (g ++ replicate 32 32))))) front
    ∙ ap (λ (z : List ℕ). (f ++ g) ++ (h ++ drop n z)) (last-place f g l m)
    ∙ ap (λ (k : ℕ). (f ++ g) ++ (h ++ drop k (replicate 32 32))) e
    ∙ ap (λ (t : List ℕ). (f ++ g) ++ t) (append-nil h)

are-columns : (o : Observed) (d k : ℕ) (f g h : List ℕ) → d ≡ strength_digit o.strength_millidbhz → k ≡ lli_digit o.slip o.half
    → f ≡ observation o.range_mm 32 d → g ≡ observation o.phase_millicycles k d
    → h ≡ observation o.doppler_millihertz 32 32 ++ observation (strength_value o.strength_millidbhz) 32 32 → (f ++ g) ++ h ≡ observations_with_doppler o
are-columns o d k f g h digit lock one two three =
    rw (one, two, three, digit, lock) (sym (append_assoc (observation o.range_mm 32 (strength_digit o.strength_millidbhz)
    ++ observation o.phase_millicycles (lli_digit o.slip o.half) (strength_digit o.strength_millidbhz)) (observation o.doppler_millihertz 32 32) (observation (strength_value o.strength_millidbhz) 32 32)))

pub put_observation-requires-2 : goal.put_observation-requires-2
put_observation-requires-2 c =
    let blank : drop 16 c.args.columns.now ≡ replicate 48 32 = ap (drop 16) c.requires.blank in
    record { blank = ap (take 16) (drop_at c.put_observation.new.field (drop 16 c.args.columns.now) 16 c.put_observation.ensures.len ∙ blank) }

pub put_last_columns-requires : goal.put_last_columns-requires
put_last_columns-requires c =
    let f = c.put_observation.new.field in
    let g = c.put_observation-2.new.field in
    let l = c.put_observation.ensures.len in
    let m = c.put_observation-2.ensures.len in
    let two = after-two c.args.columns.now f g c.requires.blank l in
    record { blank = ap (λ (b : List ℕ). take (length b - 32) (drop 32 b)) two ∙ ap (λ (n : ℕ). take n (drop 32 (f ++ (g ++ replicate 32 32)))) (length-two f g l m) ∙ ap (take 32) (last-place f g l m) }

pub returns : goal.returns
returns c =
    let f = c.put_observation.new.field in
    let g = c.put_observation-2.new.field in
    let h = c.put_last_columns.new.columns in
    let l = c.put_observation.ensures.len in
    let m = c.put_observation-2.ensures.len in
    let two = after-two c.args.columns.now f g c.requires.blank l in
    let whole = ap (λ (b : List ℕ). take 32 b ++ (h ++ drop (length b - 32) (drop 32 b))) two ∙ over-last f g h (length (f ++ (g ++ replicate 32 32)) - 32) l m (length-two f g l m) in
    whole ∙ are-columns c.args.observed.now _ _ f g h c.digit_of_strength-digit.ensures c.digit_of_lock-lock.ensures
    c.put_observation.ensures.value c.put_observation-2.ensures.value c.put_last_columns.ensures.value
