use Rattle.std.proofs.Common.{◌≡◌, ◌++◌, ◌∷◌, [], List, ℕ, length, decimal, take, drop, ap, refl, ◌∙◌, arith}
use Rattle.std.proofs.lemmas.Fmt.{length-decimal-le}
use Rattle.std.proofs.lemmas.List.{take_at, drop_at}
use Rattle.rtk_obs.specs.CivilText.{last_digits}
use Rattle.rtk_rinex.specs.Columns.{right}
use Rattle.rtk_rinex.proofs.ColumnsLemmas.{right-digits}
use Rattle.rtk_rinex.proofs.DigitsLemmas.{length-right}
use Rattle.rtk_rinex.proofs.EpochLemmas.{right-seconds}
use Rattle.rtk_rinex.proofs.record_text.put_seconds.Goals as goal

pub put_decimal-requires : goal.put_decimal-requires
put_decimal-requires c = rw (c.copy_from_slice.ensures.after, c.from.ensures) (length-decimal-le 3 c.args.time.second (omega arith) (omega arith) (omega arith))

-- after the first three columns
parts : (f g : List ℕ) → length f ≡ 3
    → take 3 (f ++ 32 ∷ 32 ∷ 32 ∷ 32 ∷ 48 ∷ 48 ∷ 48 ∷ 48 ∷ []) ++ (g ++ drop 4 (drop 3 (f ++ 32 ∷ 32 ∷ 32 ∷ 32 ∷ 48 ∷ 48 ∷ 48 ∷ 48 ∷ []))) ≡ f ++ (g ++ 48 ∷ 48 ∷ 48 ∷ 48 ∷ [])
parts f g l =
    let rest : List ℕ = 32 ∷ 32 ∷ 32 ∷ 32 ∷ 48 ∷ 48 ∷ 48 ∷ 48 ∷ [] in
    ap (λ (xs : List ℕ). xs ++ (g ++ drop 4 (drop 3 (f ++ rest)))) (take_at f rest 3 l) ∙ ap (λ (xs : List ℕ). f ++ (g ++ drop 4 xs)) (drop_at f rest 3 l)

pub returns : goal.returns
returns c =
    let t = c.args.time in
    let old = c.copy_from_slice.ensures.after in
    let start = rw (old, c.from.ensures) at c.put_decimal.ensures.start in
    let text : c.put_decimal.new.field ≡ right 3 (decimal t.second) =
    c.put_decimal.ensures.written ∙ (rw (old, c.from.ensures) (right-digits 3 c.put_decimal.result (decimal t.second) start)) in
    let size : length (right 3 (decimal t.second)) ≡ 3 = length-right 3 (decimal t.second) (length-decimal-le 3 t.second (omega arith) (omega arith) (omega arith)) in
    rw (c.put_point_and_three.ensures, c.from-2.ensures, text, old)
    (parts (right 3 (decimal t.second)) (46 ∷ last_digits 3 t.millisecond) size ∙ right-seconds _ t.second t.millisecond refl c.requires.second c.requires.millisecond)
