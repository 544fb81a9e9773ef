-- The codes of which satellites have no phase, one after another.
use Rattle.std.proofs.Common.{◌≡◌, ◌<◌, ◌+◌, ◌++◌, ℕ, Bool, false, true, cond, count_by, List, [], ◌∷◌, length, drop, get_or, Option, sym, ap, ◌∙◌, append_assoc}
use Rattle.std.specs.List.{range_with_len}
use Rattle.std.proofs.lemmas.List.{append-nil, drop_more}
use Rattle.rtk_obs.specs.declared.any_code.AnyCode.{AnyCode}
use Rattle.rtk_rinex.specs.Record.{EpochTableView}
use Rattle.rtk_quality.specs.Rows.{satellite_mark}
use Rattle.rtk_quality.specs.Never.{is_without_at, without_before, row_start, row_part, never_row, rows_from}
use Rattle.rtk_quality.proofs.ListLemmas.{count-more, and-then}

-- a test at one place more
pub counted : (p : ℕ → Bool) (i count now : ℕ) (is : Bool) → is ≡ p i → count ≡ count_by p (range_with_len 0 i) → now ≡ count + cond is 1 0
    → now ≡ count_by p (range_with_len 0 (i + 1))
counted p i count now is here was took =
    took ∙ ap (λ (n : ℕ). n + cond is 1 0) was ∙ ap (λ (b : Bool). count_by p (range_with_len 0 i) + cond b 1 0) here ∙ sym (count-more p i)

-- a satellite that has a phase of the code
pub part-none : (interval : Option ℕ) (es : List EpochTableView) (code : AnyCode) (at place : ℕ) (t : List ℕ) → is_without_at interval es at place ≡ false
    → t ≡ t ++ row_part interval es code at place
part-none interval es code at place t none =
    sym (append-nil t)
    ∙ sym (ap (λ (b : Bool). t ++ cond b (row_start code (without_before interval es at place) ++ 32 ∷ satellite_mark (place + 1)) []) none)

-- one that has none
pub part-some : (interval : Option ℕ) (es : List EpochTableView) (code : AnyCode) (at place count satellite : ℕ) (t0 t1 t2 t3 : List ℕ) → is_without_at interval es at place ≡ true
    → count ≡ without_before interval es at place → satellite ≡ place + 1
    → t1 ≡ t0 ++ row_start code count → t2 ≡ t1 ++ 32 ∷ [] → t3 ≡ t2 ++ satellite_mark satellite
    → t3 ≡ t0 ++ row_part interval es code at place
part-some interval es code at place count satellite t0 t1 t2 t3 some are number e1 e2 e3 =
    let start : List ℕ = row_start code (without_before interval es at place) in
    let mark : List ℕ = satellite_mark (place + 1) in
    and-then t0 t1 t3 start (32 ∷ mark) (e1 ∙ ap (λ (n : ℕ). t0 ++ row_start code n) are)
    (e3 ∙ ap (λ (n : ℕ). t2 ++ satellite_mark n) number ∙ ap (λ (t : List ℕ). t ++ mark) e2 ∙ append_assoc t1 (32 ∷ []) mark)
    ∙ sym (ap (λ (b : Bool). t0 ++ cond b (start ++ 32 ∷ mark) []) some)

-- the rows of one code more
pub rows-more : (most : ℕ) (interval : Option ℕ) (es : List EpochTableView) (i : ℕ) (codes : List AnyCode) (d : AnyCode) (all mid after : List ℕ) → i < length codes
    → all ≡ mid ++ rows_from most interval es i (drop i codes) → after ≡ mid ++ never_row most interval es i (get_or codes i d)
    → all ≡ after ++ rows_from most interval es (i + 1) (drop (i + 1) codes)
rows-more most interval es i codes d all mid after within so_far more =
    let c : AnyCode = get_or codes i d in
    let rest : List AnyCode = drop (i + 1) codes in
    so_far ∙ ap (λ (cs : List AnyCode). mid ++ rows_from most interval es i cs) (drop_more codes i d within)
    ∙ sym (append_assoc mid (never_row most interval es i c) (rows_from most interval es (i + 1) rest))
    ∙ ap (λ (t : List ℕ). t ++ rows_from most interval es (i + 1) rest) (sym more)
