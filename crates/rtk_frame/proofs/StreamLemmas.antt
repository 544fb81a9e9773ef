-- Laws of the bytes that passed and of the counts, and the bytes of a source over memory.
use Rattle.std.proofs.Common.{◌≡◌, ◌≢◌, ℕ, ◌+◌, ◌≤◌, inl, inr, Bool, false, ◌==◌, ◌&&◌, List, [], ◌++◌, length, take, drop, replicate, Option, None, Some, refl, ap, append_assoc, sym, ◌∙◌, arith}
use Rattle.std.proofs.lemmas.List.{append-nil, replicate-append-replicate, length-replicate, ext_get_or, length-set, get_or-set_other}
use Rattle.std.proofs.lemmas.List.Sums.{sum_by-set}
use Rattle.std.proofs.Math.Seq.{take-add, take-append_seam}
use Rattle.std.proofs.lemmas.Grind.{common_steps, get_or-set_at}
use Rattle.std.proofs.lemmas.Bool.{cases_eq}
use Rattle.std.specs.Prelude.{slice_set, slice_index_or, sum_by, ◌<◌, Result}
use Rattle.rtk_frame.specs.Stream.{greatest_count, count_after, failures_after, with_more, CountRises, ReadsOne}

-- nothing more is no change
pub with_more-nil : (known : Option (List ℕ)) → with_more known [] ≡ known
with_more-nil None = refl
with_more-nil (Some bytes) = rw append-nil

-- more, and then more
pub with_more-with_more : (known : Option (List ℕ)) (more rest : List ℕ) → with_more (with_more known more) rest ≡ with_more known (more ++ rest)
with_more-with_more None more rest = refl
with_more-with_more (Some bytes) more rest = ap Some (append_assoc bytes more rest)

-- a count after one more call has risen
pub count_after-rises : (count : ℕ) → CountRises count (count_after count)
count_after-rises count = grind arith

-- a count that rose stays risen, whatever fails after
pub rises-on : (first second third : ℕ) → CountRises first second → second ≤ third → CountRises first third
rises-on first second third (inl below) h = inl (omega (arith, below, h))
rises-on first second third (inr full) h = inr (omega (arith, full, h))

-- the first bytes were taken, and then some of the bytes after them
pub with_more-take : (known : Option (List ℕ)) (i n : ℕ) (bytes : List ℕ) → with_more (with_more known (take i bytes)) (take n (drop i bytes)) ≡ with_more known (take (i + n) bytes)
with_more-take known i n bytes = rw (with_more-with_more, take-add)

-- a write that took some bytes is a good one
pub failures_after-some : (before n : ℕ) (b : Bool) → n ≢ 0 → failures_after before (n == 0 && b) ≡ before
failures_after-some before n b some = let e : (n == 0) ≡ false = grind arith in rw e refl

-- bytes were given, and no zeros yet
pub given-bytes : (i n z : ℕ) (bytes : List ℕ) → z ≡ 0 → take (i + n) bytes ++ replicate z 0 ≡ (take i bytes ++ replicate z 0) ++ take n (drop i bytes)
given-bytes i n z bytes none = rw none (simp append-nil (take-add i n bytes))

-- zeros were given after the bytes
pub given-zeros : (front : List ℕ) (z n : ℕ) → front ++ replicate (z + n) 0 ≡ (front ++ replicate z 0) ++ replicate n 0
given-zeros front z n = rw (← replicate-append-replicate {A = ℕ} z n 0, append_assoc)

pub take-front : (n : ℕ) (front rest : List ℕ) → length front ≡ n → take n (front ++ rest) ≡ front
take-front n front rest e = rw (← e) (take-append_seam front rest)

pub take-zeros : (n : ℕ) (buf rest : List ℕ) → n ≤ length buf → take n (replicate (length (take n buf)) 0 ++ rest) ≡ replicate n 0
take-zeros n buf rest h = let e : length (take n buf) ≡ n = grind (arith, common_steps) in rw e (take-front n (replicate n 0) rest (length-replicate n 0))

-- after a read of one of many sources, the sources are those before the read, but for the one that
-- was read
pub sources-ReadsOne : {R E : Type 0} (given : R → Option (List ℕ)) (failures calls : R → ℕ) (before after : List R) (link : ℕ) (result : Result ℕ E) (buf : List ℕ) (none : R)
    → link < length before → ReadsOne given failures calls before after link result buf
    → after ≡ slice_set before link (slice_index_or after link none)
sources-ReadsOne given failures calls before after link result buf none within read =
    let one = slice_index_or after link none in
    ext_get_or none after (slice_set before link one) (read.as_many ∙ sym (length-set before link one)) (
    λ k _. elim (cases_eq k link) [
      | inl same ↦ ap (λ i. slice_index_or after i none) same ∙ sym (get_or-set_at before link k one none same within)
      | inr other ↦ read.others k none other ∙ sym (get_or-set_other before link k one none other)
    ]
    )

-- then the calls of all sources together rose as the one count did
pub sum_calls-ReadsOne : {R E : Type 0} (given : R → Option (List ℕ)) (failures calls : R → ℕ) (before after : List R) (link : ℕ) (result : Result ℕ E) (buf : List ℕ) (none : R)
    → link < length before → ReadsOne given failures calls before after link result buf
    → sum_by calls after + calls (slice_index_or before link none) ≡ sum_by calls before + count_after (calls (slice_index_or before link none))
sum_calls-ReadsOne given failures calls before after link result buf none within read =
    let one = slice_index_or after link none in
    ap (λ sources. sum_by calls sources + calls (slice_index_or before link none)) (sources-ReadsOne given failures calls before after link result buf none within read)
    ∙ sum_by-set calls before link one none within ∙ ap (λ count. sum_by calls before + count) (read.called none)

-- so they rose by one at most, and by one if that count was not at its greatest value
pub sum_calls-at_most : {R E : Type 0} (given : R → Option (List ℕ)) (failures calls : R → ℕ) (before after : List R) (link : ℕ) (result : Result ℕ E) (buf : List ℕ) (none : R)
    → link < length before → ReadsOne given failures calls before after link result buf
    → sum_by calls after ≤ sum_by calls before + 1
sum_calls-at_most given failures calls before after link result buf none within read =
    let e = sum_calls-ReadsOne given failures calls before after link result buf none within read in omega (arith, e)

pub sum_calls-one : {R E : Type 0} (given : R → Option (List ℕ)) (failures calls : R → ℕ) (before after : List R) (link : ℕ) (result : Result ℕ E) (buf : List ℕ) (none : R)
    → link < length before → ReadsOne given failures calls before after link result buf
    → calls (slice_index_or before link none) < greatest_count → sum_by calls after ≡ sum_by calls before + 1
sum_calls-one given failures calls before after link result buf none within read below =
    let e = sum_calls-ReadsOne given failures calls before after link result buf none within read in omega (arith, e, below)
