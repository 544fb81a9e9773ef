-- From what a run says of its sources and sinks to the bytes of the readers and writers behind them.
use Rattle.std.proofs.Common.{◌≡◌, ℕ, zero, suc, ◌-◌, ◌<◌, Bool, true, IsTrue, List, [], ◌∷◌, ◌++◌, length, take, drop, get_or, map, Option, None, Some, Result, Ok, Err, IfOk, IsErrOf, refl, sym, ap, ◌∙◌, subst, arith, append-nil, take-append-drop}
use Rattle.std.proofs.lemmas.List.{map_push, length-map, get_or-map}
use Rattle.std.proofs.Math.Nat.{sub_self}
use Rattle.std.specs.Io.Buffered.{writer_contents}
use Rattle.std.specs.Io.KnownBytes.{Keeps}
use Rattle.std.specs.declared.io.buffered.BufWriter.{BufWriter}
use Rattle.rtk_frame.specs.Stream.{with_more}
use Rattle.rtk_commands.specs.Steps.ReadLimits.{most_reads}
use Rattle.rtk_commands.specs.Passed.{given_of, IsLeft, taken_of}
use Rattle.rtk_commands.specs.declared.resuming.Resumed.{Resumed}
use Rattle.rtk_setup.specs.declared.counts.Counts.{Counts}
use Rattle.rtk_convert.specs.declared.fault.ConvertFault.{ConvertFault}
use Rattle.rtk_convert.specs.declared.fault.ConvertFault.TheVariants.{Read as ReadFailed, Endless}
use Rattle.rtk_convert.specs.FileOfArrivals.{kept_file, file_so_far}
use Rattle.rtk_convert.specs.Finish.{report_of}
use Rattle.rtk_convert.specs.FrameClass.{arrivals}
use Rattle.rtk_convert.specs.Headline.{has_ended, ComeBy}
use Rattle.rtk_convert.specs.Kept.{KeepsInOrder, RunKeeps}
use Rattle.rtk_convert.specs.History.{History}
use Rattle.rtk_convert.specs.ReadHistory.{Read, IsHistoryOf, Gave, bytes_of}
use Rattle.rtk_convert.specs.ReadSteps.{HasRead}
use Rattle.rtk_convert.specs.Report.{lines}
use Rattle.rtk_convert.specs.Run.{FailsReading, StaysOpen}
use Rattle.rtk_setup.specs.Setup.{SetupView}
use Rattle.rtk_convert.specs.Writing.{Written, written}
use Rattle.rtk_cli.specs.ConvertsBytes.{KeepsBytes, EndsAtRead, ConvertsFirstBytes}
use Rattle.rtk_cli.specs.Steps.Links.{bytes_had, AreLinksOf}

-- ---- links that are made one after another

-- what holds of each element by its place holds after one more
at-push : {S : Type 0} (P : ℕ → S → Type 0) (links : List S) (s : S) → ((k : ℕ) (none : S) → k < length links → P k (get_or links k none)) → P (length links) s
    → (k : ℕ) (none : S) → k < length (links ++ s ∷ []) → P k (get_or (links ++ s ∷ []) k none)
at-push P [] s each last zero none within = last
at-push P [] s each last (suc k) none within = absurd (omega (arith, within))
at-push P (x ∷ links) s each last zero none within = each zero none (omega arith)
at-push {S} P (x ∷ links) s each last (suc k) none within =
    at-push (λ (n : ℕ). P (suc n)) links s (λ (n : ℕ) (d : S) (w : n < length links). each (suc n) d (omega (arith, w))) last k none (omega (arith, within))

pub one-more-link : {S R : Type 0} {number : S → ℕ} {inner : S → R} {links : List S} {readers : List R} (s : S) (r : R)
    → AreLinksOf links readers number inner → number s ≡ length links → inner s ≡ r → AreLinksOf (links ++ s ∷ []) (readers ++ r ∷ []) number inner
one-more-link {S} {R} {number} {inner} {links} {readers} s r are numbered over = record {
  over = map_push inner links s ∙ ap (λ (l : List R). l ++ inner s ∷ []) are.over ∙ ap (λ (x : R). readers ++ x ∷ []) over;
  numbers = at-push (λ (n : ℕ) (x : S). number x ≡ n) links s are.numbers numbered;
}

-- ---- what the links gave

within-some : {A : Type 0} (xs : List (Option A)) (k : ℕ) (x : A) → get_or xs k None ≡ Some x → k < length xs
within-some [] k x e = absurd (cc)
within-some (y ∷ xs) zero x e = omega arith
within-some (y ∷ xs) (suc k) x e = let w : k < length xs = within-some xs k x e in omega (arith, w)

element-at : {S : Type 0} (xs : List S) (k : ℕ) → k < length xs → S
element-at [] k within = absurd (omega (arith, within))
element-at (x ∷ xs) k within = x

given-first : (k : ℕ) (text : List ℕ) → given_of k (Some text) (Some text) ≡ Some (k ∷ [])
given-first k text = ap (λ (n : ℕ). Some (k ∷ take n text)) (sub_self (length text))

-- a reader gave a first part of what it had; its number tells which one it is
gave-part : (m k : ℕ) (all left : Option (List ℕ)) (bytes : List ℕ) → given_of m all left ≡ Some (k ∷ bytes)
    → (m ≡ k) × ((whole : List ℕ) × (rest : List ℕ) × (all ≡ Some whole) × (whole ≡ bytes ++ rest))
gave-part m k None left bytes e = absurd (cc)
gave-part m k (Some a) None bytes e = absurd (cc)
gave-part m k (Some a) (Some l) bytes e =
    let n : ℕ = length a - length l in
    let given : List ℕ = take n a in
    let is : Some (m ∷ given) ≡ Some (k ∷ bytes) = e in
    let number : m ≡ k = cc in
    let same : given ≡ bytes = cc in
    (number, (a, drop n a, refl, sym (take-append-drop n a) ∙ ap (λ (x : List ℕ). x ++ drop n a) same))

-- and at its end all
gave-all : (m k : ℕ) (all left : Option (List ℕ)) (bytes : List ℕ) → given_of m all left ≡ Some (k ∷ bytes) → IsLeft all left true → (m ≡ k) × (all ≡ Some bytes)
gave-all m k None left bytes e is = absurd (cc)
gave-all m k (Some a) None bytes e is = absurd is
gave-all m k (Some a) (Some l) bytes gave is =
    let given : List ℕ = take (length a - length l) a in
    let e : Some (m ∷ given) ≡ Some (k ∷ bytes) = gave in
    let number : m ≡ k = cc in
    let same : given ≡ bytes = cc in
    (number, ap Some (is.0 ∙ ap (λ (x : List ℕ). given ++ x) (is.1 refl) ∙ append-nil given ∙ same))

as-many : {S R : Type 0} {number : S → ℕ} {inner : S → R} {links : List S} {readers : List R} (remaining : R → Option (List ℕ))
    → AreLinksOf links readers number inner → length links ≡ length (map remaining readers)
as-many {S} {R} {number} {inner} {links} {readers} remaining are = sym (length-map links inner) ∙ ap length are.over ∙ sym (length-map readers remaining)

had-at : {S R : Type 0} {number : S → ℕ} {inner : S → R} {links : List S} {readers : List R} (remaining : R → Option (List ℕ)) (k : ℕ) (none : S)
    → AreLinksOf links readers number inner → k < length links → bytes_had remaining readers k ≡ remaining (inner (get_or links k none))
had-at {S} {R} {number} {inner} {links} {readers} remaining k none are within =
    ap (λ (l : List R). bytes_had remaining l k) (sym are.over)
    ∙ get_or-map remaining (map inner links) k (inner none) None (subst (λ (n : ℕ). k < n) (sym (length-map links inner)) within)
    ∙ ap remaining (get_or-map inner links k none (inner none) within)

abbrev given_by : {S R : Type 0} → (S → ℕ) → (S → R) → (R → Option (List ℕ)) → (ℕ → Option (List ℕ)) → S → Option (List ℕ)
given_by number inner remaining had s = given_of (number s) (had (number s)) (remaining (inner s))

abbrev IsDone : {S R : Type 0} → (S → ℕ) → (S → R) → (R → Option (List ℕ)) → (ℕ → Option (List ℕ)) → S → Type 0
IsDone number inner remaining had s = IsLeft (had (number s)) (remaining (inner s)) true

-- what the reads say that a reader gave, where its bytes are known
pub record Given {S : Type 0} (given : S → Option (List ℕ)) (had : ℕ → Option (List ℕ)) (after : List S) (k : ℕ) (text bytes : List ℕ) : Type 0 where
  pub none : S
  pub within : k < length after
  pub is_had : had k ≡ Some text
  pub gave : given (get_or after k none) ≡ Some (k ∷ bytes)

gave-at : {S R : Type 0} {number : S → ℕ} {inner : S → R} {before : List S} {readers : List R} (remaining : R → Option (List ℕ)) (had : ℕ → Option (List ℕ)) (after : List S) (reads : List Read)
    → had ≡ bytes_had remaining readers → AreLinksOf before readers number inner → Gave (given_by number inner remaining had) before after reads
    → (k : ℕ) (text : List ℕ) → get_or (map remaining readers) k None ≡ Some text → Given (given_by number inner remaining had) had after k text (bytes_of k reads)
gave-at {S} {R} {number} {inner} {before} {readers} remaining had after reads is-had are gave k text some =
    let within : k < length before = subst (λ (n : ℕ). k < n) (sym (as-many remaining are)) (within-some (map remaining readers) k text some) in
    let none : S = element-at before k within in
    let first : S = get_or before k none in
    let left : remaining (inner first) ≡ Some text = sym (had-at remaining k none are within) ∙ some in
    let had-k : had k ≡ Some text = ap (λ (h : ℕ → Option (List ℕ)). h k) is-had ∙ some in
    let start : given_by number inner remaining had first ≡ Some (k ∷ []) =
    ap (λ (n : ℕ). given_of n (had n) (remaining (inner first))) (are.numbers k none within)
    ∙ ap (λ (h : Option (List ℕ)). given_of k h (remaining (inner first))) had-k
    ∙ ap (given_of k (Some text)) left ∙ given-first k text in
    record {
      none = none;
      within = subst (λ (n : ℕ). k < n) (sym gave.as_many) within;
      is_had = had-k;
      gave = gave.bytes k none within ∙ ap (λ (o : Option (List ℕ)). with_more o (bytes_of k reads)) start;
    }

all-bytes : {S R : Type 0} {number : S → ℕ} {inner : S → R} {before : List S} {readers : List R} (remaining : R → Option (List ℕ)) (had : ℕ → Option (List ℕ)) (after : List S) (reads : List Read)
    → had ≡ bytes_had remaining readers → AreLinksOf before readers number inner → Gave (given_by number inner remaining had) before after reads
    → ((k : ℕ) (none : S) → k < length after → IsDone number inner remaining had (get_or after k none))
    → (k : ℕ) (text : List ℕ) → get_or (map remaining readers) k None ≡ Some text → bytes_of k reads ≡ text
all-bytes {S} {R} {number} {inner} {before} {readers} remaining had after reads is-had are gave done k text some =
    let g = gave-at remaining had after reads is-had are gave k text some in
    let last : S = get_or after k g.none in
    let all = gave-all (number last) k (had (number last)) (remaining (inner last)) (bytes_of k reads) g.gave (done k g.none g.within) in
    let same : Some (bytes_of k reads) ≡ Some text = sym all.1 ∙ ap had all.0 ∙ g.is_had in
    cc

first-bytes : {S R : Type 0} {number : S → ℕ} {inner : S → R} {before : List S} {readers : List R} (remaining : R → Option (List ℕ)) (had : ℕ → Option (List ℕ)) (after : List S) (reads : List Read)
    → had ≡ bytes_had remaining readers → AreLinksOf before readers number inner → Gave (given_by number inner remaining had) before after reads
    → (k : ℕ) (text : List ℕ) → get_or (map remaining readers) k None ≡ Some text → (rest : List ℕ) × (text ≡ bytes_of k reads ++ rest)
first-bytes {S} {R} {number} {inner} {before} {readers} remaining had after reads is-had are gave k text some =
    let g = gave-at remaining had after reads is-had are gave k text some in
    let last : S = get_or after k g.none in
    let part = gave-part (number last) k (had (number last)) (remaining (inner last)) (bytes_of k reads) g.gave in
    let same : Some text ≡ Some part.1.0 = sym g.is_had ∙ ap had (sym part.0) ∙ part.1.2 in
    let is : text ≡ part.1.0 = cc in
    (part.1.1, is ∙ part.1.3)

-- the promise of a run and the rest, by the bytes of the readers
keeps-bytes : {S R : Type 0} {number : S → ℕ} {inner : S → R} {before : List S} {readers : List R} (remaining : R → Option (List ℕ)) (had : ℕ → Option (List ℕ))
    (calls : S → ℕ) (is_at_end : S → Type 0) (s : SetupView) (after : List S) (counts : Counts) (old new : Written)
    → had ≡ bytes_had remaining readers → AreLinksOf before readers number inner → ((x : S) → is_at_end x → IsDone number inner remaining had x)
    → RunKeeps (given_by number inner remaining had) calls is_at_end s before after counts old new → KeepsBytes s (map remaining readers) counts old new
keeps-bytes {S} {R} {number} {inner} {before} {readers} remaining had calls is_at_end s after counts old new is-had are done run =
    let many : length before ≡ length (map remaining readers) = as-many remaining are in
    record {
      promise = record {
        reads = run.promise.reads;
        came = run.promise.came;
        all_bytes = all-bytes remaining had after run.promise.reads is-had are run.promise.gave
            (λ (k : ℕ) (none : S) (within : k < length after). done (get_or after k none) (run.promise.to_their_ends k none within));
        of_all_pieces = subst (λ (n : ℕ). ComeBy s n run.promise.reads run.promise.came) many run.promise.of_all_pieces;
        all_ended = subst (λ (n : ℕ). (link : ℕ) → link < n → has_ended link run.promise.reads ≡ true) many run.promise.all_ended;
        headline = run.promise.headline;
      };
      rest = subst (λ (n : ℕ). KeepsInOrder s n run.promise.reads run.promise.came counts old new) many run.rest;
    }

-- ---- what the writers hold

-- before its first call a sink has taken what its writer holds
pub taken-first : (held now : Option (List ℕ)) → Keeps held now → taken_of held now ≡ held
taken-first None now kept = refl
taken-first (Some x) None kept = absurd kept
taken-first (Some x) (Some y) kept = ap Some kept

-- what a sink took its writer holds at the end, once all that was gathered is handed on
taken-last : (first held now last : Option (List ℕ)) (text : List ℕ) → taken_of held now ≡ with_more first text → Keeps now last → taken_of held now ≡ taken_of first last
taken-last None held now last text taken kept = taken
taken-last (Some x) None now last text taken kept = absurd (cc)
taken-last (Some x) (Some h) None last text taken kept = absurd (cc)
taken-last (Some x) (Some h) (Some n) None text taken kept = absurd kept
taken-last (Some x) (Some h) (Some n) (Some l) text taken kept = ap Some (sym kept)

-- ---- the whole of it: what is said of the sinks is said of the writers behind them

-- what is known of a sink over a writer: what it took before and after, and what the writer holds in
-- the end
pub record Behind (held : ℕ → Option (List ℕ)) (first old new last : Option (List ℕ)) (is_out : Bool) : Type 0 where
  pub at : ℕ
  pub now : Option (List ℕ)
  pub is_old : old ≡ first
  pub is_new : new ≡ taken_of (held at) now
  pub out : IsTrue is_out → Keeps now last

is-held : {held : ℕ → Option (List ℕ)} {first old new last : Option (List ℕ)} {is_out : Bool} (text : List ℕ)
    → Behind held first old new last is_out → IsTrue is_out → new ≡ with_more old text → new ≡ taken_of first last
is-held {held} {first} {old} {new} {last} text b is-out took =
    b.is_new ∙ taken-last first (held b.at) b.now last text (sym b.is_new ∙ took ∙ ap (λ (o : Option (List ℕ)). with_more o text) b.is_old) (b.out is-out)

on-writers : (P : Written → Written → Type 0) {held : ℕ → Option (List ℕ)} {first old new last first' old' new' last' : Option (List ℕ)} {is_out : Bool} (text text' : List ℕ)
    → Behind held first old new last is_out → Behind held first' old' new' last' is_out → IsTrue is_out → new ≡ with_more old text → new' ≡ with_more old' text'
    → P (written old old') (written new new') → P (written first first') (written (taken_of first last) (taken_of first' last'))
on-writers P {held} {first} {old} {new} {last} {first'} {old'} {new'} {last'} text text' b b' is-out took took' p =
    let before : written old old' ≡ written first first' =
    ap (λ (o : Option (List ℕ)). written o old') b.is_old ∙ ap (λ (o : Option (List ℕ)). written first o) b'.is_old in
    let after : written new new' ≡ written (taken_of first last) (taken_of first' last') =
    ap (λ (o : Option (List ℕ)). written o new') (is-held text b is-out took) ∙ ap (λ (o : Option (List ℕ)). written (taken_of first last) o) (is-held text' b' is-out took') in
    subst (λ (w : Written). P (written first first') w) after (subst (λ (w : Written). P w (written new new')) before p)

-- ---- a sink over a writer, as a function gets it

-- the bytes that a writer holds, and those that are gathered for it
abbrev pub gathered : {W A : Type 0} → (W → Option (List ℕ)) → BufWriter (Resumed W) A → Option (List ℕ)
gathered {W} contents writer = writer_contents (λ (r : Resumed W). contents r.inner) writer

pub behind : (held : ℕ → Option (List ℕ)) (number at place : ℕ) (before now first last : Option (List ℕ)) (is_out : Bool)
    → number ≡ place → Keeps (held place) before → held place ≡ first → (IsTrue is_out → Keeps now last)
    → Behind held first (taken_of (held number) before) (taken_of (held at) now) last is_out
behind held number at place before now first last is_out is-number kept is-first out = record {
  at = at;
  now = now;
  is_old = ap (λ (n : ℕ). taken_of (held n) before) is-number ∙ taken-first (held place) before kept ∙ is-first;
  is_new = refl;
  out = out;
}

-- ---- a run that is done

at-done : {S R : Type 0} {number : S → ℕ} {inner : S → R} {before : List S} {readers : List R} (remaining : R → Option (List ℕ)) (had : ℕ → Option (List ℕ)) {held : ℕ → Option (List ℕ)}
    (calls : S → ℕ) (is_at_end : S → Type 0) (s : SetupView) (after : List S) {first old new last first' old' new' last' : Option (List ℕ)} {is_out : Bool} (done : Result Counts ConvertFault)
    → had ≡ bytes_had remaining readers → AreLinksOf before readers number inner → ((x : S) → is_at_end x → IsDone number inner remaining had x)
    → Behind held first old new last is_out → Behind held first' old' new' last' is_out
    → IfOk done (λ counts. RunKeeps (given_by number inner remaining had) calls is_at_end s before after counts (written old old') (written new new'))
    → IfOk done (λ counts. IsTrue is_out → KeepsBytes s (map remaining readers) counts (written first first') (written (taken_of first last) (taken_of first' last')))
at-done remaining had calls is_at_end s after (Err fault) is-had are ends b b' run = tt
at-done {S} {R} {number} {inner} {before} {readers} remaining had {held} calls is_at_end s after {first} {old} {new} {last} {first'} {old'} {new'} (Ok counts) is-had are ends b b' run =
    let keeps : KeepsBytes s (map remaining readers) counts (written old old') (written new new') =
    keeps-bytes remaining had calls is_at_end s after counts (written old old') (written new new') is-had are ends run in
    λ is-out. on-writers (λ (w v : Written). KeepsBytes s (map remaining readers) counts w v) (kept_file s (arrivals keeps.rest.history.found)) (report_of s keeps.rest.history.found)
    b b' is-out keeps.rest.kept.out keeps.rest.kept.log keeps

pub done-by-bytes : {S R : Type 0} {number : S → ℕ} {inner : S → R} {before : List S} {readers : List R} (remaining : R → Option (List ℕ)) (had : ℕ → Option (List ℕ)) {held : ℕ → Option (List ℕ)}
    (calls : S → ℕ) (is_at_end : S → Type 0) (s : SetupView) (after : List S) {first old new last first' old' new' last' : Option (List ℕ)} {is_out : Bool} (done final : Result Counts ConvertFault)
    → final ≡ done → had ≡ bytes_had remaining readers → AreLinksOf before readers number inner → ((x : S) → is_at_end x → IsDone number inner remaining had x)
    → Behind held first old new last is_out → Behind held first' old' new' last' is_out
    → IfOk done (λ counts. RunKeeps (given_by number inner remaining had) calls is_at_end s before after counts (written old old') (written new new'))
    → IfOk final (λ counts. IsTrue is_out → KeepsBytes s (map remaining readers) counts (written first first') (written (taken_of first last) (taken_of first' last')))
done-by-bytes {S} {R} {number} {inner} {before} {readers} remaining had {held} calls is_at_end s after {first} {old} {new} {last} {first'} {old'} {new'} {last'} {is_out} done final is is-had are ends b b' run =
    subst (λ (r : Result Counts ConvertFault). IfOk r (λ counts. IsTrue is_out → KeepsBytes s (map remaining readers) counts (written first first') (written (taken_of first last) (taken_of first' last'))))
    (sym is) (at-done remaining had calls is_at_end s after done is-had are ends b b' run)

-- ---- a run that ended at a read

-- some reads were made, and exactly the file so far and their lines are written
abbrev pub HasReadSome : {S : Type 0} → (S → Option (List ℕ)) → SetupView → Result Counts ConvertFault → ℕ → List S → List S → Written → Written → Type 0
HasReadSome given s done most before after old new =
    (reads : List Read) × (h : History) × HasRead given s before after reads h old new × (IsErrOf done Endless → length reads ≡ most)

other_fault : (link : ℕ) → IsErrOf {T = Counts} (Err (ReadFailed link)) Endless → ⊥
other_fault link e = cc

pub at-read : {S : Type 0} (given : S → Option (List ℕ)) (failures calls : S → ℕ) (is_at_end : S → Type 0) (s : SetupView) (most : ℕ) (before after : List S) (old new : Written) (P : Type 0) (done : Result Counts ConvertFault)
    → ((link : ℕ) → IsErrOf done (ReadFailed link) → FailsReading given failures calls s link before after old new)
    → (IsErrOf done Endless → StaysOpen given is_at_end s most before after old new × P) → EndsAtRead done → HasReadSome given s done most before after old new
at-read given failures calls is_at_end s most before after old new P (Ok counts) failed endless ends = absurd ends
at-read given failures calls is_at_end s most before after old new P (Err (ReadFailed link)) failed endless ends = let f = failed link refl in (f.reads, f.history, f.has_read, λ e. absurd (other_fault link e))
at-read given failures calls is_at_end s most before after old new P (Err Endless) failed endless ends = let f = (endless refl).0 in (f.reads, f.history, f.has_read, λ _. f.made)
at-read given failures calls is_at_end s most before after old new P (Err _) failed endless ends = absurd ends

pub part-by-bytes : {S R : Type 0} {number : S → ℕ} {inner : S → R} {before : List S} {readers : List R} (remaining : R → Option (List ℕ)) (had : ℕ → Option (List ℕ)) {held : ℕ → Option (List ℕ)}
    (s : SetupView) (after : List S) {first old new last first' old' new' last' : Option (List ℕ)} {is_out : Bool} (done final : Result Counts ConvertFault)
    → final ≡ done → had ≡ bytes_had remaining readers → AreLinksOf before readers number inner
    → Behind held first old new last is_out → Behind held first' old' new' last' is_out
    → (EndsAtRead done → HasReadSome (given_by number inner remaining had) s done most_reads before after (written old old') (written new new'))
    → EndsAtRead final → IsTrue is_out → ConvertsFirstBytes s (map remaining readers) final (written first first') (written (taken_of first last) (taken_of first' last'))
part-by-bytes {S} {R} {number} {inner} {before} {readers} remaining had {held} s after {first} {old} {new} {last} {first'} {old'} {new'} done final is is-had are b b' some ends is-out =
    let read = some (subst (λ (r : Result Counts ConvertFault). EndsAtRead r) is ends) in
    let reads : List Read = read.0 in
    let h : History = read.1 in
    let part : ConvertsFirstBytes s (map remaining readers) final (written old old') (written new new') = record {
      reads = reads;
      first_bytes = first-bytes remaining had after reads is-had are read.2.gave;
      made = λ e. read.3 (sym is ∙ e);
      history = h;
      comes_to = subst (λ (n : ℕ). IsHistoryOf s n reads h) (as-many remaining are) read.2.comes_to;
      out = read.2.out;
      log = read.2.log;
    } in
    on-writers (λ (w v : Written). ConvertsFirstBytes s (map remaining readers) final w v) (file_so_far s (arrivals h.found)) (lines s h.found) b b' is-out part.out part.log part
