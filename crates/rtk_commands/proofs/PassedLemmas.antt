-- What the calls of a reader and of a writer do to the bytes that are known.
use Rattle.std.proofs.Common.{◌≡◌, ℕ, ◌+◌, ◌-◌, ◌<◌, Bool, true, List, [], ◌∷◌, ◌++◌, length, take, drop, Option, None, Some, Result, Ok, Err, refl, sym, ap, ◌∙◌, subst, arith, append_assoc, length-append, take-append-drop}
use Rattle.std.proofs.lemmas.List.{append-nil}
use Rattle.std.proofs.Math.Seq.{take-append_seam}
use Rattle.std.specs.Option.{IfSome}
use Rattle.std.specs.Result.{OnOk}
use Rattle.std.specs.Io.Buffered.{writer_inner, writer_buffer, writer_contents}
use Rattle.std.specs.declared.io.buffered.BufWriter.{BufWriter}
use Rattle.std.specs.Io.KnownBytes.{Keeps, Consumes, IsAtEnd, ReadConsumes, append_known}
use Rattle.rtk_frame.specs.Stream.{moved_count, with_more}
use Rattle.rtk_commands.specs.Input.{GivesText}
use Rattle.rtk_commands.specs.Passed.{given_of, IsLeft, taken_of, StaysKnown}

-- ---- one call of a reader

-- the front of a list, by its length and that of what follows
front_of : (all front rest : List ℕ) → all ≡ front ++ rest → take (length all - length rest) all ≡ front
front_of all front rest split =
    let count : length all - length rest ≡ length front = omega (arith, ap length split, length-append front rest) in
    ap (λ n. take n all) count ∙ ap (take (length front)) split ∙ take-append_seam front rest

-- what was had, after one more part of it was given
regroup : (all given left part rest : List ℕ) → all ≡ given ++ left → left ≡ part ++ rest → all ≡ (given ++ part) ++ rest
regroup all given left part rest had more = had ∙ ap (λ l. given ++ l) more ∙ sym (append_assoc given part rest)

nothing_after : (part rest : List ℕ) → [] ≡ part ++ rest → rest ≡ []
nothing_after [] rest none = sym none
nothing_after (x ∷ part) rest none = absurd (omega (arith, ap length none))

-- a read gave a part of what was left
left-on : (had old new : Option (List ℕ)) (ended : Bool) (part : List ℕ) → IsLeft had old ended → Consumes old new part → IsLeft had new ended
left-on None old new ended part left read = tt
left-on (Some all) None new ended part left read = absurd left
left-on (Some all) (Some old) None ended part left read = absurd read
left-on (Some all) (Some old) (Some new) ended part left read =
    let given = take (length all - length old) all in
    let split = regroup all given old part new left.0 read in
    (split ∙ ap (λ l. l ++ new) (sym (front_of all (given ++ part) new split)), λ end. nothing_after part new (sym (left.1 end) ∙ read))

-- a failed read gave nothing
Consumes-kept : (old new : Option (List ℕ)) → Keeps old new → Consumes old new []
Consumes-kept None new kept = tt
Consumes-kept (Some old) None kept = absurd kept
Consumes-kept (Some old) (Some new) kept = sym kept

-- a read gave a part of what was left, or failed
pub left-read : {E : Type 0} (had old new : Option (List ℕ)) (ended : Bool) (result : Result ℕ E) (buf : List ℕ)
    → IsLeft had old ended → ReadConsumes old new result buf → IsLeft had new ended
left-read had old new ended (Ok count) buf left read = left-on had old new ended (take count buf) left read.0
left-read had old new ended (Err error) buf left kept = left-on had old new ended [] left (Consumes-kept old new kept)

-- a read with room that gave nothing met the end
pub left-ended : (had old new : Option (List ℕ)) (ended : Bool) (count : ℕ) (buf : List ℕ)
    → IsLeft had old ended → Consumes old new (take count buf) → (count ≡ 0 → 0 < length buf → IsAtEnd new)
    → count ≡ 0 → 0 < length buf → IsLeft had new true
left-ended None old new ended count buf left read end zero room = tt
left-ended (Some all) None new ended count buf left read end zero room = absurd left
left-ended (Some all) (Some old) None ended count buf left read end zero room = absurd read
left-ended (Some all) (Some old) (Some new) ended count buf left read end zero room =
    let more = left-on (Some all) (Some old) (Some new) ended (take count buf) left read in
    (more.0, λ _. end zero room)

-- what was given grows by what a read gave
given-on : (number : ℕ) (had old new : Option (List ℕ)) (ended : Bool) (part : List ℕ)
    → IsLeft had old ended → Consumes old new part → given_of number had new ≡ with_more (given_of number had old) part
given-on number None old new ended part left read = refl
given-on number (Some all) None new ended part left read = absurd left
given-on number (Some all) (Some old) None ended part left read = absurd read
given-on number (Some all) (Some old) (Some new) ended part left read =
    let given = take (length all - length old) all in
    let split = regroup all given old part new left.0 read in
    ap (λ l. Some (number ∷ l)) (front_of all (given ++ part) new split)

pub given-read : {E : Type 0} (number : ℕ) (had old new : Option (List ℕ)) (ended : Bool) (result : Result ℕ E) (buf : List ℕ)
    → IsLeft had old ended → ReadConsumes old new result buf
    → given_of number had new ≡ with_more (given_of number had old) (take (moved_count result) buf)
given-read number had old new ended (Ok count) buf left read = given-on number had old new ended (take count buf) left read.0
given-read number had old new ended (Err error) buf left kept = given-on number had old new ended [] left (Consumes-kept old new kept)

-- ---- all calls of a reader, to its end

none_given : (all first : List ℕ) → first ≡ all → take (length all - length first) all ≡ []
none_given all first kept =
    let zero : length all - length first ≡ 0 = omega (arith, ap length kept) in
    ap (λ n. take n all) zero

-- the number says whose bytes they are
all_of : (had other : Option (List ℕ)) (number at : ℕ) (first last : Option (List ℕ)) (text : List ℕ) → (at ≡ number → other ≡ had)
    → Keeps had first → IsLeft other last true → given_of at other last ≡ with_more (given_of number had first) text → IfSome had (λ all. all ≡ text)
all_of None other number at first last text same kept left gave = tt
all_of (Some all) other number at None last text same kept left gave = absurd kept
all_of (Some all) None number at (Some first) last text same kept left gave =
    let e : None ≡ Some (number ∷ (take (length all - length first) all ++ text)) = gave in cc
all_of (Some all) (Some whole) number at (Some first) None text same kept left gave = absurd left
all_of (Some all) (Some whole) number at (Some first) (Some last) text same kept left gave =
    let front = take (length whole - length last) whole in
    let given = take (length all - length first) all in
    let e : Some (at ∷ front) ≡ Some (number ∷ (given ++ text)) = gave in
    let one : at ≡ number = cc in
    let parts : front ≡ given ++ text = cc in
    let here : Some whole ≡ Some all = same one in
    let is : whole ≡ all = cc in
    sym is ∙ left.0 ∙ ap (λ l. front ++ l) (left.1 refl) ∙ append-nil front ∙ parts ∙ ap (λ l. l ++ text) (none_given all first kept)

-- a reader that met its end gave all that it had, in order
pub all_given : (had : ℕ → Option (List ℕ)) (number at : ℕ) (first last : Option (List ℕ)) (text : List ℕ)
    → Keeps (had number) first → IsLeft (had at) last true
    → given_of at (had at) last ≡ with_more (given_of number (had number) first) text → IfSome (had number) (λ all. all ≡ text)
all_given had number at first last text kept left gave =
    all_of (had number) (had at) number at first last text (λ e. ap had e) kept left gave

weaker : (had : Option (List ℕ)) (text : List ℕ) (P : List ℕ → Type 0) → IfSome had (λ all. all ≡ text) → P text → IfSome had P
weaker None text P same holds = tt
weaker (Some all) text P same holds = subst P (sym same) holds

-- so what holds of the text that it gave holds of what it had
pub all_text : (had : ℕ → Option (List ℕ)) (number at : ℕ) (first last : Option (List ℕ)) (P : List ℕ → Type 0) → number ≡ 0
    → Keeps (had 0) first → IsLeft (had at) last true → GivesText (given_of number (had number) first) (given_of at (had at) last) P → IfSome (had 0) P
all_text had number at first last P zero kept left gives =
    let here : Keeps (had number) first = subst (λ (n : ℕ). Keeps (had n) first) (sym zero) kept in
    subst (λ (n : ℕ). IfSome (had n) P) zero
    (weaker (had number) gives.0 P (all_given had number at first last gives.0 here left gives.1) gives.2)

-- the text that a reader gave is a first part of what it had
part_of : (had other : Option (List ℕ)) (number at : ℕ) (first last : Option (List ℕ)) (text : List ℕ) → (at ≡ number → other ≡ had)
    → Keeps had first → given_of at other last ≡ with_more (given_of number had first) text → IfSome had (λ all. (rest : List ℕ) × (all ≡ text ++ rest))
part_of None other number at first last text same kept gave = tt
part_of (Some all) other number at None last text same kept gave = absurd kept
part_of (Some all) None number at (Some first) last text same kept gave =
    let e : None ≡ Some (number ∷ (take (length all - length first) all ++ text)) = gave in cc
part_of (Some all) (Some whole) number at (Some first) None text same kept gave =
    let e : None ≡ Some (number ∷ (take (length all - length first) all ++ text)) = gave in cc
part_of (Some all) (Some whole) number at (Some first) (Some last) text same kept gave =
    let n : ℕ = length whole - length last in
    let given = take (length all - length first) all in
    let e : Some (at ∷ take n whole) ≡ Some (number ∷ (given ++ text)) = gave in
    let one : at ≡ number = cc in
    let parts : take n whole ≡ given ++ text = cc in
    let here : Some whole ≡ Some all = same one in
    let is : whole ≡ all = cc in (
      drop n whole,
      sym is ∙ sym (take-append-drop n whole) ∙ ap (λ l. l ++ drop n whole) (parts ∙ ap (λ l. l ++ text) (none_given all first kept)),
    )

-- of known bytes a reader gave a first part
pub given_first : (had : ℕ → Option (List ℕ)) (number at : ℕ) (first last : Option (List ℕ)) (text : List ℕ) → number ≡ 0
    → Keeps (had 0) first → given_of at (had at) last ≡ with_more (given_of number (had number) first) text
    → IfSome (had 0) (λ all. (rest : List ℕ) × (all ≡ text ++ rest))
given_first had number at first last text zero kept gave =
    let here : Keeps (had number) first = subst (λ (n : ℕ). Keeps (had n) first) (sym zero) kept in
    subst (λ (n : ℕ). IfSome (had n) (λ all. (rest : List ℕ) × (all ≡ text ++ rest))) zero
    (part_of (had number) (had at) number at first last text (λ e. ap had e) here gave)

longer : (had : Option (List ℕ)) (limit : ℕ) (text : List ℕ) → length text ≡ limit + 1 → IfSome had (λ all. (rest : List ℕ) × (all ≡ text ++ rest)) → IfSome had (λ all. limit < length all)
longer None limit text long part = tt
longer (Some all) limit text long part = omega (arith, ap length part.1, length-append text part.0, long)

-- so it had more than the limit, if one byte more was given
pub too_long : (had : ℕ → Option (List ℕ)) (number at : ℕ) (first last : Option (List ℕ)) (limit : ℕ) → number ≡ 0
    → Keeps (had 0) first → GivesText (given_of number (had number) first) (given_of at (had at) last) (λ text. length text ≡ limit + 1)
    → IfSome (had 0) (λ all. limit < length all)
too_long had number at first last limit zero kept gives =
    longer (had 0) limit gives.0 gives.2 (given_first had number at first last gives.0 zero kept gives.1)

-- ---- a writer

-- before the first call it took nothing, and holds what it held
pub taken_first : (held first : Option (List ℕ)) → Keeps held first → taken_of held first ≡ held
taken_first None first kept = refl
taken_first (Some held) None kept = absurd kept
taken_first (Some held) (Some first) kept = ap Some kept

last_of : (held other first last : Option (List ℕ)) (more : List ℕ) → Keeps held first
    → taken_of other last ≡ with_more (taken_of held first) more → taken_of held last ≡ with_more held more
last_of None other first last more kept took = refl
last_of (Some held) other None last more kept took = absurd kept
last_of (Some held) None (Some first) last more kept took = let e : None ≡ Some (first ++ more) = took in cc
last_of (Some held) (Some others) (Some first) last more kept took = took ∙ ap (λ l. Some (l ++ more)) kept

-- after calls that took these bytes it holds them after those that it held
pub taken_last : (held : ℕ → Option (List ℕ)) (number at : ℕ) (first last : Option (List ℕ)) (more : List ℕ) → Keeps (held number) first
    → taken_of (held at) last ≡ with_more (taken_of (held number) first) more → taken_of (held number) last ≡ with_more (held number) more
taken_last held number at first last more kept took = last_of (held number) (held at) first last more kept took

-- what stays as it was is taken as it was
taken_kept : (held now after : Option (List ℕ)) → StaysKnown held now → Keeps now after → taken_of held after ≡ taken_of held now
taken_kept None now after known kept = refl
taken_kept (Some held) None after known kept = absurd known
taken_kept (Some held) (Some now) None known kept = absurd kept
taken_kept (Some held) (Some now) (Some after) known kept = ap Some kept

pub taken_if : {T E : Type 0} (held now after : Option (List ℕ)) (written : Result T E) → StaysKnown held now
    → OnOk written (Keeps now after) → OnOk written (taken_of held after ≡ taken_of held now)
taken_if held now after (Ok x) known kept = taken_kept held now after known kept
taken_if held now after (Err e) known kept = tt

-- with what is let go, it is what was taken
pub taken_with : (held now last : Option (List ℕ)) → StaysKnown held now → ((unwritten : List ℕ) × Keeps now (append_known last unwritten))
    → (unwritten : List ℕ) × (taken_of held (append_known last unwritten) ≡ taken_of held now)
taken_with held now last known kept = (kept.0, taken_kept held now (append_known last kept.0) known kept.1)

-- nothing is gathered yet
Keeps-none : (held first : Option (List ℕ)) → Keeps held first → Keeps held (append_known first [])
Keeps-none None first kept = tt
Keeps-none (Some held) None kept = absurd kept
Keeps-none (Some held) (Some first) kept = append-nil first ∙ kept

pub over_writer : {W A : Type 0} (writer : BufWriter W A) (inner : W) (contents : W → Option (List ℕ)) (held : Option (List ℕ))
    → writer_inner writer ≡ inner → writer_buffer writer ≡ [] → Keeps held (contents inner) → Keeps held (writer_contents contents writer)
over_writer writer inner contents held here empty kept =
    subst (λ xs. Keeps held (append_known (contents writer.inner) xs)) (sym empty)
    (subst (λ w. Keeps held (append_known (contents w) [])) (sym here) (Keeps-none held (contents inner) kept))
