-- A sink that passes over the first nine lines of a file.
use Rattle.std.proofs.Common.{◌≡◌, ◌<◌, ◌≤◌, ◌+◌, ◌-◌, ◌⊎◌, inl, inr, ℕ, List, [], ◌++◌, length, take, drop, Option, None, Some, Result, Ok, Err, OnOk, OnErr, refl, sym, ap, ◌∙◌, append_assoc, arith}
use Rattle.std.proofs.lemmas.List.{append-nil, length-append, length-take-le, length-drop, take-append-le, drop-append-le, take-append-drop, drop-take, drop_all, drop_at}
use Rattle.std.proofs.Math.Seq.{take-length, drop-length}
use Rattle.rtk_frame.specs.Stream.{with_more, TakesPart}
use Rattle.rtk_cut.specs.declared.part.Part.{Part}
use Rattle.rtk_commands.specs.AfterFront.{taken_after, IsAfterFront}
use Rattle.rtk_commands.specs.CutInput.{part_of_file, WritesPartOfFile, WritesFirstOfPartOfFile, WritesRestOfPart, WritesFirstOfRest}
use Rattle.rtk_commands.specs.FileTable.{file_text}

-- before its first call
pub fresh-front : (start : Option (List ℕ)) → IsAfterFront start [] start
fresh-front None = (omega arith, refl)
fresh-front (Some first) = (omega arith, take-length first, λ less. refl)

-- ---- bytes that are passed over

pub passed-front : (start taken : Option (List ℕ)) (over more : List ℕ) → length over < 729 → length over + length more ≤ 729 → IsAfterFront start over taken → IsAfterFront start (over ++ more) taken
passed-front None taken over more less fits is = (omega (arith, length-append over more, fits), is.1)
passed-front (Some first) None over more less fits is = absurd is
passed-front (Some first) (Some all) over more less fits is = (omega (arith, length-append over more, fits), is.1, λ any. is.2 less)

glue-passed : (over more : List ℕ) → (over ++ more) ++ [] ≡ (over ++ []) ++ more
glue-passed over more = simp (append_assoc, append-nil)

pub passed-taken : (start taken : Option (List ℕ)) (over more : List ℕ) → length over < 729 → IsAfterFront start over taken
    → taken_after start (over ++ more) taken ≡ with_more (taken_after start over taken) more
passed-taken None taken over more less is = refl
passed-taken (Some first) None over more less is = absurd is
passed-taken (Some first) (Some all) over more less is =
    let same : all ≡ first = is.2 less in
    let none : drop (length first) all ≡ [] = ap (drop (length first)) same ∙ drop-length first in
    ap Some (ap (λ (x : List ℕ). (over ++ more) ++ x) none ∙ glue-passed over more ∙ ap (λ (x : List ℕ). (over ++ x) ++ more) (sym none))

-- ---- bytes that are handed on

begins-short : (first all : List ℕ) → take (length first) all ≡ first → length first ≤ length all
begins-short first all begins =
    let n : ℕ = length first in
    omega (arith, ap length (take-append-drop n all), length-append (take n all) (drop n all), ap length begins)

pub handed-front : (start taken after : Option (List ℕ)) (over more : List ℕ) → length over ≡ 729 → after ≡ with_more taken more → IsAfterFront start over taken → IsAfterFront start over after
handed-front None taken after over more full e is = (is.0, e ∙ ap (λ (o : Option (List ℕ)). with_more o more) is.1)
handed-front (Some first) None after over more full e is = absurd is
handed-front (Some first) (Some all) after over more full e is =
    rw e (is.0, take-append-le (length first) all more (begins-short first all is.1) ∙ is.1, λ less. absurd (omega (arith, less, full)))

pub handed-taken : (start taken after : Option (List ℕ)) (over more : List ℕ) → after ≡ with_more taken more → IsAfterFront start over taken
    → taken_after start over after ≡ with_more (taken_after start over taken) more
handed-taken None taken after over more e is = refl
handed-taken (Some first) None after over more e is = absurd is
handed-taken (Some first) (Some all) after over more e is =
    ap (taken_after (Some first) over) e
    ∙ ap Some (ap (λ (x : List ℕ). over ++ x) (drop-append-le (length first) all more (begins-short first all is.1)) ∙ sym (append_assoc over (drop (length first) all) more))

-- ---- what the sink behind took

some-same : (x y : List ℕ) → Some x ≡ Some y → x ≡ y
some-same x y e = cc

less-or-full : (n : ℕ) → n ≤ 729 → (n < 729) ⊎ (n ≡ 729)
less-or-full n most = grind arith

rest-of : (start taken : Option (List ℕ)) (over text : List ℕ) → IsAfterFront start over taken → taken_after start over taken ≡ with_more (taken_after start [] start) text
    → taken ≡ with_more start (drop 729 text)
rest-of None taken over text is e = is.1
rest-of (Some first) None over text is e = absurd is
rest-of (Some first) (Some all) over text is e =
    let end : List ℕ = drop (length first) all in
    let whole : over ++ end ≡ text = some-same (over ++ end) (drop (length first) first ++ text) e ∙ ap (λ (x : List ℕ). x ++ text) (drop-length first) in
    elim (less-or-full (length over) is.0) [
      | inl less ↦
          let same : all ≡ first = is.2 less in
          let none : end ≡ [] = ap (drop (length first)) same ∙ drop-length first in
          let short : text ≡ over = sym whole ∙ ap (λ (x : List ℕ). over ++ x) none ∙ append-nil over in
          let nothing : drop 729 text ≡ [] = ap (drop 729) short ∙ drop_all 729 over is.0 in
          ap Some (same ∙ sym (append-nil first) ∙ ap (λ (x : List ℕ). first ++ x) (sym nothing))
      | inr full ↦
          let rest : drop 729 text ≡ end = ap (drop 729) (sym whole) ∙ drop_at over end 729 full in
          ap Some (sym (take-append-drop (length first) all) ∙ ap (λ (x : List ℕ). x ++ end) is.1 ∙ ap (λ (x : List ℕ). first ++ x) (sym rest))
    ]

less-or-more : (n : ℕ) → (n ≤ 729) ⊎ (729 + (n - 729) ≡ n)
less-or-more n = grind arith

-- a first part of what comes after 729 bytes
first-after : (n : ℕ) (text : List ℕ) → n ≤ length text → drop 729 (take n text) ≡ take (n - 729) (drop 729 text)
first-after n text within = elim (less-or-more n) [
  | inl less ↦
      let short : length (take n text) ≤ 729 = omega (arith, less, length-take-le n text within) in
      let none : n - 729 ≡ 0 = omega (arith, less) in
      drop_all 729 (take n text) short ∙ sym (ap (λ k. take k (drop 729 text)) none)
  | inr more ↦ sym (ap (λ k. drop 729 (take k text)) more) ∙ drop-take 729 (n - 729) text
]

first-of-rest : (start taken : Option (List ℕ)) (over text : List ℕ) → IsAfterFront start over taken → TakesPart (taken_after start [] start) (taken_after start over taken) text
    → TakesPart start taken (drop 729 text)
first-of-rest start taken over text is (n, within, e) =
    let k : ℕ = n - 729 in
    let short : k ≤ length (drop 729 text) = omega (arith, within, length-drop 729 text) in
    (k, short, rest-of start taken over (take n text) is e ∙ ap (with_more start) (first-after n text within))

pub wrote-rest : {T E : Type 0} (r : Result T E) (plain : List ℕ) (part : Part) (start taken : Option (List ℕ)) (over : List ℕ) → IsAfterFront start over taken
    → OnOk r (WritesPartOfFile plain part (taken_after start [] start) (taken_after start over taken)) → OnOk r (WritesRestOfPart plain part start taken)
wrote-rest (Ok x) plain part start taken over is wrote = λ f good e. rest-of start taken over (file_text (part_of_file part f)) is (wrote f good e)
wrote-rest (Err fault) plain part start taken over is wrote = tt

pub wrote-first-of-rest : {T E : Type 0} (r : Result T E) (plain : List ℕ) (part : Part) (start taken : Option (List ℕ)) (over : List ℕ) → IsAfterFront start over taken
    → OnErr r (WritesFirstOfPartOfFile plain part (taken_after start [] start) (taken_after start over taken)) → OnErr r (WritesFirstOfRest plain part start taken)
wrote-first-of-rest (Ok x) plain part start taken over is wrote = tt
wrote-first-of-rest (Err fault) plain part start taken over is wrote = λ f good e. first-of-rest start taken over (file_text (part_of_file part f)) is (wrote f good e)
