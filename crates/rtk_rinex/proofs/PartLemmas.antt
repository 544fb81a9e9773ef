-- Parts of a header in a row: each is the list of its lines, made of the header's values. Parts that
-- are read one after another, each where the part before it ends as it is written, are read back.
use Rattle.std.proofs.Common.{◌≡◌, ℕ, ◌≤◌, List, [], ◌∷◌, ◌++◌, length, drop, get_or, refl, sym, ◌∙◌, ap, arith, append_assoc, length-append, inl, inr}
use Rattle.std.proofs.Math.Seq.{drop-append_seam}
use Rattle.std.proofs.lemmas.Bool.Decides.{leb_tells}
use Rattle.std.proofs.lemmas.Grind.{flat_map-append}
use Rattle.std.proofs.lemmas.List.{append-nil, drop-drop}
use Rattle.rtk_rinex.specs.Header.{header_line}
use Rattle.rtk_rinex.specs.Lines.{text_of}
use Rattle.rtk_rinex.specs.Steps.HeaderShown.{StartsWith}
use Rattle.rtk_rinex.proofs.HeaderRowsLemmas.{Values, IsGood, row, row_ended, ended}

-- of two lists that are one, the shorter front begins the longer one
pub cut_at : (a b c d : List (List ℕ)) → a ++ b ≡ c ++ d → length a ≤ length c → (more : List (List ℕ)) × (c ≡ a ++ more) × (b ≡ more ++ d)
cut_at [] b c d e le = (c, refl, e)
cut_at (x ∷ a) b [] d e le = absurd (omega arith)
cut_at (x ∷ a) b (y ∷ c) d e le =
    let head : x ≡ y = ap (λ (l : List (List ℕ)). get_or l 0 []) e in
    let more = cut_at a b c d (ap (λ (l : List (List ℕ)). drop 1 l) e) (omega arith) in
    (more.0, ap (λ (l : List (List ℕ)). y ∷ l) more.1 ∙ ap (λ (z : List ℕ). z ∷ (a ++ more.0)) (sym head), more.2)

-- where a part ends, its lines tell
abbrev pub EndsItself : (Values → List (List ℕ)) → Type 0
EndsItself part = (u v : Values) (p q : List (List ℕ)) → IsGood u → IsGood v → part u ++ p ≡ part v ++ q → p ≡ q

-- whatever lines of a good part begin the text, begin the part of these values too
abbrev pub ReadsBack : (Values → List (List ℕ)) → List ℕ → Values → Type 0
ReadsBack part text v =
    (u : Values) (a b : List (List ℕ)) (rest : List ℕ) → IsGood u → part u ≡ a ++ b → text ≡ text_of a ++ rest → (c : List (List ℕ)) × (part v ≡ a ++ c)

-- a part that is read from what was written is the part
pub read_whole : (part : Values → List (List ℕ)) (text rest : List ℕ) (u v : Values) → EndsItself part → IsGood u → IsGood v → ReadsBack part text v
    → text ≡ text_of (part u) ++ rest → part v ≡ part u
read_whole part text rest u v ends g f back e =
    let r = back u (part u) [] rest g (sym (append-nil (part u))) e in
    let none : [] ≡ r.0 = ends v u [] r.0 f g (append-nil (part v) ∙ r.1) in
    r.1 ∙ ap (λ (c : List (List ℕ)). part u ++ c) (sym none) ∙ append-nil (part u)

after_part : (text front part rest : List ℕ) → drop (length front) text ≡ part ++ rest → drop (length (front ++ part)) text ≡ rest
after_part text front part rest e =
    ap (λ (n : ℕ). drop n text) (length-append front part) ∙ sym (drop-drop (length part) (length front) text)
    ∙ ap (λ (x : List ℕ). drop (length part) x) e ∙ drop-append_seam part rest

-- a part, and the parts after it that are read where it ends as it is written
pub back_then : (part next : Values → List (List ℕ)) (text front written : List ℕ) (v : Values) → EndsItself part → IsGood v → written ≡ front ++ text_of (part v)
    → ReadsBack part (drop (length front) text) v → ReadsBack next (drop (length written) text) v
    → ReadsBack (λ x. part x ++ next x) (drop (length front) text) v
back_then part next text front written v ends f put first second u a b rest g e t =
    elim (leb_tells (length a) (length (part u))) [
      | inl within ↦
          let cut = cut_at a b (part u) (next u) (sym e) within.1 in
          let r = first u a cut.0 rest g cut.1 t in
          (r.0 ++ next v, ap (λ (l : List (List ℕ)). l ++ next v) r.1 ∙ append_assoc a r.0 (next v))
      | inr past ↦
          let cut = cut_at (part u) (next u) a b e (omega (arith, past.1)) in
          let split : drop (length front) text ≡ text_of (part u) ++ (text_of cut.0 ++ rest) =
          t ∙ ap (λ (l : List (List ℕ)). text_of l ++ rest) cut.1 ∙ ap (λ (x : List ℕ). x ++ rest) (flat_map-append (λ (line : List ℕ). line ++ 10 ∷ []) (part u) cut.0)
          ∙ append_assoc (text_of (part u)) (text_of cut.0) rest in
          let same : part v ≡ part u = read_whole part (drop (length front) text) (text_of cut.0 ++ rest) u v ends g f first split in
          let place : written ≡ front ++ text_of (part u) = put ∙ ap (λ (x : List (List ℕ)). front ++ text_of x) same in
          let on : drop (length written) text ≡ text_of cut.0 ++ rest =
          ap (λ (x : List ℕ). drop (length x) text) place ∙ after_part text front (text_of (part u)) (text_of cut.0 ++ rest) split in
          let r = second u cut.0 b rest g cut.2 on in (
            r.0,
            ap (λ (l : List (List ℕ)). part v ++ l) r.1 ∙ ap (λ (l : List (List ℕ)). l ++ (cut.0 ++ r.0)) same
                ∙ sym (append_assoc (part u) cut.0 r.0) ∙ ap (λ (l : List (List ℕ)). l ++ r.0) (sym cut.1),
          )
    ]

-- a part of lines that are always the same
pub back_fixed : (lines : List (List ℕ)) (text : List ℕ) (v : Values) → ReadsBack (λ x. lines) text v
back_fixed lines text v u a b rest g e t = (b, e)

-- a part of one line, which shows a value
pub back_line : {A : Type 0} (line : A → List ℕ) (value : Values → A) (text : List ℕ) (v : Values)
    → ((u : Values) → IsGood u → StartsWith (ended (line (value u))) text → value v ≡ value u) → ReadsBack (λ x. line (value x) ∷ []) text v
back_line line value text v shows u [] b rest g e t = (line (value v) ∷ [], refl)
back_line {A = A} line value text v shows u (l ∷ a) b rest g e t =
    let is : line (value u) ≡ l = ap (λ (x : List (List ℕ)). get_or x 0 []) e in
    let begins : text ≡ ended (line (value u)) ++ (text_of a ++ rest) =
    t ∙ append_assoc (ended l) (text_of a) rest ∙ ap (λ (x : List ℕ). ended x ++ (text_of a ++ rest)) (sym is) in
    (b, ap (λ (y : A). line y ∷ []) (shows u g (text_of a ++ rest, begins)) ∙ e)

pub ends_line : {A : Type 0} (line : A → List ℕ) (value : Values → A) → EndsItself (λ x. line (value x) ∷ [])
ends_line line value u v p q g f e = ap (λ (l : List (List ℕ)). drop 1 l) e

-- where a line begins a text, it does so as it is written
pub starts : (content label text read : List ℕ) → read ≡ text → StartsWith (ended (row content label)) text → StartsWith (header_line content label) read
starts content label text read e s = (s.0, e ∙ s.1 ∙ ap (λ (x : List ℕ). x ++ s.0) (sym (row_ended content label)))
