-- The lines of the observation types of one system, and what follows them, are read back.
use Rattle.std.proofs.Common.{◌≡◌, ◌≢◌, ◌⊎◌, ℕ, List, [], ◌∷◌, ◌++◌, length, take, drop, get_or, codes, refl, sym, ◌∙◌, ap, subst, append_assoc, inl, inr, Bool, true, false, ◌==◌, ◌&&◌, ◌||◌, not}
use Rattle.std.specs.Prelude.{All}
use Rattle.std.specs.List.{list_any, list_all}
use Rattle.std.proofs.lemmas.Bool.Decides.{Decides-eqb}
use Rattle.std.proofs.lemmas.List.{append-nil}
use Rattle.rtk_obs.specs.declared.any_code.AnyCode.{AnyCode}
use Rattle.rtk_rinex.specs.Columns.{left}
use Rattle.rtk_rinex.specs.Header.{header_line, unit_line}
use Rattle.rtk_rinex.specs.Lines.{HasNoEnd, text_of}
use Rattle.rtk_rinex.specs.MixedHeader.{codes_of, types_lines_of, types_text, system_types_lines}
use Rattle.rtk_rinex.specs.Steps.MixedHeaderRead.{Goes, Reads, IsGroup, ShowsGroup, types_and_unit}
use Rattle.rtk_rinex.proofs.GroupLemmas.{group_reads, whole_group}
use Rattle.rtk_rinex.proofs.HeaderRowsLemmas.{ended}
use Rattle.rtk_rinex.proofs.MixedListLemmas.{HaveOnePlace}
use Rattle.rtk_rinex.proofs.TextPartLemmas.{reads_then, reads_from}

-- ---- the first column of the lines of some systems

-- a text that begins with one of these letters, or with the D of the unit
pub record Starts (ss : List ℕ) (text : List ℕ) : Type 0 where
  pub char : ℕ
  pub rest : List ℕ
  pub is : text ≡ char ∷ rest
  pub one : (list_any (λ s. s == char) ss || (68 == char)) ≡ true

or_left : (a b c : Bool) → a ≡ true → ((a || b) || c) ≡ true
or_left true b c e = refl
or_left false b c e = absurd (cc)

or_right : (a b c : Bool) → (b || c) ≡ true → ((a || b) || c) ≡ true
or_right true b c e = refl
or_right false b c e = e

starts_unit : Starts [] unit_line
unfolding header_line left
starts_unit = record { char = 68; rest = drop 1 unit_line; is = refl; one = refl }

-- no letter of these is this one, nor is D
abbrev pub is_apart : ℕ → List ℕ → Bool
is_apart s ss = not (68 == s) && list_all (λ t. not (t == s)) ss

none_step : (s t : ℕ) (ss : List ℕ) (b : Bool) → (not b && list_all (λ r. not (r == s)) ss) ≡ true → list_any (λ r. r == s) ss ≡ false → (b || list_any (λ r. r == s) ss) ≡ false
none_step s t ss false e f = f
none_step s t ss true e f = absurd (cc)

rest_apart : (b : Bool) (c : Bool) → (not b && c) ≡ true → c ≡ true
rest_apart false c e = e
rest_apart true c e = absurd (cc)

none_any : (s : ℕ) (ss : List ℕ) → list_all (λ t. not (t == s)) ss ≡ true → list_any (λ t. t == s) ss ≡ false
none_any s [] e = refl
none_any s (t ∷ ss) e = none_step s t ss (t == s) e (none_any s ss (rest_apart (t == s) (list_all (λ r. not (r == s)) ss) e))

apart_first : (a b : Bool) → (not a && b) ≡ true → (a ≡ false) × (b ≡ true)
apart_first false b e = (refl, e)
apart_first true b e = absurd (cc)

pub starts_apart : (s : ℕ) (ss text : List ℕ) → is_apart s ss ≡ true → (h : Starts ss text) → h.char ≢ s
starts_apart s ss text apart h e =
    let p = apart_first (68 == s) (list_all (λ t. not (t == s)) ss) apart in
    let none = none_any s ss p.1 in
    let one : (list_any (λ t. t == s) ss || (68 == s)) ≡ true = subst (λ (x : ℕ). (list_any (λ t. t == x) ss || (68 == x)) ≡ true) e h.one in
    let two : (false || false) ≡ true = rw (none, p.0) at one in
    absurd (cc)

take_one : (l x y : List ℕ) → take 1 (ended l ++ x) ≡ take 1 (ended l ++ y)
take_one [] x y = refl
take_one (a ∷ l) x y = refl

same_first : (l : List ℕ) (ls : List (List ℕ)) (x y : List ℕ) → take 1 (text_of (l ∷ ls) ++ x) ≡ take 1 (text_of (l ∷ ls) ++ y)
same_first l ls x y =
    ap (take 1) (append_assoc (ended l) (text_of ls) x) ∙ take_one l (text_of ls ++ x) (text_of ls ++ y) ∙ ap (take 1) (sym (append_assoc (ended l) (text_of ls) y))

-- ---- the lines of some systems, in a file with Doppler shifts, or without them

module _ (doppler : Bool) where
  -- the types of the systems of these letters, and the line of the unit
  abbrev pub from : List ℕ → List AnyCode → List ℕ
  from [] cs = unit_line
  from (s ∷ ss) cs = system_types_lines doppler s (codes_of s cs) ++ from ss cs

  pub types_from : (cs : List AnyCode) → types_and_unit doppler cs ≡ from (codes "GRECJSI") cs
  types_from cs = simp append_assoc

  starts_group : (s : ℕ) (ss : List ℕ) (cs : List AnyCode) (next : List ℕ) → Starts ss next → Starts (s ∷ ss) (system_types_lines doppler s cs ++ next)
  unfolding header_line left
  starts_group s ss [] next h = record { char = h.char; rest = h.rest; is = h.is; one = or_right (s == h.char) (list_any (λ t. t == h.char) ss) (68 == h.char) h.one }
  starts_group s ss (c ∷ cs) next h = record {
    char = s;
    rest = drop 1 (types_lines_of doppler s (length (c ∷ cs)) (types_text doppler (c ∷ cs)) ++ next);
    is = refl;
    one = or_left (s == s) (list_any (λ t. t == s) ss) (68 == s) ((Decides-eqb s s).1 refl);
  }

  pub starts_from : (ss : List ℕ) (cs : List AnyCode) → Starts ss (from ss cs)
  starts_from [] cs = starts_unit
  starts_from (s ∷ ss) cs = starts_group s ss (codes_of s cs) (from ss cs) (starts_from ss cs)

  -- ---- one system, and what follows it

  -- the lines of a system that is not listed are passed over
  passed_over : {V : Type 0} (If Then : V → Type 0) (cs : V → List AnyCode) (s : ℕ) (ss : List ℕ) (g : List AnyCode) (next : V → List ℕ) (text front written : List ℕ) (v u : V)
      → cs v ≡ g → is_apart s ss ≡ true → written ≡ front ++ system_types_lines doppler s g → (take 1 (drop (length front) text) ≢ s ∷ [] → g ≡ []) → Starts ss (next u) → If u → cs u ≡ []
      → Reads (λ u. If u × (cs u ≡ g)) Then next (drop (length written) text) v
      → (lines : List (List ℕ)) (rest more : List ℕ) → All HasNoEnd lines → system_types_lines doppler s (cs u) ++ next u ≡ text_of lines ++ more → drop (length front) text ≡ text_of lines ++ rest
      → Goes (system_types_lines doppler s (cs v) ++ next v) lines more (Then u)
  passed_over If Then cs s ss g next text front written v u own apart put skipped starts given none second [] rest more plain e t = record {
    rest = system_types_lines doppler s (cs v) ++ next v;
    begins = refl;
    whole = λ z.
        let nothing : next u ≡ [] = sym (ap (λ (x : List AnyCode). system_types_lines doppler s x ++ next u) none) ∙ e ∙ z in
        let some : starts.char ∷ starts.rest ≡ [] = sym starts.is ∙ nothing in
        absurd (cc);
  }
  passed_over If Then cs s ss g next text front written v u own apart put skipped starts given none second (l ∷ ls) rest more plain e t =
      let lines : List (List ℕ) = l ∷ ls in
      let on : next u ≡ text_of lines ++ more = sym (ap (λ (x : List AnyCode). system_types_lines doppler s x ++ next u) none) ∙ e in
      let first : take 1 (drop (length front) text) ≡ starts.char ∷ [] = ap (take 1) t ∙ same_first l ls rest more ∙ ap (take 1) (sym on ∙ starts.is) in
      let other : take 1 (drop (length front) text) ≢ s ∷ [] = λ same.
      starts_apart s ss (next u) apart starts (ap (λ (x : List ℕ). get_or x 0 0) (sym first ∙ same)) in
      let gone : g ≡ [] = skipped other in
      let place : written ≡ front = put ∙ ap (λ (x : List AnyCode). front ++ system_types_lines doppler s x) gone ∙ append-nil front in
      let r = second u lines rest more (given, none ∙ sym gone) plain on (ap (λ (x : List ℕ). drop (length x) text) place ∙ t) in
      record { rest = r.rest; begins = ap (λ (x : List AnyCode). system_types_lines doppler s x ++ next v) (own ∙ gone) ∙ r.begins; whole = r.whole }

  pub reads_system : {V : Type 0} (If Then : V → Type 0) (cs : V → List AnyCode) (s : ℕ) (ss : List ℕ) (g : List AnyCode) (next : V → List ℕ) (text front written : List ℕ) (v : V)
      → s ≢ 10 → is_apart s ss ≡ true → HaveOnePlace → cs v ≡ g → ((u : V) → If u → (cs u ≡ []) ⊎ IsGroup s (cs u)) → ((u : V) → Starts ss (next u))
      → written ≡ front ++ system_types_lines doppler s g
      → ((u : V) → If u → IsGroup s (cs u) → take 1 (drop (length front) text) ≡ s ∷ [] → ShowsGroup doppler s (drop (length front) text) g)
      → ((u : V) → If u → cs u ≡ [] → take 1 (drop (length front) text) ≢ s ∷ [] → g ≡ [])
      → Reads (λ u. If u × (cs u ≡ g)) Then next (drop (length written) text) v
      → Reads If Then (λ x. system_types_lines doppler s (cs x) ++ next x) (drop (length front) text) v
  reads_system {V = V} If Then cs s ss g next text front written v plain apart place own each starts put taken skipped second u lines rest more given ok e t =
      elim (each u given) [
        | inl none ↦ passed_over If Then cs s ss g next text front written v u own apart put (skipped u given none) (starts u) given none second lines rest more ok e t
        | inr group ↦
            let With : V → Type 0 = λ x. If x × IsGroup s (cs x) in
            let first : Reads With (λ x. With x × (cs x ≡ g)) (λ x. system_types_lines doppler s (cs x)) (drop (length front) text) v = λ x ls r m h k a b.
            let q = group_reads doppler s g (drop (length front) text) plain place (taken x h.0 h.1) (cs x) ls r m h.1 k a b in
            record { rest = q.rest; begins = ap (system_types_lines doppler s) own ∙ q.begins; whole = λ none. ((q.whole none).0, (h, (q.whole none).1)) } in
            let after : Reads (λ x. With x × (cs x ≡ g)) Then next (drop (length written) text) v =
            reads_from (λ x. If x × (cs x ≡ g)) Then (λ x. With x × (cs x ≡ g)) Then next (drop (length written) text) v (λ x h. (h.0.0, h.1)) (λ x h k. k) second in
            reads_then With (λ x. With x × (cs x ≡ g)) Then (λ x. system_types_lines doppler s (cs x)) next text front written v (λ x h. whole_group doppler s (cs x) plain h.1)
            (put ∙ ap (λ (x : List AnyCode). front ++ system_types_lines doppler s x) (sym own)) first after u lines rest more (given, group) ok e t
      ]
