-- The observation types of all systems are read back, one system after another.
use Rattle.std.proofs.Common.{◌≡◌, ◌≢◌, ◌⊎◌, ℕ, zero, suc, ◌<◌, ◌≤◌, List, [], ◌∷◌, ◌++◌, length, take, drop, slice_index_or, codes, arith, refl, sym, ◌∙◌, ap, subst, append_assoc, length-append, inl, inr, Bool, true, false, ◌==◌, not, if◌then◌else◌, AllPairs}
use Rattle.std.specs.Prelude.{All, Decides}
use Rattle.std.proofs.lemmas.Bool.{eqb-true}
use Rattle.std.proofs.lemmas.List.{append-nil, nil_from_length}
use Rattle.std.proofs.lemmas.List.Elements.{All-append, filter_passes}
use Rattle.std.proofs.lemmas.List.Kept.{AllPairs-filter}
use Rattle.rtk_obs.specs.declared.any_code.AnyCode.{AnyCode}
use Rattle.rtk_rinex.specs.Header.{unit_line}
use Rattle.rtk_rinex.specs.MixedHead.{letter, AreInOrder}
use Rattle.rtk_rinex.specs.MixedHeader.{version_letter, codes_of, system_types_lines}
use Rattle.rtk_rinex.specs.Steps.MixedRoom.{IsFileLetter, codes_of_letter}
use Rattle.rtk_rinex.specs.Steps.MixedHeaderRead.{Reads, IsGroup, ShowsGroup, ReadsSystem, is_due, types_and_unit, IsListOf}
use Rattle.rtk_rinex.proofs.GroupLemmas.{own_codes}
use Rattle.rtk_rinex.proofs.MixedListLemmas.{HaveOnePlace, most_unlike}
use Rattle.rtk_rinex.proofs.TextPartLemmas.{reads_from, reads_fixed}
use Rattle.rtk_rinex.proofs.SystemLinesLemmas.{from, reads_system, starts_from, types_from}
use Rattle.rtk_rinex.proofs.SystemOrderLemmas.{Part, Parts, in_groups, like_test, mixed_version, none_own, not_true, only_1, only_2, only_3, only_4, only_5, only_6, only_7, ordered_seven, own_version, part_1, part_2, part_3, part_4, part_5, part_6, part_7, part_of, seven, test_like, test_unlike, unlike_test, version_own}

-- ---- when the lines of a system are due

if_true : (b x y : Bool) → (b ≡ true → x ≡ true) → (b ≡ false → y ≡ true) → (if b then x else y) ≡ true
if_true true x y f g = f refl
if_true false x y f g = g refl

if_false : (b x y : Bool) → (b ≡ true → x ≡ false) → (b ≡ false → y ≡ false) → (if b then x else y) ≡ false
if_false true x y f g = f refl
if_false false x y f g = g refl

due_begun : (file s : ℕ) (old : List AnyCode) → (file ≢ 77 → file ≡ s) → is_due file s old true ≡ true
due_begun file s old h = if_true (file == 77) true (file == s) (λ e. refl) (λ e. like_test file s (h (test_unlike file 77 e)))

due_passed : (file s : ℕ) (old : List AnyCode) → (file ≢ 77 → file ≢ s) → (file ≡ 77 → s ≡ 83 → length old ≢ 0) → (file ≡ 77 → s ≡ 73 → version_letter old ≡ 77)
    → is_due file s old false ≡ false
due_passed file s old h f g =
    if_false (file == 77) (if s == 83 then length old == 0 else if s == 73 then not (version_letter old == 77) else false) (file == s)
    (λ e.
    let mixed = test_like file 77 e in
    if_false (s == 83) (length old == 0) (if s == 73 then not (version_letter old == 77) else false) (λ k. unlike_test (length old) 0 (f mixed (test_like s 83 k)))
    (λ k. if_false (s == 73) (not (version_letter old == 77)) false (λ n. not_true (version_letter old == 77) (like_test (version_letter old) 77 (g mixed (test_like s 73 n)))) (λ n. refl)))
    (λ e. unlike_test file s (h (test_unlike file 77 e)))

-- ---- the letter of what is read

-- the lines of a system are its group's if they are due, and else there are none
record Due (file s : ℕ) (old : List AnyCode) (begins : Bool) (g : List AnyCode) : Type 0 where
  pub group : is_due file s old begins ≡ true → IsGroup s g
  pub none : is_due file s old begins ≡ false → g ≡ []

record Dues (file : ℕ) (p q : List AnyCode) (t u v w x y z : Bool) (a b c d e f g : List AnyCode) (l0 l1 l2 l3 l4 : List AnyCode) : Type 0 where
  pub first : Due file 71 l0 t a
  pub second : Due file 82 l1 u b
  pub third : Due file 69 l2 v c
  pub fourth : Due file 67 l3 w d
  pub fifth : Due file 74 l4 x e
  pub sixth : Due file 83 p y f
  pub last : Due file 73 q z g

record IsOfFile (file : ℕ) (cs : List AnyCode) : Type 0 where
  pub some : 0 < length cs
  pub letter : version_letter cs ≡ file

of_file : (file : ℕ) (cs gs : List AnyCode) → cs ≡ gs → IsGroup file gs → IsOfFile file cs
of_file file cs gs e h =
    subst (λ (x : List AnyCode). IsOfFile file x) (sym e) (let some : 0 < length gs = omega (arith, h.count) in record { some = some; letter = own_version file gs some h.own })

file_1 : (p q : List AnyCode) (t u v w x y z : Bool) (a b c d e f g l0 l1 l2 l3 l4 : List AnyCode) → Dues 71 p q t u v w x y z a b c d e f g l0 l1 l2 l3 l4 → IsOfFile 71 (seven a b c d e f g)
file_1 p q t u v w x y z a b c d e f g l0 l1 l2 l3 l4 h = of_file 71 (seven a b c d e f g) a (only_1 a b c d e f g (h.second.none refl) (h.third.none refl) (h.fourth.none refl) (h.fifth.none refl) (h.sixth.none refl) (h.last.none refl)) (h.first.group refl)

file_2 : (p q : List AnyCode) (t u v w x y z : Bool) (a b c d e f g l0 l1 l2 l3 l4 : List AnyCode) → Dues 82 p q t u v w x y z a b c d e f g l0 l1 l2 l3 l4 → IsOfFile 82 (seven a b c d e f g)
file_2 p q t u v w x y z a b c d e f g l0 l1 l2 l3 l4 h = of_file 82 (seven a b c d e f g) b (only_2 a b c d e f g (h.first.none refl) (h.third.none refl) (h.fourth.none refl) (h.fifth.none refl) (h.sixth.none refl) (h.last.none refl)) (h.second.group refl)

file_3 : (p q : List AnyCode) (t u v w x y z : Bool) (a b c d e f g l0 l1 l2 l3 l4 : List AnyCode) → Dues 69 p q t u v w x y z a b c d e f g l0 l1 l2 l3 l4 → IsOfFile 69 (seven a b c d e f g)
file_3 p q t u v w x y z a b c d e f g l0 l1 l2 l3 l4 h = of_file 69 (seven a b c d e f g) c (only_3 a b c d e f g (h.first.none refl) (h.second.none refl) (h.fourth.none refl) (h.fifth.none refl) (h.sixth.none refl) (h.last.none refl)) (h.third.group refl)

file_4 : (p q : List AnyCode) (t u v w x y z : Bool) (a b c d e f g l0 l1 l2 l3 l4 : List AnyCode) → Dues 67 p q t u v w x y z a b c d e f g l0 l1 l2 l3 l4 → IsOfFile 67 (seven a b c d e f g)
file_4 p q t u v w x y z a b c d e f g l0 l1 l2 l3 l4 h = of_file 67 (seven a b c d e f g) d (only_4 a b c d e f g (h.first.none refl) (h.second.none refl) (h.third.none refl) (h.fifth.none refl) (h.sixth.none refl) (h.last.none refl)) (h.fourth.group refl)

file_5 : (p q : List AnyCode) (t u v w x y z : Bool) (a b c d e f g l0 l1 l2 l3 l4 : List AnyCode) → Dues 74 p q t u v w x y z a b c d e f g l0 l1 l2 l3 l4 → IsOfFile 74 (seven a b c d e f g)
file_5 p q t u v w x y z a b c d e f g l0 l1 l2 l3 l4 h = of_file 74 (seven a b c d e f g) e (only_5 a b c d e f g (h.first.none refl) (h.second.none refl) (h.third.none refl) (h.fourth.none refl) (h.sixth.none refl) (h.last.none refl)) (h.fifth.group refl)

file_6 : (p q : List AnyCode) (t u v w x y z : Bool) (a b c d e f g l0 l1 l2 l3 l4 : List AnyCode) → Dues 83 p q t u v w x y z a b c d e f g l0 l1 l2 l3 l4 → IsOfFile 83 (seven a b c d e f g)
file_6 p q t u v w x y z a b c d e f g l0 l1 l2 l3 l4 h = of_file 83 (seven a b c d e f g) f (only_6 a b c d e f g (h.first.none refl) (h.second.none refl) (h.third.none refl) (h.fourth.none refl) (h.fifth.none refl) (h.last.none refl)) (h.sixth.group refl)

file_7 : (p q : List AnyCode) (t u v w x y z : Bool) (a b c d e f g l0 l1 l2 l3 l4 : List AnyCode) → Dues 73 p q t u v w x y z a b c d e f g l0 l1 l2 l3 l4 → IsOfFile 73 (seven a b c d e f g)
file_7 p q t u v w x y z a b c d e f g l0 l1 l2 l3 l4 h = of_file 73 (seven a b c d e f g) g (only_7 a b c d e f g (h.first.none refl) (h.second.none refl) (h.third.none refl) (h.fourth.none refl) (h.fifth.none refl) (h.sixth.none refl)) (h.last.group refl)

some_or_none : (xs : List AnyCode) → (xs ≡ []) ⊎ (0 < length xs)
some_or_none [] = inl refl
some_or_none (x ∷ xs) = inr (omega arith)

-- of several systems: the last but one is due if there is none before it
sixth_due : (old : List AnyCode) (begins : Bool) → length old ≡ 0 → is_due 77 83 old begins ≡ true
sixth_due old true e = refl
sixth_due old false e = like_test (length old) 0 e

last_due : (old : List AnyCode) (begins : Bool) → version_letter old ≢ 77 → is_due 77 73 old begins ≡ true
last_due old true h = refl
last_due old false h = let e = unlike_test (version_letter old) 77 h in rw e refl

other_part : (l s : ℕ) (g : List AnyCode) → s ≢ l → Part s g → All (λ c. letter c ≢ l) g
other_part l s g h p k d lt e = h (sym (p.own k d lt) ∙ e)

not_last : (a b c d e f g : List AnyCode) → Parts a b c d e f g → All (λ x. letter x ≢ 73) (((((a ++ b) ++ c) ++ d) ++ e) ++ f)
not_last a b c d e f g p =
    let P : AnyCode → Type 0 = λ x. letter x ≢ 73 in
    All-append P ((((a ++ b) ++ c) ++ d) ++ e) f
    (All-append P (((a ++ b) ++ c) ++ d) e
    (All-append P ((a ++ b) ++ c) d
    (All-append P (a ++ b) c
    (All-append P a b (other_part 73 71 a (λ z. omega (arith, z)) p.first) (other_part 73 82 b (λ z. omega (arith, z)) p.second))
    (other_part 73 69 c (λ z. omega (arith, z)) p.third)) (other_part 73 67 d (λ z. omega (arith, z)) p.fourth)) (other_part 73 74 e (λ z. omega (arith, z)) p.fifth))
    (other_part 73 83 f (λ z. omega (arith, z)) p.sixth)

version_known : (cs : List AnyCode) (b : Bool) → (version_letter cs == 77) ≡ b → (version_letter cs ≢ 77 → ⊥) → version_letter cs ≡ 77
version_known cs true e h = test_like (version_letter cs) 77 e
version_known cs false e h = absurd (h (test_unlike (version_letter cs) 77 e))

file_m : (p q : List AnyCode) (t u v w x y z : Bool) (a b c d e f g l0 l1 l2 l3 l4 : List AnyCode) → Parts a b c d e f g → p ≡ (((a ++ b) ++ c) ++ d) ++ e → q ≡ ((((a ++ b) ++ c) ++ d) ++ e) ++ f → Dues 77 p q t u v w x y z a b c d e f g l0 l1 l2 l3 l4 → IsOfFile 77 (seven a b c d e f g)
file_m p q t u v w x y z a b c d e f g l0 l1 l2 l3 l4 parts five six h =
    let front : List AnyCode = ((((a ++ b) ++ c) ++ d) ++ e) ++ f in
    let size = length-append ((((a ++ b) ++ c) ++ d) ++ e) f in
    let all = length-append front g in
    let some : 0 < length front = elim (some_or_none p) [
      | inl none ↦
          let group = h.sixth.group (sixth_due p y (ap length none)) in
          omega (arith, size, group.count)
      | inr some ↦ let n = ap length five in omega (arith, size, some, n)
    ] in
    elim (some_or_none g) [
      | inl none ↦
          let whole : seven a b c d e f g ≡ front = ap (λ (l : List AnyCode). front ++ l) none ∙ append-nil front in
          let letter : version_letter q ≡ 77 = version_known q (version_letter q == 77) refl (λ other.
          let group = h.last.group (last_due q z other) in
          let n = ap length none in omega (arith, n, group.count)) in
          record { some = omega (arith, all, some); letter = ap version_letter (whole ∙ sym six) ∙ letter }
      | inr more ↦ record { some = omega (arith, all, some); letter = mixed_version 73 front g some (not_last a b c d e f g parts) more parts.last.own }
    ]

pub at_file : (P : ℕ → Type 0) (l k : ℕ) → k < 8 → slice_index_or (codes "GRECJSIM") k l ≡ l → P 71 → P 82 → P 69 → P 67 → P 74 → P 83 → P 73 → P 77 → P l
at_file P l zero lt e g r x b j s i m = subst P e g
at_file P l (suc zero) lt e g r x b j s i m = subst P e r
at_file P l (suc (suc zero)) lt e g r x b j s i m = subst P e x
at_file P l (suc (suc (suc zero))) lt e g r x b j s i m = subst P e b
at_file P l (suc (suc (suc (suc zero)))) lt e g r x b j s i m = subst P e j
at_file P l (suc (suc (suc (suc (suc zero))))) lt e g r x b j s i m = subst P e s
at_file P l (suc (suc (suc (suc (suc (suc zero)))))) lt e g r x b j s i m = subst P e i
at_file P l (suc (suc (suc (suc (suc (suc (suc zero))))))) lt e g r x b j s i m = subst P e m
at_file P l (suc (suc (suc (suc (suc (suc (suc (suc k)))))))) lt e g r x b j s i m = absurd (omega arith)

file_read : (file : ℕ) (p q : List AnyCode) (t u v w x y z : Bool) (a b c d e f g l0 l1 l2 l3 l4 : List AnyCode) → IsFileLetter file → Parts a b c d e f g → p ≡ (((a ++ b) ++ c) ++ d) ++ e → q ≡ ((((a ++ b) ++ c) ++ d) ++ e) ++ f
    → Dues file p q t u v w x y z a b c d e f g l0 l1 l2 l3 l4 → IsOfFile file (seven a b c d e f g)
file_read file p q t u v w x y z a b c d e f g l0 l1 l2 l3 l4 letter parts five six =
    at_file (λ l. Dues l p q t u v w x y z a b c d e f g l0 l1 l2 l3 l4 → IsOfFile l (seven a b c d e f g)) file letter.0 letter.1 letter.2
    (file_1 p q t u v w x y z a b c d e f g l0 l1 l2 l3 l4)
    (file_2 p q t u v w x y z a b c d e f g l0 l1 l2 l3 l4)
    (file_3 p q t u v w x y z a b c d e f g l0 l1 l2 l3 l4)
    (file_4 p q t u v w x y z a b c d e f g l0 l1 l2 l3 l4)
    (file_5 p q t u v w x y z a b c d e f g l0 l1 l2 l3 l4)
    (file_6 p q t u v w x y z a b c d e f g l0 l1 l2 l3 l4)
    (file_7 p q t u v w x y z a b c d e f g l0 l1 l2 l3 l4)
    (file_m p q t u v w x y z a b c d e f g l0 l1 l2 l3 l4 parts five six)

-- ---- what a list of a file has

some_listed : (file : ℕ) (cs : List AnyCode) → IsListOf file cs → 0 < length cs
some_listed file cs h = omega (arith, h.list.count)

file_own : (file : ℕ) (cs : List AnyCode) → IsListOf file cs → file ≢ 77 → All (λ c. letter c ≡ file) cs
file_own file cs h other = version_own file cs (some_listed file cs h) h.letter other

file_group : (file s : ℕ) (cs : List AnyCode) (b : Bool) → (file == s) ≡ b → IsListOf file cs → IsGroup s (codes_of s cs) → file ≢ 77 → file ≡ s
file_group file s cs true e h g other = test_like file s e
file_group file s cs false e h g other =
    absurd (let none = none_own s file cs (test_unlike file s e) (file_own file cs h other) in let n = ap length none in omega (arith, n, g.count))

file_none : (file s : ℕ) (cs : List AnyCode) → IsListOf file cs → codes_of s cs ≡ [] → file ≢ 77 → file ≢ s
file_none file s cs h none other e =
    let own = subst (λ (l : ℕ). All (λ c. letter c ≡ l) cs) e (file_own file cs h other) in
    let n = ap length (sym (own_codes s cs own) ∙ none) in
    let some = some_listed file cs h in
    omega (arith, n, some)

pub group_or_none : (file s : ℕ) (cs : List AnyCode) → HaveOnePlace → codes_of_letter s ≤ 16 → IsListOf file cs → (codes_of s cs ≡ []) ⊎ IsGroup s (codes_of s cs)
group_or_none file s cs place few h =
    let unlike : AllPairs (λ c d. c ≢ d) cs = λ i j d lt within. (h.list.order i j d lt within).unlike in
    elim (some_or_none (codes_of s cs)) [
      | inl none ↦ inl none
      | inr some ↦
          let most = most_unlike s cs place unlike in
          inr (record {
            count = (some, omega (arith, most, few));
            own = λ k d lt. eqb-true _ _ (filter_passes (λ c. letter c == s) cs k d lt);
            distinct = AllPairs-filter (λ c d. c ≢ d) (λ c. letter c == s) cs unlike;
          })
    ]

begun : (b : Bool) (P : Type 0) → Decides b P → P → b ≡ true
begun b P h p = h.1 p

not_begun : (b : Bool) (P : Type 0) → Decides b P → (P → ⊥) → b ≡ false
not_begun false P h never = refl
not_begun true P h never = absurd (never (h.0 refl))

taken : (doppler : Bool) (text : List ℕ) (file s : ℕ) (old new : List AnyCode) (out written : List ℕ) (r : ReadsSystem doppler text file s old new out written) (cs : List AnyCode) → IsListOf file cs
    → IsGroup s (codes_of s cs) → take 1 (drop (length out) text) ≡ s ∷ [] → ShowsGroup doppler s (drop (length out) text) r.codes
taken doppler text file s old new out written r cs h g first =
    r.due (subst (λ (b : Bool). is_due file s old b ≡ true) (sym (begun r.begins (take 1 (drop (length out) text) ≡ s ∷ []) r.letter first))
    (due_begun file s old (file_group file s cs (file == s) refl h g)))

skipped : (doppler : Bool) (text : List ℕ) (file s : ℕ) (old new : List AnyCode) (out written : List ℕ) (r : ReadsSystem doppler text file s old new out written) (cs : List AnyCode) → IsListOf file cs
    → codes_of s cs ≡ [] → (file ≡ 77 → s ≡ 83 → length old ≢ 0) → (file ≡ 77 → s ≡ 73 → version_letter old ≡ 77) → take 1 (drop (length out) text) ≢ s ∷ [] → r.codes ≡ []
skipped doppler text file s old new out written r cs h none six last first =
    r.none (subst (λ (b : Bool). is_due file s old b ≡ false) (sym (not_begun r.begins (take 1 (drop (length out) text) ≡ s ∷ []) r.letter first))
    (due_passed file s old (file_none file s cs h none) six last))

-- ---- all systems

pub record SystemsRead (doppler : Bool) (text : List ℕ) (file : ℕ) (out written : List ℕ) (listed : List AnyCode) : Type 0 where
  pub good : IsListOf file listed
  pub put : written ≡ out ++ types_and_unit doppler listed
  pub shown : Reads {V = List AnyCode} (IsListOf file) (λ ds. ds ≡ listed) (types_and_unit doppler) (drop (length out) text) listed

in_row : (o a b c d e f g u : List ℕ) → (((((((o ++ a) ++ b) ++ c) ++ d) ++ e) ++ f) ++ g) ++ u ≡ o ++ (a ++ (b ++ (c ++ (d ++ (e ++ (f ++ (g ++ u)))))))
in_row o a b c d e f g u = simp append_assoc

due_of : (doppler : Bool) (text : List ℕ) (file s : ℕ) (old new : List AnyCode) (out written : List ℕ) (r : ReadsSystem doppler text file s old new out written) → Due file s old r.begins r.codes
due_of doppler text file s old new out written r = record { group = λ e. (r.due e).group; none = r.none }

same_seven : (a b c d e f g h i j k l m n : List AnyCode) → a ≡ h → b ≡ i → c ≡ j → d ≡ k → e ≡ l → f ≡ m → g ≡ n → seven a b c d e f g ≡ seven h i j k l m n
same_seven a b c d e f g h i j k l m n p q r s t u v = rw (p, q, r, s, t, u, v) refl

pub systems_read : (doppler : Bool) (text : List ℕ) (file : ℕ) (l0 l1 l2 l3 l4 l5 l6 l7 : List AnyCode) (o0 o1 o2 o3 o4 o5 o6 o7 end : List ℕ) → IsFileLetter file → HaveOnePlace → l0 ≡ [] → (r1 : ReadsSystem doppler text file 71 l0 l1 o0 o1) → (r2 : ReadsSystem doppler text file 82 l1 l2 o1 o2) → (r3 : ReadsSystem doppler text file 69 l2 l3 o2 o3) → (r4 : ReadsSystem doppler text file 67 l3 l4 o3 o4) → (r5 : ReadsSystem doppler text file 74 l4 l5 o4 o5) → (r6 : ReadsSystem doppler text file 83 l5 l6 o5 o6) → (r7 : ReadsSystem doppler text file 73 l6 l7 o6 o7)
    → length l7 ≤ 69 → end ≡ o7 ++ unit_line → SystemsRead doppler text file o0 end l7
systems_read doppler text file l0 l1 l2 l3 l4 l5 l6 l7 o0 o1 o2 o3 o4 o5 o6 o7 end known_file place empty r1 r2 r3 r4 r5 r6 r7 few last =
    let V : Type 0 = List AnyCode in
    let g1 : List AnyCode = r1.codes in
    let g2 : List AnyCode = r2.codes in
    let g3 : List AnyCode = r3.codes in
    let g4 : List AnyCode = r4.codes in
    let g5 : List AnyCode = r5.codes in
    let g6 : List AnyCode = r6.codes in
    let g7 : List AnyCode = r7.codes in
    let parts : Parts g1 g2 g3 g4 g5 g6 g7 = record {
      first = part_of doppler text file 71 l0 l1 o0 o1 r1;
      second = part_of doppler text file 82 l1 l2 o1 o2 r2;
      third = part_of doppler text file 69 l2 l3 o2 o3 r3;
      fourth = part_of doppler text file 67 l3 l4 o3 o4 r4;
      fifth = part_of doppler text file 74 l4 l5 o4 o5 r5;
      sixth = part_of doppler text file 83 l5 l6 o5 o6 r6;
      last = part_of doppler text file 73 l6 l7 o6 o7 r7;
    } in
    let is1 : l1 ≡ g1 = r1.listed ∙ ap (λ (x : List AnyCode). x ++ g1) empty in
    let is2 : l2 ≡ g1 ++ g2 = r2.listed ∙ ap (λ (x : List AnyCode). x ++ g2) is1 in
    let is3 : l3 ≡ (g1 ++ g2) ++ g3 = r3.listed ∙ ap (λ (x : List AnyCode). x ++ g3) is2 in
    let is4 : l4 ≡ ((g1 ++ g2) ++ g3) ++ g4 = r4.listed ∙ ap (λ (x : List AnyCode). x ++ g4) is3 in
    let is5 : l5 ≡ (((g1 ++ g2) ++ g3) ++ g4) ++ g5 = r5.listed ∙ ap (λ (x : List AnyCode). x ++ g5) is4 in
    let is6 : l6 ≡ ((((g1 ++ g2) ++ g3) ++ g4) ++ g5) ++ g6 = r6.listed ∙ ap (λ (x : List AnyCode). x ++ g6) is5 in
    let is7 : l7 ≡ seven g1 g2 g3 g4 g5 g6 g7 = r7.listed ∙ ap (λ (x : List AnyCode). x ++ g7) is6 in
    let own1 : codes_of 71 l7 ≡ g1 = ap (codes_of 71) is7 ∙ part_1 g1 g2 g3 g4 g5 g6 g7 parts in
    let own2 : codes_of 82 l7 ≡ g2 = ap (codes_of 82) is7 ∙ part_2 g1 g2 g3 g4 g5 g6 g7 parts in
    let own3 : codes_of 69 l7 ≡ g3 = ap (codes_of 69) is7 ∙ part_3 g1 g2 g3 g4 g5 g6 g7 parts in
    let own4 : codes_of 67 l7 ≡ g4 = ap (codes_of 67) is7 ∙ part_4 g1 g2 g3 g4 g5 g6 g7 parts in
    let own5 : codes_of 74 l7 ≡ g5 = ap (codes_of 74) is7 ∙ part_5 g1 g2 g3 g4 g5 g6 g7 parts in
    let own6 : codes_of 83 l7 ≡ g6 = ap (codes_of 83) is7 ∙ part_6 g1 g2 g3 g4 g5 g6 g7 parts in
    let own7 : codes_of 73 l7 ≡ g7 = ap (codes_of 73) is7 ∙ part_7 g1 g2 g3 g4 g5 g6 g7 parts in
    let dues : Dues file l5 l6 r1.begins r2.begins r3.begins r4.begins r5.begins r6.begins r7.begins g1 g2 g3 g4 g5 g6 g7 l0 l1 l2 l3 l4 = record {
      first = due_of doppler text file 71 l0 l1 o0 o1 r1;
      second = due_of doppler text file 82 l1 l2 o1 o2 r2;
      third = due_of doppler text file 69 l2 l3 o2 o3 r3;
      fourth = due_of doppler text file 67 l3 l4 o3 o4 r4;
      fifth = due_of doppler text file 74 l4 l5 o4 o5 r5;
      sixth = due_of doppler text file 83 l5 l6 o5 o6 r6;
      last = due_of doppler text file 73 l6 l7 o6 o7 r7;
    } in
    let of : IsOfFile file l7 = subst (λ (x : List AnyCode). IsOfFile file x) (sym is7)
    (file_read file l5 l6 r1.begins r2.begins r3.begins r4.begins r5.begins r6.begins r7.begins g1 g2 g3 g4 g5 g6 g7 l0 l1 l2 l3 l4 known_file parts is5 is6 dues) in
    let good : IsListOf file l7 = record {
      list = record { count = (of.some, few); order = subst (λ (x : List AnyCode). AllPairs AreInOrder x) (sym is7) (ordered_seven g1 g2 g3 g4 g5 g6 g7 parts) };
      letter = of.letter;
    } in
    let If0 : V → Type 0 = IsListOf file in
    let If1 : V → Type 0 = λ u. If0 u × (codes_of 71 u ≡ g1) in
    let If2 : V → Type 0 = λ u. If1 u × (codes_of 82 u ≡ g2) in
    let If3 : V → Type 0 = λ u. If2 u × (codes_of 69 u ≡ g3) in
    let If4 : V → Type 0 = λ u. If3 u × (codes_of 67 u ≡ g4) in
    let If5 : V → Type 0 = λ u. If4 u × (codes_of 74 u ≡ g5) in
    let If6 : V → Type 0 = λ u. If5 u × (codes_of 83 u ≡ g6) in
    let If7 : V → Type 0 = λ u. If6 u × (codes_of 73 u ≡ g7) in
    let Same : V → Type 0 = λ u. u ≡ l7 in
    let told : (u : V) → If7 u → u ≡ l7 = λ u h.
    in_groups u h.0.0.0.0.0.0.0.list.order
    ∙ same_seven (codes_of 71 u) (codes_of 82 u) (codes_of 69 u) (codes_of 67 u) (codes_of 74 u) (codes_of 83 u) (codes_of 73 u) g1 g2 g3 g4 g5 g6 g7
    h.0.0.0.0.0.0.1 h.0.0.0.0.0.1 h.0.0.0.0.1 h.0.0.0.1 h.0.0.1 h.0.1 h.1
    ∙ sym is7 in
    let end_read : Reads If7 Same (λ u. unit_line) (drop (length o7) text) l7 =
    reads_from If7 If7 If7 Same (λ u. unit_line) (drop (length o7) text) l7 (λ u h. h) (λ u h k. told u k) (reads_fixed If7 unit_line (drop (length o7) text) l7) in
    let six_some : (u : V) → If5 u → codes_of 83 u ≡ [] → file ≡ 77 → 83 ≡ 83 → length l5 ≢ 0 = λ u h none mixed same zero.
    let nothing : l5 ≡ [] = nil_from_length l5 zero in
    let all : u ≡ codes_of 73 u =
    in_groups u h.0.0.0.0.0.list.order
    ∙ same_seven (codes_of 71 u) (codes_of 82 u) (codes_of 69 u) (codes_of 67 u) (codes_of 74 u) (codes_of 83 u) (codes_of 73 u) g1 g2 g3 g4 g5 [] (codes_of 73 u)
    h.0.0.0.0.1 h.0.0.0.1 h.0.0.1 h.0.1 h.1 none refl
    ∙ ap (λ (x : List AnyCode). (x ++ []) ++ codes_of 73 u) (sym is5 ∙ nothing) in
    let some = some_listed file u h.0.0.0.0.0 in
    let own : All (λ c. letter c ≡ 73) u = subst (λ (x : List AnyCode). All (λ c. letter c ≡ 73) x) (sym all) (λ k d lt. eqb-true _ _ (filter_passes (λ c. letter c == 73) u k d lt)) in
    let one = own_version 73 u some own in
    let other = h.0.0.0.0.0.letter in
    omega (arith, one, other, mixed) in
    let last_mixed : (u : V) → If6 u → codes_of 73 u ≡ [] → file ≡ 77 → 73 ≡ 73 → version_letter l6 ≡ 77 = λ u h none mixed same.
    let all : u ≡ l6 =
    in_groups u h.0.0.0.0.0.0.list.order
    ∙ same_seven (codes_of 71 u) (codes_of 82 u) (codes_of 69 u) (codes_of 67 u) (codes_of 74 u) (codes_of 83 u) (codes_of 73 u) g1 g2 g3 g4 g5 g6 []
    h.0.0.0.0.0.1 h.0.0.0.0.1 h.0.0.0.1 h.0.0.1 h.0.1 h.1 none
    ∙ append-nil (((((g1 ++ g2) ++ g3) ++ g4) ++ g5) ++ g6) ∙ sym is6 in
    ap version_letter (sym all) ∙ h.0.0.0.0.0.0.letter ∙ mixed in
    let read7 : Reads If6 Same (from doppler (73 ∷ [])) (drop (length o6) text) l7 =
    reads_system doppler If6 Same (codes_of 73) 73 ([]) g7 (from doppler ([])) text o6 o7 l7 (λ z. omega (arith, z)) refl place own7
    (λ u h. group_or_none file 73 u place (omega arith) h.0.0.0.0.0.0) (λ u. starts_from doppler ([]) u) r7.put
    (λ u h g first. taken doppler text file 73 l6 l7 o6 o7 r7 u h.0.0.0.0.0.0 g first)
    (λ u h none first. skipped doppler text file 73 l6 l7 o6 o7 r7 u h.0.0.0.0.0.0 none (λ m z. absurd (omega (arith, z))) (last_mixed u h none) first) end_read in
    let read6 : Reads If5 Same (from doppler (83 ∷ 73 ∷ [])) (drop (length o5) text) l7 =
    reads_system doppler If5 Same (codes_of 83) 83 (73 ∷ []) g6 (from doppler (73 ∷ [])) text o5 o6 l7 (λ z. omega (arith, z)) refl place own6
    (λ u h. group_or_none file 83 u place (omega arith) h.0.0.0.0.0) (λ u. starts_from doppler (73 ∷ []) u) r6.put
    (λ u h g first. taken doppler text file 83 l5 l6 o5 o6 r6 u h.0.0.0.0.0 g first)
    (λ u h none first. skipped doppler text file 83 l5 l6 o5 o6 r6 u h.0.0.0.0.0 none (six_some u h none) (λ m z. absurd (omega (arith, z))) first) read7 in
    let read5 : Reads If4 Same (from doppler (74 ∷ 83 ∷ 73 ∷ [])) (drop (length o4) text) l7 =
    reads_system doppler If4 Same (codes_of 74) 74 (83 ∷ 73 ∷ []) g5 (from doppler (83 ∷ 73 ∷ [])) text o4 o5 l7 (λ z. omega (arith, z)) refl place own5
    (λ u h. group_or_none file 74 u place (omega arith) h.0.0.0.0) (λ u. starts_from doppler (83 ∷ 73 ∷ []) u) r5.put
    (λ u h g first. taken doppler text file 74 l4 l5 o4 o5 r5 u h.0.0.0.0 g first)
    (λ u h none first. skipped doppler text file 74 l4 l5 o4 o5 r5 u h.0.0.0.0 none (λ m z. absurd (omega (arith, z))) (λ m z. absurd (omega (arith, z))) first) read6 in
    let read4 : Reads If3 Same (from doppler (67 ∷ 74 ∷ 83 ∷ 73 ∷ [])) (drop (length o3) text) l7 =
    reads_system doppler If3 Same (codes_of 67) 67 (74 ∷ 83 ∷ 73 ∷ []) g4 (from doppler (74 ∷ 83 ∷ 73 ∷ [])) text o3 o4 l7 (λ z. omega (arith, z)) refl place own4
    (λ u h. group_or_none file 67 u place (omega arith) h.0.0.0) (λ u. starts_from doppler (74 ∷ 83 ∷ 73 ∷ []) u) r4.put
    (λ u h g first. taken doppler text file 67 l3 l4 o3 o4 r4 u h.0.0.0 g first)
    (λ u h none first. skipped doppler text file 67 l3 l4 o3 o4 r4 u h.0.0.0 none (λ m z. absurd (omega (arith, z))) (λ m z. absurd (omega (arith, z))) first) read5 in
    let read3 : Reads If2 Same (from doppler (69 ∷ 67 ∷ 74 ∷ 83 ∷ 73 ∷ [])) (drop (length o2) text) l7 =
    reads_system doppler If2 Same (codes_of 69) 69 (67 ∷ 74 ∷ 83 ∷ 73 ∷ []) g3 (from doppler (67 ∷ 74 ∷ 83 ∷ 73 ∷ [])) text o2 o3 l7 (λ z. omega (arith, z)) refl place own3
    (λ u h. group_or_none file 69 u place (omega arith) h.0.0) (λ u. starts_from doppler (67 ∷ 74 ∷ 83 ∷ 73 ∷ []) u) r3.put
    (λ u h g first. taken doppler text file 69 l2 l3 o2 o3 r3 u h.0.0 g first)
    (λ u h none first. skipped doppler text file 69 l2 l3 o2 o3 r3 u h.0.0 none (λ m z. absurd (omega (arith, z))) (λ m z. absurd (omega (arith, z))) first) read4 in
    let read2 : Reads If1 Same (from doppler (82 ∷ 69 ∷ 67 ∷ 74 ∷ 83 ∷ 73 ∷ [])) (drop (length o1) text) l7 =
    reads_system doppler If1 Same (codes_of 82) 82 (69 ∷ 67 ∷ 74 ∷ 83 ∷ 73 ∷ []) g2 (from doppler (69 ∷ 67 ∷ 74 ∷ 83 ∷ 73 ∷ [])) text o1 o2 l7 (λ z. omega (arith, z)) refl place own2
    (λ u h. group_or_none file 82 u place (omega arith) h.0) (λ u. starts_from doppler (69 ∷ 67 ∷ 74 ∷ 83 ∷ 73 ∷ []) u) r2.put
    (λ u h g first. taken doppler text file 82 l1 l2 o1 o2 r2 u h.0 g first)
    (λ u h none first. skipped doppler text file 82 l1 l2 o1 o2 r2 u h.0 none (λ m z. absurd (omega (arith, z))) (λ m z. absurd (omega (arith, z))) first) read3 in
    let read1 : Reads If0 Same (from doppler (71 ∷ 82 ∷ 69 ∷ 67 ∷ 74 ∷ 83 ∷ 73 ∷ [])) (drop (length o0) text) l7 =
    reads_system doppler If0 Same (codes_of 71) 71 (82 ∷ 69 ∷ 67 ∷ 74 ∷ 83 ∷ 73 ∷ []) g1 (from doppler (82 ∷ 69 ∷ 67 ∷ 74 ∷ 83 ∷ 73 ∷ [])) text o0 o1 l7 (λ z. omega (arith, z)) refl place own1
    (λ u h. group_or_none file 71 u place (omega arith) h) (λ u. starts_from doppler (82 ∷ 69 ∷ 67 ∷ 74 ∷ 83 ∷ 73 ∷ []) u) r1.put
    (λ u h g first. taken doppler text file 71 l0 l1 o0 o1 r1 u h g first)
    (λ u h none first. skipped doppler text file 71 l0 l1 o0 o1 r1 u h none (λ m z. absurd (omega (arith, z))) (λ m z. absurd (omega (arith, z))) first) read2 in
    let lines : types_and_unit doppler l7 ≡ system_types_lines doppler 71 g1 ++ (system_types_lines doppler 82 g2 ++ (system_types_lines doppler 69 g3 ++ (system_types_lines doppler 67 g4 ++ (system_types_lines doppler 74 g5 ++ (system_types_lines doppler 83 g6 ++ (system_types_lines doppler 73 g7 ++ unit_line)))))) =
    types_from doppler l7 ∙ (rw (own1, own2, own3, own4, own5, own6, own7) refl) in
    record {
      good = good;
      put = last ∙ ap (λ (x : List ℕ). x ++ unit_line) (r7.put ∙ ap (λ (x : List ℕ). x ++ system_types_lines doppler 73 g7) (r6.put ∙ ap (λ (x : List ℕ). x ++ system_types_lines doppler 83 g6)
          (r5.put ∙ ap (λ (x : List ℕ). x ++ system_types_lines doppler 74 g5) (r4.put ∙ ap (λ (x : List ℕ). x ++ system_types_lines doppler 67 g4)
          (r3.put ∙ ap (λ (x : List ℕ). x ++ system_types_lines doppler 69 g3) (r2.put ∙ ap (λ (x : List ℕ). x ++ system_types_lines doppler 82 g2) r1.put))))))
          ∙ in_row o0 _ _ _ _ _ _ _ _ ∙ ap (λ (x : List ℕ). o0 ++ x) (sym lines);
      shown = λ u ls rest more h ok e t.
          let r = read1 u ls rest more h ok (sym (types_from doppler u) ∙ e) t in
          record { rest = r.rest; begins = types_from doppler l7 ∙ r.begins; whole = r.whole };
    }
