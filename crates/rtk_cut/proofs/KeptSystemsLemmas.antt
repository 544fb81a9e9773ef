-- The systems that are kept of a file: its codes and its head; and that the file stays well-formed.
use Rattle.std.proofs.Common.{◌≡◌, ◌<◌, ◌≤◌, ◌==◌, ◌||◌, ℕ, Bool, true, false, true≢false, cond, if◌then◌else◌, Option, None, Some, List, [], ◌∷◌, map, length, get_or, inl, inr, refl, sym, ap, subst, ◌∙◌, arith}
use Rattle.std.specs.Prelude.{All, AllPairs, Any}
use Rattle.std.specs.List.{filter, list_any}
use Rattle.std.proofs.lemmas.Bool.{eqb-true}
use Rattle.std.proofs.lemmas.List.{length-map, get_or-map}
use Rattle.std.proofs.lemmas.List.Elements.{All-filter, All-map, All-weaker, filter_passes}
use Rattle.std.proofs.lemmas.List.Folds.{list_any-from_Any}
use Rattle.std.proofs.lemmas.List.Kept.{AllPairs-filter}
use Rattle.std.proofs.lemmas.List.Sums.{length-filter, count_by-le-length}
use Rattle.rtk_message.specs.declared.system.System.{System}
use Rattle.rtk_message.specs.declared.system.System.TheVariants.{Gps, Glonass, Galileo, Beidou, Qzss, Sbas, Navic}
use Rattle.rtk_obs.specs.declared.any_code.AnyCode.{AnyCode}
use Rattle.rtk_obs.specs.AnyCode.{system_of}
use Rattle.rtk_obs.specs.SatelliteIndex.{system_at, bit_at, letter_of}
use Rattle.rtk_rinex.specs.declared.epoch_table.SatelliteRow.{SatelliteRow}
use Rattle.rtk_rinex.specs.declared.mixed_head_fault.MixedHeadFault.{MixedHeadFault}
use Rattle.rtk_rinex.specs.declared.mixed_head_fault.MixedHeadFault.TheVariants.{Codes, Glonass as NotTold}
use Rattle.rtk_rinex.specs.MixedForm.{FormView, codes_in, has_channel, phases_in, form_of_head}
use Rattle.rtk_rinex.specs.MixedHead.{GlonassView, MixedHeadView, AreInOrder, IsMixedList, IsMixedHead, IsMixedHeadFault, TellsGlonass, letter}
use Rattle.rtk_rinex.specs.MixedHeader.{codes_of}
use Rattle.rtk_rinex.specs.MixedTable.{MixedTable, IsMixedTable, IsMixedRow, IsMixedEpoch}
use Rattle.rtk_obs.specs.Reading.{IsMoment}
use Rattle.rtk_rinex.specs.Record.{EpochTableView}
use Rattle.rtk_rinex.specs.declared.system_flags.SystemFlags.{SystemFlags}
use Rattle.rtk_rinex.specs.SystemFlags.{flag_of}
use Rattle.rtk_cut.specs.KeptSystems.{kept_codes, kept_glonass, kept_head, keeps_row, kept_epoch, keeps_some, kept_epochs, kept_table}
use Rattle.rtk_cut.specs.KeptLaws.{HasRowAt}
use Rattle.rtk_cut.proofs.AnyLemmas.{any-here, any-there, any-split, any-where, any-weaker, any-map, any-unmap, any-filter}
use Rattle.rtk_cut.proofs.LawLemmas.{first-starts, first-good}

-- ---- lists of which some elements are kept

pub filter-true : {X : Type 0} (p : X → Bool) (x : X) (xs : List X) → p x ≡ true → filter p (x ∷ xs) ≡ x ∷ filter p xs
filter-true p x xs on = ap (λ b. cond b (x ∷ filter p xs) (filter p xs)) on

pub filter-false : {X : Type 0} (p : X → Bool) (x : X) (xs : List X) → p x ≡ false → filter p (x ∷ xs) ≡ filter p xs
filter-false p x xs off = ap (λ b. cond b (x ∷ filter p xs) (filter p xs)) off

any-past : {X : Type 0} (p : X → Bool) (x : X) (xs : List X) → p x ≡ false → list_any p (x ∷ xs) ≡ list_any p xs
any-past p x xs off = ap (λ b. b || list_any p xs) off

any-first : {X : Type 0} (p : X → Bool) (x : X) (xs : List X) → p x ≡ true → list_any p (x ∷ xs) ≡ true
any-first p x xs on = ap (λ b. b || list_any p xs) on

filter-short : {X : Type 0} (p : X → Bool) (xs : List X) → length (filter p xs) ≤ length xs
filter-short p xs = let counted = length-filter p xs in let few = count_by-le-length p xs in omega (arith, counted, few)

nonempty : {X : Type 0} (xs : List X) → (xs ≡ [] → ⊥) → 1 ≤ length xs
nonempty [] some = absurd (some refl)
nonempty (x ∷ xs) some = omega arith

some-left_if : {X : Type 0} (p : X → Bool) (x : X) (xs : List X) (b : Bool) → p x ≡ b → list_any p (x ∷ xs) ≡ true → filter p (x ∷ xs) ≡ [] → (list_any p xs ≡ true → filter p xs ≡ [] → ⊥) → ⊥
some-left_if p x xs true is any none rest = let e : x ∷ filter p xs ≡ [] = sym (filter-true p x xs is) ∙ none in cc
some-left_if p x xs false is any none rest = rest (sym (any-past p x xs is) ∙ any) (sym (filter-false p x xs is) ∙ none)

-- if an element is kept, some are left
pub some-left : {X : Type 0} (p : X → Bool) (xs : List X) → list_any p xs ≡ true → filter p xs ≡ [] → ⊥
some-left p [] any none = true≢false (sym any)
some-left p (x ∷ xs) any none = some-left_if p x xs (p x) refl any none (some-left p xs)

none-left_if : {X : Type 0} (p : X → Bool) (x : X) (xs : List X) (b : Bool) → p x ≡ b → list_any p (x ∷ xs) ≡ false → (list_any p xs ≡ false → filter p xs ≡ []) → filter p (x ∷ xs) ≡ []
none-left_if p x xs true is none rest = absurd (true≢false (sym (any-first p x xs is) ∙ none))
none-left_if p x xs false is none rest = filter-false p x xs is ∙ rest (sym (any-past p x xs is) ∙ none)

-- and else none is
pub none-left : {X : Type 0} (p : X → Bool) (xs : List X) → list_any p xs ≡ false → filter p xs ≡ []
none-left p [] none = refl
none-left p (x ∷ xs) none = none-left_if p x xs (p x) refl none (none-left p xs)

filter-twice_if : {X : Type 0} (p q : X → Bool) (x : X) (xs : List X) (a b : Bool) → p x ≡ a → q x ≡ b → (q x ≡ true → p x ≡ true) → filter q (filter p xs) ≡ filter q xs → filter q (filter p (x ∷ xs)) ≡ filter q (x ∷ xs)
filter-twice_if p q x xs true true pa qb within rest =
    ap (filter q) (filter-true p x xs pa) ∙ filter-true q x (filter p xs) qb ∙ ap (λ l. x ∷ l) rest ∙ sym (filter-true q x xs qb)
filter-twice_if p q x xs true false pa qb within rest =
    ap (filter q) (filter-true p x xs pa) ∙ filter-false q x (filter p xs) qb ∙ rest ∙ sym (filter-false q x xs qb)
filter-twice_if p q x xs false true pa qb within rest = absurd (true≢false (sym (within qb) ∙ pa))
filter-twice_if p q x xs false false pa qb within rest = ap (filter q) (filter-false p x xs pa) ∙ rest ∙ sym (filter-false q x xs qb)

-- of elements that are all kept, each stays
filter-twice : {X : Type 0} (p q : X → Bool) → ((x : X) → q x ≡ true → p x ≡ true) → (xs : List X) → filter q (filter p xs) ≡ filter q xs
filter-twice p q within [] = refl
filter-twice p q within (x ∷ xs) = filter-twice_if p q x xs (p x) (q x) refl refl (within x) (filter-twice p q within xs)

any-kept_if : {X : Type 0} (p q : X → Bool) (x : X) (xs : List X) (a : Bool) → p x ≡ a → (q x ≡ true → p x ≡ true) → list_any q (filter p xs) ≡ list_any q xs → (b : Bool) → q x ≡ b → list_any q (filter p (x ∷ xs)) ≡ list_any q (x ∷ xs)
any-kept_if p q x xs true pa within rest b qb = ap (list_any q) (filter-true p x xs pa) ∙ ap (λ l. q x || l) rest
any-kept_if p q x xs false pa within rest true qb = absurd (true≢false (sym (within qb) ∙ pa))
any-kept_if p q x xs false pa within rest false qb = ap (list_any q) (filter-false p x xs pa) ∙ rest ∙ sym (any-past q x xs qb)

any-of_kept : {X : Type 0} (p q : X → Bool) → ((x : X) → q x ≡ true → p x ≡ true) → (xs : List X) → list_any q (filter p xs) ≡ list_any q xs
any-of_kept p q within [] = refl
any-of_kept p q within (x ∷ xs) = any-kept_if p q x xs (p x) refl (within x) (any-of_kept p q within xs) (q x) refl

any-gone_if : {X : Type 0} (p q : X → Bool) (x : X) (xs : List X) (a b : Bool) → p x ≡ a → q x ≡ b → (q x ≡ true → p x ≡ false) → list_any q (filter p xs) ≡ false → list_any q (filter p (x ∷ xs)) ≡ false
any-gone_if p q x xs true true pa qb apart rest = absurd (true≢false (sym pa ∙ apart qb))
any-gone_if p q x xs true false pa qb apart rest = ap (list_any q) (filter-true p x xs pa) ∙ any-past q x (filter p xs) qb ∙ rest
any-gone_if p q x xs false b pa qb apart rest = ap (list_any q) (filter-false p x xs pa) ∙ rest

any-of_gone : {X : Type 0} (p q : X → Bool) → ((x : X) → q x ≡ true → p x ≡ false) → (xs : List X) → list_any q (filter p xs) ≡ false
any-of_gone p q apart [] = refl
any-of_gone p q apart (x ∷ xs) = any-gone_if p q x xs (p x) (q x) refl refl (apart x) (any-of_gone p q apart xs)

unfilter_if : {X : Type 0} (P : X → Type 0) (p : X → Bool) (x : X) (xs : List X) (b : Bool) → p x ≡ b → Any P (filter p (x ∷ xs)) → (Any P (filter p xs) → Any P xs) → Any P (x ∷ xs)
unfilter_if P p x xs true is a rest = elim (any-split P x (filter p xs) (subst (λ l. Any P l) (filter-true p x xs is) a)) [
  | inl here ↦ any-here P x xs here
  | inr there ↦ any-there P x xs (rest there)
]
unfilter_if P p x xs false is a rest = any-there P x xs (rest (subst (λ l. Any P l) (filter-false p x xs is) a))

any-unfilter : {X : Type 0} (P : X → Type 0) (p : X → Bool) (xs : List X) → Any P (filter p xs) → Any P xs
any-unfilter P p [] a = a
any-unfilter P p (x ∷ xs) a = unfilter_if P p x xs (p x) refl a (any-unfilter P p xs)

pairs-mapped : {X Y : Type 0} (R : Y → Y → Type 0) (f : X → Y) (xs : List X) (e : X) → AllPairs (λ a b. R (f a) (f b)) xs → AllPairs R (map f xs)
pairs-mapped R f xs e pairs = λ i j d lt within.
    let size = length-map xs f in
    let high : j < length xs = omega (arith, size, within) in
    let low : i < length xs = omega (arith, lt, high) in
    let one = get_or-map f xs i e d low in
    let other = get_or-map f xs j e d high in
    rw (one, other) (pairs i j e lt high)

-- ---- the codes of a system

abbrev pub system_for : ℕ → System
system_for l =
    if l == 71 then Gps else if l == 82 then Glonass else if l == 69 then Galileo else if l == 67 then Beidou else if l == 74 then Qzss else if l == 83 then Sbas else Navic

letter-back : (s : System) → system_for (letter_of s) ≡ s
letter-back Gps = refl
letter-back Glonass = refl
letter-back Galileo = refl
letter-back Beidou = refl
letter-back Qzss = refl
letter-back Sbas = refl
letter-back Navic = refl

pub one-system : (s t : System) → letter_of s ≡ letter_of t → s ≡ t
one-system s t e = sym (letter-back s) ∙ ap system_for e ∙ letter-back t

-- a code with the letter of a system is kept as the system is
keeps-letter : (ks : SystemFlags) (s : System) (b : Bool) (c : AnyCode) → flag_of ks s ≡ b → (letter c == letter_of s) ≡ true → flag_of ks (system_of c) ≡ b
keeps-letter ks s b c kept is = ap (flag_of ks) (one-system (system_of c) s (eqb-true (letter c) (letter_of s) is)) ∙ kept

codes-same : (ks : SystemFlags) (s : System) (listed : List AnyCode) → flag_of ks s ≡ true → codes_of (letter_of s) (kept_codes ks listed) ≡ codes_of (letter_of s) listed
codes-same ks s listed kept = filter-twice (λ c. flag_of ks (system_of c)) (λ c. letter c == letter_of s) (λ c is. keeps-letter ks s true c kept is) listed

-- ---- the head

pub kept-list : (ks : SystemFlags) (listed : List AnyCode) → IsMixedList listed → (kept_codes ks listed ≡ [] → ⊥) → IsMixedList (kept_codes ks listed)
kept-list ks listed good some =
    let short = filter-short (λ c. flag_of ks (system_of c)) listed in
    let most = good.count.1 in
    record {
      count = (nonempty (kept_codes ks listed) some, omega (arith, short, most));
      order = AllPairs-filter AreInOrder (λ c. flag_of ks (system_of c)) listed good.order;
    }

tells-if : (ks : SystemFlags) (listed : List AnyCode) (g : Option GlonassView) (b : Bool) → flag_of ks Glonass ≡ b → TellsGlonass listed g → TellsGlonass (kept_codes ks listed) (if b then g else None)
tells-if ks listed None true kept told =
    any-of_kept (λ c. flag_of ks (system_of c)) (λ c. letter c == 82) (λ c is. keeps-letter ks Glonass true c kept is) listed ∙ told
tells-if ks listed (Some g) true kept told =
    (any-of_kept (λ c. flag_of ks (system_of c)) (λ c. letter c == 82) (λ c is. keeps-letter ks Glonass true c kept is) listed ∙ told.0, told.1)
tells-if ks listed g false kept told =
    any-of_gone (λ c. flag_of ks (system_of c)) (λ c. letter c == 82) (λ c is. keeps-letter ks Glonass false c kept is) listed

pub tells-kept : (ks : SystemFlags) (listed : List AnyCode) (g : Option GlonassView) → TellsGlonass listed g → TellsGlonass (kept_codes ks listed) (kept_glonass ks g)
tells-kept ks listed g told = tells-if ks listed g ks.glonass refl told

-- parts that are kept make a head
pub kept-no_fault : (ks : SystemFlags) (listed : List AnyCode) (g : Option GlonassView) (f : MixedHeadFault) → IsMixedList listed → TellsGlonass listed g → (kept_codes ks listed ≡ [] → ⊥)
    → IsMixedHeadFault (kept_codes ks listed) (kept_glonass ks g) f → ⊥
kept-no_fault ks listed g Codes good told some bad = bad (kept-list ks listed good some)
kept-no_fault ks listed g NotTold good told some bad = bad.1 (tells-kept ks listed g told)

kept-head : (ks : SystemFlags) (h : MixedHeadView) → IsMixedHead h → (kept_codes ks h.listed ≡ [] → ⊥) → IsMixedHead (kept_head ks h)
kept-head ks h good some = record {
  marker = good.marker;
  listed = kept-list ks h.listed good.listed some;
  glonass = tells-kept ks h.listed h.glonass good.glonass;
  made = good.made;
  whole_second = good.whole_second;
}

-- ---- the rows

width-same : (ks : SystemFlags) (h : MixedHeadView) (s : System) → flag_of ks s ≡ true → codes_in (form_of_head (kept_head ks h)) s ≡ codes_in (form_of_head h) s
width-same ks h Gps kept = ap length (codes-same ks Gps h.listed kept)
width-same ks h Glonass kept = ap length (codes-same ks Glonass h.listed kept)
width-same ks h Galileo kept = ap length (codes-same ks Galileo h.listed kept)
width-same ks h Beidou kept = ap length (codes-same ks Beidou h.listed kept)
width-same ks h Qzss kept = ap length (codes-same ks Qzss h.listed kept)
width-same ks h Sbas kept = ap length (codes-same ks Sbas h.listed kept)
width-same ks h Navic kept = ap length (codes-same ks Navic h.listed kept)

phases-same : (ks : SystemFlags) (h : MixedHeadView) (s : System) (bit : ℕ) → flag_of ks s ≡ true → phases_in (form_of_head (kept_head ks h)) s bit ≡ phases_in (form_of_head h) s bit
phases-same ks h Gps bit kept = refl
phases-same ks h Glonass bit kept = ap (λ b. has_channel (if b then h.glonass else None) bit) kept
phases-same ks h Galileo bit kept = refl
phases-same ks h Beidou bit kept = refl
phases-same ks h Qzss bit kept = refl
phases-same ks h Sbas bit kept = refl
phases-same ks h Navic bit kept = refl

row-stays : (ks : SystemFlags) (h : MixedHeadView) (r : SatelliteRow) → keeps_row ks r ≡ true → IsMixedRow (form_of_head h) r → IsMixedRow (form_of_head (kept_head ks h)) r
row-stays ks h r kept row = record {
  satellite = row.satellite;
  width = row.width ∙ sym (width-same ks h (system_at r.satellite) kept);
  observed = row.observed;
  phases = λ none. row.phases (sym (phases-same ks h (system_at r.satellite) (bit_at r.satellite) kept) ∙ none);
  line = row.line;
}

epoch-stays : (ks : SystemFlags) (h : MixedHeadView) (e : EpochTableView) → keeps_some ks e ≡ true → IsMixedEpoch (form_of_head h) e → IsMixedEpoch (form_of_head (kept_head ks h)) (kept_epoch ks e)
epoch-stays ks h e some good =
    let p : SatelliteRow → Bool = λ r. keeps_row ks r in
    let passed = filter_passes p e.rows in
    let all = All-filter p (IsMixedRow (form_of_head h)) e.rows good.rows in
    record {
      time = good.time;
      some = some-left p e.rows some;
      rows = λ k d lt. row-stays ks h (get_or (filter p e.rows) k d) (passed k d lt) (all k d lt);
      rise = AllPairs-filter (λ (a : SatelliteRow) (b : SatelliteRow). a.satellite < b.satellite) p e.rows good.rise;
    }

-- ---- the file

no_epoch : EpochTableView
no_epoch = record { time = 0; rows = [] }

pub kept-good : (ks : SystemFlags) (t : MixedTable) → IsMixedTable t → (kept_codes ks t.head.listed ≡ [] → ⊥) → IsMixedTable (kept_table ks t)
kept-good ks t good some =
    let p : EpochTableView → Bool = λ e. keeps_some ks e in
    let f : EpochTableView → EpochTableView = λ e. kept_epoch ks e in
    let form : FormView = form_of_head (kept_head ks t.head) in
    let passed = filter_passes p t.epochs in
    let were = All-filter p (IsMixedEpoch (form_of_head t.head)) t.epochs good.epochs in
    let all : All (IsMixedEpoch form) (map f (filter p t.epochs)) =
    All-map (IsMixedEpoch form) f (filter p t.epochs) (λ k d lt. epoch-stays ks t.head (get_or (filter p t.epochs) k d) (passed k d lt) (were k d lt)) in
    let rise = AllPairs-filter (λ (a : EpochTableView) (b : EpochTableView). a.time < b.time) p t.epochs good.rise in
    record {
      head = kept-head ks t.head good.head some;
      site = good.site;
      first = first-good None t.first (map f (filter p t.epochs)) tt good.first (All-weaker (IsMixedEpoch form) (λ (e : EpochTableView). IsMoment e.time) (λ e is. is.time) (map f (filter p t.epochs)) all);
      starts = first-starts None t.first (map f (filter p t.epochs));
      epochs = all;
      rise = pairs-mapped (λ (a : EpochTableView) (b : EpochTableView). a.time < b.time) f (filter p t.epochs) no_epoch rise;
    }

-- ---- which rows a file has

-- a record of this moment has this row
abbrev pub HasRow : ℕ → SatelliteRow → EpochTableView → Type 0
HasRow time row e = (e.time ≡ time) × Any (λ r. r ≡ row) e.rows

kept-row : (ks : SystemFlags) (time : ℕ) (row : SatelliteRow) (e : EpochTableView) → HasRow time row (kept_epoch ks e) → keeps_row ks row ≡ true
kept-row ks time row e has =
    let p : SatelliteRow → Bool = λ r. keeps_row ks r in
    let found = any-where (λ r. p r ≡ true) (λ r. r ≡ row) (filter p e.rows) (filter_passes p e.rows) has.1 in
    ap p (sym found.2) ∙ found.1

pub rows-were : (ks : SystemFlags) (es : List EpochTableView) (time : ℕ) (row : SatelliteRow) → HasRowAt time row (kept_epochs ks es) → (keeps_row ks row ≡ true) × HasRowAt time row es
rows-were ks es time row has =
    let p : SatelliteRow → Bool = λ r. keeps_row ks r in
    let one = any-unmap (HasRow time row) (λ e. kept_epoch ks e) (filter (λ e. keeps_some ks e) es) has in
    let own = any-unfilter (λ e. HasRow time row (kept_epoch ks e)) (λ e. keeps_some ks e) es one in (
      kept-row ks time row own.1 own.4,
      any-weaker (λ e. HasRow time row (kept_epoch ks e)) (HasRow time row) es (λ e is. (is.0, any-unfilter (λ r. r ≡ row) p e.rows is.1)) own,
    )

keeps-some : (ks : SystemFlags) (time : ℕ) (row : SatelliteRow) (e : EpochTableView) → keeps_row ks row ≡ true → HasRow time row (kept_epoch ks e) → keeps_some ks e ≡ true
keeps-some ks time row e kept has =
    let p : SatelliteRow → Bool = λ r. keeps_row ks r in
    list_any-from_Any p e.rows (any-weaker (λ r. r ≡ row) (λ r. p r ≡ true) e.rows (λ r is. ap p is ∙ kept) (any-unfilter (λ r. r ≡ row) p e.rows has.1))

pub rows-stay : (ks : SystemFlags) (es : List EpochTableView) (time : ℕ) (row : SatelliteRow) → (keeps_row ks row ≡ true) × HasRowAt time row es → HasRowAt time row (kept_epochs ks es)
rows-stay ks es time row (kept, has) =
    let p : SatelliteRow → Bool = λ r. keeps_row ks r in
    let one = any-weaker (HasRow time row) (λ e. HasRow time row (kept_epoch ks e)) es (λ e is. (is.0, any-filter (λ r. r ≡ row) p e.rows (λ r same. ap p same ∙ kept) is.1)) has in
    any-map (HasRow time row) (λ e. kept_epoch ks e) (filter (λ e. keeps_some ks e) es)
    (any-filter (λ e. HasRow time row (kept_epoch ks e)) (λ e. keeps_some ks e) es (λ e is. keeps-some ks time row e kept is) one)
