-- The slots of GLONASS are read back.
use Rattle.std.proofs.Common.{◌≡◌, ◌≢◌, ℕ, zero, suc, ◌+◌, ◌-◌, ◌*◌, ◌<◌, ◌≤◌, List, [], ◌∷◌, ◌++◌, length, take, drop, get_or, arith, refl, sym, ◌∙◌, ap, subst, append_assoc, length-append, inl, inr, Bool, true, false, ℤ, pos, negsuc, unsigned_abs, Option, Some, None, is_some}
use Rattle.std.specs.Prelude.{Decides}
use Rattle.std.specs.List.{count_by}
use Rattle.std.proofs.Math.Seq.{drop-append_seam}
use Rattle.std.proofs.lemmas.Bool.Decides.{leb_tells, nat_tests}
use Rattle.std.proofs.lemmas.Int.{ints}
use Rattle.std.proofs.lemmas.List.{append-nil, same_lists, get_or_default, take-append-le, take_all, drop-drop}
use Rattle.std.proofs.lemmas.List.Sums.{count_by_more_no, count_by_more_yes}
use Rattle.rtk_obs.specs.Carriers.{IsChannel, IsSlot, AreChannels, channel_at}
use Rattle.rtk_rinex.specs.Columns.{is_negative}
use Rattle.rtk_rinex.specs.MixedHeader.{channel_text, slot_text, slots_text}
use Rattle.rtk_rinex.specs.Steps.Digits.{digits_from}
use Rattle.rtk_rinex.specs.Steps.HeaderShown.{number_at}
use Rattle.rtk_rinex.specs.Steps.MixedHeaderRead.{slot_at, slot_of, HasSlots, HaveOneCount, ShowsSlots}
use Rattle.rtk_rinex.proofs.DigitsLemmas.{digits_from-last_2, take-exact}

-- ---- the columns of a slot

one_digit : (d : ℕ) → d < 10 → digits_from 0 ((48 + d) ∷ []) ≡ d
unfolding digits_from
one_digit d h = grind (arith, nat_tests)

two_of : (xs : List ℕ) (a b : ℕ) → take 2 xs ≡ a ∷ b ∷ [] → (take 1 xs ≡ a ∷ []) × (take 1 (drop 1 xs) ≡ b ∷ [])
two_of [] a b e = absurd (cc)
two_of (x ∷ []) a b e = absurd (let n = ap length e in omega (arith, n))
two_of (x ∷ y ∷ xs) a b e = (ap (λ (l : List ℕ). take 1 l) e, ap (λ (l : List ℕ). drop 1 l) e)

pub record ShowsChannel (cols : List ℕ) (k : ℤ) (b : Bool) : Type 0 where
  pub sign : b ≡ is_negative k
  pub digit : digits_from 0 (take 1 (drop 5 cols)) ≡ unsigned_abs k

not_minus : (b : Bool) (x : List ℕ) → x ≡ 32 ∷ [] → Decides b (x ≡ 45 ∷ []) → b ≡ false
not_minus false x e h = refl
not_minus true x e h = absurd (let both = sym e ∙ h.0 refl in let same : 32 ≡ 45 = ap (λ (l : List ℕ). get_or l 0 0) both in omega (arith, same))

pub channel_shown : (cols : List ℕ) (k : ℤ) (b : Bool) → IsChannel k → take 2 (drop 4 cols) ≡ channel_text k → Decides b (take 1 (drop 4 cols) ≡ 45 ∷ []) → ShowsChannel cols k b
channel_shown cols (pos n) b good e h =
    let two = two_of (drop 4 cols) 32 (48 + n) e in
    let at : drop 5 cols ≡ drop 1 (drop 4 cols) = sym (drop-drop 1 4 cols) in
    record { sign = not_minus b (take 1 (drop 4 cols)) two.0 h; digit = ap (λ (l : List ℕ). digits_from 0 (take 1 l)) at ∙ ap (digits_from 0) two.1 ∙ one_digit n (omega (arith, ints, good.1)) }
channel_shown cols (negsuc n) b good e h =
    let two = two_of (drop 4 cols) 45 (49 + n) e in
    let at : drop 5 cols ≡ drop 1 (drop 4 cols) = sym (drop-drop 1 4 cols) in
    let same : 49 + n ≡ 48 + suc n = omega arith in
    record { sign = h.1 two.0; digit = ap (λ (l : List ℕ). digits_from 0 (take 1 l)) at ∙ ap (digits_from 0) two.1 ∙ ap (λ (d : ℕ). digits_from 0 (d ∷ [])) same ∙ one_digit (suc n) (omega (arith, ints, good.0)) }

-- what the columns of a slot show
pub record SlotShown (cols : List ℕ) (slot : ℕ) (k : ℤ) : Type 0 where
  pub number : number_at 1 2 cols ≡ slot
  pub channel : take 2 (drop 4 cols) ≡ channel_text k

pub slot_shown : (cols : List ℕ) (slot : ℕ) (k : ℤ) → slot ≤ 27 → cols ≡ slot_text slot (Some k) → SlotShown cols slot k
slot_shown cols slot (pos n) small e = record { number = ap (number_at 1 2) e ∙ digits_from-last_2 slot (omega arith); channel = ap (λ (l : List ℕ). take 2 (drop 4 l)) e }
slot_shown cols slot (negsuc n) small e = record { number = ap (number_at 1 2) e ∙ digits_from-last_2 slot (omega arith); channel = ap (λ (l : List ℕ). take 2 (drop 4 l)) e }

pub length-slot_some : (slot : ℕ) (k : ℤ) → length (slot_text slot (Some k)) ≡ 7
length-slot_some slot (pos n) = refl
length-slot_some slot (negsuc n) = refl

length-slot : (slot : ℕ) (o : Option ℤ) → length (slot_text slot o) ≤ 7
length-slot slot None = omega arith
length-slot slot (Some k) = let n = length-slot_some slot k in omega (arith, n)

-- ---- the columns of slots up to a slot

-- the columns of more slots begin with those of fewer
pub record MoreText (ks : List (Option ℤ)) (a b : ℕ) : Type 0 where
  pub rest : List ℕ
  pub is : slots_text ks b ≡ slots_text ks a ++ rest
  pub few : length rest ≤ 7 * (b - a)

pub text_more : (ks : List (Option ℤ)) (a b : ℕ) → a ≤ b → MoreText ks a b
text_more ks a zero le =
    let same : a ≡ 0 = omega arith in
    record { rest = []; is = ap (slots_text ks) (sym same) ∙ sym (append-nil (slots_text ks a)); few = omega arith }
text_more ks a (suc b) le =
    elim (leb_tells a b) [
      | inl low ↦
          let m = text_more ks a b low.1 in
          let one : List ℕ = slot_text (suc b) (channel_at ks (suc b)) in
          let small = length-slot (suc b) (channel_at ks (suc b)) in
          let size = length-append m.rest one in
          record { rest = m.rest ++ one; is = ap (λ (x : List ℕ). x ++ one) m.is ∙ append_assoc (slots_text ks a) m.rest one; few = omega (arith, size, small, m.few, low.1) }
      | inr high ↦
          let same : a ≡ suc b = omega (arith, high.1, le) in
          record { rest = []; is = ap (slots_text ks) (sym same) ∙ sym (append-nil (slots_text ks a)); few = omega arith }
    ]

-- slots without a channel have no columns
pub text_jump : (ks : List (Option ℤ)) (a b : ℕ) → a ≤ b → ((s : ℕ) → a < s → s ≤ b → channel_at ks s ≡ None) → slots_text ks b ≡ slots_text ks a
text_jump ks a zero le none = let same : a ≡ 0 = omega arith in ap (slots_text ks) (sym same)
text_jump ks a (suc b) le none =
    elim (leb_tells a b) [
      | inl low ↦
          ap (λ (o : Option ℤ). slots_text ks b ++ slot_text (suc b) o) (none (suc b) (omega (arith, low.1)) (omega arith)) ∙ append-nil (slots_text ks b)
          ∙ text_jump ks a b low.1 (λ s lt high. none s lt (omega (arith, high)))
      | inr high ↦ let same : a ≡ suc b = omega (arith, high.1, le) in ap (slots_text ks) (sym same)
    ]

-- the same channels have the same columns
pub text_same : (ks us : List (Option ℤ)) (n : ℕ) → ((s : ℕ) → 1 ≤ s → s ≤ n → channel_at ks s ≡ channel_at us s) → slots_text ks n ≡ slots_text us n
text_same ks us zero h = refl
text_same ks us (suc n) h =
    ap (λ (x : List ℕ). x ++ slot_text (suc n) (channel_at ks (suc n))) (text_same ks us n (λ s low high. h s low (omega (arith, high))))
    ∙ ap (λ (o : Option ℤ). slots_text us n ++ slot_text (suc n) o) (h (suc n) (omega arith) (omega arith))

some_empty : (slot : ℕ) (o : Option ℤ) → length (slot_text slot o) ≡ 0 → o ≡ None
some_empty slot None e = refl
some_empty slot (Some k) e = absurd (let n = length-slot_some slot k in omega (arith, n, e))

-- where no columns are added, no slot has a channel
pub none_added : (ks : List (Option ℤ)) (a b : ℕ) → a ≤ b → length (slots_text ks b) ≡ length (slots_text ks a) → (s : ℕ) → a < s → s ≤ b → channel_at ks s ≡ None
none_added ks a zero le e s lt high = absurd (omega (arith, lt, high))
none_added ks a (suc b) le e s lt high =
    let low : a ≤ b = omega (arith, lt, high) in
    let one : List ℕ = slot_text (suc b) (channel_at ks (suc b)) in
    let size = length-append (slots_text ks b) one in
    let m = text_more ks a b low in
    let more = ap length m.is ∙ length-append (slots_text ks a) m.rest in
    elim (leb_tells s b) [
      | inl below ↦ none_added ks a b low (omega (arith, e, size, more)) s lt below.1
      | inr above ↦
          let same : s ≡ suc b = omega (arith, above.1, high) in
          ap (channel_at ks) same ∙ some_empty (suc b) (channel_at ks (suc b)) (omega (arith, e, size, more))
    ]

-- ---- the next slot with a channel

pub record Next (us : List (Option ℤ)) (a b : ℕ) : Type 0 where
  pub slot : ℕ
  pub channel : ℤ
  pub after : a < slot
  pub within : slot ≤ b
  pub at : channel_at us slot ≡ Some channel
  pub between : (s : ℕ) → a < s → s < slot → channel_at us s ≡ None
  pub text : slots_text us slot ≡ slots_text us a ++ slot_text slot (Some channel)

next_here : (us : List (Option ℤ)) (a b : ℕ) (o : Option ℤ) → a ≤ b → channel_at us (suc b) ≡ o → length (slots_text us b) ≡ length (slots_text us a) → 0 < length (slot_text (suc b) o) → Next us a (suc b)
next_here us a b None le is same some = absurd (omega (arith, some))
next_here us a b (Some k) le is same some =
    let none = none_added us a b le same in
    record {
      slot = suc b;
      channel = k;
      after = omega arith;
      within = omega arith;
      at = is;
      between = λ s lt high. none s lt (omega (arith, high));
      text = ap (λ (o : Option ℤ). slots_text us b ++ slot_text (suc b) o) is ∙ ap (λ (x : List ℕ). x ++ slot_text (suc b) (Some k)) (text_jump us a b le none);
    }

pub next_slot : (us : List (Option ℤ)) (a b : ℕ) → a ≤ b → length (slots_text us a) < length (slots_text us b) → Next us a b
next_slot us a zero le lt = absurd (let same : a ≡ 0 = omega arith in let e = ap (λ (n : ℕ). length (slots_text us n)) same in omega (arith, lt, e))
next_slot us a (suc b) le lt =
    elim (leb_tells a b) [
      | inl low ↦ elim (leb_tells (length (slots_text us b)) (length (slots_text us a))) [
        | inl none ↦
            let m = text_more us a b low.1 in
            let more = ap length m.is ∙ length-append (slots_text us a) m.rest in
            let size = length-append (slots_text us b) (slot_text (suc b) (channel_at us (suc b))) in
            next_here us a b (channel_at us (suc b)) low.1 refl (omega (arith, none.1, more)) (omega (arith, size, lt, none.1))
        | inr some ↦
            let n = next_slot us a b low.1 (omega (arith, some.1)) in
            record { slot = n.slot; channel = n.channel; after = n.after; within = omega (arith, n.within); at = n.at; between = n.between; text = n.text }
      ]
      | inr high ↦ absurd (let same : a ≡ suc b = omega (arith, high.1, le) in let e = ap (λ (n : ℕ). length (slots_text us n)) same in omega (arith, lt, e))
    ]

-- ---- how many slots have a channel

count_step : (us : List (Option ℤ)) (n : ℕ) (o : Option ℤ) → n < length us → get_or us n None ≡ o → length (slots_text us n) ≡ 7 * count_by is_some (take n us)
    → length (slots_text us n ++ slot_text (suc n) o) ≡ 7 * count_by is_some (take (n + 1) us)
count_step us n None lt is e =
    let more = count_by_more_no is_some us n None lt (ap is_some is) in
    let size = length-append (slots_text us n) [] in
    omega (arith, more, size, e)
count_step us n (Some k) lt is e =
    let more = count_by_more_yes is_some us n None lt (ap is_some is) in
    let size = length-append (slots_text us n) (slot_text (suc n) (Some k)) in
    let seven = length-slot_some (suc n) k in
    omega (arith, more, size, seven, e)

length-to : (us : List (Option ℤ)) (n : ℕ) → n ≤ length us → length (slots_text us n) ≡ 7 * count_by is_some (take n us)
length-to us zero h = refl
length-to us (suc n) h =
    let next : n + 1 ≡ suc n = omega arith in
    count_step us n (channel_at us (suc n)) (omega arith) (ap (λ (k : ℕ). get_or us k None) (omega arith)) (length-to us n (omega arith)) ∙ ap (λ (m : ℕ). 7 * count_by is_some (take m us)) next

pub length-slots : (us : List (Option ℤ)) → AreChannels us → length (slots_text us 27) ≡ 7 * count_by is_some us
length-slots us h = length-to us 27 (omega (arith, h.count)) ∙ ap (λ (x : List (Option ℤ)). 7 * count_by is_some x) (take_all 27 us (omega (arith, h.count)))

-- ---- slots that are read

-- after i slots of `count`, of which `last` is the last one
pub record ReadsSlots (text : List ℕ) (count i last : ℕ) (ks : List (Option ℤ)) : Type 0 where
  pub within : i ≤ count
  pub most : count ≤ 27
  pub fits : last + (count - i) ≤ 27
  pub none : (s : ℕ) → IsSlot s → last < s → channel_at ks s ≡ None
  pub size : length (slots_text ks last) ≡ 7 * i
  pub agree : (us : List (Option ℤ)) → AreChannels us → count_by is_some us ≡ count → HasSlots text us i → (s : ℕ) → 1 ≤ s → s ≤ last → channel_at ks s ≡ channel_at us s
  pub other_size : (us : List (Option ℤ)) → AreChannels us → count_by is_some us ≡ count → HasSlots text us i → length (slots_text us last) ≡ 7 * i
  pub front : (us : List (Option ℤ)) (j : ℕ) → AreChannels us → count_by is_some us ≡ count → j ≤ i → HasSlots text us j → take (7 * j) (slots_text ks last) ≡ take (7 * j) (slots_text us 27)

pub reads_none : (text : List ℕ) (count : ℕ) (ks : List (Option ℤ)) → count ≤ 27 → ((s : ℕ) → channel_at ks s ≡ None) → ReadsSlots text count 0 0 ks
reads_none text count ks h none = record {
  within = omega arith;
  most = h;
  fits = omega arith;
  none = λ s slot lt. none s;
  size = refl;
  agree = λ us good e has s low high. absurd (omega (arith, low, high));
  other_size = λ us good e has. refl;
  front = λ us j good e le has. let zero : j ≡ 0 = omega (arith, le) in ap (λ (k : ℕ). take (7 * k) (slots_text ks 0)) zero ∙ sym (ap (λ (k : ℕ). take (7 * k) (slots_text us 27)) zero);
}

-- the slot of other channels that follows
record After (us : List (Option ℤ)) (count i last : ℕ) (text : List ℕ) : Type 0 where
  pub next : Next us last 27
  pub most : next.slot + count ≤ 28 + i
  pub shown : slot_at i text ≡ slot_text next.slot (Some next.channel)

after_slots : (text : List ℕ) (count i last : ℕ) (us : List (Option ℤ)) → AreChannels us → count_by is_some us ≡ count → i < count → last ≤ 27 → length (slots_text us last) ≡ 7 * i
    → slot_at i text ≡ slot_of i us → After us count i last text
after_slots text count i last us good e lt small size shown =
    let all = length-slots us good in
    let n = next_slot us last 27 small (omega (arith, all, size, e, lt)) in
    let m = text_more us n.slot 27 n.within in
    let seven = length-slot_some n.slot n.channel in
    let whole = ap length m.is ∙ length-append (slots_text us n.slot) m.rest in
    let front = ap length n.text ∙ length-append (slots_text us last) (slot_text n.slot (Some n.channel)) in
    let split : slots_text us 27 ≡ slots_text us last ++ (slot_text n.slot (Some n.channel) ++ m.rest) =
    m.is ∙ ap (λ (x : List ℕ). x ++ m.rest) n.text ∙ append_assoc (slots_text us last) (slot_text n.slot (Some n.channel)) m.rest in
    let cut : slot_of i us ≡ slot_text n.slot (Some n.channel) =
    ap (λ (k : ℕ). take 7 (drop k (slots_text us 27))) (sym size) ∙ ap (λ (x : List ℕ). take 7 (drop (length (slots_text us last)) x)) split
    ∙ ap (take 7) (drop-append_seam (slots_text us last) (slot_text n.slot (Some n.channel) ++ m.rest)) ∙ take-exact 7 (slot_text n.slot (Some n.channel)) m.rest seven in
    record { next = n; most = omega (arith, whole, front, all, size, seven, m.few, e, n.within); shown = shown ∙ cut }

-- a slot and a channel that are read after `last`
pub record ReadsSlot (text : List ℕ) (count i last : ℕ) (ks ms : List (Option ℤ)) (slot : ℕ) (k : ℤ) : Type 0 where
  pub after : last < slot
  pub within : slot + count ≤ 28 + i
  pub set : channel_at ms slot ≡ Some k
  pub others : (s : ℕ) → IsSlot s → s ≢ slot → channel_at ms s ≡ channel_at ks s
  pub shown : (q : ℕ) (c : ℤ) → last < q → q + count ≤ 28 + i → q ≤ 27 → IsChannel c → slot_at i text ≡ slot_text q (Some c) → (slot ≡ q) × (k ≡ c)

channel_good : (us : List (Option ℤ)) (s : ℕ) (c : ℤ) → AreChannels us → channel_at us s ≡ Some c → IsChannel c
channel_good us s c good e = let h = good.each (s - 1) in rw e at h

pub reads_more : (text : List ℕ) (count i last : ℕ) (ks ms : List (Option ℤ)) (slot : ℕ) (k : ℤ) → i < count → ReadsSlots text count i last ks → ReadsSlot text count i last ks ms slot k
    → ReadsSlots text count (i + 1) slot ms
reads_more text count i last ks ms slot k lt r h =
    let small : slot ≤ 27 = let m = r.most in omega (arith, h.within, lt, m) in
    let none : (s : ℕ) → last < s → s ≤ slot - 1 → channel_at ms s ≡ None = λ s low high.
    let good : IsSlot s = (omega (arith, low), omega (arith, high, small)) in
    h.others s good (omega (arith, low, high, h.after)) ∙ r.none s good low in
    let below : slots_text ms last ≡ slots_text ks last = text_same ms ks last (λ s low high. h.others s (low, omega (arith, high, small, h.after)) (omega (arith, high, h.after))) in
    let pred : slot ≡ suc (slot - 1) = omega (arith, h.after) in
    let mine : slots_text ms slot ≡ slots_text ks last ++ slot_text slot (Some k) =
    ap (slots_text ms) pred ∙ ap (λ (s : ℕ). slots_text ms (slot - 1) ++ slot_text s (channel_at ms s)) (sym pred)
    ∙ ap (λ (o : Option ℤ). slots_text ms (slot - 1) ++ slot_text slot o) h.set
    ∙ ap (λ (x : List ℕ). x ++ slot_text slot (Some k)) (text_jump ms last (slot - 1) (omega (arith, h.after)) none ∙ below) in
    let seven = length-slot_some slot k in
    let size = ap length mine ∙ length-append (slots_text ks last) (slot_text slot (Some k)) in
    let longer : length (slots_text ms slot) ≡ 7 * (i + 1) = omega (arith, size, seven, r.size) in
    let found : (us : List (Option ℤ)) → AreChannels us → count_by is_some us ≡ count → HasSlots text us (i + 1) → After us count i last text = λ us good e has.
    let f = r.fits in
    after_slots text count i last us good e lt (omega (arith, f)) (r.other_size us good e (λ j low. has j (omega (arith, low)))) (has i (omega arith)) in
    let at : (us : List (Option ℤ)) (good : AreChannels us) (e : count_by is_some us ≡ count) (has : HasSlots text us (i + 1)) → (slot ≡ (found us good e has).next.slot) × (k ≡ (found us good e has).next.channel) =
    λ us good e has.
    let a = found us good e has in
    h.shown a.next.slot a.next.channel a.next.after a.most a.next.within (channel_good us a.next.slot a.next.channel good a.next.at) a.shown in
    let other : (us : List (Option ℤ)) → AreChannels us → count_by is_some us ≡ count → HasSlots text us (i + 1) → length (slots_text us slot) ≡ 7 * (i + 1) = λ us good e has.
    let a = found us good e has in
    let here = at us good e has in
    let long = ap length a.next.text ∙ length-append (slots_text us last) (slot_text a.next.slot (Some a.next.channel)) in
    let same = ap (λ (s : ℕ). length (slots_text us s)) here.0 in
    let old = r.other_size us good e (λ j low. has j (omega (arith, low))) in
    let sev = length-slot_some a.next.slot a.next.channel in
    omega (arith, long, same, old, sev) in
    let agree : (us : List (Option ℤ)) → AreChannels us → count_by is_some us ≡ count → HasSlots text us (i + 1) → (s : ℕ) → 1 ≤ s → s ≤ slot → channel_at ms s ≡ channel_at us s = λ us good e has s low high.
    let a = found us good e has in
    let here = at us good e has in
    elim (leb_tells s last) [
      | inl old ↦ h.others s (low, omega (arith, high, small)) (omega (arith, old.1, h.after)) ∙ r.agree us good e (λ j le. has j (omega (arith, le))) s low old.1
      | inr new ↦ elim (leb_tells slot s) [
        | inl last_one ↦
            let is : s ≡ slot = omega (arith, last_one.1, high) in
            ap (channel_at ms) is ∙ h.set ∙ ap Some here.1 ∙ sym a.next.at ∙ ap (channel_at us) (sym here.0 ∙ sym is)
        | inr before ↦ none s new.1 (omega (arith, before.1)) ∙ sym (a.next.between s new.1 (omega (arith, before.1, here.0)))
      ]
    ] in
    record {
      within = omega arith;
      most = r.most;
      fits = (let f = r.fits in let m = r.most in omega (arith, h.within, lt, m));
      none = λ s good low. h.others s good (omega (arith, low)) ∙ r.none s good (omega (arith, low, h.after));
      size = longer;
      agree = agree;
      other_size = other;
      front = λ us j good e le has.
          elim (leb_tells j i) [
            | inl old ↦
                ap (take (7 * j)) mine ∙ take-append-le (7 * j) (slots_text ks last) (slot_text slot (Some k)) (let z = r.size in omega (arith, z, old.1)) ∙ r.front us j good e old.1 has
            | inr new ↦
                let is : j ≡ i + 1 = omega (arith, new.1, le) in
                let now : HasSlots text us (i + 1) = subst (λ (n : ℕ). HasSlots text us n) is has in
                let m = text_more us slot 27 small in
                let long = other us good e now in
                ap (take (7 * j)) (text_same ms us slot (agree us good e now))
                ∙ sym (ap (take (7 * j)) m.is ∙ take-append-le (7 * j) (slots_text us slot) m.rest (omega (arith, long, is)))
          ];
    }

pub reads_all : (text : List ℕ) (count last : ℕ) (ks : List (Option ℤ)) → AreChannels ks → ReadsSlots text count count last ks → ((n : ℕ) → n ≤ 27 → number_at 0 3 text ≡ n → count ≡ n) → ShowsSlots text ks
reads_all text count last ks good r counted =
    let small : last ≤ 27 = let f = r.fits in omega (arith, f) in
    let whole : slots_text ks 27 ≡ slots_text ks last = text_jump ks last 27 small (λ s low high. r.none s (omega (arith, low), high) low) in
    let mine = length-slots ks good in
    let size = ap length whole in
    let own : count_by is_some ks ≡ count = let z = r.size in omega (arith, mine, size, z) in
    let as_count : (us : List (Option ℤ)) → HaveOneCount ks us → count_by is_some us ≡ count = λ us e. sym e ∙ own in
    record {
      good = good;
      count = λ us other e.
          let all = length-slots us other in
          let m = text_more us 0 27 (omega arith) in
          let few = ap length m.is in
          own ∙ counted (count_by is_some us) (omega (arith, all, few, m.few)) e;
      shown = λ us i other e le has.
          let is = as_count us e in
          ap (take (7 * i)) whole ∙ r.front us i other is (omega (arith, le, is)) has;
      all = λ us other e has.
          let is = as_count us e in
          let now : HasSlots text us count = subst (λ (n : ℕ). HasSlots text us n) is has in
          let long = r.other_size us other is now in
          let all = length-slots us other in
          let none = none_added us last 27 small (omega (arith, all, long, is)) in
          same_lists us ks (other.count ∙ sym good.count) (λ j d lt.
          let n : j < 27 = omega (arith, lt, other.count) in
          let back : suc j - 1 ≡ j = omega arith in
          let same : channel_at us (suc j) ≡ channel_at ks (suc j) =
          elim (leb_tells (suc j) last) [
            | inl old ↦ sym (r.agree us other is now (suc j) (omega arith) old.1)
            | inr new ↦ none (suc j) new.1 (omega (arith, n)) ∙ sym (r.none (suc j) (omega arith, omega (arith, n)) new.1)
          ] in
          get_or_default us j d None lt ∙ ap (λ (k : ℕ). get_or us k None) (sym back) ∙ same ∙ ap (λ (k : ℕ). get_or ks k None) back ∙ get_or_default ks j None d (omega (arith, n, good.count)));
    }
