-- The channels that a text writes.
use Rattle.std.proofs.Common.{◌≡◌, ◌≢◌, ℕ, suc, ◌+◌, ◌-◌, ◌/◌, ◌%◌, ◌<◌, ◌≤◌, ◌==◌, ℤ, Bool, true, false, List, [], ◌∷◌, length, get_or, slice_index_or, Option, None, Some, inl, inr, arith, refl, sym, ap, ◌∙◌, subst, is_some, if◌then◌else◌}
use Rattle.std.specs.Prelude.{MatchOption}
use Rattle.std.specs.Borrow.{Bor}
use Rattle.std.proofs.lemmas.Bool.{cases_lt, lt-ltb, le-ltb, cases_eq}
use Rattle.std.proofs.lemmas.List.Splits.{length-slice_split}
use Rattle.rtk_obs.specs.Carriers.{IsSlot, channel_at}
use Rattle.rtk_cli.specs.declared.channel_list.SlotChannel.{SlotChannel}
use Rattle.rtk_cli.specs.Steps.Parts.{marked_parts, marked_parts_after}
use Rattle.rtk_cli.specs.Steps.ChannelList.{slot_word, slot_parts, AreSlotsUnlike, AreChannelsOf}

-- ---- the words of slots

slot-of-one-digit : (s : ℕ) → s < 10 → slot_word s ≡ (48 + s) ∷ []
slot-of-one-digit s lt = ap (λ (b : Bool). if b then (48 + s) ∷ [] else (48 + s / 10) ∷ (48 + s % 10) ∷ []) (lt-ltb s 10 lt)

-- a list of one character
pub alone : (t : List ℕ) → length t ≡ 1 → t ≡ get_or t 0 0 ∷ []
alone [] one = absurd (omega (arith, one))
alone (x ∷ []) one = refl
alone (x ∷ y ∷ t) one = absurd (omega (arith, one))

slot-of-two-digits : (s : ℕ) → 10 ≤ s → slot_word s ≡ (48 + s / 10) ∷ (48 + s % 10) ∷ []
slot-of-two-digits s ge = ap (λ (b : Bool). if b then (48 + s) ∷ [] else (48 + s / 10) ∷ (48 + s % 10) ∷ []) (le-ltb s 10 ge)

-- a word of one character
pub one-digit : (r : Option ℕ) (text : List ℕ) (ones : ℕ) → text ≡ ones ∷ []
    → MatchOption r ((s : ℕ) → IsSlot s → s < 10 → ones ≢ 48 + s) (λ s. IsSlot s × (s < 10) × (ones ≡ 48 + s))
    → MatchOption r ((s : ℕ) → IsSlot s → text ≢ slot_word s) (λ s. IsSlot s × (text ≡ slot_word s))
one-digit None text ones one none = λ s slot is. elim (cases_lt s 10) [
  | inl lt ↦ none s slot lt (ap (λ (t : List ℕ). get_or t 0 0) (sym one ∙ is ∙ slot-of-one-digit s lt))
  | inr ge ↦ absurd (let bad : 1 ≡ 2 = ap length (sym one ∙ is ∙ slot-of-two-digits s ge) in omega (arith, bad))
]
one-digit (Some s) text ones one (slot, lt, is) = (slot, one ∙ ap (λ (x : ℕ). x ∷ []) is ∙ sym (slot-of-one-digit s lt))

-- ---- the channels of slots

pub not-some : (o : Option ℤ) → is_some o ≡ false → o ≡ None
not-some None none = refl
not-some (Some k) none = absurd (cc)

-- the channels of the first slots, of which none stands twice
pub record SetsSlots (slots : List SlotChannel) (i : ℕ) (channels : List (Option ℤ)) : Type 0 where
  pub unlike : (j k : ℕ) (d : SlotChannel) → j < k → k < i → (slice_index_or slots j d).slot ≢ (slice_index_or slots k d).slot
  pub own : (k : ℕ) (d : SlotChannel) → k < i → channel_at channels (slice_index_or slots k d).slot ≡ Some (slice_index_or slots k d).channel
  pub others : (s : ℕ) → IsSlot s → ((k : ℕ) (d : SlotChannel) → k < i → (slice_index_or slots k d).slot ≢ s) → channel_at channels s ≡ None

pub sets-none : (slots : List SlotChannel) (channels : List (Option ℤ)) → ((s : ℕ) → channel_at channels s ≡ None) → SetsSlots slots 0 channels
sets-none slots channels none = record {
  unlike = λ j k d jk lt. absurd (omega (arith, lt));
  own = λ k d lt. absurd (omega (arith, lt));
  others = λ s slot unlike. none s;
}

-- one slot more is set, which had no channel
pub sets-more : (slots : List SlotChannel) (i : ℕ) (p : SlotChannel) (old new : List (Option ℤ)) → SetsSlots slots i old → ((d : SlotChannel) → slice_index_or slots i d ≡ p)
    → channel_at old p.slot ≡ None → channel_at new p.slot ≡ Some p.channel → ((s : ℕ) → IsSlot s → s ≢ p.slot → channel_at new s ≡ channel_at old s)
    → ((k : ℕ) (d : SlotChannel) → k < i → IsSlot (slice_index_or slots k d).slot) → SetsSlots slots (i + 1) new
sets-more slots i p old new sets at free set kept good =
    -- an earlier slot is another one
    let other : (k : ℕ) (d : SlotChannel) → k < i → (slice_index_or slots k d).slot ≢ p.slot = λ k d lt e.
    let some : channel_at old p.slot ≡ Some (slice_index_or slots k d).channel = ap (λ (s : ℕ). channel_at old s) (sym e) ∙ sets.own k d lt in
    let bad : ◌≡◌ {A = Option ℤ} None (Some (slice_index_or slots k d).channel) = sym free ∙ some in cc in
    record {
      unlike = λ j k d jk lt. elim (cases_eq k i) [
        | inl here ↦ λ e. other j d (omega (arith, jk, here)) (e ∙ ap (λ (n : ℕ). (slice_index_or slots n d).slot) here ∙ ap (λ (q : SlotChannel). q.slot) (at d))
        | inr before ↦ sets.unlike j k d jk (omega (arith, lt, before))
      ];
      own = λ k d lt. elim (cases_eq k i) [
        | inl here ↦
            let is : slice_index_or slots k d ≡ p = ap (λ (n : ℕ). slice_index_or slots n d) here ∙ at d in
            subst (λ (q : SlotChannel). channel_at new q.slot ≡ Some q.channel) (sym is) set
        | inr before ↦
            let lt' : k < i = omega (arith, lt, before) in
            kept (slice_index_or slots k d).slot (good k d lt') (other k d lt') ∙ sets.own k d lt'
      ];
      others = λ s slot none.
          kept s slot (λ e. none i p (omega arith) (ap (λ (q : SlotChannel). q.slot) (at p) ∙ sym e)) ∙ sets.others s slot (λ k d lt. none k d (omega (arith, lt)));
    }

-- all slots are set
pub sets-all : (slots : List SlotChannel) (i : ℕ) (channels : List (Option ℤ)) → SetsSlots slots i channels → i ≡ length slots → AreSlotsUnlike slots × AreChannelsOf slots channels
sets-all slots i channels sets end = (
  λ j k d jk lt. sets.unlike j k d jk (omega (arith, lt, end)),
  record {
    own = λ k d lt. sets.own k d (omega (arith, lt, end));
    others = λ s slot none. sets.others s slot (λ k d lt. none k d (omega (arith, lt, end)));
  },
)

-- a slot that has a channel stands before
pub set-twice : (slots : List SlotChannel) (i : ℕ) (p : SlotChannel) (channels : List (Option ℤ)) → SetsSlots slots i channels → ((d : SlotChannel) → slice_index_or slots i d ≡ p) → i < length slots
    → IsSlot p.slot → is_some (channel_at channels p.slot) ≡ true → ¬ (AreSlotsUnlike slots)
set-twice slots i p channels sets at within slot some unlike =
    let none : channel_at channels p.slot ≡ None = sets.others p.slot slot (λ j d lt e. unlike j i d lt within (e ∙ ap (λ (q : SlotChannel). q.slot) (sym (at d)))) in
    let bad : false ≡ true = sym (ap (λ (o : Option ℤ). is_some o) none) ∙ some in cc

-- ---- the parts of a word

some-parts : (mark : ℕ) (text : List ℕ) → 1 ≤ length (marked_parts mark text)
some-parts mark text = omega (arith, length-slice_split (λ (x : ℕ). x == mark) text)

more-parts : (word slot channel rest : List ℕ) → marked_parts 58 word ≡ slot ∷ channel ∷ marked_parts 58 rest → (p : SlotChannel) → marked_parts 58 word ≢ slot_parts p
more-parts word slot channel rest more p same =
    let bad : suc (suc (length (marked_parts 58 rest))) ≡ 2 = ap length (sym more ∙ same) in
    absurd (omega (arith, bad, some-parts 58 rest))

-- something follows a second colon
pub more-after : (word slot channel : List ℕ) (more : Option (Bor (List ℕ))) → marked_parts 58 word ≡ slot ∷ channel ∷ marked_parts_after 58 more → is_some more ≡ true
    → (p : SlotChannel) → marked_parts 58 word ≢ slot_parts p
more-after word slot channel None parts some p = absurd (cc)
more-after word slot channel (Some rest) parts some p = more-parts word slot channel rest.now parts p
