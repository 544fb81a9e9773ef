-- The channels that messages tell.
use Rattle.std.proofs.Common.{◌≡◌, ◌≢◌, ◌<◌, ◌≤◌, ◌+◌, ◌-◌, ◌∙◌, ℕ, zero, suc, ℤ, Bool, true, false, List, [], ◌∷◌, length, Option, None, Some, inl, inr, refl, sym, ap, subst, arith}
use Rattle.std.specs.Prelude.{nat_lt, slice_index_or, IfSome, if◌then◌else◌}
use Rattle.std.proofs.lemmas.Bool.{cases_lt, cases_order, cases_Bool, ltb-true, ltb-false}
use Rattle.rtk_obs.specs.Carriers.{AreChannels, IsSlot, channel_at}
use Rattle.rtk_obs.specs.LeapSeconds.{IsLastRow}
use Rattle.rtk_obs.specs.declared.any_code.AnyCode.{AnyCode}
use Rattle.rtk_rinex.specs.MixedHead.{GlonassView}
use Rattle.rtk_survey.specs.declared.survey.CaptureSurvey.{CaptureSurvey}
use Rattle.rtk_systems.specs.AlikeChannels.{is_alike}
use Rattle.rtk_systems.specs.SlotChannels.{count_told, IsMostTold, IsToldField, IsToldChannel, channel_if, is_slot_given, AreOwnChannels, channel_or, chosen_channel, IsChannelFound, AreChannelsFound, AreChannelsChosen, AreSecondsChosen, IsGlonassFound}
use Rattle.rtk_systems.specs.Steps.ToldFields.{most_told_with}
use Rattle.rtk_systems.specs.declared.slot_channels.MostTold.{MostTold}
use Rattle.rtk_systems.specs.declared.values.TakenMessages.{TakenMessages}

-- ---- the field that is told most often

abbrev count_if : (ℕ → ℕ) → Option ℕ → ℕ
count_if counts None = 0
count_if counts (Some field) = counts field

-- of so many fields
pub record IsToldSoFar (counts : ℕ → ℕ) (fields : ℕ) (t : MostTold) : Type 0 where
  pub told : IsToldField counts fields t.field
  pub count : t.count ≡ count_if counts t.field

-- another field is told more often
told-more : (counts : ℕ → ℕ) (n : ℕ) (told : Option ℕ) → IsToldField counts n told → count_if counts told < counts n → IsMostTold counts (n + 1) n
told-more counts n None none lt = record {
  few = omega arith;
  some = lt;
  most = λ f within. elim (cases_lt f n) [
    | inl before ↦ let zero : counts f ≡ 0 = none f before in omega (arith, zero)
    | inr past ↦ let same : counts f ≡ counts n = ap counts (omega (arith, within, past)) in omega (arith, same)
  ];
  least = λ f before. let zero : counts f ≡ 0 = none f before in omega (arith, zero, lt);
}
told-more counts n (Some field) is lt = record {
  few = omega arith;
  some = omega (arith, lt);
  most = λ f within. elim (cases_lt f n) [
    | inl before ↦ let most = is.most f before in omega (arith, most, lt)
    | inr past ↦ let same : counts f ≡ counts n = ap counts (omega (arith, within, past)) in omega (arith, same)
  ];
  least = λ f before. let most = is.most f before in omega (arith, most, lt);
}

-- none is
told-same : (counts : ℕ → ℕ) (n : ℕ) (told : Option ℕ) → IsToldField counts n told → counts n ≤ count_if counts told → IsToldField counts (n + 1) told
told-same counts n None none le = λ f within. elim (cases_lt f n) [
  | inl before ↦ none f before
  | inr past ↦ let same : counts f ≡ counts n = ap counts (omega (arith, within, past)) in omega (arith, same, le)
]
told-same counts n (Some field) is le = record {
  few = let before = is.few in omega (arith, before);
  some = is.some;
  most = λ f within. elim (cases_lt f n) [
    | inl before ↦ is.most f before
    | inr past ↦ let same : counts f ≡ counts n = ap counts (omega (arith, within, past)) in omega (arith, same, le)
  ];
  least = is.least;
}

pub told-none : (counts : ℕ → ℕ) → IsToldSoFar counts 0 (record { field = None; count = 0 })
told-none counts = record {
  told = λ f before. absurd (omega (arith, before));
  count = refl;
}

pub told-step : (counts : ℕ → ℕ) (n : ℕ) (t : MostTold) → IsToldSoFar counts n t → IsToldSoFar counts (n + 1) (most_told_with t n (counts n))
told-step counts n t is =
    let is_count = is.count in
    let found : MostTold = record { field = Some n; count = counts n } in
    elim (cases_Bool (nat_lt t.count (counts n))) [
      | inl more ↦
          let lt : t.count < counts n = ltb-true t.count (counts n) more in
          subst (λ (b : Bool). IsToldSoFar counts (n + 1) (if b then found else t)) (sym more)
          (record { told = told-more counts n t.field is.told (omega (arith, lt, is_count)); count = refl })
      | inr same ↦
          let le : counts n ≤ t.count = ltb-false t.count (counts n) same in
          subst (λ (b : Bool). IsToldSoFar counts (n + 1) (if b then found else t)) (sym same)
          (record { told = told-same counts n t.field is.told (omega (arith, le, is_count)); count = is.count })
    ]

-- a field that is told is one of so many
pub told-few : (counts : ℕ → ℕ) (told : Option ℕ) → IsToldField counts 14 told → IfSome told (λ field. field < 14)
told-few counts None is = tt
told-few counts (Some field) is = is.few

-- ---- one field, one channel

one-field : (counts : ℕ → ℕ) (fields : ℕ) (a b : Option ℕ) → IsToldField counts fields a → IsToldField counts fields b → a ≡ b
one-field counts fields None None is also = refl
one-field counts fields None (Some g) is also = let zero = is g also.few in let some = also.some in absurd (omega (arith, zero, some))
one-field counts fields (Some f) None is also = let zero = also f is.few in let some = is.some in absurd (omega (arith, zero, some))
one-field counts fields (Some f) (Some g) is also = elim (cases_order f g) [
  | inl same ↦ ap (λ (n : ℕ). Some n) same
  | inr (inl before) ↦ let less = also.least f before in let most = is.most g also.few in absurd (omega (arith, less, most))
  | inr (inr behind) ↦ let less = is.least g behind in let most = also.most f is.few in absurd (omega (arith, less, most))
]

one-told : (ss : List CaptureSurvey) (n : ℕ) (taken : TakenMessages) (source : Option ℕ) (slot : ℕ) (a b : Option ℤ) → IsToldChannel ss n taken source slot a → IsToldChannel ss n taken source slot b → a ≡ b
one-told ss n taken source slot a b is also =
    is.2 ∙ ap (λ (o : Option ℕ). channel_if (is_slot_given ss n taken slot) o) (one-field (count_told ss source slot) 14 is.0 also.0 is.1 also.1) ∙ sym also.2

one-channel : (ss : List CaptureSurvey) (n : ℕ) (taken : TakenMessages) (own : List (Option ℤ)) (slot : ℕ) (a b : Option ℤ) → IsChannelFound ss n taken own slot a → IsChannelFound ss n taken own slot b → a ≡ b
one-channel ss n taken own slot a b is also =
    is.2 ∙ ap (λ (o : Option ℤ). chosen_channel (is_alike own slot) (channel_at own slot) o) (one-told ss n taken None slot is.0 also.0 is.1 also.1) ∙ sym also.2

same-list : (xs ys : List (Option ℤ)) → length xs ≡ length ys → ((k : ℕ) → k < length xs → slice_index_or xs k None ≡ slice_index_or ys k None) → xs ≡ ys
same-list [] [] n at = refl
same-list [] (y ∷ ys) n at = absurd (omega (arith, n))
same-list (x ∷ xs) [] n at = absurd (omega (arith, n))
same-list (x ∷ xs) (y ∷ ys) n at =
    ap (λ (z : Option ℤ). z ∷ xs) (at 0 (omega arith))
    ∙ ap (λ (zs : List (Option ℤ)). y ∷ zs) (same-list xs ys (omega (arith, n)) (λ k lt. at (suc k) (omega (arith, lt))))

-- lists of channels that are the same at each slot
same-channels : (a b : List (Option ℤ)) → AreChannels a → AreChannels b → ((slot : ℕ) → IsSlot slot → channel_at a slot ≡ channel_at b slot) → a ≡ b
same-channels a b good also same =
    let count = good.count in
    let as_many = also.count in
    same-list a b (omega (arith, count, as_many)) (λ k lt.
    let slot : IsSlot (k + 1) = (omega arith, omega (arith, lt, count)) in
    let place : (k + 1) - 1 ≡ k = omega arith in
    ap (λ (p : ℕ). slice_index_or a p None) (sym place) ∙ same (k + 1) slot ∙ ap (λ (p : ℕ). slice_index_or b p None) place)

one-own : (ss : List CaptureSurvey) (n : ℕ) (taken : TakenMessages) (a b : List (Option ℤ)) → AreOwnChannels ss n taken a → AreOwnChannels ss n taken b → a ≡ b
one-own ss n taken a b is also =
    same-channels a b is.good also.good (λ slot s. one-told ss n taken (Some n) slot (channel_at a slot) (channel_at b slot) (is.each slot s) (also.each slot s))

one-channels : (ss : List CaptureSurvey) (n : ℕ) (taken : TakenMessages) (a b : List (Option ℤ)) → AreChannelsFound ss n taken a → AreChannelsFound ss n taken b → a ≡ b
one-channels ss n taken a b is also =
    let own : is.own ≡ also.own = one-own ss n taken is.own also.own is.own_are also.own_are in
    same-channels a b is.good also.good (λ slot s.
    one-channel ss n taken is.own slot (channel_at a slot) (channel_at b slot) (is.each slot s)
    (subst (λ (cs : List (Option ℤ)). IsChannelFound ss n taken cs slot (channel_at b slot)) (sym own) (also.each slot s)))

pub one-row : (Begun : ℕ → Type 0) (m n : ℕ) → IsLastRow Begun m → IsLastRow Begun n → m ≡ n
one-row Begun m n is also = elim (cases_order m n) [
  | inl same ↦ same
  | inr (inl before) ↦ absurd (is.last n before also.known (also.begun (omega (arith, before))))
  | inr (inr behind) ↦ absurd (also.last m behind is.known (is.begun (omega (arith, behind))))
]

one-chosen : (given : Option (List (Option ℤ))) (ss : List CaptureSurvey) (n : ℕ) (taken : TakenMessages) (a b : List (Option ℤ)) → AreChannelsChosen given ss n taken a → AreChannelsChosen given ss n taken b → a ≡ b
one-chosen None ss n taken a b is also = one-channels ss n taken a b is also
one-chosen (Some given) ss n taken a b is also =
    let found : is.0 ≡ also.0 = one-channels ss n taken is.0 also.0 is.1 also.1 in
    same-channels a b is.2.good also.2.good (λ slot s.
    is.2.each slot s ∙ ap (λ (cs : List (Option ℤ)). channel_or (channel_at given slot) (channel_at cs slot)) found ∙ sym (also.2.each slot s))

pub one-seconds : (given : Option ℕ) (near m n : ℕ) → AreSecondsChosen given near m → AreSecondsChosen given near n → m ≡ n
one-seconds None near m n is also = one-row _ m n is also
one-seconds (Some given) near m n is also = is ∙ sym also

pub one-glonass : (ss : List CaptureSurvey) (n : ℕ) (taken : TakenMessages) (listed : List AnyCode) (channels : Option (List (Option ℤ))) (seconds : Option ℕ) (near : ℕ) (a b : Option GlonassView)
    → IsGlonassFound ss n taken listed channels seconds near a → IsGlonassFound ss n taken listed channels seconds near b → a ≡ b
one-glonass ss n taken listed channels seconds near None None is also = refl
one-glonass ss n taken listed channels seconds near None (Some g) is also = let no : true ≡ false = sym also.0 ∙ is in absurd (cc)
one-glonass ss n taken listed channels seconds near (Some g) None is also = let no : true ≡ false = sym is.0 ∙ also in absurd (cc)
one-glonass ss n taken listed channels seconds near (Some g) (Some h) is also =
    let same : g.channels ≡ h.channels = one-chosen channels ss n taken g.channels h.channels is.1.channels_are also.1.channels_are in
    let alike : g.leap_seconds ≡ h.leap_seconds = one-seconds seconds near g.leap_seconds h.leap_seconds is.1.seconds_are also.1.seconds_are in
    ap (λ (cs : List (Option ℤ)). Some (glonass_with cs g.leap_seconds)) same ∙ ap (λ (m : ℕ). Some (glonass_with h.channels m)) alike
  where
    glonass_with : List (Option ℤ) → ℕ → GlonassView
    glonass_with cs m = record { channels = cs; leap_seconds = m }

-- ---- the slots one after another

-- the slots before this one have such channels, and no other has one
pub record SetsChannels (IsRight : ℕ → Option ℤ → Type 0) (slot : ℕ) (channels : List (Option ℤ)) : Type 0 where
  pub own : (s : ℕ) → IsSlot s → s < slot → IsRight s (channel_at channels s)
  pub others : (s : ℕ) → IsSlot s → slot ≤ s → channel_at channels s ≡ None

pub sets-first : (IsRight : ℕ → Option ℤ → Type 0) (channels : List (Option ℤ)) → ((s : ℕ) → channel_at channels s ≡ None) → SetsChannels IsRight 1 channels
sets-first IsRight channels none = record {
  own = λ s slot before. let from = slot.0 in absurd (omega (arith, from, before));
  others = λ s slot past. none s;
}

pub sets-next : (IsRight : ℕ → Option ℤ → Type 0) (slot : ℕ) (old new : List (Option ℤ)) (channel : Option ℤ) → SetsChannels IsRight slot old
    → IsRight slot channel → channel_at new slot ≡ channel → ((s : ℕ) → IsSlot s → s ≢ slot → channel_at new s ≡ channel_at old s)
    → SetsChannels IsRight (slot + 1) new
sets-next IsRight slot old new channel sets found set kept = record {
  own = λ s is before. elim (cases_order s slot) [
    | inl same ↦
        let here : channel ≡ channel_at new s = sym set ∙ ap (λ (k : ℕ). channel_at new k) (sym same) in
        subst (λ (k : ℕ). IsRight k (channel_at new s)) (sym same) (subst (λ (o : Option ℤ). IsRight slot o) here found)
    | inr (inl less) ↦
        subst (λ (o : Option ℤ). IsRight s o) (sym (kept s is (λ e. absurd (omega (arith, less, e))))) (sets.own s is less)
    | inr (inr more) ↦ absurd (omega (arith, before, more))
  ];
  others = λ s is past. kept s is (λ e. absurd (omega (arith, past, e))) ∙ sets.others s is (omega (arith, past));
}
