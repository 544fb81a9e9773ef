-- The line of the channels that messages tell.
use Rattle.std.proofs.Common.{◌≡◌, ◌&&◌, ◌<◌, ◌≤◌, ◌+◌, ◌-◌, ◌/◌, ◌%◌, ◌++◌, ◌∙◌, ℕ, zero, suc, Bool, true, false, cond, List, [], ◌∷◌, refl, sym, ap, append_assoc, nat_lt, arith}
use Rattle.std.specs.Prelude.{filter, codes}
use Rattle.std.specs.BTreeMap.{BTreeMap}
use Rattle.std.specs.List.{range_with_len}
use Rattle.rtk_message.specs.declared.any_message.AnyMessage.{AnyMessage}
use Rattle.rtk_survey.specs.Channels.{place_of_field, IsChannelTold, CountsChannels, place_is_told}
use Rattle.rtk_survey.specs.Steps.Tables.{place_is_counted}
use Rattle.rtk_survey.specs.Contents.{count_at}
use Rattle.rtk_survey.specs.SummaryText.{told_channel_text, joined_channels, told_channels_text, line_if_some, channel_line}

-- ---- one place after another

-- the first of the places that are left
place-first : (place : ℕ) → place < 588 → range_with_len place (588 - place) ≡ place ∷ range_with_len (place + 1) (588 - (place + 1))
place-first place within =
    let more : 588 - place ≡ suc (588 - (place + 1)) = omega (arith, within) in
    ap (λ (k : ℕ). range_with_len place k) more

pub channel-named : (told : ℕ → Bool) (text : List ℕ) (separator place : ℕ) (whole : List ℕ) → place < 588 → told place ≡ true
    → text ++ joined_channels separator (filter told (range_with_len place (588 - place))) ≡ whole
    → ((text ++ separator ∷ []) ++ told_channel_text place) ++ joined_channels 44 (filter told (range_with_len (place + 1) (588 - (place + 1)))) ≡ whole
channel-named told text separator place whole within is so_far =
    let rest : List ℕ = filter told (range_with_len (place + 1) (588 - (place + 1))) in
    let first : filter told (range_with_len place (588 - place)) ≡ place ∷ rest =
    ap (λ (ps : List ℕ). filter told ps) (place-first place within) ∙ ap (λ (b : Bool). cond b (place ∷ rest) rest) is in
    append_assoc (text ++ separator ∷ []) (told_channel_text place) (joined_channels 44 rest) ∙ append_assoc text (separator ∷ []) (told_channel_text place ++ joined_channels 44 rest)
    ∙ ap (λ (ps : List ℕ). text ++ joined_channels separator ps) (sym first) ∙ so_far

pub channel-passed : (told : ℕ → Bool) (text : List ℕ) (separator place : ℕ) (whole : List ℕ) → place < 588 → told place ≡ false
    → text ++ joined_channels separator (filter told (range_with_len place (588 - place))) ≡ whole
    → text ++ joined_channels separator (filter told (range_with_len (place + 1) (588 - (place + 1)))) ≡ whole
channel-passed told text separator place whole within is so_far =
    let rest : List ℕ = filter told (range_with_len (place + 1) (588 - (place + 1))) in
    let first : filter told (range_with_len place (588 - place)) ≡ rest =
    ap (λ (ps : List ℕ). filter told ps) (place-first place within) ∙ ap (λ (b : Bool). cond b (place ∷ rest) rest) is in
    ap (λ (ps : List ℕ). text ++ joined_channels separator ps) (sym first) ∙ so_far

-- ---- the counts are those of the messages

filters-agree : (f g : ℕ → Bool) (a n : ℕ) → ((k : ℕ) → a ≤ k → k < a + n → f k ≡ g k) → filter f (range_with_len a n) ≡ filter g (range_with_len a n)
filters-agree f g a zero agree = refl
filters-agree f g a (suc n) agree =
    let here : a < a + suc n = omega arith in
    let low : a ≤ a = omega arith in
    let rest : filter f (range_with_len (a + 1) n) ≡ filter g (range_with_len (a + 1) n) =
    filters-agree f g (a + 1) n (λ k from lt. let below : a ≤ k = omega (arith, from) in let further : k < a + suc n = omega (arith, lt) in agree k below further) in
    ap (λ (b : Bool). cond b (a ∷ filter f (range_with_len (a + 1) n)) (filter f (range_with_len (a + 1) n))) (agree a low here)
    ∙ ap (λ (xs : List ℕ). cond (g a) (a ∷ xs) xs) rest

same-place : (place : ℕ) → place_of_field (place / 21) (place % 21) ≡ place
same-place place = omega arith

told-as : (counts : BTreeMap ℕ ℕ) (ms : List AnyMessage) (place : ℕ) → 21 ≤ place → place < 588 → CountsChannels counts ms → place_is_counted counts place ≡ place_is_told ms place
told-as counts ms place from within had =
    let is : IsChannelTold (place / 21) (place % 21) = record { first = omega (arith, from); last = omega (arith, within); few = omega arith } in
    ap (λ (k : ℕ). nat_lt (place % 21) 14 && nat_lt 0 (count_at counts k)) (sym (same-place place))
    ∙ ap (λ (n : ℕ). nat_lt (place % 21) 14 && nat_lt 0 n) (had (place / 21) (place % 21) is)

pub channel-line-is : (counts : BTreeMap ℕ ℕ) (ms : List AnyMessage) → CountsChannels counts ms → channel_line (place_is_counted counts) ≡ channel_line (place_is_told ms)
unfolding channel_line told_channels_text
channel-line-is counts ms had =
    ap (λ (ps : List ℕ). line_if_some (codes " channels") (joined_channels 32 ps))
    (filters-agree (place_is_counted counts) (place_is_told ms) 21 567 (λ k from lt. told-as counts ms k from (omega (arith, lt)) had))
