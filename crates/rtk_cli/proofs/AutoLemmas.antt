-- What the words of `auto` say, and why they are refused.
use Rattle.std.proofs.Common.{◌≡◌, ℕ, List, Option, None, Some, inl, refl, sym, subst}
use Rattle.std.specs.Borrow.{Bor}
use Rattle.std.specs.Option.{ForSome}
use Rattle.std.specs.declared.vec.Vec.{Vec}
use Rattle.rtk_obs.specs.declared.any_code.AnyCode.{AnyCode}
use Rattle.rtk_rinex.specs.MixedHead.{IsMixedList}
use Rattle.rtk_cli.specs.declared.auto_words.AutoOptions.{AutoOptions}
use Rattle.rtk_cli.specs.declared.words.BadWords.{BadWords}
use Rattle.rtk_cli.specs.declared.words.BadWords.TheVariants.{Codes, CodeOfSystem, CodeOfGps, Channels}
use Rattle.rtk_cli.specs.Steps.AnyCodeList.{in_file_order, IsCauseOfName, IsNameCause}
use Rattle.rtk_cli.specs.Steps.AutoWords.{SaysCodes, IsCauseOfCodes, HasBadList, HasCodesOrNone, HasListOrNone, HasBothTimes, HasListToo, IsFirstAutoCause}
use Rattle.rtk_cli.specs.Steps.ChannelList.{HasNoChannels}
use Rattle.rtk_cli.specs.Steps.ConvertWords.{HasBadChannels}
use Rattle.rtk_cli.specs.Steps.OptionTexts.{SaysIfAny}

-- ---- the options

-- the cause of a name, where the option is there
pub given-cause : (o : Option (Bor (List ℕ))) (text : Bor (List ℕ)) → o ≡ Some text → (cause : BadWords) → IsNameCause text.now cause → IsCauseOfCodes o cause
given-cause o text given cause is = subst (λ (t : Option (Bor (List ℕ))). IsCauseOfCodes t cause) (sym given) is

-- bad channels, where the option is there
pub given-channels : (o : Option (Bor (List ℕ))) (text : Bor (List ℕ)) → o ≡ Some text → (cause : BadWords) → (cause ≡ Channels) × HasNoChannels text.now
    → (cause ≡ Channels) × HasBadChannels o
given-channels o text given cause (is, none) = (is, subst (λ (t : Option (Bor (List ℕ))). HasBadChannels t) (sym given) none)

-- ---- the codes

-- codes that are said are listed
pub has-codes : {A : Type 0} (o : Option (Bor (List ℕ))) (codes : Option (Vec AnyCode A)) → SaysIfAny SaysCodes o codes → HasCodesOrNone o
has-codes None None says = tt
has-codes None (Some codes) says = tt
has-codes (Some text) None says = absurd says
has-codes (Some text) (Some codes) (own, lists, is) = (own, lists)

-- codes that are good together
pub has-list : {A : Type 0} (o : Option (Bor (List ℕ))) (codes : Option (Vec AnyCode A)) → SaysIfAny SaysCodes o codes → ForSome codes (λ cs. IsMixedList cs.items) → HasListOrNone o
has-list None None says good = tt
has-list None (Some codes) says good = tt
has-list (Some text) None says good = absurd says
has-list (Some text) (Some codes) (own, lists, is) good = (own, lists, subst (λ (l : List AnyCode). IsMixedList l) is (good codes refl))

-- codes that are not
pub has-bad-list : {A : Type 0} (o : Option (Bor (List ℕ))) (codes : Option (Vec AnyCode A)) → SaysIfAny SaysCodes o codes → ¬ (ForSome codes (λ cs. IsMixedList cs.items)) → HasBadList o
has-bad-list None None says bad = absurd (bad (λ x e. absurd (cc)))
has-bad-list None (Some codes) says bad = absurd says
has-bad-list (Some text) None says bad = absurd says
has-bad-list {A} (Some text) (Some codes) (own, lists, is) bad = (
  own,
  lists,
  λ good. bad (λ x e.
      let same : codes ≡ x = cc in
      subst (λ (v : Vec AnyCode A). IsMixedList v.items) same (subst (λ (l : List AnyCode). IsMixedList l) (sym is) good)),
)

-- ---- the causes

-- only names have such causes
only-of-names : (o : Option (Bor (List ℕ))) (cause : BadWords) → ((name : List ℕ) → IsCauseOfName name cause → ⊥) → IsCauseOfCodes o cause → ⊥
only-of-names None cause unlike is = is
only-of-names (Some text) cause unlike (name, first, is) = unlike name is

-- the cause of a name is a first cause
pub auto-name-cause : (o : AutoOptions) → HasBothTimes o → (cause : BadWords) → IsCauseOfCodes o.codes cause → IsFirstAutoCause o cause
auto-name-cause o times Codes is = inl (times, is)
auto-name-cause o times (CodeOfSystem s) is = (times, is)
auto-name-cause o times (CodeOfGps c) is = (times, is)
auto-name-cause o times cause is = absurd (only-of-names o.codes cause (λ name other. other) is)

-- bad channels are a first cause
pub auto-channels-cause : (o : AutoOptions) → HasListToo o → (cause : BadWords) → (cause ≡ Channels) × HasBadChannels o.channels → IsFirstAutoCause o cause
auto-channels-cause o list cause (is, bad) = subst (IsFirstAutoCause o) (sym is) (list, bad)
