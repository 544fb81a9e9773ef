-- What the words of `convert` say.
use Rattle.std.proofs.Common.{◌≡◌, ℕ, Bool, true, false, List, Option, None, Some, refl, sym, ap, ◌∙◌, subst}
use Rattle.rtk_obs.specs.declared.any_code.AnyCode.{AnyCode}
use Rattle.rtk_rinex.specs.MixedHead.{MixedHeadView}
use Rattle.rtk_setup.specs.Setup.{SetupView, mixed_setup_of}
use Rattle.rtk_cli.specs.declared.convert_words.ConvertOptions.{ConvertOptions}
use Rattle.rtk_cli.specs.Steps.AnyCodeList.{ListsCodes}
use Rattle.rtk_cli.specs.Steps.ConvertWords.{IsHeadOf, SaysSetup, with_given, with_1012_if}
use Rattle.rtk_cli.specs.Steps.MomentText.{WritesMoment}

-- a setup of these parts, but for leap seconds and 1012
abbrev pub plain_setup : ConvertOptions → ℕ → MixedHeadView → SetupView
plain_setup o near head = record (mixed_setup_of o.station near head o.window) { kinds = o.kinds }

given-is : (s : SetupView) (given : Option ℕ) → s.leap_seconds ≡ None → with_given s given ≡ record s { leap_seconds = given }
given-is s None none = ap (λ (l : Option ℕ). record s { leap_seconds = l }) none
given-is s (Some n) none = refl

asked-is : (s : SetupView) (asked : Bool) → s.takes_1012 ≡ false → with_1012_if s asked ≡ record s { takes_1012 = asked }
asked-is s true none = refl
asked-is s false none = ap (λ (b : Bool). record s { takes_1012 = b }) none

-- a setup of these parts
pub says-setup : (o : ConvertOptions) (s : SetupView) (near made : ℕ) (marker : List ℕ) (own : List AnyCode) (head : MixedHeadView)
    → s ≡ with_1012_if (with_given (plain_setup o near head) o.leap_seconds) o.with_1012
    → WritesMoment o.near.now near → WritesMoment o.made.now made → marker ≡ o.marker.now → ListsCodes o.codes.now own
    → IsHeadOf o marker own made near head → SaysSetup o s
says-setup o s near made marker own head is n m k l h =
    let given : SetupView = record (plain_setup o near head) { leap_seconds = o.leap_seconds } in
    let asked : s ≡ with_1012_if given o.with_1012 = is ∙ ap (λ (t : SetupView). with_1012_if t o.with_1012) (given-is (plain_setup o near head) o.leap_seconds refl) in
    let all : s ≡ record given { takes_1012 = o.with_1012 } = asked ∙ asked-is given o.with_1012 refl in
    subst (SaysSetup o) (sym all) (refl, n, (own, made, l, m, subst (λ (t : List ℕ). IsHeadOf o t own made near head) k h), refl, refl, refl, refl)
