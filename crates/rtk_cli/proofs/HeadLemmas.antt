-- The head of a file by the words of `convert`.
use Rattle.std.proofs.Common.{◌≡◌, ℕ, ℤ, List, Option, None, Some, inl, refl, sym, subst}
use Rattle.std.specs.Borrow.{Bor}
use Rattle.rtk_obs.specs.declared.any_code.AnyCode.{AnyCode}
use Rattle.rtk_rinex.specs.MixedHead.{GlonassView, MixedHeadView, IsMixedList, TellsGlonass, IsMixedHeadFault}
use Rattle.rtk_rinex.specs.declared.mixed_head_fault.MixedHeadFault.{MixedHeadFault}
use Rattle.rtk_rinex.specs.declared.mixed_head_fault.MixedHeadFault.TheVariants as fault
use Rattle.rtk_setup.specs.Rates.{without_rates}
use Rattle.rtk_cli.specs.declared.convert_words.ConvertOptions.{ConvertOptions}
use Rattle.rtk_cli.specs.declared.words.BadWords.{BadWords}
use Rattle.rtk_cli.specs.declared.words.BadWords.TheVariants.{Codes, Channels, NoChannels, NoGlonass, NoRates}
use Rattle.rtk_cli.specs.Steps.AnyCodeList.{in_file_order}
use Rattle.rtk_cli.specs.Steps.ChannelList.{HasNoChannels, WritesChannels}
use Rattle.rtk_cli.specs.Steps.ConvertWords.{SaysGlonass, SaysChannels, HasBadChannels, IsGlonassCause, TellsItsGlonass, IsShiftsCause, IsHeadOf, IsHeadCause}

-- parts that are good make a head
pub no-head-fault : (listed : List AnyCode) (g : Option GlonassView) (f : MixedHeadFault) → IsMixedList listed → TellsGlonass listed g → IsMixedHeadFault listed g f → ⊥
no-head-fault listed g fault.Codes good tells is = is good
no-head-fault listed g fault.Glonass good tells is = is.1 tells

-- a cause of what is told of GLONASS is one of the head
pub glonass-cause : (o : ConvertOptions) (own listed : List AnyCode) → listed ≡ in_file_order own → IsMixedList listed → (cause : BadWords) → IsGlonassCause o listed cause → IsHeadCause o own cause
glonass-cause o own listed same good Codes is = absurd is
glonass-cause o own listed same good Channels is = subst (λ (l : List AnyCode). IsMixedList l × IsGlonassCause o l Channels) same (good, is)
glonass-cause o own listed same good NoChannels is = subst (λ (l : List AnyCode). IsMixedList l × IsGlonassCause o l NoChannels) same (good, is)
glonass-cause o own listed same good NoGlonass is = subst (λ (l : List AnyCode). IsMixedList l × IsGlonassCause o l NoGlonass) same (good, is)
glonass-cause o own listed same good _ is = absurd is

-- so is a cause of Doppler shifts
pub rates-cause : (o : ConvertOptions) (own listed : List AnyCode) (near : ℕ) (g : Option GlonassView) → listed ≡ in_file_order own → IsMixedList listed → SaysGlonass o listed near g
    → (cause : BadWords) → IsShiftsCause o.doppler o.kinds listed cause → IsHeadCause o own cause
rates-cause o own listed near g same good says (NoRates s) is =
    subst (λ (l : List AnyCode). IsMixedList l × TellsItsGlonass o l × IsShiftsCause o.doppler o.kinds l (NoRates s)) same (good, (near, g, says), is)
rates-cause o own listed near g same good says _ is = absurd is

-- a head of these parts
pub head-is : (o : ConvertOptions) (marker : List ℕ) (own listed : List AnyCode) (made near : ℕ) (g : Option GlonassView) (h : MixedHeadView)
    → h ≡ record { marker = marker; listed = listed; glonass = g; made = made; doppler = o.doppler } → listed ≡ in_file_order own → IsMixedList listed → SaysGlonass o listed near g
    → without_rates o.doppler o.kinds listed ≡ None → IsHeadOf o marker own made near h
head-is o marker own listed made near g h is same good says rates =
    subst (λ (v : MixedHeadView). IsHeadOf o marker own made near v) (sym is)
    (record { marker = refl; listed = same; good = good; glonass = says; made = refl; doppler = refl; rates = rates })

-- the text of the channels is bad
pub bad-channels : (o : ConvertOptions) (listed : List AnyCode) (text : Bor (List ℕ)) → o.channels ≡ Some text → (cause : BadWords) → (cause ≡ Channels) × HasNoChannels text.now → IsGlonassCause o listed cause
bad-channels o listed text given cause is =
    subst (IsGlonassCause o listed) (sym is.0) (inl (subst (λ (c : Option (Bor (List ℕ))). HasBadChannels c) (sym given) is.1))

-- the text of the channels is good
pub says-channels : (o : ConvertOptions) (text : Bor (List ℕ)) (channels : List (Option ℤ)) → o.channels ≡ Some text → WritesChannels text.now channels → SaysChannels o.channels channels
says-channels o text channels given says = subst (λ (c : Option (Bor (List ℕ))). SaysChannels c channels) (sym given) says
