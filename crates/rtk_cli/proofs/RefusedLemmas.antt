-- Why words are refused.
use Rattle.std.proofs.Common.{◌≡◌, ℕ, List, Result, IsErrAnd, IfErr, inl, inr, sym, subst}
use Rattle.std.proofs.lemmas.Result.{err_from_is_err_and}
use Rattle.rtk_obs.specs.declared.any_code.AnyCode.{AnyCode}
use Rattle.rtk_cli.specs.declared.convert_words.ConvertOptions.{ConvertOptions}
use Rattle.rtk_cli.specs.declared.words.BadWords.{BadWords}
use Rattle.rtk_cli.specs.declared.words.BadWords.TheVariants.{Codes, CodeOfSystem, CodeOfGps, Channels, NoChannels, NoGlonass, NoRates}
use Rattle.rtk_cli.specs.declared.words.WordsFault.{WordsFault}
use Rattle.rtk_cli.specs.declared.words.WordsFault.TheVariants.{Clap, Bad, OutOfMemory}
use Rattle.rtk_cli.specs.FaultLines.{TellsCause, IsRefusal}
use Rattle.rtk_cli.specs.Steps.AnyCodeList.{ListsCodes, IsNameCause}
use Rattle.rtk_cli.specs.Steps.ConvertWords.{HasTimes, HasMarker, IsHeadCause, IsFirstCause}

-- a fault with the line of a cause
pub refused-by : (IsCause : BadWords → Type 0) (cause : BadWords) (fault : WordsFault) → TellsCause cause fault → IsCause cause → IsRefusal IsCause fault
refused-by IsCause cause (Clap text status) tells is = absurd tells
refused-by IsCause cause (Bad line more) tells is = (cause, is, tells)
refused-by IsCause cause OutOfMemory tells is = tt

-- the exit of a `?` by a cause
pub exit-by : {T : Type 0} (IsCause : BadWords → Type 0) (cause told : BadWords) (r : Result T WordsFault) → told ≡ cause → IsErrAnd r (TellsCause told) → IsCause cause → IfErr r (IsRefusal IsCause)
exit-by IsCause cause told r same exits is =
    let p = err_from_is_err_and r exits in
    rw p.1 (refused-by IsCause cause p.0 (subst (λ (c : BadWords). TellsCause c p.0) same p.2) is)

-- a cause that is another one too
refused-also : (IsCause IsOther : BadWords → Type 0) (fault : WordsFault) → ((cause : BadWords) → IsCause cause → IsOther cause) → IsRefusal IsCause fault → IsRefusal IsOther fault
refused-also IsCause IsOther (Clap text status) also (cause, is, tells) = absurd tells
refused-also IsCause IsOther (Bad line more) also (cause, is, tells) = (cause, also cause is, tells)
refused-also IsCause IsOther OutOfMemory also refused = tt

-- the exit of a `?` by a cause that is another one too
pub exit-also : {T : Type 0} (IsCause IsOther : BadWords → Type 0) (told : WordsFault) (r : Result T WordsFault) → IsErrAnd r (λ (fault : WordsFault). fault ≡ told)
    → ((cause : BadWords) → IsCause cause → IsOther cause) → IsRefusal IsCause told → IfErr r (IsRefusal IsOther)
exit-also IsCause IsOther told r exits also refused =
    let p = err_from_is_err_and r exits in
    rw p.1 (subst (IsRefusal IsOther) (sym p.2) (refused-also IsCause IsOther told also refused))

-- a name that is no code's word is a first cause
pub name-cause : (o : ConvertOptions) (names : List (List ℕ)) → HasTimes o → (cause : BadWords) → IsNameCause o.codes.now cause → IsFirstCause o names cause
name-cause o names times Codes is = inl (times, is)
name-cause o names times (CodeOfSystem s) is = (times, is)
name-cause o names times (CodeOfGps c) is = (times, is)
name-cause o names times _ is = absurd (is.2)

-- a cause of no head is a first cause
pub head-cause : (o : ConvertOptions) (names : List (List ℕ)) (own : List AnyCode) → HasMarker o → ListsCodes o.codes.now own → (cause : BadWords) → IsHeadCause o own cause → IsFirstCause o names cause
head-cause o names own good lists Codes is = inr (good, (own, lists, is))
head-cause o names own good lists Channels is = (good, (own, lists, is))
head-cause o names own good lists NoChannels is = (good, (own, lists, is))
head-cause o names own good lists NoGlonass is = (good, (own, lists, is))
head-cause o names own good lists (NoRates s) is = (good, (own, lists, is))
head-cause o names own good lists _ is = absurd (is.1)
