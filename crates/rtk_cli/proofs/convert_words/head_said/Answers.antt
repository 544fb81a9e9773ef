use Rattle.std.proofs.Common.{◌≡◌, None, List, refl, sym, ap, ◌∙◌, subst}
use Rattle.rtk_obs.specs.declared.any_code.AnyCode.{AnyCode}
use Rattle.rtk_rinex.specs.MixedHead.{MixedHeadView, IsMixedList, TellsGlonass}
use Rattle.rtk_setup.specs.Rates.{without_rates}
use Rattle.rtk_cli.specs.declared.words.BadWords.TheVariants.{Codes}
use Rattle.rtk_cli.specs.Steps.ConvertWords.{SaysGlonass, IsGlonassCause, IsHeadCause}
use Rattle.rtk_cli.proofs.RefusedLemmas.{refused-by, exit-by, exit-also}
use Rattle.rtk_cli.proofs.HeadLemmas.{no-head-fault, glonass-cause, rates-cause, head-is}
use Rattle.rtk_cli.proofs.convert_words.head_said.Goals as goal

-- the codes are not good together
pub returns-then-not-is_mixed_list-clause-refused : goal.returns-then-not-is_mixed_list-clause-refused
returns-then-not-is_mixed_list-clause-refused c =
    refused-by (IsHeadCause c.args.options.now c.args.codes.now) Codes c.into.result c.into.ensures
    (λ good. let no = c.if-not-is_mixed_list.ensures.1 (subst (λ (l : List AnyCode). IsMixedList l) (sym (c.as_slice.ensures.value ∙ c.in_ok-listed.ensures)) good) in cc)

-- what is due of GLONASS is not told
pub returns-in_err-glonass-clause-refused : goal.returns-in_err-glonass-clause-refused
returns-in_err-glonass-clause-refused c =
    let good : IsMixedList c.as_slice.result.now = c.if-not-is_mixed_list.ensures.0 refl in
    exit-also (IsGlonassCause c.args.options.now c.as_slice-2.result.now) (IsHeadCause c.args.options.now c.args.codes.now) c.in_err-glonass.field-0.0 c.from_residual-in_err-glonass.result
    c.from_residual-in_err-glonass.ensures.1
    (glonass-cause c.args.options.now c.args.codes.now c.as_slice-2.result.now (c.as_slice-2.ensures.value ∙ c.in_ok-listed.ensures)
    (subst (λ (l : List AnyCode). IsMixedList l) (c.as_slice.ensures.value ∙ sym c.as_slice-2.ensures.value) good))
    c.in_err-glonass.ensures.refused

-- parts that are good make a head
pub unreachable-requires : goal.unreachable-requires
unreachable-requires c =
    let good : IsMixedList c.as_slice.result.now = c.if-not-is_mixed_list.ensures.0 refl in
    no-head-fault c.as_slice-3.result.now c.in_ok-glonass.glonass c.in_default.field-0
    (subst (λ (l : List AnyCode). IsMixedList l) (c.as_slice.ensures.value ∙ sym c.as_slice-3.ensures.value) good)
    (subst (λ (l : List AnyCode). TellsGlonass l c.in_ok-glonass.glonass) (c.as_slice-2.ensures.value ∙ sym c.as_slice-3.ensures.value) c.in_ok-glonass.ensures.due)
    c.in_default.ensures.fault

-- the MSM of a listed system has no Doppler shifts
pub returns-in_err-shown-clause-refused : goal.returns-in_err-shown-clause-refused
returns-in_err-shown-clause-refused c =
    let good : IsMixedList c.as_slice.result.now = c.if-not-is_mixed_list.ensures.0 refl in
    let told = c.in_err-shown.field-0.0 in
    exit-by (IsHeadCause c.args.options.now c.args.codes.now) told told c.from_residual-in_err-shown.result refl c.from_residual-in_err-shown.ensures.1
    (rates-cause c.args.options.now c.args.codes.now c.in-Ok.head.listed c.args.near c.in_ok-glonass.glonass
    (ap (λ (h : MixedHeadView). h.listed) c.in-Ok.ensures.head ∙ c.as_slice-3.ensures.value ∙ c.in_ok-listed.ensures)
    (subst (λ (l : List AnyCode). IsMixedList l) (c.as_slice.ensures.value ∙ sym c.as_slice-3.ensures.value ∙ sym (ap (λ (h : MixedHeadView). h.listed) c.in-Ok.ensures.head)) good)
    (subst (λ (l : List AnyCode). SaysGlonass c.args.options.now l c.args.near c.in_ok-glonass.glonass)
    (c.as_slice-2.ensures.value ∙ sym c.as_slice-3.ensures.value ∙ sym (ap (λ (h : MixedHeadView). h.listed) c.in-Ok.ensures.head)) c.in_ok-glonass.ensures.said)
    told c.in_err-shown.ensures.cause)

-- the head is of these parts
pub returns-clause-said : goal.returns-clause-said
returns-clause-said c =
    let o = c.args.options.now in
    let good : IsMixedList c.as_slice.result.now = c.if-not-is_mixed_list.ensures.0 refl in
    let rates : without_rates o.doppler o.kinds c.as_slice-3.result.now ≡ None =
    ap (λ (h : MixedHeadView). without_rates o.doppler o.kinds h.listed) (sym c.in-Ok.ensures.head) ∙ c.in_ok-shown.ensures.rates in
    head-is o c.args.marker c.args.codes.now c.as_slice-3.result.now c.args.made c.args.near c.in_ok-glonass.glonass c.in_ok-shown.shown
    (c.in_ok-shown.ensures.head ∙ ap (λ (h : MixedHeadView). record h { doppler = o.doppler }) c.in-Ok.ensures.head)
    (c.as_slice-3.ensures.value ∙ c.in_ok-listed.ensures)
    (subst (λ (l : List AnyCode). IsMixedList l) (c.as_slice.ensures.value ∙ sym c.as_slice-3.ensures.value) good)
    (subst (λ (l : List AnyCode). SaysGlonass c.args.options.now l c.args.near c.in_ok-glonass.glonass) (c.as_slice-2.ensures.value ∙ sym c.as_slice-3.ensures.value) c.in_ok-glonass.ensures.said) rates
