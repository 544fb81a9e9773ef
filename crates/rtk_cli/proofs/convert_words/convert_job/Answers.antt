use Rattle.std.proofs.Common.{ℕ, List, inl, inr, refl, sym, ap, ◌∙◌, subst}
use Rattle.rtk_rinex.specs.Header.{IsMarker}
use Rattle.rtk_setup.specs.Setup.{SetupView, IsStation, IsWindow}
use Rattle.rtk_cli.specs.declared.words.BadWords.TheVariants.{Near, Made, Marker, Links}
use Rattle.rtk_cli.specs.Steps.AnyCodeList.{ListsCodes, IsNameCause}
use Rattle.rtk_cli.specs.Steps.ConvertWords.{HasTimes, HasNames, HasMarker, HasHead, IsHeadOf, IsHeadCause, IsFirstCause, with_given, with_1012_if}
use Rattle.rtk_cli.specs.Steps.MomentText.{WritesMoment}
use Rattle.rtk_cli.proofs.RefusedLemmas.{refused-by, exit-by, exit-also, name-cause, head-cause}
use Rattle.rtk_cli.proofs.SaidLemmas.{says-setup}
use Rattle.rtk_cli.proofs.convert_words.convert_job.Goals as goal

-- the reference has another form
pub returns-in_err-moment-clause-refused : goal.returns-in_err-moment-clause-refused
returns-in_err-moment-clause-refused c =
    exit-by (IsFirstCause c.args.options.now _) Near c.in_err-moment.field-0.0 c.from_residual.result
    c.in_err-moment.ensures.cause.0 c.from_residual.ensures.1 (inl c.in_err-moment.ensures.cause.1)

-- the time of making has another form
pub returns-in_err-made-clause-refused : goal.returns-in_err-made-clause-refused
returns-in_err-made-clause-refused c =
    exit-by (IsFirstCause c.args.options.now _) Made c.in_err-made.field-0.0 c.from_residual-in_err-made.result
    c.in_err-made.ensures.cause.0 c.from_residual-in_err-made.ensures.1
    ((c.in_ok-moment.moment, c.in_ok-moment.ensures.bound, c.in_ok-moment.ensures.moment), c.in_err-made.ensures.cause.1)

-- a name is no code's word
pub returns-in_err-codes-clause-refused : goal.returns-in_err-codes-clause-refused
returns-in_err-codes-clause-refused c =
    let times : HasTimes c.args.options.now = (
      (c.in_ok-moment.moment, c.in_ok-moment.ensures.bound, c.in_ok-moment.ensures.moment),
      (c.in_ok-made.made, c.in_ok-made.ensures.bound, c.in_ok-made.ensures.moment),
    ) in
    exit-also (IsNameCause c.args.options.now.codes.now) (IsFirstCause c.args.options.now _) c.in_err-codes.field-0.0 c.from_residual-in_err-codes.result
    c.from_residual-in_err-codes.ensures.1 (name-cause c.args.options.now _ times) c.in_err-codes.ensures.refused

-- the marker is bad
pub returns-in_err-marker-clause-refused : goal.returns-in_err-marker-clause-refused
returns-in_err-marker-clause-refused c =
    let names : HasNames c.args.options.now = (
      (
        (c.in_ok-moment.moment, c.in_ok-moment.ensures.bound, c.in_ok-moment.ensures.moment),
        (c.in_ok-made.made, c.in_ok-made.ensures.bound, c.in_ok-made.ensures.moment),
      ),
      (c.in_ok-codes.codes.items, c.in_ok-codes.ensures.listed),
    ) in
    exit-by (IsFirstCause c.args.options.now _) Marker c.in_err-marker.field-0.0 c.from_residual-in_err-marker.result
    c.in_err-marker.ensures.cause.0 c.from_residual-in_err-marker.ensures.1 (names, c.in_err-marker.ensures.cause.1)

-- there is no head
pub returns-in_err-head-clause-refused : goal.returns-in_err-head-clause-refused
returns-in_err-head-clause-refused c =
    let names : HasNames c.args.options.now = (
      (
        (c.in_ok-moment.moment, c.in_ok-moment.ensures.bound, c.in_ok-moment.ensures.moment),
        (c.in_ok-made.made, c.in_ok-made.ensures.bound, c.in_ok-made.ensures.moment),
      ),
      (c.in_ok-codes.codes.items, c.in_ok-codes.ensures.listed),
    ) in
    let marker : HasMarker c.args.options.now = (names, subst IsMarker c.in_ok-marker.ensures.marker c.in_ok-marker.ensures.good) in
    exit-also (IsHeadCause c.args.options.now c.as_slice.result.now) (IsFirstCause c.args.options.now _) c.in_err-head.field-0.0 c.from_residual-in_err-head.result
    c.from_residual-in_err-head.ensures.1
    (head-cause c.args.options.now _ c.as_slice.result.now marker (subst (ListsCodes c.args.options.now.codes.now) (sym c.as_slice.ensures.value) c.in_ok-codes.ensures.listed))
    c.in_err-head.ensures.refused

-- the links are bad
pub returns-then-not-are_links-clause-refused : goal.returns-then-not-are_links-clause-refused
returns-then-not-are_links-clause-refused c =
    let names : HasNames c.args.options.now = (
      (
        (c.in_ok-moment.moment, c.in_ok-moment.ensures.bound, c.in_ok-moment.ensures.moment),
        (c.in_ok-made.made, c.in_ok-made.ensures.bound, c.in_ok-made.ensures.moment),
      ),
      (c.in_ok-codes.codes.items, c.in_ok-codes.ensures.listed),
    ) in
    let marker : HasMarker c.args.options.now = (names, subst IsMarker c.in_ok-marker.ensures.marker c.in_ok-marker.ensures.good) in
    let head : HasHead c.args.options.now = (
      marker,
      (
        c.as_slice.result.now,
        c.in_ok-made.made,
        c.in_ok-moment.moment,
        c.in_ok-head.head,
        subst (ListsCodes c.args.options.now.codes.now) (sym c.as_slice.ensures.value) c.in_ok-codes.ensures.listed,
        subst (λ (t : List ℕ). IsHeadOf c.args.options.now t c.as_slice.result.now c.in_ok-made.made c.in_ok-moment.moment c.in_ok-head.head) c.in_ok-marker.ensures.marker c.in_ok-head.ensures.said,
      ),
    ) in
    refused-by (IsFirstCause c.args.options.now _) Links c.into.result c.into.ensures
    (head, λ are-good. let are = rw c.as_slice-2.ensures.value at c.if-not-are_links.ensures in let no = are.1 are-good in cc)

-- nothing is dated near the reference
pub returns-in_err-near-clause-refused : goal.returns-in_err-near-clause-refused
returns-in_err-near-clause-refused c =
    let names : HasNames c.args.options.now = (
      (
        (c.in_ok-moment.moment, c.in_ok-moment.ensures.bound, c.in_ok-moment.ensures.moment),
        (c.in_ok-made.made, c.in_ok-made.ensures.bound, c.in_ok-made.ensures.moment),
      ),
      (c.in_ok-codes.codes.items, c.in_ok-codes.ensures.listed),
    ) in
    let marker : HasMarker c.args.options.now = (names, subst IsMarker c.in_ok-marker.ensures.marker c.in_ok-marker.ensures.good) in
    let head : HasHead c.args.options.now = (
      marker,
      (
        c.as_slice.result.now,
        c.in_ok-made.made,
        c.in_ok-moment.moment,
        c.in_ok-head.head,
        subst (ListsCodes c.args.options.now.codes.now) (sym c.as_slice.ensures.value) c.in_ok-codes.ensures.listed,
        subst (λ (t : List ℕ). IsHeadOf c.args.options.now t c.as_slice.result.now c.in_ok-made.made c.in_ok-moment.moment c.in_ok-head.head) c.in_ok-marker.ensures.marker c.in_ok-head.ensures.said,
      ),
    ) in
    exit-by (IsFirstCause c.args.options.now _) Near c.in_err-near.field-0.0 c.from_residual-in_err-near.result
    c.in_err-near.ensures.cause.0 c.from_residual-in_err-near.ensures.1
    (inr (
      head,
      (let are = rw c.as_slice-2.ensures.value at c.if-not-are_links.ensures in are.0 refl),
      (c.in_ok-moment.moment, c.in_ok-moment.ensures.moment, c.in_err-near.ensures.cause.1),
    ))

-- the setup is of what the texts say
pub returns-clause-said : goal.returns-clause-said
returns-clause-said c =
    let o = c.args.options.now in
    let kinds = c.with_kinds.ensures ∙ ap (λ (s : SetupView). record s { kinds = o.kinds }) c.mixed-setup.ensures.setup in
    let given = c.with_leap_seconds-setup.ensures.given ∙ ap (λ (s : SetupView). with_given s o.leap_seconds) kinds in
    let setup = c.with_1012_if-setup.ensures.given ∙ ap (λ (s : SetupView). with_1012_if s o.with_1012) given in
    let near = c.in_ok-near.ensures.near in (
      says-setup o c.with_1012_if-setup.result c.in_ok-near.near c.in_ok-made.made c.in_ok-marker.marker c.as_slice.result.now c.in_ok-head.head setup
          (subst (λ (n : ℕ). WritesMoment o.near.now n) (sym near) c.in_ok-moment.ensures.moment)
          c.in_ok-made.ensures.moment c.in_ok-marker.ensures.marker
          (subst (ListsCodes o.codes.now) (sym c.as_slice.ensures.value) c.in_ok-codes.ensures.listed)
          (subst (λ (n : ℕ). IsHeadOf o c.in_ok-marker.marker c.as_slice.result.now c.in_ok-made.made n c.in_ok-head.head) (sym near) c.in_ok-head.ensures.said),
      refl,
    )

-- and its parts are within their limits
pub returns-clause-limits : goal.returns-clause-limits
returns-clause-limits c =
    let kinds = c.with_kinds.ensures in
    let station = c.with_1012_if-setup.ensures.station ∙ c.with_leap_seconds-setup.ensures.station ∙ ap (λ (s : SetupView). s.station) kinds in
    let window = c.with_1012_if-setup.ensures.window ∙ c.with_leap_seconds-setup.ensures.window ∙ ap (λ (s : SetupView). s.window) kinds in (
      subst IsStation (sym station) c.mixed-setup.ensures.good.0,
      subst IsWindow (sym window) c.mixed-setup.ensures.good.3,
      (let are = rw c.as_slice-2.ensures.value at c.if-not-are_links.ensures in are.0 refl),
    )
