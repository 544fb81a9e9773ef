use Rattle.std.proofs.Common.{◌≡◌, inl, inr, refl}
use Rattle.rtk_cli.specs.declared.words.BadWords.{BadWords}
use Rattle.rtk_cli.specs.declared.words.BadWords.TheVariants.{NearOfAuto, MadeOfAuto, Codes, Marker, Channels, Systems}
use Rattle.rtk_cli.specs.Steps.AutoWords.{IsCauseOfCodes, HasBothTimes, HasCodeNames, HasMarkerToo, HasListToo, HasChannelsToo, HasSystemsToo, IsFirstAutoCause}
use Rattle.rtk_cli.specs.Steps.ConvertWords.{HasBadChannels}
use Rattle.rtk_cli.proofs.AutoLemmas.{has-codes, has-list, has-bad-list, auto-name-cause, auto-channels-cause}
use Rattle.rtk_cli.proofs.RefusedLemmas.{refused-by, exit-by, exit-also}
use Rattle.rtk_cli.proofs.auto_words.auto_words.Goals as goal

-- the reference has another form
pub returns-in_err-near-clause-refused : goal.returns-in_err-near-clause-refused
returns-in_err-near-clause-refused c =
    exit-by (IsFirstAutoCause c.args.options.now) NearOfAuto c.in_err-near.field-0.0 c.from_residual.result
    c.in_err-near.ensures.cause.0 c.from_residual.ensures.1 (inl c.in_err-near.ensures.cause.1)

-- the time of making has another form
pub returns-in_err-made-clause-refused : goal.returns-in_err-made-clause-refused
returns-in_err-made-clause-refused c =
    exit-by (IsFirstAutoCause c.args.options.now) MadeOfAuto c.in_err-made.field-0.0 c.from_residual-in_err-made.result
    c.in_err-made.ensures.cause.0 c.from_residual-in_err-made.ensures.1
    ((c.in_ok-near.near, c.in_ok-near.ensures.moment), c.in_err-made.ensures.cause.1)

-- a name is no code's word
pub returns-in_err-codes-clause-refused : goal.returns-in_err-codes-clause-refused
returns-in_err-codes-clause-refused c =
    let o = c.args.options.now in
    let times : HasBothTimes o = ((c.in_ok-near.near, c.in_ok-near.ensures.moment), (c.in_ok-made.made, c.in_ok-made.ensures.moment)) in
    exit-also (IsCauseOfCodes o.codes) (IsFirstAutoCause o) c.in_err-codes.field-0.0 c.from_residual-in_err-codes.result
    c.from_residual-in_err-codes.ensures.1 (auto-name-cause o times) c.in_err-codes.ensures.refused

-- the marker is bad
pub returns-in_err-marker-clause-refused : goal.returns-in_err-marker-clause-refused
returns-in_err-marker-clause-refused c =
    let o = c.args.options.now in
    let times : HasBothTimes o = ((c.in_ok-near.near, c.in_ok-near.ensures.moment), (c.in_ok-made.made, c.in_ok-made.ensures.moment)) in
    let names : HasCodeNames o = (times, has-codes o.codes c.in_ok-codes.codes c.in_ok-codes.ensures.said) in
    exit-by (IsFirstAutoCause o) Marker c.in_err-marker.field-0.0 c.from_residual-in_err-marker.result
    c.in_err-marker.ensures.cause.0 c.from_residual-in_err-marker.ensures.1 (names, c.in_err-marker.ensures.cause.1)

-- the codes are not good together
pub returns-then-not-are_good_codes-clause-refused : goal.returns-then-not-are_good_codes-clause-refused
returns-then-not-are_good_codes-clause-refused c =
    let o = c.args.options.now in
    let times : HasBothTimes o = ((c.in_ok-near.near, c.in_ok-near.ensures.moment), (c.in_ok-made.made, c.in_ok-made.ensures.moment)) in
    let names : HasCodeNames o = (times, has-codes o.codes c.in_ok-codes.codes c.in_ok-codes.ensures.said) in
    let marker : HasMarkerToo o = (names, (c.in_ok-marker.marker, c.in_ok-marker.ensures.marker)) in
    refused-by (IsFirstAutoCause o) Codes c.into.result c.into.ensures
    (inr (marker, has-bad-list o.codes c.in_ok-codes.codes c.in_ok-codes.ensures.said (λ good. let no = c.if-not-are_good_codes.ensures.1 good in cc)))

-- the channels are bad
pub returns-in_err-channels-clause-refused : goal.returns-in_err-channels-clause-refused
returns-in_err-channels-clause-refused c =
    let o = c.args.options.now in
    let times : HasBothTimes o = ((c.in_ok-near.near, c.in_ok-near.ensures.moment), (c.in_ok-made.made, c.in_ok-made.ensures.moment)) in
    let names : HasCodeNames o = (times, has-codes o.codes c.in_ok-codes.codes c.in_ok-codes.ensures.said) in
    let marker : HasMarkerToo o = (names, (c.in_ok-marker.marker, c.in_ok-marker.ensures.marker)) in
    let list : HasListToo o = (marker, has-list o.codes c.in_ok-codes.codes c.in_ok-codes.ensures.said (c.if-not-are_good_codes.ensures.0 refl)) in
    exit-also (λ (cause : BadWords). (cause ≡ Channels) × HasBadChannels o.channels) (IsFirstAutoCause o) c.in_err-channels.field-0.0
    c.from_residual-in_err-channels.result c.from_residual-in_err-channels.ensures.1 (auto-channels-cause o list) c.in_err-channels.ensures.refused

-- the letters of systems are bad
pub returns-in_err-systems-clause-refused : goal.returns-in_err-systems-clause-refused
returns-in_err-systems-clause-refused c =
    let o = c.args.options.now in
    let times : HasBothTimes o = ((c.in_ok-near.near, c.in_ok-near.ensures.moment), (c.in_ok-made.made, c.in_ok-made.ensures.moment)) in
    let names : HasCodeNames o = (times, has-codes o.codes c.in_ok-codes.codes c.in_ok-codes.ensures.said) in
    let marker : HasMarkerToo o = (names, (c.in_ok-marker.marker, c.in_ok-marker.ensures.marker)) in
    let list : HasListToo o = (marker, has-list o.codes c.in_ok-codes.codes c.in_ok-codes.ensures.said (c.if-not-are_good_codes.ensures.0 refl)) in
    let channels : HasChannelsToo o = (list, (c.in_ok-channels.channels, c.in_ok-channels.ensures.said)) in
    exit-by (IsFirstAutoCause o) Systems c.in_err-systems.field-0.0 c.from_residual-in_err-systems.result
    c.in_err-systems.ensures.cause.0 c.from_residual-in_err-systems.ensures.1 (channels, c.in_err-systems.ensures.cause.1)

-- nothing is dated near the reference
pub returns-in_err-reference-clause-refused : goal.returns-in_err-reference-clause-refused
returns-in_err-reference-clause-refused c =
    let o = c.args.options.now in
    let times : HasBothTimes o = ((c.in_ok-near.near, c.in_ok-near.ensures.moment), (c.in_ok-made.made, c.in_ok-made.ensures.moment)) in
    let names : HasCodeNames o = (times, has-codes o.codes c.in_ok-codes.codes c.in_ok-codes.ensures.said) in
    let marker : HasMarkerToo o = (names, (c.in_ok-marker.marker, c.in_ok-marker.ensures.marker)) in
    let list : HasListToo o = (marker, has-list o.codes c.in_ok-codes.codes c.in_ok-codes.ensures.said (c.if-not-are_good_codes.ensures.0 refl)) in
    let channels : HasChannelsToo o = (list, (c.in_ok-channels.channels, c.in_ok-channels.ensures.said)) in
    let systems : HasSystemsToo o = (channels, (c.in_ok-systems.systems, c.in_ok-systems.ensures.said)) in
    exit-by (IsFirstAutoCause o) NearOfAuto c.in_err-reference.field-0.0 c.from_residual-in_err-reference.result
    c.in_err-reference.ensures.cause.0 c.from_residual-in_err-reference.ensures.1
    (inr (systems, (c.in_ok-near.near, c.in_ok-near.ensures.moment, c.in_err-reference.ensures.cause.1)))
