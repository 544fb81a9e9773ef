use Rattle.std.proofs.Common.{◌≡◌, ◌++◌, [], ◌∙◌, Bool, List, length, ap, refl, ◌∷◌, arith}
use Rattle.rtk_obs.specs.declared.any_code.AnyCode.{AnyCode}
use Rattle.rtk_tracking.specs.Epochs.{newest_first}
use Rattle.rtk_quality.specs.MixedQuality.{system_text}
use Rattle.rtk_tracking.specs.SystemCodes.{codes_of_system}
use Rattle.rtk_quality.specs.SystemParts.{epochs_of_system}
use Rattle.rtk_quality.proofs.MixedTextLemmas.{no-part, some-part}
use Rattle.rtk_quality.proofs.mixed_document.put_system.Goals as goal

-- a list of no length
none-of : (cs : List AnyCode) → length cs ≡ 0 → cs ≡ []
none-of [] none = refl
none-of (c ∷ cs) none = absurd (omega arith)

pub returns-then-codes-eq0 : goal.returns-then-codes-eq0
returns-then-codes-eq0 c = λ t is text.
    let head = c.args.head.now in
    no-part head.doppler c.args.form c.args.system (codes_of_system c.args.system head.listed) c.as_slice-codes.result.now c.args.interval (newest_first (epochs_of_system c.args.system t.epochs))
    c.args.text.now.items
    (c.as_slice-codes.ensures.value ∙ c.in_ok-own.ensures.value ∙ ap (λ (cs : List AnyCode). codes_of_system c.args.system cs) c.codes.ensures.value) (none-of _ c.if-codes-eq0.true)

pub returns : goal.returns
returns c = λ t is text.
    let head = c.args.head.now in
    let es = newest_first (epochs_of_system c.args.system t.epochs) in
    let codes : List AnyCode = c.as_slice-codes.result.now in
    some-part head.doppler c.args.form c.args.system (codes_of_system c.args.system head.listed) codes c.args.interval es c.args.text.now.items c.put_counted.new.text.items
    (c.as_slice-codes.ensures.value ∙ c.in_ok-own.ensures.value ∙ ap (λ (cs : List AnyCode). codes_of_system c.args.system cs) c.codes.ensures.value) (λ none. c.if-codes-eq0.false (ap length none))
    (c.in_ok-put_counted.ensures c.args.interval es (c.in_ok-counts.ensures.counts t is text)
    ∙ ap (λ (b : Bool). c.args.text.now.items ++ system_text b c.args.form c.args.system codes c.args.interval es) c.has_doppler-has_shifts.ensures)
