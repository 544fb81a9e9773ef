use Rattle.std.proofs.Common.{◌≡◌, ◌∙◌, ◌%◌, ℕ, Some}
use Rattle.rtk_obs.specs.Reading.{reading_of}
use Rattle.rtk_rinex.specs.declared.head_fault.HeadFault.TheVariants.{Made}
use Rattle.rtk_rinex.proofs.HeaderShownLemmas.{made_is, moment_read, good_kept}
use Rattle.rtk_rinex.proofs.header_check.read_made.Goals as goal

pub returns-in_err-moment : goal.returns-in_err-moment
returns-in_err-moment c = λ t h whole line.
    let shown : c.made_reading.result ≡ reading_of t = c.made_reading.ensures ∙ made_is c.args.text.now line.0 t h whole line.1 in
    let read : c.of_civil.result ≡ Some t = moment_read c.of_civil.result c.made_reading.result t h shown c.of_civil.ensures in
    let none = c.in_err-moment.was in
    absurd (cc)

pub returns : goal.returns
returns c = λ t h whole line.
    let shown : c.made_reading.result ≡ reading_of t = c.made_reading.ensures ∙ made_is c.args.text.now line.0 t h whole line.1 in
    let read : c.of_civil.result ≡ Some t = moment_read c.of_civil.result c.made_reading.result t h shown c.of_civil.ensures in
    let some = c.in_ok-moment.was in
    let same : c.in_ok-moment.moment ≡ t = cc in
    c.ok.ensures.value ∙ good_kept (λ (m : ℕ). m % 1000 ≡ 0) (λ fault. fault ≡ Made) c.new.result c.in_ok-moment.moment t same whole c.new.ensures.moment c.new.ensures.fault
