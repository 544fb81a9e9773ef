use Rattle.std.proofs.Common.{◌≡◌, arith, ◌∙◌, ap}
use Rattle.rtk_obs.specs.Reading.{reading_of}
use Rattle.rtk_obs.proofs.PublicLaws.{reading-reads, reading_is, one_moment}
use Rattle.rtk_rinex.specs.Steps.Digits.{digits_from}
use Rattle.rtk_rinex.proofs.EpochLemmas.{epoch-shows}
use Rattle.rtk_rinex.proofs.epoch_line_check.stamp_in.Goals as goal
use Rattle.rtk_rinex.proofs.epoch_line_check.stamp_in.Goals.{then-count-eq0-via-then-count-eq0, then-count-eq0-via-else-count-eq0+then-count-most}

pub returns-then-seconds-ge600000000 : goal.returns-then-seconds-ge600000000
returns-then-seconds-ge600000000 c = λ t n h k e.
    let s = epoch-shows c.args.columns.now t n h (omega (arith, k, c.requires.most)) e in omega (arith, s.seconds, c.number_of_digits-seconds.ensures.value)

pub returns-in_err-time : goal.returns-in_err-time
returns-in_err-time c = rw c.from_residual.ensures (λ t n h k e.
    let s = epoch-shows c.args.columns.now t n h (omega (arith, k, c.requires.most)) e in
    let shown : c.reading_in-reading.result ≡ reading_of t = c.reading_in-reading.ensures ∙ s.reading in
    c.in_err-time.ensures t h (rw shown (reading-reads t h)))

pub returns-then-count-eq0 : goal.returns-then-count-eq0
returns-then-count-eq0 c = λ t n h k e.
    let s = epoch-shows c.args.columns.now t n h (omega (arith, k, c.requires.most)) e in
    let same : c.number_of_digits-count.result ≡ n = c.number_of_digits-count.ensures.value ∙ ap (digits_from 0) c.split_at.ensures.back ∙ s.count in
    elim c.then-count-eq0.branch [
      | then-count-eq0-via-then-count-eq0 w ↦ omega arith
      | then-count-eq0-via-else-count-eq0+then-count-most w ↦ omega arith
    ]

pub returns : goal.returns
returns c = (
  omega arith,
  (omega arith, omega arith),
  reading_is c.in_ok-time.time c.reading_in-reading.result c.in_ok-time.ensures,
  λ t n h k e.
      let s = epoch-shows c.args.columns.now t n h (omega (arith, k, c.requires.most)) e in
      let count : c.number_of_digits-count.result ≡ n = c.number_of_digits-count.ensures.value ∙ ap (digits_from 0) c.split_at.ensures.back ∙ s.count in
      let shown : c.reading_in-reading.result ≡ reading_of t = c.reading_in-reading.ensures ∙ s.reading in
      (one_moment c.in_ok-time.time t (reading_of t) (rw shown at c.in_ok-time.ensures) (reading-reads t h), count),
)
