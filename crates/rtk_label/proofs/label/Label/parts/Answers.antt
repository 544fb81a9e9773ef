use Rattle.std.proofs.Common.{refl}
use Rattle.rtk_label.proofs.label.Label.parts.Goals as goal

pub returns-clause-value : goal.returns-clause-value
returns-clause-value c =
    rw (
      ← c.self.view_is,
      c.as_slice.ensures.value,
      c.as_slice-2.ensures.value,
      c.as_slice-3.ensures.value,
      c.as_slice-4.ensures.value,
      c.as_slice-5.ensures.value,
      c.as_slice-6.ensures.value,
      c.as_slice-7.ensures.value,
      c.as_slice-8.ensures.value,
      c.as_slice-9.ensures.value,
      c.as_slice-10.ensures.value,
      c.as_slice-11.ensures.value,
      c.as_slice-12.ensures.value,
    ) refl

pub returns-clause-good : goal.returns-clause-good
returns-clause-good c = rw (← c.self.view_is) c.self.invariant
