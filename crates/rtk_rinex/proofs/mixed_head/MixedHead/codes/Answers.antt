use Rattle.rtk_rinex.proofs.mixed_head.MixedHead.codes.Goals as goal

pub returns-clause-good : goal.returns-clause-good
returns-clause-good c = rw c.as_slice.ensures.value c.self.invariant.listed
