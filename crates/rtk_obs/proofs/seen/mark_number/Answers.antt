use Rattle.rtk_obs.proofs.SeenLemmas.{seen-new, seen-again}
use Rattle.rtk_obs.proofs.seen.mark_number.Goals as goal

pub returns-then-seen-place-clause-seen : goal.returns-then-seen-place-clause-seen
returns-then-seen-place-clause-seen c = λ before h. seen-again c.args.seen.now before c.args.number (rw (← c.from-place.ensures) c.if-seen-place.true) h

pub returns-clause-seen : goal.returns-clause-seen
returns-clause-seen c = λ before h. rw c.from-place.ensures (seen-new c.args.seen.now before c.args.number c.requires.places c.requires.number h)
