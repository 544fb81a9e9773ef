use Rattle.std.proofs.Common.{ℕ, not, eqb, ap, ◌∙◌}
use Rattle.rtk_compare.specs.declared.difference.Class.TheVariants.{Changed}
use Rattle.rtk_compare.specs.declared.difference.What.TheVariants.{LeapSeconds}
use Rattle.rtk_compare.proofs.FindingLemmas.{told, told-at, adds-more}
use Rattle.rtk_compare.proofs.headers.compare_told.Goals as goal

pub returns : goal.returns
returns c =
    let same = ap (λ (n : ℕ). not (eqb n c.leap_seconds-2.result)) c.leap_seconds.ensures.value ∙ ap (λ (n : ℕ). not (eqb c.args.old.now.leap_seconds n)) c.leap_seconds-2.ensures.value in
    adds-more c.compare_channels.ensures (told-at Changed LeapSeconds _ c.header-place.ensures (told Changed LeapSeconds c.header-place.result same c.push_if.ensures))
