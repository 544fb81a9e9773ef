use Rattle.std.proofs.Common.{◌+◌, ◌*◌, ◌≤◌, ℕ, length, length-append, ap, refl, arith}
use Rattle.std.proofs.lemmas.List.{length-replicate}
use Rattle.std.proofs.Math.Nat.{mul-le-mul}
use Rattle.rtk_rinex.proofs.RecordLinesLemmas.{blanks-after, blank-longer, longer-than}
use Rattle.rtk_rinex.proofs.record_lines.RecordLines.make_room_for.Goals as goal

pub invariant_of-self : goal.invariant_of-self
invariant_of-self c =
    let i = c.self.invariant.0 in
    let text = c.self.inside.text.items in
    let more = c.lengthen.new.text.items in
    let after = blanks-after text more _ c.in_ok-lengthen.ensures.ok in
    let longer = longer-than text more after in
    let room : c.args.rows * (4 + 48 * c.args.codes) ≤ 32 * 772 = mul-le-mul {m₁ = 4 + 48 * c.args.codes} {m₂ = 772} c.requires.few.0 (omega arith) in (
      record {
        few = i.few;
        within = omega (arith, i.within);
        from = i.from;
        place = i.place;
        short = i.short;
        none = i.none;
        some = i.some;
        blank = blank-longer text more c.self.inside.end i.blank i.within after;
        begun = i.begun;
        fits = λ l. omega (arith, i.fits l);
        bound = i.bound;
        most = omega (arith, room, i.most, ap length c.in_ok-lengthen.ensures.ok, length-append {A = ℕ}, length-replicate {A = ℕ});
      },
      refl,
    )
