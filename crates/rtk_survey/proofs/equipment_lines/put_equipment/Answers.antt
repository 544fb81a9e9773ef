use Rattle.std.proofs.Common.{◌≡◌, ◌++◌, List, [], ◌∷◌, length, get_or, refl, sym, ap, ◌∙◌, ℕ, arith}
use Rattle.std.proofs.lemmas.List.{append-nil}
use Rattle.rtk_survey.specs.EquipmentHistory.{no_equipment}
use Rattle.rtk_survey.specs.declared.equipment.Equipment.{Equipment}
use Rattle.rtk_survey.specs.EquipmentText.{text_lines, setup_lines, antenna_lines, receiver_lines, equipment_lines}
use Rattle.rtk_survey.proofs.equipment_lines.put_equipment.Goals as goal

-- nothing was told
no-lines : (station : List Equipment) → length station ≡ 0 → equipment_lines (get_or station 0 no_equipment) ≡ []
unfolding text_lines setup_lines antenna_lines receiver_lines
no-lines [] none = refl
no-lines (e ∷ es) none = absurd (omega (arith, none))

pub returns-then-station-eq0 : goal.returns-then-station-eq0
returns-then-station-eq0 c =
    sym (append-nil c.args.lines.now.items) ∙ ap (λ (t : List ℕ). c.args.lines.now.items ++ t) (sym (no-lines c.args.station.now (omega (arith, c.if-station-eq0.true))))
