use Rattle.std.proofs.Common.{rules, ◌≡◌, ℕ, suc, List, [], ◌∷◌, length, map, true, Option, None, Some, refl, sym, arith}
use Rattle.std.specs.Prelude.{◌==◌}
use Rattle.std.proofs.lemmas.Bool.{eqb-true}
use Rattle.rtk_collect.specs.declared.conflicts.AnySatelliteCode.{AnySatelliteCode}
use Rattle.rtk_convert.specs.Report.{cell_lines}
use Rattle.rtk_convert.proofs.report.message_lines.Goals as goal

-- without conflicts there are no lines of them
none-listed : {S : Type 0} (name : S → AnySatelliteCode) (link number : ℕ) (epoch : Option ℕ) (cells : List S) → true ≡ (length cells == 0) → cell_lines link number epoch (map name cells) ≡ []
none-listed name link number None cells h = refl
none-listed name link number (Some e) [] h = refl
none-listed name link number (Some e) (c ∷ cells) h = let q : suc (length cells) ≡ 0 = eqb-true (suc (length cells)) 0 (sym h) in absurd (omega arith)

pub returns-then-is_empty : goal.returns-then-is_empty
returns-then-is_empty g c = search (rules, none-listed) depth 5 fits 300
