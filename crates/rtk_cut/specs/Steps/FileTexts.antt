-- The texts of a file, of GPS or of any systems, of which a part is written.
use Rattle.std.specs.Prelude.{ℕ, List, [], ◌∷◌, ◌++◌, flat_map, Option}
use Rattle.rtk_rinex.specs.Header.{HeadView, PositionView, header_text}
use Rattle.rtk_rinex.specs.MixedHead.{MixedHeadView}
use Rattle.rtk_rinex.specs.MixedHeader.{mixed_header_text}
use Rattle.rtk_rinex.specs.Record.{EpochTableView, record_text}
use Rattle.rtk_rinex.specs.MixedRecord.{mixed_record_text}
use Rattle.rtk_cut.specs.declared.part.Choice.{Choice}
use Rattle.rtk_cut.specs.Cut.{kept_after, first_of_part}

-- the header with a first time, the file's own first time, and the record of an epoch
pub record FileTexts : Type 0 where
  pub header : ℕ → List ℕ
  pub first : ℕ
  pub record_of : EpochTableView → List ℕ

-- those of a file of GPS
abbrev pub gps_texts : HeadView → PositionView → ℕ → FileTexts
gps_texts head site first = record { header = header_text head site; first = first; record_of = record_text }

-- those of a file of any systems
abbrev pub mixed_texts : MixedHeadView → PositionView → ℕ → FileTexts
mixed_texts head site first = record { header = mixed_header_text head site; first = first; record_of = mixed_record_text head.doppler }

-- the text of the file with these epochs of it
abbrev pub text_with : Option ℕ → FileTexts → List EpochTableView → List ℕ
text_with from f es = f.header (first_of_part from f.first es) ++ flat_map f.record_of es

-- the text of the chosen part of a file of these epochs
abbrev pub part_text : Choice → FileTexts → List EpochTableView → List ℕ
part_text choice f epochs = text_with choice.from f (kept_after choice [] epochs)

-- the next of these epochs was read, and the others are left
abbrev pub IsNextIn : (List EpochTableView → Type 0) → (EpochTableView → Type 0) → List EpochTableView → Type 0
IsNextIn Left IsOf [] = ⊥
IsNextIn Left IsOf (e ∷ epochs) = IsOf e × Left epochs
