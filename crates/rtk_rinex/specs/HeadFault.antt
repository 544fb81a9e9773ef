-- Why these parts make no head: the first cause that holds.
use Rattle.std.specs.Prelude.{◌≢◌, ◌%◌}
use Rattle.rtk_rinex.specs.Header.{HeadView, IsMarker, IsCodeList}
use Rattle.rtk_rinex.specs.declared.head_fault.HeadFault.{HeadFault}
use Rattle.rtk_rinex.specs.declared.head_fault.HeadFault.TheVariants.{Marker, Codes, Made}

-- formula
-- a bad marker; or else bad codes; or else a moment that is no whole second
abbrev pub IsHeadFault : HeadView → HeadFault → Type 0
IsHeadFault h Marker = ¬ (IsMarker h.marker)
IsHeadFault h Codes = IsMarker h.marker × ¬ (IsCodeList h.listed)
IsHeadFault h Made = IsMarker h.marker × IsCodeList h.listed × (h.made % 1000 ≢ 0)
