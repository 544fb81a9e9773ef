-- The file of the arrivals that are kept, and the part of it that is written so far. Lists of
-- arrivals are newest first.
use Rattle.std.specs.Prelude.{ℕ, pos, List, Option, Some}
use Rattle.rtk_message.specs.declared.arp1005.Arp1005.{Arp1005 as Message1005}
use Rattle.rtk_message.specs.declared.any_message.AnyMessage.{AnyMessage as Message}
use Rattle.rtk_message.specs.declared.any_message.AnyMessage.TheVariants as any
use Rattle.rtk_message.specs.declared.message.Message.TheVariants.{Arp1005, Arp1006}
use Rattle.rtk_collect.specs.Arrival.{Arrival}
use Rattle.rtk_collect.specs.Accepted.{station, kept, closed}
use Rattle.rtk_collect.specs.Signals.{signals}
use Rattle.rtk_rinex.specs.Header.{PositionView}
use Rattle.rtk_setup.specs.Setup.{SetupView, cells_by}
use Rattle.rtk_convert.specs.File.{file_of}
use Rattle.rtk_convert.specs.FilePrefix.{so_far}

-- the position if no station message came: zeros
abbrev pub no_site : PositionView
no_site = record { x = pos 0; y = pos 0; z = pos 0; height = 0 }

-- an antenna reference point (RTCM 10403.3, DF025 to DF027) with this height
abbrev pub site_of : Message1005 → ℕ → PositionView
site_of arp height = record { x = arp.x; y = arp.y; z = arp.z; height = height }

-- the position of a 1005, with no height
abbrev pub site_of_1005 : Option Message → PositionView
site_of_1005 (Some (any.Message (Arp1005 m))) = site_of m 0
site_of_1005 _ = no_site

-- the position and height (DF028) of the 1006, else the position of the 1005, else zeros (this
-- project's rule)
abbrev pub site_of_stations : Option Message → Option Message → PositionView
site_of_stations arp1005 (Some (any.Message (Arp1006 m))) = site_of m.arp m.height
site_of_stations arp1005 _ = site_of_1005 arp1005

-- the position by the station messages that are kept
abbrev pub site_of_kept : ℕ → List Arrival → PositionView
site_of_kept n arrivals = site_of_stations (station n 1005 arrivals) (station n 1006 arrivals)

-- the file of what is kept of these arrivals
abbrev pub kept_file : SetupView → List Arrival → List ℕ
kept_file s arrivals = file_of s (site_of_kept s.window arrivals) (kept signals (cells_by s) s.window arrivals)

-- formula
-- the part of it that is written once these arrivals have come: nothing until a closed epoch has a
-- record; then the header and the records of the closed epochs
abbrev pub file_so_far : SetupView → List Arrival → List ℕ
file_so_far s arrivals = so_far s (site_of_kept s.window arrivals) (kept signals (cells_by s) s.window arrivals) (closed signals (cells_by s) s.window arrivals)
