-- A file with some of its systems alone: the others are left out. All of it is this project's rule.
use Rattle.std.specs.Prelude.{Bool, not, ◌&&◌, ◌==◌, List, map, Option, None, Some, if◌then◌else◌}
use Rattle.std.specs.List.{filter, list_any}
use Rattle.rtk_message.specs.declared.system.System.{System}
use Rattle.rtk_message.specs.declared.system.System.TheVariants.{Gps, Glonass, Galileo, Beidou, Qzss, Sbas, Navic}
use Rattle.rtk_obs.specs.declared.any_code.AnyCode.{AnyCode}
use Rattle.rtk_obs.specs.AnyCode.{system_of}
use Rattle.rtk_obs.specs.SatelliteIndex.{system_at, letter_of}
use Rattle.rtk_rinex.specs.declared.epoch_table.SatelliteRow.{SatelliteRow}
use Rattle.rtk_rinex.specs.MixedHead.{GlonassView, MixedHeadView, letter}
use Rattle.rtk_rinex.specs.MixedTable.{MixedTable}
use Rattle.rtk_rinex.specs.SystemFlags.{flag_of}
use Rattle.rtk_rinex.specs.Record.{EpochTableView}
use Rattle.rtk_rinex.specs.declared.system_flags.SystemFlags.{SystemFlags}
use Rattle.rtk_cut.specs.Cut.{first_of_part}

-- ---- the header

-- the codes of these systems, in their order
abbrev pub kept_codes : SystemFlags → List AnyCode → List AnyCode
kept_codes ks listed = filter (λ c. flag_of ks (system_of c)) listed

-- what the file tells of GLONASS, if GLONASS is among these systems
abbrev pub kept_glonass : SystemFlags → Option GlonassView → Option GlonassView
kept_glonass ks g = if ks.glonass then g else None

-- a head with the codes of these systems alone
abbrev pub kept_head : SystemFlags → MixedHeadView → MixedHeadView
kept_head ks h = record { marker = h.marker; listed = kept_codes ks h.listed; glonass = kept_glonass ks h.glonass; made = h.made; doppler = h.doppler }

-- ---- the records

-- a satellite is of one of these systems
abbrev pub keeps_row : SystemFlags → SatelliteRow → Bool
keeps_row ks r = flag_of ks (system_at r.satellite)

-- an epoch with the satellites of these systems alone
abbrev pub kept_epoch : SystemFlags → EpochTableView → EpochTableView
kept_epoch ks e = record { time = e.time; rows = filter (λ r. keeps_row ks r) e.rows }

-- an epoch has such a satellite
abbrev pub keeps_some : SystemFlags → EpochTableView → Bool
keeps_some ks e = list_any (λ r. keeps_row ks r) e.rows

-- the epochs that have such a satellite, with these alone
abbrev pub kept_epochs : SystemFlags → List EpochTableView → List EpochTableView
kept_epochs ks es = map (λ e. kept_epoch ks e) (filter (λ e. keeps_some ks e) es)

-- ---- the file

-- formula
-- the file with these systems alone; a record without a satellite of these is left out
abbrev pub kept_table : SystemFlags → MixedTable → MixedTable
kept_table ks t =
    record {
      head = kept_head ks t.head;
      site = t.site;
      first = first_of_part None t.first (kept_epochs ks t.epochs);
      epochs = kept_epochs ks t.epochs;
    }

-- ---- systems that a file does not have

-- some of these codes is of a system
abbrev pub has_code_of : List AnyCode → System → Bool
has_code_of listed system = list_any (λ c. letter c == letter_of system) listed

-- a system is among these, and no listed code is of it
abbrev pub is_absent : SystemFlags → List AnyCode → System → Bool
is_absent ks listed system = flag_of ks system && not (has_code_of listed system)

-- formula
-- the first such system, in the order G R E C J S I
abbrev pub first_absent : SystemFlags → List AnyCode → Option System
first_absent ks listed =
    if is_absent ks listed Gps then Some Gps else if is_absent ks listed Glonass then Some Glonass else
    if is_absent ks listed Galileo then Some Galileo else if is_absent ks listed Beidou then Some Beidou else
    if is_absent ks listed Qzss then Some Qzss else if is_absent ks listed Sbas then Some Sbas else
    if is_absent ks listed Navic then Some Navic else None
