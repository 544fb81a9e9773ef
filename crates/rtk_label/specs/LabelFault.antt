-- Why these parts make no label: the first field, in this order, that does not fit its columns.
use Rattle.rtk_rinex.specs.Columns.{IsField}
use Rattle.rtk_label.specs.Fields.{IsOffset}
use Rattle.rtk_label.specs.Labelled.{LabelView}
use Rattle.rtk_label.specs.declared.label_fault.LabelFault.{LabelFault}
use Rattle.rtk_label.specs.declared.label_fault.LabelFault.TheVariants.{RunBy, MarkerNumber, Observer, Agency, ReceiverNumber, ReceiverType, ReceiverVersion, AntennaNumber, AntennaType, DeltaHeight, DeltaEast, DeltaNorth}

-- table
-- this field fits its columns
abbrev pub FitsField : LabelView → LabelFault → Type 0
FitsField l RunBy = IsField 20 l.run_by
FitsField l MarkerNumber = IsField 20 l.marker_number
FitsField l Observer = IsField 20 l.observer
FitsField l Agency = IsField 40 l.agency
FitsField l ReceiverNumber = IsField 20 l.receiver_number
FitsField l ReceiverType = IsField 20 l.receiver_type
FitsField l ReceiverVersion = IsField 20 l.receiver_version
FitsField l AntennaNumber = IsField 20 l.antenna_number
FitsField l AntennaType = IsField 20 l.antenna_type
FitsField l DeltaHeight = IsOffset l.height
FitsField l DeltaEast = IsOffset l.east
FitsField l DeltaNorth = IsOffset l.north

-- the fields up to the agency fit, up to the receiver's version, and up to the antenna's type
abbrev pub FitsWho : LabelView → Type 0
FitsWho l = IsField 20 l.run_by × IsField 20 l.marker_number × IsField 20 l.observer × IsField 40 l.agency

abbrev pub FitsReceiver : LabelView → Type 0
FitsReceiver l = FitsWho l × IsField 20 l.receiver_number × IsField 20 l.receiver_type × IsField 20 l.receiver_version

abbrev pub FitsAntenna : LabelView → Type 0
FitsAntenna l = FitsReceiver l × IsField 20 l.antenna_number × IsField 20 l.antenna_type

-- table
-- the fields before this one fit
abbrev pub FitsBefore : LabelView → LabelFault → Type 0
FitsBefore l RunBy = Unit {0}
FitsBefore l MarkerNumber = IsField 20 l.run_by
FitsBefore l Observer = IsField 20 l.run_by × IsField 20 l.marker_number
FitsBefore l Agency = IsField 20 l.run_by × IsField 20 l.marker_number × IsField 20 l.observer
FitsBefore l ReceiverNumber = FitsWho l
FitsBefore l ReceiverType = FitsWho l × IsField 20 l.receiver_number
FitsBefore l ReceiverVersion = FitsWho l × IsField 20 l.receiver_number × IsField 20 l.receiver_type
FitsBefore l AntennaNumber = FitsReceiver l
FitsBefore l AntennaType = FitsReceiver l × IsField 20 l.antenna_number
FitsBefore l DeltaHeight = FitsAntenna l
FitsBefore l DeltaEast = FitsAntenna l × IsOffset l.height
FitsBefore l DeltaNorth = FitsAntenna l × IsOffset l.height × IsOffset l.east

-- the first field that does not fit
abbrev pub IsLabelFault : LabelView → LabelFault → Type 0
IsLabelFault l f = FitsBefore l f × ¬ (FitsField l f)
