-- The fault lines of words that clap takes: what follows the name of the program and a colon.
use Rattle.std.specs.Prelude.{◌≡◌, ℕ, List, codes, Option, None, Some}
use Rattle.std.specs.Option.{option_map}
use Rattle.rtk_label.specs.declared.label_fault.LabelFault.TheVariants.{RunBy, MarkerNumber, Observer, Agency, ReceiverNumber, ReceiverType, ReceiverVersion, AntennaNumber, AntennaType, DeltaHeight, DeltaEast, DeltaNorth}
use Rattle.rtk_cli.specs.declared.words.BadWords.{BadWords}
use Rattle.rtk_cli.specs.declared.words.BadWords.TheVariants.{Near, NearOfAuto, Made, MadeOfAuto, Codes, CodeOfSystem, CodeOfGps, Marker, Channels, NoChannels, NoGlonass, NoRates, Links, Systems, Satellites, From, Until, Field, Files}
use Rattle.rtk_cli.specs.declared.words.WordsFault.{WordsFault}
use Rattle.rtk_cli.specs.declared.words.WordsFault.TheVariants.{Bad, OutOfMemory}
use Rattle.rtk_cli.specs.CodeLines.{codes_line, short_code_line}
use Rattle.rtk_cli.specs.RatesLine.{rates_line}

-- table
-- the fault line of a cause (this project's rule)
abbrev pub fault_line : BadWords → List ℕ
fault_line Near = codes "bad --near"
fault_line NearOfAuto = codes "bad --near"
fault_line Made = codes "bad --made"
fault_line MadeOfAuto = codes "bad --made"
fault_line Codes = codes "bad --codes"
fault_line (CodeOfSystem s) = codes "bad --codes"
fault_line (CodeOfGps c) = codes "bad --codes"
fault_line Marker = codes "bad --marker"
fault_line Channels = codes "bad --channels"
fault_line NoChannels = codes "R codes need --channels"
fault_line NoGlonass = codes "--with-1012 needs R codes"
fault_line (NoRates s) = rates_line s
fault_line Links = codes "bad links"
fault_line Systems = codes "bad --systems"
fault_line Satellites = codes "bad --satellites"
fault_line From = codes "bad --from"
fault_line Until = codes "bad --until"
fault_line (Field RunBy) = codes "bad --run-by"
fault_line (Field MarkerNumber) = codes "bad --marker-number"
fault_line (Field Observer) = codes "bad --observer"
fault_line (Field Agency) = codes "bad --agency"
fault_line (Field ReceiverNumber) = codes "bad --receiver-number"
fault_line (Field ReceiverType) = codes "bad --receiver-type"
fault_line (Field ReceiverVersion) = codes "bad --receiver-version"
fault_line (Field AntennaNumber) = codes "bad --antenna-number"
fault_line (Field AntennaType) = codes "bad --antenna-type"
fault_line (Field DeltaHeight) = codes "bad --delta-height"
fault_line (Field DeltaEast) = codes "bad --delta-east"
fault_line (Field DeltaNorth) = codes "bad --delta-north"
fault_line Files = codes "bad files"

-- table
-- the line that follows the fault line of a cause, if one does (this project's rule)
abbrev pub second_line : BadWords → Option (List ℕ)
second_line NearOfAuto = Some (codes " --near takes YYYY-MM-DDTHH:MM:SS (GPS), from 1980-01-13T00:00:00 to 2099-12-31T23:59:59")
second_line MadeOfAuto = Some (codes " --made takes YYYY-MM-DDTHH:MM:SS (UTC), from 1980-01-06T00:00:00 to 2100-12-31T23:59:59")
second_line (CodeOfSystem s) = Some (codes_line s)
second_line (CodeOfGps c) = Some (short_code_line c)
second_line _ = None

-- the words are refused by the lines of this cause
abbrev pub TellsCause : BadWords → WordsFault → Type 0
TellsCause cause (Bad line more) = (line.now ≡ fault_line cause) × (option_map (λ text. text.now) more ≡ second_line cause)
TellsCause cause _ = ⊥

-- the words are refused by the lines of a cause that there is
abbrev pub HasCause : (BadWords → Type 0) → WordsFault → Type 0
HasCause IsCause fault = (cause : BadWords) × IsCause cause × TellsCause cause fault

-- the same, or memory was refused
abbrev pub IsRefusal : (BadWords → Type 0) → WordsFault → Type 0
IsRefusal IsCause OutOfMemory = Unit {0}
IsRefusal IsCause fault = HasCause IsCause fault
