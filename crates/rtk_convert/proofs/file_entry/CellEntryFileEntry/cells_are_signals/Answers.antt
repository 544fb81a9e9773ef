use Rattle.rtk_collect.proofs.PublicLaws.{gps-keeps-its-order}
use Rattle.rtk_convert.proofs.GpsOfferLemmas.{left-too, rise-same}
use Rattle.rtk_convert.proofs.file_entry.CellEntryFileEntry.cells_are_signals.Goals as goal

pub returns-clause-rise : goal.returns-clause-rise
returns-clause-rise c = λ cells h. rise-same gps-keeps-its-order cells h

pub returns-clause-left : goal.returns-clause-left
returns-clause-left c = λ known cells more h. left-too known cells more h
