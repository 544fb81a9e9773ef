use Rattle.std.proofs.Common.{◌∙◌, List, sym, ap}
use Rattle.std.specs.List.{list_any}
use Rattle.rtk_message.specs.declared.any_message.AnyMessage.TheVariants as any
use Rattle.rtk_message.specs.declared.message.Message.{Message as GpsMessage}
use Rattle.rtk_message.specs.declared.obs1004.Satellite.{Satellite}
use Rattle.rtk_obs.specs.SbasCells.{is_sbas_number}
use Rattle.rtk_convert.specs.Report.{holds_sbas}
use Rattle.rtk_convert.proofs.conversion.holds_sbas.Goals as goal

pub returns-in-Obs1004 : goal.returns-in-Obs1004
returns-in-Obs1004 c =
    c.is_any_of_sbas.ensures ∙ ap (λ (ss : List Satellite). list_any (λ s. is_sbas_number s.satellite) ss) c.as_slice.ensures.value
    ∙ ap (λ (m : GpsMessage). holds_sbas (any.Message m)) (sym c.in-Obs1004.is)
