use Rattle.rtk_message.specs.declared.system.System.TheVariants.{Gps, Glonass, Galileo, Beidou, Qzss, Sbas, Navic}
use Rattle.rtk_rinex.proofs.mixed_form.RecordForm.width.Goals as goal

pub returns-in-Gps-clause-few : goal.returns-in-Gps-clause-few
returns-in-Gps-clause-few c = c.self.invariant Gps

pub returns-in-Glonass-clause-few : goal.returns-in-Glonass-clause-few
returns-in-Glonass-clause-few c = c.self.invariant Glonass

pub returns-in-Galileo-clause-few : goal.returns-in-Galileo-clause-few
returns-in-Galileo-clause-few c = c.self.invariant Galileo

pub returns-in-Beidou-clause-few : goal.returns-in-Beidou-clause-few
returns-in-Beidou-clause-few c = c.self.invariant Beidou

pub returns-in-Qzss-clause-few : goal.returns-in-Qzss-clause-few
returns-in-Qzss-clause-few c = c.self.invariant Qzss

pub returns-in-Sbas-clause-few : goal.returns-in-Sbas-clause-few
returns-in-Sbas-clause-few c = c.self.invariant Sbas

pub returns-in-Navic-clause-few : goal.returns-in-Navic-clause-few
returns-in-Navic-clause-few c = c.self.invariant Navic
