use Rattle.rtk_message.proofs.FieldLemmas.{took_both}
use Rattle.rtk_message.proofs.msm.Msm.read_cells_as.Goals as goal

pub returns-clause-fields : goal.returns-clause-fields
returns-clause-fields c =
    (took_both c.read_column.ensures.fields (took_both c.read_column-2.ensures.fields (took_both c.read_column-3.ensures.fields
    (took_both c.read_column-4.ensures.fields (took_both c.read_column-5.ensures.fields c.read_column-6.ensures.fields)))))
