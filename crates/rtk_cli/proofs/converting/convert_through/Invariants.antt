use Rattle.rtk_cli.specs.Steps.Links.{bytes_had, bytes_held}
use Rattle.rtk_cli.proofs.converting.convert_through.Given as goal

abbrev pub ghosts-convert_by : goal.ghosts-convert_by
ghosts-convert_by g a = record {
  had = bytes_had g.R.Read.remaining a.readers.items;
  held = bytes_held (g.O.Write.contents a.out) (g.L.Write.contents a.report);
}
