use Rattle.super_meta.proofs.GeometryLemmas.{geometry-read, geometry-spelled, one-geometry}
use Rattle.super_meta.proofs.TakenLemmas.{takes}
use Rattle.super_meta.proofs.GivenLemmas.{gives, one-table}
use Rattle.super_meta.proofs.SpelledLemmas.{image-read, image-spelled}
use Rattle.super_meta.proofs.ExtentLemmas.{sectors-once, taken-in-turn, extents-joined}
use Rattle.super_meta.proofs.HeldLemmas.{tables-flaw}
use Rattle.super_meta.proofs.laws.Goals as goal

pub returns : goal.returns
returns c = record {
  geometry_read = geometry-read;
  geometry_spelled = geometry-spelled;
  one_geometry = one-geometry;
  table_read = gives;
  table_spelled = takes;
  one_table = one-table;
  image_read = image-read;
  image_spelled = image-spelled;
  sectors_once = sectors-once;
  taken_in_turn = taken-in-turn;
  extents_joined = extents-joined;
  tables_flaw = tables-flaw;
}
