-- The image of an empty super, with two groups of three partitions (liblp, super_empty.img).
use Rattle.std.specs.Prelude.{ℕ, List, [], ◌∷◌, ◌++◌, codes}
use Rattle.fb_frame.specs.Bytes.{zeros}
use Rattle.super_meta.specs.declared.geometry.Geometry.{Geometry}
use Rattle.super_meta.specs.declared.table.Partition.{Partition}
use Rattle.super_meta.specs.declared.table.Group.{Group}
use Rattle.super_meta.specs.Contents.{Content}
use Rattle.super_meta.specs.GeometryText.{geometry_bytes}
use Rattle.super_meta.specs.TableBytes.{table_bytes}

abbrev pub sample_geometry : Geometry
sample_geometry = record { max_size = 65536; slots = 2; block_size = 4096 }

-- a partition without extents, of the group at a place of the list
abbrev pub partition : List ℕ → ℕ → Partition
partition name group = record { name = name; attributes = 1; first = 0; count = 0; group = group }

abbrev pub group : List ℕ → ℕ → Group
group name limit = record { name = name; limit = limit }

abbrev pub sample_table : Content
sample_table = record {
  minor = 0;
  flags = 0;
  partitions =
      partition (codes "system_a") 1
      ∷ partition (codes "vendor_a") 1
      ∷ partition (codes "product_a") 1
      ∷ partition (codes "system_b") 2
      ∷ partition (codes "vendor_b") 2
      ∷ partition (codes "product_b") 2
      ∷ [];
  extents = [];
  groups =
      group (codes "default") 0
      ∷ group (codes "main_a") 50331648
      ∷ group (codes "main_b") 50331648
      ∷ [];
  device = record {
    first_sector = 640;
    alignment = 65536;
    offset = 0;
    size = 67108864;
    name = codes "super";
  };
}

-- a block with the geometry, and the table
abbrev pub super_image : List ℕ
super_image = (geometry_bytes sample_geometry ++ zeros 4044) ++ table_bytes sample_table
