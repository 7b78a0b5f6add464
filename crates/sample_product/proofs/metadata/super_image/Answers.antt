use Rattle.std.proofs.Common.{IsTrue, refl, subst, sym}
use Rattle.super_meta.specs.Contents.{is_sound, are_named_apart, are_indexed, are_laid, are_known}
use Rattle.sample_product.specs.Metadata.{sample_table}
use Rattle.sample_product.proofs.metadata.super_image.Goals as goal

sound : IsTrue (is_sound sample_table)
unfolding are_named_apart are_indexed are_laid are_known
sound = refl

pub write_table-requires : goal.write_table-requires
write_table-requires c = record { sound = subst (λ t. IsTrue (is_sound t)) (sym c.in_ok-table.ensures) sound }
