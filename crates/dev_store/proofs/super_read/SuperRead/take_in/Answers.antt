use Rattle.std.proofs.Common.{◌∙◌, ap, length}
use Rattle.super_meta.specs.Contents.{content}
use Rattle.dev_store.proofs.CallUnits.{map-many}
use Rattle.dev_store.proofs.super_read.SuperRead.take_in.Goals as goal

pub build_next-requires-clause-many : goal.build_next-requires-clause-many
build_next-requires-clause-many c =
    let w = c.args.self.now in
    ap length c.deref-2.ensures.value ∙ map-many c.args.s.now (content w.table) w.owners w.parts.items c.requires.mapped
