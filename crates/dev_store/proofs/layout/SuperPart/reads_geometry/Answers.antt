use Rattle.std.proofs.Common.{◌≡◌, ◌+◌, ◌≤◌, ◌∙◌, sym, ap, arith, subst, length}
use Rattle.dev_disk.specs.Files.{IsRead}
use Rattle.dev_disk.specs.Disks.{open_bytes}
use Rattle.dev_store.proofs.PlaceLemmas.{block-inside, geometry-read, range-inside}
use Rattle.dev_store.specs.SuperBounds.{geometry_place}
use Rattle.dev_store.proofs.layout.SuperPart.reads_geometry.Goals as goal

pub overflow_add-at : goal.overflow_add-at
overflow_add-at g c =
    let b = block-inside c.args.self.now c.args.second c.requires.bounded in omega (arith, b, c.geometry_place.ensures, c.requires.end)

pub returns-clause-holds : goal.returns-clause-holds
returns-clause-holds g c =
    let o = open_bytes (g.K.Disk.told c.args.disk.now) in
    geometry-read c.args.self.now o c.args.at c.args.second c.read_at.new.buf c.holds_geometry.result c.requires.bounded c.read_at.auto.buf
    (subst (λ p. IsRead o (c.args.at + p) c.read_at.new.buf) c.geometry_place.ensures c.in-Ok.ensures.read) c.holds_geometry.ensures
