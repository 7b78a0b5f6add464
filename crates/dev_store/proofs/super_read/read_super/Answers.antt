use Rattle.dev_disk.specs.Disks.{open_bytes}
use Rattle.dev_disk.proofs.TwinLemmas.{same-bytes, FilesKept-then}
use Rattle.dev_store.proofs.UnitLemmas.{bounded}
use Rattle.dev_store.proofs.SuperReadLemmas.{bad-geometry, bad-table, only-units, bad-units-told, read-told}
use Rattle.dev_store.proofs.super_read.read_super.Goals as goal

pub find_geometry-requires-clause-bounded : goal.find_geometry-requires-clause-bounded
find_geometry-requires-clause-bounded g c = bounded c.args.s.now c.requires.laid

pub find_table-requires-clause-bounded : goal.find_table-requires-clause-bounded
find_table-requires-clause-bounded g c = bounded c.args.s.now c.requires.laid

pub take_table-requires-clause-bounded : goal.take_table-requires-clause-bounded
take_table-requires-clause-bounded g c = bounded c.args.s.now c.requires.laid

pub returns-in_default-clause-bad : goal.returns-in_default-clause-bad
returns-in_default-clause-bad g c = λ bad e.
    bad-geometry c.args.parts.now c.args.s.now (open_bytes (g.K.Disk.told c.args.disk.now)) c.args.at c.in-Ok.geometry bad (cc) c.in_default.is c.in-Ok.ensures.found

pub returns-in_default-found-clause-bad : goal.returns-in_default-found-clause-bad
returns-in_default-found-clause-bad g c = λ bad e.
    let a = g.K.Disk.told c.args.disk.now in
    let b = g.K.Disk.told c.find_geometry.new.disk in
    bad-table c.args.parts.now c.args.s.now (open_bytes a) (open_bytes b) c.args.at c.in-Ok.geometry c.in-Some.second c.in-Ok-find_table.found bad (cc) c.in-Some.is c.in_default-found.is
    (same-bytes a b c.find_geometry.ensures.kept) c.in-Ok.ensures.found c.in-Ok-find_table.ensures.table

pub returns-clause-read : goal.returns-clause-read
returns-clause-read g c =
    let a = g.K.Disk.told c.args.disk.now in
    let b = g.K.Disk.told c.find_geometry.new.disk in
    read-told c.args.s.now (open_bytes a) (open_bytes b) c.args.at c.in-Ok.geometry c.in-Some.second c.in-Ok-find_table.found c.in-Some-found.found c.take_table.result c.in-Some.is c.in-Some-found.is
    (same-bytes a b c.find_geometry.ensures.kept) c.take_table.ensures.table c.take_table.ensures.backup c.take_table.ensures.second c.in-Ok.ensures.found c.in-Ok-find_table.ensures.table

pub returns-clause-bad : goal.returns-clause-bad
returns-clause-bad g c = λ bad e.
    let a = g.K.Disk.told c.args.disk.now in
    let b = g.K.Disk.told c.find_geometry.new.disk in
    bad-units-told c.args.parts.now c.args.s.now (open_bytes a) (open_bytes b) c.args.at c.in-Ok.geometry c.in-Some.second c.in-Ok-find_table.found c.in-Some-found.found bad
    (only-units _ c.take_table.result bad c.take_table.ensures.only c.take_table.ensures.bad e) c.in-Some.is c.in-Some-found.is
    (same-bytes a b c.find_geometry.ensures.kept) c.in-Ok.ensures.found c.in-Ok-find_table.ensures.table

pub returns-clause-kept : goal.returns-clause-kept
returns-clause-kept g c =
    FilesKept-then (g.K.Disk.told c.args.disk.now) (g.K.Disk.told c.find_geometry.new.disk) (g.K.Disk.told c.find_table.new.disk) c.find_geometry.ensures.kept c.find_table.ensures.kept
