use Rattle.std.proofs.Common.{◌≡◌, ◌+◌, ◌-◌, ◌∙◌, not, sym, ap, subst, arith}
use Rattle.fb_frame.specs.Told.{Both}
use Rattle.dev_disk.specs.Files.{DifferWithin}
use Rattle.dev_disk.specs.Disks.{open_bytes}
use Rattle.dev_disk.proofs.TwinLemmas.{same-bytes, OpenKept-files, OpenKept-then, Rose-behind}
use Rattle.super_meta.specs.Contents.{content}
use Rattle.dev_store.specs.LayoutLines.{first_unit}
use Rattle.dev_store.specs.SuperRepairs.{IsSuperMended, IsSuperLeft}
use Rattle.dev_store.proofs.UnitLemmas.{bounded}
use Rattle.dev_store.proofs.SuperRepairLemmas.{both-to, both-map, both-then, both-start, both-start-then, if-after, inside-open, read-block, geometry-left, table-left, block-within, all-within, super-mended, mended-left}
use Rattle.dev_store.proofs.super_repair.repair_super.Goals as goal

pub mend_geometry-requires-clause-bounded : goal.mend_geometry-requires-clause-bounded
mend_geometry-requires-clause-bounded g c = bounded c.args.s.now c.requires.laid

pub mend_tables-requires-clause-bounded : goal.mend_tables-requires-clause-bounded
mend_tables-requires-clause-bounded g c = bounded c.args.s.now c.requires.laid

pub mend_tables-requires-clause-inside : goal.mend_tables-requires-clause-inside
mend_tables-requires-clause-inside g c =
    inside-open (g.K.Disk.told c.args.disk.now) (g.K.Disk.told c.mend_geometry.new.disk) c.args.at c.args.s.now.size c.mend_geometry.ensures.kept c.requires.inside

pub mend_tables-requires-clause-read : goal.mend_tables-requires-clause-read
mend_tables-requires-clause-read g c =
    let r = c.args.read.now in
    let s = c.args.s.now in
    if-after (open_bytes (g.K.Disk.told c.args.disk.now)) (open_bytes (g.K.Disk.told c.mend_geometry.new.disk)) c.requires.read c.mend_geometry.ensures.within
    (λ x y read d. read-block s c.args.at (not r.second) r.backup (content r.table) x y (bounded s c.requires.laid) d read.table)

pub returns-in_default-clause-left : goal.returns-in_default-clause-left
returns-in_default-clause-left g c = λ honest.
    let s = c.args.s.now in
    both-start (open_bytes (g.K.Disk.told c.args.disk.now)) (open_bytes (g.K.Disk.told c.mend_geometry.new.disk)) c.requires.read c.mend_geometry.ensures.within
    (λ x y read d. geometry-left s c.args.at c.args.read.now x y (bounded s c.requires.laid) read d)

pub returns-in_default-clause-within : goal.returns-in_default-clause-within
returns-in_default-clause-within g c =
    let s = c.args.s.now in
    both-map (open_bytes (g.K.Disk.told c.args.disk.now)) (open_bytes (g.K.Disk.told c.mend_geometry.new.disk)) c.mend_geometry.ensures.within
    (λ x y d. block-within s c.args.at (not c.args.read.now.second) x y (bounded s c.requires.laid) d)

pub returns-in_default-mend_tables-clause-left : goal.returns-in_default-mend_tables-clause-left
returns-in_default-mend_tables-clause-left g c = λ honest.
    let s = c.args.s.now in
    let a = g.K.Disk.told c.args.disk.now in
    let b = g.K.Disk.told c.mend_geometry.new.disk in
    let d = g.K.Disk.told c.mend_tables.new.disk in
    both-start-then (open_bytes a) (open_bytes b) (open_bytes d) c.requires.read c.in-Ok.ensures.mended c.in_default-mend_tables.ensures.left
    (λ x y z read m t. table-left d.torn s c.args.at c.args.read.now x y z (bounded s c.requires.laid) honest read m t)

pub returns-in_default-mend_tables-clause-within : goal.returns-in_default-mend_tables-clause-within
returns-in_default-mend_tables-clause-within g c =
    let s = c.args.s.now in
    let a = g.K.Disk.told c.args.disk.now in
    let b = g.K.Disk.told c.mend_geometry.new.disk in
    let d = g.K.Disk.told c.mend_tables.new.disk in
    both-then (open_bytes a) (open_bytes b) (open_bytes d) c.mend_geometry.ensures.within c.in_default-mend_tables.ensures.left
    (λ x y z m t. all-within s c.args.at (not c.args.read.now.second) x y z (bounded s c.requires.laid) m t.differs)

pub returns-in_default-mend_tables-clause-kept : goal.returns-in_default-mend_tables-clause-kept
returns-in_default-mend_tables-clause-kept g c =
    OpenKept-then (g.K.Disk.told c.args.disk.now) (g.K.Disk.told c.mend_geometry.new.disk) (g.K.Disk.told c.mend_tables.new.disk) c.mend_geometry.ensures.kept c.mend_tables.ensures.kept

pub returns-in_default-mend_tables-clause-cause : goal.returns-in_default-mend_tables-clause-cause
returns-in_default-mend_tables-clause-cause g c =
    Rose-behind (g.K.Disk.told c.args.disk.now).faults (g.K.Disk.told c.mend_geometry.new.disk).faults (g.K.Disk.told c.mend_tables.new.disk).faults c.mend_geometry.ensures.kept.later c.in_default-mend_tables.ensures.cause

pub returns-in_default-sync-clause-left : goal.returns-in_default-sync-clause-left
returns-in_default-sync-clause-left g c = λ honest.
    let s = c.args.s.now in
    let a = g.K.Disk.told c.args.disk.now in
    let b = g.K.Disk.told c.mend_geometry.new.disk in
    let d = g.K.Disk.told c.mend_tables.new.disk in
    let e = g.K.Disk.told c.sync.new.self in
    both-to (IsSuperLeft s c.args.at) (open_bytes a) (open_bytes d) (open_bytes e) (same-bytes d e c.sync.ensures.kept)
    (both-start-then (open_bytes a) (open_bytes b) (open_bytes d) c.requires.read c.in-Ok.ensures.mended c.in-Ok-mend_tables.ensures.mended
    (λ x y z read m t. mended-left s c.args.at c.args.read.now x y z (bounded s c.requires.laid) read m t))

pub returns-in_default-sync-clause-within : goal.returns-in_default-sync-clause-within
returns-in_default-sync-clause-within g c =
    let s = c.args.s.now in
    let a = g.K.Disk.told c.args.disk.now in
    let b = g.K.Disk.told c.mend_geometry.new.disk in
    let d = g.K.Disk.told c.mend_tables.new.disk in
    let e = g.K.Disk.told c.sync.new.self in
    both-to (DifferWithin (c.args.at + 4096) (first_unit s - 4096)) (open_bytes a) (open_bytes d) (open_bytes e) (same-bytes d e c.sync.ensures.kept)
    (both-then (open_bytes a) (open_bytes b) (open_bytes d) c.mend_geometry.ensures.within c.in-Ok-mend_tables.ensures.mended
    (λ x y z m t. all-within s c.args.at (not c.args.read.now.second) x y z (bounded s c.requires.laid) m t.differs))

pub returns-in_default-sync-clause-kept : goal.returns-in_default-sync-clause-kept
returns-in_default-sync-clause-kept g c =
    let a = g.K.Disk.told c.args.disk.now in
    let b = g.K.Disk.told c.mend_geometry.new.disk in
    let d = g.K.Disk.told c.mend_tables.new.disk in
    let e = g.K.Disk.told c.sync.new.self in
    OpenKept-then a d e (OpenKept-then a b d c.mend_geometry.ensures.kept c.mend_tables.ensures.kept) (OpenKept-files d e c.sync.ensures.kept)

pub returns-in_default-sync-clause-cause : goal.returns-in_default-sync-clause-cause
returns-in_default-sync-clause-cause g c =
    let a = g.K.Disk.told c.args.disk.now in
    let b = g.K.Disk.told c.mend_geometry.new.disk in
    let d = g.K.Disk.told c.mend_tables.new.disk in
    let e = g.K.Disk.told c.sync.new.self in
    Rose-behind a.faults d.faults e.faults (OpenKept-then a b d c.mend_geometry.ensures.kept c.mend_tables.ensures.kept).later c.in_default-sync.ensures.cause

pub returns-clause-repaired : goal.returns-clause-repaired
returns-clause-repaired g c =
    let s = c.args.s.now in
    let a = g.K.Disk.told c.args.disk.now in
    let b = g.K.Disk.told c.mend_geometry.new.disk in
    let d = g.K.Disk.told c.mend_tables.new.disk in
    let e = g.K.Disk.told c.sync.new.self in
    both-to (IsSuperMended s c.args.at) (open_bytes a) (open_bytes d) (open_bytes e) (same-bytes d e c.sync.ensures.kept)
    (both-start-then (open_bytes a) (open_bytes b) (open_bytes d) c.requires.read c.in-Ok.ensures.mended c.in-Ok-mend_tables.ensures.mended
    (λ x y z read m t. super-mended s c.args.at c.args.read.now x y z (bounded s c.requires.laid) read m t))

pub returns-clause-within : goal.returns-clause-within
returns-clause-within g c =
    let s = c.args.s.now in
    let a = g.K.Disk.told c.args.disk.now in
    let b = g.K.Disk.told c.mend_geometry.new.disk in
    let d = g.K.Disk.told c.mend_tables.new.disk in
    let e = g.K.Disk.told c.sync.new.self in
    both-to (DifferWithin (c.args.at + 4096) (first_unit s - 4096)) (open_bytes a) (open_bytes d) (open_bytes e) (same-bytes d e c.sync.ensures.kept)
    (both-then (open_bytes a) (open_bytes b) (open_bytes d) c.mend_geometry.ensures.within c.in-Ok-mend_tables.ensures.mended
    (λ x y z m t. all-within s c.args.at (not c.args.read.now.second) x y z (bounded s c.requires.laid) m t.differs))

pub returns-clause-kept : goal.returns-clause-kept
returns-clause-kept g c =
    let a = g.K.Disk.told c.args.disk.now in
    let b = g.K.Disk.told c.mend_geometry.new.disk in
    let d = g.K.Disk.told c.mend_tables.new.disk in
    let e = g.K.Disk.told c.sync.new.self in
    OpenKept-then a d e (OpenKept-then a b d c.mend_geometry.ensures.kept c.mend_tables.ensures.kept) (OpenKept-files d e c.sync.ensures.kept)
