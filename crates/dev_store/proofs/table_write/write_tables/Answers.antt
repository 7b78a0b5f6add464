use Rattle.std.proofs.Common.{◌+◌, subst}
use Rattle.fb_frame.specs.Told.{Both}
use Rattle.dev_model.specs.Images.{copies}
use Rattle.dev_disk.specs.Disks.{Writes, open_bytes}
use Rattle.dev_store.specs.TableWrites.{AreLeft}
use Rattle.dev_store.proofs.StateRepairs.{ok-more, err-more}
use Rattle.dev_store.proofs.TableCopies.{Writes-tables, Fails-first, Fails-second}
use Rattle.dev_store.proofs.table_write.write_tables.Goals as goal

pub returns-in_default-clause-left : goal.returns-in_default-clause-left
returns-in_default-clause-left g c =
    let a = g.K.Disk.told c.args.disk.now in
    let b = g.K.Disk.told c.write_row.new.disk in
    let s = c.args.s.now in
    let bytes = c.args.bytes.now in
    Fails-first b.torn s c.args.at bytes a b c.requires.bounded c.requires.long
    (subst (λ n. Both (AreLeft b.torn (c.args.at + n) s.slots bytes) (open_bytes a) (open_bytes b)) c.copy_place.ensures c.in_default.ensures.left)

pub returns-clause-written : goal.returns-clause-written
returns-clause-written g c =
    let a = g.K.Disk.told c.args.disk.now in
    let b = g.K.Disk.told c.write_row.new.disk in
    let d = g.K.Disk.told c.write_row-2.new.disk in
    let s = c.args.s.now in
    let bytes = c.args.bytes.now in
    ok-more c.write_row-2.result (λ w. Writes-tables s c.args.at bytes a b d (g.met.K.Disk.agrees c.args.disk.now) c.requires.bounded c.requires.inside c.requires.long
    (subst (λ n. Writes a b (c.args.at + n) (copies s.slots bytes)) c.copy_place.ensures c.in-Ok.ensures.writes)
    (subst (λ n. Writes b d (c.args.at + n) (copies s.slots bytes)) c.copy_place-2.ensures w)) c.write_row-2.ensures.writes

pub returns-clause-left : goal.returns-clause-left
returns-clause-left g c =
    let a = g.K.Disk.told c.args.disk.now in
    let b = g.K.Disk.told c.write_row.new.disk in
    let d = g.K.Disk.told c.write_row-2.new.disk in
    let s = c.args.s.now in
    let bytes = c.args.bytes.now in
    err-more c.write_row-2.result (λ l. Fails-second d.torn s c.args.at bytes a b d (g.met.K.Disk.agrees c.args.disk.now) c.requires.bounded c.requires.inside c.requires.long
    (subst (λ n. Writes a b (c.args.at + n) (copies s.slots bytes)) c.copy_place.ensures c.in-Ok.ensures.writes)
    (subst (λ n. Both (AreLeft d.torn (c.args.at + n) s.slots bytes) (open_bytes b) (open_bytes d)) c.copy_place-2.ensures l)) c.write_row-2.ensures.left
