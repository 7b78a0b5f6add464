use Rattle.dev_store.proofs.TableCopies.{Fails-row, Unsynced-row}
use Rattle.dev_store.proofs.table_write.write_row.Goals as goal

pub returns-in_default-clause-left : goal.returns-in_default-clause-left
returns-in_default-clause-left g c =
    Fails-row (g.K.Disk.told c.args.disk.now) (g.K.Disk.told c.write_copies.new.disk) c.args.at c.args.count c.args.block.now (g.met.K.Disk.agrees c.args.disk.now)
    c.requires.inside c.requires.some c.in_default.ensures.left

pub returns-in_default-sync-clause-left : goal.returns-in_default-sync-clause-left
returns-in_default-sync-clause-left g c =
    Unsynced-row (g.K.Disk.told c.args.disk.now) (g.K.Disk.told c.write_copies.new.disk) (g.K.Disk.told c.sync.new.self) c.args.at c.args.count c.args.block.now (g.met.K.Disk.agrees c.args.disk.now)
    c.requires.inside c.requires.some c.in-Ok.ensures.writes c.sync.ensures.kept
