use Rattle.std.proofs.Common.{ap, sym, subst}
use Rattle.std.specs.Result.{result_ok}
use Rattle.super_meta.specs.Contents.{content}
use Rattle.dev_disk.specs.Disks.{open_bytes}
use Rattle.dev_store.specs.SuperRepairs.{SaysTable}
use Rattle.super_meta.proofs.GivenLemmas.{gives}
use Rattle.dev_store.proofs.SuperRepairLemmas.{both-map}
use Rattle.dev_store.proofs.TableImages.{copies-mended, copies-around}
use Rattle.dev_store.proofs.table_write.write_next.Goals as goal

pub returns-in_default-clause-around : goal.returns-in_default-clause-around
returns-in_default-clause-around g c =
    let a = g.K.Disk.told c.args.disk.now in
    let b = g.K.Disk.told c.write_tables.new.disk in
    let w = c.args.within.now in
    let says = subst (SaysTable (content w.next)) (sym c.deref.ensures.value) (ap result_ok (gives w.copy.items (content w.next) c.requires.spelled.copy)) in
    both-map (open_bytes a) (open_bytes b) c.in_default.ensures.left
    (λ x y l. copies-around b.torn c.args.s.now c.args.at (content w.next) _ x y c.requires.bounded says l)

pub returns-clause-written : goal.returns-clause-written
returns-clause-written g c =
    let a = g.K.Disk.told c.args.disk.now in
    let b = g.K.Disk.told c.write_tables.new.disk in
    let w = c.args.within.now in
    let says = subst (SaysTable (content w.next)) (sym c.deref.ensures.value) (ap result_ok (gives w.copy.items (content w.next) c.requires.spelled.copy)) in
    both-map (open_bytes a) (open_bytes b) c.in-Ok.ensures.written
    (λ x y w. copies-mended c.args.s.now c.args.at _ _ x y c.requires.bounded says w)
