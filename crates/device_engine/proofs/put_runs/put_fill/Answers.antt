use Rattle.std.proofs.Common.{◌≡◌, ◌+◌, sym, subst, length, arith, rules}
use Rattle.device_engine.specs.Putting.{IsTorn}
use Rattle.device_engine.proofs.RangeLemmas.{torn-err, room-range}
use Rattle.device_engine.proofs.PutLemmas.{fill-long}
use Rattle.device_engine.proofs.put_runs.put_fill.Goals as goal

pub returns-in-Err-clause-torn : goal.returns-in-Err-clause-torn
returns-in-Err-clause-torn g c =
    let told = g.K.Disk.told in
    let at = c.args.at in
    let count = c.args.total in
    let four : length c.args.pattern ≡ 4 = search rules in
    subst (λ k. IsTorn told c.args.name.now at k c.args.store.now c.fill_part.new.self) (sym (fill-long count c.args.pattern c.requires.fours four))
    (torn-err told c.args.name.now at count c.args.store.now c.fill_part.new.self c.fill_part.result c.in-Err.field-0 c.in-Err.is
    (room-range told c.args.name.now at count (at + count) c.args.store.now c.requires.room (omega arith)) c.fill_part.ensures.decided c.fill_part.ensures.part c.fill_part.ensures.sound)
