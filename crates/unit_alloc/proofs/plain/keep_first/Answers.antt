-- The entry is of another part, or of the part that has room for it, or of the part that has none.
use Rattle.std.proofs.Common.{refl, arith, length, get_or, ◌<◌}
use Rattle.unit_alloc.specs.declared.plain.Entry.{Entry}
use Rattle.unit_alloc.proofs.FrontLemmas.{Front-none, Front-left_out, Front-mine, Front-other}
use Rattle.unit_alloc.proofs.LogLemmas.{no_entry}
use Rattle.unit_alloc.proofs.plain.keep_first.Goals as goal
use Rattle.unit_alloc.proofs.plain.keep_first.Goals.{then-entry-part, else-entry-part+then-count-keep, else-entry-part+else-count-keep}

pub loop-from-init : goal.loop-from-init
loop-from-init c = Front-none c.args.part c.args.keep c.args.entries.now

pub loop-from-preserved : goal.loop-from-preserved
loop-from-preserved c =
    let old = c.args.entries.now in
    let new = c.loop-from.entries in
    let e : Entry = get_or new c.loop-from.from no_entry in
    let h : c.loop-from.from < length new = omega arith in
    elim c.if-entry-part.branch [
      | then-entry-part w ↦ rw (w.entries-is, w.count-is, w.to-is) (Front-other c.args.part c.args.keep c.loop-from.from c.loop-from.to c.loop-from.count old new c.loop-from.invariant h e refl w.if-entry-part.true)
      | else-entry-part+then-count-keep w ↦ rw (w.entries-is, w.count-is, w.to-is) (Front-mine c.args.part c.args.keep c.loop-from.from c.loop-from.to c.loop-from.count old new c.loop-from.invariant h e refl w.if-entry-part.false w.if-count-keep.true)
      | else-entry-part+else-count-keep w ↦ rw (w.entries-is, w.count-is, w.to-is) (Front-left_out c.args.part c.args.keep c.loop-from.from c.loop-from.to c.loop-from.count old new c.loop-from.invariant h e refl w.if-entry-part.false w.if-count-keep.false)
    ]
