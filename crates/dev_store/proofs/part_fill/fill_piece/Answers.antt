use Rattle.std.proofs.Common.{◌≡◌, ◌+◌, ◌∙◌, refl, subst, take, length, ◌≤◌, arith}
use Rattle.std.specs.Prelude.{◌%◌}
use Rattle.std.proofs.lemmas.List.{length-take-le}
use Rattle.fb_frame.specs.Told.{Both}
use Rattle.dev_disk.specs.Files.{DifferWithin}
use Rattle.dev_disk.specs.Disks.{open_bytes}
use Rattle.dev_disk.proofs.TwinLemmas.{OpenKept-then}
use Rattle.dev_store.proofs.SuperRepairLemmas.{self-kept, torn-within, range-told, inside-open}
use Rattle.dev_store.proofs.PartFilling.{wrote-nothing, wrote-more, wrote-within, within-more, within-nothing, front-repeated}
use Rattle.dev_store.proofs.part_fill.fill_piece.Goals as goal

pub loop-done-init : goal.loop-done-init
loop-done-init g c = record {
  long = omega arith;
  fours = refl;
  wrote = wrote-nothing (open_bytes (g.K.Disk.told c.args.disk.now)) c.args.place;
  within = within-nothing c.args.place c.args.count (open_bytes (g.K.Disk.told c.args.disk.now));
  kept = self-kept (g.K.Disk.told c.args.disk.now);
  same = refl;
}

pub returns-in_default-clause-within : goal.returns-in_default-clause-within
returns-in_default-clause-within g c =
    let a = g.K.Disk.told c.args.disk.now in
    let b = g.K.Disk.told c.loop-done.disk in
    let d = g.K.Disk.told c.write_at.new.self in
    let i = c.loop-done.invariant in
    let m = c.min-size.ensures in
    let size = c.min-size.result in
    within-more c.args.place c.args.count c.loop-done.done size (open_bytes a) (open_bytes b) (open_bytes d) (omega (arith, i.long, m)) i.within
    (torn-within d.torn (open_bytes b) (open_bytes d) (c.args.place + c.loop-done.done) size (take size c.args.buffer.now) (length-take-le size c.args.buffer.now (omega (arith, m))) c.in_default.ensures.fails.part)

pub loop-done-preserved : goal.loop-done-preserved
loop-done-preserved g c =
    let a = g.K.Disk.told c.args.disk.now in
    let b = g.K.Disk.told c.loop-done.disk in
    let d = g.K.Disk.told c.write_at.new.self in
    let i = c.loop-done.invariant in
    let m = c.min-size.ensures in
    let size = c.min-size.result in
    let buffer = c.args.buffer.now in
    let all : c.loop-done.done + size ≤ c.args.count = omega (arith, i.long, m) in
    let fours : size % 4 ≡ 0 = omega (arith, m, i.fours, c.requires.fours, c.requires.whole) in
    let n : length (take size buffer) ≡ size = length-take-le size buffer (omega (arith, m)) in
    record {
      long = all;
      fours = omega (arith, i.fours, fours);
      wrote = wrote-more c.args.place c.loop-done.done size (take size buffer) (take 4 buffer) (open_bytes a) (open_bytes b) (open_bytes d) i.fours
          (length-take-le 4 buffer (omega (arith, c.requires.room, c.requires.whole)))
          (front-repeated size buffer fours (omega (arith, m)) c.requires.room c.requires.whole c.requires.repeated) i.wrote c.in-Ok.ensures.writes.wrote;
      within = within-more c.args.place c.args.count c.loop-done.done size (open_bytes a) (open_bytes b) (open_bytes d) all i.within
          (subst (λ k. Both (DifferWithin (c.args.place + c.loop-done.done) k) (open_bytes b) (open_bytes d)) n
          (wrote-within (c.args.place + c.loop-done.done) (take size buffer) (open_bytes b) (open_bytes d)
          (range-told b c.args.place c.args.count c.loop-done.done (length (take size buffer)) (g.met.K.Disk.agrees c.loop-done.disk) (inside-open a b c.args.place c.args.count i.kept c.requires.inside) (omega (arith, all, n)))
          c.in-Ok.ensures.writes.wrote));
      kept = OpenKept-then a b d i.kept c.in-Ok.ensures.writes.kept;
      same = c.write_at.ensures.same ∙ i.same;
    }
