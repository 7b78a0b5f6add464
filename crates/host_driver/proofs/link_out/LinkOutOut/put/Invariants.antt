use Rattle.std.proofs.Common.{◌≡◌, ◌-◌, ◌≤◌, length, take}
use Rattle.sparse_image.specs.Outside.{Grew, Fell}
use Rattle.host_driver.specs.LinkOuts.{put_by, room_by}
use Rattle.host_driver.proofs.link_out.LinkOutOut.put.Given as goal

abbrev pub invariant-loop-at : goal.invariant-loop-at
invariant-loop-at g l =
    let first = g.F.Before.before.peer in
    let told = g.P.Port.told in
    record {
      within : l.at ≤ length l.bytes;
      put : Grew (put_by l.initial.self.up first (told l.initial.self.port).peer l.initial.self.buffer)
          (put_by l.self.up first (told l.self.port).peer l.self.buffer) (take l.at l.bytes);
      room : Fell (room_by l.initial.self.up l.initial.self.left (length l.initial.self.buffer))
          (room_by l.self.up l.self.left (length l.self.buffer)) l.at;
      lines : l.self.lines ≡ l.initial.self.lines;
      same : g.P.Port.lent l.self.port ≡ g.P.Port.lent l.initial.self.port;
      later : (told l.initial.self.port).faults ≤ (told l.self.port).faults;
    }

abbrev pub decreases-loop-at : goal.decreases-loop-at
decreases-loop-at g l = length l.bytes - l.at
