use Rattle.std.proofs.Common.{◌≡◌, ◌<◌, ◌^◌, take}
use Rattle.fb_frame.specs.Numbers.{digits_worth}
use Rattle.fb_frame.proofs.number.digits_worth.Given as goal

abbrev pub invariant-loop-b : goal.invariant-loop-b
invariant-loop-b l = record {
  worth : l.n ≡ digits_worth (take l.b-index l.bytes);
  fits : l.n < 2 ^ 64;
}
