use Rattle.std.proofs.Common.{◌≡◌, ◌+◌, ◌≤◌, length, take}
use Rattle.std.specs.List.{suffix_len}
use Rattle.super_meta.specs.Entries.{is_zero}
use Rattle.dev_store.proofs.image_read.text_in.Given as goal

abbrev pub invariant-loop-end : goal.invariant-loop-end
invariant-loop-end l = record {
  within : l.end ≤ length l.block;
  zeros : suffix_len is_zero l.block + l.end ≡ length l.block + suffix_len is_zero (take l.end l.block);
}

abbrev pub decreases-loop-end : goal.decreases-loop-end
decreases-loop-end l = l.end
