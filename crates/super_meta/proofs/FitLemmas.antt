-- What an entry's type says of it is what its fields take.
use Rattle.std.proofs.Common.{◌≡◌, ℕ, ◌^◌, ◌<◌, true, arith}
use Rattle.std.specs.Prelude.{nat_lt, IsTrue}
use Rattle.std.proofs.lemmas.Bool.Decides.{nat_tests}
use Rattle.fb_frame.specs.NameText.{IsName}
use Rattle.super_meta.specs.declared.table.Partition.{Partition}
use Rattle.super_meta.specs.declared.table.Extent.{Extent}
use Rattle.super_meta.specs.declared.table.Group.{Group}
use Rattle.super_meta.specs.declared.table.BlockDevice.{BlockDevice}
use Rattle.super_meta.specs.TableBytes.{partition_fits, extent_fits, group_fits, device_fits}
use Rattle.super_meta.proofs.NameLemmas.{bothly}

pub below : (n k : ℕ) → n < k → nat_lt n k ≡ true
below n k h = grind (arith, nat_tests)

pub partition-fit : (p : Partition) → IsName p.name → p.attributes < 2 ^ 32 → p.first < 2 ^ 32 → p.count < 2 ^ 32 → p.group < 2 ^ 32 → IsTrue (partition_fits p)
partition-fit p n a b c d = bothly _ _ (bothly _ _ (bothly _ _ (bothly _ _ n (below _ _ a)) (below _ _ b)) (below _ _ c)) (below _ _ d)

pub extent-fit : (e : Extent) → e.sectors < 2 ^ 64 → e.target < 2 ^ 64 → IsTrue (extent_fits e)
extent-fit e a b = bothly _ _ (below _ _ a) (below _ _ b)

pub group-fit : (g : Group) → IsName g.name → g.limit < 2 ^ 64 → IsTrue (group_fits g)
group-fit g n a = bothly _ _ n (below _ _ a)

pub device-fit : (d : BlockDevice) → IsName d.name → d.first_sector < 2 ^ 64 → d.alignment < 2 ^ 32 → d.offset < 2 ^ 32 → d.size < 2 ^ 64 → IsTrue (device_fits d)
device-fit d n a b c e = bothly _ _ (bothly _ _ (bothly _ _ (bothly _ _ n (below _ _ a)) (below _ _ b)) (below _ _ c)) (below _ _ e)

pub ruleset fitting = (partition-fit, extent-fit, group-fit, device-fit)
