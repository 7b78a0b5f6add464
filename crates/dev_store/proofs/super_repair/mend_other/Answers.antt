use Rattle.std.proofs.Common.{◌≡◌, ◌≢◌, ◌+◌, ◌∙◌, length, sym, ap, subst, refl, arith}
use Rattle.fb_frame.specs.Told.{Both}
use Rattle.dev_disk.specs.Disks.{open_bytes}
use Rattle.super_meta.specs.Contents.{content}
use Rattle.dev_store.specs.Supers.{copy_place}
use Rattle.dev_store.specs.SuperReads.{copy_read}
use Rattle.dev_store.specs.SuperRepairs.{SaysTable, IsRangeMended, IsRangeLeft, IsCopyMended, IsCopyLeft}
use Rattle.dev_store.proofs.PlaceLemmas.{place-inside, range-inside}
use Rattle.dev_store.proofs.SuperRepairLemmas.{both-kept, both-map, own-mended, other-mended, self-kept}
use Rattle.dev_store.proofs.super_repair.mend_other.Goals as goal

pub overflow_add-at : goal.overflow_add-at
overflow_add-at g c =
    let b = place-inside c.args.s.now c.args.number c.requires.bounded c.requires.there in omega (arith, b, c.copy_place.ensures, c.requires.end)

pub mend_copy-requires-clause-inside : goal.mend_copy-requires-clause-inside
mend_copy-requires-clause-inside g c =
    let b = place-inside c.args.s.now c.args.number c.requires.bounded c.requires.there in
    range-inside _ c.args.at c.args.s.now.size c.copy_place.result c.args.s.now.max_size c.requires.inside (omega (arith, b, c.copy_place.ensures))

pub returns-then-number-own-clause-mended : goal.returns-then-number-own-clause-mended
returns-then-number-own-clause-mended g c =
    let o = open_bytes (g.K.Disk.told c.args.disk.now) in
    both-kept (IsCopyMended c.args.s.now c.args.at (copy_read c.args.s.now c.args.read.now.backup) (content c.args.read.now.table) c.args.number) o o refl
    (λ file. own-mended c.args.s.now c.args.at (copy_read c.args.s.now c.args.read.now.backup) (content c.args.read.now.table) c.args.number file (c.if-number-own.true ∙ c.own_copy-own.ensures))

pub returns-then-number-own-clause-kept : goal.returns-then-number-own-clause-kept
returns-then-number-own-clause-kept g c = self-kept (g.K.Disk.told c.args.disk.now)

pub returns-in_default-clause-left : goal.returns-in_default-clause-left
returns-in_default-clause-left g c =
    let a = g.K.Disk.told c.args.disk.now in
    let b = g.K.Disk.told c.mend_copy.new.disk in
    let ne : c.args.number ≢ copy_read c.args.s.now c.args.read.now.backup = λ e. c.if-number-own.false (e ∙ sym c.own_copy-own.ensures) in
    both-map (open_bytes a) (open_bytes b)
    (subst (λ p. Both (IsRangeLeft b.torn (c.args.at + p) c.args.s.now.max_size c.args.read.now.copy.items) (open_bytes a) (open_bytes b)) c.copy_place.ensures c.in_default.ensures.left)
    (λ x y l. record { other = ne; left = l })

pub returns-clause-mended : goal.returns-clause-mended
returns-clause-mended g c =
    let a = g.K.Disk.told c.args.disk.now in
    let b = g.K.Disk.told c.mend_copy.new.disk in
    let t = content c.args.read.now.table in
    let ne : c.args.number ≢ copy_read c.args.s.now c.args.read.now.backup = λ e. c.if-number-own.false (e ∙ sym c.own_copy-own.ensures) in
    both-map (open_bytes a) (open_bytes b)
    (subst (λ p. Both (IsRangeMended (c.args.at + p) c.args.s.now.max_size (SaysTable t)) (open_bytes a) (open_bytes b)) c.copy_place.ensures c.in-Ok.ensures.mended)
    (λ x y m. other-mended c.args.s.now c.args.at (copy_read c.args.s.now c.args.read.now.backup) t c.args.number x y ne m)
