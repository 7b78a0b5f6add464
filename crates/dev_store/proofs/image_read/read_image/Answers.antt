use Rattle.std.proofs.Common.{◌≡◌, ◌∙◌, ap, sym, subst, Err}
use Rattle.std.specs.Prelude.{IfSome}
use Rattle.dev_disk.specs.Disks.{open_bytes}
use Rattle.dev_disk.proofs.TwinLemmas.{same-bytes}
use Rattle.dev_store.specs.declared.errors.OpenError.TheVariants.{Bad}
use Rattle.dev_store.specs.Stand.{stand}
use Rattle.dev_store.proofs.ImageReads.{image-stateless, image-bad, image-read}
use Rattle.dev_store.proofs.image_read.read_image.Goals as goal

pub returns-in-Err-read_states-clause-bad : goal.returns-in-Err-read_states-clause-bad
returns-in-Err-read_states-clause-bad g c = λ bad e.
    let o = open_bytes (g.K.Disk.told c.args.disk.now) in
    let same : c.in-Err-read_states.e ≡ Bad bad = cc in
    let h = c.in-Err-read_states.ensures.bad bad (ap Err same) in
    subst (λ b. IfSome o (λ file. stand file ≡ Err b)) (sym h.0)
    (image-stateless o (open_bytes (g.K.Disk.told c.read_front.new.disk)) c.in-Ok.layout c.slots.result (same-bytes _ _ c.read_front.ensures.kept) c.slots.ensures c.in-Ok.ensures.read h.1)

pub returns-in-Err-read_within-clause-bad : goal.returns-in-Err-read_within-clause-bad
returns-in-Err-read_within-clause-bad g c = λ bad e.
    let o = open_bytes (g.K.Disk.told c.args.disk.now) in
    let first = same-bytes _ _ c.read_front.ensures.kept in
    let same : c.in-Err-read_within.e ≡ Bad bad = cc in
    image-bad o (open_bytes (g.K.Disk.told c.read_front.new.disk)) (open_bytes (g.K.Disk.told c.read_states.new.disk)) c.in-Ok.layout c.slots.result c.in-Ok-read_states.found bad
    first (same-bytes _ _ c.read_states.ensures.kept ∙ first) c.slots.ensures c.in-Ok.ensures.read c.in-Ok-read_states.ensures.read (c.in-Err-read_within.ensures.bad bad (ap Err same))

pub returns-clause-read : goal.returns-clause-read
returns-clause-read g c =
    let first = same-bytes _ _ c.read_front.ensures.kept in
    image-read (open_bytes (g.K.Disk.told c.args.disk.now)) (open_bytes (g.K.Disk.told c.read_front.new.disk)) (open_bytes (g.K.Disk.told c.read_states.new.disk)) c.slots.result
    (record { layout = c.in-Ok.layout; found = c.in-Ok-read_states.found; within = c.in-Ok-read_within.within })
    first (same-bytes _ _ c.read_states.ensures.kept ∙ first) c.slots.ensures c.in-Ok.ensures.read c.in-Ok-read_states.ensures.read c.in-Ok-read_within.ensures.read
