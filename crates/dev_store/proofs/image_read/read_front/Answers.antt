use Rattle.std.proofs.Common.{◌≡◌, sym, subst, arith, Err}
use Rattle.std.specs.Prelude.{IfSome, ◌≢◌}
use Rattle.dev_model.specs.declared.bad_image.BadImage.TheVariants.{ShortFile, BadLength}
use Rattle.dev_disk.specs.Disks.{open_bytes}
use Rattle.dev_store.specs.Layouts.{image_size}
use Rattle.dev_store.specs.Stand.{stand}
use Rattle.dev_store.proofs.ImageReads.{told-long, front-short, front-unlaid, front-unlike, front-read}
use Rattle.dev_store.proofs.image_read.read_front.Goals as goal

pub returns-then-size-lt-FRONT-clause-bad : goal.returns-then-size-lt-FRONT-clause-bad
returns-then-size-lt-FRONT-clause-bad g c = λ bad e.
    let told = g.K.Disk.told c.args.disk.now in
    let o = open_bytes told in
    let same : ShortFile ≡ bad = cc in
    subst (λ b. IfSome o (λ file. stand file ≡ Err b)) same
    (front-short o c.args.size (told-long told c.args.size (g.met.K.Disk.agrees c.args.disk.now) c.requires.open) (omega arith))

pub returns-in-Err-clause-bad : goal.returns-in-Err-clause-bad
returns-in-Err-clause-bad g c = λ bad e.
    let told = g.K.Disk.told c.args.disk.now in
    let o = open_bytes told in
    let h = c.in-Err.ensures.bad bad e in
    subst (λ b. IfSome o (λ file. stand file ≡ Err b)) (sym h.0)
    (front-unlaid o c.args.size (told-long told c.args.size (g.met.K.Disk.agrees c.args.disk.now) c.requires.open) (omega arith) h.1)

pub returns-then-size-image_size-clause-bad : goal.returns-then-size-image_size-clause-bad
returns-then-size-image_size-clause-bad g c = λ bad e.
    let told = g.K.Disk.told c.args.disk.now in
    let o = open_bytes told in
    let layout = c.in-Ok.layout in
    let same : BadLength ≡ bad = cc in
    let unlike : c.args.size ≢ image_size layout = λ k. absurd (omega (arith, k)) in
    subst (λ b. IfSome o (λ file. stand file ≡ Err b)) same
    (front-unlike o c.args.size layout (told-long told c.args.size (g.met.K.Disk.agrees c.args.disk.now) c.requires.open) (omega arith) c.in-Ok.ensures.read unlike)

pub returns-clause-read : goal.returns-clause-read
returns-clause-read g c =
    let told = g.K.Disk.told c.args.disk.now in
    let o = open_bytes told in
    let layout = c.in-Ok.layout in
    let like : c.args.size ≡ image_size layout = omega arith in
    front-read o c.args.size layout (told-long told c.args.size (g.met.K.Disk.agrees c.args.disk.now) c.requires.open) (omega arith) c.in-Ok.ensures.read like
