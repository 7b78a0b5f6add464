use Rattle.std.proofs.Common.{◌≡◌, ap, Err}
use Rattle.dev_store.specs.declared.errors.OpenError.TheVariants.{Bad}
use Rattle.dev_store.proofs.OpenFiles.{bad-image}
use Rattle.dev_store.proofs.open.read_path.Goals as goal

pub returns-in-Err-read_image-clause-bad : goal.returns-in-Err-read_image-clause-bad
returns-in-Err-read_image-clause-bad g c = λ bad e.
    let same : c.in-Err-read_image.e ≡ Bad bad = cc in
    bad-image (g.K.Disk.told c.args.disk.now) (g.K.Disk.told c.find.new.disk) c.args.path.now bad c.find.ensures.files c.in-Ok.ensures.open (c.in-Err-read_image.ensures.bad bad (ap Err same))
