use Rattle.std.proofs.Common.{Err}
use Rattle.sparse_image.specs.Walks.{IsChecked}
use Rattle.flash_plan.specs.Files.{file_in}
use Rattle.flash_plan.proofs.InspectImages.{kept-flaw}
use Rattle.flash_plan.proofs.inspect.check_image.Goals as goal

pub returns-in-Err-Bad-clause-stops : goal.returns-in-Err-Bad-clause-stops
returns-in-Err-Bad-clause-stops g c =
    let checked : IsChecked (file_in (g.D.ProductDir.files c.new-source.result.dir.now) c.new-source.result.name.now) (Err c.in-Err-Bad.flaw) =
    c.in-Err-Bad.ensures.flaw c.in-Err-Bad.flaw cc in
    kept-flaw (g.D.ProductDir.files c.args.dir.now) c.args.file c.args.len 0 0 c.in-Err-Bad.flaw
    (rw (c.new-source.ensures.dir, c.new-source.ensures.name) at checked) c.requires.size
