use Rattle.std.proofs.lemmas.Result.{on_err_weaker}
use Rattle.sparse_image.specs.Puts.{hole_bytes}
use Rattle.sparse_image.proofs.WriteLemmas.{part-behind}
use Rattle.sparse_image.proofs.puts.put_front.Goals as goal

pub returns-clause-part : goal.returns-clause-part
returns-clause-part g c =
    on_err_weaker c.put_hole.result
    (part-behind (g.O.Out.put_so_far c.args.out.now) (g.O.Out.put_so_far c.put.new.out) (g.O.Out.put_so_far c.put_hole.new.out) c.args.header.now (hole_bytes c.args.first) c.in_ok-put.ensures.all)
    c.put_hole.ensures.part
