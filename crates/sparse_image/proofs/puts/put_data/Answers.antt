use Rattle.std.proofs.Common.{◌≡◌, length, arith, refl}
use Rattle.std.proofs.lemmas.Result.{on_err_weaker}
use Rattle.sparse_image.proofs.WriteLemmas.{puts-front, told-each}
use Rattle.sparse_image.proofs.puts.put_data.Goals as goal

pub returns-in-Fill-clause-part : goal.returns-in-Fill-clause-part
returns-in-Fill-clause-part g c =
    let o = g.B.Bytes.content c.args.source.now in
    let pattern = c.in-Fill.pattern in
    let long : length pattern ≡ 4 = grind arith in
    rw c.in-Fill.is
    (on_err_weaker c.put.result
    (puts-front o (λ file. pattern) 4 pattern (g.O.Out.put_so_far c.args.out.now) (g.O.Out.put_so_far c.put.new.out) long (omega arith) (told-each o (λ file. pattern) (λ file. pattern) (λ file. refl)))
    c.put.ensures.part)
