use Rattle.std.proofs.Common.{ℕ, List, ◌-◌, take, length-take, length-drop, ap, ◌∙◌, arith}
use Rattle.std.proofs.lemmas.List.{take_rest}
use Rattle.sparse_image.proofs.WindowLemmas.{IsRead-near}
use Rattle.sparse_image.proofs.window.Window.copy.Goals as goal

pub returns-clause-read : goal.returns-clause-read
returns-clause-read g c =
    let w = c.args.self.now in
    let n = c.copy_front.result in
    let skip = c.args.at - w.at in
    IsRead-near (g.B.Bytes.content w.source.now) w.at c.args.at skip n w.have w.room.now c.copy_front.new.buf w.read (omega (arith, c.requires.before))
    (omega (arith, c.copy_front.ensures.count, c.requires.there, length-take {A = ℕ}, length-drop {A = ℕ})) (c.copy_front.ensures.front ∙ ap (λ (xs : List ℕ). take n xs) (take_rest (take w.have w.room.now) skip))
