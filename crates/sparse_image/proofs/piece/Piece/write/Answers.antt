use Rattle.std.proofs.Common.{◌≡◌, ◌∙◌, true, ap, sym, subst}
use Rattle.std.proofs.lemmas.Result.{on_ok_weaker, on_err_weaker}
use Rattle.sparse_image.specs.Cuts.{Part, part_len, IsPart}
use Rattle.sparse_image.proofs.PartLemmas.{whole-puts, whole-front, told-image}
use Rattle.sparse_image.proofs.piece.Piece.write.Goals as goal

pub returns-then-self-clause-put : goal.returns-then-self-clause-put
returns-then-self-clause-put g c =
    let o = g.B.Bytes.content c.args.source.now in
    let a = g.O.Out.put_so_far c.args.out.now in
    let b = g.O.Out.put_so_far c.copy.new.out in
    let whole : c.args.self.now.whole ≡ true = sym (ap (λ (p : Part). p.whole) c.self.view_is) ∙ c.if-self.true in
    let size : c.from.result ≡ part_len c.args.self.now = c.from.ensures ∙ c.self.invariant.size ∙ ap part_len c.self.view_is in
    on_ok_weaker c.copy.result (whole-puts o c.args.self.now c.from.result a b c.requires.told whole size) c.copy.ensures.put

pub returns-then-self-clause-part : goal.returns-then-self-clause-part
returns-then-self-clause-part g c =
    let o = g.B.Bytes.content c.args.source.now in
    let a = g.O.Out.put_so_far c.args.out.now in
    let b = g.O.Out.put_so_far c.copy.new.out in
    let whole : c.args.self.now.whole ≡ true = sym (ap (λ (p : Part). p.whole) c.self.view_is) ∙ c.if-self.true in
    let size : c.from.result ≡ part_len c.args.self.now = c.from.ensures ∙ c.self.invariant.size ∙ ap part_len c.self.view_is in
    on_err_weaker c.copy.result (whole-front o c.args.self.now c.from.result a b c.requires.told whole size) c.copy.ensures.part

pub returns-then-self-clause-image : goal.returns-then-self-clause-image
returns-then-self-clause-image g c =
    let s = c.self.inside in
    let part = subst (λ (p : Part). IsPart p s.size s.chunks s.rest) c.self.view_is c.self.invariant in
    told-image (g.B.Bytes.content c.args.source.now) c.args.self.now s.size s.chunks s.rest part c.requires.told

pub returns-clause-image : goal.returns-clause-image
returns-clause-image g c =
    let s = c.self.inside in
    let part = subst (λ (p : Part). IsPart p s.size s.chunks s.rest) c.self.view_is c.self.invariant in
    told-image (g.B.Bytes.content c.args.source.now) c.args.self.now s.size s.chunks s.rest part c.requires.told
