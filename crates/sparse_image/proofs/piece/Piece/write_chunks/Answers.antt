use Rattle.std.proofs.Common.{◌≡◌, ◌-◌, ◌<◌, ◌++◌, ◌∙◌, ℕ, Bool, false, List, Ok, ap, sym, subst, length}
use Rattle.std.specs.Prelude.{IfSome}
use Rattle.std.proofs.lemmas.Result.{on_ok_weaker}
use Rattle.sparse_image.specs.Outside.{Grew, GrewInPart}
use Rattle.sparse_image.specs.Walks.{Kept, checked}
use Rattle.sparse_image.specs.Pieces.{header_bytes}
use Rattle.sparse_image.specs.Cuts.{Part, part_bytes, part_len}
use Rattle.sparse_image.specs.Puts.{Puts, PutsInPart, hole_bytes}
use Rattle.sparse_image.proofs.WriteLemmas.{on-err, on-err-both}
use Rattle.sparse_image.proofs.PartLemmas.{cut-front, cut-middle, cut-end, cut-all}
use Rattle.sparse_image.proofs.piece.Piece.write_chunks.Goals as goal

-- the header that was made is the piece's
header-same : (block b blocks n chunks : ℕ) (header : List ℕ) → header ≡ header_bytes b n chunks → b ≡ block → n ≡ blocks → header ≡ header_bytes block blocks chunks
header-same block b blocks n chunks header h e f = h ∙ ap (λ (x : ℕ). header_bytes x n chunks) e ∙ ap (λ (x : ℕ). header_bytes block x chunks) f

pub returns-in_err-put_front-clause-part : goal.returns-in_err-put_front-clause-part
returns-in_err-put_front-clause-part g c =
    let o = g.B.Bytes.content c.args.source.now in
    let s = c.self.inside in
    let kept = s.index.now in
    let uncut : s.whole ≡ false = ap (λ (p : Part). p.whole) c.self.view_is ∙ c.requires.cut in
    let cut = c.self.invariant.cut uncut in
    let told = subst (λ (k : Kept). IfSome o (λ file. checked file ≡ Ok k)) (sym (ap (λ (p : Part). p.kept) c.self.view_is)) c.requires.told in
    let part : record { kept = kept; whole = false; first = s.first; last = s.last } ≡ c.args.self.now = ap (λ (w : Bool). record { kept = kept; whole = w; first = s.first; last = s.last }) (sym uncut) ∙ c.self.view_is in
    let a = g.O.Out.put_so_far c.args.out.now in
    let b = g.O.Out.put_so_far c.put_front.new.out in
    let header = header-same kept.block s.rest.block kept.blocks c.blocks-2.result s.chunks c.header_bytes-header.result c.header_bytes-header.ensures cut.block c.blocks-2.ensures in
    on-err c.from_residual.result
    (subst (λ (p : Part). PutsInPart o (part_bytes p) (part_len p) a b) part
    (cut-front o kept s.first s.last s.chunks s.rest told cut a b (subst (λ (xs : List ℕ). GrewInPart a b (xs ++ hole_bytes s.first)) header c.in_err-put_front.ensures.part)))

pub returns-in_err-put_chunks-clause-part : goal.returns-in_err-put_chunks-clause-part
returns-in_err-put_chunks-clause-part g c =
    let o = g.B.Bytes.content c.args.source.now in
    let s = c.self.inside in
    let kept = s.index.now in
    let uncut : s.whole ≡ false = ap (λ (p : Part). p.whole) c.self.view_is ∙ c.requires.cut in
    let cut = c.self.invariant.cut uncut in
    let told = subst (λ (k : Kept). IfSome o (λ file. checked file ≡ Ok k)) (sym (ap (λ (p : Part). p.kept) c.self.view_is)) c.requires.told in
    let part : record { kept = kept; whole = false; first = s.first; last = s.last } ≡ c.args.self.now = ap (λ (w : Bool). record { kept = kept; whole = w; first = s.first; last = s.last }) (sym uncut) ∙ c.self.view_is in
    let a = g.O.Out.put_so_far c.args.out.now in
    let b = g.O.Out.put_so_far c.put_front.new.out in
    let d = g.O.Out.put_so_far c.put_chunks.new.out in
    let header = header-same kept.block s.rest.block kept.blocks c.blocks-2.result s.chunks c.header_bytes-header.result c.header_bytes-header.ensures cut.block c.blocks-2.ensures in
    let front = subst (λ (xs : List ℕ). Grew a b (xs ++ hole_bytes s.first)) header c.in_ok-put_front.ensures.all in
    on-err c.from_residual-in_err-put_chunks.result
    (subst (λ (p : Part). PutsInPart o (part_bytes p) (part_len p) a d) part
    (cut-middle o kept s.first s.last s.chunks s.rest told cut a b front d c.in_err-put_chunks.ensures.part))

pub returns-clause-put : goal.returns-clause-put
returns-clause-put g c =
    let o = g.B.Bytes.content c.args.source.now in
    let s = c.self.inside in
    let kept = s.index.now in
    let uncut : s.whole ≡ false = ap (λ (p : Part). p.whole) c.self.view_is ∙ c.requires.cut in
    let cut = c.self.invariant.cut uncut in
    let told = subst (λ (k : Kept). IfSome o (λ file. checked file ≡ Ok k)) (sym (ap (λ (p : Part). p.kept) c.self.view_is)) c.requires.told in
    let part : record { kept = kept; whole = false; first = s.first; last = s.last } ≡ c.args.self.now = ap (λ (w : Bool). record { kept = kept; whole = w; first = s.first; last = s.last }) (sym uncut) ∙ c.self.view_is in
    let a = g.O.Out.put_so_far c.args.out.now in
    let b = g.O.Out.put_so_far c.put_front.new.out in
    let d = g.O.Out.put_so_far c.put_chunks.new.out in
    let e = g.O.Out.put_so_far c.put_hole.new.out in
    let header = header-same kept.block s.rest.block kept.blocks c.blocks-2.result s.chunks c.header_bytes-header.result c.header_bytes-header.ensures cut.block c.blocks-2.ensures in
    let front = subst (λ (xs : List ℕ). Grew a b (xs ++ hole_bytes s.first)) header c.in_ok-put_front.ensures.all in
    on_ok_weaker c.put_hole.result
    (λ k. subst (λ (p : Part). Puts o (part_bytes p) (part_len p) a e) part
    (cut-all o kept s.first s.last s.chunks s.rest told cut a b front d c.in_ok-put_chunks.ensures.put e (subst (λ (x : ℕ). Grew d e (hole_bytes (x - s.last))) c.blocks-3.ensures k)))
    c.put_hole.ensures.all

pub returns-clause-part : goal.returns-clause-part
returns-clause-part g c =
    let o = g.B.Bytes.content c.args.source.now in
    let s = c.self.inside in
    let kept = s.index.now in
    let uncut : s.whole ≡ false = ap (λ (p : Part). p.whole) c.self.view_is ∙ c.requires.cut in
    let cut = c.self.invariant.cut uncut in
    let told = subst (λ (k : Kept). IfSome o (λ file. checked file ≡ Ok k)) (sym (ap (λ (p : Part). p.kept) c.self.view_is)) c.requires.told in
    let part : record { kept = kept; whole = false; first = s.first; last = s.last } ≡ c.args.self.now = ap (λ (w : Bool). record { kept = kept; whole = w; first = s.first; last = s.last }) (sym uncut) ∙ c.self.view_is in
    let a = g.O.Out.put_so_far c.args.out.now in
    let b = g.O.Out.put_so_far c.put_front.new.out in
    let d = g.O.Out.put_so_far c.put_chunks.new.out in
    let e = g.O.Out.put_so_far c.put_hole.new.out in
    let header = header-same kept.block s.rest.block kept.blocks c.blocks-2.result s.chunks c.header_bytes-header.result c.header_bytes-header.ensures cut.block c.blocks-2.ensures in
    let front = subst (λ (xs : List ℕ). Grew a b (xs ++ hole_bytes s.first)) header c.in_ok-put_front.ensures.all in
    on-err-both c.put_hole.result
    (λ h k. subst (λ (p : Part). PutsInPart o (part_bytes p) (part_len p) a e) part
    (cut-end o kept s.first s.last s.chunks s.rest told cut a b front d c.in_ok-put_chunks.ensures.put e
    (subst (λ (x : ℕ). 0 < length (hole_bytes (x - s.last))) c.blocks-3.ensures h)
    (subst (λ (x : ℕ). GrewInPart d e (hole_bytes (x - s.last))) c.blocks-3.ensures k)))
    c.put_hole.ensures.some c.put_hole.ensures.part
