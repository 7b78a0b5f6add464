use Rattle.std.proofs.Common.{◌∙◌, refl, sym, ap, subst, arith, Ok}
use Rattle.sparse_image.specs.Walks.{Kept, IsChecked}
use Rattle.host_driver.specs.PutPieces.{ArePart, IsUnread}
use Rattle.host_driver.specs.Puts.{image_cost}
use Rattle.host_driver.proofs.PutLemmas.{Put-begun, Put-more, Put-all, Put-breaks, Piece-kept}
use Rattle.host_driver.proofs.put.put.Goals as goal

pub loop-piece-init : goal.loop-piece-init
loop-piece-init g c = record {
  put = Put-begun _ c.pieces-pieces.result _ (image_cost c.args.index.now) c.pieces-pieces.ensures.begin c.pieces-pieces.ensures.most c.requires.serving c.requires.fits;
  same = refl;
  shown_later = omega arith;
  content = refl;
  size = refl;
  source_same = refl;
  read_later = omega arith;
}

pub put_piece-requires-clause-len : goal.put_piece-requires-clause-len
put_piece-requires-clause-len g c =
    let l = c.loop-piece.invariant in
    let kept = Piece-kept _ c.loop-piece.pieces c.next.new.self c.in-Some.piece _ _ l.put c.in-Some.ensures.next in
    l.size ∙ (c.requires.len ∙ sym (ap (λ (k : Kept). k.source_len) kept))

pub put_piece-requires-clause-told : goal.put_piece-requires-clause-told
put_piece-requires-clause-told g c =
    let l = c.loop-piece.invariant in
    let kept = Piece-kept _ c.loop-piece.pieces c.next.new.self c.in-Some.piece _ _ l.put c.in-Some.ensures.next in
    subst (λ t. IsChecked t (Ok c.in-Some.piece.kept)) (sym l.content)
    (subst (λ (k : Kept). IsChecked (g.B.Bytes.content c.args.source.now) (Ok k)) (sym kept) c.requires.told)

pub loop-piece-preserved : goal.loop-piece-preserved
loop-piece-preserved g c =
    let l = c.loop-piece.invariant in
    let n = c.in-Some.ensures in
    let e = c.in-Ok.ensures in
    record {
      put = Put-more _ c.loop-piece.pieces c.next.new.self c.in-Some.piece _ _ _ _ c.requires.told c.requires.serving l.put n.next n.more n.within n.most refl
          (λ bytes a. subst (λ t. ArePart t c.in-Some.piece bytes) l.content a) e.put;
      same = e.same ∙ l.same;
      shown_later = (let a = l.shown_later in let b = e.shown_later in omega (arith, a, b));
      content = e.content ∙ l.content;
      size = e.size ∙ l.size;
      source_same = e.source_same ∙ l.source_same;
      read_later = (let a = l.read_later in let b = e.read_later in omega (arith, a, b));
    }

pub returns-in-Err-clause-breaks : goal.returns-in-Err-clause-breaks
returns-in-Err-clause-breaks g c =
    let l = c.loop-piece.invariant in
    let n = c.in-Some.ensures in
    let e = c.in-Err.ensures in
    let faults = g.B.Bytes.faults in
    Put-breaks _ _ c.loop-piece.pieces c.next.new.self c.in-Some.piece _ _ _ _ c.in-Err.stop.1 c.requires.told c.requires.serving l.put n.next n.more n.within n.most refl
    (λ bytes a. subst (λ t. ArePart t c.in-Some.piece bytes) l.content a)
    (λ x (f : IsUnread c.args.file.now (faults c.loop-piece.source) (faults c.put_piece.new.source) x). (f.0, (let r = f.1 in let a = l.read_later in omega (arith, r, a)))) e.fails

pub returns-clause-put : goal.returns-clause-put
returns-clause-put g c =
    let l = c.loop-piece.invariant in
    let some = c.len-len.ensures in
    Put-all _ c.loop-piece.pieces c.next.new.self _ _ c.requires.told (let s = some.some in let n = some.len in omega (arith, s, n)) c.requires.serving l.put c.in_default.ensures.next
