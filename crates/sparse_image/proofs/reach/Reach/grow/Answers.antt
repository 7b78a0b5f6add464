use Rattle.std.proofs.Common.{◌≡◌, ◌-◌, [], ◌∷◌, ◌++◌, sym, ap, ◌∙◌, subst, Some}
use Rattle.sparse_image.specs.declared.reach.Reach.{Reach}
use Rattle.sparse_image.specs.Walks.{chunk_len}
use Rattle.sparse_image.specs.Cuts.{first_chunk, rest_chunks}
use Rattle.sparse_image.specs.Reaches.{GrowsBy, Breaks}
use Rattle.sparse_image.proofs.GrowLemmas.{first-cons, grows-next, grown-all, grown-part}
use Rattle.sparse_image.proofs.reach.Reach.grow.Goals as goal

pub returns-then-not-take_whole-clause-grown : goal.returns-then-not-take_whole-clause-grown
returns-then-not-take_whole-clause-grown c kept b =
    let before = c.args.self.now in
    let mid = c.take_whole.new.self in
    let now = c.take_part.new.self in
    let chunk = c.in-Some.chunk in
    let stay = c.take_whole.ensures.stays c.if-not-take_whole.true in
    let done = c.loop-chunk.invariant.whole.0 in
    let g = subst (λ (r : Reach). GrowsBy before done r) (sym stay) c.loop-chunk.invariant.whole.1 in
    let breaks = subst (λ (r : Reach). Breaks r chunk.blocks (chunk_len r.rest.block chunk)) (sym stay) (c.take_whole.ensures.breaks c.if-not-take_whole.true) in
    let front : first_chunk (rest_chunks mid.rest) ≡ Some chunk = ap (λ (r : Reach). first_chunk (rest_chunks r.rest)) stay ∙ sym c.in-Some.ensures.front in
    let f = first-cons (rest_chunks mid.rest) chunk front in
    grown-part kept before mid done b g now chunk f.0 (now.at - mid.at) c.take_whole.ensures.reach f.1 breaks c.take_part.ensures.taken c.take_part.ensures.reach

pub loop-chunk-preserved : goal.loop-chunk-preserved
loop-chunk-preserved c =
    let mid = c.loop-chunk.self in
    let done = c.loop-chunk.invariant.whole.0 in
    record {
      reach = c.take_whole.ensures.reach;
      whole = (
        done ++ (c.in-Some.chunk ∷ []),
        grows-next c.args.self.now mid c.take_whole.new.self done c.in-Some.chunk c.loop-chunk.invariant.whole.1 c.loop-chunk.invariant.reach.rest (sym c.in-Some.ensures.front) (c.take_whole.ensures.taken c.if-not-take_whole.false),
      );
    }

pub returns-clause-grown : goal.returns-clause-grown
returns-clause-grown c kept b =
    let done = c.loop-chunk.invariant.whole.0 in
    grown-all kept c.args.self.now c.loop-chunk.self done b c.loop-chunk.invariant.whole.1 c.loop-chunk.invariant.reach (sym c.in_default.ensures.front)
