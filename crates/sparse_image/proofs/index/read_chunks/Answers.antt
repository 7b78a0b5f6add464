use Rattle.std.proofs.Common.{◌≡◌, suc, ◌+◌, ◌-◌, [], ◌++◌, length-append, drop, refl, ◌∙◌, arith, Err}
use Rattle.std.proofs.lemmas.Result.{err_from_is_err_and}
use Rattle.sparse_image.specs.declared.index.CheckError.TheVariants.{Bad}
use Rattle.sparse_image.specs.Walks.{walked, kept}
use Rattle.sparse_image.proofs.CheckLemmas.{told-next, told-stops, most-next, well-next, kept-short}
use Rattle.sparse_image.proofs.index.read_chunks.Goals as goal

pub returns-in_err-chunk-clause-flaw : goal.returns-in_err-chunk-clause-flaw
returns-in_err-chunk-clause-flaw g c flaw h =
    let header = c.args.header.now in
    let p = err_from_is_err_and c.from_residual-in_err-chunk.result c.from_residual-in_err-chunk.ensures.1 in
    let e : c.next_chunk.result ≡ Err (Bad flaw) = cc (p.1, p.2, h, c.in_err-chunk.was) in
    let n : header.chunks - c.loop.counter ≡ suc (header.chunks - (c.loop.counter + 1)) = omega arith in
    told-stops (g.B.Bytes.content c.args.source.now) (λ file. walked header.chunks header.block header.blocks 28 (drop 28 file)) (header.chunks - c.loop.counter) (header.chunks - (c.loop.counter + 1)) header.block c.loop.blocks c.loop.place c.loop.chunks.items flaw n
    (rw c.loop.invariant.content at (c.next_chunk.ensures.flaw flaw e)) c.loop.invariant.told

pub loop-preserved : goal.loop-preserved
loop-preserved g c =
    let header = c.args.header.now in
    let chunk = c.in_ok-chunk.chunk in
    let n : header.chunks - c.loop.counter ≡ suc (header.chunks - (c.loop.counter + 1)) = omega arith in
    let k : c.keep.new.chunks.items ≡ c.loop.chunks.items ++ kept chunk [] = c.in_ok-keep.ensures.kept in
    record {
      within = omega (arith, c.len-place.ensures, c.in_ok-chunk.ensures.room);
      most = rw c.len-place.ensures (most-next header.block header.blocks c.loop.blocks (c.loop.blocks - chunk.blocks) c.loop.place c.loop.counter chunk c.loop.invariant.due c.in_ok-chunk.ensures.due refl c.loop.invariant.most);
      due = omega arith;
      few = rw k (omega (arith, length-append c.loop.chunks.items (kept chunk []), kept-short chunk, c.loop.invariant.few));
      well = rw k (well-next header.block c.args.len header.blocks c.loop.blocks (c.loop.blocks - chunk.blocks) c.loop.chunks.items chunk c.loop.invariant.well c.in_ok-chunk.ensures.lies c.loop.invariant.due c.in_ok-chunk.ensures.due refl);
      told = rw (k, c.len-place.ensures) (told-next (g.B.Bytes.content c.args.source.now) (λ file. walked header.chunks header.block header.blocks 28 (drop 28 file)) (header.chunks - c.loop.counter) (header.chunks - (c.loop.counter + 1)) header.block c.loop.blocks c.loop.place c.loop.chunks.items chunk n
          (rw c.loop.invariant.content at c.in_ok-chunk.ensures.chunk) c.loop.invariant.told);
      content = c.next_chunk.ensures.content ∙ c.loop.invariant.content;
      same = c.next_chunk.ensures.same ∙ c.loop.invariant.same;
      size = c.next_chunk.ensures.size ∙ c.loop.invariant.size;
      later = omega (arith, c.next_chunk.ensures.later, c.loop.invariant.later);
    }
