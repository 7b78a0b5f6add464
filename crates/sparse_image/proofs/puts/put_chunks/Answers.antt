use Rattle.std.proofs.Common.{◌-◌, ◌∙◌, ℕ, List, Option, arith, sym, subst}
use Rattle.sparse_image.specs.declared.chunk.Chunk.{Chunk}
use Rattle.sparse_image.specs.Outside.{Fell}
use Rattle.sparse_image.specs.Walks.{chunk_len}
use Rattle.sparse_image.specs.Pieces.{first_blocks, behind_blocks}
use Rattle.sparse_image.specs.Cuts.{rest_chunks}
use Rattle.sparse_image.specs.Puts.{Puts, PutsInPart, padded_chunk}
use Rattle.sparse_image.proofs.GrowLemmas.{rest-step}
use Rattle.sparse_image.proofs.WriteLemmas.{PartsPut, on-err, parts-more, parts-part}
use Rattle.sparse_image.proofs.puts.put_chunks.Goals as goal

pub returns-in_err-put_chunk-clause-part : goal.returns-in_err-put_chunk-clause-part
returns-in_err-put_chunk-clause-part g c =
    let o = g.B.Bytes.content c.args.source.now in
    let block = c.args.rest.block in
    let rest = c.loop-left.rest in
    let left = c.loop-left.left in
    let blocks = c.min-blocks.result in
    let a = g.O.Out.put_so_far c.args.out.now in
    let b = g.O.Out.put_so_far c.loop-left.out in
    let d = g.O.Out.put_so_far c.put_chunk.new.out in
    let r = g.O.Out.room c.args.out.now in
    let s = g.O.Out.room c.loop-left.out in
    let chunks = first_blocks c.args.left (rest_chunks c.args.rest) in
    let chunk : Chunk = record { blocks = blocks; content = c.in-Some.chunk.content } in
    let more = first_blocks (left - blocks) (behind_blocks rest.block blocks (rest_chunks rest)) in
    let step = rest-step rest c.in-Some.chunk left blocks c.loop-left.invariant.rest (sym c.in-Some.ensures.front) c.loop-left-test.true c.min-blocks.ensures in
    let put = subst (λ (xs : List Chunk). PartsPut o block chunks xs a b r s) step c.loop-left.invariant.put in
    let own = subst (λ (x : ℕ). PutsInPart (g.B.Bytes.content c.loop-left.source) (padded_chunk x chunk) (chunk_len x chunk) b d) c.loop-left.invariant.block c.in_err-put_chunk.ensures.part in
    on-err c.from_residual.result
    (parts-part o block chunks chunk more a b r s put d (subst (λ (x : Option (List ℕ)). PutsInPart x (padded_chunk block chunk) (chunk_len block chunk) b d) c.loop-left.invariant.content own))

pub loop-left-preserved : goal.loop-left-preserved
loop-left-preserved g c =
    let o = g.B.Bytes.content c.args.source.now in
    let block = c.args.rest.block in
    let rest = c.loop-left.rest in
    let left = c.loop-left.left in
    let blocks = c.min-blocks.result in
    let a = g.O.Out.put_so_far c.args.out.now in
    let b = g.O.Out.put_so_far c.loop-left.out in
    let d = g.O.Out.put_so_far c.put_chunk.new.out in
    let r = g.O.Out.room c.args.out.now in
    let s = g.O.Out.room c.loop-left.out in
    let t = g.O.Out.room c.put_chunk.new.out in
    let chunks = first_blocks c.args.left (rest_chunks c.args.rest) in
    let chunk : Chunk = record { blocks = blocks; content = c.in-Some.chunk.content } in
    let more = first_blocks (left - blocks) (behind_blocks rest.block blocks (rest_chunks rest)) in
    let step = rest-step rest c.in-Some.chunk left blocks c.loop-left.invariant.rest (sym c.in-Some.ensures.front) c.loop-left-test.true c.min-blocks.ensures in
    let put = subst (λ (xs : List Chunk). PartsPut o block chunks xs a b r s) step c.loop-left.invariant.put in
    let own = subst (λ (x : ℕ). Puts (g.B.Bytes.content c.loop-left.source) (padded_chunk x chunk) (chunk_len x chunk) b d) c.loop-left.invariant.block c.in_ok-put_chunk.ensures.put in
    let fell = subst (λ (x : ℕ). Fell s t (chunk_len x chunk)) c.loop-left.invariant.block c.in_ok-put_chunk.ensures.room in
    let now = parts-more o block chunks chunk more a b r s put d t (subst (λ (x : Option (List ℕ)). Puts x (padded_chunk block chunk) (chunk_len block chunk) b d) c.loop-left.invariant.content own) fell in
    record {
      window = omega (arith, c.put_chunk.auto.window, c.loop-left.invariant.window);
      rest = c.advance.ensures.rest;
      block = c.advance.ensures.block ∙ c.loop-left.invariant.block;
      put = subst (λ (xs : List Chunk). PartsPut o block chunks (first_blocks (left - blocks) xs) a d r t) (sym c.advance.ensures.chunks) now;
      content = c.put_chunk.ensures.content ∙ c.loop-left.invariant.content;
      same = c.put_chunk.ensures.same ∙ c.loop-left.invariant.same;
      out_same = c.put_chunk.ensures.out_same ∙ c.loop-left.invariant.out_same;
      out_whole = c.in_ok-put_chunk.ensures.out_whole ∙ c.loop-left.invariant.out_whole;
      size = c.put_chunk.ensures.size ∙ c.loop-left.invariant.size;
      read_later = omega (arith, c.put_chunk.ensures.read_later, c.loop-left.invariant.read_later);
      out_later = omega (arith, c.put_chunk.ensures.out_later, c.loop-left.invariant.out_later);
    }
