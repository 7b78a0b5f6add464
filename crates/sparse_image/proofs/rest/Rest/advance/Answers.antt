use Rattle.std.proofs.Common.{◌*◌, ◌-◌, ◌<◌, ◌^◌}
use Rattle.sparse_image.specs.declared.chunk.Chunk.{Chunk}
use Rattle.sparse_image.specs.Walks.{LiesIn}
use Rattle.sparse_image.proofs.RestLemmas.{inside-none, tail-of}
use Rattle.sparse_image.proofs.rest.Rest.advance.Goals as goal

pub returns-then-blocks-chunk-clause-rest : goal.returns-then-blocks-chunk-clause-rest
returns-then-blocks-chunk-clause-rest c =
    let rest = c.args.self.now in
    let some = tail-of (λ (chunk : Chunk). 0 < chunk.blocks) c.in-Some.chunk.now rest.chunks.now c.in-Some.more.now c.in-Some.ensures.cases.0 c.requires.rest.some in
    record {
      inside = inside-none c.in-Some.more.now some;
      some = some;
      lies = tail-of (λ (chunk : Chunk). LiesIn (2 ^ 64 - 1) (chunk.blocks * rest.block) chunk.content) c.in-Some.chunk.now rest.chunks.now c.in-Some.more.now c.in-Some.ensures.cases.0 c.requires.rest.lies;
    }
