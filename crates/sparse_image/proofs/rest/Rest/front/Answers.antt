use Rattle.std.proofs.Common.{◌≡◌, ◌*◌, ◌-◌, ◌^◌, sym, subst, arith}
use Rattle.std.proofs.lemmas.List.Elements.{All-head}
use Rattle.sparse_image.specs.declared.chunk.Chunk.{Chunk}
use Rattle.sparse_image.specs.declared.chunk.Content.{Content}
use Rattle.sparse_image.specs.Walks.{LiesIn}
use Rattle.sparse_image.specs.Pieces.{content_behind}
use Rattle.sparse_image.proofs.PieceLemmas.{behind-lies}
use Rattle.sparse_image.proofs.rest.Rest.front.Goals as goal

pub returns-clause-lies : goal.returns-clause-lies
returns-clause-lies c =
    let rest = c.args.self.now in
    let chunk = c.in_ok-chunk.chunk.now in
    let more = c.in_ok-chunk.field-0-1.now in
    let lies = All-head (λ (x : Chunk). LiesIn (2 ^ 64 - 1) (x.blocks * rest.block) x.content) chunk more (rw c.in_ok-chunk.ensures.cases.0 at c.requires.lies) in
    let inside = rw c.in_ok-chunk.ensures.cases.0 at c.requires.inside in
    let same : content_behind (rest.skip * rest.block) chunk.content ≡ c.behind.result = sym (rw (c.from.ensures, c.from-2.ensures) at c.behind.ensures) in
    subst (λ (x : Content). LiesIn (2 ^ 64 - 1) ((chunk.blocks - rest.skip) * rest.block) x) same
    (behind-lies (2 ^ 64 - 1) rest.skip chunk.blocks rest.block chunk.content (omega (arith, inside)) lies)
