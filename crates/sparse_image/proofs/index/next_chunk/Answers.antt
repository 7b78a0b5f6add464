use Rattle.std.proofs.Common.{◌≡◌, ℕ, length, length-take, refl, sym, ap, ◌∙◌, arith, Ok, Err}
use Rattle.sparse_image.specs.declared.errors.SparseError.{SparseError}
use Rattle.sparse_image.specs.declared.index.CheckError.{CheckError}
use Rattle.sparse_image.specs.declared.index.CheckError.TheVariants.{Bad}
use Rattle.sparse_image.specs.declared.chunk.Chunk.{Chunk}
use Rattle.std.specs.Prelude.{Result}
use Rattle.sparse_image.proofs.CheckLemmas.{front-read}
use Rattle.sparse_image.proofs.index.next_chunk.Goals as goal

pub returns-in-Ok-front_chunk-clause-chunk : goal.returns-in-Ok-front_chunk-clause-chunk
returns-in-Ok-front_chunk-clause-chunk g c =
    front-read (g.B.Bytes.content c.args.source.now) c.args.len c.args.block c.args.blocks c.args.place (length c.read_exact.new.buf) c.read_exact.new.buf (Ok c.in-Ok-front_chunk.chunk) c.requires.told (omega (arith, length-take {A = ℕ})) refl c.in-Ok.ensures.read c.in-Ok-front_chunk.ensures.chunk

same-flaw : (a b : SparseError) → ◌≡◌ {A = Result Chunk CheckError} (Err (Bad a)) (Err (Bad b)) → a ≡ b
same-flaw a b h = cc

pub returns-in-Err-clause-flaw : goal.returns-in-Err-clause-flaw
returns-in-Err-clause-flaw g c flaw h =
    let e : ◌≡◌ {A = Result Chunk SparseError} (Err c.in-Err.flaw) (Err flaw) = ap (λ (x : SparseError). Err x) (same-flaw c.in-Err.flaw flaw h) in
    front-read (g.B.Bytes.content c.args.source.now) c.args.len c.args.block c.args.blocks c.args.place (length c.read_exact.new.buf) c.read_exact.new.buf (Err flaw) c.requires.told (omega (arith, length-take {A = ℕ})) refl c.in-Ok.ensures.read (sym e ∙ c.in-Err.ensures.chunk)
