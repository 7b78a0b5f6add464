use Rattle.std.proofs.Common.{◌≡◌, ℕ, length-take, sym, ap, ◌∙◌, arith, Ok, Err}
use Rattle.std.specs.Prelude.{Result}
use Rattle.sparse_image.specs.declared.errors.SparseError.{SparseError}
use Rattle.sparse_image.specs.declared.index.CheckError.{CheckError}
use Rattle.sparse_image.specs.declared.index.CheckError.TheVariants.{Bad}
use Rattle.sparse_image.specs.declared.walk.Header.{Header}
use Rattle.sparse_image.proofs.CheckLemmas.{header-read}
use Rattle.sparse_image.proofs.index.read_header.Goals as goal

pub returns-in-Ok-read-clause-header : goal.returns-in-Ok-read-clause-header
returns-in-Ok-read-clause-header g c =
    header-read (g.B.Bytes.content c.args.source.now) c.args.len c.read_exact.new.buf (Ok c.in-Ok-read.header) c.requires.told (omega (arith, length-take {A = ℕ})) c.in-Ok.ensures.read c.in-Ok-read.ensures.header

same-flaw : (a b : SparseError) → ◌≡◌ {A = Result Header CheckError} (Err (Bad a)) (Err (Bad b)) → a ≡ b
same-flaw a b h = cc

pub returns-in-Err-clause-flaw : goal.returns-in-Err-clause-flaw
returns-in-Err-clause-flaw g c flaw h =
    let e : ◌≡◌ {A = Result Header SparseError} (Err c.in-Err.flaw) (Err flaw) = ap (λ (x : SparseError). Err x) (same-flaw c.in-Err.flaw flaw h) in
    header-read (g.B.Bytes.content c.args.source.now) c.args.len c.read_exact.new.buf (Err flaw) c.requires.told (omega (arith, length-take {A = ℕ})) c.in-Ok.ensures.read (sym e ∙ c.in-Err.ensures.header)
