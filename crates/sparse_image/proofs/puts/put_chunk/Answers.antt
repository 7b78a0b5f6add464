use Rattle.std.proofs.Common.{◌≡◌, ◌*◌, ◌+◌, ℕ, List, arith, refl, ap, ◌∙◌, subst}
use Rattle.std.proofs.lemmas.Result.{on_ok_weaker, on_err_weaker}
use Rattle.sparse_image.specs.Outside.{Grew, GrewInPart}
use Rattle.sparse_image.specs.Pieces.{head_bytes, kind_of}
use Rattle.sparse_image.specs.Walks.{content_len}
use Rattle.sparse_image.specs.Puts.{padded_data}
use Rattle.sparse_image.proofs.WriteLemmas.{on-err, head-puts, head-part, head-front}
use Rattle.sparse_image.proofs.puts.put_chunk.Goals as goal

head-same : (kind k blocks size s : ℕ) (head : List ℕ) → head ≡ head_bytes k blocks s → k ≡ kind → s ≡ size → head ≡ head_bytes kind blocks size
head-same kind k blocks size s head h e f = h ∙ ap (λ (x : ℕ). head_bytes x blocks s) e ∙ ap (λ (x : ℕ). head_bytes kind blocks x) f

pub returns-in_err-put-clause-part : goal.returns-in_err-put-clause-part
returns-in_err-put-clause-part g c =
    let o = g.B.Bytes.content c.args.source.now in
    let n = c.args.blocks * c.args.block in
    let size = 12 + content_len n c.args.content in
    let before = g.O.Out.put_so_far c.args.out.now in
    let now = g.O.Out.put_so_far c.put.new.out in
    let head = head_bytes (kind_of c.args.content) c.args.blocks size in
    let same = head-same (kind_of c.args.content) c.kind.result c.args.blocks size c.len-size.result c.head_bytes.result c.head_bytes.ensures c.kind.ensures c.len-size.ensures in
    on-err c.from_residual.result
    (head-front o head (padded_data n c.args.content) 12 (content_len n c.args.content) before now refl (omega arith) (subst (λ (xs : List ℕ). GrewInPart before now xs) same c.in_err-put.ensures.part))

pub returns-clause-put : goal.returns-clause-put
returns-clause-put g c =
    let o = g.B.Bytes.content c.args.source.now in
    let n = c.args.blocks * c.args.block in
    let size = 12 + content_len n c.args.content in
    let before = g.O.Out.put_so_far c.args.out.now in
    let mid = g.O.Out.put_so_far c.put.new.out in
    let head = head_bytes (kind_of c.args.content) c.args.blocks size in
    let same = head-same (kind_of c.args.content) c.kind.result c.args.blocks size c.len-size.result c.head_bytes.result c.head_bytes.ensures c.kind.ensures c.len-size.ensures in
    on_ok_weaker c.put_data.result
    (head-puts o head (padded_data n c.args.content) 12 (content_len n c.args.content) before mid refl o (g.O.Out.put_so_far c.put_data.new.out) refl (subst (λ (xs : List ℕ). Grew before mid xs) same c.in_ok-put.ensures.all))
    (rw (c.from.ensures, c.from-2.ensures) at c.put_data.ensures.put)

pub returns-clause-part : goal.returns-clause-part
returns-clause-part g c =
    let o = g.B.Bytes.content c.args.source.now in
    let n = c.args.blocks * c.args.block in
    let size = 12 + content_len n c.args.content in
    let before = g.O.Out.put_so_far c.args.out.now in
    let mid = g.O.Out.put_so_far c.put.new.out in
    let head = head_bytes (kind_of c.args.content) c.args.blocks size in
    let same = head-same (kind_of c.args.content) c.kind.result c.args.blocks size c.len-size.result c.head_bytes.result c.head_bytes.ensures c.kind.ensures c.len-size.ensures in
    on_err_weaker c.put_data.result
    (head-part o head (padded_data n c.args.content) 12 (content_len n c.args.content) before mid refl o (g.O.Out.put_so_far c.put_data.new.out) refl (subst (λ (xs : List ℕ). Grew before mid xs) same c.in_ok-put.ensures.all))
    (rw (c.from.ensures, c.from-2.ensures) at c.put_data.ensures.part)
