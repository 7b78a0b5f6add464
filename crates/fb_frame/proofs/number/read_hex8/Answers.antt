use Rattle.std.proofs.Common.{◌≡◌, ◌∙◌, sym, rules}
use Rattle.std.proofs.lemmas.Slice.Eq.{bytes_eq-Decides}
use Rattle.fb_frame.specs.Numbers.{hex8}
use Rattle.fb_frame.proofs.HexBytes.{read-same, read-none, read-other}
use Rattle.fb_frame.proofs.number.read_hex8.Goals as goal

pub returns-in_err-ok : goal.returns-in_err-ok
returns-in_err-ok c =
    let none = read-none c.args.bytes.now _ _ c.decode_to_slice.ensures.value c.in_err-ok.ensures.variant in
    c.from_residual.ensures ∙ none

pub returns-then-eq : goal.returns-then-eq
returns-then-eq c =
    let n = c.from_be_bytes-n.result in
    let text = c.args.bytes.now in
    let same : c.as_slice.result.now ≡ text = (bytes_eq-Decides c.as_slice.result.now text).0 (sym c.if-eq.ensures) in
    let spelled : c.as_slice.result.now ≡ hex8 n = c.as_slice.ensures ∙ c.write_hex8.ensures in
    read-same text n (search rules) (sym same ∙ spelled)

pub returns-else-eq : goal.returns-else-eq
returns-else-eq c =
    let n = c.from_be_bytes-n.result in
    let text = c.args.bytes.now in
    let spelled : c.as_slice.result.now ≡ hex8 n = c.as_slice.ensures ∙ c.write_hex8.ensures in
    read-other text _ _ n c.decode_to_slice.ensures.value c.from_be_bytes-n.ensures (λ e.
    let yes = (bytes_eq-Decides c.as_slice.result.now text).1 (spelled ∙ sym e) in
    let no = sym c.eq.ensures ∙ c.if-eq.false in
    let clash = sym yes ∙ no in absurd cc)
