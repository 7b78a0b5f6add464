use Rattle.std.proofs.Common.{◌≡◌, length, rules, arith}
use Rattle.fb_frame.proofs.HeadBytes.{head-bytes}
use Rattle.fb_frame.proofs.framing.head_length.Goals as goal

pub returns-clause-head : goal.returns-clause-head
returns-clause-head c =
    let len : length c.args.bytes.now ≡ 8 = search rules in
    head-bytes c.args.bytes.now c.from_be_bytes.result len (λ i. omega (arith, c.fits-bytes i)) c.from_be_bytes.ensures
