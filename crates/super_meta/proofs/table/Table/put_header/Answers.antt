use Rattle.std.proofs.Common.{◌≡◌, ◌-◌, ◌++◌, length, take, sym, ap, ◌∙◌, arith, append_assoc}
use Rattle.sha2.specs.Sha256.{sha256}
use Rattle.sha2.proofs.Facts256.{length-sha256}
use Rattle.super_meta.specs.HeaderText.{header_size}
use Rattle.fb_frame.specs.Bytes.{zeros}
use Rattle.super_meta.specs.Contents.{content}
use Rattle.super_meta.specs.TableBytes.{header_front, header_core, flags_bytes}
use Rattle.super_meta.proofs.WriteLemmas.{head-sealed, length-header_front, length-header_core, over}
use Rattle.super_meta.proofs.table.Table.put_header.Goals as goal

pub returns-clause-header : goal.returns-clause-header
returns-clause-header c =
    let minor = c.args.self.now.minor in
    let t = content c.args.self.now in
    let front = header_front minor in
    let core = header_core t c.args.lists.now in
    let flags = flags_bytes t in
    let n1 = ap length c.header_front.ensures ∙ length-header_front minor in
    let n3 = ap length c.header_core.ensures ∙ length-header_core t c.args.lists.now c.told-lists in
    let end : c.put_flags-end.result ≡ header_size minor = omega (arith, c.put-at.ensures.at, c.put_zeros-at.ensures.at, c.put-at-2.ensures.at, c.put_flags-end.ensures.at, n1, n3) in
    let w1 = c.put-at.ensures.front ∙ c.header_front.ensures in
    let w2 = c.put_zeros-at.ensures.front ∙ ap (λ x. x ++ zeros 32) w1 in
    let w3 = c.put-at-2.ensures.front ∙ (ap (λ x. x ++ c.header_core.result) w2 ∙ ap (λ x. (front ++ zeros 32) ++ x) c.header_core.ensures) in
    let w4 = c.put_flags-end.ensures.front ∙ (ap (λ x. x ++ flags) w3 ∙ append_assoc (front ++ zeros 32) core flags) in
    let w = sym (ap (λ n. take n c.put_flags-end.new.buf) end) ∙ w4 in
    let s = c.digest-seal.ensures ∙ ap (λ n. sha256 (take n c.put_flags-end.new.buf)) end in
    let n5 : c.put.result ≡ 44 = c.put.ensures.at ∙ omega (arith, ap length s, length-sha256 (take (header_size minor) c.put_flags-end.new.buf)) in
    let b = sym (ap (λ n. take n c.put.new.buf) n5) ∙ c.put.ensures.front in
    let d = c.put.ensures.rest 44 (omega (arith, n5)) in
    head-sealed (header_size minor) (header_size minor - 44) c.put_flags-end.new.buf c.put.new.buf front (core ++ flags) c.digest-seal.result (length-header_front minor) (over minor) w s b d
