use Rattle.std.proofs.Common.{◌≡◌, take, subst, arith}
use Rattle.std.specs.Prelude.{IsTrue, ◌↔◌}
use Rattle.super_meta.specs.Contents.{content}
use Rattle.dev_store.proofs.SuperRepairLemmas.{same-tables}
use Rattle.dev_store.proofs.super_read.SuperRead.says_same.Goals as goal

pub returns : goal.returns
returns c =
    let r = c.args.self.now in
    same-tables c.laws.ensures.table_read c.laws.ensures.table_spelled (content r.table) c.args.bytes.now r.copy.items r.size c.are_same.result
    (λ i. omega (arith, c.type_inv.bytes i)) c.requires.copy c.requires.size
    (subst (λ l. IsTrue c.are_same.result ↔ (take r.size c.args.bytes.now ≡ take r.size l)) c.deref.ensures.value c.are_same.ensures)
