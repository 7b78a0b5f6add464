use Rattle.std.proofs.Common.{ap, sym, subst}
use Rattle.std.specs.Result.{result_ok}
use Rattle.super_meta.specs.Contents.{content}
use Rattle.super_meta.proofs.GivenLemmas.{gives}
use Rattle.dev_store.specs.SuperRepairs.{SaysTable}
use Rattle.dev_store.proofs.table_write.put_next.Goals as goal

pub returns-clause-says : goal.returns-clause-says
returns-clause-says g c =
    let x = c.spell_next.new.self in
    subst (λ t. SaysTable (content t) c.write_next.new.within.copy.items) c.spell_next.ensures.next
    (subst (λ v. SaysTable (content x.next) v.items) (sym c.write_next.ensures.copy) (ap result_ok (gives x.copy.items (content x.next) c.spell_next.ensures.spelled.copy)))
