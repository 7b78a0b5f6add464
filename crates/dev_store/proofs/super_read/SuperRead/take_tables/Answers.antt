use Rattle.std.proofs.Common.{◌∙◌, ap, sym, subst, length}
use Rattle.std.specs.Prelude.{nat_lt}
use Rattle.std.specs.List.{list_all}
use Rattle.unit_alloc.specs.Owning.{Owning}
use Rattle.super_meta.specs.Contents.{content}
use Rattle.dev_store.specs.Building.{headed}
use Rattle.dev_store.specs.Installing.{merged_head, installed_plan, HasSpace}
use Rattle.dev_store.specs.InstallParts.{chosen_parts, released, IsFilled, AreChosen}
use Rattle.dev_store.proofs.InstallParts.{released-many}
use Rattle.dev_store.proofs.InstallPlan.{chosen-small, parts-there}
use Rattle.dev_store.proofs.super_read.SuperRead.take_tables.Goals as goal

pub fill_parts-requires-clause-small : goal.fill_parts-requires-clause-small
fill_parts-requires-clause-small c =
    let r = c.args.self.now in
    ap (list_all (λ part. nat_lt part 129)) c.choose_parts.ensures.parts ∙ chosen-small c.args.keeps (content c.table.result.now) (content r.table) r.parts.items c.requires.mapped.there

pub build_installed-requires-clause-there : goal.build_installed-requires-clause-there
build_installed-requires-clause-there c =
    let r = c.args.self.now in
    let o = c.release_others.new.owners in
    let many = ap (λ (o : Owning). length o.parts) c.release_others.ensures.released
    ∙ (released-many c.args.keeps (content r.table).partitions c.deref.result.now r.owners ∙ c.requires.mapped.many) in
    ap (list_all (λ part. nat_lt part (length o.parts))) c.deref-2.ensures.value ∙ parts-there (length o.parts) c.fill_parts.new.parts.items many c.fill_parts.ensures.filled.there

pub build_installed-requires-clause-space : goal.build_installed-requires-clause-space
build_installed-requires-clause-space c =
    let r = c.args.self.now in
    let k = c.args.keeps in
    let s = c.args.s.now in
    let own = content r.table in
    let o = c.release_others.new.owners in
    let parts = c.fill_parts.new.parts.items in
    let chosen : AreChosen k r.room r o parts = record {
      owners = c.release_others.ensures.released ∙ ap (λ l. released k own.partitions l r.owners) c.deref.ensures.value;
      one = c.release_others.ensures.one;
      filled = subst (λ l. IsFilled l parts) (c.choose_parts.ensures.parts ∙ ap (λ t. chosen_parts k t own r.parts.items) c.table.ensures) c.fill_parts.ensures.filled;
    } in
    subst (λ l. HasSpace s o (headed s (merged_head (content c.table-2.result.now) own)) (installed_plan k (content c.table-2.result.now) own l)) (sym c.deref-2.ensures.value)
    (subst (λ t. HasSpace s o (headed s (merged_head t own)) (installed_plan k t own parts)) (sym c.table-2.ensures) (c.requires.space o parts chosen))
