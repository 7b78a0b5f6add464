use Rattle.std.proofs.Common.{◌≡◌, ◌∙◌, ap, sym, subst, None, option_map}
use Rattle.super_meta.specs.Contents.{content}
use Rattle.super_meta.specs.Held.{tables_in}
use Rattle.dev_store.specs.InstallTests.{is_other_super, install_tests}
use Rattle.dev_store.specs.InstallParts.{with_room, IsTaken, IsInstallPlanned}
use Rattle.dev_store.proofs.InstallPlan.{tests-few}
use Rattle.dev_store.proofs.super_read.SuperRead.plan_install.Goals as goal

pub take_tables-requires-clause-listed : goal.take_tables-requires-clause-listed
take_tables-requires-clause-listed c =
    let r = c.args.self.now in
    let k = c.args.keeps in
    let s = c.args.s.now in
    let physical = c.args.physical.now in
    let g = c.in-Some.geometry in
    let room = c.read_tables.new.room in
    let fine : install_tests k (is_other_super physical s g room) room (content r.table) ≡ None =
    ap (λ t. install_tests k (is_other_super physical s g t) t (content r.table)) (sym c.table-new.ensures) ∙ (sym c.refusal.ensures ∙ c.in_default-refusal.is) in
    tests-few k (is_other_super physical s g room) room (content r.table) fine

pub take_tables-requires-clause-space : goal.take_tables-requires-clause-space
take_tables-requires-clause-space c =
    let r = c.args.self.now in
    let k = c.args.keeps in
    let s = c.args.s.now in
    let physical = c.args.physical.now in
    let g = c.in-Some.geometry in
    let room = c.read_tables.new.room in
    let fine : install_tests k (is_other_super physical s g room) room (content r.table) ≡ None =
    ap (λ t. install_tests k (is_other_super physical s g t) t (content r.table)) (sym c.table-new.ensures) ∙ (sym c.refusal.ensures ∙ c.in_default-refusal.is) in
    let taken : IsTaken physical s k (content r.table) c.args.file.now room = record {
      geometry = g;
      image = c.in-Some.ensures.image;
      tables = c.read_tables.ensures.tables ∙ ap (option_map (λ g. tables_in g room)) c.in-Some.is;
      fine = fine;
    } in
    c.requires.space room taken

pub returns-clause-taken : goal.returns-clause-taken
returns-clause-taken c =
    let r = c.args.self.now in
    let k = c.args.keeps in
    let s = c.args.s.now in
    let physical = c.args.physical.now in
    let g = c.in-Some.geometry in
    let room = c.read_tables.new.room in
    let fine : install_tests k (is_other_super physical s g room) room (content r.table) ≡ None =
    ap (λ t. install_tests k (is_other_super physical s g t) t (content r.table)) (sym c.table-new.ensures) ∙ (sym c.refusal.ensures ∙ c.in_default-refusal.is) in
    let taken : IsTaken physical s k (content r.table) c.args.file.now room = record {
      geometry = g;
      image = c.in-Some.ensures.image;
      tables = c.read_tables.ensures.tables ∙ ap (option_map (λ g. tables_in g room)) c.in-Some.is;
      fine = fine;
    } in
    subst (IsTaken physical s k (content r.table) c.args.file.now) (sym c.take_tables.ensures.planned.room) taken

pub returns-clause-planned : goal.returns-clause-planned
returns-clause-planned c =
    let planned = c.take_tables.ensures.planned in
    subst (λ room. IsInstallPlanned c.args.s.now c.args.keeps (with_room c.args.self.now room) c.take_tables.new.self) (sym planned.room) planned
