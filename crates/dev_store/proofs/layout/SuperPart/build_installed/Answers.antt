use Rattle.std.proofs.Common.{◌∙◌, sym, ap, subst, drop, filter, length}
use Rattle.super_meta.specs.Contents.{Content, content}
use Rattle.dev_store.specs.Building.{built}
use Rattle.dev_store.specs.Installing.{listed_as, left_as, is_left, planned_by, HasSpace}
use Rattle.dev_store.proofs.BuildInstall.{space-front, space-built, head-is, installed-built}
use Rattle.dev_store.proofs.layout.SuperPart.build_installed.Goals as goal

pub add_listed-requires-clause-space : goal.add_listed-requires-clause-space
add_listed-requires-clause-space c =
    let new = content c.args.new.now in
    let old = content c.args.table.now in
    let first = planned_by (listed_as c.args.keeps old) new.partitions c.args.parts.now in
    let head = head-is c.args.self.now old new (content c.begin_table.new.next) (content c.add_groups.new.next) c.max.result c.deref.result.now c.begin_table.ensures.table c.add_groups.ensures.table c.deref.ensures.value c.max.ensures in
    subst (λ (t : Content). HasSpace c.args.self.now c.args.owners.now t first) (sym head) (space-front c.args.self.now c.args.owners.now _ first _ c.requires.space)

pub add_left-requires-clause-space : goal.add_left-requires-clause-space
add_left-requires-clause-space c =
    let new = content c.args.new.now in
    let old = content c.args.table.now in
    let s = c.args.self.now in
    let o = c.args.owners.now in
    let first = planned_by (listed_as c.args.keeps old) new.partitions c.args.parts.now in
    let second = planned_by (left_as new old) (filter (is_left c.args.keeps new) old.partitions) (drop (length new.partitions) c.args.parts.now) in
    let head = head-is s old new (content c.begin_table.new.next) (content c.add_groups.new.next) c.max.result c.deref.result.now c.begin_table.ensures.table c.add_groups.ensures.table c.deref.ensures.value c.max.ensures in
    subst (λ (t : Content). HasSpace s o t second) (sym (c.add_listed.ensures.table ∙ ap (λ t. built s o t first) head)) (space-built s o _ first second c.requires.space)

pub returns-clause-table : goal.returns-clause-table
returns-clause-table c =
    let new = content c.args.new.now in
    let old = content c.args.table.now in
    let s = c.args.self.now in
    let o = c.args.owners.now in
    let first = planned_by (listed_as c.args.keeps old) new.partitions c.args.parts.now in
    let second = planned_by (left_as new old) (filter (is_left c.args.keeps new) old.partitions) (drop (length new.partitions) c.args.parts.now) in
    let head = head-is s old new (content c.begin_table.new.next) (content c.add_groups.new.next) c.max.result c.deref.result.now c.begin_table.ensures.table c.add_groups.ensures.table c.deref.ensures.value c.max.ensures in
    installed-built s o _ (content c.add_groups.new.next) (content c.add_listed.new.next) (content c.add_left.new.next) first second head c.add_listed.ensures.table c.add_left.ensures.table
