use Rattle.std.proofs.Common.{◌∙◌, ◌+◌, refl, ap, take, drop}
use Rattle.super_meta.specs.Contents.{content}
use Rattle.dev_store.specs.Supers.{bytes_in}
use Rattle.dev_store.proofs.PartFound.{found-units, size-found, size-none, units-room}
use Rattle.dev_store.proofs.layout.SuperPart.find_units.Goals as goal

pub returns-in_default-clause-size : goal.returns-in_default-clause-size
returns-in_default-clause-size c = size-none (content c.args.within.now.table) c.args.name.now _ _ c.deref.ensures.value c.bytes.ensures.bytes c.in_default.ensures

pub returns-clause-size : goal.returns-clause-size
returns-clause-size c =
    let w = c.args.within.now in
    let p = c.index-partition.result.now in
    let f = found-units c.args.self.now (content w.table) c.args.name.now w.owners w.parts.items _ _ _ _ _ c.deref.ensures.value c.bytes.ensures.bytes c.in-Some.ensures c.index-partition.ensures c.index.ensures c.requires.mapped.lists in
    size-found (content w.table) c.args.name.now _ _ f.0 (c.bytes_in.ensures.bytes ∙ ap bytes_in (c.extents_of.ensures.extents ∙ ap (λ l. take p.count (drop p.first l)) c.deref-2.ensures.value))

pub returns-clause-units : goal.returns-clause-units
returns-clause-units c =
    let w = c.args.within.now in
    let p = c.index-partition.result.now in
    let f = found-units c.args.self.now (content w.table) c.args.name.now w.owners w.parts.items _ _ _ _ _ c.deref.ensures.value c.bytes.ensures.bytes c.in-Some.ensures c.index-partition.ensures c.index.ensures c.requires.mapped.lists in
    record {
      entry = p;
      found = f.0;
      units = f.1;
      start = ap (λ n. c.args.begin + n) c.first_unit.ensures.first;
      unit = refl;
      size = c.bytes_in.ensures.bytes ∙ ap bytes_in (c.extents_of.ensures.extents ∙ ap (λ l. take p.count (drop p.first l)) c.deref-2.ensures.value);
    }

pub returns-clause-room : goal.returns-clause-room
returns-clause-room c =
    let w = c.args.within.now in
    let p = c.index-partition.result.now in
    let f = found-units c.args.self.now (content w.table) c.args.name.now w.owners w.parts.items _ _ _ _ _ c.deref.ensures.value c.bytes.ensures.bytes c.in-Some.ensures c.index-partition.ensures c.index.ensures c.requires.mapped.lists in
    units-room c.args.self.now (content w.table) c.args.name.now _ p c.requires.bounded c.requires.few f.0 f.1 refl
    (c.bytes_in.ensures.bytes ∙ ap bytes_in (c.extents_of.ensures.extents ∙ ap (λ l. take p.count (drop p.first l)) c.deref-2.ensures.value))
