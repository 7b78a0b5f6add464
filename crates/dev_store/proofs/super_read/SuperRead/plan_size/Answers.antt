use Rattle.std.proofs.Common.{◌∙◌, refl, ap, sym, subst, ◌+◌, ◌≤◌, length, take, drop, arith}
use Rattle.unit_alloc.specs.Owning.{OneOwner, units_of, free_units}
use Rattle.super_meta.specs.Contents.{content}
use Rattle.dev_store.specs.LayoutLines.{unit_count}
use Rattle.dev_store.specs.Supers.{bytes_in}
use Rattle.dev_store.specs.Building.{built, headed, units_planned}
use Rattle.dev_store.specs.TableCalls.{plans}
use Rattle.dev_store.specs.Growing.{resized_at}
use Rattle.dev_store.proofs.CallUnits.{map-many}
use Rattle.dev_store.proofs.RegrowBuilt.{part-is, part-there, owners-are, parts-many, parts-there, entry-is, plan-is}
use Rattle.dev_store.proofs.super_read.SuperRead.plan_size.Goals as goal

pub regrow-requires-clause-part : goal.regrow-requires-clause-part
regrow-requires-clause-part c =
    let r = c.args.self.now in
    let s = c.args.s.now in
    let i = c.args.place in
    let part = c.index-part.result.now in
    part-there s r i part c.requires.mapped c.requires.there c.index-part.ensures

pub regrow-requires-clause-room : goal.regrow-requires-clause-room
regrow-requires-clause-room c =
    let r = c.args.self.now in
    let s = c.args.s.now in
    let i = c.args.place in
    let part = c.index-part.result.now in
    subst (λ k. c.args.size.units ≤ length (units_of r.owners k) + length (free_units r.owners)) (sym (part-is s r i part c.requires.mapped c.requires.there c.index-part.ensures)) c.requires.room

pub build_next-requires-clause-many : goal.build_next-requires-clause-many
build_next-requires-clause-many c =
    let r = c.args.self.now in
    let s = c.args.s.now in
    let i = c.args.place in
    let part = c.index-part.result.now in
    ap length c.deref-2.ensures.value ∙ map-many s (content r.table) r.owners r.parts.items c.requires.mapped

pub build_next-requires-clause-within : goal.build_next-requires-clause-within
build_next-requires-clause-within c =
    let r = c.args.self.now in
    let s = c.args.s.now in
    let i = c.args.place in
    let part = c.index-part.result.now in
    let many = ap length c.deref-2.ensures.value ∙ map-many s (content r.table) r.owners r.parts.items c.requires.mapped in
    omega (arith, many, c.requires.there)

pub build_next-requires-clause-there : goal.build_next-requires-clause-there
build_next-requires-clause-there c =
    let r = c.args.self.now in
    let s = c.args.s.now in
    let i = c.args.place in
    let part = c.index-part.result.now in
    parts-there s r i part c.requires.mapped c.requires.there c.index-part.ensures c.regrow.new.owners c.args.size.units c.regrow.ensures.regrown c.deref-2.result.now c.deref-2.ensures.value

pub build_next-requires-clause-part : goal.build_next-requires-clause-part
build_next-requires-clause-part c =
    let r = c.args.self.now in
    let s = c.args.s.now in
    let i = c.args.place in
    let part = c.index-part.result.now in
    let own = ap (λ q. q.part) (c.resized_as.ensures (content r.table)) in
    let inside = part-there s r i part c.requires.mapped c.requires.there c.index-part.ensures in
    let many = parts-many s r i part c.requires.mapped c.requires.there c.index-part.ensures c.regrow.new.owners c.args.size.units c.regrow.ensures.regrown in
    omega (arith, own, inside, many, c.requires.mapped.many)

pub build_next-requires-clause-few : goal.build_next-requires-clause-few
build_next-requires-clause-few c =
    let r = c.args.self.now in
    let s = c.args.s.now in
    let i = c.args.place in
    let part = c.index-part.result.now in
    let plan = plan-is s r i part c.requires.mapped c.requires.there c.index-part.ensures c.index.result.now c.index.ensures c.args.size.bytes c.resized_as.result c.deref-2.result.now (c.resized_as.ensures (content r.table)) c.deref-2.ensures.value in
    let owners = owners-are s r i part c.requires.mapped c.requires.there c.index-part.ensures c.regrow.new.owners c.args.size.units c.regrow.ensures.regrown in
    let fits = c.requires.fits (subst OneOwner owners c.regrow.ensures.one) in
    subst (λ l. length l ≤ 128) (sym plan) fits.few

pub build_next-requires-clause-units : goal.build_next-requires-clause-units
build_next-requires-clause-units c =
    let r = c.args.self.now in
    let s = c.args.s.now in
    let i = c.args.place in
    let part = c.index-part.result.now in
    let plan = plan-is s r i part c.requires.mapped c.requires.there c.index-part.ensures c.index.result.now c.index.ensures c.args.size.bytes c.resized_as.result c.deref-2.result.now (c.resized_as.ensures (content r.table)) c.deref-2.ensures.value in
    let owners = owners-are s r i part c.requires.mapped c.requires.there c.index-part.ensures c.regrow.new.owners c.args.size.units c.regrow.ensures.regrown in
    let fits = c.requires.fits (subst OneOwner owners c.regrow.ensures.one) in
    subst (λ l. units_planned c.regrow.new.owners l ≤ unit_count s) (sym plan)
    (subst (λ o. units_planned o (plans r i (resized_at r i c.args.size.bytes)) ≤ unit_count s) (sym owners) fits.units)

pub returns-clause-planned : goal.returns-clause-planned
returns-clause-planned c =
    let r = c.args.self.now in
    let s = c.args.s.now in
    let i = c.args.place in
    let part = c.index-part.result.now in
    let plan = plan-is s r i part c.requires.mapped c.requires.there c.index-part.ensures c.index.result.now c.index.ensures c.args.size.bytes c.resized_as.result c.deref-2.result.now (c.resized_as.ensures (content r.table)) c.deref-2.ensures.value in
    let owners = owners-are s r i part c.requires.mapped c.requires.there c.index-part.ensures c.regrow.new.owners c.args.size.units c.regrow.ensures.regrown in
    record {
      table = refl;
      copy = refl;
      owners = owners;
      one = c.regrow.ensures.one;
      rooms = record { table = c.requires.rooms.table; next = c.build_next.ensures.room; parts = c.requires.rooms.parts };
      next = c.build_next.ensures.table
          ∙ (ap (built s c.regrow.new.owners (headed s (content r.table))) plan
          ∙ ap (λ o. built s o (headed s (content r.table)) (plans r i (resized_at r i c.args.size.bytes))) owners);
    }

pub returns-clause-new : goal.returns-clause-new
returns-clause-new c =
    let r = c.args.self.now in
    let s = c.args.s.now in
    let i = c.args.place in
    let part = c.index-part.result.now in
    let p = c.index.result.now in
    record {
      entry = p;
      there = entry-is s r i part c.requires.mapped c.requires.there c.index-part.ensures p c.index.ensures;
      part = part-is s r i part c.requires.mapped c.requires.there c.index-part.ensures;
      from = c.bytes_in-from.ensures.bytes ∙ ap bytes_in (c.extents_of.ensures.extents ∙ ap (λ l. take p.count (drop p.first l)) c.deref.ensures.value);
      to = refl;
    }
