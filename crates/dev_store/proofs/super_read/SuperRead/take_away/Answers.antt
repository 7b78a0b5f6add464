use Rattle.std.proofs.Common.{◌∙◌, ◌≤◌, [], ap, sym, subst, refl, None, arith}
use Rattle.unit_alloc.specs.Owning.{with_units}
use Rattle.super_meta.specs.Contents.{content}
use Rattle.dev_store.specs.LayoutLines.{unit_count}
use Rattle.dev_store.specs.Building.{built, headed, replaced, planned_all, units_planned}
use Rattle.dev_store.specs.TableCalls.{plans}
use Rattle.dev_store.proofs.CallUnits.{own-part}
use Rattle.dev_store.proofs.super_read.SuperRead.take_away.Goals as goal

pub build_next-requires-clause-units : goal.build_next-requires-clause-units
build_next-requires-clause-units c =
    let r = c.args.self.now in
    let t = content r.table in
    let s = c.args.s.now in
    let i = c.args.place in
    let owners = c.release.ensures.released ∙ ap (λ k. with_units r.owners k []) (own-part s t r.owners r.parts.items i _ c.requires.mapped c.requires.there c.index-part.ensures) in
    subst (λ ps. units_planned c.release.new.self (replaced i None (planned_all t t.partitions ps)) ≤ unit_count s) (sym c.deref.ensures.value)
    (subst (λ o. units_planned o (plans r i None) ≤ unit_count s) (sym owners) c.requires.fits.units)

pub returns-clause-planned : goal.returns-clause-planned
returns-clause-planned c =
    let r = c.args.self.now in
    let t = content r.table in
    let s = c.args.s.now in
    let i = c.args.place in
    let owners = c.release.ensures.released ∙ ap (λ k. with_units r.owners k []) (own-part s t r.owners r.parts.items i _ c.requires.mapped c.requires.there c.index-part.ensures) in
    record {
      table = refl;
      copy = refl;
      owners = owners;
      one = c.release.ensures.one_owner;
      rooms = record { table = c.requires.rooms.table; next = c.build_next.ensures.room; parts = omega (arith, c.requires.rooms.parts, c.remove.ensures.capacity) };
      next = c.build_next.ensures.table
          ∙ (ap (λ ps. built s c.release.new.self (headed s t) (replaced i None (planned_all t t.partitions ps))) c.deref.ensures.value
          ∙ ap (λ o. built s o (headed s t) (plans r i None)) owners);
    }
