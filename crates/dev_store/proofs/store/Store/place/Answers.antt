use Rattle.std.proofs.Common.{◌≡◌, ◌∙◌, ap, sym, subst, ◌<◌, length}
use Rattle.std.specs.Prelude.{slice_get, position, IfSome}
use Rattle.std.specs.Option.{option_and_then}
use Rattle.dev_store.specs.Held.{part_of}
use Rattle.dev_store.proofs.OpenOwns.{at-name}
use Rattle.dev_store.proofs.NamedStore.{place-within, part-inside}
use Rattle.dev_store.proofs.store.Store.place.Goals as goal

pub returns-in-Some : goal.returns-in-Some
returns-in-Some g c =
    let s = c.self.inside in
    let n = c.args.name.now in
    let parts = c.in-Some.within.parts.items in
    let place = position (at-name n) c.in-Some.within.table.partitions.items in
    let found : c.part_of.result ≡ option_and_then (slice_get parts) place =
    c.part_of.ensures
    ∙ (ap (λ x. option_and_then (slice_get c.deref-in-Some.result.now) (position (at-name x) c.deref.result.now)) c.bytes.ensures.bytes
    ∙ (ap (λ l. option_and_then (slice_get c.deref-in-Some.result.now) (position (at-name n) l)) c.deref.ensures.value
    ∙ ap (λ l. option_and_then (slice_get l) place) c.deref-in-Some.ensures.value)) in
    record {
      part = found
          ∙ (place-within s.layout s.state s.within c.in-Some.within _ n c.in-Some.is c.self.invariant.kept
          ∙ ap (λ h. part_of h n) c.self.view_is);
      bound = λ usable.
          subst (λ o. IfSome o (λ part. IfSome c.args.self.now.owning (λ owning. part < length owning.parts))) (sym found)
          (subst (λ h. IfSome (option_and_then (slice_get parts) place) (λ part. IfSome h.owning (λ owning. part < length owning.parts))) c.self.view_is
          (part-inside s.layout s.layout.super_part s.within c.in-Some.within place c.in-Some.is (c.self.invariant.super (ap (λ h. h.broken) c.self.view_is ∙ usable))));
    }
