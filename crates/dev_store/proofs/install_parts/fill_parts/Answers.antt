use Rattle.std.proofs.Common.{◌≡◌, ◌≢◌, ℕ, ◌+◌, ◌<◌, ◌∙◌, refl, sym, ap, subst, length, false, Some, arith}
use Rattle.std.specs.Prelude.{◌==◌, vec_capacity}
use Rattle.std.specs.List.{list_any}
use Rattle.dev_store.specs.InstallParts.{AreAllTaken}
use Rattle.dev_store.proofs.InstallParts.{IsFilling, filling-start, filling-end, filling-there, filling-next, not-all, place-is, other-if}
use Rattle.dev_store.proofs.install_parts.fill_parts.Goals as goal
use Rattle.dev_store.proofs.install_parts.fill_parts.Goals.{then-index-eq-NO_PART, else-index-eq-NO_PART}

pub loop-place-init : goal.loop-place-init
loop-place-init c = record { filling = filling-start c.args.parts.now.items c.requires.small; room = refl }

pub free_part-part-requires : goal.free_part-part-requires
free_part-part-requires c =
    let many = c.loop-place.invariant.filling.many in
    let items = c.loop-place.parts.items in
    let inside : c.loop-place.place < length items = omega (arith, c.loop-place-test.true, c.len-place-end.ensures, c.args.parts.now.ok.0, many) in
    let at = place-is items c.loop-place.place _ c.index.result.now inside c.index.ensures in
    record {
      left = λ all. not-all c.loop-place.place items (omega (arith, many, c.requires.few)) (at ∙ ap Some c.if-index-eq-NO_PART.true) (subst AreAllTaken c.deref.ensures.value all);
    }

pub loop-place-preserved : goal.loop-place-preserved
loop-place-preserved c =
    let old = c.args.parts.now.items in
    let filling = c.loop-place.invariant.filling in
    let many = filling.many in
    let items = c.loop-place.parts.items in
    let i = c.loop-place.place in
    let inside : i < length items = omega (arith, c.loop-place-test.true, c.len-place-end.ensures, c.args.parts.now.ok.0, many) in
    let at = place-is items i _ c.index.result.now inside c.index.ensures in
    elim c.if-index-eq-NO_PART.branch [
      | then-index-eq-NO_PART w ↦
          record {
            filling = subst (IsFilling (i + 1) old) (sym (ap (λ v. v.items) w.parts-is ∙ w.set_part.ensures.items))
                (filling-next i w.free_part-part.result old items (at ∙ ap Some w.if-index-eq-NO_PART.true) w.free_part-part.ensures.there
                (ap (λ l. list_any (λ p. p == w.free_part-part.result) l) (sym w.deref.ensures.value) ∙ w.free_part-part.ensures.free) filling);
            room = ap (λ v. vec_capacity v) w.parts-is ∙ (w.set_part.ensures.room ∙ c.loop-place.invariant.room);
          }
      | else-index-eq-NO_PART w ↦
          record {
            filling = subst (IsFilling (i + 1) old) (sym (ap (λ v. v.items) w.parts-is)) (filling-there i c.index.result.now old items at (no c.index.result.now w.if-index-eq-NO_PART.false) filling);
            room = ap (λ v. vec_capacity v) w.parts-is ∙ c.loop-place.invariant.room;
          }
    ]
  where
    no : (n : ℕ) → n ≢ 128 → (n == 128) ≡ false
    no n h = other-if n 128 h

pub returns-clause-filled : goal.returns-clause-filled
returns-clause-filled c =
    let filling = c.loop-place.invariant.filling in
    let many = filling.many in
    filling-end c.loop-place.place c.args.parts.now.items c.loop-place.parts.items (omega (arith, c.loop-place-test.false, c.len-place-end.ensures, c.args.parts.now.ok.0, many)) filling
