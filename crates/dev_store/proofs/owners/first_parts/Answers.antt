use Rattle.std.proofs.Common.{◌∙◌, ◌∷◌, [], ◌++◌, sym, ap, arith}
use Rattle.dev_store.proofs.MapLemmas.{range-more}
use Rattle.dev_store.proofs.owners.first_parts.Goals as goal

pub loop-part-preserved : goal.loop-part-preserved
loop-part-preserved c = record {
  so_far = c.in-Ok.ensures.items ∙ (ap (λ l. l ++ c.loop-part.part ∷ []) c.loop-part.invariant.so_far ∙ sym (range-more c.loop-part.part));
  room = omega (arith, c.in-Ok.ensures.capacity, c.loop-part.invariant.room);
}
