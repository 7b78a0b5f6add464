use Rattle.std.proofs.Common.{◌∙◌, [], ap, sym, subst, length, arith}
use Rattle.std.specs.Prelude.{slice_index, if◌then◌else◌}
use Rattle.std.proofs.lemmas.List.{length-set}
use Rattle.unit_alloc.specs.Owning.{Owning, OneOwner, with_units}
use Rattle.dev_store.proofs.InstallParts.{release-step}
use Rattle.dev_store.proofs.table_install.Keeps.release_others.Goals as goal
use Rattle.dev_store.proofs.table_install.Keeps.release_others.Goals.{then-not-keeps, else-not-keeps}

pub loop-place-preserved : goal.loop-place-preserved
loop-place-preserved c =
    let k = c.args.self in
    let ps = c.args.table.now.partitions.items in
    let parts = c.args.parts.now in
    let o = c.loop-place.owners in
    let i = c.loop-place.place in
    let p = c.index.result.now in
    let old = c.loop-place.invariant in
    let inside = c.loop-place-test.true in
    elim c.if-not-keeps.branch [
      | then-not-keeps w ↦
          record {
            released = release-step k ps parts o c.if-not-keeps.owners _ i p c.keeps.result c.bytes.result.now (omega (arith, inside, c.requires.many)) inside c.index.ensures c.keeps.ensures c.bytes.ensures.bytes
                (w.owners-is ∙ (w.release.ensures.released ∙ sym (ap (λ b. if b then o else with_units o (slice_index parts i) []) w.if-not-keeps.true))) old.released;
            many = ap (λ (q : Owning). length q.parts) (w.owners-is ∙ w.release.ensures.released) ∙ (length-set o.parts (slice_index parts i) [] ∙ old.many);
            one = subst OneOwner (sym w.owners-is) w.release.ensures.one_owner;
          }
      | else-not-keeps w ↦
          record {
            released = release-step k ps parts o c.if-not-keeps.owners _ i p c.keeps.result c.bytes.result.now (omega (arith, inside, c.requires.many)) inside c.index.ensures c.keeps.ensures c.bytes.ensures.bytes
                (w.owners-is ∙ sym (ap (λ b. if b then o else with_units o (slice_index parts i) []) w.if-not-keeps.false)) old.released;
            many = ap (λ (q : Owning). length q.parts) w.owners-is ∙ old.many;
            one = subst OneOwner (sym w.owners-is) old.one;
          }
    ]
