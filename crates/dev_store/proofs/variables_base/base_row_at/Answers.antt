use Rattle.std.proofs.Common.{◌≡◌, ◌∙◌, sym, ap, ◌+◌, map, take, drop, Some, None, option_map, ◌∷◌, List, ℕ, Bor, if◌then◌else◌}
use Rattle.std.specs.Prelude.{slice_get, filter_map}
use Rattle.dev_model.specs.Variables.{base_name, base_names, has_slot_row}
use Rattle.dev_store.specs.StoreCalls.{names_of}
use Rattle.dev_store.specs.ToldRows.{told_device}
use Rattle.dev_store.proofs.BaseLemmas.{new-rows, base-turns, new-turn, next-left, none-left, first-rows, past-names}
use Rattle.dev_store.proofs.BaseRows.{has-row}
use Rattle.dev_store.proofs.variables_base.base_row_at.Goals as goal
use Rattle.dev_store.proofs.variables_base.base_row_at.Goals.{then-not-is_known+else-left-eq0, else-not-is_known}

pub loop-at-init : goal.loop-at-init
loop-at-init c =
    let d = told_device c.args.facts.now in
    ap (λ l. slice_get l c.args.place) (first-rows (has_slot_row d) (map (base_name d) (names_of d)))

pub returns-in_default : goal.returns-in_default
returns-in_default c =
    let d = told_device c.args.facts.now in
    none-left (has_slot_row d) (base_name d) (names_of d) c.loop-at.at c.loop-at.left _ (past-names (names_of d) c.loop-at.at (ap (option_map (λ (name : Bor (List ℕ)). name.now)) (sym c.in_default.is) ∙ c.name_at.ensures)) c.loop-at.invariant

pub returns-then-left-eq0 : goal.returns-then-left-eq0
returns-then-left-eq0 c =
    let d = told_device c.args.facts.now in
    let i = c.loop-at.at in
    let y = c.base_name-base.result.now in
    let same = c.base_name-base.ensures ∙ ap (base_name d) c.bytes.ensures.bytes in
    let t = base-turns (base_name d) (names_of d) i c.in-Some.name.now y c.in-Some.ensures same in
    let r = has-row d c.in-Some.name.now i c.in-Some.ensures in
    let row : has_slot_row d y ≡ Some r.0 = ap (has_slot_row d) same ∙ r.1 in
    let new = sym c.is_known.ensures ∙ c.if-not-is_known.true in
    let n = new-turn (has_slot_row d) (base_name d) (names_of d) i c.loop-at.left y (Some r.0) _ t (sym row ∙ ap (λ a. if a then None else has_slot_row d y) (sym new)) c.loop-at.invariant in
    c.base_row.ensures
    ∙ (row
    ∙ (ap (slice_get (r.0 ∷ new-rows (has_slot_row d) (take (i + 1) (map (base_name d) (names_of d))) (drop (i + 1) (map (base_name d) (names_of d))))) (sym c.if-left-eq0.true) ∙ n))

pub loop-at-preserved : goal.loop-at-preserved
loop-at-preserved c =
    let d = told_device c.args.facts.now in
    let i = c.loop-at.at in
    let y = c.base_name-base.result.now in
    let same = c.base_name-base.ensures ∙ ap (base_name d) c.bytes.ensures.bytes in
    let t = base-turns (base_name d) (names_of d) i c.in-Some.name.now y c.in-Some.ensures same in
    let r = has-row d c.in-Some.name.now i c.in-Some.ensures in
    let row : has_slot_row d y ≡ Some r.0 = ap (has_slot_row d) same ∙ r.1 in
    let rows = new-rows (has_slot_row d) (take (i + 1) (map (base_name d) (names_of d))) (drop (i + 1) (map (base_name d) (names_of d))) in
    let v = slice_get (filter_map (has_slot_row d) (base_names d)) c.args.place in
    elim c.if-not-is_known.branch [
      | then-not-is_known+else-left-eq0 w ↦
          let new = sym c.is_known.ensures ∙ w.if-not-is_known.true in
          ap (slice_get rows) w.left-is
          ∙ next-left r.0 rows c.loop-at.left v w.if-left-eq0.false
          (new-turn (has_slot_row d) (base_name d) (names_of d) i c.loop-at.left y (Some r.0) v t (sym row ∙ ap (λ a. if a then None else has_slot_row d y) (sym new)) c.loop-at.invariant)
      | else-not-is_known w ↦
          let old = sym c.is_known.ensures ∙ w.if-not-is_known.false in
          ap (slice_get rows) w.left-is
          ∙ new-turn (has_slot_row d) (base_name d) (names_of d) i c.loop-at.left y None v t (ap (λ a. if a then None else has_slot_row d y) (sym old)) c.loop-at.invariant
    ]
