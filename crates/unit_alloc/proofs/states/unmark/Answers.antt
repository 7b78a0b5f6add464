use Rattle.std.proofs.Common.{ℕ, ap, ◌∙◌, ◌-◌, ◌*◌, ◌/◌, ◌%◌, ◌^◌, bit_and, set, arith}
use Rattle.std.proofs.lemmas.List.{get_or_read}
use Rattle.unit_alloc.specs.Marks.{is_marked}
use Rattle.unit_alloc.proofs.MarksLemmas.{is_marked-unmark}
use Rattle.unit_alloc.proofs.states.unmark.Goals as goal

pub returns-clause-marks : goal.returns-clause-marks
returns-clause-marks c = λ other.
    let words = c.args.words.now.items in
    let u = c.args.unit in
    ap (λ (w : ℕ). is_marked (set words (u / 64) (bit_and w (2 ^ 64 - 1 - 1 * 2 ^ (u % 64) % 2 ^ 64))) other) (get_or_read words (u / 64) c.index_mut.result.now (omega arith) c.index_mut.ensures.value 0)
    ∙ is_marked-unmark words u other c.requires
