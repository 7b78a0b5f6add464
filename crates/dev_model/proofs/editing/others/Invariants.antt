use Rattle.std.proofs.Common.{◌≡◌, take, filter}
use Rattle.std.specs.Prelude.{not, bytes_eq}
use Rattle.dev_model.proofs.editing.others.Given as goal

-- those that were passed and have another name
abbrev pub invariant-loop-part : goal.invariant-loop-part
invariant-loop-part l = l.entries ≡ filter (λ p. not (bytes_eq p.name l.name)) (take l.part-index l.parts)
