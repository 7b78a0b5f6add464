use Rattle.std.proofs.Common.{◌≡◌, drop}
use Rattle.std.specs.Prelude.{find, bytes_eq}
use Rattle.dev_model.proofs.partitions.logical_bytes.Given as goal

-- none that was passed has the name
abbrev pub invariant-loop-part : goal.invariant-loop-part
invariant-loop-part l = find (λ p. bytes_eq p.name l.name) l.parts ≡ find (λ p. bytes_eq p.name l.name) (drop l.part-index l.parts)
