use Rattle.std.proofs.Common.{◌≡◌, ◌-◌, drop}
use Rattle.std.specs.Fmt.{digits, digits_onto}
use Rattle.dev_store.proofs.variables_text.write_digits.Given as goal

abbrev pub invariant-loop-k : goal.invariant-loop-k
invariant-loop-k l = digits_onto (64 - l.k) l.base l.upper l.rest (drop (64 - l.k) l.buffer) ≡ digits l.base l.upper l.number
