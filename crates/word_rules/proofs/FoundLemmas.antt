-- Which values of an option or a word there are.
use Rattle.std.proofs.Common.{◌≡◌, ℕ, List, Option, Some, None, refl, ap, Bor}
use Rattle.std.specs.Prelude.{is_none, option_map}

-- no text stands where its bytes don't
pub none_of : (o : Option (Bor (List ℕ))) (q : Option (List ℕ)) → option_map (λ text. text.now) o ≡ q → is_none o ≡ is_none q
none_of None q e = ap is_none e
none_of (Some text) q e = ap is_none e
