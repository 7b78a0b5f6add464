-- Puts in a row put their bytes in a row.
use Rattle.std.proofs.Common.{ℕ, ◌+◌, List, [], ◌++◌, length, take, Option, sym, ap, ◌∙◌, arith, length-append, append_assoc, append-nil}
use Rattle.std.proofs.Math.Seq.{take-append-add}
use Rattle.std.proofs.lemmas.List.{take-append-le}
use Rattle.fb_frame.specs.Sinks.{GrewBy, GrewByPart, Grew, GrewPart}
use Rattle.fb_frame.proofs.ToldLemmas.{both-same, both-joined, both-weaker}

-- nothing was put
pub Grew-nothing : (a : Option (List ℕ)) → Grew a a []
Grew-nothing a = both-same (GrewBy []) a (λ t. sym (append-nil t))

-- all of the one and all of the other
pub Grew-append : (a b c : Option (List ℕ)) (x y : List ℕ) → Grew a b x → Grew b c y → Grew a c (x ++ y)
Grew-append a b c x y = both-joined (GrewBy x) (GrewBy y) (GrewBy (x ++ y)) a b c (λ r s t e f. f ∙ (ap (λ u. u ++ y) e ∙ append_assoc r x y))

by-part-after : (a b c x y : List ℕ) → GrewBy x a b → GrewByPart y b c → GrewByPart (x ++ y) a c
by-part-after a b c x y e p = record {
  count = length x + p.count;
  fewer = omega (arith, length-append x y, p.fewer);
  grew = p.grew
      ∙ (ap (λ t. t ++ take p.count y) e
      ∙ (append_assoc a x (take p.count y) ∙ ap (λ t. a ++ t) (sym (take-append-add x y p.count))));
}

by-part-before : (a b x y : List ℕ) → GrewByPart x a b → GrewByPart (x ++ y) a b
by-part-before a b x y p = record {
  count = p.count;
  fewer = omega (arith, length-append x y, p.fewer);
  grew = p.grew ∙ ap (λ t. a ++ t) (sym (take-append-le p.count x y (omega (arith, p.fewer))));
}

-- all of the one and a part of the other
pub GrewPart-after : (a b c : Option (List ℕ)) (x y : List ℕ) → Grew a b x → GrewPart b c y → GrewPart a c (x ++ y)
GrewPart-after a b c x y = both-joined (GrewBy x) (GrewByPart y) (GrewByPart (x ++ y)) a b c (λ r s t e p. by-part-after r s t x y e p)

-- a part of the first is a part of both
pub GrewPart-before : (a b : Option (List ℕ)) (x y : List ℕ) → GrewPart a b x → GrewPart a b (x ++ y)
GrewPart-before a b x y = both-weaker (GrewByPart x) (GrewByPart (x ++ y)) a b (λ r s p. by-part-before r s x y p)

-- for callers that put several texts in a row
pub ruleset sink_lines = (Grew-nothing, Grew-append, GrewPart-after, GrewPart-before)
