use Rattle.std.proofs.Common.{List, ℕ, ◌∷◌, ◌∙◌, ap, sym, subst}
use Rattle.dev_store.specs.LayoutLines.{super_of}
use Rattle.dev_store.specs.LineReading.{IsRead}
use Rattle.dev_store.proofs.SplitLemmas.{split-at, split-end}
use Rattle.dev_store.proofs.layout_line.read_super.Goals as goal

pub returns-in_default : goal.returns-in_default
returns-in_default c = ap super_of (split-end c.args.text.now c.in_default.ensures)

pub returns-in_default-at_space : goal.returns-in_default-at_space
returns-in_default-at_space c =
    let name = c.in-Some.name.now in
    let rest = c.in-Some.rest.now in
    ap super_of (split-at c.args.text.now name rest c.in-Some.ensures
    ∙ ap (λ (r : List (List ℕ)). name ∷ r) (split-end rest c.in_default-at_space.ensures))

pub returns-in_default-at_space-2 : goal.returns-in_default-at_space-2
returns-in_default-at_space-2 c =
    let name = c.in-Some.name.now in
    let rest = c.in-Some.rest.now in
    let size = c.in-Some-at_space.size.now in
    let more = c.in-Some-at_space.rest.now in
    ap super_of (split-at c.args.text.now name rest c.in-Some.ensures
    ∙ ap (λ (r : List (List ℕ)). name ∷ r) (split-at rest size more c.in-Some-at_space.ensures
    ∙ ap (λ (r : List (List ℕ)). size ∷ r) (split-end more c.in_default-at_space-2.ensures)))

pub returns-in_default-at_space-3 : goal.returns-in_default-at_space-3
returns-in_default-at_space-3 c =
    let name = c.in-Some.name.now in
    let rest = c.in-Some.rest.now in
    let size = c.in-Some-at_space.size.now in
    let more = c.in-Some-at_space.rest.now in
    let unit = c.in-Some-at_space-2.unit.now in
    let last = c.in-Some-at_space-2.rest.now in
    ap super_of (split-at c.args.text.now name rest c.in-Some.ensures
    ∙ ap (λ (r : List (List ℕ)). name ∷ r) (split-at rest size more c.in-Some-at_space.ensures
    ∙ ap (λ (r : List (List ℕ)). size ∷ r) (split-at more unit last c.in-Some-at_space-2.ensures
    ∙ ap (λ (r : List (List ℕ)). unit ∷ r) (split-end last c.in_default-at_space-3.ensures))))

pub returns : goal.returns
returns c =
    let name = c.in-Some.name.now in
    let rest = c.in-Some.rest.now in
    let size = c.in-Some-at_space.size.now in
    let more = c.in-Some-at_space.rest.now in
    let unit = c.in-Some-at_space-2.unit.now in
    let last = c.in-Some-at_space-2.rest.now in
    let room = c.in-Some-at_space-3.max_size.now in
    let slots = c.in-Some-at_space-3.slots.now in
    let same = split-at c.args.text.now name rest c.in-Some.ensures
    ∙ ap (λ (r : List (List ℕ)). name ∷ r) (split-at rest size more c.in-Some-at_space.ensures
    ∙ ap (λ (r : List (List ℕ)). size ∷ r) (split-at more unit last c.in-Some-at_space-2.ensures
    ∙ ap (λ (r : List (List ℕ)). unit ∷ r) (split-at last room slots c.in-Some-at_space-3.ensures))) in
    subst (λ words. IsRead (super_of words) c.super_line.result) (sym same) c.super_line.ensures
