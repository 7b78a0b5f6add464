-- What is told both times or neither time: the laws of relations of it, which lift those of the told values.
use Rattle.std.proofs.Common.{◌≡◌, Option, Some, None, refl}
use Rattle.fb_frame.specs.Told.{Both}

-- nothing happened
pub both-same : {A : Type 0} (R : A → A → Type 0) (x : Option A) → ((a : A) → R a a) → Both R x x
both-same R (Some a) h = h a
both-same R None h = tt

-- one thing happened, and then another
pub both-joined : {A B C : Type 0} (R : A → B → Type 0) (S : B → C → Type 0) (T : A → C → Type 0) (x : Option A) (y : Option B) (z : Option C) →
    ((a : A) (b : B) (c : C) → R a b → S b c → T a c) → Both R x y → Both S y z → Both T x z
both-joined R S T (Some a) (Some b) (Some c) h f g = h a b c f g
both-joined R S T (Some a) (Some b) None h f g = absurd g
both-joined R S T (Some a) None z h f g = absurd f
both-joined R S T None (Some b) z h f g = absurd f
both-joined R S T None None (Some c) h f g = absurd g
both-joined R S T None None None h f g = tt

-- what holds of the told values follows
pub both-weaker : {A B : Type 0} (R S : A → B → Type 0) (x : Option A) (y : Option B) → ((a : A) (b : B) → R a b → S a b) → Both R x y → Both S x y
both-weaker R S (Some a) (Some b) h f = h a b f
both-weaker R S (Some a) None h f = absurd f
both-weaker R S None (Some b) h f = absurd f
both-weaker R S None None h f = tt

-- nothing is told before or after where nothing is told after or before
pub both-untold : {A B : Type 0} (R : A → B → Type 0) (y : Option B) → Both R None y → y ≡ None
both-untold R (Some b) f = absurd f
both-untold R None f = refl

pub both-never-told : {A B : Type 0} (R : A → B → Type 0) (x : Option A) → Both R x None → x ≡ None
both-never-told R (Some a) f = absurd f
both-never-told R None f = refl

-- for callers over objects that may tell
pub ruleset told_both = (both-same, both-joined, both-weaker, both-untold, both-never-told)
