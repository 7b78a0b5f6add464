-- A connection that hears one item after the other.
use Rattle.std.proofs.Common.{◌≡◌, ◌≢◌, ℕ, suc, ◌+◌, ◌-◌, ◌^◌, ◌<◌, ◌≤◌, Bool, true, false, List, [], length, take, Some, None, refl, sym, ap, ◌∙◌, arith}
use Rattle.std.specs.Prelude.{nat_le, ◌==◌, ◌||◌, if◌then◌else◌}
use Rattle.std.proofs.lemmas.Bool.Decides.{nat_tests}
use Rattle.std.proofs.lemmas.List.{length-take}
use Rattle.dev_model.specs.declared.device.Dev.{Dev}
use Rattle.wire_model.specs.declared.connection.Connection.{Connection}
use Rattle.wire_model.specs.declared.served.Served1.{Served1}
use Rattle.wire_model.specs.Wire.{Wire, Item, fresh, front, heard, shut, going, settled, joined, limited, takes, serves}
use Rattle.wire_model.specs.Connections.{phase_of, wire_of, wire_at, served_of}
use Rattle.wire_model.proofs.InParts.{placed, heard-placed, settled-none, settled-some, choose-true, choose-false, keeps, after-open}

-- nothing whole stands at the front
pub serve-none : (k taken : ℕ) (rest : List ℕ) (now : Connection) → front (phase_of now.phase) rest ≡ None →
    served_of (settled k (wire_at rest taken now)) ≡ served_of (wire_of now)
serve-none k taken rest now e = ap served_of (settled-none k (wire_at rest taken now) e)

heard-at : (item : Item) (rest : List ℕ) (taken : ℕ) (now after : Connection) → wire_of after ≡ heard item (wire_of now) →
    heard item (wire_at rest taken now) ≡ wire_at rest taken after
heard-at item rest taken now after e = heard-placed item rest taken (wire_of now) ∙ ap (placed rest taken) (sym e)

turn : (m taken : ℕ) (rest : List ℕ) (found : Item × List ℕ) (now after : Connection) → front (phase_of now.phase) rest ≡ Some found →
    wire_of after ≡ heard found.0 (wire_of now) → settled (suc m) (wire_at rest taken now) ≡ going (settled m) found.1 (wire_at rest taken after)
turn m taken rest found now after e h =
    settled-some m (wire_at rest taken now) found e ∙ ap (going (settled m) found.1) (heard-at found.0 rest taken now after h)

less : (n i : ℕ) → i < n → n - i ≡ suc (n - (i + 1))
less n i h = omega arith

-- the item closed the connection
pub serve-shut : (n i taken : ℕ) (rest : List ℕ) (found : Item × List ℕ) (now after : Connection) → i < n → front (phase_of now.phase) rest ≡ Some found →
    wire_of after ≡ heard found.0 (wire_of now) → after.closed ≡ true → served_of (settled (n - i) (wire_at rest taken now)) ≡ served_of (wire_of after)
serve-shut n i taken rest found now after h f e s =
    let m = n - (i + 1) in
    ap (λ k. served_of (settled k (wire_at rest taken now))) (less n i h)
    ∙ (ap served_of (turn m taken rest found now after f e)
    ∙ ap served_of (choose-true after.closed (shut found.1) (λ u. settled m (record u { rest = found.1 })) (wire_at rest taken after) s))

-- the connection goes on behind the item
pub serve-open : (n i taken : ℕ) (rest : List ℕ) (found : Item × List ℕ) (now after : Connection) → i < n → front (phase_of now.phase) rest ≡ Some found →
    wire_of after ≡ heard found.0 (wire_of now) → after.closed ≡ false →
    settled (n - i) (wire_at rest taken now) ≡ settled (n - (i + 1)) (wire_at found.1 taken after)
serve-open n i taken rest found now after h f e s =
    let m = n - (i + 1) in
    ap (λ k. settled k (wire_at rest taken now)) (less n i h)
    ∙ (turn m taken rest found now after f e
    ∙ choose-false after.closed (shut found.1) (λ u. settled m (record u { rest = found.1 })) (wire_at rest taken after) s)

-- what the limit makes of a state in which so many bytes were taken, if it is open
abbrev ended : ℕ → Wire → Served1
ended n w = record { out = w.out; after = w.device; closed = w.closed || n == 2 ^ 62 }

served-limited : (b : Bool) (w : Wire) → served_of (if b then record w { rest = []; closed = true } else w) ≡ record { out = w.out; after = w.device; closed = if b then true else w.closed }
served-limited true w = refl
served-limited false w = refl

shut-same : (b c d : Bool) → (c ≡ false → b ≡ d) → (if b then true else c) ≡ (c || d)
shut-same true true d h = refl
shut-same false true d h = refl
shut-same true false d h = h refl
shut-same false false d h = h refl

at-limit : (b c : Bool) (n : ℕ) → nat_le (2 ^ 62) n ≡ b → (n == 2 ^ 62) ≡ c → n ≤ 2 ^ 62 → b ≡ c
at-limit true true n e f h = refl
at-limit false false n e f h = refl
at-limit true false n e f h = absurd (let k : n ≢ 2 ^ 62 = grind (arith, nat_tests) in let l : 2 ^ 62 ≤ n = grind (arith, nat_tests) in omega (arith, h, k, l))
at-limit false true n e f h = absurd (let k : n ≡ 2 ^ 62 = grind (arith, nat_tests) in let l : n < 2 ^ 62 = grind (arith, nat_tests) in omega (arith, h, k, l))

full-same : (n t : ℕ) → t ≡ n → n ≤ 2 ^ 62 → nat_le (2 ^ 62) t ≡ (n == 2 ^ 62)
full-same n t e h = ap (nat_le (2 ^ 62)) e ∙ at-limit (nat_le (2 ^ 62) n) (n == 2 ^ 62) n refl refl h

limited-served : (n : ℕ) (w : Wire) → (w.closed ≡ false → w.taken ≡ n) → n ≤ 2 ^ 62 → served_of (limited w) ≡ ended n w
limited-served n w t h =
    served-limited (nat_le (2 ^ 62) w.taken) w
    ∙ ap (λ b. record { out = w.out; after = w.device; closed = b }) (shut-same (nat_le (2 ^ 62) w.taken) w.closed (n == 2 ^ 62) (λ c. full-same n w.taken (t c) h))

-- what the whole connection gives, by what its items give
pub serves-all : (dev : Dev) (bytes some : List ℕ) (first last : Connection) → some ≡ take (2 ^ 62) bytes → wire_of first ≡ fresh dev →
    served_of (wire_of last) ≡ served_of (settled (length some) (wire_at some (length some) first)) →
    serves dev bytes ≡ record { out = last.out; after = last.device; closed = last.closed || length some == 2 ^ 62 }
serves-all dev bytes some first last e f g =
    let w : Wire = settled (length some) (joined some (fresh dev)) in
    let counted : length some ≡ 0 + length some = omega arith in
    let begins : wire_at some (length some) first ≡ joined some (fresh dev) = ap (placed some (length some)) f ∙ ap (λ n. placed some n (fresh dev)) counted in
    let gives : served_of (wire_of last) ≡ served_of w = g ∙ ap (λ x. served_of (settled (length some) x)) begins in
    let short : length some ≤ 2 ^ 62 = omega (arith, ap length e, length-take (2 ^ 62) bytes) in
    ap served_of (after-open (fresh dev) bytes refl ∙ ap (λ b. takes b (fresh dev)) (sym e))
    ∙ (ap (λ k. served_of (limited (settled k (joined some (fresh dev))))) (sym counted)
    ∙ limited-served (length some) w (λ c. (keeps (length some) (joined some (fresh dev)) c).0 ∙ sym counted) short
    ∙ ap (λ s. record { out = s.out; after = s.after; closed = s.closed || length some == 2 ^ 62 }) (sym gives))
