-- What a gate in memory tells, by the passages of its connections.
use Rattle.std.proofs.Common.{◌≡◌, ℕ, zero, suc, ◌+◌, ◌-◌, ◌<◌, ◌≤◌, Bool, true, false, ◌||◌, not, Vec, List, [], ◌∷◌, ◌++◌, length, take, drop, get_or, set, refl, sym, ap, subst, ◌∙◌, arith, length-append, length-set}
use Rattle.std.specs.List.{All}
use Rattle.std.specs.Prelude.{slice_get, Option, Some, map, if◌then◌else◌, vec_capacity, option_map}
use Rattle.std.proofs.lemmas.Bool.Decides.{nat_tests}
use Rattle.std.proofs.lemmas.List.Elements.{All-take, All-push}
use Rattle.fb_frame.specs.Failing.{Failing, fails_next, counted, has_room}
use Rattle.std.proofs.lemmas.List.{take_at, take_all, take-append-le, drop-append-le, length-drop, length_push, get_or_at, drop_more, take_more_set, take_more, length-take-le, get_or-map}
use Rattle.std.proofs.lemmas.List.Elements.{All-head, All-tail}
use Rattle.device_session.specs.declared.script_gate.Passage.{Passage}
use Rattle.device_session.specs.Gates.{Connection, IsAccepted, LastChanged, IsReadOn, IsWrittenOn, IsLastRead, new_connection}
use Rattle.device_session.specs.Scripts.{written_in, connection_of, connections_of, split_at, written_by}
use Rattle.device_session.specs.ScriptKept.{IsWithin, IsLast, IsKept, gives_of}
use Rattle.device_session.specs.declared.script_gate.ScriptGate.TheInside.{Inside}

-- Lists with one more element each are equal only where both parts are.
pub last-alike : {A : Type 0} (xs ys : List A) (x y : A) → xs ++ x ∷ [] ≡ ys ++ y ∷ [] → (xs ≡ ys) × (x ≡ y)
last-alike xs ys x y e =
    let n : length ys ≡ length xs = omega (arith, length_push xs x, length_push ys y, ap length e) in
    let fronts : xs ≡ ys = sym (take_at xs (x ∷ []) (length xs) refl) ∙ (ap (take (length xs)) e ∙ take_at ys (y ∷ []) (length xs) n) in
    let ends : x ≡ y = sym (get_or_at xs x [] x (length xs) refl) ∙ (ap (λ l. get_or l (length xs) x) e ∙ get_or_at ys y [] x (length xs) n) in
    (fronts, ends)

-- a list with another last element
pub set-last : {A : Type 0} (xs : List A) (y : A) → 0 < length xs → set xs (length xs - 1) y ≡ take (length xs - 1) xs ++ y ∷ []
set-last xs y h =
    let n : length xs - 1 + 1 ≡ length xs = omega (arith, h) in
    sym (take_all (length xs - 1 + 1) (set xs (length xs - 1) y) (omega (arith, n, length-set xs (length xs - 1) y)))
    ∙ take_more_set xs (length xs - 1) y (omega (arith, h))

-- One more passage is one more connection.
pub connections-more : (gs : List (List ℕ)) (ps : List Passage) (p : Passage) (w : List ℕ) → length ps < length gs →
    connections_of gs (ps ++ p ∷ []) w ≡ connections_of gs ps w ++ connection_of (get_or gs (length ps) []) p w ∷ []
connections-more [] ps p w h = absurd (omega (arith, h))
connections-more (g ∷ gs) [] p w h = refl
connections-more (g ∷ gs) (q ∷ ps) p w h =
    ap (λ l. connection_of g q w ∷ l) (connections-more gs ps p w (omega (arith, h)))

-- What is written later doesn't change what was written.
pub written-same : (p : Passage) (w more : List ℕ) → p.from + p.size ≤ length w → written_in p (w ++ more) ≡ written_in p w
written-same p w more h =
    ap (take p.size) (drop-append-le p.from w more (omega (arith, h)))
    ∙ take-append-le p.size (drop p.from w) more (omega (arith, h, length-drop p.from w))

pub connections-same : (gs : List (List ℕ)) (ps : List Passage) (w more : List ℕ) → All (IsWithin (length w)) ps →
    connections_of gs ps (w ++ more) ≡ connections_of gs ps w
connections-same gs [] w more h = refl
connections-same [] (p ∷ ps) w more h = refl
connections-same (g ∷ gs) (p ∷ ps) w more h =
    let own : connection_of g p (w ++ more) ≡ connection_of g p w =
    ap (λ (t : List ℕ). let c : Connection = record { gives = g; read = p.read; written = t; failed = p.failed } in c)
    (written-same p w more (All-head (IsWithin (length w)) p ps h)) in
    ap (λ c. c ∷ connections_of gs ps (w ++ more)) own
    ∙ ap (λ l. connection_of g p w ∷ l) (connections-same gs ps w more (All-tail (IsWithin (length w)) p ps h))

-- What is written at the end of the last passage is joined to it.
pub written-more : (p q : Passage) (w more : List ℕ) → p.from + p.size ≡ length w → q.from ≡ p.from → q.size ≡ p.size + length more →
    written_in q (w ++ more) ≡ written_in p w ++ more
written-more p q w more ends from size =
    let behind : drop p.from (w ++ more) ≡ drop p.from w ++ more = drop-append-le p.from w more (omega (arith, ends)) in
    let long : length (drop p.from w) ≡ p.size = omega (arith, ends, length-drop p.from w) in
    let whole : take (p.size + length more) (drop p.from w ++ more) ≡ drop p.from w ++ more =
    take_all _ (drop p.from w ++ more) (simp length-append (omega (arith, long))) in
    ap (λ n. take n (drop q.from (w ++ more))) size
    ∙ (ap (λ n. take (p.size + length more) (drop n (w ++ more))) from
    ∙ (ap (take (p.size + length more)) behind ∙ (whole
    ∙ ap (λ l. l ++ more) (sym (take_all p.size (drop p.from w) (omega (arith, long)))))))

-- The last connection changes as its passage does.
pub last-changed : (Change : Connection → Connection → Type 0) (gs : List (List ℕ)) (past : List Passage) (p q : Passage) (w v : List ℕ) →
    length past < length gs → connections_of gs past v ≡ connections_of gs past w →
    Change (connection_of (get_or gs (length past) []) p w) (connection_of (get_or gs (length past) []) q v) →
    LastChanged Change (split_at gs (past ++ p ∷ []) w) (split_at gs (past ++ q ∷ []) v)
last-changed Change gs past p q w v h same change =
    let g : List ℕ = get_or gs (length past) [] in
    let now : connections_of gs (past ++ q ∷ []) v ≡ connections_of gs past w ++ connection_of g q v ∷ [] =
    connections-more gs past q v h ∙ ap (λ l. l ++ connection_of g q v ∷ []) same in
    let left : drop (length (past ++ q ∷ [])) gs ≡ drop (length (past ++ p ∷ [])) gs =
    ap (λ n. drop n gs) (length_push past q ∙ sym (length_push past p)) in
    record {
      past = connections_of gs past w;
      before = connection_of g p w;
      now = connection_of g q v;
      last = connections-more gs past p w h;
      changed = cc;
      change = change;
    }

-- The next connection is accepted by a new passage.
pub accepted-next : (gs : List (List ℕ)) (ps : List Passage) (p : Passage) (w : List ℕ) → length ps < length gs →
    connection_of (get_or gs (length ps) []) p w ≡ new_connection (get_or gs (length ps) []) →
    IsAccepted (split_at gs ps w) (split_at gs (ps ++ p ∷ []) w)
accepted-next gs ps p w h new = record {
  gives = get_or gs (length ps) [];
  next = drop_more gs (length ps) [] h ∙ ap (λ n. get_or gs (length ps) [] ∷ drop n gs) (sym (length_push ps p));
  last = connections-more gs ps p w h ∙ ap (λ c. connections_of gs ps w ++ c ∷ []) new;
}

-- what was written in one of the connections
pub written-there : (gs : List (List ℕ)) (ps : List Passage) (w : List ℕ) (k : ℕ) (d : Passage) → k < length ps → length ps ≤ length gs →
    written_by (slice_get (connections_of gs ps w) k) ≡ written_in (get_or ps k d) w
written-there gs [] w k d h le = absurd (omega (arith, h))
written-there [] (p ∷ ps) w k d h le = absurd (omega (arith, le))
written-there (g ∷ gs) (p ∷ ps) w zero d h le = refl
written-there (g ∷ gs) (p ∷ ps) w (suc k) d h le = written-there gs ps w k d (omega (arith, h)) (omega (arith, le))

-- nothing was written in a connection that there wasn't
pub written-nowhere : (gs : List (List ℕ)) (ps : List Passage) (w : List ℕ) (k : ℕ) → length ps ≤ k →
    written_by (slice_get (connections_of gs ps w) k) ≡ []
written-nowhere gs [] w k h = refl
written-nowhere [] (p ∷ ps) w k h = refl
written-nowhere (g ∷ gs) (p ∷ ps) w zero h = absurd (omega (arith, h))
written-nowhere (g ∷ gs) (p ∷ ps) w (suc k) h = written-nowhere gs ps w k (omega (arith, h))

-- a list by its last element
pub last-read : {A : Type 0} (xs : List A) (x : A) → 0 < length xs → x ≡ get_or xs (length xs - 1) x → xs ≡ take (length xs - 1) xs ++ x ∷ []
last-read xs x h e =
    let n : length xs - 1 + 1 ≡ length xs = omega (arith, h) in
    sym (take_all (length xs - 1 + 1) xs (omega (arith, n)))
    ∙ (take_more xs (length xs - 1) x (omega (arith, h)) ∙ ap (λ y. take (length xs - 1) xs ++ y ∷ []) (sym e))

-- what a connection gives, by its number
pub gives-at : {Z : Type 0} (vs : List (Vec ℕ Z)) (k : ℕ) (v : Vec ℕ Z) → k < length vs → v ≡ get_or vs k v →
    v.items ≡ get_or (map (λ (w : Vec ℕ Z). w.items) vs) k []
gives-at {Z} vs k v h e = ap (λ (w : Vec ℕ Z). w.items) e ∙ sym (get_or-map (λ (w : Vec ℕ Z). w.items) vs k v [] h)

pub ruleset last_sets = (set-last)

pub ruleset last_reads = (last-read)

pub ruleset gives_reads = (gives-at)

-- the last passage of a list, however the list is written
pub last-put : (gs : List (List ℕ)) (front : List Passage) (p : Passage) (count : ℕ) → IsLast gs front p count →
    (past : List Passage) (q : Passage) → front ++ p ∷ [] ≡ past ++ q ∷ [] → IsLast gs past q count
last-put gs front p count h past q e =
    let same : (front ≡ past) × (p ≡ q) = last-alike front past p q e in
    subst (λ (f : List Passage). IsLast gs f q count) same.0 (subst (λ (x : Passage). IsLast gs front x count) same.1 h)

-- A new passage makes a new connection.
pub accepted-new : (gs : List (List ℕ)) (ps : List Passage) (w : List ℕ) (n : ℕ) → length ps < length gs →
    (let p : Passage = record { read = 0; from = n; size = 0; failed = false } in IsAccepted (split_at gs ps w) (split_at gs (ps ++ p ∷ []) w))
accepted-new gs ps w n h =
    let p : Passage = record { read = 0; from = n; size = 0; failed = false } in
    accepted-next gs ps p w h refl

-- The last passage was put anew.
pub put-changed : (Change : Connection → Connection → Type 0) (gs : List (List ℕ)) (ps front new : List Passage) (p q : Passage) (w v : List ℕ) →
    ps ≡ front ++ p ∷ [] → new ≡ front ++ q ∷ [] → length ps ≤ length gs → connections_of gs front v ≡ connections_of gs front w →
    Change (connection_of (get_or gs (length front) []) p w) (connection_of (get_or gs (length front) []) q v) →
    LastChanged Change (split_at gs ps w) (split_at gs new v)
put-changed Change gs ps front new p q w v old after h same change =
    let short : length front < length gs = omega (arith, h, ap length old, length_push front p) in
    subst (λ (l : List Passage). LastChanged Change (split_at gs l w) (split_at gs new v)) (sym old)
    (subst (λ (l : List Passage). LastChanged Change (split_at gs (front ++ p ∷ []) w) (split_at gs l v)) (sym after)
    (last-changed Change gs front p q w v short same change))

-- the connection that was accepted last
pub last-there : (gs : List (List ℕ)) (ps front : List Passage) (p : Passage) (w : List ℕ) → ps ≡ front ++ p ∷ [] → length ps ≤ length gs →
    p.read ≡ length (get_or gs (length front) []) → IsLastRead (split_at gs ps w)
last-there gs ps front p w old h read =
    let short : length front < length gs = omega (arith, h, ap length old, length_push front p) in
    record {
      past = connections_of gs front w;
      last = connection_of (get_or gs (length front) []) p w;
      there = ap (λ (l : List Passage). connections_of gs l w) old ∙ connections-more gs front p w short;
      read_up = read;
    }

-- bytes that were given on
pub read-on : (g w buf : List ℕ) (p : Passage) (n : ℕ) → p.read + n ≤ length g → n ≤ length buf → take n buf ≡ take n (drop p.read g) →
    (let q : Passage = record p { read = p.read + n } in IsReadOn (take n buf) (connection_of g p w) (connection_of g q w))
read-on g w buf p n h fits e =
    let long : length (take n buf) ≡ n = length-take-le n buf fits in
    record {
      next = e ∙ ap (λ m. take m (drop p.read g)) (sym long);
      within = omega (arith, long, h);
      changed = ap (λ (m : ℕ). let c : Connection = record { gives = g; read = p.read + m; written = written_in p w; failed = p.failed } in c) (sym long);
    }

-- bytes that were written at the end
pub written-on : (g w bytes : List ℕ) (p : Passage) → p.from + p.size ≡ length w →
    (let q : Passage = record p { size = p.size + length bytes } in
    IsWrittenOn (take (length bytes) bytes) (connection_of g p w) (connection_of g q (w ++ bytes)))
written-on g w bytes p h =
    let q : Passage = record p { size = p.size + length bytes } in
    let all : take (length bytes) bytes ≡ bytes = take_all (length bytes) bytes (omega arith) in
    let more : written_in q (w ++ bytes) ≡ written_in p w ++ take (length bytes) bytes =
    written-more p q w bytes h refl refl ∙ ap (λ l. written_in p w ++ l) (sym all) in
    ap (λ (t : List ℕ). let c : Connection = record { gives = g; read = p.read; written = t; failed = p.failed } in c) more

choose-room : (b : Bool) (x y : Failing) → b ≡ true → (if b then x else y).room ≡ x.room
choose-room true x y e = refl
choose-room false x y e = absurd cc

skip-room : (b : Bool) (x y : Failing) → b ≡ false → (if b then x else y).room ≡ y.room
skip-room true x y e = absurd cc
skip-room false x y e = refl

-- A call that fails leaves the room, and another one what it didn't write.
pub room-kept : (f g : Failing) (n left : ℕ) → g ≡ counted f n → fails_next f n ≡ true → f.room ≡ Some left → g.room ≡ Some left
room-kept f g n left e h r = ap (λ (x : Failing). x.room) e ∙ (choose-room (fails_next f n) _ _ h ∙ r)

pub room-less : (f g : Failing) (n left : ℕ) → g ≡ counted f n → fails_next f n ≡ false → f.room ≡ Some left → g.room ≡ Some (left - n)
room-less f g n left e h r =
    ap (λ (x : Failing). x.room) e ∙ (skip-room (fails_next f n) _ _ h ∙ ap (λ (o : Option ℕ). option_map (λ room. room - n) o) r)

or-right : (a b : Bool) → (a || b) ≡ false → b ≡ false
or-right true b e = absurd cc
or-right false b e = e

not-false : (b : Bool) → not b ≡ false → b ≡ true
not-false true e = refl
not-false false e = absurd cc

-- What a call writes that doesn't fail has room.
pub left-enough : (f : Failing) (n left : ℕ) → fails_next f n ≡ false → f.room ≡ Some left → n ≤ left
unfolding fails_next
left-enough f n left h r =
    let full : has_room f.room n ≡ true = not-false (has_room f.room n) (or-right _ (not (has_room f.room n)) h) in
    let some : has_room (Some left) n ≡ true = subst (λ (o : Option ℕ). has_room o n ≡ true) r full in
    grind (arith, nat_tests)

front-all : (P : Passage → Type 0) (front : List Passage) (p : Passage) → All P (front ++ p ∷ []) → All P front
front-all P front p h = subst (All P) (take_at front (p ∷ []) (length front) refl) (All-take P (length front) (front ++ p ∷ []) h)

-- What a gate keeps of its parts, where the last passage was put anew.
pub kept-put : (g h : Inside) (front : List Passage) (p q : Passage) (left : ℕ) → IsKept g → length h.script.items ≡ length g.script.items →
    gives_of h ≡ gives_of g → h.sizes.items ≡ g.sizes.items → g.passages.items ≡ front ++ p ∷ [] → h.passages.items ≡ front ++ q ∷ [] →
    vec_capacity g.passages ≤ vec_capacity h.passages → length g.written.items ≤ length h.written.items →
    IsLast (gives_of g) front q (length h.written.items) → h.failures.room ≡ Some left → length h.written.items + left ≤ vec_capacity h.written → IsKept h
kept-put g h front p q left kept many gives sizes old new cap grows last bounded space =
    let long : length h.passages.items ≡ length g.passages.items =
    ap length new ∙ (length_push front q ∙ sym (ap length old ∙ length_push front p)) in
    let some : 0 < length h.passages.items = omega (arith, ap length new, length_push front q) in
    let before : All (IsWithin (length g.written.items)) front =
    front-all (IsWithin (length g.written.items)) front p (subst (All (IsWithin (length g.written.items))) old kept.within) in
    let now : All (IsWithin (length h.written.items)) front = λ k d lt. omega (arith, before k d lt, grows) in
    record {
      fewer = omega (arith, long, many, kept.fewer);
      room = omega (arith, many, cap, kept.room);
      within = subst (All (IsWithin (length h.written.items))) (sym new)
          (All-push (IsWithin (length h.written.items)) front q now (omega (arith, last.ends)));
      last = λ past r e. subst (λ (gs : List (List ℕ)). IsLast gs past r (length h.written.items)) (sym gives)
          (last-put (gives_of g) front q (length h.written.items) last past r (sym new ∙ e));
      there = λ up. some;
      sizes = subst (All (λ n. 1 ≤ n)) (sym sizes) kept.sizes;
      left = left;
      bounded = bounded;
      space = space;
    }

-- What a gate keeps of its parts, where a passage was added.
pub kept-more : (g h : Inside) (q : Passage) (left : ℕ) → IsKept g → length h.script.items ≡ length g.script.items →
    gives_of h ≡ gives_of g → h.sizes.items ≡ g.sizes.items → h.passages.items ≡ g.passages.items ++ q ∷ [] → length g.passages.items < length g.script.items →
    vec_capacity g.passages ≤ vec_capacity h.passages → h.written ≡ g.written → q.from ≡ length g.written.items → q.size ≡ 0 → q.read ≡ 0 →
    h.failures.room ≡ Some left → length g.written.items + left ≤ vec_capacity g.written → IsKept h
kept-more g h q left kept many gives sizes new less cap same from size read bounded space =
    let long : length h.passages.items ≡ length g.passages.items + 1 = ap length new ∙ length_push g.passages.items q in
    let count : length h.written.items ≡ length g.written.items = ap (λ v. length v.items) same in
    let last : IsLast (gives_of g) g.passages.items q (length h.written.items) =
    record { ends = omega (arith, from, size, count); read = omega (arith, read) } in
    let now : All (IsWithin (length h.written.items)) g.passages.items = λ k d lt. omega (arith, kept.within k d lt, count) in
    record {
      fewer = omega (arith, long, many, less);
      room = omega (arith, many, cap, kept.room);
      within = subst (All (IsWithin (length h.written.items))) (sym new)
          (All-push (IsWithin (length h.written.items)) g.passages.items q now (omega (arith, last.ends)));
      last = λ past r e. subst (λ (gs : List (List ℕ)). IsLast gs past r (length h.written.items)) (sym gives)
          (last-put (gives_of g) g.passages.items q (length h.written.items) last past r (sym new ∙ e));
      there = λ up. omega (arith, long);
      sizes = subst (All (λ n. 1 ≤ n)) (sym sizes) kept.sizes;
      left = left;
      bounded = bounded;
      space = omega (arith, count, space, ap (λ v. vec_capacity v) same);
    }

-- all passages but the last one lie within what was written
pub front-within : (ps front : List Passage) (p : Passage) (count : ℕ) → ps ≡ front ++ p ∷ [] → All (IsWithin count) ps → All (IsWithin count) front
front-within ps front p count e h = front-all (IsWithin count) front p (subst (All (IsWithin count)) e h)
