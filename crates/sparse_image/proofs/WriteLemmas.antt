-- What was put, one part after another.
use Rattle.std.proofs.Common.{drop, ◌≡◌, ℕ, ◌+◌, ◌-◌, ◌<◌, ◌≤◌, List, [], ◌∷◌, ◌++◌, length, take, length-take, length-append, Option, Some, None, Result, Ok, Err, refl, sym, ap, ◌∙◌, subst, arith}
use Rattle.std.specs.Prelude.{IfSome}
use Rattle.std.specs.Result.{OnErr}
use Rattle.std.specs.List.{sum_by}
use Rattle.std.proofs.lemmas.List.Concat.{flat_map-append}
use Rattle.std.proofs.lemmas.List.Sums.{sum_by-cons, sum_by-append, sum_by_push}
use Rattle.std.proofs.lemmas.List.{append_assoc, append-nil, take-append-le, length-take-le}
use Rattle.std.proofs.Math.Seq.{take-append-add}
use Rattle.sparse_image.specs.Outside.{Grew, GrewInPart, GrewOrLost, HasRoom, Fell}
use Rattle.sparse_image.specs.declared.chunk.Chunk.{Chunk}
use Rattle.sparse_image.specs.Walks.{chunk_len}
use Rattle.sparse_image.specs.Puts.{Puts, PutsInPart, padded_part, padded_chunk, padded_chunks}
use Rattle.sparse_image.proofs.PaddedLemmas.{padded-zero, part-add}

pub grew-none : (a : Option (List ℕ)) → Grew a a []
grew-none None = tt
grew-none (Some xs) = sym (append-nil xs)

pub grew-then : (a b c : Option (List ℕ)) (xs ys : List ℕ) → Grew a b xs → Grew b c ys → Grew a c (xs ++ ys)
grew-then None None None xs ys p q = tt
grew-then None None (Some c) xs ys p q = absurd q
grew-then None (Some b) c xs ys p q = absurd p
grew-then (Some a) None c xs ys p q = absurd p
grew-then (Some a) (Some b) None xs ys p q = absurd q
grew-then (Some a) (Some b) (Some c) xs ys p q = q ∙ ap (λ (zs : List ℕ). zs ++ ys) p ∙ append_assoc a xs ys

lost-none : (a : Option (List ℕ)) → GrewOrLost a a []
lost-none None = tt
lost-none (Some xs) = sym (append-nil xs)

-- bytes that were put whole, and then some that were put or lost
lost-then : (a b c : Option (List ℕ)) (xs ys : List ℕ) → Grew a b xs → GrewOrLost b c ys → GrewOrLost a c (xs ++ ys)
lost-then None None None xs ys p q = tt
lost-then None None (Some c) xs ys p q = absurd q
lost-then None (Some b) c xs ys p q = absurd p
lost-then (Some a) None c xs ys p q = absurd p
lost-then (Some a) (Some b) None xs ys p q = tt
lost-then (Some a) (Some b) (Some c) xs ys p q = q ∙ ap (λ (zs : List ℕ). zs ++ ys) p ∙ append_assoc a xs ys

pub fell-none : (a : Option ℕ) → Fell a a 0
fell-none None = tt
fell-none (Some n) = omega arith

pub fell-then : (a b c : Option ℕ) (n m : ℕ) → Fell a b n → Fell b c m → Fell a c (n + m)
fell-then None None None n m p q = tt
fell-then None None (Some c) n m p q = absurd q
fell-then None (Some b) c n m p q = absurd p
fell-then (Some a) None c n m p q = absurd p
fell-then (Some a) (Some b) None n m p q = absurd q
fell-then (Some a) (Some b) (Some c) n m p q = omega arith

-- what is left fits
pub room-left : (a b : Option ℕ) (all n m : ℕ) → HasRoom a all → Fell a b n → n + m ≤ all → HasRoom b m
room-left None None all n m h p l = absurd h
room-left None (Some b) all n m h p l = absurd p
room-left (Some a) None all n m h p l = absurd p
room-left (Some a) (Some b) all n m h p l = omega arith

pub room-first : (a : Option ℕ) (all n : ℕ) → HasRoom a all → n ≤ all → HasRoom a n
room-first None all n h l = absurd h
room-first (Some a) all n h l = omega arith

-- told facts
pub told-then : (o : Option (List ℕ)) (f g : List ℕ → List ℕ) (xs ys : List ℕ) → IfSome o (λ file. xs ≡ f file) → IfSome o (λ file. ys ≡ g file) → IfSome o (λ file. xs ++ ys ≡ f file ++ g file)
told-then None f g xs ys p q = tt
told-then (Some file) f g xs ys p q = ap (λ (zs : List ℕ). zs ++ ys) p ∙ ap (λ (zs : List ℕ). f file ++ zs) q

pub told-on : {X : Type 0} (o : Option (List ℕ)) (f g : List ℕ → X) (x : X) → IfSome o (λ file. f file ≡ g file) → IfSome o (λ file. x ≡ f file) → IfSome o (λ file. x ≡ g file)
told-on None f g x p q = tt
told-on (Some file) f g x p q = q ∙ p

pub puts-none : (o : Option (List ℕ)) (a : Option (List ℕ)) → Puts o (λ file. []) 0 a a
puts-none None a = record { bytes = []; long = refl; wanted = tt; grew = grew-none a }
puts-none (Some file) a = record { bytes = []; long = refl; wanted = refl; grew = grew-none a }

front-same : (o : Option (List ℕ)) (f g : List ℕ → List ℕ) (k : ℕ) (xs : List ℕ) → IfSome o (λ file. f file ≡ g file) → IfSome o (λ file. xs ≡ take k (f file)) → IfSome o (λ file. xs ≡ take k (g file))
front-same None f g k xs h p = tt
front-same (Some file) f g k xs h p = p ∙ ap (take k) h

-- a front of two parts that holds the first
front-then : (o : Option (List ℕ)) (f g : List ℕ → List ℕ) (xs ys : List ℕ) → IfSome o (λ file. xs ≡ f file) → IfSome o (λ file. ys ≡ take (length ys) (g file)) → IfSome o (λ file. xs ++ ys ≡ take (length (xs ++ ys)) (f file ++ g file))
front-then None f g xs ys p q = tt
front-then (Some file) f g xs ys p q =
    ap (λ (zs : List ℕ). xs ++ zs) q
    ∙ sym (take-append-add xs (g file) (length ys))
    ∙ ap (λ (k : ℕ). take k (xs ++ g file)) (sym (length-append xs ys))
    ∙ ap (λ (zs : List ℕ). take (length (xs ++ ys)) (zs ++ g file)) p

-- a front of the first of two parts
front-first : (o : Option (List ℕ)) (f g : List ℕ → List ℕ) (xs : List ℕ) → IfSome o (λ file. xs ≡ take (length xs) (f file)) → IfSome o (λ file. xs ≡ take (length xs) (f file ++ g file))
front-first None f g xs p = tt
front-first (Some file) f g xs p =
    let l : length xs ≤ length (f file) = omega (arith, ap length p, length-take {A = ℕ} (length xs) (f file)) in
    p ∙ sym (take-append-le (length xs) (f file) (g file) l)

module _ (o : Option (List ℕ)) (f g : List ℕ → List ℕ) (n m : ℕ) (a b : Option (List ℕ)) where
  pub puts-same : IfSome o (λ file. f file ≡ g file) → n ≡ m → Puts o f n a b → Puts o g m a b
  puts-same h e p = record { bytes = p.bytes; long = p.long ∙ e; wanted = told-on o f g p.bytes h p.wanted; grew = p.grew }

  pub part-same : IfSome o (λ file. f file ≡ g file) → n ≡ m → PutsInPart o f n a b → PutsInPart o g m a b
  part-same h e p = record { bytes = p.bytes; short = omega (arith, p.short); wanted = front-same o f g (length p.bytes) p.bytes h p.wanted; grew = p.grew }

  pub puts-then : (c : Option (List ℕ)) → Puts o f n a b → Puts o g m b c → Puts o (λ file. f file ++ g file) (n + m) a c
  puts-then c p q = record {
    bytes = p.bytes ++ q.bytes;
    long = omega (arith, length-append p.bytes q.bytes, p.long, q.long);
    wanted = told-then o f g p.bytes q.bytes p.wanted q.wanted;
    grew = grew-then a b c p.bytes q.bytes p.grew q.grew;
  }

  pub puts-part : (c : Option (List ℕ)) → Puts o f n a b → PutsInPart o g m b c → PutsInPart o (λ file. f file ++ g file) (n + m) a c
  puts-part c p q = record {
    bytes = p.bytes ++ q.bytes;
    short = omega (arith, length-append p.bytes q.bytes, p.long, q.short);
    wanted = front-then o f g p.bytes q.bytes p.wanted q.wanted;
    grew = lost-then a b c p.bytes q.bytes p.grew q.grew;
  }

  pub part-puts : PutsInPart o f n a b → PutsInPart o (λ file. f file ++ g file) (n + m) a b
  part-puts p = record {
    bytes = p.bytes;
    short = omega (arith, p.short);
    wanted = front-first o f g p.bytes p.wanted;
    grew = p.grew;
  }

-- all of some bytes, or a front of them
pub puts-all : (o : Option (List ℕ)) (f : List ℕ → List ℕ) (n : ℕ) (xs : List ℕ) (a b : Option (List ℕ)) → length xs ≡ n → IfSome o (λ file. xs ≡ f file) → Grew a b xs → Puts o f n a b
puts-all o f n xs a b l w g = record { bytes = xs; long = l; wanted = w; grew = g }

part-by : (o : Option (List ℕ)) (f : List ℕ → List ℕ) (n : ℕ) (a b : Option (List ℕ)) → 0 < n → GrewOrLost a b [] → PutsInPart o f n a b
part-by None f n a b h g = record { bytes = []; short = h; wanted = tt; grew = g }
part-by (Some file) f n a b h g = record { bytes = []; short = h; wanted = refl; grew = g }

pub part-none : (o : Option (List ℕ)) (f : List ℕ → List ℕ) (n : ℕ) (a : Option (List ℕ)) → 0 < n → PutsInPart o f n a a
part-none o f n a h = part-by o f n a a h (lost-none a)

front-told : (o : Option (List ℕ)) (f : List ℕ → List ℕ) (k : ℕ) (xs : List ℕ) → k ≤ length xs → IfSome o (λ file. xs ≡ f file) → IfSome o (λ file. take k xs ≡ take (length (take k xs)) (f file))
front-told None f k xs l w = tt
front-told (Some file) f k xs l w = ap (take k) w ∙ ap (λ (j : ℕ). take j (f file)) (sym (length-take-le k xs l))

pub puts-front : (o : Option (List ℕ)) (f : List ℕ → List ℕ) (n : ℕ) (xs : List ℕ) (a b : Option (List ℕ)) → length xs ≡ n → 0 < n → IfSome o (λ file. xs ≡ f file) → GrewInPart a b xs → PutsInPart o f n a b
puts-front o f n xs None None l h w g = part-none o f n None h
puts-front o f n xs None (Some b) l h w g = absurd g
puts-front o f n xs (Some a) None l h w g = part-by o f n (Some a) None h tt
puts-front o f n xs (Some a) (Some b) l h w (k, s, e) =
    let long = length-take-le k xs (omega arith) in
    record { bytes = take k xs; short = omega (arith, long, s); wanted = front-told o f k xs (omega arith) w; grew = e }

-- what is equal over every list is equal over a told one
pub told-each : {X : Type 0} (o : Option (List ℕ)) (f g : List ℕ → X) → ((file : List ℕ) → f file ≡ g file) → IfSome o (λ file. f file ≡ g file)
told-each None f g h = tt
told-each (Some file) f g h = h file

pub on-err : {T E P : Type 0} (r : Result T E) → P → OnErr r P
on-err (Ok x) p = tt
on-err (Err e) p = p

pub on-err-both : {T E P Q R : Type 0} (r : Result T E) → (P → Q → R) → OnErr r P → OnErr r Q → OnErr r R
on-err-both (Ok x) f p q = tt
on-err-both (Err e) f p q = f p q

-- a part of a source behind another
module _ (o : Option (List ℕ)) (at done size : ℕ) (a b c : Option (List ℕ)) where
  pub copy-more : Puts o (padded_part at done) done a b → Puts o (padded_part (at + done) size) size b c → Puts o (padded_part at (done + size)) (done + size) a c
  copy-more p q =
      puts-same o (λ file. padded_part at done file ++ padded_part (at + done) size file) (padded_part at (done + size)) (done + size) (done + size) a c
      (told-each o (λ file. padded_part at done file ++ padded_part (at + done) size file) (padded_part at (done + size)) (λ file. sym (part-add at done size file))) refl
      (puts-then o (padded_part at done) (padded_part (at + done) size) done size a b c p q)

  pub copy-part : (n : ℕ) → done + size ≤ n → Puts o (padded_part at done) done a b → PutsInPart o (padded_part (at + done) size) size b c → PutsInPart o (padded_part at n) n a c
  copy-part n h p q =
      let f : List ℕ → List ℕ = λ file. padded_part at done file ++ padded_part (at + done) size file in
      let rest = n - (done + size) in
      let e : done + size + rest ≡ n = omega arith in
      part-same o (λ file. f file ++ padded_part (at + (done + size)) rest file) (padded_part at n) (done + size + rest) n a c
      (told-each o (λ file. f file ++ padded_part (at + (done + size)) rest file) (padded_part at n)
      (λ file. ap (λ (xs : List ℕ). xs ++ padded_part (at + (done + size)) rest file) (sym (part-add at done size file)) ∙ sym (part-add at (done + size) rest file) ∙ ap (λ (k : ℕ). padded_part at k file) e)) e
      (part-puts o f (padded_part (at + (done + size)) rest) (done + size) rest a c (puts-part o (padded_part at done) (padded_part (at + done) size) done size a b c p q))

pub copy-none : (o : Option (List ℕ)) (at : ℕ) (a : Option (List ℕ)) → Puts o (padded_part at 0) 0 a a
copy-none o at a = puts-same o (λ file. []) (padded_part at 0) 0 0 a a (told-each o (λ file. []) (padded_part at 0) (λ file. sym (padded-zero (drop at file)))) refl (puts-none o a)

-- the same by another name of the source and of the length
pub copy-puts : (o p : Option (List ℕ)) (at k n : ℕ) (a b : Option (List ℕ)) → o ≡ p → k ≡ n → Puts o (padded_part at k) k a b → Puts p (padded_part at n) n a b
copy-puts o p at k n a b e f w = subst (λ (x : Option (List ℕ)). Puts x (padded_part at n) n a b) e (subst (λ (x : ℕ). Puts o (padded_part at x) x a b) f w)

pub copy-front : (o p : Option (List ℕ)) (at k n : ℕ) (a b : Option (List ℕ)) → o ≡ p → k ≡ n → PutsInPart o (padded_part at k) k a b → PutsInPart p (padded_part at n) n a b
copy-front o p at k n a b e f w = subst (λ (x : Option (List ℕ)). PutsInPart x (padded_part at n) n a b) e (subst (λ (x : ℕ). PutsInPart o (padded_part at x) x a b) f w)

-- bytes that no source tells, and then a part of a source
module _ (o : Option (List ℕ)) (head : List ℕ) (want : List ℕ → List ℕ) (m n : ℕ) (a b : Option (List ℕ)) (l : length head ≡ m) where
  head-all : IfSome o (λ file. head ≡ head)
  head-all = told-each o (λ file. head) (λ file. head) (λ file. refl)

  pub head-puts : (p : Option (List ℕ)) (c : Option (List ℕ)) → p ≡ o → Grew a b head → Puts p want n b c → Puts o (λ file. head ++ want file) (m + n) a c
  head-puts p c e g w = puts-then o (λ file. head) want m n a b c (puts-all o (λ file. head) m head a b l head-all g) (subst (λ (x : Option (List ℕ)). Puts x want n b c) e w)

  pub head-part : (p : Option (List ℕ)) (c : Option (List ℕ)) → p ≡ o → Grew a b head → PutsInPart p want n b c → PutsInPart o (λ file. head ++ want file) (m + n) a c
  head-part p c e g w = puts-part o (λ file. head) want m n a b c (puts-all o (λ file. head) m head a b l head-all g) (subst (λ (x : Option (List ℕ)). PutsInPart x want n b c) e w)

  pub head-front : 0 < m → GrewInPart a b head → PutsInPart o (λ file. head ++ want file) (m + n) a b
  head-front h g = part-puts o (λ file. head) want m n a b (puts-front o (λ file. head) m head a b l h head-all g)

-- of some chunks, those before the rest were put
pub record PartsPut (o : Option (List ℕ)) (block : ℕ) (chunks rest : List Chunk) (a b : Option (List ℕ)) (r s : Option ℕ) : Type 0 where
  pub done : List Chunk
  pub same : chunks ≡ done ++ rest
  pub put : Puts o (padded_chunks block done) (sum_by (chunk_len block) done) a b
  pub room : Fell r s (sum_by (chunk_len block) done)

pub parts-none : (o : Option (List ℕ)) (block : ℕ) (chunks : List Chunk) (a : Option (List ℕ)) (r : Option ℕ) → PartsPut o block chunks chunks a a r r
parts-none o block chunks a r = record { done = []; same = refl; put = puts-none o a; room = fell-none r }

module _ (o : Option (List ℕ)) (block : ℕ) (chunks : List Chunk) (chunk : Chunk) (rest : List Chunk) (a b : Option (List ℕ)) (r s : Option ℕ) (w : PartsPut o block chunks (chunk ∷ rest) a b r s) where
  one-more : (file : List ℕ) → padded_chunks block w.done file ++ padded_chunk block chunk file ≡ padded_chunks block (w.done ++ (chunk ∷ [])) file
  one-more file = sym (flat_map-append (λ (c : Chunk). padded_chunk block c file) w.done (chunk ∷ []) ∙ ap (λ (xs : List ℕ). padded_chunks block w.done file ++ xs) (append-nil (padded_chunk block chunk file)))

  pub parts-more : (c : Option (List ℕ)) (t : Option ℕ) → Puts o (padded_chunk block chunk) (chunk_len block chunk) b c → Fell s t (chunk_len block chunk) → PartsPut o block chunks rest a c r t
  parts-more c t p f =
      let len = sum_by_push (chunk_len block) w.done chunk in
      record {
        done = w.done ++ (chunk ∷ []);
        same = w.same ∙ sym (append_assoc w.done (chunk ∷ []) rest);
        put = puts-same o (λ file. padded_chunks block w.done file ++ padded_chunk block chunk file) (padded_chunks block (w.done ++ (chunk ∷ []))) (sum_by (chunk_len block) w.done + chunk_len block chunk) (sum_by (chunk_len block) (w.done ++ (chunk ∷ []))) a c
            (told-each o (λ file. padded_chunks block w.done file ++ padded_chunk block chunk file) (padded_chunks block (w.done ++ (chunk ∷ []))) one-more) (sym len)
            (puts-then o (padded_chunks block w.done) (padded_chunk block chunk) (sum_by (chunk_len block) w.done) (chunk_len block chunk) a b c w.put p);
        room = subst (λ (n : ℕ). Fell r t n) (sym len) (fell-then r s t (sum_by (chunk_len block) w.done) (chunk_len block chunk) w.room f);
      }

  parts-len : sum_by (chunk_len block) chunks ≡ sum_by (chunk_len block) w.done + (chunk_len block chunk + sum_by (chunk_len block) rest)
  parts-len = ap (λ (xs : List Chunk). sum_by (chunk_len block) xs) w.same ∙ sum_by-append (chunk_len block) w.done (chunk ∷ rest) ∙ ap (λ (n : ℕ). sum_by (chunk_len block) w.done + n) (sum_by-cons (chunk_len block) chunk rest)

  all-three : (file : List ℕ) → (padded_chunks block w.done file ++ padded_chunk block chunk file) ++ padded_chunks block rest file ≡ padded_chunks block chunks file
  all-three file =
      append_assoc (padded_chunks block w.done file) (padded_chunk block chunk file) (padded_chunks block rest file)
      ∙ sym (flat_map-append (λ (c : Chunk). padded_chunk block c file) w.done (chunk ∷ rest))
      ∙ ap (λ (xs : List Chunk). padded_chunks block xs file) (sym w.same)

  pub parts-part : (c : Option (List ℕ)) → PutsInPart o (padded_chunk block chunk) (chunk_len block chunk) b c → PutsInPart o (padded_chunks block chunks) (sum_by (chunk_len block) chunks) a c
  parts-part c p =
      let f : List ℕ → List ℕ = λ file. padded_chunks block w.done file ++ padded_chunk block chunk file in
      let n = sum_by (chunk_len block) w.done + chunk_len block chunk in
      let m = sum_by (chunk_len block) rest in
      part-same o (λ file. f file ++ padded_chunks block rest file) (padded_chunks block chunks) (n + m) (sum_by (chunk_len block) chunks) a c
      (told-each o (λ file. f file ++ padded_chunks block rest file) (padded_chunks block chunks) all-three) (omega (arith, parts-len))
      (part-puts o f (padded_chunks block rest) n m a c (puts-part o (padded_chunks block w.done) (padded_chunk block chunk) (sum_by (chunk_len block) w.done) (chunk_len block chunk) a b c w.put p))

  pub parts-room : HasRoom r (sum_by (chunk_len block) chunks) → HasRoom s (chunk_len block chunk)
  parts-room h = room-left r s (sum_by (chunk_len block) chunks) (sum_by (chunk_len block) w.done) (chunk_len block chunk) h w.room (omega (arith, parts-len))

  pub parts-small : (n : ℕ) → sum_by (chunk_len block) chunks < n → chunk_len block chunk < n
  parts-small n h = omega (arith, parts-len)

pub parts-all : (o : Option (List ℕ)) (block : ℕ) (chunks rest : List Chunk) (a b : Option (List ℕ)) (r s : Option ℕ) → PartsPut o block chunks rest a b r s → rest ≡ [] →
    Puts o (padded_chunks block chunks) (sum_by (chunk_len block) chunks) a b × Fell r s (sum_by (chunk_len block) chunks)
parts-all o block chunks rest a b r s w e =
    let k : w.done ≡ chunks = sym (w.same ∙ ap (λ (xs : List Chunk). w.done ++ xs) e ∙ append-nil w.done) in
    (subst (λ (xs : List Chunk). Puts o (padded_chunks block xs) (sum_by (chunk_len block) xs) a b) k w.put, subst (λ (xs : List Chunk). Fell r s (sum_by (chunk_len block) xs)) k w.room)

-- bytes that were put whole, and then a part of others
pub part-behind : (a b c : Option (List ℕ)) (xs ys : List ℕ) → Grew a b xs → GrewInPart b c ys → GrewInPart a c (xs ++ ys)
part-behind None None None xs ys p q = tt
part-behind None None (Some c) xs ys p q = absurd q
part-behind None (Some b) c xs ys p q = absurd p
part-behind (Some a) None c xs ys p q = absurd p
part-behind (Some a) (Some b) None xs ys p q = tt
part-behind (Some a) (Some b) (Some c) xs ys p (k, s, e) = (
  length xs + k,
  omega (arith, s, length-append xs ys),
  e ∙ ap (λ (zs : List ℕ). zs ++ take k ys) p ∙ append_assoc a xs (take k ys) ∙ ap (λ (zs : List ℕ). a ++ zs) (sym (take-append-add xs ys k)),
)

pub ruleset puts = (puts-all, puts-front, part-none)
