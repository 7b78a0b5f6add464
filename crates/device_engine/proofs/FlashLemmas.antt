-- The runs of an image that a store puts over a partition, one after another.
use Rattle.std.proofs.Common.{◌≡◌, ◌∙◌, ◌⊎◌, inl, inr, refl, ap, sym, subst, ℕ, zero, suc, ◌+◌, ◌≤◌, List, [], ◌∷◌, ◌++◌, map, length, length-append, take, drop, replicate, Option, Some, None, arith}
use Rattle.std.specs.Prelude.{◌-◌, ◌/◌, unwrap_or, bytes_eq, option_map, if◌then◌else◌}
use Rattle.std.proofs.lemmas.List.{length-replicate, append_assoc, append-nil}
use Rattle.dev_disk.specs.Disks.{DiskTold}
use Rattle.dev_disk.specs.Files.{written, DifferWithin}
use Rattle.dev_disk.proofs.TwinLemmas.{Rose-behind}
use Rattle.dev_model.specs.declared.cells.Cell.{Cell}
use Rattle.dev_model.specs.declared.cells.Cell.TheVariants.{Byte, Skip}
use Rattle.dev_model.specs.declared.device.Dev.{Dev}
use Rattle.dev_model.specs.Images.{over, copies}
use Rattle.dev_model.specs.Partitions.{bytes_of, with_bytes}
use Rattle.dev_model.proofs.Runs.{over_length}
use Rattle.dev_model.proofs.KeepingLemmas.{writes_twice, writes_one, writes-alike}
use Rattle.wire_model.specs.Halts.{DiffersUnder}
use Rattle.sparse_image.specs.declared.runs.Run.{Run}
use Rattle.sparse_image.specs.declared.runs.Run.TheVariants.{Copy, Fill, Zeros}
use Rattle.sparse_image.specs.Runs.{Left, Gives, GivesRun, IsImage, run_at, run_cells}
use Rattle.dev_store.specs.Changes.{put_at, range_flaw}
use Rattle.dev_store.specs.Held.{Held, image_of, seen, IsWhole, DiskKept}
use Rattle.dev_store.specs.StoreCalls.{Changes, IsPartly, part_bytes}
use Rattle.dev_store.proofs.PartDevices.{names-apart, bytes-alike, part-changed}
use Rattle.device_engine.proofs.HaltLemmas.{tells-still, holds-zeroed, seen-self}
use Rattle.device_engine.proofs.PutLemmas.{AgreesNow, kept-self}
use Rattle.device_engine.proofs.RangeLemmas.{range-less, range-seen, range-kept, disk-then, seen-puts, seen-either, same-device, bytes-zeroed}
use Rattle.device_engine.specs.Putting.{run_bytes, HasRoom, IsTorn, IsTornUnder}

-- bytes that are written are cells that are put over
written-over : (b n : ℕ) (bs y : List ℕ) → n ≡ b + length bs → n ≤ length y → take b y ++ (bs ++ drop n y) ≡ over (replicate b Skip ++ map Byte bs) y
written-over zero zero [] y e h = refl
written-over zero zero (v ∷ bs) y e h = absurd (omega arith)
written-over zero (suc n) [] y e h = absurd (omega arith)
written-over zero (suc n) (v ∷ bs) [] e h = absurd (omega arith)
written-over zero (suc n) (v ∷ bs) (o ∷ y) e h = ap (λ (xs : List ℕ). v ∷ xs) (written-over zero n bs y (omega arith) (omega arith))
written-over (suc b) zero bs y e h = absurd (omega arith)
written-over (suc b) (suc n) bs [] e h = absurd (omega arith)
written-over (suc b) (suc n) bs (o ∷ y) e h = ap (λ (xs : List ℕ). o ∷ xs) (written-over b n bs y (omega arith) (omega arith))

written-cells : (b : ℕ) (bs y : List ℕ) → b + length bs ≤ length y → written y b bs ≡ over (replicate b Skip ++ map Byte bs) y
unfolding written
written-cells b bs y h = written-over b (b + length bs) bs y refl h

-- cells behind a front
behind-front : (front own : List Cell) (k b : ℕ) (x : List ℕ) → b ≡ length front + k → over (replicate b Skip ++ own) (over front x) ≡ over (front ++ (replicate k Skip ++ own)) x
behind-front [] own k b x e = let f : b ≡ k = omega arith in ap (λ (n : ℕ). over (replicate n Skip ++ own) x) f
behind-front (c ∷ front) own k zero x e = absurd (omega arith)
behind-front (c ∷ front) own k (suc b) [] e = refl
behind-front (Byte v ∷ front) own k (suc b) (o ∷ x) e = ap (λ (xs : List ℕ). v ∷ xs) (behind-front front own k b x (omega arith))
behind-front (Skip ∷ front) own k (suc b) (o ∷ x) e = ap (λ (xs : List ℕ). o ∷ xs) (behind-front front own k b x (omega arith))

-- what differs only where an image has bytes
pub under-same : (cells : List Cell) (x : List ℕ) → DiffersUnder cells x x
under-same [] x = refl
under-same (c ∷ cells) [] = refl
under-same (Byte v ∷ cells) (o ∷ x) = under-same cells x
under-same (Skip ∷ cells) (o ∷ x) = (refl, under-same cells x)

under-then : (cells : List Cell) (x y z : List ℕ) → DiffersUnder cells x y → DiffersUnder cells y z → DiffersUnder cells x z
under-then [] x y z h k = k ∙ h
under-then (c ∷ cells) [] [] z h k = k
under-then (c ∷ cells) [] (m ∷ y) z h k = absurd cc
under-then (c ∷ cells) (o ∷ x) [] z h k = absurd h
under-then (c ∷ cells) (o ∷ x) (m ∷ y) [] h k = absurd k
under-then (Byte v ∷ cells) (o ∷ x) (m ∷ y) (n ∷ z) h k = under-then cells x y z h k
under-then (Skip ∷ cells) (o ∷ x) (m ∷ y) (n ∷ z) h k = (k.0 ∙ h.0, under-then cells x y z h.1 k.1)

pub under-over : (front cells : List Cell) (x : List ℕ) → DiffersUnder (front ++ cells) x (over front x)
under-over [] cells x = under-same cells x
under-over (c ∷ front) cells [] = refl
under-over (Byte v ∷ front) cells (o ∷ x) = under-over front cells x
under-over (Skip ∷ front) cells (o ∷ x) = (refl, under-over front cells x)

under-bytes : (n : ℕ) (bs : List ℕ) (cells : List Cell) (x y : List ℕ) → n ≡ length bs → length y ≡ length x → drop n y ≡ drop n x → DiffersUnder (map Byte bs ++ cells) x y
under-bytes zero [] cells x y e l d = subst (DiffersUnder cells x) (sym d) (under-same cells x)
under-bytes zero (v ∷ bs) cells x y e l d = absurd (omega arith)
under-bytes (suc n) [] cells x y e l d = absurd (omega arith)
under-bytes (suc n) (v ∷ bs) cells [] [] e l d = refl
under-bytes (suc n) (v ∷ bs) cells [] (m ∷ y) e l d = absurd (omega arith)
under-bytes (suc n) (v ∷ bs) cells (o ∷ x) [] e l d = absurd (omega arith)
under-bytes (suc n) (v ∷ bs) cells (o ∷ x) (m ∷ y) e l d = under-bytes n bs cells x y (omega arith) (omega arith) d

same-head : (m o : ℕ) (x y : List ℕ) → m ∷ y ≡ o ∷ x → (m ≡ o) × (y ≡ x)
same-head m o x y e = (cc, cc)

under-range : (a n : ℕ) (front : List Cell) (bs : List ℕ) (cells : List Cell) (x y : List ℕ) → a ≡ length front → n ≡ a + length bs → length y ≡ length x → take a y ≡ take a x → drop n y ≡ drop n x →
    DiffersUnder (front ++ (map Byte bs ++ cells)) x y
under-range zero n [] bs cells x y e f l t d = under-bytes n bs cells x y (omega arith) l d
under-range (suc a) n [] bs cells x y e f l t d = absurd (omega arith)
under-range zero n (c ∷ front) bs cells x y e f l t d = absurd (omega arith)
under-range (suc a) zero (c ∷ front) bs cells x y e f l t d = absurd (omega arith)
under-range (suc a) (suc n) (c ∷ front) bs cells [] [] e f l t d = refl
under-range (suc a) (suc n) (c ∷ front) bs cells [] (m ∷ y) e f l t d = absurd (omega arith)
under-range (suc a) (suc n) (c ∷ front) bs cells (o ∷ x) [] e f l t d = absurd (omega arith)
under-range (suc a) (suc n) (Byte v ∷ front) bs cells (o ∷ x) (m ∷ y) e f l t d = under-range a n front bs cells x y (omega arith) (omega arith) (omega arith) (same-head m o (take a x) (take a y) t).1 d
under-range (suc a) (suc n) (Skip ∷ front) bs cells (o ∷ x) (m ∷ y) e f l t d =
    let h = same-head m o (take a x) (take a y) t in
    (h.0, under-range a n front bs cells x y (omega arith) (omega arith) (omega arith) h.1 d)

-- the cells of a run are its bytes
map-copies : (n : ℕ) (xs : List ℕ) → copies n (map Byte xs) ≡ map Byte (copies n xs)
map-copies zero xs = refl
map-copies (suc n) xs = ap (λ (ys : List Cell). map Byte xs ++ ys) (map-copies n xs) ∙ sym (map-append xs (copies n xs)) where
  map-append : (xs ys : List ℕ) → map Byte (xs ++ ys) ≡ map Byte xs ++ map Byte ys
  map-append [] ys = refl
  map-append (x ∷ xs) ys = ap (λ (zs : List Cell). Byte x ∷ zs) (map-append xs ys)

map-zeros : (n : ℕ) → replicate n (Byte 0) ≡ map Byte (replicate n 0)
map-zeros zero = refl
map-zeros (suc n) = ap (λ (cells : List Cell). Byte 0 ∷ cells) (map-zeros n)

pub cells-are : (run : Run) → run_cells run ≡ map Byte (run_bytes run)
cells-are (Copy at bytes) = refl
cells-are (Fill at length pattern) = map-copies (length / 4) pattern
cells-are (Zeros at length) = map-zeros length

pub map-long : (xs : List ℕ) → length (map Byte xs) ≡ length xs
map-long [] = refl
map-long (x ∷ xs) = ap suc (map-long xs)

-- skips change nothing
over-skips : (front : List Cell) (k : ℕ) (x : List ℕ) → over (front ++ replicate k Skip) x ≡ over front x
over-skips [] zero x = refl
over-skips [] (suc k) [] = refl
over-skips [] (suc k) (o ∷ x) = ap (λ (xs : List ℕ). o ∷ xs) (over-skips [] k x)
over-skips (c ∷ front) k [] = refl
over-skips (Byte v ∷ front) k (o ∷ x) = ap (λ (xs : List ℕ). v ∷ xs) (over-skips front k x)
over-skips (Skip ∷ front) k (o ∷ x) = ap (λ (xs : List ℕ). o ∷ xs) (over-skips front k x)

-- the bytes of the partition after cells were put over it
over-part : (name : List ℕ) (front : List Cell) (dev : Dev) → part_bytes name (with_bytes name (over front) dev) ≡ over front (part_bytes name dev)
over-part name front dev = by (bytes_of dev name) refl where
  none : (front : List Cell) → over front [] ≡ []
  none [] = refl
  none (c ∷ front) = refl

  by : (o : Option (List ℕ)) → bytes_of dev name ≡ o → part_bytes name (with_bytes name (over front) dev) ≡ over front (part_bytes name dev)
  by (Some x) e = part-changed name (over front) dev x e ∙ ap (λ o. over front (unwrap_or o [])) (sym e)
  by None e =
      ap (λ o. unwrap_or o []) (writes_one name name (over front) dev)
      ∙ (ap (λ o. unwrap_or (option_map (if bytes_eq name name then over front else λ bytes. bytes) o) []) e ∙ (sym (none front) ∙ ap (λ o. over front (unwrap_or o [])) (sym e)))

-- no cells change nothing
over-none : (name : List ℕ) (dev : Dev) → with_bytes name (over []) dev ≡ dev
over-none name dev = same-device name (over []) dev (λ x. refl)

module _ {K L : Type 0} (told : K → DiskTold) (lent : K → L) (name : List ℕ) (cells : List Cell) where
  -- The image's front up to what is left was put over the partition.
  pub record IsPutSoFar (left : Left) (old now : Held K) : Type 0 where
    pub front : List Cell
    pub split : cells ≡ front ++ left.cells
    pub long : length front ≡ left.at
    pub len : left.len ≡ length cells
    pub whole : IsWhole told now
    pub put : Changes told (with_bytes name (over front)) old now
    pub kept : DiskKept told lent old.disk now.disk

  pub far-nothing : (left : Left) (old : Held K) → IsImage (Some cells) left → IsWhole told old → IsPutSoFar left old old
  far-nothing left old i w =
      let is : cells ≡ left.cells = let e = i.cells in cc in
      record {
        front = [];
        split = is;
        long = sym i.at;
        len = i.len ∙ ap length (sym is);
        whole = w;
        put = seen-self (image_of told old) old.device w.sound.stands ∙ ap (seen (image_of told old)) (sym (over-none name old.device));
        kept = kept-self told lent name old;
      }

  -- one run more
  module _ (left next : Left) (run : Run) (old mid : Held K) (p : IsPutSoFar left old mid) (gives : GivesRun left run next) where
    gap : ℕ
    gap = run_at run - left.at

    -- the cells before the run
    before : List Cell
    before = p.front ++ replicate gap Skip

    parts : cells ≡ before ++ (map Byte (run_bytes run) ++ next.cells)
    unfolding before gap
    parts =
        p.split
        ∙ (ap (λ (xs : List Cell). p.front ++ xs) gives.cells
        ∙ (sym (append_assoc p.front (replicate gap Skip) (run_cells run ++ next.cells)) ∙ ap (λ (xs : List Cell). (p.front ++ replicate gap Skip) ++ (xs ++ next.cells)) (cells-are run)))

    place : run_at run ≡ length p.front + gap
    unfolding gap
    place = omega (arith, p.long, gives.later)

    before-long : run_at run ≡ length before
    unfolding before gap
    before-long = omega (arith, place, length-append p.front (replicate gap Skip), length-replicate {A = Cell} gap Skip)

    all-long : length cells ≡ run_at run + (length (run_bytes run) + length next.cells)
    all-long =
        ap length parts
        ∙ (length-append before (map Byte (run_bytes run) ++ next.cells)
        ∙ omega (arith, before-long, length-append (map Byte (run_bytes run)) next.cells, map-long (run_bytes run)))

    -- the bytes after it
    joined : (x : List ℕ) → length cells ≤ length x → written (over p.front x) (run_at run) (run_bytes run) ≡ over (before ++ map Byte (run_bytes run)) x
    unfolding before
    joined x h =
        written-cells (run_at run) (run_bytes run) (over p.front x) (omega (arith, all-long, h, over_length p.front x))
        ∙ (behind-front p.front (map Byte (run_bytes run)) gap (run_at run) x place
        ∙ ap (λ (c : List Cell). over c x) (sym (append_assoc p.front (replicate gap Skip) (map Byte (run_bytes run)))))

    pub far-more : (new : Held K) → IsWhole told old → length cells ≤ length (part_bytes name old.device) → Changes told (put_at name (run_at run) (run_bytes run)) mid new → IsWhole told new →
        DiskKept told lent mid.disk new.disk → AgreesNow (told mid.disk) → AgreesNow (told new.disk) → IsPutSoFar next old new
    far-more new w fits changed whole kept a b =
        let m = image_of told mid in
        let n = image_of told new in
        let dev = old.device in
        let run_long = ap length (cells-are run) ∙ map-long (run_bytes run) in
        record {
          front = before ++ map Byte (run_bytes run);
          split = parts ∙ sym (append_assoc before (map Byte (run_bytes run)) next.cells);
          long = omega (arith, before-long, length-append before (map Byte (run_bytes run)), map-long (run_bytes run), run_long, gives.at);
          len = gives.len ∙ p.len;
          whole = whole;
          put = changed
              ∙ (ap (λ d. seen n (put_at name (run_at run) (run_bytes run) d)) p.put
              ∙ (seen-puts m n (tells-still told lent mid.disk new.disk kept a b) name (run_at run) (run_bytes run) (with_bytes name (over p.front) dev)
              ∙ ap (seen n) (writes_twice name (over p.front) (λ y. written y (run_at run) (run_bytes run)) dev
              ∙ bytes-alike name (λ x. written (over p.front x) (run_at run) (run_bytes run)) (over (before ++ map Byte (run_bytes run))) dev (names-apart dev w.sound.valid)
              (joined (part_bytes name dev) fits))));
          kept = disk-then told lent old.disk mid.disk new.disk p.kept kept;
        }

    -- the range in which the disk failed
    differs : (x y : List ℕ) → DifferWithin (run_at run) (length (run_bytes run)) x y → DiffersUnder cells x y
    differs x y d =
        subst (λ c. DiffersUnder c x y) (sym parts)
        (under-range (run_at run) (run_at run + length (run_bytes run)) before (run_bytes run) next.cells x y before-long refl d.same_length d.front d.rest)

    pub torn-under : (new : Held K) → IsWhole told old → AgreesNow (told old.disk) → AgreesNow (told mid.disk) → IsTorn told name (run_at run) (length (run_bytes run)) mid new → IsTornUnder told name cells old new
    torn-under new w a b t =
        by (seen-either (image_of told mid) old.device (with_bytes name (over p.front) old.device)
        (λ f. holds-zeroed (image_of told old) old.device (tells-still told lent old.disk mid.disk p.kept a b ∙ f) w.sound.stands) (bytes-zeroed name (over p.front) old.device (over_length p.front)))
      where
        by : (seen (image_of told mid) (with_bytes name (over p.front) old.device) ≡ with_bytes name (over p.front) old.device) ⊎ (seen (image_of told mid) (with_bytes name (over p.front) old.device) ≡ old.device) →
            IsTornUnder told name cells old new
        by (inl s) =
            let is : mid.device ≡ with_bytes name (over p.front) old.device = p.put ∙ s in
            let part = subst (λ d. IsPartly name (run_at run) (length (run_bytes run)) d new.device) is t.part in
            record {
              under = under-then cells (part_bytes name old.device) (part_bytes name (with_bytes name (over p.front) old.device)) (part_bytes name new.device)
                  (subst (DiffersUnder cells (part_bytes name old.device)) (sym (over-part name p.front old.device)) (subst (λ c. DiffersUnder c (part_bytes name old.device) (over p.front (part_bytes name old.device))) (sym p.split)
                  (under-over p.front left.cells (part_bytes name old.device)))) (differs (part_bytes name (with_bytes name (over p.front) old.device)) (part_bytes name new.device) part.differs);
              same = part.same ∙ writes_twice name (over p.front) (λ _. part_bytes name new.device) old.device;
              sound = t.sound;
              rose = Rose-behind (told old.disk).faults (told mid.disk).faults (told new.disk).faults p.kept.kept.later t.rose;
            }
        by (inr s) =
            let is : mid.device ≡ old.device = p.put ∙ s in
            let part = subst (λ d. IsPartly name (run_at run) (length (run_bytes run)) d new.device) is t.part in
            record {
              under = differs (part_bytes name old.device) (part_bytes name new.device) part.differs;
              same = part.same;
              sound = t.sound;
              rose = Rose-behind (told old.disk).faults (told mid.disk).faults (told new.disk).faults p.kept.kept.later t.rose;
            }

  -- room for what is left
  pub far-room : (left : Left) (end less : ℕ) (old mid : Held K) → IsPutSoFar left old mid → HasRoom told name end old → less ≤ end → HasRoom told name less mid
  far-room left end less old mid p r h = record {
    whole = p.whole;
    fits = range-less mid.device name 0 less end
        (ap (λ d. range_flaw d name 0 end) p.put
        ∙ (range-seen (image_of told mid) (with_bytes name (over p.front) old.device) name 0 end ∙ range-kept name (over p.front) old.device end (over_length p.front (part_bytes name old.device)) r.fits))
        (omega (arith, h));
  }

  -- all runs
  pub far-all : (left now : Left) (old mid : Held K) → IsPutSoFar left old mid → Gives left None now → mid.device ≡ seen (image_of told mid) (with_bytes name (over cells) old.device)
  far-all left now old mid p gives =
      p.put ∙ ap (seen (image_of told mid)) (writes-alike name (over p.front) (over cells) old.device (λ x. sym (over-skips p.front (now.at - left.at) x) ∙ ap (λ (c : List Cell). over c x) (sym is)))
    where
      is : cells ≡ p.front ++ replicate (now.at - left.at) Skip
      is = p.split
          ∙ ap (λ (xs : List Cell). p.front ++ xs)
          (gives.0.cells ∙ (ap (λ (xs : List Cell). replicate (now.at - left.at) Skip ++ xs) gives.1 ∙ append-nil (replicate (now.at - left.at) Skip)))
