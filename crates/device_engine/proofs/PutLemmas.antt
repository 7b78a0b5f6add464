-- Bytes that a store writes over a partition, piece by piece.
use Rattle.std.proofs.Common.{◌≡◌, ◌∙◌, ◌⊎◌, inl, inr, refl, ap, sym, subst, ℕ, ◌+◌, ◌≤◌, List, [], ◌++◌, length, arith}
use Rattle.std.specs.Prelude.{◌-◌, ◌*◌, ◌/◌, ◌%◌, take, drop, replicate}
use Rattle.dev_model.specs.Images.{copies}
use Rattle.dev_store.proofs.MadeParts.{length-copies}
use Rattle.std.proofs.Math.Seq.{take-add}
use Rattle.std.proofs.lemmas.List.{length-take-le, length-drop, take-replicate, replicate-append-replicate}
use Rattle.dev_disk.specs.Calls.{Agrees}
use Rattle.dev_disk.specs.Disks.{DiskTold}
use Rattle.dev_disk.specs.Files.{written}
use Rattle.dev_disk.proofs.Writes.{length-written}
use Rattle.dev_disk.proofs.TwinLemmas.{Rose-behind}
use Rattle.dev_store.specs.Changes.{range_flaw, put_at, repeated}
use Rattle.dev_store.specs.Held.{Held, image_of, seen, IsWhole, DiskKept}
use Rattle.dev_store.specs.StoreCalls.{Changes, IsPartly, part_bytes}
use Rattle.dev_store.proofs.PartDevices.{put_twice, put_none, put_zeroed, partly_after}
use Rattle.dev_store.proofs.SuperRepairLemmas.{self-kept}
use Rattle.device_engine.specs.Putting.{HasRoom, IsTorn}
use Rattle.device_engine.proofs.HaltLemmas.{tells-still, holds-zeroed, seen-self}
use Rattle.device_engine.proofs.RangeLemmas.{range-in, range-seen, range-kept, range-less, disk-then, seen-puts, seen-either, partly-widen}

-- how a disk's meanings hang together
abbrev pub AgreesNow : DiskTold → Type 0
AgreesNow t = Agrees t.files t.open_path t.open_length

module _ {K L : Type 0} (told : K → DiskTold) (lent : K → L) (name : List ℕ) where
  -- so far these bytes were put
  pub record IsPut (at : ℕ) (bytes : List ℕ) (old now : Held K) : Type 0 where
    pub whole : IsWhole told now
    pub put : Changes told (put_at name at bytes) old now
    pub kept : DiskKept told lent old.disk now.disk

  pub kept-self : (held : Held K) → DiskKept told lent held.disk held.disk
  kept-self held = record { same = refl; kept = self-kept (told held.disk) }

  pub put-nothing : (at : ℕ) (old : Held K) → IsWhole told old → IsPut at [] old old
  put-nothing at old w = record {
    whole = w;
    put = seen-self (image_of told old) old.device w.sound.stands ∙ ap (seen (image_of told old)) (sym (put_none name at old.device));
    kept = kept-self old;
  }

  pub put-more : (at place : ℕ) (xs ys bytes : List ℕ) (old mid new : Held K) → place ≡ at + length xs → bytes ≡ xs ++ ys → IsPut at xs old mid → Changes told (put_at name place ys) mid new → IsWhole told new →
      DiskKept told lent mid.disk new.disk → AgreesNow (told mid.disk) → AgreesNow (told new.disk) → IsPut at bytes old new
  put-more at place xs ys bytes old mid new e is p changed whole kept a b =
      let m = image_of told mid in
      let n = image_of told new in
      record {
        whole = whole;
        put = changed
            ∙ (ap (λ d. seen n (put_at name place ys d)) p.put
            ∙ (seen-puts m n (tells-still told lent mid.disk new.disk kept a b) name place ys (put_at name at xs old.device)
            ∙ (ap (λ k. seen n (put_at name k ys (put_at name at xs old.device))) e
            ∙ (ap (seen n) (put_twice name at xs ys old.device) ∙ ap (λ bs. seen n (put_at name at bs old.device)) (sym is)))));
        kept = disk-then told lent old.disk mid.disk new.disk p.kept kept;
      }

  pub room-less : (end less : ℕ) (old : Held K) → HasRoom told name end old → less ≤ end → HasRoom told name less old
  room-less end less old r h = record { whole = r.whole; fits = range-less old.device name 0 less end r.fits (omega (arith, h)) }

  pub room-far : (end at : ℕ) (xs : List ℕ) (old mid : Held K) → HasRoom told name end old → at + length xs ≤ end → IsPut at xs old mid → HasRoom told name end mid
  room-far end at xs old mid r h p =
      let long = range-in old.device name 0 end r.fits in
      record {
        whole = p.whole;
        fits = ap (λ d. range_flaw d name 0 end) p.put
            ∙ (range-seen (image_of told mid) (put_at name at xs old.device) name 0 end
            ∙ range-kept name (λ b. written b at xs) old.device end (length-written (part_bytes name old.device) at xs (omega (arith, long.1, h))) r.fits);
      }

  pub torn-far : (end at place n count : ℕ) (xs : List ℕ) (old mid new : Held K) → HasRoom told name end old → place ≡ at + length xs → length xs + n ≤ count → at + count ≤ end → IsPut at xs old mid →
      AgreesNow (told old.disk) → AgreesNow (told mid.disk) → IsTorn told name place n mid new → IsTorn told name at count old new
  torn-far end at place n count xs old mid new r e h k p a b t =
      let long = range-in old.device name 0 end r.fits in
      let inside : at + length xs ≤ length (part_bytes name old.device) = omega (arith, long.1, h, k) in
      record {
        part = by inside (seen-either (image_of told mid) old.device (put_at name at xs old.device)
            (λ f. holds-zeroed (image_of told old) old.device (tells-still told lent old.disk mid.disk p.kept a b ∙ f) r.whole.sound.stands) (put_zeroed name at xs old.device r.whole.sound.valid inside));
        sound = t.sound;
        rose = Rose-behind (told old.disk).faults (told mid.disk).faults (told new.disk).faults p.kept.kept.later t.rose;
      }
    where
      by : at + length xs ≤ length (part_bytes name old.device) → (seen (image_of told mid) (put_at name at xs old.device) ≡ put_at name at xs old.device) ⊎ (seen (image_of told mid) (put_at name at xs old.device) ≡ old.device) →
          IsPartly name at count old.device new.device
      by inside (inl s) =
          let part = subst (λ q. IsPartly name q n mid.device new.device) e t.part in
          partly-widen name at (length xs + n) at count old.device new.device
          (partly_after name at n xs old.device new.device inside (subst (λ d. IsPartly name (at + length xs) n d new.device) (p.put ∙ s) part)) (omega arith) (omega (arith, h))
      by inside (inr s) =
          partly-widen name place n at count old.device new.device (subst (λ d. IsPartly name place n d new.device) (p.put ∙ s) t.part) (omega (arith, e)) (omega (arith, e, h))

-- pieces of bytes, and of zeros
pub piece-long : (done count : ℕ) (bytes : List ℕ) → done + count ≤ length bytes → length (take (done + count - done) (drop done bytes)) ≡ count
piece-long done count bytes h =
    let d = length-drop done bytes in
    let e : done + count - done ≡ count = omega arith in
    length-take-le (done + count - done) (drop done bytes) (omega arith) ∙ e

pub piece-more : (done count : ℕ) (bytes : List ℕ) → take (done + count) bytes ≡ take done bytes ++ take (done + count - done) (drop done bytes)
piece-more done count bytes =
    let e : done + count - done ≡ count = omega arith in
    take-add done count bytes ∙ ap (λ n. take done bytes ++ take n (drop done bytes)) (sym e)

pub zeros-front : (count : ℕ) (zeros : List ℕ) → zeros ≡ replicate (length zeros) 0 → count ≤ length zeros → take count zeros ≡ replicate count 0
zeros-front count zeros e h = ap (take count) e ∙ take-replicate count (length zeros) 0 h

pub zeros-more : (done count : ℕ) (piece : List ℕ) → piece ≡ replicate count 0 → replicate (done + count) 0 ≡ replicate done 0 ++ piece
zeros-more done count piece e = sym (ap (λ p. replicate done 0 ++ p) e ∙ replicate-append-replicate done count 0)

pub fill-long : (count : ℕ) (pattern : List ℕ) → count % 4 ≡ 0 → length pattern ≡ 4 → length (repeated count pattern) ≡ count
fill-long count pattern h four =
    let long : length (copies (count / 4) pattern) ≡ count / 4 * 4 = length-copies (count / 4) pattern ∙ ap (λ n. count / 4 * n) four in
    long ∙ omega (arith, h)
