-- Reads of a store, one after another, and texts that grow by them.
use Rattle.std.proofs.Common.{◌≡◌, ◌∙◌, refl, sym, ap, ℕ, ◌+◌, ◌<◌, zero, suc, List, [], ◌∷◌, ◌++◌, take, length, Option, Some, None, arith, append-nil, append_assoc}
use Rattle.std.specs.Prelude.{slice_get}
use Rattle.std.specs.List.{flat_map}
use Rattle.std.proofs.lemmas.List.Concat.{flat_map-append}
use Rattle.dev_disk.specs.Disks.{DiskTold}
use Rattle.dev_disk.proofs.TwinLemmas.{FilesKept-then, same-bytes}
use Rattle.dev_store.specs.Held.{Held, image_of}
use Rattle.device_jobs.specs.Working.{IsReadOn, AddsText}

pub reads-then : {K L : Type 0} (told : K → DiskTold) (lent : K → L) (a b c : Held K) → IsReadOn told lent a b → IsReadOn told lent b c → IsReadOn told lent a c
reads-then told lent a b c h k = record {
  device = k.device ∙ h.device;
  usable = k.usable;
  files = FilesKept-then (told a.disk) (told b.disk) (told c.disk) h.files k.files;
  same = k.same ∙ h.same;
}

-- the image is as it was
pub reads-image : {K L : Type 0} (told : K → DiskTold) (lent : K → L) (a b : Held K) → IsReadOn told lent a b → image_of told b ≡ image_of told a
reads-image told lent a b h = same-bytes (told a.disk) (told b.disk) h.files

-- texts that grow
pub adds-nothing : (image : Option (List ℕ)) (text : List ℕ) → AddsText image [] text text
adds-nothing None text = tt
adds-nothing (Some file) text = sym (append-nil text)

pub adds-then : (image : Option (List ℕ)) (x y a b c : List ℕ) → AddsText image x a b → AddsText image y b c → AddsText image (x ++ y) a c
adds-then None x y a b c h k = tt
adds-then (Some file) x y a b c h k = k ∙ (ap (λ t. t ++ y) h ∙ append_assoc a x y)

pub adds-whole : (image : Option (List ℕ)) (x a b : List ℕ) → b ≡ a ++ x → AddsText image x a b
adds-whole None x a b e = tt
adds-whole (Some file) x a b e = e

-- one element more
pub take-next : {X : Type 0} (xs : List X) (n : ℕ) (x : X) → slice_get xs n ≡ Some x → take (suc n) xs ≡ take n xs ++ x ∷ []
take-next [] n x e = absurd cc
take-next (y ∷ xs) zero x e = let same : y ≡ x = cc in ap (λ t. t ∷ []) same
take-next (y ∷ xs) (suc n) x e = ap (λ t. y ∷ t) (take-next xs n x e)

pub flat-next : {X : Type 0} (f : X → List ℕ) (xs : List X) (n : ℕ) (x : X) → slice_get xs n ≡ Some x → flat_map f (take n xs) ++ f x ≡ flat_map f (take (n + 1) xs)
flat-next f xs n x e =
    let one : flat_map f (x ∷ []) ≡ f x = append-nil (f x) in
    let next : take (n + 1) xs ≡ take n xs ++ x ∷ [] = ap (λ k. take k xs) {x = n + 1} {y = suc n} (omega arith) ∙ take-next xs n x e in
    sym (ap (flat_map f) next ∙ (flat_map-append f (take n xs) (x ∷ []) ∙ ap (λ t. flat_map f (take n xs) ++ t) one))

-- all of them
pub take-all : {X : Type 0} (xs : List X) (n : ℕ) → slice_get xs n ≡ None → take n xs ≡ xs
take-all [] zero e = refl
take-all [] (suc n) e = refl
take-all (x ∷ xs) zero e = absurd cc
take-all (x ∷ xs) (suc n) e = ap (λ t. x ∷ t) (take-all xs n e)

pub get-below : {X : Type 0} (xs : List X) (n : ℕ) (x : X) → slice_get xs n ≡ Some x → n < length xs
get-below [] n x e = absurd cc
get-below (y ∷ xs) zero x e = omega arith
get-below (y ∷ xs) (suc n) x e = let i = get-below xs n x e in omega (arith, i)

-- three texts are added
pub adds-three : (t x y z a b c : List ℕ) → a ≡ t ++ x → b ≡ a ++ y → c ≡ b ++ z → c ≡ t ++ (x ++ y ++ z)
adds-three t x y z a b c h k l = l ∙ (ap (λ w. w ++ z) (k ∙ (ap (λ w. w ++ y) h ∙ append_assoc t x y)) ∙ append_assoc t (x ++ y) z)
