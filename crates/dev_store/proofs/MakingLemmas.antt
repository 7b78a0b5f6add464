-- What the writes of a new image make of a file of zeros.
use Rattle.std.proofs.Common.{◌≡◌, ◌∙◌, refl, ap, sym, subst, ℕ, zero, suc, ◌+◌, ◌*◌, ◌-◌, ◌^◌, ◌<◌, ◌≤◌, Bool, true, List, [], ◌++◌, length, Option, Some, None, Result, Ok, Err, arith, add-one, append_assoc, length-append}
use Rattle.std.specs.Prelude.{IsTrue, OnOk, sum_by}
use Rattle.std.proofs.Math.Nat.{mul-le-mul_right}
use Rattle.std.proofs.lemmas.List.{append-nil}
use Rattle.fb_frame.specs.Bytes.{zeros}
use Rattle.fb_frame.specs.Told.{Both}
use Rattle.dev_model.specs.Images.{copies}
use Rattle.dev_disk.specs.Files.{Files, content, written, IsInside, Wrote, KeepsOthers, KeepsUnopened}
use Rattle.dev_disk.specs.Calls.{Agrees, IsOpen, HasZeros}
use Rattle.dev_disk.specs.Disks.{DiskTold, open_bytes, FilesKept, OpenKept, Writes, Creates}
use Rattle.dev_disk.proofs.TwinLemmas.{HasRange, content-range, keeps-more, same-bytes, OpenKept-then, OpenKept-files}
use Rattle.dev_store.specs.declared.layout.SuperPart.{SuperPart}
use Rattle.dev_store.specs.Layouts.{LayoutValue, layout_of, parts_end, super_size, image_size}
use Rattle.dev_store.specs.States.{record_block}
use Rattle.dev_store.specs.Laid.{is_good_super}
use Rattle.dev_store.specs.NewDevice.{filled_up, made_image, new_state, super_image}
use Rattle.dev_store.specs.Making.{image_front, geometry_block, table_block, super_front, SuperWrites, IsFilled, Fills}
use Rattle.dev_store.specs.Opening.{Makes, MadeIn, IsMade}
use Rattle.dev_store.proofs.LaidLemmas.{laid_valid}
use Rattle.dev_store.proofs.MadeText.{text-of}
use Rattle.dev_store.proofs.WrittenLemmas.{written-none, written-more, written-front, written-behind}
use Rattle.dev_store.proofs.MadeParts.{length-filled, length-copies, zeros-join}
use Rattle.dev_store.proofs.MadeSuper.{HasNumbers, has-numbers, length-geometry_block, length-room}
use Rattle.dev_store.proofs.MadeLemmas.{length-record, made_stands}

copies-more : (n : ℕ) (block : List ℕ) → copies n block ++ block ≡ copies (suc n) block
copies-more zero block = sym (append-nil block)
copies-more (suc n) block = append_assoc block (copies n block) block ∙ ap (λ t. block ++ t) (copies-more n block)

told-more : (a b c : Option (List ℕ)) (at n : ℕ) (x y : List ℕ) → at + length x ≡ n → HasRange a at (length x) → Wrote a b at x → Wrote b c n y → Wrote a c at (x ++ y)
told-more None None None at n x y e r w v = tt
told-more None None (Some new) at n x y e r w v = v
told-more None (Some mid) c at n x y e r w v = absurd w
told-more (Some old) None c at n x y e r w v = absurd w
told-more (Some old) (Some mid) None at n x y e r w v = v
told-more (Some old) (Some mid) (Some new) at n x y e r w v =
    v ∙ (ap (λ f. written f n y) w ∙ written-more old at n x y e (omega (arith, e, r)))

pub Writes-more : (a b c : DiskTold) (at n : ℕ) (x y : List ℕ) → at + length x ≡ n → HasRange (open_bytes a) at (length x) → Writes a b at x → Writes b c n y → Writes a c at (x ++ y)
Writes-more a b c at n x y e r w v = record {
  wrote = told-more (open_bytes a) (open_bytes b) (open_bytes c) at n x y e r w.wrote v.wrote;
  kept = OpenKept-then a b c w.kept v.kept;
}

-- a part of a range that lies in the file
pub inside-part : (size : Option ℕ) (at count place n : ℕ) → IsInside size at count → place + n ≤ at + count → IsInside size place n
inside-part None at count place n h k = h
inside-part (Some size) at count place n h k = omega (arith, h, k)

pub FilesKept-self : (a : DiskTold) → FilesKept a a
FilesKept-self a = record { files = refl; path = refl; length = refl; later = omega arith; torn = λ old written left t. t }

pub OpenKept-self : (a : DiskTold) → OpenKept a a
OpenKept-self a = OpenKept-files a a (FilesKept-self a)

told-none : (a : Option (List ℕ)) (at : ℕ) → Wrote a a at []
told-none None at = tt
told-none (Some file) at = sym (written-none file at)

pub Writes-none : (a : DiskTold) (at : ℕ) → Writes a a at []
Writes-none a at = record { wrote = told-none (open_bytes a) at; kept = OpenKept-self a }

-- one more of the copies that are written
pub Writes-copy : (a b c : DiskTold) (at place k count : ℕ) (block : List ℕ) → Agrees a.files a.open_path a.open_length → IsInside a.open_length at (count * length block) → k < count →
    place ≡ at + k * length block → Writes a b at (copies k block) → Writes b c place block → Writes a c at (copies (k + 1) block)
Writes-copy a b c at place k count block law inside less p w v =
    let long = length-copies k block in
    let fits : k * length block ≤ count * length block = mul-le-mul_right (length block) (omega (arith, less)) in
    let range : HasRange (open_bytes a) at (length (copies k block)) = content-range a.files a.open_path a.open_length at (length (copies k block)) law
    (inside-part a.open_length at (count * length block) at (length (copies k block)) inside (omega (arith, long, fits))) in
    let more : copies k block ++ block ≡ copies (k + 1) block = copies-more k block ∙ ap (λ n. copies n block) (sym (add-one k)) in
    subst (Writes a c at) more (Writes-more a b c at place (copies k block) block (omega (arith, long, p)) range w v)

-- the next of the copies lies in the file
pub copy-inside : (old now : Option ℕ) (at place k count n : ℕ) → now ≡ old → IsInside old at (count * n) → k < count → place ≡ at + k * n → IsInside now place n
copy-inside old now at place k count n e h less p =
    let fits : (k + 1) * n ≤ count * n = mul-le-mul_right n (omega (arith, less)) in
    subst (λ size. IsInside size place n) (sym e) (inside-part old at (count * n) place n h (omega (arith, p, fits)))

length-front : (layout : LayoutValue) (unlocked : Bool) → length layout.text ≤ 4096 → length (image_front layout unlocked) ≡ 12288
unfolding image_front
length-front layout unlocked h =
    let block = record_block 2 (new_state layout unlocked) in
    omega (arith, length-append (filled_up 4096 layout.text) (copies 2 block), length-filled 4096 layout.text h, length-copies 2 block, length-record layout unlocked)

length-super_front : (s : SuperPart) → HasNumbers s → length (super_front s) ≡ 8192 + 2 * s.slots * s.max_size
unfolding super_front geometry_block table_block
length-super_front s n =
    let g = geometry_block s in
    let t = table_block s in
    let tables : length (copies (2 * s.slots) t) ≡ 2 * s.slots * s.max_size = length-copies (2 * s.slots) t ∙ ap (λ k. 2 * s.slots * k) (length-room s n) in
    omega (arith, length-append (copies 2 g) (copies (2 * s.slots) t), length-copies 2 g, length-geometry_block s, tables)

-- the image without super, and with one
abbrev sum_of : LayoutValue → ℕ
sum_of layout = sum_by (λ p. p.size) layout.physical

plain-image : (layout : LayoutValue) (unlocked : Bool) → layout.super_part ≡ None → image_front layout unlocked ++ zeros (sum_of layout) ≡ made_image layout unlocked
unfolding image_front made_image
plain-image layout unlocked e =
    let text = filled_up 4096 layout.text in
    let blocks = copies 2 (record_block 2 (new_state layout unlocked)) in
    append_assoc text blocks (zeros (sum_of layout))
    ∙ ap (λ t. text ++ (blocks ++ t)) (sym (append-nil (zeros (sum_of layout))) ∙ ap (λ part. zeros (sum_of layout) ++ super_image part) (sym e))

super-image : (layout : LayoutValue) (unlocked : Bool) (s : SuperPart) → layout.super_part ≡ Some s →
    image_front layout unlocked ++ (zeros (sum_of layout + 4096) ++ (super_front s ++ zeros (s.size - (12288 + 2 * s.slots * s.max_size)))) ≡ made_image layout unlocked
unfolding image_front made_image super_front geometry_block table_block
super-image layout unlocked s e =
    let text = filled_up 4096 layout.text in
    let blocks = copies 2 (record_block 2 (new_state layout unlocked)) in
    let g = copies 2 (geometry_block s) in
    let t = copies (2 * s.slots) (table_block s) in
    let rest = zeros (s.size - (12288 + 2 * s.slots * s.max_size)) in
    let sum = sum_of layout in
    append_assoc text blocks (zeros (sum + 4096) ++ ((g ++ t) ++ rest))
    ∙ ap (λ x. text ++ (blocks ++ x)) (
    ap (λ x. x ++ ((g ++ t) ++ rest)) (sym (zeros-join sum 4096))
    ∙ (append_assoc (zeros sum) (zeros 4096) ((g ++ t) ++ rest)
    ∙ (ap (λ x. zeros sum ++ (zeros 4096 ++ x)) (append_assoc g t rest)
    ∙ ap (λ part. zeros sum ++ super_image part) (sym e)))
    )

-- what a file of zeros has become
abbrev IsImage : LayoutValue → Bool → List ℕ → List ℕ → Type 0
IsImage layout unlocked old new = old ≡ zeros (image_size layout) → new ≡ made_image layout unlocked

filled-plain : (layout : LayoutValue) (unlocked : Bool) (old new : List ℕ) → length layout.text ≤ 4096 → layout.super_part ≡ None → new ≡ written old 0 (image_front layout unlocked) →
    IsImage layout unlocked old new
filled-plain layout unlocked old new h e w z =
    let front = image_front layout unlocked in
    let size : image_size layout - length front ≡ sum_of layout = ap (λ part. parts_end layout.physical + super_size part - length front) e ∙ omega (arith, length-front layout unlocked h) in
    w ∙ (ap (λ file. written file 0 front) z ∙ (written-front (image_size layout) front ∙ (ap (λ n. front ++ zeros n) size ∙ plain-image layout unlocked e)))

filled-super : (layout : LayoutValue) (unlocked : Bool) (s : SuperPart) (old mid new : List ℕ) → length layout.text ≤ 4096 → HasNumbers s → layout.super_part ≡ Some s →
    mid ≡ written old 0 (image_front layout unlocked) → new ≡ written mid (parts_end layout.physical + 4096) (super_front s) → IsImage layout unlocked old new
filled-super layout unlocked s old mid new h n e w v z =
    let front = image_front layout unlocked in
    let more = super_front s in
    let sum = sum_of layout in
    let long = length-front layout unlocked h in
    let long_more = length-super_front s n in
    let size : image_size layout - length front ≡ sum + s.size = ap (λ part. parts_end layout.physical + super_size part - length front) e ∙ omega (arith, long) in
    let begun : mid ≡ front ++ zeros (sum + s.size) = w ∙ (ap (λ file. written file 0 front) z ∙ (written-front (image_size layout) front ∙ ap (λ k. front ++ zeros k) size)) in
    let left : sum + s.size - (sum + 4096 + length more) ≡ s.size - (12288 + 2 * s.slots * s.max_size) = omega (arith, long_more) in
    v ∙ (ap (λ file. written file (parts_end layout.physical + 4096) more) begun
    ∙ (written-behind (sum + 4096) (sum + s.size) (parts_end layout.physical + 4096) front more (omega (arith, long)) (omega (arith, long_more, n.long))
    ∙ (ap (λ k. front ++ (zeros (sum + 4096) ++ (more ++ zeros k))) left ∙ super-image layout unlocked s e)))

-- the same of told files
told-plain : (layout : LayoutValue) (unlocked : Bool) (a b : Option (List ℕ)) → length layout.text ≤ 4096 → layout.super_part ≡ None → Wrote a b 0 (image_front layout unlocked) →
    Both (IsImage layout unlocked) a b
told-plain layout unlocked None None h e w = tt
told-plain layout unlocked None (Some new) h e w = w
told-plain layout unlocked (Some old) None h e w = w
told-plain layout unlocked (Some old) (Some new) h e w = filled-plain layout unlocked old new h e w

told-super : (layout : LayoutValue) (unlocked : Bool) (s : SuperPart) (a b c : Option (List ℕ)) → length layout.text ≤ 4096 → HasNumbers s → layout.super_part ≡ Some s →
    Wrote a b 0 (image_front layout unlocked) → Wrote b c (parts_end layout.physical + 4096) (super_front s) → Both (IsImage layout unlocked) a c
told-super layout unlocked s None None None h n e w v = tt
told-super layout unlocked s None None (Some new) h n e w v = v
told-super layout unlocked s None (Some mid) c h n e w v = absurd w
told-super layout unlocked s (Some old) None c h n e w v = absurd w
told-super layout unlocked s (Some old) (Some mid) None h n e w v = v
told-super layout unlocked s (Some old) (Some mid) (Some new) h n e w v = filled-super layout unlocked s old mid new h n e w v

told-made : (layout : LayoutValue) (unlocked : Bool) (a b : Option (List ℕ)) → IsMade layout unlocked (made_image layout unlocked) → Both (IsImage layout unlocked) a b → Both (IsFilled layout unlocked) a b
told-made layout unlocked None None m h = tt
told-made layout unlocked None (Some new) m h = h
told-made layout unlocked (Some old) None m h = h
told-made layout unlocked (Some old) (Some new) m h = λ z. subst (IsMade layout unlocked) (sym (h z)) m

by-part : (layout : LayoutValue) (unlocked : Bool) (part : Option SuperPart) (a b c : DiskTold) → length layout.text ≤ 4096 → layout.super_part ≡ part → is_good_super part ≡ true →
    Writes a b 0 (image_front layout unlocked) → SuperWrites part (parts_end layout.physical) b c → Both (IsImage layout unlocked) (open_bytes a) (open_bytes c)
by-part layout unlocked None a b c h e g w v = subst (Both (IsImage layout unlocked) (open_bytes a)) (sym v) (told-plain layout unlocked (open_bytes a) (open_bytes b) h e w.wrote)
by-part layout unlocked (Some s) a b c h e g w v = told-super layout unlocked s (open_bytes a) (open_bytes b) (open_bytes c) h (has-numbers s g) e w.wrote v.wrote

-- the front, super and a sync
pub Fills-all : (layout : LayoutValue) (unlocked : Bool) (a b c d : DiskTold) → layout_of layout.text ≡ Ok layout → Writes a b 0 (image_front layout unlocked) →
    SuperWrites layout.super_part (parts_end layout.physical) b c → FilesKept c d → Fills layout unlocked a d
Fills-all layout unlocked a b c d law w v k =
    subst (Both (IsFilled layout unlocked) (open_bytes a)) (sym (same-bytes c d k))
    (told-made layout unlocked (open_bytes a) (open_bytes c) (made_stands layout.text layout unlocked law)
    (by-part layout unlocked layout.super_part a b c (text-of layout.text layout law).short refl (laid_valid layout.text layout law).super w v))

-- the told file of the path
made-in : (layout : LayoutValue) (unlocked : Bool) (old new : Option (List ℕ)) → old ≡ Some (zeros (image_size layout)) → Both (IsFilled layout unlocked) old new → MadeIn layout unlocked new
made-in layout unlocked None new e f = absurd cc
made-in layout unlocked (Some old) None e f = f
made-in layout unlocked (Some old) (Some new) e f = f (same-some old (zeros (image_size layout)) e)
  where
    same-some : (x y : List ℕ) → Some x ≡ Some y → x ≡ y
    same-some x y h = cc

makes-by : (layout : LayoutValue) (unlocked : Bool) (path : List ℕ) (old new : Option Files) (before now : Option (List ℕ)) →
    HasZeros old path (image_size layout) → IsOpen old before path → now ≡ before → KeepsUnopened old new before → Both (IsFilled layout unlocked) (content old before) (content new now) →
    Makes new path layout unlocked
unfolding content
makes-by layout unlocked path old None before now z o s k f = tt
makes-by layout unlocked path None (Some g) before now z o s k f = absurd (none-some (subst (λ p. KeepsUnopened None (Some g) p) o k))
  where
    none-some : Some g ≡ None → ⊥
    none-some h = cc
makes-by layout unlocked path (Some h) (Some g) before now z o s k f =
    made-in layout unlocked (h path) (g path) z
    (subst (λ p. Both (IsFilled layout unlocked) (h path) (content (Some g) p)) (s ∙ o) (subst (λ p. Both (IsFilled layout unlocked) (content (Some h) p) (content (Some g) now)) o f))

Makes-filled : (layout : LayoutValue) (unlocked : Bool) (path : List ℕ) (size : ℕ) (a b c : DiskTold) → size ≡ image_size layout → Creates a b path size →
    Fills layout unlocked b c → OpenKept b c → Makes c.files path layout unlocked
Makes-filled layout unlocked path size a b c e z f k =
    makes-by layout unlocked path b.files c.files b.open_path c.open_path (subst (HasZeros b.files path) e z.zeros) z.path_open k.path k.others f

-- where the writes were done, the told file of the path is an image of the new device
pub makes-where : {T E : Type 0} (r : Result T E) (layout : LayoutValue) (unlocked : Bool) (path : List ℕ) (size : ℕ) (a b c : DiskTold) → size ≡ image_size layout →
    Creates a b path size → OpenKept b c → OnOk r (Fills layout unlocked b c) → OnOk r (Makes c.files path layout unlocked)
makes-where (Ok x) layout unlocked path size a b c e z k f = Makes-filled layout unlocked path size a b c e z f k
makes-where (Err x) layout unlocked path size a b c e z k f = tt

keeps-by : (path : List ℕ) (a b c : Option Files) (before : Option (List ℕ)) → KeepsOthers a b path → IsOpen b before path → KeepsUnopened b c before → KeepsOthers a c path
keeps-by path a None c before h o k = subst (λ f. KeepsOthers a f path) (sym (subst (KeepsUnopened None c) o k)) h
keeps-by path a (Some g) c before h o k = keeps-more a (Some g) c (Some path) h (subst (KeepsUnopened (Some g) c) o k)

-- no other file changed
pub KeepsOthers-made : (path : List ℕ) (size : ℕ) (a b c : DiskTold) → Creates a b path size → OpenKept b c → KeepsOthers a.files c.files path
KeepsOthers-made path size a b c z k = keeps-by path a.files b.files c.files b.open_path z.others z.path_open k.others

-- the text's block and both records
pub front-written : (layout : LayoutValue) (unlocked : Bool) (text block : List ℕ) (a b c : DiskTold) → Agrees a.files a.open_path a.open_length → IsInside a.open_length 0 12288 →
    text ≡ filled_up 4096 layout.text → length text ≡ 4096 → block ≡ record_block 2 (new_state layout unlocked) → Writes a b 0 (copies 1 text) → Writes b c 4096 (copies 2 block) →
    Writes a c 0 (image_front layout unlocked)
unfolding image_front
front-written layout unlocked text block a b c law inside t l r w v =
    let one : copies 1 text ≡ text = append-nil text in
    let range : HasRange (open_bytes a) 0 (length text) = content-range a.files a.open_path a.open_length 0 (length text) law (inside-part a.open_length 0 12288 0 (length text) inside (omega (arith, l))) in
    let all : Writes a c 0 (text ++ copies 2 block) = Writes-more a b c 0 4096 text (copies 2 block) (omega (arith, l)) range (subst (Writes a b 0) one w) v in
    subst (λ x. Writes a c 0 (x ++ copies 2 (record_block 2 (new_state layout unlocked)))) t (subst (λ x. Writes a c 0 (text ++ copies 2 x)) r all)

-- where the copies in super lie
pub geometry-inside : (s : SuperPart) (size : Option ℕ) (at n : ℕ) → IsTrue (is_good_super (Some s)) → IsInside size at s.size → n ≡ 4096 → IsInside size (at + 4096) (2 * n)
geometry-inside s size at n h i l = inside-part size at s.size (at + 4096) (2 * n) i (omega (arith, (has-numbers s h).long, l))

pub geometry-small : (s : SuperPart) (at n : ℕ) → IsTrue (is_good_super (Some s)) → at + s.size < 2 ^ 64 → n ≡ 4096 → at + 4096 + 2 * n < 2 ^ 64
geometry-small s at n h i l = omega (arith, (has-numbers s h).long, l, i)

pub tables-begin : (s : SuperPart) (at : ℕ) → IsTrue (is_good_super (Some s)) → at + s.size < 2 ^ 64 → at + 12288 < 2 ^ 64
tables-begin s at h i = omega (arith, (has-numbers s h).long, i)

tables-end : (s : SuperPart) (at n : ℕ) → IsTrue (is_good_super (Some s)) → n ≡ s.max_size → at + 12288 + 2 * s.slots * n ≤ at + s.size
tables-end s at n h l =
    let all : 2 * s.slots * n ≡ 2 * s.slots * s.max_size = ap (λ k. 2 * s.slots * k) l in omega (arith, (has-numbers s h).long, all)

pub tables-inside : (s : SuperPart) (old now : Option ℕ) (at n : ℕ) → IsTrue (is_good_super (Some s)) → now ≡ old → IsInside old at s.size → n ≡ s.max_size →
    IsInside now (at + 12288) (2 * s.slots * n)
tables-inside s old now at n h e i l =
    subst (λ size. IsInside size (at + 12288) (2 * s.slots * n)) (sym e) (inside-part old at s.size (at + 12288) (2 * s.slots * n) i (tables-end s at n h l))

pub tables-small : (s : SuperPart) (at n : ℕ) → IsTrue (is_good_super (Some s)) → at + s.size < 2 ^ 64 → n ≡ s.max_size → at + 12288 + 2 * s.slots * n < 2 ^ 64
tables-small s at n h i l = omega (arith, tables-end s at n h l, i)

pub super-written : (s : SuperPart) (at : ℕ) (geometry table : List ℕ) (a b c : DiskTold) → Agrees a.files a.open_path a.open_length → IsTrue (is_good_super (Some s)) → IsInside a.open_length at s.size →
    geometry ≡ geometry_block s → length geometry ≡ 4096 → table ≡ table_block s → Writes a b (at + 4096) (copies 2 geometry) → Writes b c (at + 12288) (copies (2 * s.slots) table) →
    Writes a c (at + 4096) (super_front s)
unfolding super_front
super-written s at geometry table a b c law h inside g l t w v =
    let long : length (copies 2 geometry) ≡ 2 * length geometry = length-copies 2 geometry in
    let range : HasRange (open_bytes a) (at + 4096) (length (copies 2 geometry)) = content-range a.files a.open_path a.open_length (at + 4096) (length (copies 2 geometry)) law
    (subst (IsInside a.open_length (at + 4096)) (sym long) (geometry-inside s a.open_length at (length geometry) h inside l)) in
    let all : Writes a c (at + 4096) (copies 2 geometry ++ copies (2 * s.slots) table) =
    Writes-more a b c (at + 4096) (at + 12288) (copies 2 geometry) (copies (2 * s.slots) table) (omega (arith, long, l)) range w v in
    subst (λ x. Writes a c (at + 4096) (copies 2 x ++ copies (2 * s.slots) (table_block s))) g (subst (λ x. Writes a c (at + 4096) (copies 2 geometry ++ copies (2 * s.slots) x)) t all)

-- super of a layout
pub good-part : (layout : LayoutValue) (s : SuperPart) (part : Option SuperPart) → layout_of layout.text ≡ Ok layout → part ≡ layout.super_part → part ≡ Some s → IsTrue (is_good_super (Some s))
good-part layout s part law e h = subst (λ p. IsTrue (is_good_super p)) (sym e ∙ h) (laid_valid layout.text layout law).super
