-- What opening reads of a told file, one stage after another.
use Rattle.std.proofs.Common.{arith, ◌≡◌, ◌∙◌, ap, sym, subst, ℕ, ◌<◌, ◌≤◌, true, false, List, length, take, drop, Option, Some, None, Ok, Err, nat_le, ◌==◌}
use Rattle.std.specs.Prelude.{◌≢◌, ◌⊎◌, IfSome}
use Rattle.std.proofs.Common.{eq-eqb, inl, inr}
use Rattle.std.proofs.lemmas.Bool.{le-leb, ne_eqb}
use Rattle.std.proofs.lemmas.Bool.Decides.{leb_tells}
use Rattle.std.specs.Result.{result_ok}
use Rattle.dev_model.specs.declared.bad_image.BadImage.{BadImage}
use Rattle.dev_model.specs.declared.bad_image.BadImage.TheVariants.{ShortFile, BadLayout, BadLength, BadState}
use Rattle.dev_disk.specs.Calls.{Agrees, IsFileOf}
use Rattle.dev_disk.specs.Files.{Files, content, IsRead}
use Rattle.dev_disk.specs.Disks.{DiskTold, open_bytes}
use Rattle.dev_store.specs.declared.layout.LayoutError.{LayoutError}
use Rattle.dev_store.specs.declared.layout.SuperPart.{SuperPart}
use Rattle.dev_store.specs.declared.super_read.SuperRead.{SuperRead}
use Rattle.dev_store.specs.declared.image_read.ImageRead.{ImageRead}
use Rattle.dev_store.specs.declared.states_read.StateRead.{StateRead}
use Rattle.dev_store.specs.Layouts.{LayoutValue, layout_of, layout_in, text_in, image_size}
use Rattle.dev_store.specs.States.{record_in}
use Rattle.dev_store.specs.Stand.{stand, super_found, super_bytes, table_in, super_value}
use Rattle.dev_store.specs.SuperReads.{IsSuperRead}
use Rattle.dev_store.specs.Reading.{IsFront, IsStateRead, IsWithinRead, IsImageRead}
use Rattle.dev_store.proofs.OpenLemmas.{stands-short, stands-unlaid, stands-unlike, stands-stateless, stands-bad, state-recorded, stops}

pub told-two : (P Q R : List ℕ → Type 0) (o : Option (List ℕ)) → ((file : List ℕ) → P file → Q file → R file) → IfSome o P → IfSome o Q → IfSome o R
told-two P Q R None f h k = tt
told-two P Q R (Some file) f h k = f file h k

-- the told file has the length of the open one
content-long : (files : Option Files) (path : Option (List ℕ)) (size : ℕ) → Agrees files path (Some size) → IfSome (content files path) (λ file. length file ≡ size)
unfolding content
content-long None path size h = tt
content-long (Some f) None size h = absurd cc
content-long (Some f) (Some p) size h = by (f p) h
  where
    by : (o : Option (List ℕ)) → IsFileOf o size → IfSome o (λ file. length file ≡ size)
    by None k = absurd k
    by (Some file) k = k

pub told-long : (told : DiskTold) (size : ℕ) → Agrees told.files told.open_path told.open_length → told.open_length ≡ Some size → IfSome (open_bytes told) (λ file. length file ≡ size)
told-long told size h e = content-long told.files told.open_path size (subst (Agrees told.files told.open_path) e h)

-- the first block
block-text : (file block : List ℕ) → block ≡ take (length block) (drop 0 file) → length block ≡ 4096 → block ≡ take 4096 file
block-text file block h long = subst (λ n. block ≡ take n file) long h

pub layout-read : (o : Option (List ℕ)) (block text : List ℕ) (layout : LayoutValue) → IsRead o 0 block → length block ≡ 4096 → text ≡ text_in block → layout_of text ≡ Ok layout →
    IfSome o (λ file. layout_in file ≡ Some layout)
unfolding layout_in
layout-read None block text layout h long e k = tt
layout-read (Some file) block text layout h long e k =
    ap (λ b. result_ok (layout_of (text_in b))) (sym (block-text file block h long)) ∙ (ap (λ t. result_ok (layout_of t)) (sym e) ∙ ap result_ok k)

pub layout-unread : (o : Option (List ℕ)) (block text : List ℕ) (bad : LayoutError) → IsRead o 0 block → length block ≡ 4096 → text ≡ text_in block → layout_of text ≡ Err bad →
    IfSome o (λ file. layout_in file ≡ None)
unfolding layout_in
layout-unread None block text bad h long e k = tt
layout-unread (Some file) block text bad h long e k =
    ap (λ b. result_ok (layout_of (text_in b))) (sym (block-text file block h long)) ∙ (ap (λ t. result_ok (layout_of t)) (sym e) ∙ ap result_ok k)

-- how long it is
short : (n size : ℕ) → n ≡ size → size < 12288 → nat_le 12288 n ≡ false
short n size e h = by (leb_tells 12288 n)
  where
    by : ((nat_le 12288 n ≡ true) × (12288 ≤ n)) ⊎ ((nat_le 12288 n ≡ false) × (n < 12288)) → nat_le 12288 n ≡ false
    by (inl (a, b)) = absurd (omega (arith, e, h, b))
    by (inr (a, b)) = a

enough : (n size : ℕ) → n ≡ size → 12288 ≤ size → nat_le 12288 n ≡ true
enough n size e h = le-leb 12288 n (omega arith)

alike : (n size other : ℕ) → n ≡ size → size ≡ other → (n == other) ≡ true
alike n size other e h = eq-eqb n other (e ∙ h)

unlike : (n size other : ℕ) → n ≡ size → size ≢ other → (n == other) ≡ false
unlike n size other e h = ne_eqb n other (λ k. h (sym e ∙ k))

pub front-short : (o : Option (List ℕ)) (size : ℕ) → IfSome o (λ file. length file ≡ size) → size < 12288 → IfSome o (λ file. stand file ≡ Err ShortFile)
front-short None size h k = tt
front-short (Some file) size h k = stands-short file (short (length file) size h k)

pub front-unlaid : (o : Option (List ℕ)) (size : ℕ) → IfSome o (λ file. length file ≡ size) → 12288 ≤ size → IfSome o (λ file. layout_in file ≡ None) → IfSome o (λ file. stand file ≡ Err BadLayout)
front-unlaid None size h k l = tt
front-unlaid (Some file) size h k l = stands-unlaid file (enough (length file) size h k) l

pub front-unlike : (o : Option (List ℕ)) (size : ℕ) (layout : LayoutValue) → IfSome o (λ file. length file ≡ size) → 12288 ≤ size → IfSome o (λ file. layout_in file ≡ Some layout) →
    size ≢ image_size layout → IfSome o (λ file. stand file ≡ Err BadLength)
front-unlike None size layout h k l e = tt
front-unlike (Some file) size layout h k l e = stands-unlike file layout (enough (length file) size h k) l (unlike (length file) size (image_size layout) h e)

pub front-read : (o : Option (List ℕ)) (size : ℕ) (layout : LayoutValue) → IfSome o (λ file. length file ≡ size) → 12288 ≤ size → IfSome o (λ file. layout_in file ≡ Some layout) →
    size ≡ image_size layout → IfSome o (IsFront layout)
front-read None size layout h k l e = tt
front-read (Some file) size layout h k l e = record { enough = enough (length file) size h k; laid = l; long = alike (length file) size (image_size layout) h e }

-- super, where the layout has one
pub within-read : (layout : LayoutValue) (part : Option SuperPart) (s : SuperPart) (w : SuperRead) (o : Option (List ℕ)) → part ≡ Some s →
    IfSome o (λ file. IsSuperRead s (super_bytes layout s file) w) → IfSome o (IsWithinRead layout part (Some w))
within-read layout None s w o e h = absurd cc
within-read layout (Some t) s w None e h = tt
within-read layout (Some t) s w (Some file) e h =
    let same : s ≡ t = cc in
    subst (λ x. IsSuperRead x (super_bytes layout x file) w) same h

pub within-bad : (layout : LayoutValue) (part : Option SuperPart) (s : SuperPart) (bad : BadImage) (o : Option (List ℕ)) → part ≡ Some s →
    IfSome o (λ file. table_in layout.physical s (super_bytes layout s file) ≡ Err bad) → IfSome o (λ file. super_found layout part file ≡ Err bad)
unfolding super_found
within-bad layout None s bad o e h = absurd cc
within-bad layout (Some t) s bad None e h = tt
within-bad layout (Some t) s bad (Some file) e h =
    let same : s ≡ t = cc in
    stops (table_in layout.physical t (super_bytes layout t file)) (λ c. Ok (super_value t c (super_bytes layout t file))) bad (subst (λ x. table_in layout.physical x (super_bytes layout x file) ≡ Err bad) same h)

-- the stages together
pub image-stateless : (o p : Option (List ℕ)) (layout : LayoutValue) (slots : ℕ) → p ≡ o → slots ≡ layout.slots → IfSome o (IsFront layout) → IfSome p (λ file. record_in slots file ≡ None) →
    IfSome o (λ file. stand file ≡ Err BadState)
image-stateless o p layout slots e same front none =
    told-two (IsFront layout) (λ file. record_in slots file ≡ None) (λ file. stand file ≡ Err BadState) o
    (λ file f n. stands-stateless file layout f (subst (λ k. record_in k file ≡ None) same n)) front (subst (λ x. IfSome x (λ file. record_in slots file ≡ None)) e none)

abbrev FrontAndState : LayoutValue → StateRead → List ℕ → Type 0
FrontAndState layout r file = IsFront layout file × IsStateRead layout.slots r file

front-and-state : (o p : Option (List ℕ)) (layout : LayoutValue) (slots : ℕ) (r : StateRead) → p ≡ o → slots ≡ layout.slots → IfSome o (IsFront layout) → IfSome p (IsStateRead slots r) →
    IfSome o (FrontAndState layout r)
front-and-state o p layout slots r e same front state =
    told-two (IsFront layout) (IsStateRead slots r) (FrontAndState layout r) o (λ file f n. (f, subst (λ k. IsStateRead k r file) same n)) front (subst (λ x. IfSome x (IsStateRead slots r)) e state)

pub image-bad : (o p q : Option (List ℕ)) (layout : LayoutValue) (slots : ℕ) (r : StateRead) (bad : BadImage) → p ≡ o → q ≡ o → slots ≡ layout.slots → IfSome o (IsFront layout) →
    IfSome p (IsStateRead slots r) → IfSome q (λ file. super_found layout layout.super_part file ≡ Err bad) → IfSome o (λ file. stand file ≡ Err bad)
image-bad o p q layout slots r bad e f same front state h =
    told-two (FrontAndState layout r) (λ file. super_found layout layout.super_part file ≡ Err bad) (λ file. stand file ≡ Err bad) o
    (λ file fs b. stands-bad file layout (r.version, r.state) bad fs.0 (state-recorded layout.slots r file fs.1) b)
    (front-and-state o p layout slots r e same front state) (subst (λ x. IfSome x (λ file. super_found layout layout.super_part file ≡ Err bad)) f h)

pub image-read : (o p q : Option (List ℕ)) (slots : ℕ) (r : ImageRead) → p ≡ o → q ≡ o → slots ≡ r.layout.slots → IfSome o (IsFront r.layout) →
    IfSome p (IsStateRead slots r.found) → IfSome q (IsWithinRead r.layout r.layout.super_part r.within) → IfSome o (IsImageRead r)
image-read o p q slots r e f same front state h =
    told-two (FrontAndState r.layout r.found) (IsWithinRead r.layout r.layout.super_part r.within) (IsImageRead r) o
    (λ file fs w. record { front = fs.0; state = fs.1; super = w })
    (front-and-state o p r.layout slots r.found e same front state) (subst (λ x. IfSome x (IsWithinRead r.layout r.layout.super_part r.within)) f h)
