-- The forms of tasks, and the words of each.
use Rattle.std.proofs.Common.{◌≡◌, ℕ, ◌+◌, Bool, true, false, List, [], ◌∷◌, ◌++◌, length, refl, sym, ◌∙◌, ap, subst, arith, Some, None, Option, length-append, ◌⊎◌, inl, inr}
use Rattle.std.specs.Prelude.{◌&&◌, not, ◌==◌, codes, bytes_eq, if◌then◌else◌, option_to_list, IfSome, nat_le, IsTrue}
use Rattle.std.specs.List.{list_all}
use Rattle.std.proofs.lemmas.Bool.Decides.{nat_tests}
use Rattle.std.proofs.lemmas.Slice.Eq.{bytes_eq-Decides}
use Rattle.fb_frame.specs.NameText.{is_name, is_name_byte, is_word, word_of, name_of}
use Rattle.fb_message.specs.declared.command.BootTarget.{BootTarget}
use Rattle.fb_message.specs.declared.command.BootTarget.TheVariants.{System, Bootloader, Fastboot, Recovery}
use Rattle.product_info.specs.declared.task.Action.{Action}
use Rattle.product_info.specs.declared.task.Action.TheVariants.{Flash, Reboot, UpdateSuper, Erase}
use Rattle.product_info.specs.declared.task.Task.{Task}
use Rattle.product_info.specs.Blanks.{words}
use Rattle.product_info.specs.Grammar.{Flags, Unflagged, Vbmeta, SlotOther, VbmetaSlotOther, SlotOtherVbmeta, flag_words, is_for_other, Form, Flashes, Reboots, Updates, Erases, IsPartName, IsFileWord, IsForm, target_words, form_words, file_for, form_action, wipe_words, AreWordsOf, IsTaskLine}
use Rattle.product_info.specs.TaskText.{is_plain, part_of, file_of, image_file, flash, flash_named, flash_of, target_of, reboot, reboot_of, update_of, erase, erase_of, action_by, action_of, when, order_of, numbered, task_of}
use Rattle.product_info.proofs.WordLemmas.{both, and-true, words-read, words-spelled}

pub bytes-same : (xs ys : List ℕ) → bytes_eq xs ys ≡ true → xs ≡ ys
bytes-same xs ys e = (bytes_eq-Decides xs ys).0 e

pub bytes-apart : (xs ys : List ℕ) → (xs ≡ ys → ⊥) → bytes_eq xs ys ≡ false
bytes-apart xs ys h = by (bytes_eq xs ys) refl where
  by : (b : Bool) → bytes_eq xs ys ≡ b → bytes_eq xs ys ≡ false
  by true e = absurd (h (bytes-same xs ys e))
  by false e = e

pub nat-same : (a b : ℕ) → (a == b) ≡ true → a ≡ b
nat-same a b e = grind (arith, nat_tests)

plain-true : (word : List ℕ) → ((rest : List ℕ) → word ≡ 45 ∷ rest → ⊥) → is_plain word ≡ true
plain-true [] h = refl
plain-true (b ∷ rest) h = by (b == 45) refl where
  by : (t : Bool) → (b == 45) ≡ t → not t ≡ true
  by true e = absurd (h rest (ap (λ c. c ∷ rest) (nat-same b 45 e)))
  by false e = refl

true-plain : (word : List ℕ) → is_plain word ≡ true → (rest : List ℕ) → word ≡ 45 ∷ rest → ⊥
true-plain word h rest e = never (sym (ap is_plain e) ∙ h) where
  never : false ≡ true → ⊥
  never q = cc

no-flag : (word flag : List ℕ) → ((rest : List ℕ) → word ≡ 45 ∷ rest → ⊥) → bytes_eq word (45 ∷ flag) ≡ false
no-flag word flag h = bytes-apart word (45 ∷ flag) (h flag)

-- the partition of a flash or an erase
part-read : (name : List ℕ) → IsPartName name → part_of name ≡ Some name
part-read name h =
    ap (λ b. if b then name_of name else None) (plain-true name h.plain) ∙ ap (λ b. if b then Some name else None) h.name

part-spelled : (word name : List ℕ) → part_of word ≡ Some name → (word ≡ name) × IsPartName name
part-spelled word name e = by (is_plain word) refl (is_name word) refl e where
  same : ◌≡◌ {A = Option (List ℕ)} (Some word) (Some name) → word ≡ name
  same q = cc

  by : (p : Bool) → is_plain word ≡ p → (n : Bool) → is_name word ≡ n →
      (if p then (if n then Some word else None) else None) ≡ Some name → (word ≡ name) × IsPartName name
  by true f true g q = let s = same q in (s, subst IsPartName s (record { name = g; plain = true-plain word f }))
  by true f false g q = absurd cc
  by false f n g q = absurd cc

image-read : (name : List ℕ) → IsTrue (is_name name) → image_file name ≡ Some (name ++ codes ".img")
image-read name h =
    ap (λ b. if b then Some (name ++ codes ".img") else None)
    (let p = both (nat_le 1 (length name) && nat_le (length name) 35) (list_all is_name_byte name) h in
    let q = both (nat_le 1 (length name)) (nat_le (length name) 35) p.0 in
    fits (length name) (length (name ++ codes ".img")) (length-append name (codes ".img")) q.0 q.1)
  where
    fits : (n m : ℕ) → m ≡ n + 4 → nat_le 1 n ≡ true → nat_le n 35 ≡ true → (nat_le 1 m && nat_le m 64) ≡ true
    fits n m e f g = grind (arith, nat_tests)

-- the file of a flash
file-read : (file : List ℕ) → IsFileWord file → file_of file ≡ Some file
file-read file h =
    ap (λ b. if b then word_of file else None)
    (and-true _ (not (bytes_eq file (codes "..")))
    (and-true _ (not (bytes_eq file (codes "."))) (and-true (is_plain file) (list_all is_name_byte file) (plain-true file h.plain) h.bytes)
    (ap not (bytes-apart file (codes ".") h.not_here)))
    (ap not (bytes-apart file (codes "..") h.not_above)))
    ∙ ap (λ b. if b then Some file else None) h.word

other-bytes : (xs ys : List ℕ) → not (bytes_eq xs ys) ≡ true → xs ≡ ys → ⊥
other-bytes xs ys h e = never (sym h ∙ ap not ((bytes_eq-Decides xs ys).1 e)) where
  never : true ≡ false → ⊥
  never q = cc

file-spelled : (word file : List ℕ) → file_of word ≡ Some file → (word ≡ file) × IsFileWord file
file-spelled word file e = by _ refl (is_word word) refl e where
  same : ◌≡◌ {A = Option (List ℕ)} (Some word) (Some file) → word ≡ file
  same q = cc

  by : (p : Bool) → (is_plain word && list_all is_name_byte word && not (bytes_eq word (codes ".")) && not (bytes_eq word (codes ".."))) ≡ p →
      (w : Bool) → is_word word ≡ w → (if p then (if w then Some word else None) else None) ≡ Some file → (word ≡ file) × IsFileWord file
  by true f true g q =
      let a = both _ (not (bytes_eq word (codes ".."))) f in
      let b = both _ (not (bytes_eq word (codes "."))) a.0 in
      let c = both (is_plain word) (list_all is_name_byte word) b.0 in
      let s = same q in (
        s,
        subst IsFileWord s (record {
          word = g;
          bytes = c.1;
          plain = true-plain word c.0;
          not_here = other-bytes word (codes ".") b.1;
          not_above = other-bytes word (codes "..") a.1;
        }),
      )
  by true f false g q = absurd cc
  by false f w g q = absurd cc

named-read : (other : Bool) (name : List ℕ) (file : Option (List ℕ)) → IsPartName name → IfSome file IsFileWord →
    flash_named other name (option_to_list file) ≡ Some (Flash name (file_for name file) other)
named-read other name None h g = ap (λ p. flash other p (image_file name)) (part-read name h) ∙ ap (flash other (Some name)) (image-read name h.name)
named-read other name (Some file) h g = ap (λ p. flash other p (file_of file)) (part-read name h) ∙ ap (flash other (Some name)) (file-read file g)

-- no flag follows
flash-read : (vbmeta other : Bool) (name : List ℕ) (file : Option (List ℕ)) → IsPartName name → IfSome file IsFileWord →
    flash_of vbmeta other (name ∷ option_to_list file) ≡ Some (Flash name (file_for name file) other)
flash-read vbmeta other name file h g =
    ap (λ b. if not vbmeta && b then flash_of true other (option_to_list file)
    else (if not other && bytes_eq name (codes "--slot-other") then flash_of vbmeta true (option_to_list file)
    else flash_named other name (option_to_list file))) (no-flag name _ h.plain)
    ∙ (none (not vbmeta) (flash_of true other (option_to_list file)) _
    ∙ (ap (λ b. if not other && b then flash_of vbmeta true (option_to_list file) else flash_named other name (option_to_list file)) (no-flag name _ h.plain)
    ∙ (none (not other) (flash_of vbmeta true (option_to_list file)) _ ∙ named-read other name file h g)))
  where
    none : (b : Bool) (x y : Option Action) → (if b && false then x else y) ≡ y
    none true x y = refl
    none false x y = refl

flags-read : (flags : Flags) (name : List ℕ) (file : Option (List ℕ)) → IsPartName name → IfSome file IsFileWord →
    flash_of false false (flag_words flags ++ name ∷ option_to_list file) ≡ Some (Flash name (file_for name file) (is_for_other flags))
flags-read Unflagged name file h g = flash-read false false name file h g
flags-read Vbmeta name file h g = flash-read true false name file h g
flags-read SlotOther name file h g = flash-read false true name file h g
flags-read VbmetaSlotOther name file h g = flash-read true true name file h g
flags-read SlotOtherVbmeta name file h g = flash-read true true name file h g

action-read : (form : Form) → IsForm form → action_of (form_words form) ≡ Some (form_action form)
action-read (Flashes flags name file) h = flags-read flags name file h.0 h.1
action-read (Reboots System) h = refl
action-read (Reboots Bootloader) h = refl
action-read (Reboots Fastboot) h = refl
action-read (Reboots Recovery) h = refl
action-read Updates h = refl
action-read (Erases name) h = ap erase (part-read name h)

order-plain : (form : Form) → order_of (form_words form) ≡ when false (action_of (form_words form))
order-plain (Flashes flags name file) = refl
order-plain (Reboots what) = refl
order-plain Updates = refl
order-plain (Erases name) = refl

order-read : (wipe : Bool) (form : Form) → IsForm form → order_of (wipe_words wipe ++ form_words form) ≡ Some (wipe, form_action form)
order-read true form h = ap (when true) (action-read form h)
order-read false form h = order-plain form ∙ ap (when false) (action-read form h)

pub tasks-read : (number : ℕ) (line : List ℕ) (task : Task) → IsTaskLine number line task → task_of number line ≡ Some task
unfolding task_of
tasks-read number line task h =
    ap (λ ws. numbered number (order_of ws)) (words-read (wipe_words task.if_wipe ++ form_words h.form) line h.spelled)
    ∙ (ap (numbered number) (order-read task.if_wipe h.form h.good) ∙ ap Some (sym h.says))

-- A form with these words, which wants this action.
record Spells (ws : List (List ℕ)) (action : Action) : Type 0 where
  form : Form
  good : IsForm form
  words_are : ws ≡ form_words form
  says : action ≡ form_action form

some-same : {X : Type 0} (x y : X) → ◌≡◌ {A = Option X} (Some x) (Some y) → x ≡ y
some-same x y e = cc

flash-parts : (other : Bool) (p f : Option (List ℕ)) (action : Action) → flash other p f ≡ Some action →
    (name : List ℕ) × (file : List ℕ) × (p ≡ Some name) × (f ≡ Some file) × (action ≡ Flash name file other)
flash-parts other (Some name) (Some file) action e = (name, file, refl, refl, sym (some-same (Flash name file other) action e))
flash-parts other (Some name) None action e = absurd cc
flash-parts other None f action e = absurd cc

-- What the words after the flags of a flash are.
record Named (ws : List (List ℕ)) (other : Bool) (action : Action) : Type 0 where
  name : List ℕ
  file : Option (List ℕ)
  part : IsPartName name
  given : IfSome file IsFileWord
  words_are : ws ≡ name ∷ option_to_list file
  says : action ≡ Flash name (file_for name file) other

named-spelled : (other : Bool) (word : List ℕ) (rest : List (List ℕ)) (action : Action) → flash_named other word rest ≡ Some action → Named (word ∷ rest) other action
named-spelled other word [] action e =
    let p = flash-parts other (part_of word) (image_file word) action e in
    let q = part-spelled word p.0 p.2 in
    record {
      name = word;
      file = None;
      part = subst IsPartName (sym q.0) q.1;
      given = tt;
      words_are = refl;
      says = p.4 ∙ (ap (λ n. Flash n p.1 other) (sym q.0) ∙ ap (λ f. Flash word f other) (image word p.1 p.3));
    }
  where
    image : (name file : List ℕ) → image_file name ≡ Some file → file ≡ name ++ codes ".img"
    image name file f = by (is_word (name ++ codes ".img")) f where
      by : (b : Bool) → (if b then Some (name ++ codes ".img") else None) ≡ Some file → file ≡ name ++ codes ".img"
      by true q = sym (some-same (name ++ codes ".img") file q)
      by false q = absurd cc
named-spelled other word (next ∷ []) action e =
    let p = flash-parts other (part_of word) (file_of next) action e in
    let q = part-spelled word p.0 p.2 in
    let r = file-spelled next p.1 p.3 in
    record {
      name = word;
      file = Some next;
      part = subst IsPartName (sym q.0) q.1;
      given = subst IsFileWord (sym r.0) r.1;
      words_are = refl;
      says = p.4 ∙ (ap (λ n. Flash n p.1 other) (sym q.0) ∙ ap (λ f. Flash word f other) (sym r.0));
    }
named-spelled other word (next ∷ third ∷ rest) action e = absurd cc

-- both flags have stood
last-spelled : (ws : List (List ℕ)) (action : Action) → flash_of true true ws ≡ Some action → Named ws true action
last-spelled [] action e = absurd cc
last-spelled (word ∷ rest) action e = named-spelled true word rest action e

-- the flag has stood
vbmeta-spelled : (ws : List (List ℕ)) (action : Action) → flash_of true false ws ≡ Some action →
    Named ws false action ⊎ ((rest : List (List ℕ)) × (ws ≡ codes "--slot-other" ∷ rest) × Named rest true action)
vbmeta-spelled [] action e = absurd cc
vbmeta-spelled (word ∷ rest) action e = by (bytes_eq word (codes "--slot-other")) refl e where
  by : (b : Bool) → bytes_eq word (codes "--slot-other") ≡ b → (if b then flash_of true true rest else flash_named false word rest) ≡ Some action →
      Named (word ∷ rest) false action ⊎ ((more : List (List ℕ)) × (word ∷ rest ≡ codes "--slot-other" ∷ more) × Named more true action)
  by true f q = inr (rest, ap (λ w. w ∷ rest) (bytes-same word (codes "--slot-other") f), last-spelled rest action q)
  by false f q = inl (named-spelled false word rest action q)

other-spelled : (ws : List (List ℕ)) (action : Action) → flash_of false true ws ≡ Some action →
    Named ws true action ⊎ ((rest : List (List ℕ)) × (ws ≡ codes "--apply-vbmeta" ∷ rest) × Named rest true action)
other-spelled [] action e = absurd cc
other-spelled (word ∷ rest) action e = by (bytes_eq word (codes "--apply-vbmeta")) refl e where
  by : (b : Bool) → bytes_eq word (codes "--apply-vbmeta") ≡ b → (if b then flash_of true true rest else flash_named true word rest) ≡ Some action →
      Named (word ∷ rest) true action ⊎ ((more : List (List ℕ)) × (word ∷ rest ≡ codes "--apply-vbmeta" ∷ more) × Named more true action)
  by true f q = inr (rest, ap (λ w. w ∷ rest) (bytes-same word (codes "--apply-vbmeta") f), last-spelled rest action q)
  by false f q = inl (named-spelled true word rest action q)

spells : (flags : Flags) (ws rest : List (List ℕ)) (action : Action) → ws ≡ flag_words flags ++ rest → Named rest (is_for_other flags) action → Spells (codes "flash" ∷ ws) action
spells flags ws rest action e h = record {
  form = Flashes flags h.name h.file;
  good = (h.part, h.given);
  words_are = ap (λ x. codes "flash" ∷ x) (e ∙ ap (λ x. flag_words flags ++ x) h.words_are);
  says = h.says;
}

flash-spelled : (ws : List (List ℕ)) (action : Action) → flash_of false false ws ≡ Some action → Spells (codes "flash" ∷ ws) action
flash-spelled [] action e = absurd cc
flash-spelled (word ∷ rest) action e = by (bytes_eq word (codes "--apply-vbmeta")) refl (bytes_eq word (codes "--slot-other")) refl e where
  flagged : word ≡ codes "--apply-vbmeta" →
      Named rest false action ⊎ ((more : List (List ℕ)) × (rest ≡ codes "--slot-other" ∷ more) × Named more true action) → Spells (codes "flash" ∷ word ∷ rest) action
  flagged f (inl h) = spells Vbmeta (word ∷ rest) rest action (ap (λ w. w ∷ rest) f) h
  flagged f (inr h) = spells VbmetaSlotOther (word ∷ rest) h.0 action (ap (λ w. w ∷ rest) f ∙ ap (λ r. codes "--apply-vbmeta" ∷ r) h.1) h.2

  othered : word ≡ codes "--slot-other" →
      Named rest true action ⊎ ((more : List (List ℕ)) × (rest ≡ codes "--apply-vbmeta" ∷ more) × Named more true action) → Spells (codes "flash" ∷ word ∷ rest) action
  othered f (inl h) = spells SlotOther (word ∷ rest) rest action (ap (λ w. w ∷ rest) f) h
  othered f (inr h) = spells SlotOtherVbmeta (word ∷ rest) h.0 action (ap (λ w. w ∷ rest) f ∙ ap (λ r. codes "--slot-other" ∷ r) h.1) h.2

  by : (a : Bool) → bytes_eq word (codes "--apply-vbmeta") ≡ a → (b : Bool) → bytes_eq word (codes "--slot-other") ≡ b →
      (if a then flash_of true false rest else (if b then flash_of false true rest else flash_named false word rest)) ≡ Some action → Spells (codes "flash" ∷ word ∷ rest) action
  by true f b g q = flagged (bytes-same word (codes "--apply-vbmeta") f) (vbmeta-spelled rest action q)
  by false f true g q = othered (bytes-same word (codes "--slot-other") g) (other-spelled rest action q)
  by false f false g q = spells Unflagged (word ∷ rest) (word ∷ rest) action refl (named-spelled false word rest action q)

target-spelled : (word : List ℕ) (action : Action) → reboot (target_of word) ≡ Some action → Spells (codes "reboot" ∷ word ∷ []) action
target-spelled word action e =
    by (bytes_eq word (codes "bootloader")) refl (bytes_eq word (codes "fastboot")) refl (bytes_eq word (codes "recovery")) refl e
  where
    says : (what : BootTarget) → (word ∷ [] ≡ target_words what) → reboot (Some what) ≡ Some action → Spells (codes "reboot" ∷ word ∷ []) action
    says what f q = record { form = Reboots what; good = tt; words_are = ap (λ ws. codes "reboot" ∷ ws) f; says = sym (some-same (Reboot what) action q) }

    by : (a : Bool) → bytes_eq word (codes "bootloader") ≡ a → (b : Bool) → bytes_eq word (codes "fastboot") ≡ b → (c : Bool) → bytes_eq word (codes "recovery") ≡ c →
        reboot (if a then Some Bootloader else (if b then Some Fastboot else (if c then Some Recovery else None))) ≡ Some action → Spells (codes "reboot" ∷ word ∷ []) action
    by true f b g c h q = says Bootloader (ap (λ w. w ∷ []) (bytes-same word (codes "bootloader") f)) q
    by false f true g c h q = says Fastboot (ap (λ w. w ∷ []) (bytes-same word (codes "fastboot") g)) q
    by false f false g true h q = says Recovery (ap (λ w. w ∷ []) (bytes-same word (codes "recovery") h)) q
    by false f false g false h q = absurd cc

reboot-spelled : (ws : List (List ℕ)) (action : Action) → reboot_of ws ≡ Some action → Spells (codes "reboot" ∷ ws) action
reboot-spelled [] action e = record { form = Reboots System; good = tt; words_are = refl; says = sym (some-same (Reboot System) action e) }
reboot-spelled (word ∷ []) action e = target-spelled word action e
reboot-spelled (word ∷ next ∷ rest) action e = absurd cc

update-spelled : (ws : List (List ℕ)) (action : Action) → update_of ws ≡ Some action → Spells (codes "update-super" ∷ ws) action
update-spelled [] action e = record { form = Updates; good = tt; words_are = refl; says = sym (some-same UpdateSuper action e) }
update-spelled (word ∷ rest) action e = absurd cc

erased : (word : List ℕ) (p : Option (List ℕ)) (action : Action) → part_of word ≡ p → erase p ≡ Some action → Spells (codes "erase" ∷ word ∷ []) action
erased word (Some name) action f e =
    let q = part-spelled word name f in
    record { form = Erases name; good = q.1; words_are = ap (λ w. codes "erase" ∷ w ∷ []) q.0; says = sym (some-same (Erase name) action e) }
erased word None action f e = absurd cc

erase-spelled : (ws : List (List ℕ)) (action : Action) → erase_of ws ≡ Some action → Spells (codes "erase" ∷ ws) action
erase-spelled [] action e = absurd cc
erase-spelled (word ∷ []) action e = erased word (part_of word) action refl e
erase-spelled (word ∷ next ∷ rest) action e = absurd cc

by-spelled : (word : List ℕ) (rest : List (List ℕ)) (action : Action) → action_by word rest ≡ Some action → Spells (word ∷ rest) action
by-spelled word rest action e =
    by (bytes_eq word (codes "flash")) refl (bytes_eq word (codes "reboot")) refl (bytes_eq word (codes "update-super")) refl (bytes_eq word (codes "erase")) refl e
  where
    named : (first : List ℕ) → bytes_eq word first ≡ true → Spells (first ∷ rest) action → Spells (word ∷ rest) action
    named first f h = subst (λ w. Spells (w ∷ rest) action) (sym (bytes-same word first f)) h

    by : (a : Bool) → bytes_eq word (codes "flash") ≡ a → (b : Bool) → bytes_eq word (codes "reboot") ≡ b →
        (c : Bool) → bytes_eq word (codes "update-super") ≡ c → (d : Bool) → bytes_eq word (codes "erase") ≡ d →
        (if a then flash_of false false rest else (if b then reboot_of rest else (if c then update_of rest else (if d then erase_of rest else None)))) ≡ Some action →
        Spells (word ∷ rest) action
    by true f b g c h d i q = named (codes "flash") f (flash-spelled rest action q)
    by false f true g c h d i q = named (codes "reboot") g (reboot-spelled rest action q)
    by false f false g true h d i q = named (codes "update-super") h (update-spelled rest action q)
    by false f false g false h true i q = named (codes "erase") i (erase-spelled rest action q)
    by false f false g false h false i q = absurd cc

action-spelled : (ws : List (List ℕ)) (action : Action) → action_of ws ≡ Some action → Spells ws action
action-spelled [] action e = absurd cc
action-spelled (word ∷ rest) action e = by-spelled word rest action e

-- What the words of a line are.
record Orders (ws : List (List ℕ)) (order : Bool × Action) : Type 0 where
  form : Form
  good : IsForm form
  words_are : ws ≡ wipe_words order.0 ++ form_words form
  says : order.1 ≡ form_action form

when-some : (wipe : Bool) (o : Option Action) (order : Bool × Action) → when wipe o ≡ Some order → (o ≡ Some order.1) × (wipe ≡ order.0)
when-some wipe (Some action) order e = let s = some-same (wipe, action) order e in (ap (λ x. Some x.1) s, ap (λ x. x.0) s)
when-some wipe None order e = absurd cc

order-spelled : (ws : List (List ℕ)) (order : Bool × Action) → order_of ws ≡ Some order → Orders ws order
order-spelled [] order e = absurd cc
order-spelled (word ∷ rest) order e = by (bytes_eq word (codes "if-wipe")) refl e where
  by : (b : Bool) → bytes_eq word (codes "if-wipe") ≡ b → (if b then when true (action_of rest) else when false (action_by word rest)) ≡ Some order → Orders (word ∷ rest) order
  by true f q =
      let p = when-some true (action_of rest) order q in
      let h = action-spelled rest order.1 p.0 in
      record {
        form = h.form;
        good = h.good;
        words_are = ap (λ w. w ∷ rest) (bytes-same word (codes "if-wipe") f)
            ∙ (ap (λ ws. codes "if-wipe" ∷ ws) h.words_are ∙ ap (λ b. wipe_words b ++ form_words h.form) p.1);
        says = h.says;
      }
  by false f q =
      let p = when-some false (action_by word rest) order q in
      let h = by-spelled word rest order.1 p.0 in
      record {
        form = h.form;
        good = h.good;
        words_are = h.words_are ∙ ap (λ b. wipe_words b ++ form_words h.form) p.1;
        says = h.says;
      }

numbered-spelled : (number : ℕ) (line : List ℕ) (o : Option (Bool × Action)) (task : Task) → order_of (words line) ≡ o → numbered number o ≡ Some task → IsTaskLine number line task
numbered-spelled number line None task f e = absurd cc
numbered-spelled number line (Some order) task f e =
    let s = some-same (record { line = number; if_wipe = order.0; action = order.1 }) task e in
    let h = order-spelled (words line) order f in
    subst (IsTaskLine number line) s (record {
      form = h.form;
      good = h.good;
      spelled = subst (AreWordsOf line) h.words_are (words-spelled line);
      says = ap (λ a. record { line = number; if_wipe = order.0; action = a }) h.says;
    })

pub tasks-spelled : (number : ℕ) (line : List ℕ) (task : Task) → task_of number line ≡ Some task → IsTaskLine number line task
unfolding task_of
tasks-spelled number line task e = numbered-spelled number line (order_of (words line)) task refl e
