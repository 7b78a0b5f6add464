-- Commands that change the table.
use Rattle.std.proofs.Common.{◌≡◌, ◌∙◌, refl, ap, sym, subst, ℕ, Bool, true, false, not, ◌||◌, List, [], ◌∷◌, ◌++◌, length, Option, Some, None, codes}
use Rattle.std.specs.Prelude.{nat_le, nat_lt, option_and_then}
use Rattle.fb_message.specs.declared.reply.Reply.TheVariants.{Okay}
use Rattle.fb_message.specs.CommandText.{UpdateSuper, Create, Delete, Resize}
use Rattle.dev_model.specs.declared.step.Step.TheVariants as step
use Rattle.dev_model.specs.Steps.{apply, created, deleted}
use Rattle.dev_model.specs.Sizes.{sizes_of, units_fit, groups_fit}
use Rattle.dev_model.specs.Tables.{is_group, is_bad_table, merged, left_over, kept}
use Rattle.wire_model.specs.Halts.{HaltsBy, IsHaltedAround}
use Rattle.wire_model.specs.Says.{Loaded, says, answers, decides, updates}
use Rattle.device_engine.proofs.SaysLemmas.{says-update}
use Rattle.std.specs.Option.{option_or}
use Rattle.std.specs.List.{list_any}
use Rattle.fb_frame.specs.declared.tables.Tables.{Tables}
use Rattle.dev_model.specs.declared.device.Dev.{Dev}
use Rattle.dev_model.specs.Options.{first_passed}
use Rattle.dev_model.specs.Partitions.{is_userspace, is_logical, is_partition, is_super}
use Rattle.dev_model.specs.Refusals.{create_refusal, delete_refusal, resize_refusal, update_refusal, created_size}
use Rattle.super_meta.specs.Held.{tables_of_image}
use Rattle.dev_store.specs.declared.errors.StoreError.{StoreError}
use Rattle.dev_store.specs.declared.errors.StoreError.TheVariants.{NoPartition, NoSpace, GroupFull, NameTaken, TooManyPartitions, NoGroup, BadTable, Disk}
use Rattle.dev_store.specs.Changes.{create_flaw, delete_flaw, resize_flaw, room_flaw, install_flaw, installed}
use Rattle.device_engine.specs.Working.{userspace_bar}

-- a refusal that comes before all others
barred : (text : List ℕ) (locked userspace : Bool) (more : List (Bool × List ℕ)) → first_passed ((locked, codes "locked") ∷ (not userspace, codes "userspace only") ∷ []) ≡ Some text →
    first_passed ((locked, codes "locked") ∷ (not userspace, codes "userspace only") ∷ more) ≡ Some text
barred text true userspace more e = e
barred text false false more e = e
barred text false true more e = absurd cc

or-first : (a b : Option (List ℕ)) (text : List ℕ) → a ≡ Some text → option_or a b ≡ Some text
or-first a b text e = subst (λ x. option_or x b ≡ Some text) (sym e) refl

pub create-barred : (dev : Dev) (name : List ℕ) (size : ℕ) (text : List ℕ) → userspace_bar dev ≡ Some text → create_refusal dev name size ≡ Some text
create-barred dev name size text e = or-first _ _ text (barred text dev.locked (is_userspace dev.mode) _ e)

pub delete-barred : (dev : Dev) (name text : List ℕ) → userspace_bar dev ≡ Some text → delete_refusal dev name ≡ Some text
delete-barred dev name text e = barred text dev.locked (is_userspace dev.mode) _ e

pub resize-barred : (dev : Dev) (name : List ℕ) (size : ℕ) (text : List ℕ) → userspace_bar dev ≡ Some text → resize_refusal dev name size ≡ Some text
resize-barred dev name size text e = or-first _ _ text (delete-barred dev name text e)

pub update-barred : (dev : Dev) (downloaded : Option (List ℕ)) (tables : Option Tables) (name : List ℕ) (wipe : Bool) (text : List ℕ) → userspace_bar dev ≡ Some text →
    update_refusal dev downloaded tables name wipe ≡ Some text
update-barred dev downloaded tables name wipe text e = or-first _ _ text (barred text dev.locked (is_userspace dev.mode) _ e)

-- no bar: the device is unlocked and in userspace
pub free-bar : (locked userspace : Bool) → first_passed ((locked, codes "locked") ∷ (not userspace, codes "userspace only") ∷ []) ≡ None → (locked ≡ false) × (userspace ≡ true)
free-bar true userspace e = absurd cc
free-bar false false e = absurd cc
free-bar false true e = (refl, refl)

pub update-unloaded : (dev : Dev) (tables : Option Tables) (name : List ℕ) (wipe : Bool) → userspace_bar dev ≡ None → update_refusal dev None tables name wipe ≡ Some (codes "nothing downloaded")
update-unloaded dev tables name wipe e = or-first _ _ _ (by dev.locked (is_userspace dev.mode) (is_super dev name) e) where
  by : (l u s : Bool) → first_passed ((l, codes "locked") ∷ (not u, codes "userspace only") ∷ []) ≡ None →
      first_passed ((l, codes "locked") ∷ (not u, codes "userspace only") ∷ (true, codes "nothing downloaded") ∷ (not s, codes "no such partition") ∷ []) ≡ Some (codes "nothing downloaded")
  by true u s e = absurd cc
  by false false s e = absurd cc
  by false true s e = refl

pub update-unnamed : (dev : Dev) (file : List ℕ) (tables : Option Tables) (name : List ℕ) (wipe : Bool) → userspace_bar dev ≡ None → is_super dev name ≡ false →
    update_refusal dev (Some file) tables name wipe ≡ Some (codes "no such partition")
update-unnamed dev file tables name wipe e k = or-first _ _ _ (by dev.locked (is_userspace dev.mode) (is_super dev name) e k) where
  by : (l u s : Bool) → first_passed ((l, codes "locked") ∷ (not u, codes "userspace only") ∷ []) ≡ None → s ≡ false →
      first_passed ((l, codes "locked") ∷ (not u, codes "userspace only") ∷ (false, codes "nothing downloaded") ∷ (not s, codes "no such partition") ∷ []) ≡ Some (codes "no such partition")
  by true u s e k = absurd cc
  by false false s e k = absurd cc
  by false true true e k = absurd cc
  by false true false e k = refl

-- The disk's fault is no refusal.
not-passed : (b : Bool) (x : StoreError) (rows : List (Bool × StoreError)) → (x ≡ Disk → ⊥) → (first_passed rows ≡ Some Disk → ⊥) → first_passed ((b, x) ∷ rows) ≡ Some Disk → ⊥
not-passed true x rows n k e = n cc
not-passed false x rows n k e = k e

none-passed : first_passed {X = StoreError} [] ≡ Some Disk → ⊥
none-passed e = absurd cc

not-either : (a b : Option StoreError) → (a ≡ Some Disk → ⊥) → (b ≡ Some Disk → ⊥) → option_or a b ≡ Some Disk → ⊥
not-either (Some x) b n k e = n e
not-either None b n k e = k e

not-room : (units groups : Bool) → first_passed ((units, NoSpace) ∷ (groups, GroupFull) ∷ []) ≡ Some Disk → ⊥
not-room units groups = not-passed units NoSpace _ (λ e. absurd cc) (not-passed groups GroupFull [] (λ e. absurd cc) none-passed)

pub delete-honest : (dev : Dev) (name : List ℕ) → delete_flaw dev name ≡ Some Disk → ⊥
delete-honest dev name = not-passed (not (is_logical dev name)) NoPartition [] (λ e. absurd cc) none-passed

pub resize-honest : (dev : Dev) (name : List ℕ) (size : ℕ) → resize_flaw dev name size ≡ Some Disk → ⊥
resize-honest dev name size = not-either _ _ (delete-honest dev name) (not-room _ _)

three-rows : (taken many group : Bool) → first_passed ((taken, NameTaken) ∷ (many, TooManyPartitions) ∷ (group, NoGroup) ∷ []) ≡ Some Disk → ⊥
three-rows taken many group =
    not-passed taken NameTaken ((many, TooManyPartitions) ∷ (group, NoGroup) ∷ []) (λ e. absurd cc)
    (not-passed many TooManyPartitions ((group, NoGroup) ∷ []) (λ e. absurd cc) (not-passed group NoGroup [] (λ e. absurd cc) none-passed))

pub create-honest : (dev : Dev) (name : List ℕ) (size : ℕ) → create_flaw dev name size ≡ Some Disk → ⊥
create-honest dev name size =
    let taken = is_partition dev name || is_super dev name in
    let many = nat_le 128 (length dev.logical) in
    let group = not (is_group dev.groups (codes "default")) in
    let sizes = sizes_of dev.logical ++ created_size name size ∷ [] in
    not-either (first_passed ((taken, NameTaken) ∷ (many, TooManyPartitions) ∷ (group, NoGroup) ∷ [])) (room_flaw dev sizes) (three-rows taken many group)
    (not-room (not (units_fit dev.unit dev.units sizes)) (not (groups_fit dev.groups sizes)))

four-rows : (bad many group full : Bool) → first_passed ((bad, BadTable) ∷ (many, TooManyPartitions) ∷ (group, NoGroup) ∷ (full, GroupFull) ∷ []) ≡ Some Disk → ⊥
four-rows bad many group full =
    not-passed bad BadTable ((many, TooManyPartitions) ∷ (group, NoGroup) ∷ (full, GroupFull) ∷ []) (λ e. absurd cc)
    (not-passed many TooManyPartitions ((group, NoGroup) ∷ (full, GroupFull) ∷ []) (λ e. absurd cc)
    (not-passed group NoGroup ((full, GroupFull) ∷ []) (λ e. absurd cc) (not-passed full GroupFull [] (λ e. absurd cc) none-passed)))

pub install-honest : (tables : Option Tables) (wipe : Bool) (dev : Dev) → install_flaw tables wipe dev ≡ Some Disk → ⊥
install-honest None wipe dev e = absurd cc
install-honest (Some tables) wipe dev e =
    four-rows (is_bad_table tables dev) (nat_lt 128 (length (merged tables wipe dev))) (list_any (λ p. not (is_group tables.groups p.group)) (left_over tables (kept dev wipe)))
    (not (groups_fit tables.groups (sizes_of (merged tables wipe dev)))) e

-- no bar: the device is unlocked and in userspace
abbrev IsFree : Dev → Type 0
IsFree dev = (dev.locked ≡ false) × (is_userspace dev.mode ≡ true)

pub free : (dev : Dev) → userspace_bar dev ≡ None → IsFree dev
free dev e = free-bar dev.locked (is_userspace dev.mode) e

-- what a failed disk leaves
module _ (dev : Dev) (loaded : Loaded) where
  pub halts-create : (name : List ℕ) (size : ℕ) → says dev loaded (Create name size) ≡ answers (Okay [] ∷ []) (created name size dev) loaded → (t : Dev) → IsHaltedAround dev (created name size dev) t →
      HaltsBy dev loaded (Create name size) t
  halts-create name size e t h = subst (λ d. IsHaltedAround dev d t) (sym (ap (λ s. s.device) e)) h

  pub halts-delete : (name : List ℕ) → says dev loaded (Delete name) ≡ answers (Okay [] ∷ []) (deleted name dev) loaded → (t : Dev) → IsHaltedAround dev (deleted name dev) t → HaltsBy dev loaded (Delete name) t
  halts-delete name e t h = subst (λ d. IsHaltedAround dev d t) (sym (ap (λ s. s.device) e)) h

  pub halts-resize : (name : List ℕ) (size : ℕ) → says dev loaded (Resize name size) ≡ answers (Okay [] ∷ []) (apply (step.Resize name size) dev) loaded → (t : Dev) →
      IsHaltedAround dev (apply (step.Resize name size) dev) t → HaltsBy dev loaded (Resize name size) t
  halts-resize name size e t h = subst (λ d. IsHaltedAround dev d t) (sym (ap (λ s. s.device) e)) h

  pub halts-update : (name : List ℕ) (wipe : Bool) (done : Dev) → says dev loaded (UpdateSuper name wipe) ≡ answers (Okay [] ∷ []) done loaded → (t : Dev) → IsHaltedAround dev done t →
      HaltsBy dev loaded (UpdateSuper name wipe) t
  halts-update name wipe done e t h = subst (λ d. IsHaltedAround dev d t) (sym (ap (λ s. s.device) e)) h

-- the tables that are installed
updates-as : (tables : Option Tables) (wipe : Bool) (dev : Dev) → updates tables wipe dev ≡ installed tables wipe dev
updates-as None wipe dev = refl
updates-as (Some tables) wipe dev = refl

pub installed-mode : (tables : Option Tables) (wipe : Bool) (dev : Dev) → (installed tables wipe dev).mode ≡ dev.mode
installed-mode None wipe dev = refl
installed-mode (Some tables) wipe dev = refl

pub installed-max : (tables : Option Tables) (wipe : Bool) (dev : Dev) → (installed tables wipe dev).max ≡ dev.max
installed-max None wipe dev = refl
installed-max (Some tables) wipe dev = refl

pub says-install : (dev : Dev) (file name : List ℕ) (wipe : Bool) →
    says dev (Some file) (UpdateSuper name wipe)
    ≡ decides (update_refusal dev (Some file) (option_and_then tables_of_image (Some file)) name wipe) (installed (tables_of_image file) wipe) dev (Some file)
says-install dev file name wipe =
    says-update dev (Some file) name wipe
    ∙ ap (λ f. decides (update_refusal dev (Some file) (option_and_then tables_of_image (Some file)) name wipe) f dev (Some file)) (λ i d. updates-as (tables_of_image file) wipe d i)
