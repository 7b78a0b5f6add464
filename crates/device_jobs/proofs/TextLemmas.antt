-- The text of a device, part by part.
use Rattle.std.proofs.Common.{◌≡◌, ◌∙◌, ap, subst, ℕ, false, true, List, [], ◌++◌, Option, Some, None, Result, Ok, Err}
use Rattle.std.specs.Prelude.{OnOk, IfOk, IfErr, if◌then◌else◌}
use Rattle.std.specs.Result.{is_ok}
use Rattle.std.specs.List.{flat_map}
use Rattle.dev_model.specs.declared.device.Dev.{Dev}
use Rattle.dev_model.specs.Validity.{IsValid}
use Rattle.dev_store.specs.StoreCalls.{names_of}
use Rattle.device_jobs.specs.declared.job.JobError.{JobError}
use Rattle.device_jobs.specs.declared.job.JobError.TheVariants as job
use Rattle.device_jobs.specs.Printed.{head_text, physical_line, logical_line, group_line, version_lines, show_text}
use Rattle.device_jobs.specs.Working.{AddsText, IsShownText, IsReadStop, part_line}
use Rattle.device_jobs.proofs.LineLemmas.{physical-lines, logical-lines}
use Rattle.device_jobs.proofs.ReadLemmas.{adds-then, adds-whole}

show-by : (image : Option (List ℕ)) (dev : Dev) (old new : List ℕ) →
    AddsText image (head_text dev ++ flat_map physical_line dev.physical ++ version_lines dev.table_minor dev.table_flags ++ flat_map group_line dev.groups ++ flat_map logical_line dev.logical) old new →
    AddsText image (show_text dev) old new
unfolding show_text
show-by image dev old new h = h

pub adds-device : (image : Option (List ℕ)) (dev : Dev) (t a b c d e : List ℕ) → IsValid dev → a ≡ t ++ head_text dev → AddsText image (flat_map (part_line dev false) (names_of dev)) a b →
    c ≡ b ++ version_lines dev.table_minor dev.table_flags → d ≡ c ++ flat_map group_line dev.groups → AddsText image (flat_map (part_line dev true) (names_of dev)) d e → AddsText image (show_text dev) t e
adds-device image dev t a b c d e v h p k g l =
    let first = adds-whole image (head_text dev) t a h in
    let second = subst (λ x. AddsText image x a b) (physical-lines dev v) p in
    let third = adds-whole image (version_lines dev.table_minor dev.table_flags) b c k in
    let fourth = adds-whole image (flat_map group_line dev.groups) c d g in
    let fifth = subst (λ x. AddsText image x d e) (logical-lines dev v) l in
    show-by image dev t e
    (adds-then image _ (flat_map logical_line dev.logical) t d e
    (adds-then image _ (flat_map group_line dev.groups) t c d
    (adds-then image _ (version_lines dev.table_minor dev.table_flags) t b c (adds-then image (head_text dev) (flat_map physical_line dev.physical) t a b first second) third)
    fourth)
    fifth)

-- the same where the store was read in between
pub adds-read : (image now : Option (List ℕ)) (dev same : Dev) (minor flags : ℕ) (t a b c d e : List ℕ) → now ≡ image → same ≡ dev → IsValid dev → (minor ≡ same.table_minor) × (flags ≡ same.table_flags) → a ≡ t ++ head_text dev →
    AddsText image (flat_map (part_line dev false) (names_of dev)) a b → c ≡ b ++ version_lines minor flags → d ≡ c ++ flat_map group_line same.groups →
    AddsText now (flat_map (part_line same true) (names_of same)) d e → AddsText image (show_text dev) t e
adds-read image now dev same minor flags t a b c d e i s v n h p k g l =
    let minor-is : minor ≡ dev.table_minor = n.0 ∙ ap (λ (x : Dev). x.table_minor) s in
    let flags-is : flags ≡ dev.table_flags = n.1 ∙ ap (λ (x : Dev). x.table_flags) s in
    adds-device image dev t a b c d e v h p (k ∙ (ap (λ m. b ++ version_lines m flags) minor-is ∙ ap (λ f. b ++ version_lines dev.table_minor f) flags-is))
    (g ∙ ap (λ (x : Dev). c ++ flat_map group_line x.groups) s)
    (subst (λ (x : Dev). AddsText image (flat_map (part_line x true) (names_of x)) d e) s (subst (λ o. AddsText o (flat_map (part_line same true) (names_of same)) d e) i l))

pub shown-text : (image : Option (List ℕ)) (dev : Dev) (text : List ℕ) → AddsText image (show_text dev) [] text → IsShownText image dev text
shown-text None dev text h = tt
shown-text (Some file) dev text h = h

-- reading stopped for what rose since before
pub stops-later : {T : Type 0} (result : Result T JobError) (mid rose : Type 0) → (mid → rose) → IfErr result (IsReadStop mid) → IfErr result (IsReadStop rose)
stops-later (Ok x) mid rose f h = tt
stops-later (Err e) mid rose f h = by e h where
  by : (e : JobError) → IsReadStop mid e → IsReadStop rose e
  by job.Memory h = tt
  by job.Disk h = f h
  by job.NoFile h = absurd h
  by (job.Layout bad) h = absurd h
  by (job.Device bad) h = absurd h

pub on-ok : {T E P Q : Type 0} (result : Result T E) → (P → Q) → OnOk result P → OnOk result Q
on-ok (Ok x) f h = f h
on-ok (Err e) f h = tt

pub on-ok-any : {T E P : Type 0} (result : Result T E) → P → OnOk result P
on-ok-any (Ok x) h = h
on-ok-any (Err e) h = tt

pub if-ok : {T E : Type 0} (result : Result T E) (P Q : T → Type 0) → ((x : T) → P x → Q x) → IfOk result P → IfOk result Q
if-ok (Ok x) P Q f h = f x h
if-ok (Err e) P Q f h = tt

pub ok-items : {T E : Type 0} (result : Result T E) (now x y : List ℕ) → now ≡ (if is_ok result then x else y) → OnOk result (now ≡ x)
ok-items (Ok v) now x y h = h
ok-items (Err e) now x y h = tt
