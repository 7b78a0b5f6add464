-- What every plan rests on of a device, question by question.
use Rattle.std.proofs.Common.{◌≡◌, ℕ, Bool, true, false, Option, Some, None, List, [], ◌∷◌, append-nil, refl, sym, ap, ◌∙◌, arith}
use Rattle.std.specs.Prelude.{codes, if◌then◌else◌, IsTrue}
use Rattle.fb_frame.specs.declared.slot.Slot.{Slot}
use Rattle.dev_model.specs.declared.device.Dev.{Dev}
use Rattle.dev_model.specs.Partitions.{has_slots}
use Rattle.flash_plan.specs.Facts.{current_of}
use Rattle.fb_link.specs.Seen.{Seen}
use Rattle.host_driver.specs.declared.drive.DriveError.{DriveError}
use Rattle.host_driver.specs.declared.questions.Traits.{Traits}
use Rattle.host_driver.specs.Questioning.{OfDevice, IsLearned, IsUnlearned, slot_questions, super_questions, trait_questions, AreTraits}
use Rattle.host_driver.proofs.QuestionLemmas.{device-of, device-any, device-more, learned-still, learned-next, learned-as, unlearned-next, unlearned-as}

-- the active slot
by-slots : (b : Bool) (dev : Dev) → has_slots dev ≡ b → (slot_questions dev ≡ codes "slot-count" ∷ (if b then codes "current-slot" ∷ [] else [])) × (current_of dev ≡ (if b then Some dev.active else None))
by-slots b dev e = (ap (λ c. codes "slot-count" ∷ (if c then codes "current-slot" ∷ [] else [])) e, ap (λ c. if c then Some dev.active else None) e)

pub slots-known : (slotted : Bool) (a b : Seen) → slotted ≡ true → IsLearned 4104 (λ dev. codes "slot-count" ∷ []) (λ dev. slotted ≡ has_slots dev) a b → OfDevice (λ dev. IsTrue (has_slots dev)) b.port.peer
slots-known slotted a b e p = device-more (λ dev. slotted ≡ has_slots dev) (λ dev. IsTrue (has_slots dev)) (λ s k. sym k ∙ e) b.port.peer (device-of (λ dev. slotted ≡ has_slots dev) a.port.peer b.port.peer p.told)

pub slot-none : (slotted : Bool) (a b : Seen) → slotted ≡ false → IsLearned 4104 (λ dev. codes "slot-count" ∷ []) (λ dev. slotted ≡ has_slots dev) a b → IsLearned 8208 slot_questions (λ dev. None ≡ current_of dev) a b
slot-none slotted a b e p =
    learned-as 4104 8208 (λ dev. codes "slot-count" ∷ []) slot_questions (λ dev. slotted ≡ has_slots dev) (λ dev. None ≡ current_of dev) a b p (omega arith)
    (λ s k. let w = by-slots false s (sym k ∙ e) in (sym w.0, sym w.1))

pub slot-some : (slotted : Bool) (slot : Slot) (a b c : Seen) → slotted ≡ true → IsLearned 4104 (λ dev. codes "slot-count" ∷ []) (λ dev. slotted ≡ has_slots dev) a b →
    IsLearned 4104 (λ dev. codes "current-slot" ∷ []) (λ dev. slot ≡ dev.active) b c → IsLearned 8208 slot_questions (λ dev. Some slot ≡ current_of dev) a c
slot-some slotted slot a b c e p q =
    learned-next 8208 4104 4104 (λ dev. codes "slot-count" ∷ []) (λ dev. codes "current-slot" ∷ []) slot_questions (λ dev. slotted ≡ has_slots dev) (λ dev. slot ≡ dev.active) (λ dev. Some slot ≡ current_of dev) a b c p q (omega arith)
    (λ s k l. let w = by-slots true s (sym k ∙ e) in (sym w.0, ap Some l ∙ sym w.1))

pub slot-unasked : (a b : Seen) (error : DriveError) → IsUnlearned (λ dev. codes "slot-count" ∷ []) a b error → IsUnlearned slot_questions a b error
slot-unasked a b error p =
    unlearned-as (λ dev. codes "slot-count" ∷ []) slot_questions (λ dev. Unit {0}) a b error (device-any a.port.peer) p
    (λ s k. record { more = if has_slots s then codes "current-slot" ∷ [] else []; whole = refl })

pub slot-broken : (slotted : Bool) (a b c : Seen) (error : DriveError) → slotted ≡ true → IsLearned 4104 (λ dev. codes "slot-count" ∷ []) (λ dev. slotted ≡ has_slots dev) a b →
    IsUnlearned (λ dev. codes "current-slot" ∷ []) b c error → IsUnlearned slot_questions a c error
slot-broken slotted a b c error e p q =
    unlearned-next 4104 (λ dev. codes "slot-count" ∷ []) (λ dev. codes "current-slot" ∷ []) slot_questions (λ dev. slotted ≡ has_slots dev) a b c error p q
    (λ s k. let w = by-slots true s (sym k ∙ e) in record { more = []; whole = w.0 })

-- the name of super, where a task updates it
pub super-unneeded : (updates : Bool) (a : Seen) → updates ≡ false → IsLearned 4104 (super_questions updates) (λ dev. IsTrue updates → None ≡ dev.super_name) a a
super-unneeded updates a e =
    learned-as 0 4104 (λ dev. []) (super_questions updates) (λ dev. Unit {0}) (λ dev. IsTrue updates → None ≡ dev.super_name) a a (learned-still (λ dev. Unit {0}) a (device-any a.port.peer)) (omega arith)
    (λ s u. (ap (λ b. if b then codes "super-partition-name" ∷ [] else []) (sym e), λ t. let f : false ≡ true = sym e ∙ t in absurd cc))

pub super-asked : (updates : Bool) (name : Option (List ℕ)) (a b : Seen) → updates ≡ true → IsLearned 4104 (λ dev. codes "super-partition-name" ∷ []) (λ dev. name ≡ dev.super_name) a b →
    IsLearned 4104 (super_questions updates) (λ dev. IsTrue updates → name ≡ dev.super_name) a b
super-asked updates name a b e p =
    learned-as 4104 4104 (λ dev. codes "super-partition-name" ∷ []) (super_questions updates) (λ dev. name ≡ dev.super_name) (λ dev. IsTrue updates → name ≡ dev.super_name) a b p (omega arith)
    (λ s k. (ap (λ b. if b then codes "super-partition-name" ∷ [] else []) (sym e), λ t. k))

pub super-unasked : (updates : Bool) (a b : Seen) (error : DriveError) → updates ≡ true → IsUnlearned (λ dev. codes "super-partition-name" ∷ []) a b error → IsUnlearned (super_questions updates) a b error
super-unasked updates a b error e p =
    unlearned-as (λ dev. codes "super-partition-name" ∷ []) (super_questions updates) (λ dev. Unit {0}) a b error (device-any a.port.peer) p
    (λ s k. record { more = []; whole = ap (λ b. if b then codes "super-partition-name" ∷ [] else []) e })

-- all of them
pub traits-all : (updates : Bool) (traits : Traits) (a b c d : Seen) → IsLearned 8208 slot_questions (λ dev. traits.current ≡ current_of dev) a b →
    IsLearned 4104 (λ dev. codes "max-download-size" ∷ []) (λ dev. traits.max ≡ dev.max) b c → IsLearned 4104 (super_questions updates) (λ dev. IsTrue updates → traits.super_name ≡ dev.super_name) c d →
    IsLearned 16416 (trait_questions updates) (AreTraits updates traits) a d
traits-all updates traits a b c d p q r =
    learned-next 16416 8208 8208 slot_questions (λ dev. codes "max-download-size" ∷ super_questions updates dev) (trait_questions updates) (λ dev. traits.current ≡ current_of dev)
    (λ dev. (traits.max ≡ dev.max) × (IsTrue updates → traits.super_name ≡ dev.super_name)) (AreTraits updates traits) a b d p
    (learned-next 8208 4104 4104 (λ dev. codes "max-download-size" ∷ []) (super_questions updates) (λ dev. codes "max-download-size" ∷ super_questions updates dev) (λ dev. traits.max ≡ dev.max)
    (λ dev. IsTrue updates → traits.super_name ≡ dev.super_name) (λ dev. (traits.max ≡ dev.max) × (IsTrue updates → traits.super_name ≡ dev.super_name)) b c d q r (omega arith) (λ s k l. (refl, (k, l))))
    (omega arith) (λ s k l. (refl, record { current = k; most = l.0; super_name = l.1 }))

pub traits-unslotted : (updates : Bool) (a b : Seen) (error : DriveError) → IsUnlearned slot_questions a b error → IsUnlearned (trait_questions updates) a b error
traits-unslotted updates a b error p =
    unlearned-as slot_questions (trait_questions updates) (λ dev. Unit {0}) a b error (device-any a.port.peer) p
    (λ s k. record { more = codes "max-download-size" ∷ super_questions updates s; whole = refl })

pub traits-unsized : (updates : Bool) (current : Option Slot) (a b c : Seen) (error : DriveError) → IsLearned 8208 slot_questions (λ dev. current ≡ current_of dev) a b →
    IsUnlearned (λ dev. codes "max-download-size" ∷ []) b c error → IsUnlearned (trait_questions updates) a c error
traits-unsized updates current a b c error p q =
    unlearned-next 8208 slot_questions (λ dev. codes "max-download-size" ∷ super_questions updates dev) (trait_questions updates) (λ dev. current ≡ current_of dev) a b c error p
    (unlearned-as (λ dev. codes "max-download-size" ∷ []) (λ dev. codes "max-download-size" ∷ super_questions updates dev) (λ dev. Unit {0}) b c error (device-any b.port.peer) q (λ s k. record { more = super_questions updates s; whole = refl }))
    (λ s k. record { more = []; whole = sym (append-nil (trait_questions updates s)) })

pub traits-unnamed : (updates : Bool) (current : Option Slot) (most : ℕ) (a b c d : Seen) (error : DriveError) → IsLearned 8208 slot_questions (λ dev. current ≡ current_of dev) a b →
    IsLearned 4104 (λ dev. codes "max-download-size" ∷ []) (λ dev. most ≡ dev.max) b c → IsUnlearned (super_questions updates) c d error → IsUnlearned (trait_questions updates) a d error
traits-unnamed updates current most a b c d error p q r =
    unlearned-next 8208 slot_questions (λ dev. codes "max-download-size" ∷ super_questions updates dev) (trait_questions updates) (λ dev. current ≡ current_of dev) a b d error p
    (unlearned-next 4104 (λ dev. codes "max-download-size" ∷ []) (super_questions updates) (λ dev. codes "max-download-size" ∷ super_questions updates dev) (λ dev. most ≡ dev.max) b c d error q r (λ s k. record { more = []; whole = sym (append-nil (codes "max-download-size" ∷ super_questions updates s)) }))
    (λ s k. record { more = []; whole = sym (append-nil (trait_questions updates s)) })
