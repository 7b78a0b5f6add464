-- What the lines say, gathered one by one.
use Rattle.std.proofs.Common.{◌≡◌, ◌∙◌, refl, ap, sym, subst, ℕ, List, [], ◌∷◌, ◌++◌, Option, Some, None, append-nil}
use Rattle.std.specs.Prelude.{filter_map}
use Rattle.std.specs.Option.{option_or}
use Rattle.std.proofs.lemmas.List.Elements.{filter_map-append}
use Rattle.dev_model.specs.declared.device.Variable.{Variable}
use Rattle.dev_store.specs.declared.entries.Entry.{Entry}
use Rattle.dev_store.specs.declared.entries.Entry.TheVariants.{ProductLine, SerialLine, SlotsLine, DownloadLine, VariableLine, PartitionLine, SuperLine}
use Rattle.dev_store.specs.declared.layout.PhysicalPart.{PhysicalPart}
use Rattle.dev_store.specs.declared.layout.SuperPart.{SuperPart}
use Rattle.dev_store.specs.declared.layout_draft.Draft.{Draft}
use Rattle.dev_store.specs.LayoutLines.{variable_in, partition_in, super_in}
use Rattle.dev_store.specs.Layouts.{first_of, product_in, serial_in, slots_in, download_in}
use Rattle.dev_store.specs.Drafts.{Gathers}

pub or-none : {X : Type 0} (o : Option X) → option_or o None ≡ o
or-none None = refl
or-none (Some x) = refl

first-append : {X : Type 0} (xs : List X) (o : Option X) → first_of (xs ++ filter_map (λ x. x) (o ∷ [])) ≡ option_or (first_of xs) o
first-append [] None = refl
first-append [] (Some x) = refl
first-append (y ∷ xs) o = refl

first-more : {X : Type 0} (f : Entry → Option X) (before : List Entry) (e : Entry) (old : Option X) → old ≡ first_of (filter_map f before) → option_or old (f e) ≡ first_of (filter_map f (before ++ e ∷ []))
first-more f before e old h =
    ap (λ o. option_or o (f e)) h ∙ (sym (first-append (filter_map f before) (f e)) ∙ ap first_of (sym (filter_map-append f before (e ∷ []))))

all-more : {X : Type 0} (f : Entry → Option X) (before : List Entry) (e : Entry) (old : List X) → old ≡ filter_map f before → old ++ filter_map f (e ∷ []) ≡ filter_map f (before ++ e ∷ [])
all-more f before e old h = ap (λ xs. xs ++ filter_map f (e ∷ [])) h ∙ sym (filter_map-append f before (e ∷ []))

-- a draft that a line was added to
pub record Adds (old new : Draft) (e : Entry) : Type 0 where
  pub product : new.product ≡ option_or old.product (product_in e)
  pub serial : new.serial ≡ option_or old.serial (serial_in e)
  pub vars : new.vars ≡ old.vars ++ filter_map variable_in (e ∷ [])
  pub slots : new.slots ≡ option_or old.slots (slots_in e)
  pub max : new.max ≡ option_or old.max (download_in e)
  pub physical : new.physical ≡ old.physical ++ filter_map partition_in (e ∷ [])
  pub super_part : new.super_part ≡ option_or old.super_part (super_in e)

pub gathers : (old new : Draft) (e : Entry) (before : List Entry) → Adds old new e → Gathers old before → Gathers new (before ++ e ∷ [])
gathers old new e before a g = record {
  product = a.product ∙ first-more product_in before e old.product g.product;
  serial = a.serial ∙ first-more serial_in before e old.serial g.serial;
  vars = a.vars ∙ all-more variable_in before e old.vars g.vars;
  slots = a.slots ∙ first-more slots_in before e old.slots g.slots;
  max = a.max ∙ first-more download_in before e old.max g.max;
  physical = a.physical ∙ all-more partition_in before e old.physical g.physical;
  super_part = a.super_part ∙ first-more super_in before e old.super_part g.super_part;
}

pub add-product : (d : Draft) (new : Option (List ℕ)) (x : List ℕ) (e : Entry) (before : List Entry) → e ≡ ProductLine x → new ≡ option_or d.product (Some x) →
    Gathers d before → Gathers (record d { product = new }) (before ++ e ∷ [])
add-product d new x e before q h g =
    subst (λ y. Gathers (record d { product = new }) (before ++ y ∷ [])) (sym q)
    (gathers d (record d { product = new }) (ProductLine x) before (record {
      product = h;
      serial = sym (or-none d.serial);
      vars = sym (append-nil d.vars);
      slots = sym (or-none d.slots);
      max = sym (or-none d.max);
      physical = sym (append-nil d.physical);
      super_part = sym (or-none d.super_part);
    }) g)

pub add-serial : (d : Draft) (new : Option (List ℕ)) (x : List ℕ) (e : Entry) (before : List Entry) → e ≡ SerialLine x → new ≡ option_or d.serial (Some x) →
    Gathers d before → Gathers (record d { serial = new }) (before ++ e ∷ [])
add-serial d new x e before q h g =
    subst (λ y. Gathers (record d { serial = new }) (before ++ y ∷ [])) (sym q)
    (gathers d (record d { serial = new }) (SerialLine x) before (record {
      product = sym (or-none d.product);
      serial = h;
      vars = sym (append-nil d.vars);
      slots = sym (or-none d.slots);
      max = sym (or-none d.max);
      physical = sym (append-nil d.physical);
      super_part = sym (or-none d.super_part);
    }) g)

pub add-slots : (d : Draft) (new : Option (ℕ)) (x : ℕ) (e : Entry) (before : List Entry) → e ≡ SlotsLine x → new ≡ option_or d.slots (Some x) →
    Gathers d before → Gathers (record d { slots = new }) (before ++ e ∷ [])
add-slots d new x e before q h g =
    subst (λ y. Gathers (record d { slots = new }) (before ++ y ∷ [])) (sym q)
    (gathers d (record d { slots = new }) (SlotsLine x) before (record {
      product = sym (or-none d.product);
      serial = sym (or-none d.serial);
      vars = sym (append-nil d.vars);
      slots = h;
      max = sym (or-none d.max);
      physical = sym (append-nil d.physical);
      super_part = sym (or-none d.super_part);
    }) g)

pub add-download : (d : Draft) (new : Option (ℕ)) (x : ℕ) (e : Entry) (before : List Entry) → e ≡ DownloadLine x → new ≡ option_or d.max (Some x) →
    Gathers d before → Gathers (record d { max = new }) (before ++ e ∷ [])
add-download d new x e before q h g =
    subst (λ y. Gathers (record d { max = new }) (before ++ y ∷ [])) (sym q)
    (gathers d (record d { max = new }) (DownloadLine x) before (record {
      product = sym (or-none d.product);
      serial = sym (or-none d.serial);
      vars = sym (append-nil d.vars);
      slots = sym (or-none d.slots);
      max = h;
      physical = sym (append-nil d.physical);
      super_part = sym (or-none d.super_part);
    }) g)

pub add-super : (d : Draft) (new : Option (SuperPart)) (x : SuperPart) (e : Entry) (before : List Entry) → e ≡ SuperLine x → new ≡ option_or d.super_part (Some x) →
    Gathers d before → Gathers (record d { super_part = new }) (before ++ e ∷ [])
add-super d new x e before q h g =
    subst (λ y. Gathers (record d { super_part = new }) (before ++ y ∷ [])) (sym q)
    (gathers d (record d { super_part = new }) (SuperLine x) before (record {
      product = sym (or-none d.product);
      serial = sym (or-none d.serial);
      vars = sym (append-nil d.vars);
      slots = sym (or-none d.slots);
      max = sym (or-none d.max);
      physical = sym (append-nil d.physical);
      super_part = h;
    }) g)

pub add-variable : (d : Draft) (new : List Variable) (x : Variable) (e : Entry) (before : List Entry) → e ≡ VariableLine x → new ≡ d.vars ++ x ∷ [] →
    Gathers d before → Gathers (record d { vars = new }) (before ++ e ∷ [])
add-variable d new x e before q h g =
    subst (λ y. Gathers (record d { vars = new }) (before ++ y ∷ [])) (sym q)
    (gathers d (record d { vars = new }) (VariableLine x) before (record {
      product = sym (or-none d.product);
      serial = sym (or-none d.serial);
      vars = h;
      slots = sym (or-none d.slots);
      max = sym (or-none d.max);
      physical = sym (append-nil d.physical);
      super_part = sym (or-none d.super_part);
    }) g)

pub add-partition : (d : Draft) (new : List PhysicalPart) (x : PhysicalPart) (e : Entry) (before : List Entry) → e ≡ PartitionLine x → new ≡ d.physical ++ x ∷ [] →
    Gathers d before → Gathers (record d { physical = new }) (before ++ e ∷ [])
add-partition d new x e before q h g =
    subst (λ y. Gathers (record d { physical = new }) (before ++ y ∷ [])) (sym q)
    (gathers d (record d { physical = new }) (PartitionLine x) before (record {
      product = sym (or-none d.product);
      serial = sym (or-none d.serial);
      vars = sym (append-nil d.vars);
      slots = sym (or-none d.slots);
      max = sym (or-none d.max);
      physical = h;
      super_part = sym (or-none d.super_part);
    }) g)
