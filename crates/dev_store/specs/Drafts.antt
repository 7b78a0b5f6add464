-- What the lines of a layout say together, while they are gathered.
use Rattle.std.specs.Prelude.{◌≡◌, ℕ, List, [], filter_map, unwrap_or}
use Rattle.dev_store.specs.declared.entries.Entry.{Entry}
use Rattle.dev_store.specs.declared.layout_draft.Draft.{Draft}
use Rattle.dev_store.specs.LayoutLines.{variable_in, partition_in, super_in}
use Rattle.dev_store.specs.Layouts.{LayoutValue, first_of, product_in, serial_in, slots_in, download_in}

-- a draft holds what these lines say
pub record Gathers (draft : Draft) (entries : List Entry) : Type 0 where
  pub product : draft.product ≡ first_of (filter_map product_in entries)
  pub serial : draft.serial ≡ first_of (filter_map serial_in entries)
  pub vars : draft.vars ≡ filter_map variable_in entries
  pub slots : draft.slots ≡ first_of (filter_map slots_in entries)
  pub max : draft.max ≡ first_of (filter_map download_in entries)
  pub physical : draft.physical ≡ filter_map partition_in entries
  pub super_part : draft.super_part ≡ first_of (filter_map super_in entries)

-- the layout of a text and a draft
abbrev pub drafted : List ℕ → Draft → LayoutValue
drafted text draft = record {
  text = text;
  product = unwrap_or draft.product [];
  serial = unwrap_or draft.serial [];
  vars = draft.vars;
  slots = unwrap_or draft.slots 0;
  max = unwrap_or draft.max 0;
  physical = draft.physical;
  super_part = draft.super_part;
}
