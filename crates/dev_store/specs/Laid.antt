-- What every layout that a text gives keeps.
use Rattle.std.specs.Prelude.{ℕ, Bool, true, ◌&&◌, ◌||◌, List, ◌++◌, map, length, nat_le, ◌==◌, Option}
use Rattle.std.specs.Prelude.{Some, None, option_map, option_to_list, IsTrue}
use Rattle.std.specs.List.{list_all}
use Rattle.fb_frame.specs.NameText.{is_name}
use Rattle.fb_frame.specs.Distinct.{are_distinct}
use Rattle.dev_model.specs.Validity.{is_between, is_label, is_variable}
use Rattle.dev_store.specs.declared.layout.SuperPart.{SuperPart}
use Rattle.dev_store.specs.declared.entries.Entry.TheVariants.{SuperLine}
use Rattle.dev_store.specs.LayoutLines.{is_size, is_sized, has_room}
use Rattle.dev_store.specs.Layouts.{LayoutValue}

-- a super whose numbers keep their conditions, and where a table has room
abbrev pub is_good_super : Option SuperPart → Bool
is_good_super None = true
is_good_super (Some s) = is_name s.name && is_sized (SuperLine s) && has_room (SuperLine s)

-- the names of all physical partitions, and super's
abbrev pub layout_names : LayoutValue → List (List ℕ)
layout_names layout = map (λ p. p.name) layout.physical
    ++ option_to_list (option_map (λ s. s.name) layout.super_part)

pub record IsLaid (layout : LayoutValue) : Type 0 where
  pub variables : IsTrue (nat_le (length layout.vars) 64 && list_all is_variable layout.vars)
  pub variable_names : IsTrue (are_distinct (map (λ v. v.name) layout.vars))
  pub physical : IsTrue (nat_le (length layout.physical) 64 && list_all (λ p. is_size p.size) layout.physical)
  pub physical_names : IsTrue (list_all (λ p. is_name p.name) layout.physical)
  pub names : IsTrue (are_distinct (layout_names layout))
  pub super : IsTrue (is_good_super layout.super_part)
  pub labels : IsTrue (is_label layout.product && is_label layout.serial)
  pub slots : IsTrue (layout.slots == 0 || layout.slots == 2)
  pub download : IsTrue (is_between 131072 268435456 layout.max)
