-- What a change that the program names makes of a partition's bytes.
use Rattle.std.specs.Prelude.{ℕ, List}
use Rattle.dev_model.specs.declared.changes.Change.{Change}
use Rattle.dev_model.specs.declared.changes.Change.TheVariants.{Put, Wipe, Resize}
use Rattle.dev_model.specs.Images.{over}
use Rattle.dev_model.specs.Steps.{cut_or_padded, wiped}

-- the bytes after the change
abbrev pub changed : Change → List ℕ → List ℕ
changed (Put cells) old = over cells.now old
changed Wipe old = wiped old
changed (Resize size) old = cut_or_padded size old
