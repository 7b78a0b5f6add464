-- An image as runs of bytes with their places, which leave out what is to stay.
use Rattle.std.specs.Prelude.{◌≡◌, ℕ, ◌+◌, ◌-◌, ◌*◌, ◌/◌, ◌%◌, ◌^◌, ◌<◌, ◌≤◌, List, [], ◌∷◌, ◌++◌, length, map, replicate, Option, Some, None, IsSome, unwrap_or}
use Rattle.dev_model.specs.Images.{copies, chunks_cells, over}
use Rattle.dev_model.specs.declared.cells.Cell.{Cell}
use Rattle.dev_model.specs.declared.cells.Cell.TheVariants.{Byte, Skip}
use Rattle.sparse_image.specs.declared.runs.Run.{Run}
use Rattle.sparse_image.specs.declared.runs.Run.TheVariants.{Copy, Fill, Zeros}
use Rattle.sparse_image.specs.declared.runs.Chunks.{Chunks}
use Rattle.sparse_image.specs.declared.runs.Padded.{Padded}
use Rattle.sparse_image.specs.declared.runs.Walk.{Walk}
use Rattle.sparse_image.specs.declared.runs.Walk.TheVariants as walk

-- what is left of an image to write: the image's length, the place that was reached, and the cells from there on
pub record Left : Type 0 where
  pub len : ℕ
  pub at : ℕ
  pub cells : List Cell

-- the place of a run
abbrev pub run_at : Run → ℕ
run_at (Copy at bytes) = at
run_at (Fill at length pattern) = at
run_at (Zeros at length) = at

-- the cells of a run, which are all bytes
abbrev pub run_cells : Run → List Cell
run_cells (Copy at bytes) = map Byte bytes.now
run_cells (Fill at length pattern) = copies (length / 4) (map Byte pattern)
run_cells (Zeros at length) = replicate length (Byte 0)

-- how many bytes a run has
abbrev pub run_len : Run → ℕ
run_len (Copy at bytes) = length bytes.now
run_len (Fill at length pattern) = length
run_len (Zeros at length) = length

-- four bytes again and again are whole fours, from a multiple of four on
abbrev pub HasFours : Run → Type 0
HasFours (Copy at bytes) = Unit {0}
HasFours (Fill at length pattern) = (at % 4 ≡ 0) × (length % 4 ≡ 0)
HasFours (Zeros at length) = Unit {0}

-- a run of at least one byte within the image, before which all is to stay, and what is left after it
pub record GivesRun (before : Left) (run : Run) (now : Left) : Type 0 where
  pub len : now.len ≡ before.len
  pub later : before.at ≤ run_at run
  pub some : 0 < length (run_cells run)
  pub fours : HasFours run
  pub within : run_at run + run_len run ≤ before.len
  pub at : now.at ≡ run_at run + length (run_cells run)
  pub cells : before.cells ≡ replicate (run_at run - before.at) Skip ++ (run_cells run ++ now.cells)

-- all up to a place is to stay
pub record Skips (before now : Left) : Type 0 where
  pub len : now.len ≡ before.len
  pub later : before.at ≤ now.at
  pub cells : before.cells ≡ replicate (now.at - before.at) Skip ++ now.cells

-- the next run, and none only where all that is left is to stay
abbrev pub Gives : Left → Option Run → Left → Type 0
Gives before (Some run) now = GivesRun before run now
Gives before None now = Skips before now × (now.cells ≡ [])

-- the same for one chunk: its run, and none where it is to stay or has no blocks
abbrev pub GivesFront : Left → Option Run → Left → Type 0
GivesFront before (Some run) now = GivesRun before run now
GivesFront before None now = Skips before now

-- the next cells, and what is left behind them
pub record Advances (before : Left) (front : List Cell) (now : Left) : Type 0 where
  pub len : now.len ≡ before.len
  pub at : now.at ≡ before.at + length front
  pub cells : before.cells ≡ front ++ now.cells

-- what is left of a sparse file's image, by its chunks
abbrev pub chunks_left : Chunks → Left
chunks_left c = record { len = c.at + c.blocks * c.block; at = c.at; cells = unwrap_or (chunks_cells c.chunks c.block c.blocks c.bytes.now) [] }

-- what is left of a raw file's image
abbrev pub padded_left : Padded → Left
padded_left p = record { len = p.at + (length p.bytes.now + p.zeros); at = p.at; cells = map Byte (p.bytes.now ++ replicate p.zeros 0) }

abbrev pub walk_left : Walk → Left
walk_left (walk.Sparse chunks) = chunks_left chunks
walk_left (walk.Raw padded) = padded_left padded

-- the chunks are whole, and no number passes its type
pub record AreWhole (c : Chunks) : Type 0 where
  pub whole : IsSome (chunks_cells c.chunks c.block c.blocks c.bytes.now)
  pub small : c.at + c.blocks * c.block < 2 ^ 64
  pub fours : c.block % 4 ≡ 0
  pub placed : c.at % 4 ≡ 0

abbrev pub IsWalk : Walk → Type 0
IsWalk (walk.Sparse chunks) = AreWhole chunks
IsWalk (walk.Raw padded) = padded.at + (length padded.bytes.now + padded.zeros) < 2 ^ 64

-- all of an image is left
pub record IsImage (found : Option (List Cell)) (left : Left) : Type 0 where
  pub cells : found ≡ Some left.cells
  pub at : left.at ≡ 0
  pub len : left.len ≡ length left.cells

-- these runs were given, one after another, and then none
abbrev pub AreGiven : Left → List Run → Type 0
AreGiven left [] = (now : Left) × Gives left None now
AreGiven left (run ∷ runs) = (now : Left) × (Gives left (Some run) now × AreGiven now runs)

-- these runs were given so far, one after another, and this is left
abbrev pub AreGivenSoFar : Left → List Run → Left → Type 0
AreGivenSoFar before [] now = now ≡ before
AreGivenSoFar before (run ∷ runs) now = (next : Left) × (GivesRun before run next × AreGivenSoFar next runs now)

-- bytes after runs are put over them, each at its place
abbrev pub put_runs : List Run → List ℕ → List ℕ
put_runs [] old = old
put_runs (run ∷ runs) old = put_runs runs (over (replicate (run_at run) Skip ++ run_cells run) old)
