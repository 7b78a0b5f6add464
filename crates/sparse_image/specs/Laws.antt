-- The laws of the definitions.
use Rattle.std.specs.Prelude.{◌≡◌, ◌<◌, ◌≤◌, ◌*◌, ◌^◌, ℕ, ◌+◌, List, length, take, Option, Some, None, Result, Ok, Err}
use Rattle.std.specs.List.{sum_by}
use Rattle.sparse_image.specs.Cuts.{Part, AreCut, part_len}
use Rattle.dev_model.specs.Images.{image, over}
use Rattle.dev_model.specs.declared.cells.Cell.{Cell}
use Rattle.sparse_image.specs.declared.errors.SparseError.{SparseError}
use Rattle.sparse_image.specs.Walks.{Kept, IsKept, checked, kept_cells, source_of}
use Rattle.sparse_image.specs.declared.runs.Run.{Run}
use Rattle.sparse_image.specs.Runs.{Left, IsImage, AreGiven, AreGivenSoFar, put_runs}
use Rattle.sparse_image.specs.Pieces.{Fits, piece_file, piece_cells, put_pieces, Rise}

-- an image is there, and has the cells that are kept; or there is none, and something is wrong
abbrev pub Agrees : List ℕ → Result Kept SparseError → Option (List Cell) → Type 0
Agrees file (Ok kept) found = found ≡ Some (kept_cells kept file)
Agrees file (Err flaw) found = found ≡ None

-- the walk finds something wrong exactly where a file has no image, and else keeps its cells
abbrev pub WalkAgrees : Type 0
WalkAgrees = (file : List ℕ) → Agrees file (checked file) (image file)

-- what is kept of a file tells how long its image is
abbrev pub ImageLength : Type 0
ImageLength = (file : List ℕ) (kept : Kept) → checked file ≡ Ok kept → length (kept_cells kept file) ≡ kept.blocks * kept.block

-- Each piece has an image: the whole image's cells between its blocks, and skips before and behind. What
-- is kept of a list of bytes has fewer than 2 ^ 32 blocks, as every index has.
abbrev pub PieceImage : Type 0
PieceImage = (file : List ℕ) (kept : Kept) (max first last : ℕ) → checked file ≡ Ok kept → kept.blocks < 2 ^ 32 → max < 2 ^ 32 → Fits kept max first last → image (piece_file kept file first last) ≡ Some (piece_cells kept file first last)

-- that image is as long as the whole one
abbrev pub PieceLength : Type 0
PieceLength = (file : List ℕ) (kept : Kept) (first last : ℕ) → checked file ≡ Ok kept → first ≤ last → last ≤ kept.blocks → length (piece_cells kept file first last) ≡ length (kept_cells kept file)

-- a file that is sent whole, a raw one with its padding, has the image of the file that was checked
abbrev pub WholeImage : Type 0
WholeImage = (file : List ℕ) (kept : Kept) → checked file ≡ Ok kept → image (source_of kept file) ≡ Some (kept_cells kept file)

-- the pieces put over in order are the whole image put over
abbrev pub PiecesPut : Type 0
PiecesPut = (file : List ℕ) (kept : Kept) (places old : List ℕ) → checked file ≡ Ok kept → Rise 0 places kept.blocks → length (kept_cells kept file) ≤ length old → put_pieces kept file 0 places old ≡ over (kept_cells kept file) old

-- pieces put over in order up to a place are the image's front up to there put over
abbrev pub PiecesFront : Type 0
PiecesFront = (file : List ℕ) (kept : Kept) (end : ℕ) (places old : List ℕ) → checked file ≡ Ok kept → Rise 0 places end → end ≤ kept.blocks → length (kept_cells kept file) ≤ length old →
    put_pieces kept file 0 places old ≡ over (take (end * kept.block) (kept_cells kept file)) old

-- how many bytes all pieces of a file have together: those of its image, 16 for each chunk that a file may have, and 64 for each piece
abbrev pub PiecesBytes : Type 0
PiecesBytes = (kept : Kept) (max : ℕ) (parts : List Part) → IsKept kept → AreCut (record { kept = kept; max = max; first = 0 }) parts →
    sum_by part_len parts ≤ kept.blocks * kept.block + 16 * 1000000 + 64 * length parts

-- the runs of an image, put at their places in order, are the image put over
abbrev pub RunsPut : Type 0
RunsPut = (file : List ℕ) (left : Left) (runs : List Run) (old : List ℕ) → IsImage (image file) left → AreGiven left runs → length left.cells ≤ length old → put_runs runs old ≡ over left.cells old

-- the runs of an image that were given so far, put at their places in order, are the image's front up to the place that was reached put over
abbrev pub RunsFront : Type 0
RunsFront = (file : List ℕ) (left now : Left) (runs : List Run) (old : List ℕ) → IsImage (image file) left → AreGivenSoFar left runs now → length left.cells ≤ length old →
    put_runs runs old ≡ over (take now.at left.cells) old
