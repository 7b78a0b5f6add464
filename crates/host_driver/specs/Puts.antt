-- An image that is put over a partition, piece by piece: what each flash and all of them come to.
use Rattle.std.specs.Prelude.{◌≡◌, ◌⊎◌, ℕ, ◌+◌, ◌-◌, ◌*◌, true, flat_map, ◌≤◌, List, [], ◌++◌, take, Option, Some, IfSome, IsFalse}
use Rattle.std.specs.Prelude.{option_and_then}
use Rattle.fb_frame.specs.Causes.{Rose}
use Rattle.fb_frame.specs.Sinks.{Grew}
use Rattle.fb_message.specs.CommandText.{Flash}
use Rattle.dev_model.specs.declared.cells.Cell.{Cell}
use Rattle.dev_model.specs.declared.device.Dev.{Dev}
use Rattle.dev_model.specs.declared.step.Step.TheVariants.{Put}
use Rattle.dev_model.specs.Attempts.{IsHaltedOver}
use Rattle.dev_model.specs.declared.device.Mode.TheVariants.{Halted}
use Rattle.dev_model.specs.Images.{image, over}
use Rattle.dev_model.specs.Partitions.{with_bytes}
use Rattle.dev_model.specs.Steps.{can}
use Rattle.sparse_image.specs.Cuts.{Cutting, Part, AreCut, most_left}
use Rattle.sparse_image.specs.Walks.{Kept as KeptImage, kept_cells}
use Rattle.wire_model.specs.Says.{loaded_image}
use Rattle.wire_told.specs.Answered.{Sound}
use Rattle.wire_told.specs.Peers.{OfLink, OnLink, OffLink}
use Rattle.wire_told.specs.Places.{Appended}
use Rattle.wire_told.specs.Ports.{PortTold, Kept}
use Rattle.fb_link.specs.Seen.{Seen}
use Rattle.host_driver.specs.declared.drive.DriveError.{DriveError}
use Rattle.host_driver.specs.declared.drive.DriveError.TheVariants as stop
use Rattle.host_driver.specs.Commands.{TookStep, RefusedStep}
use Rattle.host_driver.specs.Driven.{IsHaltedNow}
use Rattle.host_driver.specs.Driving.{Grows}
use Rattle.host_driver.specs.HeardLast.{HeardThen, HeardAt}
use Rattle.host_driver.specs.PutPieces.{GoesOn}
use Rattle.host_driver.specs.Stepping.{Serving, WhyStopped, NoFiles, IsStepped, IsStopped, IsUnshown, IsFixed}
use Rattle.host_driver.specs.Jobs.{OfTold}
use Rattle.host_driver.specs.Wires.{command_wire, download_wire, part_wire, IsPut, LogGrew}

-- What was loaded was flashed: a told device took its image.
pub record HasFlashed (name : List ℕ) (old new : Seen) : Type 0 where
  pub took : OnLink (λ w u. TookStep (Put name (loaded_image w.loaded)) w.device u.device) old.port.peer new.port.peer
  pub serving : (spare : ℕ) → Serving (4104 + spare) old.port.peer → Serving spare new.port.peer
  pub log : Appended old.port.log new.port.log (command_wire (Flash name))
  pub goes : GoesOn old new

-- What a flash leaves that broke off: the device as it was, with the image put over the partition, or, where
-- `broke` holds, halted with the partition's bytes unknown.
abbrev pub IsFlashLeft : Type 0 → List ℕ → List Cell → Dev → Dev → Type 0
IsFlashLeft broke name cells s t = (t ≡ s) ⊎ TookStep (Put name cells) s t ⊎ (broke × IsHaltedOver name s t)

-- a flash of an image was refused with this text: a told device refuses it, or halted in it
abbrev pub IsFlashStuck : DriveError → List ℕ → PortTold → PortTold → Type 0
IsFlashStuck (stop.Refused text) name old new = OffLink (λ w t. (cells : List Cell) →
    option_and_then image w.loaded ≡ Some cells →
    RefusedStep (Put name cells) text w.device t ⊎ IsHaltedNow old.faults new.faults text t) old.peer new.peer
IsFlashStuck _ name old new = Unit {0}

-- An attempt broke off in a flash of what was loaded.
pub record FlashFails (name : List ℕ) (old new : Seen) (error : DriveError) : Type 0 where
  pub why : WhyStopped NoFiles old.port new.port error
  pub left : OffLink (λ w t. IsFlashLeft (Rose old.port.faults new.port.faults) name (loaded_image w.loaded) w.device t)
      old.port.peer new.port.peer
  pub stuck : IsFlashStuck error name old.port new.port
  pub unshown : IsUnshown error old.port.peer
  pub quiet : OfLink (λ w. Grew old.text new.text []) old.port.peer
  pub grows : Grows old.text new.text
  pub heard : HeardThen old.port.heard [] → HeardAt new.port error
  pub down : IsFalse new.port.up
  pub sound : Sound new.port.peer
  pub kept : Kept old.port new.port

-- What is put, in pieces: the partition's name, which bytes a piece may be, and why a file fails.
pub record Putting : Type 1 where
  pub name : List ℕ
  pub Wanted : List ℕ → Type 0
  pub Files : List ℕ → Type 0

-- a piece of so many bytes takes at most so many of a connection
abbrev pub put_cost : ℕ → ℕ
put_cost n = 8208 + 9 * n

-- the bytes of a piece, and its flash
abbrev pub piece_wire : List ℕ → List ℕ → List ℕ
piece_wire name bytes = download_wire bytes ++ command_wire (Flash name)

-- A piece was downloaded and flashed: a told device took its image, and a told log grew by both.
pub record HasPut (p : Putting) (cost : ℕ) (old new : Seen) : Type 0 where
  pub bytes : List ℕ
  pub part_is : OfLink (λ w. p.Wanted bytes) old.port.peer
  pub took : OfTold old.port.peer new.port.peer (TookStep (Put p.name (loaded_image (Some bytes))))
  pub serving : (spare : ℕ) → Serving (cost + spare) old.port.peer → Serving spare new.port.peer
  pub log : LogGrew old.port.log new.port.log (λ wire. OfLink (λ w. wire ≡ piece_wire p.name bytes) old.port.peer)
  pub goes : GoesOn old new

-- what is left of a device where an attempt broke off in a piece
abbrev pub IsPieceLeft : Putting → Type 0 → Dev → Dev → Type 0
IsPieceLeft p broke s t =
    (t ≡ s)
    ⊎ ((bytes : List ℕ) × p.Wanted bytes × TookStep (Put p.name (loaded_image (Some bytes))) s t)
    ⊎ (broke × IsHaltedOver p.name s t)

-- why a piece is refused that has an image
abbrev pub IsPieceStuck : DriveError → Putting → PortTold → PortTold → Type 0
IsPieceStuck (stop.Refused text) p old new = OfTold old.peer new.peer (λ s t. (bytes : List ℕ) × p.Wanted bytes
    × ((cells : List Cell) → image bytes ≡ Some cells →
    RefusedStep (Put p.name cells) text s t ⊎ IsHaltedNow old.faults new.faults text t))
IsPieceStuck _ p old new = Unit {0}

-- An attempt broke off in a piece.
pub record PutFails (p : Putting) (old new : Seen) (error : DriveError) : Type 0 where
  pub why : WhyStopped p.Files old.port new.port error
  pub left : OfTold old.port.peer new.port.peer (IsPieceLeft p (Rose old.port.faults new.port.faults))
  pub stuck : IsPieceStuck error p old.port new.port
  pub unshown : IsUnshown error old.port.peer
  pub quiet : OfLink (λ w. Grew old.text new.text []) old.port.peer
  pub grows : Grows old.text new.text
  pub heard : HeardThen old.port.heard [] → HeardAt new.port error
  pub down : IsFalse new.port.up
  pub sound : Sound new.port.peer
  pub kept : Kept old.port new.port

-- An image that is put: the partition's name, what is kept of the file, how many bytes a piece has at most, and
-- the file where it is told.
pub record Whole : Type 0 where
  pub name : List ℕ
  pub kept : KeptImage
  pub most : ℕ
  pub told : Option (List ℕ)

-- how many bytes of a connection an image takes at most
abbrev pub image_cost : KeptImage → ℕ
image_cost kept = 9 * (kept.blocks * kept.block + 16 * 1000000) + 8784 * kept.blocks

-- what is left of that
abbrev pub left_cost : Cutting → ℕ
left_cost c = 9 * most_left c + 8784 * (c.kept.blocks - c.first)

-- The first n cells were put over the partition, where any were to be.
abbrev pub IsFrontPut : List ℕ → List Cell → ℕ → Dev → Dev → Type 0
IsFrontPut name cells n s t =
    (t ≡ with_bytes name (over (take n cells)) s) × ((n ≡ 0) ⊎ (can (Put name cells) s ≡ true))

-- the pieces of which these bytes were sent
abbrev pub ArePieces : Whole → List Part → List ℕ → Type 0
ArePieces p parts wire = IfSome p.told (λ file. wire ≡ flat_map (part_wire p.name file) parts)

-- Some pieces of an image were put, and these are left.
pub record PutsSoFar (p : Whole) (c : Cutting) (old new : Seen) : Type 0 where
  pub kept_is : c.kept ≡ p.kept
  pub most_is : c.max ≡ p.most
  pub within : c.first ≤ p.kept.blocks
  pub linked : OnLink (λ w v. Unit {0}) old.port.peer new.port.peer
  pub parts : List Part
  pub cut : (rest : List Part) → AreCut c rest →
      AreCut (record { kept = p.kept; max = p.most; first = 0 }) (parts ++ rest)
  pub front : IfSome p.told (λ file. OfTold old.port.peer new.port.peer
      (IsFrontPut p.name (kept_cells p.kept file) (c.first * p.kept.block)))
  pub log : LogGrew old.port.log new.port.log (λ wire. OfLink (λ w. ArePieces p parts wire) old.port.peer)
  pub serving : (spare : ℕ) → Serving (image_cost p.kept + spare) old.port.peer
      → Serving (left_cost c + spare) new.port.peer
  pub fits : OfLink (λ w. p.most ≤ w.device.max) new.port.peer
  pub fixed : OfTold old.port.peer new.port.peer IsFixed
  pub goes : GoesOn old new

unfoldable pub IsPutSoFar : Whole → Cutting → Seen → Seen → Type 0
IsPutSoFar p c old new = PutsSoFar p c old new

-- The whole image was put: where the file is told, the device took the step, and the log grew by its pieces.
pub record HasPutAll (p : Whole) (old new : Seen) : Type 0 where
  pub stepped : IfSome p.told (λ file. IsStepped (image_cost p.kept)
      (λ wire. OfLink (λ w. IsPut p.name file p.kept p.most wire) old.port.peer)
      (Put p.name (kept_cells p.kept file)) old new)
  pub serving : (spare : ℕ) → Serving (image_cost p.kept + spare) old.port.peer → Serving spare new.port.peer
  pub fixed : OfTold old.port.peer new.port.peer IsFixed
  pub goes : GoesOn old new

-- An attempt broke off in an image: where the file is told, in its step.
pub record PutBreaks (Files : List ℕ → Type 0) (p : Whole) (old new : Seen) (error : DriveError) : Type 0
  where
    pub stopped : IfSome p.told (λ file. IsStopped Files (Put p.name (kept_cells p.kept file)) old new error)
    pub lives : OfTold old.port.peer new.port.peer
        (λ s t. t.mode ≡ Halted → Rose old.port.faults new.port.faults)
    pub fixed : OfTold old.port.peer new.port.peer IsFixed
    pub unshown : IsUnshown error old.port.peer
    pub why : WhyStopped Files old.port new.port error
    pub quiet : OfLink (λ w. Grew old.text new.text []) old.port.peer
    pub grows : Grows old.text new.text
    pub heard : HeardThen old.port.heard [] → HeardAt new.port error
    pub down : IsFalse new.port.up
    pub sound : Sound new.port.peer
    pub kept : Kept old.port new.port
