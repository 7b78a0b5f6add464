-- What is put of a source into an out, which tell what they hold or don't.
use Rattle.std.specs.Prelude.{◌≡◌, ◌<◌, ℕ, zero, suc, ◌*◌, List, [], ◌∷◌, ◌++◌, length, take, drop, ◌==◌, if◌then◌else◌, Option, IfSome}
use Rattle.std.specs.List.{flat_map}
use Rattle.sparse_image.specs.declared.chunk.Content.{Content}
use Rattle.sparse_image.specs.declared.chunk.Content.TheVariants.{Raw, Fill, DontCare}
use Rattle.sparse_image.specs.declared.chunk.Chunk.{Chunk}
use Rattle.sparse_image.specs.Outside.{Grew, GrewOrLost}
use Rattle.sparse_image.specs.Walks.{chunk_len}
use Rattle.sparse_image.specs.Pieces.{head_bytes, kind_of}

-- the first n of some bytes, with zeros behind their end
unfoldable pub padded : ℕ → List ℕ → List ℕ
padded zero bytes = []
padded (suc n) [] = 0 ∷ padded n []
padded (suc n) (byte ∷ bytes) = byte ∷ padded n bytes

-- n bytes of a list from a place on, with zeros behind its end
abbrev pub padded_part : ℕ → ℕ → List ℕ → List ℕ
padded_part at n file = padded n (drop at file)

-- the data of a chunk of so many bytes of the image
abbrev pub padded_data : ℕ → Content → List ℕ → List ℕ
padded_data n (Raw place) file = padded_part place n file
padded_data n (Fill pattern) file = pattern
padded_data n DontCare file = []

-- a chunk as it stands in a sparse file
abbrev pub padded_chunk : ℕ → Chunk → List ℕ → List ℕ
padded_chunk block chunk file = head_bytes (kind_of chunk.content) chunk.blocks (chunk_len block chunk) ++ padded_data (chunk.blocks * block) chunk.content file

-- chunks as they stand in a sparse file
abbrev pub padded_chunks : ℕ → List Chunk → List ℕ → List ℕ
padded_chunks block chunks file = flat_map (λ (chunk : Chunk). padded_chunk block chunk file) chunks

-- a chunk of n blocks that stay as they were, if there are any
abbrev pub hole_bytes : ℕ → List ℕ
hole_bytes n = if n == 0 then [] else head_bytes 0xCAC3 n 12

-- so many bytes were put, and of a told list those that are wanted of it
pub record Puts (told : Option (List ℕ)) (want : List ℕ → List ℕ) (n : ℕ) (before now : Option (List ℕ)) : Type 0 where
  pub bytes : List ℕ
  pub long : length bytes ≡ n
  pub wanted : IfSome told (λ file. bytes ≡ want file)
  pub grew : Grew before now bytes

-- fewer were put, and of a told list the first of those that are wanted of it
pub record PutsInPart (told : Option (List ℕ)) (want : List ℕ → List ℕ) (n : ℕ) (before now : Option (List ℕ)) : Type 0 where
  pub bytes : List ℕ
  pub short : length bytes < n
  pub wanted : IfSome told (λ file. bytes ≡ take (length bytes) (want file))
  pub grew : GrewOrLost before now bytes
