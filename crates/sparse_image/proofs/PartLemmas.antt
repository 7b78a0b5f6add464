-- The bytes of a piece, as they are put.
use Rattle.std.proofs.Common.{◌≡◌, ℕ, ◌+◌, ◌-◌, ◌*◌, ◌<◌, ◌≤◌, Bool, true, false, List, [], ◌∷◌, ◌++◌, length, take, drop, replicate, length-append, Option, Some, None, Ok, refl, sym, ap, ◌∙◌, arith, ⊎_elim}
use Rattle.std.specs.Prelude.{IfSome, if◌then◌else◌}
use Rattle.std.specs.List.{flat_map, sum_by, All}
use Rattle.std.proofs.lemmas.Bool.Decides.{eqb_tells}
use Rattle.std.proofs.lemmas.List.{append-nil, append_assoc, take_all, length-replicate}
use Rattle.std.proofs.lemmas.List.Concat.{flat_map-append}
use Rattle.std.proofs.lemmas.List.Elements.{All-head, All-tail}
use Rattle.dev_model.specs.Images.{image, round_up}
use Rattle.dev_model.specs.declared.cells.Cell.{Cell}
use Rattle.sparse_image.specs.declared.chunk.Content.{Content}
use Rattle.sparse_image.specs.declared.chunk.Content.TheVariants.{Raw, Fill, DontCare}
use Rattle.sparse_image.specs.declared.chunk.Chunk.{Chunk}
use Rattle.sparse_image.specs.declared.rest.Rest.{Rest}
use Rattle.sparse_image.specs.Outside.{Grew, GrewInPart}
use Rattle.sparse_image.specs.Walks.{Kept, checked, source_of, chunk_len, LiesIn}
use Rattle.sparse_image.specs.Pieces.{kind_of, head_bytes, chunk_bytes, data_bytes, header_bytes, first_blocks, behind_blocks, hole, piece_chunks, whole_len}
use Rattle.sparse_image.specs.Cuts.{Part, part_bytes, part_len, part_cells, rest_chunks, IsCut, IsPart}
use Rattle.sparse_image.specs.Puts.{padded, padded_part, padded_data, padded_chunks, hole_bytes, Puts, PutsInPart}
use Rattle.sparse_image.proofs.CutLemmas.{IsChunk}
use Rattle.sparse_image.proofs.KeptLemmas.{kept-well}
use Rattle.sparse_image.proofs.PieceLemmas.{piece-image, behind-each, first-each}
use Rattle.sparse_image.proofs.ReachLemmas.{piece-len}
use Rattle.sparse_image.proofs.WholeLemmas.{whole-image}
use Rattle.sparse_image.proofs.SplitLemmas.{whole-cells}
use Rattle.sparse_image.proofs.PaddedLemmas.{padded-behind}
use Rattle.sparse_image.proofs.WriteLemmas.{head-puts, head-part, head-front, puts-same, part-same, puts-then, puts-part, part-puts, puts-all, puts-front, told-each}

-- the data of a chunk lies in a file, or in the zeros behind a raw one
source-by : (sparse : Bool) (file : List ℕ) (n place z : ℕ) → place + n ≤ length (if sparse then file else (file ++ replicate z 0)) → padded n (drop place file) ≡ take n (drop place (if sparse then file else (file ++ replicate z 0)))
source-by true file n place z l = padded-behind n place 0 file (omega arith) ∙ ap (λ (xs : List ℕ). take n (drop place xs)) (append-nil file)
source-by false file n place z l = padded-behind n place z file (omega (arith, length-append file (replicate z 0), length-replicate {A = ℕ} z 0))

pub source-part : (kept : Kept) (file : List ℕ) (n place : ℕ) → place + n ≤ length (source_of kept file) → padded n (drop place file) ≡ take n (drop place (source_of kept file))
source-part kept file n place l = source-by kept.sparse file n place (round_up (length file) - length file) l

data-same : (kept : Kept) (file : List ℕ) (n : ℕ) (content : Content) → LiesIn (length (source_of kept file)) n content → padded_data n content file ≡ data_bytes n (source_of kept file) content
data-same kept file n (Raw place) l = source-part kept file n place l
data-same kept file n (Fill pattern) l = refl
data-same kept file n DontCare l = refl

chunks-same : (kept : Kept) (file : List ℕ) (block : ℕ) (chunks : List Chunk) → All (IsChunk block (length (source_of kept file))) chunks → padded_chunks block chunks file ≡ flat_map (chunk_bytes block (source_of kept file)) chunks
chunks-same kept file block [] w = refl
chunks-same kept file block (chunk ∷ chunks) w =
    let own = All-head (IsChunk block (length (source_of kept file))) chunk chunks w in
    let head = head_bytes (kind_of chunk.content) chunk.blocks (chunk_len block chunk) in
    let same = data-same kept file (chunk.blocks * block) chunk.content own.lies in
    ap (λ (xs : List ℕ). (head ++ xs) ++ padded_chunks block chunks file) same
    ∙ ap (λ (xs : List ℕ). chunk_bytes block (source_of kept file) chunk ++ xs) (chunks-same kept file block chunks (All-tail (IsChunk block (length (source_of kept file))) chunk chunks w))

hole-same : (block n : ℕ) (source : List ℕ) → flat_map (chunk_bytes block source) (hole n) ≡ hole_bytes n
hole-same block n source = ⊎_elim (λ k. rw k.0 refl) (λ k. rw k.0 refl) (eqb_tells n 0)

hole-long : (n : ℕ) → length (hole_bytes n) ≡ 12 * length (hole n)
hole-long n = ⊎_elim (λ k. rw k.0 refl) (λ k. rw k.0 refl) (eqb_tells n 0)

told-from : (o : Option (List ℕ)) (P Q : List ℕ → Type 0) → ((file : List ℕ) → P file → Q file) → IfSome o P → IfSome o Q
told-from None P Q f h = tt
told-from (Some file) P Q f h = f file h

-- a piece that isn't the whole file
module _ (o : Option (List ℕ)) (kept : Kept) (first last chunks : ℕ) (rest : Rest) (told : IfSome o (λ file. checked file ≡ Ok kept)) (cut : IsCut kept first last chunks rest) where
  abbrev part : Part
  part = record { kept = kept; whole = false; first = first; last = last }

  abbrev head : List ℕ
  head = header_bytes kept.block kept.blocks chunks ++ hole_bytes first

  abbrev middle : List Chunk
  middle = first_blocks (last - first) (rest_chunks rest)

  abbrev end : List ℕ
  end = hole_bytes (kept.blocks - last)

  abbrev whole : List ℕ → List ℕ
  whole file = head ++ (padded_chunks rest.block middle file ++ end)

  abbrev middle_len : ℕ
  middle_len = sum_by (chunk_len rest.block) middle

  abbrev len : ℕ
  len = length head + (middle_len + length end)

  middle-is : middle ≡ first_blocks (last - first) (behind_blocks kept.block first kept.chunks)
  middle-is = ap (λ (xs : List Chunk). first_blocks (last - first) xs) cut.rest

  middle-bytes : (file : List ℕ) → checked file ≡ Ok kept → padded_chunks rest.block middle file ≡ flat_map (chunk_bytes kept.block (source_of kept file)) (first_blocks (last - first) (behind_blocks kept.block first kept.chunks))
  middle-bytes file h =
      let n = length (source_of kept file) in
      let rest_all = behind_blocks kept.block first kept.chunks in
      ap (λ (x : ℕ). padded_chunks x middle file) cut.block
      ∙ ap (λ (xs : List Chunk). padded_chunks kept.block xs file) middle-is
      ∙ chunks-same kept file kept.block (first_blocks (last - first) rest_all)
      (first-each kept.block n rest_all (last - first) (behind-each kept.block n kept.chunks first (kept-well file kept h).chunks.each))

  cut-bytes : (file : List ℕ) → checked file ≡ Ok kept → whole file ≡ part_bytes part file
  cut-bytes file h =
      let source = source_of kept file in
      let f = chunk_bytes kept.block source in
      let own = first_blocks (last - first) (behind_blocks kept.block first kept.chunks) in
      let holes = hole (kept.blocks - last) in
      let header = header_bytes kept.block kept.blocks chunks in
      let last_bytes = flat_map-append f own holes ∙ ap (λ (xs : List ℕ). flat_map f own ++ xs) (hole-same kept.block (kept.blocks - last) source) in
      let all_bytes = flat_map-append f (hole first) (own ++ holes) ∙ ap (λ (xs : List ℕ). xs ++ flat_map f (own ++ holes)) (hole-same kept.block first source) ∙ ap (λ (xs : List ℕ). hole_bytes first ++ xs) last_bytes in
      append_assoc header (hole_bytes first) (padded_chunks rest.block middle file ++ end)
      ∙ ap (λ (xs : List ℕ). header ++ (hole_bytes first ++ (xs ++ end))) (middle-bytes file h)
      ∙ ap (λ (xs : List ℕ). header ++ xs) (sym all_bytes)
      ∙ ap (λ (x : ℕ). header_bytes kept.block kept.blocks x ++ flat_map f (piece_chunks kept first last)) cut.count

  told-bytes : IfSome o (λ file. whole file ≡ part_bytes part file)
  told-bytes = told-from o (λ file. checked file ≡ Ok kept) (λ file. whole file ≡ part_bytes part file) cut-bytes told

  cut-len : len ≡ part_len part
  cut-len =
      omega (
        arith,
        length-append (header_bytes kept.block kept.blocks chunks) (hole_bytes first),
        hole-long first,
        hole-long (kept.blocks - last),
        ap (λ (x : ℕ). sum_by (chunk_len x) middle) cut.block,
        ap (λ (xs : List Chunk). sum_by (chunk_len kept.block) xs) middle-is,
        piece-len kept first last,
      )

  module _ (a b : Option (List ℕ)) where
    pub cut-front : GrewInPart a b head → PutsInPart o (part_bytes part) (part_len part) a b
    cut-front g =
        part-same o whole (part_bytes part) len (part_len part) a b told-bytes cut-len
        (head-front o head (λ file. padded_chunks rest.block middle file ++ end) (length head) (middle_len + length end) a b refl (omega arith) g)

    module _ (g : Grew a b head) (c : Option (List ℕ)) where
      pub cut-middle : PutsInPart o (padded_chunks rest.block middle) middle_len b c → PutsInPart o (part_bytes part) (part_len part) a c
      cut-middle p =
          part-same o whole (part_bytes part) len (part_len part) a c told-bytes cut-len
          (head-part o head (λ file. padded_chunks rest.block middle file ++ end) (length head) (middle_len + length end) a b refl o c refl g
          (part-puts o (padded_chunks rest.block middle) (λ file. end) middle_len (length end) b c p))

      module _ (p : Puts o (padded_chunks rest.block middle) middle_len b c) (d : Option (List ℕ)) where
        told-end : IfSome o (λ file. end ≡ end)
        told-end = told-each o (λ file. end) (λ file. end) (λ file. refl)

        pub cut-end : 0 < length end → GrewInPart c d end → PutsInPart o (part_bytes part) (part_len part) a d
        cut-end h k =
            part-same o whole (part_bytes part) len (part_len part) a d told-bytes cut-len
            (head-part o head (λ file. padded_chunks rest.block middle file ++ end) (length head) (middle_len + length end) a b refl o d refl g
            (puts-part o (padded_chunks rest.block middle) (λ file. end) middle_len (length end) b c d p (puts-front o (λ file. end) (length end) end c d refl h told-end k)))

        pub cut-all : Grew c d end → Puts o (part_bytes part) (part_len part) a d
        cut-all k =
            puts-same o whole (part_bytes part) len (part_len part) a d told-bytes cut-len
            (head-puts o head (λ file. padded_chunks rest.block middle file ++ end) (length head) (middle_len + length end) a b refl o d refl g
            (puts-then o (padded_chunks rest.block middle) (λ file. end) middle_len (length end) b c d p (puts-all o (λ file. end) (length end) end c d refl told-end k)))

-- the whole file as its own piece
whole-bytes : (kept : Kept) (file : List ℕ) → checked file ≡ Ok kept → padded_part 0 (whole_len kept) file ≡ source_of kept file
whole-bytes kept file h =
    let l = (kept-well file kept h).long in
    source-part kept file (whole_len kept) 0 (omega (arith, l)) ∙ take_all (whole_len kept) (source_of kept file) (omega (arith, l))

module _ (o : Option (List ℕ)) (part : Part) (n : ℕ) (a b : Option (List ℕ)) (told : IfSome o (λ file. checked file ≡ Ok part.kept)) (w : part.whole ≡ true) (l : n ≡ part_len part) where
  len-is : part_len part ≡ whole_len part.kept
  len-is = ap (λ (x : Bool). part_len (record { kept = part.kept; whole = x; first = part.first; last = part.last })) w

  bytes-are : (file : List ℕ) → checked file ≡ Ok part.kept → padded_part 0 n file ≡ part_bytes part file
  bytes-are file h =
      ap (λ (x : ℕ). padded_part 0 x file) (l ∙ len-is)
      ∙ whole-bytes part.kept file h
      ∙ ap (λ (x : Bool). part_bytes (record { kept = part.kept; whole = x; first = part.first; last = part.last }) file) (sym w)

  told-whole : IfSome o (λ file. padded_part 0 n file ≡ part_bytes part file)
  told-whole = told-from o (λ file. checked file ≡ Ok part.kept) (λ file. padded_part 0 n file ≡ part_bytes part file) bytes-are told

  pub whole-puts : Puts o (padded_part 0 n) n a b → Puts o (part_bytes part) (part_len part) a b
  whole-puts p = puts-same o (padded_part 0 n) (part_bytes part) n (part_len part) a b told-whole l p

  pub whole-front : PutsInPart o (padded_part 0 n) n a b → PutsInPart o (part_bytes part) (part_len part) a b
  whole-front p = part-same o (padded_part 0 n) (part_bytes part) n (part_len part) a b told-whole l p

-- a piece is a file with its image
image-by : (kept : Kept) (whole : Bool) (first last len chunks : ℕ) (rest : Rest) → IsPart (record { kept = kept; whole = whole; first = first; last = last }) len chunks rest → (file : List ℕ) → checked file ≡ Ok kept →
    image (part_bytes (record { kept = kept; whole = whole; first = first; last = last }) file) ≡ Some (part_cells (record { kept = kept; whole = whole; first = first; last = last }) file)
image-by kept true first last len chunks rest w file h =
    let all = w.all refl in
    whole-image file kept h ∙ ap (λ (xs : List Cell). Some xs) (sym (whole-cells file kept first last h all.0 all.1))
image-by kept false first last len chunks rest w file h =
    let cut = w.cut refl in
    piece-image file kept len first last h w.index.count w.small (record { more = w.more; within = w.within; size = omega (arith, w.size); few = omega (arith, cut.count, cut.few) })

pub told-image : (o : Option (List ℕ)) (part : Part) (len chunks : ℕ) (rest : Rest) → IsPart part len chunks rest → IfSome o (λ file. checked file ≡ Ok part.kept) → IfSome o (λ file. image (part_bytes part file) ≡ Some (part_cells part file))
told-image o part len chunks rest w told =
    told-from o (λ file. checked file ≡ Ok part.kept) (λ file. image (part_bytes part file) ≡ Some (part_cells part file))
    (λ file h. image-by part.kept part.whole part.first part.last len chunks rest w file h) told
