-- The files of a product, added one after another.
use Rattle.std.proofs.Common.{◌≡◌, ℕ, List, [], ◌∷◌, ◌++◌, Some, if◌then◌else◌, refl, ap, ◌∙◌, map, bytes_eq, string_bytes}
use Rattle.std.proofs.Common.{append_assoc}
use Rattle.flash_plan.specs.declared.memory_dir.DirFile.{DirFile}
use Rattle.flash_plan.specs.MemoryFiles.{file_of}
use Rattle.sample_product.specs.declared.raw.Length.{Length}
use Rattle.sample_product.specs.Images.{raw_image, after_raw}
use Rattle.sample_product.specs.Products.{Entry, entry, entry_of, draw_raw, found}

-- a raw image was added, and what is drawn after it
pub drawn-raw : (name : List ℕ) (l : Length) (rest : ℕ → List Entry) (x s : ℕ) (before mid : List Entry) {last : List Entry}
    → mid ≡ before ++ entry name (raw_image l x) ∷ [] → s ≡ after_raw l x → last ≡ mid ++ rest s
    → last ≡ before ++ draw_raw name l rest x
drawn-raw name l rest x s before mid p q r =
    r
    ∙ ap (λ m. m ++ rest s) p
    ∙ append_assoc before (entry name (raw_image l x) ∷ []) (rest s)
    ∙ ap (λ y. before ++ entry name (raw_image l x) ∷ rest y) q

-- what a folder's file of a name holds
pub file-found : (files : List DirFile) (name : List ℕ) → file_of files name ≡ found (map entry_of files) name
file-found [] name = refl
file-found (f ∷ files) name =
    ap (λ rest. if bytes_eq (string_bytes f.name) name then Some f.bytes.items else rest) (file-found files name)
