-- A structure with a digest in its midst (FIPS 180-4 SHA-256; liblp metadata_format.h, checksums).
use Rattle.std.specs.Prelude.{ℕ, List, ◌++◌}
use Rattle.sha2.specs.Sha256.{sha256}
use Rattle.fb_frame.specs.Bytes.{zeros}

-- the digest of what stands before and after the digest's field, which counts as zeros
unfoldable pub digest_around : List ℕ → List ℕ → List ℕ
digest_around front back = sha256 (front ++ zeros 32 ++ back)

-- the structure of a front and a back, with the digest between them
abbrev pub sealed : List ℕ → List ℕ → List ℕ
sealed front back = front ++ (digest_around front back ++ back)
