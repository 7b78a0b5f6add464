-- The names of images.
use Rattle.std.proofs.Common.{◌≡◌, ℕ, ◌+◌, true, List, [], ◌∷◌, ◌++◌, length, refl, arith, length-append}
use Rattle.std.specs.Prelude.{◌&&◌, nat_le, codes}
use Rattle.std.specs.List.{list_all}
use Rattle.std.proofs.lemmas.Bool.Decides.{nat_tests}
use Rattle.fb_frame.specs.NameText.{IsName, is_name_byte, is_word}
use Rattle.dev_model.proofs.Valid.{both, and-true}
use Rattle.flash_plan.specs.Files.{IsFileName, is_shown}

shown-byte : (b : ℕ) → is_name_byte b ≡ true → is_shown b ≡ true
shown-byte b e = grind (arith, nat_tests)

shown-all : (xs : List ℕ) → list_all is_name_byte xs ≡ true → list_all is_shown (xs ++ codes ".img") ≡ true
shown-all [] e = refl
shown-all (x ∷ xs) e =
    let p = both (is_name_byte x) (list_all is_name_byte xs) e in
    and-true (is_shown x) (list_all is_shown (xs ++ codes ".img")) (shown-byte x p.0) (shown-all xs p.1)

fits : (n m : ℕ) → m ≡ n + 4 → nat_le n 35 ≡ true → (nat_le 1 m && nat_le m 64) ≡ true
fits n m e f = grind (arith, nat_tests)

-- `NAME.img` is the name of a file
pub IsFileName-image : (name : List ℕ) → IsName name → IsFileName (name ++ codes ".img")
IsFileName-image name h =
    let p = both (nat_le 1 (length name) && nat_le (length name) 35) (list_all is_name_byte name) h in
    let q = both (nat_le 1 (length name)) (nat_le (length name) 35) p.0 in
    and-true (is_word (name ++ codes ".img")) (list_all is_shown (name ++ codes ".img"))
    (fits (length name) (length (name ++ codes ".img")) (length-append name (codes ".img")) q.1) (shown-all name p.1)

pub ruleset images = (IsFileName-image)
