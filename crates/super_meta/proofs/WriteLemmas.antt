-- A table written in parts.
use Rattle.std.proofs.Common.{◌≡◌, ℕ, ◌+◌, ◌-◌, ◌≤◌, List, ◌++◌, length, take, drop, refl, sym, ap, ◌∙◌, arith, append_assoc, length-append}
use Rattle.std.specs.Int.{w32, to_le_bytes}
use Rattle.std.proofs.lemmas.Bool.Decides.{nat_tests}
use Rattle.std.proofs.lemmas.List.{take_at, drop_at, take-append-drop, drop-take, length-replicate, length-take-le}
use Rattle.sha2.specs.Sha256.{sha256}
use Rattle.fb_frame.specs.Bytes.{zeros}
use Rattle.super_meta.specs.Sealed.{digest_around, sealed}
use Rattle.super_meta.specs.Contents.{Content, tables_size}
use Rattle.super_meta.specs.HeaderText.{header_size}
use Rattle.super_meta.specs.TableText.{table_size}
use Rattle.super_meta.specs.TableBytes.{header_front, descriptor, descriptors, flags_bytes, tables_bytes, header_core, header_back, table_bytes}
use Rattle.super_meta.proofs.SealLemmas.{part}

pub two-grouped : (x a b : List ℕ) → (x ++ a) ++ b ≡ x ++ (a ++ b)
two-grouped x a b = append_assoc x a b

pub four-grouped : (x a b c d : List ℕ) → (((x ++ a) ++ b) ++ c) ++ d ≡ x ++ (((a ++ b) ++ c) ++ d)
four-grouped x a b c d = simp append_assoc refl

pub ruleset groups = (two-grouped, four-grouped)

pub length-zeros : (n : ℕ) → length (zeros n) ≡ n
unfolding zeros
length-zeros n = length-replicate {A = ℕ} n 0

pub length-header_front : (minor : ℕ) → length (header_front minor) ≡ 12
unfolding header_front
length-header_front minor = refl

length-descriptor : (place count size : ℕ) → length (descriptor place count size) ≡ 12
unfolding descriptor
length-descriptor place count size = refl

pub length-descriptors : (c : Content) → length (descriptors c) ≡ 48
unfolding descriptors descriptor
length-descriptors c = refl

pub length-header_core : (c : Content) (digest : List ℕ) → length digest ≡ 32 → length (header_core c digest) ≡ 84
unfolding header_core
length-header_core c digest h = omega (arith, length-append (to_le_bytes w32 (tables_size c) ++ digest) (descriptors c), length-append (to_le_bytes w32 (tables_size c)) digest, length-descriptors c)

-- a header with its digest put over the zeros in its midst
pub head-sealed : (hs m : ℕ) (b new front back seal : List ℕ) → length front ≡ 12 → 44 + m ≡ hs → take hs b ≡ (front ++ zeros 32) ++ back → seal ≡ sha256 (take hs b) →
    take 44 new ≡ take 12 b ++ seal → drop 44 new ≡ drop 44 b → take hs new ≡ sealed front back
unfolding digest_around
head-sealed hs m b new front back seal l e w s t d =
    let whole : b ≡ front ++ (zeros 32 ++ (back ++ drop hs b)) =
    sym (take-append-drop hs b) ∙ (ap (λ x. x ++ drop hs b) w ∙ (append_assoc (front ++ zeros 32) back (drop hs b) ∙ append_assoc front (zeros 32) (back ++ drop hs b))) in
    let head : take 12 b ≡ front = ap (take 12) whole ∙ take_at front (zeros 32 ++ (back ++ drop hs b)) 12 l in
    let long : length (front ++ zeros 32) ≡ 44 = omega (arith, length-append front (zeros 32), length-zeros 32) in
    let behind : take m (drop 44 b) ≡ back = sym (drop-take 44 m b) ∙ (ap (λ n. drop 44 (take n b)) e ∙ (ap (drop 44) w ∙ drop_at (front ++ zeros 32) back 44 long)) in
    let digest : seal ≡ digest_around front back = s ∙ ap sha256 w in
    part 44 m hs 0 44 new e refl
    ∙ (ap (λ x. x ++ take m (drop 44 new)) (t ∙ (ap (λ x. x ++ seal) head ∙ ap (λ x. front ++ x) digest))
    ∙ (ap (λ x. (front ++ digest_around front back) ++ x) (ap (take m) d ∙ behind) ∙ append_assoc front (digest_around front back) back))

-- lists after a header, and then the header before them
pub table-written : (hs more end : ℕ) (old lists new head tables : List ℕ) → hs + more ≡ end → end ≤ length old → take end lists ≡ take hs old ++ tables → take hs new ≡ head → drop hs new ≡ drop hs lists → take end new ≡ head ++ tables
table-written hs more end old lists new head tables e l t h d =
    let behind : take more (drop hs lists) ≡ tables = sym (drop-take hs more lists) ∙ (ap (λ n. drop hs (take n lists)) e ∙ (ap (drop hs) t ∙ drop_at (take hs old) tables hs (length-take-le hs old (omega arith)))) in
    part hs more end 0 hs new e (omega arith) ∙ (ap (λ x. x ++ take more (drop hs new)) h ∙ ap (λ x. head ++ x) (ap (take more) d ∙ behind))

pub lists-are : (hs more end : ℕ) (old lists tables : List ℕ) → hs + more ≡ end → end ≤ length old → take end lists ≡ take hs old ++ tables → take more (drop hs lists) ≡ tables
lists-are hs more end old lists tables e l t = sym (drop-take hs more lists) ∙ (ap (λ n. drop hs (take n lists)) e ∙ (ap (drop hs) t ∙ drop_at (take hs old) tables hs (length-take-le hs old (omega arith))))

pub over : (minor : ℕ) → 44 + (header_size minor - 44) ≡ header_size minor
over minor = grind (arith, nat_tests)

-- a table by its lists, the digest of what was written of them, and its header
pub whole : (c : Content) (hs start end n : ℕ) (old lists new digest : List ℕ) → hs ≡ header_size c.minor → start ≡ hs → end ≡ table_size c → n ≡ start + tables_size c → end ≤ length old →
    take n lists ≡ take start old ++ tables_bytes c → digest ≡ sha256 (take (end - start) (drop start lists)) →
    take hs new ≡ sealed (header_front c.minor) (header_core c digest ++ flags_bytes c) → ((k : ℕ) → hs ≤ k → drop k new ≡ drop k lists) →
    take (table_size c) new ≡ table_bytes c
unfolding header_back
whole c hs start end n old lists new digest h s e a l t d w r =
    let more : end - start ≡ tables_size c = omega arith in
    let total : hs + tables_size c ≡ table_size c = omega arith in
    let lists-at : take (table_size c) lists ≡ take hs old ++ tables_bytes c = ap (λ k. take k lists) (omega arith) ∙ (t ∙ ap (λ k. take k old ++ tables_bytes c) s) in
    let own : take (tables_size c) (drop hs lists) ≡ tables_bytes c = lists-are hs (tables_size c) (table_size c) old lists (tables_bytes c) total (omega arith) lists-at in
    let sum : digest ≡ sha256 (tables_bytes c) = d ∙ (ap (λ k. sha256 (take k (drop start lists))) more ∙ (ap (λ k. sha256 (take (tables_size c) (drop k lists))) s ∙ ap sha256 own)) in
    table-written hs (tables_size c) (table_size c) old lists new (sealed (header_front c.minor) (header_core c (sha256 (tables_bytes c)) ++ flags_bytes c)) (tables_bytes c) total (omega arith) lists-at
    (w ∙ ap (λ x. sealed (header_front c.minor) (header_core c x ++ flags_bytes c)) sum) (r hs (omega arith))
