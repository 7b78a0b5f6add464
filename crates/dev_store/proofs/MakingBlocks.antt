-- The blocks of a new image, as they are written.
use Rattle.std.proofs.Common.{◌≡◌, ◌∙◌, ap, sym, subst, ℕ, ◌+◌, ◌-◌, ◌<◌, ◌≤◌, List, ◌++◌, length, take, drop, Some, Ok, arith}
use Rattle.std.specs.Prelude.{IsTrue}
use Rattle.std.proofs.lemmas.List.{take-append-drop}
use Rattle.fb_frame.specs.Bytes.{zeros}
use Rattle.dev_disk.specs.Files.{written}
use Rattle.super_meta.specs.GeometryText.{geometry_bytes, is_geometry}
use Rattle.super_meta.specs.Contents.{Content, is_sound}
use Rattle.super_meta.specs.TableText.{table_size}
use Rattle.super_meta.specs.TableBytes.{table_bytes}
use Rattle.dev_store.specs.declared.layout.SuperPart.{SuperPart}
use Rattle.dev_store.specs.Layouts.{LayoutValue, layout_of}
use Rattle.dev_store.specs.Laid.{is_good_super}
use Rattle.dev_store.specs.NewDevice.{filled_up, new_table, own_geometry}
use Rattle.dev_store.specs.Making.{geometry_block, table_block}
use Rattle.dev_store.proofs.MadeText.{text-of}
use Rattle.dev_store.proofs.MadeSuper.{has-numbers, length-geometry, length-table, length-room, geometry-good, table-sound}
use Rattle.dev_store.proofs.WrittenLemmas.{written-front, drop-zeros}

-- the text's block
pub text-short : (layout : LayoutValue) (text : List ℕ) → text ≡ layout.text → layout_of layout.text ≡ Ok layout → 0 + length text ≤ 4096
text-short layout text e h = omega (arith, ap length e, (text-of layout.text layout h).short)

pub text-block : (layout : LayoutValue) (text new : List ℕ) → text ≡ layout.text → new ≡ written (zeros 4096) 0 text → new ≡ filled_up 4096 layout.text
text-block layout text new e h = h ∙ (written-front 4096 text ∙ ap (filled_up 4096) e)

-- the geometry's
pub geometry-block : (s : SuperPart) (new : List ℕ) → new ≡ geometry_bytes (own_geometry s) ++ zeros 4044 → new ≡ geometry_block s
unfolding geometry_block
geometry-block s new h = h ∙ ap (λ n. geometry_bytes (own_geometry s) ++ zeros (4096 - n)) (sym (length-geometry (own_geometry s)))

pub geometry-is-good : (s : SuperPart) → IsTrue (is_good_super (Some s)) → IsTrue (is_geometry (own_geometry s))
geometry-is-good s h = geometry-good s (has-numbers s h)

-- a copy of the table
pub sound-table : (s : SuperPart) (c : Content) → c ≡ new_table s → IsTrue (is_sound c)
sound-table s c e = subst (λ x. IsTrue (is_sound x)) (sym e) (table-sound s)

pub table-fits-in : (s : SuperPart) (c : Content) (old : List ℕ) → IsTrue (is_good_super (Some s)) → c ≡ new_table s → length old ≡ s.max_size → length old < table_size c → ⊥
table-fits-in s c old h e z l = let size : table_size c ≡ 240 = ap table_size e in absurd (omega (arith, (has-numbers s h).roomy, size, z, l))

pub length-table_block : (s : SuperPart) → IsTrue (is_good_super (Some s)) → length (table_block s) ≡ s.max_size
unfolding table_block
length-table_block s h = length-room s (has-numbers s h)

pub table-written : (s : SuperPart) (c : Content) (old new : List ℕ) → IsTrue (is_good_super (Some s)) → c ≡ new_table s → old ≡ zeros s.max_size →
    take (table_size c) new ≡ table_bytes c → drop (table_size c) new ≡ drop (table_size c) old → new ≡ table_block s
unfolding table_block
table-written s c old new h e z t d =
    let size : table_size c ≡ 240 = ap table_size e in
    let rest : drop (table_size c) old ≡ zeros (s.max_size - 240) = ap (drop (table_size c)) z ∙ (ap (λ n. drop n (zeros s.max_size)) size ∙ drop-zeros 240 s.max_size) in
    sym (take-append-drop (table_size c) new)
    ∙ (ap (λ x. x ++ drop (table_size c) new) (t ∙ ap table_bytes e)
    ∙ (ap (λ x. table_bytes (new_table s) ++ x) (d ∙ rest)
    ∙ ap (λ n. table_bytes (new_table s) ++ zeros (s.max_size - n)) (sym (length-table s (has-numbers s h)))))
