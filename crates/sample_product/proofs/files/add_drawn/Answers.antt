use Rattle.std.proofs.Common.{◌++◌, [], ◌∷◌, ap, ◌∙◌, codes, map}
use Rattle.sample_product.specs.declared.raw.Length.TheVariants.{Bytes, Blocks}
use Rattle.sample_product.specs.Products.{entry, entry_of, draw_raw, draw_sparse}
use Rattle.sample_product.proofs.FileLemmas.{drawn-raw}
use Rattle.sample_product.proofs.files.add_drawn.Goals as goal

pub returns : goal.returns
returns c =
    let before = map entry_of c.args.files.now.items in
    let one = map entry_of c.add_raw.new.files.items in
    let two = map entry_of c.add_raw-2.new.files.items in
    let three = map entry_of c.add_raw-3.new.files.items in
    let four = map entry_of c.add_raw-4.new.files.items in
    let five = map entry_of c.add_raw-5.new.files.items in
    let six = map entry_of c.add_raw-6.new.files.items in
    let seven = map entry_of c.add_raw-7.new.files.items in
    let x = c.args.draws.now.state in
    let x1 = c.add_raw.new.draws.state in
    let x2 = c.add_raw-2.new.draws.state in
    let x3 = c.add_raw-3.new.draws.state in
    let x4 = c.add_raw-4.new.draws.state in
    let x5 = c.add_raw-5.new.draws.state in
    let x6 = c.add_raw-6.new.draws.state in
    let x7 = c.add_raw-7.new.draws.state in
    let other = draw_raw (codes "system_other.img") (Blocks 1024) draw_sparse in
    let vendor = draw_raw (codes "vendor.img") (Blocks 2048) other in
    let system = draw_raw (codes "system.img") (Blocks 4096) vendor in
    let vbmeta = draw_raw (codes "vbmeta.img") (Bytes 4096) system in
    let boot = draw_raw (codes "boot.img") (Blocks 2048) vbmeta in
    let radio = draw_raw (codes "radio.img") (Bytes 4096) boot in
    let r = c.in_ok-add.ensures ∙ ap (λ b. seven ++ entry (codes "product.img") b ∷ []) c.in_ok-sparse_image.ensures.image in
    let r7 = drawn-raw (codes "system_other.img") (Blocks 1024) draw_sparse x6 x7 six seven c.in_ok-add_raw-7.ensures.added c.in_ok-add_raw-7.ensures.after r in
    let r6 = drawn-raw (codes "vendor.img") (Blocks 2048) other x5 x6 five six c.in_ok-add_raw-6.ensures.added c.in_ok-add_raw-6.ensures.after r7 in
    let r5 = drawn-raw (codes "system.img") (Blocks 4096) vendor x4 x5 four five c.in_ok-add_raw-5.ensures.added c.in_ok-add_raw-5.ensures.after r6 in
    let r4 = drawn-raw (codes "vbmeta.img") (Bytes 4096) system x3 x4 three four c.in_ok-add_raw-4.ensures.added c.in_ok-add_raw-4.ensures.after r5 in
    let r3 = drawn-raw (codes "boot.img") (Blocks 2048) vbmeta x2 x3 two three c.in_ok-add_raw-3.ensures.added c.in_ok-add_raw-3.ensures.after r4 in
    let r2 = drawn-raw (codes "radio.img") (Bytes 4096) boot x1 x2 one two c.in_ok-add_raw-2.ensures.added c.in_ok-add_raw-2.ensures.after r3 in
    drawn-raw (codes "bootloader.img") (Bytes 8192) radio x x1 before one c.in_ok-add_raw.ensures.added c.in_ok-add_raw.ensures.after r2
