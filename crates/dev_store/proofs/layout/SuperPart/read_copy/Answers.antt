use Rattle.std.proofs.Common.{◌≡◌, ◌+◌, ◌≤◌, ◌∙◌, sym, ap, arith, subst, length, take, Some, None, Err}
use Rattle.std.specs.Result.{result_ok}
use Rattle.std.proofs.lemmas.List.{length-take-le}
use Rattle.dev_disk.specs.Files.{IsRead, IsInside}
use Rattle.dev_disk.specs.Disks.{open_bytes}
use Rattle.super_meta.specs.Contents.{content}
use Rattle.dev_store.proofs.PlaceLemmas.{place-inside, table-read, range-inside}
use Rattle.dev_store.proofs.layout.SuperPart.read_copy.Goals as goal

pub overflow_add-at : goal.overflow_add-at
overflow_add-at g c =
    let b = place-inside c.args.self.now c.args.number c.requires.bounded c.requires.there in omega (arith, b, c.copy_place.ensures, c.requires.end)

pub read_at-requires : goal.read_at-requires
read_at-requires g c =
    let b = place-inside c.args.self.now c.args.number c.requires.bounded c.requires.there in
    let l = length-take-le c.args.self.now.max_size c.args.buffer.now c.requires.room in
    let i = range-inside _ c.args.at c.args.self.now.size c.copy_place.result (length (take c.args.self.now.max_size c.args.buffer.now)) c.requires.inside (omega (arith, b, l, c.copy_place.ensures)) in
    record { inside = i }

pub returns-in-Ok-read_table-clause-table : goal.returns-in-Ok-read_table-clause-table
returns-in-Ok-read_table-clause-table g c =
    let o = open_bytes (g.K.Disk.told c.args.disk.now) in
    let l = length-take-le c.args.self.now.max_size c.args.buffer.now c.requires.room in
    table-read c.args.self.now o c.args.at c.args.number c.read_at.new.buf (Some (content c.in-Ok-read_table.table)) c.requires.bounded c.requires.there (omega (arith, c.read_at.auto.buf, l))
    (subst (λ p. IsRead o (c.args.at + p) c.read_at.new.buf) c.copy_place.ensures c.in-Ok.ensures.read) (sym (ap result_ok c.in-Ok-read_table.ensures.table))

pub returns-in-Err-Bad-clause-table : goal.returns-in-Err-Bad-clause-table
returns-in-Err-Bad-clause-table g c =
    let o = open_bytes (g.K.Disk.told c.args.disk.now) in
    let l = length-take-le c.args.self.now.max_size c.args.buffer.now c.requires.room in
    table-read c.args.self.now o c.args.at c.args.number c.read_at.new.buf None c.requires.bounded c.requires.there (omega (arith, c.read_at.auto.buf, l))
    (subst (λ p. IsRead o (c.args.at + p) c.read_at.new.buf) c.copy_place.ensures c.in-Ok.ensures.read) (sym (ap result_ok (c.in-Err-Bad.ensures.flaw c.in-Err-Bad.field-0-0 (ap (λ e. Err e) c.in-Err-Bad.field-0-is))))
