use Rattle.std.proofs.Common.{◌≡◌, ◌+◌, ◌∙◌, length, take, sym, ap, subst, arith}
use Rattle.std.proofs.lemmas.List.{length-take-le}
use Rattle.fb_frame.specs.Told.{Both}
use Rattle.dev_disk.specs.Files.{IsInside, Wrote, IsTornAt}
use Rattle.dev_disk.specs.Disks.{open_bytes}
use Rattle.dev_disk.proofs.TwinLemmas.{same-bytes, content-range, OpenKept-files, OpenKept-then, Rose-behind}
use Rattle.super_meta.specs.Contents.{content}
use Rattle.super_meta.specs.TableText.{table_of}
use Rattle.std.specs.Result.{result_ok}
use Rattle.super_meta.specs.Laws.{TableRead}
use Rattle.dev_store.specs.SuperRepairs.{SaysTable, IsRangeMended, IsRangeLeft}
use Rattle.dev_store.proofs.SuperRepairLemmas.{both-kept, both-kept-if, both-from, read-some, copy-mended, range-still, written-mended, torn-left, inside-kept}
use Rattle.dev_store.proofs.super_repair.mend_copy.Goals as goal

pub read_at-requires : goal.read_at-requires
read_at-requires g c = record {
  inside = subst (IsInside (g.K.Disk.told c.args.disk.now).open_length c.args.at) (sym (length-take-le c.args.s.now.max_size c.args.buffer.now c.requires.buffer)) c.requires.inside;
}

pub returns-in_default-clause-left : goal.returns-in_default-clause-left
returns-in_default-clause-left g c =
    let a = g.K.Disk.told c.args.disk.now in
    let b = g.K.Disk.told c.read_at.new.self in
    both-kept (IsRangeLeft b.torn c.args.at c.args.s.now.max_size c.args.read.now.copy.items) (open_bytes a) (open_bytes b) (same-bytes a b c.read_at.ensures.kept)
    (range-still b.torn c.args.at c.args.s.now.max_size c.args.read.now.copy.items)

pub returns-in_default-clause-kept : goal.returns-in_default-clause-kept
returns-in_default-clause-kept g c = OpenKept-files (g.K.Disk.told c.args.disk.now) (g.K.Disk.told c.read_at.new.self) c.read_at.ensures.kept

pub returns-then-says_same-clause-mended : goal.returns-then-says_same-clause-mended
returns-then-says_same-clause-mended g c =
    let a = g.K.Disk.told c.args.disk.now in
    let b = g.K.Disk.told c.read_at.new.self in
    let t = content c.args.read.now.table in
    let l = length-take-le c.args.s.now.max_size c.args.buffer.now c.requires.buffer in
    both-kept-if _ (IsRangeMended c.args.at c.args.s.now.max_size (SaysTable t)) (open_bytes a) (open_bytes b) (same-bytes a b c.read_at.ensures.kept)
    (read-some (open_bytes a) c.args.at c.read_at.new.buf c.in-Ok.ensures.read)
    (λ file h. copy-mended t c.args.at c.args.s.now.max_size c.read_at.new.buf file (omega (arith, c.read_at.auto.buf, l)) (c.says_same.ensures.0 c.if-says_same.true) h)

pub returns-then-says_same-clause-kept : goal.returns-then-says_same-clause-kept
returns-then-says_same-clause-kept g c = OpenKept-files (g.K.Disk.told c.args.disk.now) (g.K.Disk.told c.read_at.new.self) c.read_at.ensures.kept

pub write_at-requires : goal.write_at-requires
write_at-requires g c = record {
  inside =
      let a = g.K.Disk.told c.args.disk.now in
      let b = g.K.Disk.told c.read_at.new.self in
      subst (IsInside b.open_length c.args.at) (sym (ap length c.as_slice-copy.ensures.value ∙ c.requires.spelled.long)) (inside-kept a b c.args.at c.args.s.now.max_size c.read_at.ensures.kept c.requires.inside);
}

pub returns-in_default-write_at-clause-left : goal.returns-in_default-write_at-clause-left
returns-in_default-write_at-clause-left g c =
    let a = g.K.Disk.told c.args.disk.now in
    let b = g.K.Disk.told c.read_at.new.self in
    let d = g.K.Disk.told c.write_at.new.self in
    both-from (IsRangeLeft d.torn c.args.at c.args.s.now.max_size c.args.read.now.copy.items) (open_bytes a) (open_bytes b) (open_bytes d) (same-bytes a b c.read_at.ensures.kept)
    (torn-left d.torn (open_bytes b) (open_bytes d) c.args.at c.args.s.now.max_size c.args.read.now.copy.items c.requires.spelled.long
    (subst (λ l. Both (IsTornAt d.torn c.args.at l) (open_bytes b) (open_bytes d)) c.as_slice-copy.ensures.value c.in_default-write_at.ensures.fails.part))

pub returns-in_default-write_at-clause-kept : goal.returns-in_default-write_at-clause-kept
returns-in_default-write_at-clause-kept g c =
    let a = g.K.Disk.told c.args.disk.now in
    let b = g.K.Disk.told c.read_at.new.self in
    let d = g.K.Disk.told c.write_at.new.self in
    OpenKept-then a b d (OpenKept-files a b c.read_at.ensures.kept) c.in_default-write_at.ensures.fails.kept

pub returns-in_default-write_at-clause-cause : goal.returns-in_default-write_at-clause-cause
returns-in_default-write_at-clause-cause g c =
    let a = g.K.Disk.told c.args.disk.now in
    let b = g.K.Disk.told c.read_at.new.self in
    let d = g.K.Disk.told c.write_at.new.self in
    Rose-behind a.faults b.faults d.faults c.read_at.ensures.kept.later c.in_default-write_at.ensures.fails.rose

pub returns-clause-mended : goal.returns-clause-mended
returns-clause-mended g c =
    let a = g.K.Disk.told c.args.disk.now in
    let b = g.K.Disk.told c.read_at.new.self in
    let d = g.K.Disk.told c.write_at.new.self in
    let t = content c.args.read.now.table in
    let range = content-range b.files b.open_path b.open_length c.args.at c.args.s.now.max_size (g.met.K.Disk.agrees c.read_at.new.self) (inside-kept a b c.args.at c.args.s.now.max_size c.read_at.ensures.kept c.requires.inside) in
    both-from (IsRangeMended c.args.at c.args.s.now.max_size (SaysTable t)) (open_bytes a) (open_bytes b) (open_bytes d) (same-bytes a b c.read_at.ensures.kept)
    (written-mended (open_bytes b) (open_bytes d) c.args.at c.args.s.now.max_size c.args.read.now.copy.items (SaysTable t) range c.requires.spelled.long
    (subst (λ l. Wrote (open_bytes b) (open_bytes d) c.args.at l) c.as_slice-copy.ensures.value c.in-Ok-write_at.ensures.writes.wrote) (ap result_ok (c.laws.ensures.table_read c.args.read.now.copy.items t c.requires.spelled.copy)))

pub returns-clause-kept : goal.returns-clause-kept
returns-clause-kept g c =
    let a = g.K.Disk.told c.args.disk.now in
    let b = g.K.Disk.told c.read_at.new.self in
    let d = g.K.Disk.told c.write_at.new.self in
    OpenKept-then a b d (OpenKept-files a b c.read_at.ensures.kept) c.in-Ok-write_at.ensures.writes.kept
