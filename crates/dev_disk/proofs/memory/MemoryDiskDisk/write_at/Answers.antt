use Rattle.std.proofs.Common.{◌≡◌, length, option_map, ap, sym, subst, ◌∙◌}
use Rattle.std.specs.Vec.{with_items}
use Rattle.dev_disk.specs.Files.{written}
use Rattle.dev_disk.specs.MemoryFiles.{file_of, path_at, IsFirst}
use Rattle.dev_disk.proofs.FileLists.{with-items}
use Rattle.dev_disk.proofs.OpenFiles.{for-place, write-open}
use Rattle.dev_disk.proofs.memory.MemoryDiskDisk.write_at.Goals as goal

pub invariant_of-self-2 : goal.invariant_of-self-2
invariant_of-self-2 c =
    let kept : length c.overwrite_at.new.files ≡ length c.args.self.now.files.items = c.overwrite_at.auto.files ∙ ap length c.deref_mut.ensures.value in
    record {
      opened_is_there = for-place _ c.args.self.now.opened c.in-Some.place c.in-Some.is
          (subst (λ files. IsFirst files c.in-Some.place) (sym (with-items c.args.self.now.files c.overwrite_at.new.files kept)) c.overwrite_at.ensures.first);
    }

pub returns-clause-wrote : goal.returns-clause-wrote
returns-clause-wrote c =
    let files = c.args.self.now.files.items in
    let kept : length c.overwrite_at.new.files ≡ length files = c.overwrite_at.auto.files ∙ ap length c.deref_mut.ensures.value in
    let after : (with_items c.args.self.now.files c.overwrite_at.new.files).items ≡ c.overwrite_at.new.files = with-items c.args.self.now.files c.overwrite_at.new.files kept in
    let path : path_at (with_items c.args.self.now.files c.overwrite_at.new.files).items c.in-Some.place ≡ path_at files c.in-Some.place =
    ap (λ l. path_at l c.in-Some.place) after ∙ (c.overwrite_at.ensures.path ∙ ap (λ l. path_at l c.in-Some.place) c.deref_mut.ensures.value) in
    let here : file_of (with_items c.args.self.now.files c.overwrite_at.new.files).items (path_at files c.in-Some.place) ≡ option_map (λ file. written file c.args.at c.args.bytes.now) (file_of files (path_at files c.in-Some.place)) =
    ap (λ l. file_of l (path_at files c.in-Some.place)) after
    ∙ subst (λ l. file_of c.overwrite_at.new.files (path_at l c.in-Some.place) ≡ option_map (λ file. written file c.args.at c.args.bytes.now) (file_of l (path_at l c.in-Some.place))) c.deref_mut.ensures.value c.overwrite_at.ensures.here in
    write-open files (with_items c.args.self.now.files c.overwrite_at.new.files).items c.args.self.now.opened c.in-Some.place c.args.at c.args.bytes.now c.in-Some.is path here
