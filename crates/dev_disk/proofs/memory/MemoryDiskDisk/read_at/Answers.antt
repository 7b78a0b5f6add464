use Rattle.std.proofs.Common.{arith, ◌≡◌, ◌+◌, ◌-◌, length, take, drop, ap, ◌∙◌, Some}
use Rattle.dev_disk.specs.MemoryFiles.{file_of, path_at}
use Rattle.dev_disk.proofs.OpenFiles.{read-open}
use Rattle.dev_disk.proofs.memory.MemoryDiskDisk.read_at.Goals as goal

pub returns-clause-read : goal.returns-clause-read
returns-clause-read c =
    let files = c.args.self.now.files.items in
    let found : file_of files (path_at files c.in-Some.place) ≡ Some c.bytes_at-bytes.result.now = cc in
    let count : (c.args.at + length c.args.buf.now) - c.args.at ≡ length c.copy_from_slice.new.self = omega arith in
    read-open files c.args.self.now.opened c.in-Some.place c.args.at c.bytes_at-bytes.result.now c.copy_from_slice.new.self c.in-Some.is found
    (c.copy_from_slice.ensures.after ∙ ap (λ n. take n (drop c.args.at c.bytes_at-bytes.result.now)) count)
