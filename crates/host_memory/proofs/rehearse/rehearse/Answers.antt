use Rattle.std.proofs.Common.{◌≡◌, ◌+◌, Some, map, string_bytes, sym, ap}
use Rattle.dev_disk.specs.Memory.{memory_files, memory_faults}
use Rattle.dev_store.specs.Faults.{unchanged_is_honest}
use Rattle.flash_plan.specs.MemoryFiles.{file_of}
use Rattle.host_driver.specs.Jobs.{folder}
use Rattle.host_words.specs.Requests.{target_of}
use Rattle.host_words.specs.Words.{host_words}
use Rattle.pair_port.specs.Pairs.{disk_of}
use Rattle.host_memory.specs.Rehearsals.{scene, counts, went, IsUndisturbed, OfFlash, IsInstalled, LeavesImage, CompletesAt, KeepsImages}
use Rattle.host_memory.proofs.RehearsalLemmas.{installs, leaves-image, keeps-images, completes-by, some-inj, both-at, faults-from, faults-to}
use Rattle.host_memory.proofs.rehearse.rehearse.Goals as goal

pub returns-clause-installed : goal.returns-clause-installed
returns-clause-installed g c =
    let request = host_words (map string_bytes c.args.words.now) in
    let p = c.new-port.result in
    let n = c.host_main-status.new in
    let q = n.port in
    let d = c.args.dir.now in
    let files = file_of d.files in
    let later = folder (Some n.dir.path) (Some (file_of n.dir.files)) n.dir.entered n.dir.failing.faults in
    let text = g.S.Sink.text c.args.out.now in
    let now = g.S.Sink.text n.out in
    let unput = g.S.Sink.faults c.args.out.now in
    let more = g.S.Sink.faults n.out in
    let holds = c.into_disk.ensures.honest unchanged_is_honest in
    let hosted = c.host_main-status.ensures.hosted in
    let first = ap disk_of c.new-port.ensures.alone in
    let last = sym c.into_disk.ensures.disk in
    both-at (λ a b. OfFlash request (λ path place options. c.host_main-status.result ≡ 0 → IsInstalled path options (scene files (memory_files a) (memory_files b) text now)))
    (disk_of p.end) c.args.disk (disk_of q.end) c.into_disk.result first last
    (installs p q d.path files d.entered d.failing.faults later text now unput more holds request c.host_main-status.result hosted)

pub returns-clause-left : goal.returns-clause-left
returns-clause-left g c =
    let request = host_words (map string_bytes c.args.words.now) in
    let p = c.new-port.result in
    let n = c.host_main-status.new in
    let q = n.port in
    let d = c.args.dir.now in
    let files = file_of d.files in
    let later = folder (Some n.dir.path) (Some (file_of n.dir.files)) n.dir.entered n.dir.failing.faults in
    let text = g.S.Sink.text c.args.out.now in
    let now = g.S.Sink.text n.out in
    let unput = g.S.Sink.faults c.args.out.now in
    let more = g.S.Sink.faults n.out in
    let holds = c.into_disk.ensures.honest unchanged_is_honest in
    let hosted = c.host_main-status.ensures.hosted in
    let first = ap disk_of c.new-port.ensures.alone in
    let last = sym c.into_disk.ensures.disk in
    both-at (λ a b. LeavesImage request (scene files (memory_files a) (memory_files b) text now))
    (disk_of p.end) c.args.disk (disk_of q.end) c.into_disk.result first last
    (leaves-image p q d.path files d.entered d.failing.faults later text now unput more holds request c.host_main-status.result hosted.follows.left)

pub returns-clause-completed : goal.returns-clause-completed
returns-clause-completed g c =
    let request = host_words (map string_bytes c.args.words.now) in
    let p = c.new-port.result in
    let n = c.host_main-status.new in
    let q = n.port in
    let d = c.args.dir.now in
    let files = file_of d.files in
    let later = folder (Some n.dir.path) (Some (file_of n.dir.files)) n.dir.entered n.dir.failing.faults in
    let text = g.S.Sink.text c.args.out.now in
    let now = g.S.Sink.text n.out in
    let unput = g.S.Sink.faults c.args.out.now in
    let more = g.S.Sink.faults n.out in
    let holds = c.into_disk.ensures.honest unchanged_is_honest in
    let hosted = c.host_main-status.ensures.hosted in
    let first = ap disk_of c.new-port.ensures.alone in
    let last = sym c.into_disk.ensures.disk in
    both-at (λ a b. OfFlash request (λ path place options. place ≡ d.path → IsUndisturbed (went (counts (memory_faults c.args.disk) d.failing.faults unput) (counts (c.broken-broken.result + memory_faults c.into_disk.result) n.dir.failing.faults more)) → CompletesAt path options (scene files (memory_files a) (memory_files b) text now) c.host_main-status.result))
    (disk_of p.end) c.args.disk (disk_of q.end) c.into_disk.result first last
    (completes-by p q d.path files d.entered d.failing.faults later text now unput more holds request c.host_main-status.result (memory_faults c.args.disk) (c.broken-broken.result + memory_faults c.into_disk.result) hosted
    (faults-from p c.args.sizes.items c.args.breaks.items c.args.disk c.new-port.ensures.counters first)
    (faults-to q c.broken-broken.result c.into_disk.result c.broken-broken.ensures.broken last))

pub returns-clause-beside : goal.returns-clause-beside
returns-clause-beside g c =
    let request = host_words (map string_bytes c.args.words.now) in
    let p = c.new-port.result in
    let n = c.host_main-status.new in
    let q = n.port in
    let d = c.args.dir.now in
    let files = file_of d.files in
    let later = folder (Some n.dir.path) (Some (file_of n.dir.files)) n.dir.entered n.dir.failing.faults in
    let text = g.S.Sink.text c.args.out.now in
    let now = g.S.Sink.text n.out in
    let unput = g.S.Sink.faults c.args.out.now in
    let more = g.S.Sink.faults n.out in
    let holds = c.into_disk.ensures.honest unchanged_is_honest in
    let hosted = c.host_main-status.ensures.hosted in
    let first = ap disk_of c.new-port.ensures.alone in
    let last = sym c.into_disk.ensures.disk in
    both-at (λ a b. KeepsImages (target_of request) (memory_files a) (memory_files b))
    (disk_of p.end) c.args.disk (disk_of q.end) c.into_disk.result first last
    (keeps-images p q d.path files d.entered d.failing.faults later text now unput more holds (target_of request) hosted.follows.beside)

pub returns-clause-path : goal.returns-clause-path
returns-clause-path g c =
    some-inj c.host_main-status.new.dir.path c.args.dir.now.path c.host_main-status.ensures.hosted.lasts.path

pub returns-clause-files : goal.returns-clause-files
returns-clause-files g c =
    some-inj (file_of c.host_main-status.new.dir.files) (file_of c.args.dir.now.files) c.host_main-status.ensures.hosted.lasts.files

pub returns-clause-hosted : goal.returns-clause-hosted
returns-clause-hosted g c = record {
  first = c.new-port.result;
  alone = c.new-port.ensures.alone;
  last = c.host_main-status.new.port;
  disk = sym c.into_disk.ensures.disk;
  breaks = sym c.broken-broken.ensures.broken;
  holds = c.into_disk.ensures.honest unchanged_is_honest;
  related = c.host_main-status.ensures.hosted;
}
