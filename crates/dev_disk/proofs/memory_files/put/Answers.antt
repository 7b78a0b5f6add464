use Rattle.std.proofs.Common.{arith, ◌≡◌, length, None, Some, ap, sym, ◌∙◌, subst}
use Rattle.dev_disk.specs.declared.memory_files.MemoryFile.{MemoryFile}
use Rattle.dev_disk.specs.MemoryFiles.{place_of, file_of, path_at, IsFirst}
use Rattle.dev_disk.specs.MemoryLaws.{place-inside}
use Rattle.dev_disk.proofs.FileLists.{first-found, path_at-found, length_at-found, length_at-set, in-found-place, first-set, path_at-set, file_of-set, file_of-set_other, place_of-push, first-push, path_at-push, file_of-push, file_of-push_other}
use Rattle.dev_disk.proofs.memory_files.put.Goals as goal

pub index_mut-requires : goal.index_mut-requires
index_mut-requires c =
    let found : place_of c.args.files.now.items c.args.path.items ≡ Some c.in-Some.place = cc in
    omega (arith, place-inside _ _ _ found, c.args.files.now.ok.0)

pub returns-in-Some-clause-first : goal.returns-in-Some-clause-first
returns-in-Some-clause-first c =
    let found : place_of c.args.files.now.items c.args.path.items ≡ Some c.in-Some.place = cc in
    first-set _ _ _ _ (in-found-place _ _ _ _ c.index_mut.result.now found (ap (λ f. f.path) c.index_mut.ensures.value)) _ (first-found _ _ _ found)

pub returns-in-Some-clause-path : goal.returns-in-Some-clause-path
returns-in-Some-clause-path c =
    let found : place_of c.args.files.now.items c.args.path.items ≡ Some c.in-Some.place = cc in
    path_at-set _ _ _ _ (in-found-place _ _ _ _ c.index_mut.result.now found (ap (λ f. f.path) c.index_mut.ensures.value)) _ ∙ path_at-found _ _ _ found

pub returns-in-Some-clause-length : goal.returns-in-Some-clause-length
returns-in-Some-clause-length c =
    let found : place_of c.args.files.now.items c.args.path.items ≡ Some c.in-Some.place = cc in
    length_at-set _ _ _ _ (in-found-place _ _ _ _ c.index_mut.result.now found (ap (λ f. f.path) c.index_mut.ensures.value))

pub returns-in-Some-clause-here : goal.returns-in-Some-clause-here
returns-in-Some-clause-here c =
    let found : place_of c.args.files.now.items c.args.path.items ≡ Some c.in-Some.place = cc in
    file_of-set _ _ _ _ (in-found-place _ _ _ _ c.index_mut.result.now found (ap (λ f. f.path) c.index_mut.ensures.value))

pub returns-in-Some-clause-others : goal.returns-in-Some-clause-others
returns-in-Some-clause-others c =
    let found : place_of c.args.files.now.items c.args.path.items ≡ Some c.in-Some.place = cc in
    file_of-set_other _ _ _ _ (in-found-place _ _ _ _ c.index_mut.result.now found (ap (λ f. f.path) c.index_mut.ensures.value))

pub returns-in-Some-clause-firsts : goal.returns-in-Some-clause-firsts
returns-in-Some-clause-firsts c =
    let found : place_of c.args.files.now.items c.args.path.items ≡ Some c.in-Some.place = cc in
    first-set _ _ _ _ (in-found-place _ _ _ _ c.index_mut.result.now found (ap (λ f. f.path) c.index_mut.ensures.value))

pub returns-in-Some-clause-paths : goal.returns-in-Some-clause-paths
returns-in-Some-clause-paths c k first =
    let found : place_of c.args.files.now.items c.args.path.items ≡ Some c.in-Some.place = cc in
    path_at-set _ _ _ _ (in-found-place _ _ _ _ c.index_mut.result.now found (ap (λ f. f.path) c.index_mut.ensures.value)) k

pub returns-in_ok-push-in-None-clause-first : goal.returns-in_ok-push-in-None-clause-first
returns-in_ok-push-in-None-clause-first c =
    let absent : place_of c.args.files.now.items c.args.path.items ≡ None = cc in
    let file : MemoryFile = record { path = c.args.path; bytes = c.args.bytes } in
    let end : length c.args.files.now.items ≡ c.len-place.result = cc in
    let found : place_of c.push.new.self.items c.args.path.items ≡ Some c.len-place.result = ap (λ files. place_of files c.args.path.items) c.in_ok-push-in-None.ensures.items ∙ (place_of-push c.args.files.now.items file absent ∙ ap Some end) in
    first-found _ _ _ found

pub returns-in_ok-push-in-None-clause-path : goal.returns-in_ok-push-in-None-clause-path
returns-in_ok-push-in-None-clause-path c =
    let absent : place_of c.args.files.now.items c.args.path.items ≡ None = cc in
    let file : MemoryFile = record { path = c.args.path; bytes = c.args.bytes } in
    let end : length c.args.files.now.items ≡ c.len-place.result = cc in
    let found : place_of c.push.new.self.items c.args.path.items ≡ Some c.len-place.result = ap (λ files. place_of files c.args.path.items) c.in_ok-push-in-None.ensures.items ∙ (place_of-push c.args.files.now.items file absent ∙ ap Some end) in
    path_at-found _ _ _ found

pub returns-in_ok-push-in-None-clause-length : goal.returns-in_ok-push-in-None-clause-length
returns-in_ok-push-in-None-clause-length c =
    let absent : place_of c.args.files.now.items c.args.path.items ≡ None = cc in
    let file : MemoryFile = record { path = c.args.path; bytes = c.args.bytes } in
    let end : length c.args.files.now.items ≡ c.len-place.result = cc in
    let found : place_of c.push.new.self.items c.args.path.items ≡ Some c.len-place.result = ap (λ files. place_of files c.args.path.items) c.in_ok-push-in-None.ensures.items ∙ (place_of-push c.args.files.now.items file absent ∙ ap Some end) in
    let here : file_of c.push.new.self.items c.args.path.items ≡ Some c.args.bytes.items = ap (λ files. file_of files c.args.path.items) c.in_ok-push-in-None.ensures.items ∙ file_of-push c.args.files.now.items file absent in
    length_at-found _ _ _ _ found here

pub returns-in_ok-push-in-None-clause-here : goal.returns-in_ok-push-in-None-clause-here
returns-in_ok-push-in-None-clause-here c =
    let absent : place_of c.args.files.now.items c.args.path.items ≡ None = cc in
    let file : MemoryFile = record { path = c.args.path; bytes = c.args.bytes } in
    ap (λ files. file_of files c.args.path.items) c.in_ok-push-in-None.ensures.items ∙ file_of-push c.args.files.now.items file absent

pub returns-in_ok-push-in-None-clause-others : goal.returns-in_ok-push-in-None-clause-others
returns-in_ok-push-in-None-clause-others c q ne =
    let file : MemoryFile = record { path = c.args.path; bytes = c.args.bytes } in
    ap (λ files. file_of files q) c.in_ok-push-in-None.ensures.items ∙ file_of-push_other c.args.files.now.items file q ne

pub returns-in_ok-push-in-None-clause-firsts : goal.returns-in_ok-push-in-None-clause-firsts
returns-in_ok-push-in-None-clause-firsts c k first =
    let file : MemoryFile = record { path = c.args.path; bytes = c.args.bytes } in
    subst (λ files. IsFirst files k) (sym c.in_ok-push-in-None.ensures.items) (first-push c.args.files.now.items file k first)

pub returns-in_ok-push-in-None-clause-paths : goal.returns-in_ok-push-in-None-clause-paths
returns-in_ok-push-in-None-clause-paths c k first =
    let file : MemoryFile = record { path = c.args.path; bytes = c.args.bytes } in
    ap (λ files. path_at files k) c.in_ok-push-in-None.ensures.items ∙ path_at-push c.args.files.now.items file k first
