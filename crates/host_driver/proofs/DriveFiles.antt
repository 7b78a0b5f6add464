-- An image that is put from its file.
use Rattle.std.proofs.Common.{◌≡◌, ℕ, zero, suc, ◌+◌, ◌-◌, ◌*◌, ◌^◌, ◌<◌, ◌≤◌, Bool, true, false, List, [], ◌∷◌, ◌++◌, length, Option, Some, None, get_or, drop, sym, ap, ◌∙◌, subst, arith}
use Rattle.std.proofs.lemmas.Option.{slice_get-get_or}
use Rattle.std.specs.List.{list_all}
use Rattle.dev_model.proofs.Valid.{both}
use Rattle.std.specs.Prelude.{IfSome, option_to_list, Ok, Err, Result, unwrap_or, map, flat_map, option_and_then, option_map, slice_get, slice_index_or, if◌then◌else◌, ◌==◌, nat_lt}
use Rattle.dev_model.specs.declared.step.Step.{Step}
use Rattle.dev_model.specs.declared.step.Step.TheVariants as step
use Rattle.dev_model.specs.Attempts.{is_halted}
use Rattle.dev_model.specs.Images.{image, is_sparse, round_up}
use Rattle.dev_model.specs.Partitions.{is_fastboot}
use Rattle.sparse_image.specs.declared.errors.SparseError.{SparseError}
use Rattle.sparse_image.specs.Walks.{IsChecked, Kept as KeptImage, kept_cells, checked, sparse_checked, raw_checked, raw_kept, header_of, walked, ◌then_on◌}
use Rattle.sparse_image.specs.declared.chunk.Chunk.{Chunk}
use Rattle.sparse_image.specs.declared.walk.Header.{Header}
use Rattle.sparse_image.proofs.CheckLemmas.{image-kept}
use Rattle.wire_told.specs.Peers.{Peer, OfLink}
use Rattle.wire_told.specs.Ports.{PortTold}
use Rattle.wire_told.proofs.Lifted.{of-of}
use Rattle.product_info.specs.declared.task.Task.{Task}
use Rattle.flash_plan.specs.declared.plan.Order.TheVariants.{Put}
use Rattle.flash_plan.specs.declared.product.Product.{Product}
use Rattle.flash_plan.specs.Files.{Files, file_in, HasSize, is_file_name}
use Rattle.flash_plan.specs.Plans.{images_of, cells_of, image_size}
use Rattle.flash_plan.proofs.PlanningLemmas.{from-here}
use Rattle.flash_plan.specs.Products.{OfFiles, image_file, file_of_action}
use Rattle.fb_link.specs.Seen.{Seen}
use Rattle.host_driver.specs.declared.drive.DriveError.{DriveError}
use Rattle.host_driver.specs.declared.drive.DriveError.TheVariants as stop
use Rattle.host_driver.specs.Jobs.{OfTold}
use Rattle.host_driver.specs.Puts.{HasPutAll, PutBreaks, image_cost}
use Rattle.host_driver.specs.Stepping.{Serving, IsStepped, IsStopped, IsFixed, WhyStopped}
use Rattle.host_driver.specs.Taking.{Supply, taking, step_in, AreImages, SendsOrder, IsTaken, IsUntaken, IsUnreadAt}
use Rattle.host_driver.specs.Wires.{IsPut, IsPutBy, file_at}
use Rattle.host_driver.proofs.DriveTaken.{serving-less, stepped-wider}
use Rattle.host_driver.proofs.HaltLemmas.{running}
use Rattle.host_driver.proofs.LoopLemmas.{told-served, map-place}

-- The length of a file that was checked.
sparse-source : (r : Result Header SparseError) (file : List ℕ) (kept : KeptImage) → (r then_on λ header. walked header.chunks header.block header.blocks 28 (drop 28 file) then_on λ chunks.
    Ok (record { sparse = true; source_len = length file; block = header.block; blocks = header.blocks; chunks = chunks })) ≡ Ok kept → kept.source_len ≡ length file
sparse-source (Err e) file kept h = absurd cc
sparse-source (Ok header) file kept h = by (walked header.chunks header.block header.blocks 28 (drop 28 file)) h
  where
    by : (w : Result (List Chunk) SparseError) → (w then_on λ chunks. Ok (record { sparse = true; source_len = length file; block = header.block; blocks = header.blocks; chunks = chunks })) ≡ Ok kept → kept.source_len ≡ length file
    by (Err e) q = absurd cc
    by (Ok chunks) q = let same : record { sparse = true; source_len = length file; block = header.block; blocks = header.blocks; chunks = chunks } ≡ kept = cc in sym (ap (λ (k : KeptImage). k.source_len) same)

raw-source : (b : Bool) (e : SparseError) (file : List ℕ) (kept : KeptImage) → (if b then Ok (raw_kept file) else Err e) ≡ Ok kept → kept.source_len ≡ length file
raw-source true e file kept h = let same : raw_kept file ≡ kept = cc in sym (ap (λ (k : KeptImage). k.source_len) same)
raw-source false e file kept h = absurd cc

form-source : (b : Bool) (file : List ℕ) (kept : KeptImage) → (if b then sparse_checked else raw_checked) file ≡ Ok kept → kept.source_len ≡ length file
form-source true file kept h = sparse-source (header_of (length file) file) file kept h
form-source false file kept h = raw-source (nat_lt (round_up (length file)) (2 ^ 44)) _ file kept h

some-source : (b : Bool) (e : SparseError) (file : List ℕ) (kept : KeptImage) → (if b then Err e else (if is_sparse file then sparse_checked else raw_checked) file) ≡ Ok kept → kept.source_len ≡ length file
some-source true e file kept h = absurd cc
some-source false e file kept h = form-source (is_sparse file) file kept h

pub source-long : (file : List ℕ) (kept : KeptImage) → checked file ≡ Ok kept → kept.source_len ≡ length file
source-long file kept h = some-source (length file == 0) _ file kept h

-- What is told of the file.
pub File-sized : (told : Option Files) (product : Product) (place : ℕ) (name : List ℕ) (kept : KeptImage) → OfFiles told (AreImages product) → slice_get (flat_map image_file product.tasks) place ≡ Some name → slice_get product.images place ≡ Some kept →
    HasSize told name (Some kept.source_len)
File-sized None product place name kept a e f = tt
File-sized (Some files) product place name kept a e f =
    let k = a place name kept e f in
    sym (ap (option_map length) k.1 ∙ ap Some (sym (source-long k.0 kept k.2)))

pub File-checked : (told : Option Files) (product : Product) (place : ℕ) (name : List ℕ) (kept : KeptImage) → OfFiles told (AreImages product) → slice_get (flat_map image_file product.tasks) place ≡ Some name → slice_get product.images place ≡ Some kept →
    (file : Option (List ℕ)) → file ≡ file_in told name → IsChecked file (Ok kept)
File-checked None product place name kept a e f file h = subst (λ o. IsChecked o (Ok kept)) (sym h) tt
File-checked (Some files) product place name kept a e f file h =
    let k = a place name kept e f in subst (λ o. IsChecked o (Ok kept)) (sym (h ∙ k.1)) k.2

-- how many bytes it takes of a connection
pub Cost-image : (kept : KeptImage) → kept.blocks * kept.block ≤ 2 ^ 44 → kept.blocks < 2 ^ 32 → image_cost kept ≤ 2 ^ 48
Cost-image kept h k = omega (arith, h, k)

-- an element by its place
pub get-place : {X : Type 0} (xs : List X) (n : ℕ) (x d : X) → slice_get xs n ≡ Some x → slice_index_or xs n d ≡ x
get-place [] n x d e = absurd cc
get-place (y ∷ xs) zero x d e = let same : y ≡ x = cc in same
get-place (y ∷ xs) (suc n) x d e = get-place xs n x d e

-- the step that puts it
put-cells : (files : Files) (tasks : List Task) (place : ℕ) (name bytes : List ℕ) (kept : KeptImage) → slice_get (flat_map image_file tasks) place ≡ Some name → files name ≡ Some bytes → checked bytes ≡ Ok kept →
    slice_index_or (images_of files tasks) place [] ≡ kept_cells kept bytes
put-cells files tasks place name bytes kept e f h =
    get-place (images_of files tasks) place (cells_of files name) [] (map-place (cells_of files) (flat_map image_file tasks) place name e)
    ∙ (ap (λ o. unwrap_or (option_and_then image o) []) f ∙ ap (λ o. unwrap_or o []) (image-kept (Some bytes) kept h))

put-sends : (files : Files) (s : Supply) (part : List ℕ) (place : ℕ) (name bytes : List ℕ) (kept : KeptImage) (wire : List ℕ) → slice_get (flat_map image_file s.product.tasks) place ≡ Some name → slice_get s.product.images place ≡ Some kept → files name ≡ Some bytes →
    IsPut part bytes kept s.most wire → SendsOrder files s.product s.most (Put part place) wire
put-sends files s part place name bytes kept wire e f h w =
    subst (λ o. IsPutBy s.most part (file_at files s.product place) o wire) (sym f)
    (subst (λ x. IsPut part x kept s.most wire) (sym (ap (λ f. unwrap_or (files f) []) (get-place (flat_map image_file s.product.tasks) place name [] e) ∙ ap (λ o. unwrap_or o []) h)) w)

pub told-stepped : (o : Option (List ℕ)) (bytes : List ℕ) (P : List ℕ → Type 0) → o ≡ Some bytes → IfSome o P → P bytes
told-stepped None bytes P e p = absurd cc
told-stepped (Some x) bytes P e p = let same : x ≡ bytes = cc in subst P same p

served : (a b : Option Peer) (n : ℕ) → OfTold a b IsFixed → Serving n b → OfTold a b (λ s t. is_fastboot t.mode ≡ true)
served a b n r s = told-served n a b IsFixed (λ s t. is_fastboot t.mode ≡ true) (λ s t p f. f) s r

served-lives : (a b : Option Peer) (n : ℕ) → OfTold a b IsFixed → Serving n b → OfTold a b (λ s t. is_halted t.mode ≡ false)
served-lives a b n r s = told-served n a b IsFixed (λ s t. is_halted t.mode ≡ false) (λ s t p f. running t.mode f) s r

pub Put-taken : (s : Supply) (part : List ℕ) (place : ℕ) (name : List ℕ) (kept : KeptImage) (told : Option (List ℕ)) (a b : Seen) → OfFiles s.files (AreImages s.product) → slice_get (flat_map image_file s.product.tasks) place ≡ Some name →
    slice_get s.product.images place ≡ Some kept → told ≡ file_in s.files name → image_cost kept ≤ 2 ^ 48 → Serving (2 ^ 48) a.port.peer →
    HasPutAll (record { name = part; kept = kept; most = s.most; told = told }) a b → IsTaken (taking s (Put part place)) a b
Put-taken s part place name kept told a b images e f h cost free k =
    let next = k.serving 0 (serving-less (2 ^ 48) (image_cost kept + 0) a.port.peer (omega (arith, cost)) free) in
    record {
      exact = by s.files images h;
      serving = λ boot spare q. k.serving spare (serving-less (2 ^ 48 + spare) (image_cost kept + spare) a.port.peer (omega (arith, cost)) q);
      runs = λ l. served a.port.peer b.port.peer 0 k.fixed next;
      lives = served-lives a.port.peer b.port.peer 0 k.fixed next;
      fixed = k.fixed;
      grows = k.goes.grows;
      heard = k.goes.heard;
      kept = k.goes.kept;
    }
  where
    by : (o : Option Files) → OfFiles o (AreImages s.product) → told ≡ file_in o name → OfFiles o (λ files. IsStepped (2 ^ 48) (λ wire. OfLink (λ w. SendsOrder files s.product s.most (Put part place) wire) a.port.peer) (step_in files s.product (Put part place)) a b)
    by None i t = tt
    by (Some files) i t =
        let g = i place name kept e f in
        let one = told-stepped told g.0 _ (t ∙ g.1) k.stepped in
        subst (λ c. IsStepped (2 ^ 48) (λ wire. OfLink (λ w. SendsOrder files s.product s.most (Put part place) wire) a.port.peer) (step.Put part c) a b) (sym (put-cells files s.product.tasks place name g.0 kept e g.1 g.2))
        (stepped-wider (image_cost kept) (2 ^ 48) (λ wire. OfLink (λ w. IsPut part g.0 kept s.most wire) a.port.peer) (λ wire. OfLink (λ w. SendsOrder files s.product s.most (Put part place) wire) a.port.peer)
        (step.Put part (kept_cells kept g.0)) a b cost
        (λ wire q. of-of (λ w. IsPut part g.0 kept s.most wire) (λ w. SendsOrder files s.product s.most (Put part place) wire) (λ w p. put-sends files s part place name g.0 kept wire e f g.1 p) a.port.peer q) one)

-- Or where it broke off.
why-map : (F G : List ℕ → Type 0) (a b : PortTold) (e : DriveError) → ((x : List ℕ) → F x → G x) → WhyStopped F a b e → WhyStopped G a b e
why-map F G a b stop.Memory f w = w
why-map F G a b (stop.Directory file) f w = f file w
why-map F G a b stop.Output f w = w
why-map F G a b stop.Link f w = w
why-map F G a b stop.Ended f w = w
why-map F G a b (stop.Refused text) f w = w
why-map F G a b (stop.Peer kept) f w = w
why-map F G a b stop.TooManyInfos f w = w
why-map F G a b (stop.Requirement line name value) f w = w
why-map F G a b (stop.Plan line kind) f w = w

stopped-map : (F G : List ℕ → Type 0) (s : Step) (a b : Seen) (e : DriveError) → ((x : List ℕ) → F x → G x) → IsStopped F s a b e → IsStopped G s a b e
stopped-map F G s a b e f k = record {
  why = why-map F G a.port b.port e f k.why;
  left = k.left;
  stuck = k.stuck;
  unshown = k.unshown;
  quiet = k.quiet;
  grows = k.grows;
  heard = k.heard;
  down = k.down;
  sound = k.sound;
  kept = k.kept;
}

pub Put-untaken : (F : List ℕ → Type 0) (s : Supply) (part : List ℕ) (place : ℕ) (name : List ℕ) (kept : KeptImage) (told : Option (List ℕ)) (before now : ℕ) (a b : Seen) (error : DriveError) → OfFiles s.files (AreImages s.product) →
    slice_get (flat_map image_file s.product.tasks) place ≡ Some name → slice_get s.product.images place ≡ Some kept → told ≡ file_in s.files name → ((x : List ℕ) → F x → IsUnreadAt s.product (Put part place) before now x) →
    PutBreaks F (record { name = part; kept = kept; most = s.most; told = told }) a b error → IsUntaken (IsUnreadAt s.product (Put part place) before now) (taking s (Put part place)) a b error
Put-untaken F s part place name kept told before now a b error images e f h files k =
    record {
      exact = by files s.files images h;
      why = why-map F (IsUnreadAt s.product (Put part place) before now) a.port b.port error files k.why;
      unshown = k.unshown;
      lives = k.lives;
      fixed = k.fixed;
      grows = k.grows;
      heard = k.heard;
      down = k.down;
      sound = k.sound;
      kept = k.kept;
    }
  where
    by : ((x : List ℕ) → F x → IsUnreadAt s.product (Put part place) before now x) → (o : Option Files) → OfFiles o (AreImages s.product) → told ≡ file_in o name →
        OfFiles o (λ files. IsStopped (IsUnreadAt s.product (Put part place) before now) (step_in files s.product (Put part place)) a b error)
    by move None i t = tt
    by move (Some files) i t =
        let g = i place name kept e f in
        let one = told-stepped told g.0 _ (t ∙ g.1) k.stopped in
        subst (λ c. IsStopped (IsUnreadAt s.product (Put part place) before now) (step.Put part c) a b error) (sym (put-cells files s.product.tasks place name g.0 kept e g.1 g.2))
        (stopped-map F (IsUnreadAt s.product (Put part place) before now) (step.Put part (kept_cells kept g.0)) a b error move one)

-- An image at its place, and how long it is.
pub place-at : {X : Type 0} (xs : List X) (i : ℕ) (x : X) → i < length xs → x ≡ get_or xs i x → slice_get xs i ≡ Some x
place-at xs i x h e = slice_get-get_or xs i x h ∙ ap Some (sym e)

pub long-image : (images : List KeptImage) (place n : ℕ) (x : KeptImage) → place < length images → x ≡ get_or images place x → n ≡ x.blocks * x.block → n ≡ slice_index_or (map image_size images) place 0
long-image images place n x h e l = l ∙ sym (get-place (map image_size images) place (image_size x) 0 (map-place image_size images place x (place-at images place x h e)))

pub ruleset lengths = (long-image)

-- The file of an image, task by task.
tasks-from : (tasks : List Task) (i : ℕ) (task : Task) (o : Option (List ℕ)) → i < length tasks → task ≡ get_or tasks i task → option_to_list o ≡ file_of_action task.action → flat_map image_file (drop i tasks) ≡ option_to_list o ++ flat_map image_file (drop (i + 1) tasks)
tasks-from tasks i task o h e f = ap (flat_map image_file) (from-here tasks i task h e) ∙ ap (λ l. l ++ flat_map image_file (drop (i + 1) tasks)) (sym f)

pub file-none : (tasks : List Task) (i left : ℕ) (task : Task) (o r : Option (List ℕ)) → i < length tasks → task ≡ get_or tasks i task → option_to_list o ≡ file_of_action task.action → o ≡ None → slice_get (flat_map image_file (drop i tasks)) left ≡ r →
    slice_get (flat_map image_file (drop (i + 1) tasks)) left ≡ r
file-none tasks i left task o r h e f n q = sym (ap (λ l. slice_get l left) (tasks-from tasks i task o h e f ∙ ap (λ p. option_to_list p ++ flat_map image_file (drop (i + 1) tasks)) n)) ∙ q

pub file-here : (tasks : List Task) (i left : ℕ) (task : Task) (file : List ℕ) (o r : Option (List ℕ)) → i < length tasks → task ≡ get_or tasks i task → option_to_list o ≡ file_of_action task.action → o ≡ Some file → left ≡ 0 →
    slice_get (flat_map image_file (drop i tasks)) left ≡ r → Some file ≡ r
file-here tasks i left task file o r h e f n z q = sym (ap (λ l. slice_get l left) (tasks-from tasks i task o h e f ∙ ap (λ p. option_to_list p ++ flat_map image_file (drop (i + 1) tasks)) n) ∙ ap (λ k. slice_get (file ∷ flat_map image_file (drop (i + 1) tasks)) k) z) ∙ q

next-place : (xs : List (List ℕ)) (file : List ℕ) (left : ℕ) → 0 < left → slice_get (file ∷ xs) left ≡ slice_get xs (left - 1)
next-place xs file zero h = absurd (omega (arith, h))
next-place xs file (suc left) h = ap (slice_get xs) (omega arith)

pub file-next : (tasks : List Task) (i left : ℕ) (task : Task) (file : List ℕ) (o r : Option (List ℕ)) → i < length tasks → task ≡ get_or tasks i task → option_to_list o ≡ file_of_action task.action → o ≡ Some file → 0 < left →
    slice_get (flat_map image_file (drop i tasks)) left ≡ r → slice_get (flat_map image_file (drop (i + 1) tasks)) (left - 1) ≡ r
file-next tasks i left task file o r h e f n z q =
    sym (ap (λ l. slice_get l left) (tasks-from tasks i task o h e f ∙ ap (λ p. option_to_list p ++ flat_map image_file (drop (i + 1) tasks)) n) ∙ next-place (flat_map image_file (drop (i + 1) tasks)) file left z) ∙ q

pub ruleset places = (file-none, file-here, file-next)

pub file-named : (names : List (List ℕ)) (place : ℕ) (file : List ℕ) → list_all is_file_name names ≡ true → slice_get names place ≡ Some file → is_file_name file ≡ true
file-named [] place file a e = absurd cc
file-named (x ∷ names) zero file a e = let same : x ≡ file = cc in ap is_file_name (sym same) ∙ (both (is_file_name x) (list_all is_file_name names) a).0
file-named (x ∷ names) (suc place) file a e = file-named names place file (both (is_file_name x) (list_all is_file_name names) a).1 e

pub file-there : (names : List (List ℕ)) (place n : ℕ) → place < n → n ≡ length names → slice_get names place ≡ None → ⊥
file-there [] place n h e q = absurd (omega (arith, h, e))
file-there (x ∷ names) zero n h e q = absurd cc
file-there (x ∷ names) (suc place) n h e q = file-there names place (n - 1) (omega (arith, h)) (omega (arith, e)) q

pub serving-image : (kept : KeptImage) (a : Option Peer) → kept.blocks * kept.block ≤ 2 ^ 44 → kept.blocks < 2 ^ 32 → Serving (2 ^ 48) a → Serving (image_cost kept) a
serving-image kept a h k s = serving-less (2 ^ 48) (image_cost kept) a (Cost-image kept h k) s

pub ruleset puts = (Cost-image, serving-image, file-named)
