use Rattle.std.proofs.Common.{◌≡◌, ◌∙◌, arith, sym, subst, take, Some, None}
use Rattle.std.specs.Prelude.{slice_get}
use Rattle.std.specs.List.{flat_map}
use Rattle.dev_store.specs.Held.{image_of}
use Rattle.dev_store.specs.StoreCalls.{names_of}
use Rattle.device_jobs.specs.Working.{AddsText, part_line}
use Rattle.device_jobs.proofs.PartLemmas.{place-small}
use Rattle.device_jobs.proofs.ReadLemmas.{reads-then, reads-image, adds-then, flat-next, take-all, get-below}
use Rattle.device_jobs.proofs.parts.add_parts.Goals as goal

pub overflow_add-place : goal.overflow_add-place
overflow_add-place g c =
    let small = place-small c.loop-name.store.device c.loop-name.place c.in-Some.name c.in-Some.ensures.valid c.in-Some.ensures.name in
    omega (arith, small)

pub loop-name-smaller : goal.loop-name-smaller
loop-name-smaller g c =
    let is : slice_get (names_of c.args.store.now.device) c.loop-name.place ≡ Some c.in-Some.name =
    subst (λ d. slice_get (names_of d) c.loop-name.place ≡ Some c.in-Some.name) c.loop-name.invariant.read.device (sym c.in-Some.ensures.name) in
    let below = get-below (names_of c.args.store.now.device) c.loop-name.place c.in-Some.name is in
    omega (arith, below)

pub loop-name-preserved : goal.loop-name-preserved
loop-name-preserved g c =
    let told = g.K.Disk.told in
    let a = c.args.store.now in
    let b = c.loop-name.store in
    let i = c.loop-name.invariant in
    let h = c.in_ok-add_part.ensures in
    let line = part_line a.device c.args.logical in
    let names = names_of a.device in
    let is : slice_get names c.loop-name.place ≡ Some c.in-Some.name = subst (λ d. slice_get (names_of d) c.loop-name.place ≡ Some c.in-Some.name) i.read.device (sym c.in-Some.ensures.name) in
    let one : AddsText (image_of told a) (line c.in-Some.name) c.loop-name.text.items c.add_part.new.text.items =
    subst (λ o. AddsText o (line c.in-Some.name) c.loop-name.text.items c.add_part.new.text.items) (reads-image told g.K.Disk.lent a b i.read)
    (subst (λ d. AddsText (image_of told b) (part_line d c.args.logical c.in-Some.name) c.loop-name.text.items c.add_part.new.text.items) i.read.device h.added) in
    record {
      read = reads-then told g.K.Disk.lent a b c.add_part.new.store i.read h.read;
      added = subst (λ t. AddsText (image_of told a) t c.args.text.now.items c.add_part.new.text.items) (flat-next line names c.loop-name.place c.in-Some.name is)
          (adds-then (image_of told a) (flat_map line (take c.loop-name.place names)) (line c.in-Some.name) c.args.text.now.items c.loop-name.text.items c.add_part.new.text.items i.added one);
      room = h.room ∙ i.room;
    }

pub returns-clause-added : goal.returns-clause-added
returns-clause-added g c =
    let a = c.args.store.now in
    let names = names_of a.device in
    let none : slice_get names c.loop-name.place ≡ None = subst (λ d. slice_get (names_of d) c.loop-name.place ≡ None) c.loop-name.invariant.read.device
    (sym c.name_at.ensures.name ∙ c.in_default.is) in
    subst (λ n. AddsText (image_of g.K.Disk.told a) (flat_map (part_line a.device c.args.logical) n) c.args.text.now.items c.loop-name.text.items) (take-all names c.loop-name.place none) c.loop-name.invariant.added
