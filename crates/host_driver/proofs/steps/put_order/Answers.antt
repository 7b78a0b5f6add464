use Rattle.std.proofs.Common.{◌∙◌, Some, List, sym, ap, subst, arith, rules}
use Rattle.std.specs.Prelude.{slice_get, flat_map, length}
use Rattle.product_info.specs.declared.task.Task.{Task}
use Rattle.sparse_image.specs.Walks.{Kept}
use Rattle.flash_plan.specs.Files.{HasSize, file_in}
use Rattle.flash_plan.specs.Products.{image_file}
use Rattle.host_driver.specs.Taking.{supply}
use Rattle.host_driver.proofs.DriveFiles.{File-sized, File-checked, Cost-image, Put-taken, Put-untaken, place-at}
use Rattle.host_driver.proofs.OrderLemmas.{ok-more, err-more}
use Rattle.host_driver.proofs.steps.put_order.Goals as goal

pub new-source-requires-clause-size : goal.new-source-requires-clause-size
new-source-requires-clause-size g c =
    let told = g.D.ProductDir.files c.args.dir.now in
    let at = ap (λ (t : List Task). slice_get (flat_map image_file t) c.args.place) (sym c.as_slice-2.ensures) ∙ (sym c.file_of.ensures ∙ c.in-Some.is) in
    let it = ap (λ (t : List Kept). slice_get t c.args.place) (sym c.as_slice.ensures) ∙ place-at c.as_slice.result.now c.args.place c.index-as_slice-place.result (let h = c.requires.own in omega (arith, h, ap (λ (t : List Kept). length t) c.as_slice.ensures)) c.index-as_slice-place.is in
    subst (λ n. HasSize told c.in-Some.file (Some n)) (sym c.source_len.ensures) (File-sized told c.args.product.now c.args.place c.in-Some.file c.index-as_slice-place.result c.requires.images at it)

pub put-requires-clause-told : goal.put-requires-clause-told
put-requires-clause-told g c =
    let told = g.D.ProductDir.files c.args.dir.now in
    let at = ap (λ (t : List Task). slice_get (flat_map image_file t) c.args.place) (sym c.as_slice-2.ensures) ∙ (sym c.file_of.ensures ∙ c.in-Some.is) in
    let it = ap (λ (t : List Kept). slice_get t c.args.place) (sym c.as_slice.ensures) ∙ place-at c.as_slice.result.now c.args.place c.index-as_slice-place.result (let h = c.requires.own in omega (arith, h, ap (λ (t : List Kept). length t) c.as_slice.ensures)) c.index-as_slice-place.is in
    File-checked told c.args.product.now c.args.place c.in-Some.file c.index-as_slice-place.result c.requires.images at it _
    (ap (λ d. file_in (g.D.ProductDir.files d) c.new-source.result.name.now) c.new-source.ensures.dir ∙ ap (λ n. file_in told n) c.new-source.ensures.name)

pub returns-clause-taken : goal.returns-clause-taken
returns-clause-taken g c =
    let told = g.D.ProductDir.files c.args.dir.now in
    let at = ap (λ (t : List Task). slice_get (flat_map image_file t) c.args.place) (sym c.as_slice-2.ensures) ∙ (sym c.file_of.ensures ∙ c.in-Some.is) in
    let it = ap (λ (t : List Kept). slice_get t c.args.place) (sym c.as_slice.ensures) ∙ place-at c.as_slice.result.now c.args.place c.index-as_slice-place.result (let h = c.requires.own in omega (arith, h, ap (λ (t : List Kept). length t) c.as_slice.ensures)) c.index-as_slice-place.is in
    let content = ap (λ d. file_in (g.D.ProductDir.files d) c.new-source.result.name.now) c.new-source.ensures.dir ∙ ap (λ n. file_in told n) c.new-source.ensures.name in
    let cost = Cost-image c.index-as_slice-place.result (let h = c.len-long.ensures.short in omega (arith, h, c.len-long.ensures.len)) c.len-long.ensures.blocks in
    ok-more _ _ (λ x k. Put-taken (supply told c.args.product.now c.args.most) c.args.name.now c.args.place c.in-Some.file c.index-as_slice-place.result _ _ _ c.requires.images at it content cost c.requires.serving k) c.put.result c.put.ensures.put

pub returns-clause-untaken : goal.returns-clause-untaken
returns-clause-untaken g c =
    let told = g.D.ProductDir.files c.args.dir.now in
    let at = ap (λ (t : List Task). slice_get (flat_map image_file t) c.args.place) (sym c.as_slice-2.ensures) ∙ (sym c.file_of.ensures ∙ c.in-Some.is) in
    let it = ap (λ (t : List Kept). slice_get t c.args.place) (sym c.as_slice.ensures) ∙ place-at c.as_slice.result.now c.args.place c.index-as_slice-place.result (let h = c.requires.own in omega (arith, h, ap (λ (t : List Kept). length t) c.as_slice.ensures)) c.index-as_slice-place.is in
    let content = ap (λ d. file_in (g.D.ProductDir.files d) c.new-source.result.name.now) c.new-source.ensures.dir ∙ ap (λ n. file_in told n) c.new-source.ensures.name in
    err-more _ _ (λ x k. Put-untaken _ (supply told c.args.product.now c.args.most) c.args.name.now c.args.place c.in-Some.file c.index-as_slice-place.result _ _ _ _ _ x.1 c.requires.images at it content
    (λ y u. (at ∙ ap Some (sym u.0), (let r = u.1 in search rules))) k) c.put.result c.put.ensures.breaks
