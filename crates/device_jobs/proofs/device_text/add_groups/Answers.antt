use Rattle.std.proofs.Common.{◌++◌, ◌∙◌, ap, arith, take, append_assoc}
use Rattle.std.specs.List.{flat_map}
use Rattle.super_meta.specs.Held.{limited}
use Rattle.device_jobs.specs.Printed.{group_text, group_line}
use Rattle.device_jobs.proofs.HeadLemmas.{group-got, group-none, groups-few}
use Rattle.device_jobs.proofs.ReadLemmas.{flat-next, take-all, get-below}
use Rattle.device_jobs.proofs.device_text.add_groups.Goals as goal

pub overflow_add-place : goal.overflow_add-place
overflow_add-place g c =
    let groups = c.args.store.now.device.groups in
    let is = group-got c.group.result c.in-Some.group groups c.loop-group.place c.in-Some.is c.group.ensures.group in
    let below = get-below groups c.loop-group.place (limited c.in-Some.group) is in
    let few = groups-few c.args.store.now.device c.requires.valid in
    omega (arith, below, few)

pub loop-group-smaller : goal.loop-group-smaller
loop-group-smaller g c =
    let groups = c.args.store.now.device.groups in
    let is = group-got c.group.result c.in-Some.group groups c.loop-group.place c.in-Some.is c.group.ensures.group in
    let below = get-below groups c.loop-group.place (limited c.in-Some.group) is in
    omega (arith, below)

pub loop-group-preserved : goal.loop-group-preserved
loop-group-preserved g c =
    let groups = c.args.store.now.device.groups in
    let before = c.args.text.now.items in
    let is = group-got c.group.result c.in-Some.group groups c.loop-group.place c.in-Some.is c.group.ensures.group in
    let line = group_text c.in-Some.group.name c.in-Some.group.limit in
    record {
      added = c.in_ok-add_group.ensures
          ∙ (ap (λ t. t ++ line) c.loop-group.invariant.added
          ∙ (append_assoc before (flat_map group_line (take c.loop-group.place groups)) line
          ∙ ap (λ t. before ++ t) (flat-next group_line groups c.loop-group.place (limited c.in-Some.group) is)));
    }

pub returns : goal.returns
returns g c =
    let groups = c.args.store.now.device.groups in
    let none = group-none c.group.result groups c.loop-group.place c.in_default.is c.group.ensures.group in
    c.loop-group.invariant.added ∙ ap (λ xs. c.args.text.now.items ++ flat_map group_line xs) (take-all groups c.loop-group.place none)
