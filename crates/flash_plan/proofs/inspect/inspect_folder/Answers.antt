use Rattle.std.proofs.Common.{◌∙◌, List, Option, subst, arith}
use Rattle.std.proofs.lemmas.Result.{err_from_is_err_and}
use Rattle.product_info.specs.declared.task.Task.{Task}
use Rattle.flash_plan.specs.Files.{Files}
use Rattle.flash_plan.specs.Products.{brought_by}
use Rattle.flash_plan.specs.Inspecting.{Finds, Stops, FailsAmong, task_files, tasks_in}
use Rattle.flash_plan.proofs.InspectLemmas.{left-named}
use Rattle.flash_plan.proofs.InspectTasks.{product-found, first-stop, second-stop, third-stop}
use Rattle.flash_plan.proofs.InspectFails.{fails-first, fails-second, fails-third}
use Rattle.flash_plan.proofs.inspect.inspect_folder.Goals as goal

pub returns-in_err-requirements-clause-stops : goal.returns-in_err-requirements-clause-stops
returns-in_err-requirements-clause-stops g c =
    let p = err_from_is_err_and c.from_residual.result c.from_residual.ensures.1 in
    rw (p.1, p.2)
    (first-stop (g.D.ProductDir.files c.args.dir.now) c.args.wipe (g.D.ProductDir.faults c.args.dir.now) (g.D.ProductDir.faults c.inspect_requirements.new.dir) c.in_err-requirements.field-0.0 c.in_err-requirements.ensures.stops)

pub returns-in_err-all-clause-stops : goal.returns-in_err-all-clause-stops
returns-in_err-all-clause-stops g c =
    let p = err_from_is_err_and c.from_residual-in_err-all.result c.from_residual-in_err-all.ensures.1 in
    rw (p.1, p.2)
    (second-stop (g.D.ProductDir.files c.args.dir.now) c.args.wipe c.in_ok-requirements.requirements (g.D.ProductDir.faults c.args.dir.now) (g.D.ProductDir.faults c.inspect_requirements.new.dir) (g.D.ProductDir.faults c.inspect_tasks.new.dir) c.in_err-all.field-0.0
    c.in_ok-requirements.ensures.found c.inspect_requirements.ensures.later
    (subst (λ (o : Option Files). Stops o tasks_in (g.D.ProductDir.faults c.inspect_requirements.new.dir) (g.D.ProductDir.faults c.inspect_tasks.new.dir) c.in_err-all.field-0.0) c.inspect_requirements.ensures.files c.in_err-all.ensures.stops))

pub gather-requires-clause-names : goal.gather-requires-clause-names
gather-requires-clause-names g c =
    rw (c.as_slice.ensures, c.keep_tasks-tasks.ensures) (left-named c.args.wipe c.in_ok-all.all c.in_ok-all.ensures.names)

pub returns-in_err-gathered-clause-stops : goal.returns-in_err-gathered-clause-stops
returns-in_err-gathered-clause-stops g c =
    let p = err_from_is_err_and c.from_residual-in_err-gathered.result c.from_residual-in_err-gathered.ensures.1 in
    let same = c.inspect_tasks.ensures.files ∙ c.inspect_requirements.ensures.files in
    rw (p.1, p.2)
    (third-stop (g.D.ProductDir.files c.args.dir.now) c.args.wipe c.in_ok-requirements.requirements c.in_ok-all.all c.keep_tasks-tasks.result (g.D.ProductDir.faults c.args.dir.now) (g.D.ProductDir.faults c.inspect_tasks.new.dir) (g.D.ProductDir.faults c.gather.new.dir) c.in_err-gathered.field-0.0
    c.in_ok-requirements.ensures.found (subst (λ (o : Option Files). Finds o tasks_in c.in_ok-all.all) c.inspect_requirements.ensures.files c.in_ok-all.ensures.found) c.keep_tasks-tasks.ensures (omega arith)
    (subst (λ (o : Option Files). Stops o (λ files. brought_by files 0 c.keep_tasks-tasks.result) (g.D.ProductDir.faults c.inspect_tasks.new.dir) (g.D.ProductDir.faults c.gather.new.dir) c.in_err-gathered.field-0.0) same
    (subst (λ (xs : List Task). Stops (g.D.ProductDir.files c.inspect_tasks.new.dir) (λ files. brought_by files 0 xs) (g.D.ProductDir.faults c.inspect_tasks.new.dir) (g.D.ProductDir.faults c.gather.new.dir) c.in_err-gathered.field-0.0) c.as_slice.ensures c.in_err-gathered.ensures.stops)))

pub returns-clause-found : goal.returns-clause-found
returns-clause-found g c =
    let same = c.inspect_tasks.ensures.files ∙ c.inspect_requirements.ensures.files in
    product-found (g.D.ProductDir.files c.args.dir.now) c.args.wipe c.in_ok-requirements.requirements c.in_ok-all.all c.keep_tasks-tasks.result c.in_ok-gathered.gathered.images c.in_ok-gathered.gathered.empty
    c.in_ok-requirements.ensures.found (subst (λ (o : Option Files). Finds o tasks_in c.in_ok-all.all) c.inspect_requirements.ensures.files c.in_ok-all.ensures.found) c.keep_tasks-tasks.ensures
    (subst (λ (o : Option Files). Finds o (λ files. brought_by files 0 c.keep_tasks-tasks.result) (record { images = c.in_ok-gathered.gathered.images; empty = c.in_ok-gathered.gathered.empty })) same
    (subst (λ (xs : List Task). Finds (g.D.ProductDir.files c.inspect_tasks.new.dir) (λ files. brought_by files 0 xs) (record { images = c.in_ok-gathered.gathered.images; empty = c.in_ok-gathered.gathered.empty })) c.as_slice.ensures c.in_ok-gathered.ensures.found))

pub returns-in_err-requirements-clause-fails : goal.returns-in_err-requirements-clause-fails
returns-in_err-requirements-clause-fails g c =
    let p = err_from_is_err_and c.from_residual.result c.from_residual.ensures.1 in
    rw (p.1, p.2) (fails-first (g.D.ProductDir.files c.args.dir.now) c.args.wipe c.in_err-requirements.field-0.0 c.in_err-requirements.ensures.fails)

pub returns-in_err-all-clause-fails : goal.returns-in_err-all-clause-fails
returns-in_err-all-clause-fails g c =
    let p = err_from_is_err_and c.from_residual-in_err-all.result c.from_residual-in_err-all.ensures.1 in
    rw (p.1, p.2) (fails-second (g.D.ProductDir.files c.args.dir.now) c.args.wipe c.in_err-all.field-0.0 c.in_err-all.ensures.fails)

pub returns-in_err-gathered-clause-fails : goal.returns-in_err-gathered-clause-fails
returns-in_err-gathered-clause-fails g c =
    let p = err_from_is_err_and c.from_residual-in_err-gathered.result c.from_residual-in_err-gathered.ensures.1 in
    rw (p.1, p.2)
    (fails-third (g.D.ProductDir.files c.args.dir.now) c.args.wipe c.in_ok-all.all c.in_err-gathered.field-0.0
    (subst (λ (o : Option Files). Finds o tasks_in c.in_ok-all.all) c.inspect_requirements.ensures.files c.in_ok-all.ensures.found)
    (subst (λ (xs : List Task). FailsAmong (task_files xs) c.in_err-gathered.field-0.0) (c.as_slice.ensures ∙ c.keep_tasks-tasks.ensures) c.in_err-gathered.ensures.fails))
