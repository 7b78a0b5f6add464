use Rattle.std.proofs.Common.{rules, ◌≡◌, ◌≤◌, ◌∙◌, ap, sym, subst, false, length}
use Rattle.std.specs.Prelude.{bytes_eq, codes, if◌then◌else◌}
use Rattle.dev_model.specs.Variables.{value, all_rows}
use Rattle.dev_model.proofs.RowCounts.{rows_few}
use Rattle.wire_model.specs.Says.{tells, tells_all}
use Rattle.device_engine.specs.Replied.{framed}
use Rattle.device_engine.proofs.TellLemmas.{same-started}
use Rattle.device_engine.proofs.getvar.get_var.Goals as goal

pub tell_all-requires-clause-few : goal.tell_all-requires-clause-few
tell_all-requires-clause-few g c =
    let dev = c.args.store.now.device in
    let state = c.state-userspace in
    let same = same-started state.result.userspace dev c.requires.fastboot (ap (λ s. s.userspace) state.ensures.state) in
    subst (λ d. length (all_rows d) ≤ 848) (sym same) (rows_few dev state.ensures.valid)

pub returns-else-eq : goal.returns-else-eq
returns-else-eq g c =
    let dev = c.args.store.now.device in
    let state = c.state-userspace in
    let same = same-started state.result.userspace dev c.requires.fastboot (ap (λ s. s.userspace) state.ensures.state) in
    let other : bytes_eq c.args.name.now (codes "all") ≡ false = search rules in
    c.tell.ensures ∙ ap (λ d. framed (tells (value d c.args.name.now))) same
    ∙ ap (λ b. framed (if b then tells_all dev else tells (value dev c.args.name.now))) (sym other)
