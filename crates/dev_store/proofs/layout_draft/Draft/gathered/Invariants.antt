use Rattle.dev_store.specs.Drafts.{Gathers}
use Rattle.dev_store.proofs.layout_draft.Draft.gathered.Given as goal

abbrev pub invariant-loop-entry : goal.invariant-loop-entry
invariant-loop-entry l = Gathers l.draft l.yielded
