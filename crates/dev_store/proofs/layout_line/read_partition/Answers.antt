use Rattle.std.proofs.Common.{ap, sym, subst}
use Rattle.dev_store.specs.LayoutLines.{partition_of}
use Rattle.dev_store.specs.LineReading.{IsRead}
use Rattle.dev_store.proofs.SplitLemmas.{split-at, split-end}
use Rattle.dev_store.proofs.layout_line.read_partition.Goals as goal

pub returns-in_default : goal.returns-in_default
returns-in_default c = ap partition_of (split-end c.args.text.now c.in_default.ensures)

pub returns : goal.returns
returns c =
    subst (λ words. IsRead (partition_of words) c.partition_line.result)
    (sym (split-at c.args.text.now c.in-Some.name.now c.in-Some.size.now c.in-Some.ensures)) c.partition_line.ensures
