use Rattle.std.proofs.Common.{arith}
use Rattle.super_meta.specs.Contents.{content}
use Rattle.super_meta.proofs.FoundLemmas.{size-in}
use Rattle.super_meta.proofs.table.Table.take_from.Goals as goal

pub returns-clause-end : goal.returns-clause-end
returns-clause-end c = omega (arith, size-in c.args.header.now _ (content c.fill.new.self) c.in_ok-fill.ensures.content, c.requires.long)
