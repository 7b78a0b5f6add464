use Rattle.std.proofs.Common.{refl}
use Rattle.super_meta.specs.Contents.{content}
use Rattle.super_meta.specs.HeaderText.{header_size}
use Rattle.super_meta.proofs.WriteLemmas.{whole}
use Rattle.super_meta.proofs.NameLemmas.{bothly}
use Rattle.super_meta.proofs.FitLemmas.{below}
use Rattle.super_meta.proofs.writing.write_table.Goals as goal

pub returns-clause-bytes : goal.returns-clause-bytes
returns-clause-bytes c =
    whole (content c.args.table.now) (header_size c.args.table.now.minor) c.header_size-start.result c.size-end.result c.put_tables.result c.args.buf.now c.put_tables.new.buf c.put_header.new.buf c.digest-lists.result
    refl c.header_size-start.ensures c.size-end.ensures c.put_tables.ensures.at c.if-buf-end.false c.put_tables.ensures.front c.digest-lists.ensures c.put_header.ensures.header c.put_header.ensures.rest

pub returns-clause-again : goal.returns-clause-again
returns-clause-again c = record {
  sound = c.requires.sound;
  fitting = bothly _ _ c.put_tables.ensures.fits (below _ _ c.put_header.ensures.flags);
  spelled = returns-clause-bytes c;
}
