use Rattle.std.proofs.Common.{◌-◌, length, take, drop, sym, arith}
use Rattle.std.proofs.lemmas.List.{length-take, length-drop}
use Rattle.dev_model.proofs.ChunkLemmas.{first_rest}
use Rattle.dev_model.proofs.sparse.first_chunk.Goals as goal

pub returns : goal.returns
returns c =
    let bytes = c.args.bytes.now in
    record {
      counted = c.if-own-blocks.false;
      inside = omega (arith, length-take c.in_ok-size.size (take (length bytes - 12) (drop 12 bytes)), length-take (length bytes - 12) (drop 12 bytes), length-drop 12 bytes);
      rest = first_rest c.args.block c.args.blocks c.in_ok-size.size c.u16_at-kind.result c.u32_at-own.result c.u32_at-total.result bytes
          c.u16_at-kind.ensures.number c.u32_at-own.ensures.number c.u32_at-total.ensures.number (sym c.in_ok-size.ensures) c.if-own-blocks.false c.if-total-lt12.false c.if-total-size.false (omega arith) c.if-size-data.false;
    }
