use Rattle.std.proofs.Common.{ℕ, ◌+◌, ◌-◌, ◌*◌, arith, sym, ◌∙◌, ap, refl, length, take, drop}
use Rattle.std.proofs.lemmas.List.{take_rest}
use Rattle.sparse_image.proofs.RunLemmas.{fours, front-never, chunk-lies, chunk-long, chunk-advances, chunk-whole, blocks-spent}
use Rattle.sparse_image.proofs.runs.Chunks.advance.Goals as goal

pub unreachable-requires : goal.unreachable-requires
unreachable-requires c =
    let s = c.args.self.now in
    front-never s.chunks (s.chunks - 1) s.block s.blocks s.bytes.now c.in_default.field-0 (omega arith) c.requires.whole.whole (sym c.front_chunk.ensures.chunk ∙ c.in_default.is)

pub returns-clause-advances : goal.returns-clause-advances
returns-clause-advances c =
    let s = c.args.self.now in
    chunk-advances s.at s.block s.blocks s.chunks (s.chunks - 1) s.bytes.now c.in-Ok.chunk (omega arith) c.requires.whole.whole c.requires.whole.fours (sym c.in-Ok.ensures.chunk) c.in-Ok.ensures.due
    (s.at + c.from.result * c.from-2.result) (s.chunks - 1) (take (length s.bytes.now - c.len.result) (drop c.len.result s.bytes.now))
    (rw (c.from.ensures, c.from-2.ensures) refl) refl (take_rest s.bytes.now c.len.result ∙ ap (λ (x : ℕ). drop x s.bytes.now) c.len.ensures)

pub returns-clause-whole : goal.returns-clause-whole
returns-clause-whole c =
    let s = c.args.self.now in
    let spent = blocks-spent s.at s.block s.blocks s.chunks (s.chunks - 1) s.bytes.now c.in-Ok.chunk (omega arith) c.requires.whole.whole c.requires.whole.fours (sym c.in-Ok.ensures.chunk) c.in-Ok.ensures.due in
    record {
      whole = chunk-whole s.at s.block s.blocks s.chunks (s.chunks - 1) s.bytes.now c.in-Ok.chunk (omega arith) c.requires.whole.whole c.requires.whole.fours (sym c.in-Ok.ensures.chunk) c.in-Ok.ensures.due
          (s.chunks - 1) (take (length s.bytes.now - c.len.result) (drop c.len.result s.bytes.now)) refl (take_rest s.bytes.now c.len.result ∙ ap (λ (x : ℕ). drop x s.bytes.now) c.len.ensures);
      small = rw (c.from.ensures, c.from-2.ensures) (omega (arith, spent, c.requires.whole.small));
      fours = c.requires.whole.fours;
      placed = rw (c.from.ensures, c.from-2.ensures) (omega (arith, c.requires.whole.placed, fours c.in-Ok.chunk.blocks s.block c.requires.whole.fours));
    }

pub returns-clause-lies : goal.returns-clause-lies
returns-clause-lies c =
    let s = c.args.self.now in
    chunk-lies s.at s.block s.blocks s.chunks (s.chunks - 1) s.bytes.now c.in-Ok.chunk (omega arith) c.requires.whole.whole c.requires.whole.fours (sym c.in-Ok.ensures.chunk) c.in-Ok.ensures.due

pub returns-clause-long : goal.returns-clause-long
returns-clause-long c =
    let s = c.args.self.now in
    chunk-long s.at s.block s.blocks s.chunks (s.chunks - 1) s.bytes.now c.in-Ok.chunk (omega arith) c.requires.whole.whole c.requires.whole.fours (sym c.in-Ok.ensures.chunk) c.in-Ok.ensures.due

pub returns-clause-within : goal.returns-clause-within
returns-clause-within c =
    let s = c.args.self.now in
    let spent = blocks-spent s.at s.block s.blocks s.chunks (s.chunks - 1) s.bytes.now c.in-Ok.chunk (omega arith) c.requires.whole.whole c.requires.whole.fours (sym c.in-Ok.ensures.chunk) c.in-Ok.ensures.due in
    omega (arith, spent)
