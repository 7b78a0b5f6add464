use Rattle.std.proofs.Common.{refl, arith}
use Rattle.std.specs.Prelude.{◌%◌}
use Rattle.unit_alloc.specs.Owning.{units_of as units_owned}
use Rattle.dev_store.proofs.PartFound.{within-run, piece-in-run, piece-ends, piece-whole, piece-inside}
use Rattle.dev_store.proofs.part_place.Units.piece.Goals as goal

pub returns-clause-run : goal.returns-clause-run
returns-clause-run c = let u = c.args.self.now in let m = c.min.ensures in let w = within-run c.args.at u.unit c.run-first.result.1 c.requires.room.some c.run-first.ensures.some in
    piece-in-run u c.args.at c.run-first.result.0 c.run-first.result.1 _ c.requires.room.some c.run-first.ensures.some c.run-first.ensures.rest c.run-first.ensures.each (omega arith) (omega arith) refl

pub returns-clause-last : goal.returns-clause-last
returns-clause-last c = λ less. let u = c.args.self.now in let w = within-run c.args.at u.unit c.run-first.result.1 c.requires.room.some c.run-first.ensures.some in
    piece-ends u.unit c.args.at c.run-first.result.0 c.run-first.result.1 c.args.rest c.min.result (units_owned u.owners.now u.part) c.requires.room.some c.run-first.ensures.some (omega arith) c.run-first.ensures.each c.min.ensures less

pub returns-clause-inside : goal.returns-clause-inside
returns-clause-inside c = let u = c.args.self.now in let m = c.min.ensures in let w = within-run c.args.at u.unit c.run-first.result.1 c.requires.room.some c.run-first.ensures.some in
    piece-inside u.start u.unit c.run-first.result.0 c.run-first.result.1 u.owners.now.units (c.args.at % u.unit) c.min.result c.run-first.ensures.there (omega arith)

pub returns-clause-whole : goal.returns-clause-whole
returns-clause-whole c = λ less. let u = c.args.self.now in let w = within-run c.args.at u.unit c.run-first.result.1 c.requires.room.some c.run-first.ensures.some in
    piece-whole u.unit c.args.at c.run-first.result.1 c.args.rest c.min.result c.requires.room.some (omega arith) c.min.ensures less
