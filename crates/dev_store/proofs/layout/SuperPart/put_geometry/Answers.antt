use Rattle.dev_store.proofs.SuperRepairLemmas.{own-geometry, good-geometry}
use Rattle.dev_store.proofs.layout.SuperPart.put_geometry.Goals as goal

pub write_geometry-requires : goal.write_geometry-requires
write_geometry-requires c = record { good = good-geometry c.args.self.now c.requires }

pub returns-clause-holds : goal.returns-clause-holds
returns-clause-holds c = own-geometry c.laws.ensures.geometry_read c.args.self.now _ c.write_geometry.ensures.holds
