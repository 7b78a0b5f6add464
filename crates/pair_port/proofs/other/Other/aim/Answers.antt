use Rattle.std.proofs.Common.{refl, subst}
use Rattle.dev_store.specs.Opening.{OpensImage}
use Rattle.device_engine.specs.Running.{held_of}
use Rattle.pair_port.proofs.ReadyLemmas.{ready-opened}
use Rattle.pair_port.proofs.other.Other.aim.Goals as goal

pub returns-in-Ok-clause-opens : goal.returns-in-Ok-clause-opens
returns-in-Ok-clause-opens g c =
    let told = g.K.Disk.told in
    let held = held_of c.in-Ok.field-0.device in
    let path = c.args.target.1.now in
    record {
      held = held;
      room = c.in-Ok.field-0.room;
      end_now = refl;
      opens = subst (λ d. OpensImage (told d) (told held.disk) path held.device) c.into_disk.ensures.disk c.in-Ok.ensures.opens;
      runs = c.in-Ok.ensures.runs;
      valid = c.in-Ok.ensures.whole.sound.valid;
    }

pub returns-in-Ok-clause-ready : goal.returns-in-Ok-clause-ready
returns-in-Ok-clause-ready g c = λ left.
    let held = held_of c.in-Ok.field-0.device in
    ready-opened g.K.Disk.told (g.K.Disk.told c.into_disk.result) held c.in-Ok.field-0.room left c.args.target.1.now c.in-Ok.ensures.whole c.in-Ok.ensures.runs c.in-Ok.ensures.room c.in-Ok.ensures.opens
