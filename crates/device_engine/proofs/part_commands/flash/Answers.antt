use Rattle.std.proofs.Common.{refl, sym, subst, codes, None}
use Rattle.dev_model.specs.declared.step.Step.TheVariants as step
use Rattle.dev_model.specs.Refusals.{flash_refusal}
use Rattle.dev_model.specs.Steps.{apply}
use Rattle.fb_message.specs.CommandText.{Flash}
use Rattle.fb_message.specs.declared.reply.Reply.TheVariants.{Fail}
use Rattle.wire_model.specs.Says.{loaded_image}
use Rattle.device_engine.specs.Running.{loaded_value}
use Rattle.device_engine.specs.Working.{ordered, IsAnswered}
use Rattle.device_engine.proofs.SaysLemmas.{says-flash}
use Rattle.device_engine.proofs.DecidedLemmas.{refuses}
use Rattle.device_engine.proofs.PartLemmas.{flash-locked, flash-unloaded}
use Rattle.device_engine.proofs.part_commands.flash.Goals as goal

pub returns-then-is_locked-clause-worked : goal.returns-then-is_locked-clause-worked
returns-then-is_locked-clause-worked g c =
    let old = c.args.store.now in
    let name = c.args.name.now in
    let loaded = loaded_value c.args.loaded.now in
    refuses g.K.Disk.told old old (ordered loaded (Flash name)) (flash_refusal old.device loaded name) (apply (step.Put name (loaded_image loaded))) (says-flash old.device loaded name) (codes "locked")
    (flash-locked old.device loaded name (sym c.if-is_locked.ensures.locked)) c.requires.whole refl

pub returns-in-None-clause-worked : goal.returns-in-None-clause-worked
returns-in-None-clause-worked g c =
    let told = g.K.Disk.told in
    let old = c.args.store.now in
    let name = c.args.name.now in
    subst (λ l. IsAnswered told old old (ordered l (Flash name)) (Fail (codes "nothing downloaded"))) c.in-None.ensures.bytes
    (refuses told old old (ordered None (Flash name)) (flash_refusal old.device None name) (apply (step.Put name (loaded_image None))) (says-flash old.device None name) (codes "nothing downloaded")
    (flash-unloaded old.device name (sym c.if-is_locked.ensures.locked)) c.requires.whole refl)
