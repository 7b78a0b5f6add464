use Rattle.std.proofs.Common.{◌∙◌, ap, subst, [], ◌∷◌}
use Rattle.fb_message.specs.declared.reply.Reply.TheVariants.{Okay}
use Rattle.fb_message.specs.CommandText.{command_value}
use Rattle.dev_model.specs.Partitions.{with_mode}
use Rattle.dev_store.specs.Faults.{IsHonest}
use Rattle.dev_store.specs.Held.{held_in, image_of}
use Rattle.dev_store.specs.States.{start_mode}
use Rattle.dev_store.specs.StoreCalls.{StandsAround}
use Rattle.device_engine.specs.Replied.{framed}
use Rattle.device_engine.specs.Running.{held_of, order}
use Rattle.device_engine.proofs.KeptLemmas.{follows-made, max-in, order-in, told-still}
use Rattle.device_engine.proofs.StartLemmas.{started-ran, started-stopped, started-live, whole-started}
use Rattle.device_engine.proofs.starting.restarted.Goals as goal

pub returns-in_default-clause-ran : goal.returns-in_default-clause-ran
returns-in_default-clause-ran g c =
    let told = g.K.Disk.told in
    let old = c.args.store in
    let stored = c.store_start.new.store in
    started-stopped told old stored (held_of c.halted.result) (order c.args.loaded.now (command_value c.args.command.now)) c.args.mode c.fail_disk.new.replies
    c.requires.starts c.requires.whole c.in_default.ensures.rose
    (told-still (told old.disk) (told stored.disk) (g.met.K.Disk.agrees old.disk) (g.met.K.Disk.agrees stored.disk) c.store_start.ensures.kept.kept)
    (subst (λ u. IsHonest (told stored.disk).torn → StandsAround (image_of told stored) old.device (with_mode (start_mode u) old.device)) c.is_userspace.ensures c.in_default.ensures.around)
    c.halted.ensures.held c.fail_disk.ensures

pub returns-clause-ran : goal.returns-clause-ran
returns-clause-ran g c =
    let told = g.K.Disk.told in
    let old = c.args.store in
    let stored = c.store_start.new.store in
    started-ran told old stored (held_of c.in_mode.result) (order c.args.loaded.now (command_value c.args.command.now)) c.args.mode c.reply_once.new.replies
    c.requires.starts c.in-Ok.ensures.whole
    (c.in-Ok.ensures.changed ∙ ap (λ u. with_mode (start_mode u) old.device) c.is_userspace.ensures)
    c.in_mode.ensures.held (c.reply_once.ensures ∙ ap (λ line. framed (Okay line ∷ [])) c.line_of.ensures)

pub in_mode-requires-clause-live : goal.in_mode-requires-clause-live
in_mode-requires-clause-live g c = started-live (command_value c.args.command.now) c.args.mode c.requires.starts

pub returns-clause-follows : goal.returns-clause-follows
returns-clause-follows g c =
    let told = g.K.Disk.told in
    let old = c.args.store in
    let stored = c.store_start.new.store in
    let mode = c.args.mode in
    let changed = c.in-Ok.ensures.changed ∙ ap (λ u. with_mode (start_mode u) old.device) c.is_userspace.ensures in
    let live = started-live (command_value c.args.command.now) mode c.requires.starts in
    follows-made told g.K.Disk.lent old (held_in mode stored) c.in_mode.result c.in_mode.ensures.typed c.in_mode.ensures.held
    (order-in told mode (held_in mode stored) (whole-started told mode stored live c.in-Ok.ensures.whole (ap (λ d. d.mode) changed)))
    (max-in mode old.device.max (with_mode mode stored.device) (ap (λ d. d.max) changed)) c.store_start.ensures.kept
