use Rattle.std.proofs.Common.{sym, subst}
use Rattle.std.specs.Prelude.{None, false}
use Rattle.device_engine.specs.Running.{answer, Ran}
use Rattle.device_engine.proofs.WorkedLemmas.{ran-broken, ran-whole, pushed-one}
use Rattle.device_engine.proofs.working.settle.Goals as goal

pub returns-then-is_broken-clause-ran : goal.returns-then-is_broken-clause-ran
returns-then-is_broken-clause-ran g c old order w =
    ran-broken g.K.Disk.told old c.args.store order c.args.done c.push.new.self (sym c.if-is_broken.ensures.broken)
    (pushed-one c.args.done c.args.replies.now c.push.new.self c.reply_to.result c.requires.empty c.push.ensures.pushed c.reply_to.ensures.reply) w

pub returns-clause-ran : goal.returns-clause-ran
returns-clause-ran g c old order w =
    subst (λ n. Ran g.K.Disk.told old n order (answer c.push.new.self None false)) (sym c.new.ensures.held)
    (ran-whole g.K.Disk.told old c.args.store order c.args.done c.push.new.self (sym c.if-is_broken.ensures.broken)
    (pushed-one c.args.done c.args.replies.now c.push.new.self c.reply_to.result c.requires.empty c.push.ensures.pushed c.reply_to.ensures.reply) w)
