use Rattle.std.proofs.Common.{Err, ap, sym, ◌∙◌}
use Rattle.super_meta.specs.Held.{flaw_read, tables_flaw}
use Rattle.super_meta.proofs.held.tables_flaw.Goals as goal

pub returns-in-Ok : goal.returns-in-Ok
unfolding tables_flaw
returns-in-Ok c = record { flaw = c.extent_flaw.ensures ∙ sym (ap flaw_read c.in-Ok.ensures.image) }

pub returns-in-Err-Bad : goal.returns-in-Err-Bad
unfolding tables_flaw
returns-in-Err-Bad c = record { flaw = sym (ap flaw_read (c.in-Err-Bad.ensures.flaw c.in-Err-Bad.flaw (ap Err c.in-Err-Bad.field-0-is))) }
