use Rattle.std.proofs.Common.{◌∙◌, ap, sym, subst, inl, inr}
use Rattle.std.specs.Result.{result_ok}
use Rattle.fb_frame.specs.Told.{Both}
use Rattle.dev_disk.specs.Disks.{open_bytes}
use Rattle.dev_disk.proofs.TwinLemmas.{OpenKept-then}
use Rattle.super_meta.specs.Contents.{content}
use Rattle.super_meta.proofs.GivenLemmas.{gives}
use Rattle.dev_store.specs.Growing.{AreZeroed, AreLeftZeroed}
use Rattle.dev_store.specs.SuperRepairs.{SaysTable}
use Rattle.dev_store.specs.TableWrites.{IsTableAround}
use Rattle.dev_store.proofs.RegrowZeros.{both-err}
use Rattle.dev_store.proofs.part_zero.put_grown.Goals as goal

pub returns-in_default-clause-left : goal.returns-in_default-clause-left
returns-in_default-clause-left g c =
    let told = g.K.Disk.told in
    let x = c.spell_next.new.self in
    record {
      says = subst (λ t. SaysTable (content t) x.copy.items) c.spell_next.ensures.next (ap result_ok (gives x.copy.items (content x.next) c.spell_next.ensures.spelled.copy));
      stays = c.spell_next.ensures.table;
      left = inl (subst (λ o. AreLeftZeroed told c.args.at c.args.s.now o c.args.new c.args.disk.now c.zero_new.new.disk) c.spell_next.ensures.owners c.in_default.ensures.left);
    }

pub returns-clause-left : goal.returns-clause-left
returns-clause-left g c =
    let told = g.K.Disk.told in
    let x = c.spell_next.new.self in
    let a = told c.zero_new.new.disk in
    let b = told c.write_next.new.disk in
    both-err c.write_next.result c.write_next.ensures.around c.write_next.ensures.stays (λ around stays. record {
      says = subst (λ t. SaysTable (content t) c.write_next.new.within.copy.items) c.spell_next.ensures.next
          (subst (λ v. SaysTable (content x.next) v.items) (sym c.write_next.ensures.copy) (ap result_ok (gives x.copy.items (content x.next) c.spell_next.ensures.spelled.copy)));
      stays = (λ i. (stays i).table) ∙ c.spell_next.ensures.table;
      left = inr (record {
        filled = c.zero_new.new.disk;
        zeroed = subst (λ o. AreZeroed told c.args.at c.args.s.now o c.args.new c.args.disk.now c.zero_new.new.disk) c.spell_next.ensures.owners c.in-Ok.ensures.zeroed;
        around = subst (λ t. Both (IsTableAround b.torn c.args.s.now c.args.at (content t)) (open_bytes a) (open_bytes b)) c.spell_next.ensures.next around;
        kept = c.write_next.ensures.kept;
      });
    })

pub returns-clause-kept : goal.returns-clause-kept
returns-clause-kept g c =
    let told = g.K.Disk.told in
    OpenKept-then (told c.args.disk.now) (told c.zero_new.new.disk) (told c.write_next.new.disk) c.zero_new.ensures.kept c.write_next.ensures.kept
