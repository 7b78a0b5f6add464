-- What calls on a session keep, one after another.
use Rattle.std.proofs.Common.{◌≡◌, ℕ, ◌<◌, ◌^◌, List, Option, Some, None, refl, sym, subst, ◌∙◌, arith}
use Rattle.std.specs.Prelude.{IsFalse, IsTrue}
use Rattle.dev_disk.specs.Disks.{DiskTold}
use Rattle.dev_disk.specs.Files.{Files, KeepsUnopened}
use Rattle.dev_disk.proofs.TwinLemmas.{OpenKept-then, Rose-behind}
use Rattle.dev_model.specs.declared.device.Mode.TheVariants.{Halted}
use Rattle.dev_model.specs.Partitions.{is_fastboot}
use Rattle.dev_store.specs.Held.{Held, DiskKept}
use Rattle.device_engine.specs.Running.{HasMax}
use Rattle.device_session.specs.Living.{Live, SessionKept}
use Rattle.device_session.specs.Serving.{IsHaltedBy}
use Rattle.device_session.specs.Talking.{IsKept}
use Rattle.device_session.proofs.StillLemmas.{running, max-in, max-back}

unopened-same : (f : Option Files) (p : Option (List ℕ)) → KeepsUnopened f f p
unopened-same f None = refl
unopened-same None (Some path) = tt
unopened-same (Some files) (Some path) = λ other d. refl

pub disk-same : {K L : Type 0} (told : K → DiskTold) (lent : K → L) (disk : K) → DiskKept told lent disk disk
disk-same told lent disk = record {
  same = refl;
  kept = record {
    path = refl;
    length = refl;
    others = unopened-same (told disk).files (told disk).open_path;
    later = omega arith;
    torn = λ old written left t. t;
  };
}

pub disk-then : {K L : Type 0} (told : K → DiskTold) (lent : K → L) (a b c : K) → DiskKept told lent a b → DiskKept told lent b c → DiskKept told lent a c
disk-then told lent a b c x y = record { same = y.same ∙ x.same; kept = OpenKept-then (told a) (told b) (told c) x.kept y.kept }

-- a disk call that failed later failed after what was told before
pub halted-behind : {K L : Type 0} (told : K → DiskTold) {lent : K → L} (first before : K) (held : Held K) → DiskKept told lent first before → IsHaltedBy told before held → IsHaltedBy told first held
halted-behind told first before held k h = record {
  rose = Rose-behind (told first).faults (told before).faults (told held.disk).faults k.kept.later h.rose;
  left = h.left;
  has = h.has;
}

pub kept-same : {K L : Type 0} (told : K → DiskTold) (lent : K → L) (live : Live K) → IsTrue (is_fastboot live.held.device.mode) → live.taken < 2 ^ 62 → IsKept told lent live live
kept-same told lent live f limit = record {
  runs = λ e. f;
  limit = λ e. limit;
  max = max-in live.held.device.mode live.held.device;
  kept = disk-same told lent live.held.disk;
  halts = λ e. absurd (running live.held.device.mode f e);
  room = refl;
}

-- the outbox counts for nothing
pub kept-given : {K L : Type 0} (told : K → DiskTold) (lent : K → L) (old mid new : Live K) → new ≡ record mid { out = new.out } → IsKept told lent old mid → IsKept told lent old new
kept-given told lent old mid new e k =
    subst (λ (l : Live _). IsKept told lent old l) (sym e) (record { runs = k.runs; limit = k.limit; max = k.max; kept = k.kept; halts = k.halts; room = k.room })

pub kept-fed : {K L : Type 0} (told : K → DiskTold) (lent : K → L) (old new : Live K) → SessionKept told lent old new →
    (new.held.device.mode ≡ Halted → IsHaltedBy told old.held.disk new.held) → IsKept told lent old new
kept-fed told lent old new k halts = record { runs = k.alive.runs; limit = k.alive.limit; max = k.max; kept = k.kept; halts = halts; room = k.room }

pub kept-then : {K L : Type 0} (told : K → DiskTold) (lent : K → L) (old mid new : Live K) → IsFalse mid.closed → IsKept told lent old mid → IsKept told lent mid new → IsKept told lent old new
kept-then told lent old mid new running k l =
    let max : mid.held.device.max ≡ old.held.device.max = max-back mid.held.device.mode old.held.device.max mid.held.device (k.runs running) k.max in
    record {
      runs = l.runs;
      limit = l.limit;
      max = subst (λ (n : ℕ). HasMax n new.held.device) max l.max;
      kept = disk-then told lent old.held.disk mid.held.disk new.held.disk k.kept l.kept;
      halts = λ e. halted-behind told old.held.disk mid.held.disk new.held k.kept (l.halts e);
      room = l.room ∙ k.room;
    }
