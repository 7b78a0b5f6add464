-- The steps of a call that installs give its end.
use Rattle.std.proofs.Common.{◌≡◌, ◌⊎◌, inl, inr, ℕ, ◌-◌, ◌≤◌, Option, Some, None, List, length, refl, sym, subst, arith}
use Rattle.std.specs.Prelude.{Result, Ok, Err, IsTrue, is_some}
use Rattle.fb_frame.specs.Causes.{Rose}
use Rattle.dev_model.specs.declared.device.Dev.{Dev}
use Rattle.wire_told.specs.Peers.{Peer}
use Rattle.wire_told.specs.Places.{Place}
use Rattle.wire_told.specs.Ports.{PortTold, IsAimed, Turns}
use Rattle.wire_told.specs.Told.{IsBarred}
use Rattle.flash_plan.specs.Files.{Files}
use Rattle.flash_plan.specs.Products.{OfFiles}
use Rattle.host_driver.specs.declared.drive.Done.{Done as DoneSo}
use Rattle.host_driver.specs.declared.drive.DriveError.{DriveError}
use Rattle.host_driver.specs.declared.drive.DriveError.TheVariants as stop
use Rattle.host_driver.specs.Driven.{RoseBy}
use Rattle.host_driver.specs.Driving.{moved, Why, Drives, Drove, IsLed, TriedUntold, OutputFailed}
use Rattle.host_driver.specs.Jobs.{Outside, outside, Folder, Order, Job, Course, job, OfTold, OnFiles}
use Rattle.host_driver.specs.Wires.{IsWire, LogGrew}
use Rattle.fb_frame.specs.Sinks.{Grew}
use Rattle.host_top.specs.Ending.{with_text, WhyLed, LedOver, Led, ShowsLast}
use Rattle.host_top.specs.Verdicts.{verdict_of}
use Rattle.host_top.proofs.AimLemmas.{aimed-unbarred, aimed-on, untold-still, untold-before, turned-by}
use Rattle.host_top.proofs.WideLemmas.{Wider, rose-by-wider, rose-wider, link-wider, folder-wider, output-wider, caused-wider, led-wider, prints-wider}

-- A call whose folder was entered and read: the port was aimed, as `port` tells, `flash` ran from there on, and the last line was put unless the output had failed. `mid` and `put` are the text and the output's count before the last line.
pub record Ran (place : Place) (o : Order) (old new : Outside) (status : ℕ) : Type 1 where
  pub port : PortTold
  pub aimed : IsAimed old.port port place
  pub turns : Turns old.port port
  pub folder : Folder
  pub files : folder.files ≡ old.folder.files
  pub later : old.folder.faults ≤ folder.faults
  pub course : Course
  pub mid : Option (List ℕ)
  pub put : ℕ
  pub drives : Drives o (outside port folder old.text old.unput) (outside new.port new.folder mid put) course
  pub shows : ShowsLast (verdict_of course.outcome) mid new.text status
  pub shown_later : put ≤ new.unput
  pub failed : IsTrue (is_some (verdict_of course.outcome)) → status ≡ 9 → Rose put new.unput

same-le : (n : ℕ) → n ≤ n
same-le n = omega arith

unbarred : {A B : Type 0} → (B → ⊥) → A ⊎ B → A
unbarred n (inl a) = a
unbarred n (inr b) = absurd (n b)

why-led : (end : Result DoneSo DriveError) (o : Order) (first last old new : Outside) (k : ℕ) → Wider (moved first last) (moved old new) →
    (IsBarred first.port.peer → ⊥) → (first.port.peer ≡ None → new.port.peer ≡ None) → (Rose first.port.ends last.port.ends → Rose old.port.ends new.port.ends) →
    Why o first last k end → WhyLed o k old new end
why-led (Ok done) o first last old new k w nb un en y = y
why-led (Err stop.Memory) o first last old new k w nb un en y = tt
why-led (Err (stop.Directory file)) o first last old new k w nb un en y = (folder-wider w y.0, y.1)
why-led (Err stop.Output) o first last old new k w nb un en y = output-wider w y
why-led (Err stop.Link) o first last old new k w nb un en y = (link-wider w (unbarred nb y.0), y.1)
why-led (Err stop.Ended) o first last old new k w nb un en y = (un y.0, en y.1, y.2)
why-led (Err (stop.Refused text)) o first last old new k w nb un en y = tt
why-led (Err (stop.Peer kept)) o first last old new k w nb un en y = un y
why-led (Err stop.TooManyInfos) o first last old new k w nb un en y = un y
why-led (Err (stop.Requirement line name value)) o first last old new k w nb un en y = y
why-led (Err (stop.Plan line kind)) o first last old new k w nb un en y = tt

-- what is known of the device, and of the job where the files are told too
both-on : (o : Order) (files : Option Files) (a b : Option Peer) (L : Dev → Dev → Type 0) (R : Job → Dev → Type 0) → OfTold a b L → OnFiles o files a b R → OfTold a b (λ s t. L s t × OfFiles files (λ f. R (job o f s) t))
both-on o files None None L R l r = tt
both-on o files None (Some b) L R l r = l
both-on o files (Some a) None L R l r = l
both-on o None (Some a) (Some b) L R l r = (l, tt)
both-on o (Some f) (Some a) (Some b) L R l r = (l, r)

files-on : (files : Option Files) (P Q : Files → Type 0) → ((f : Files) → P f → Q f) → OfFiles files P → OfFiles files Q
files-on None P Q g x = tt
files-on (Some f) P Q g x = g f x

output-by : (end : Result DoneSo DriveError) (old new : Outside) (status put : ℕ) → (end ≡ Err stop.Output → OutputFailed (moved old new)) → (IsTrue (is_some (verdict_of end)) → status ≡ 9 → OutputFailed (moved old new)) → status ≡ 9 → OutputFailed (moved old new)
output-by (Ok done) old new status put f g e = g refl e
output-by (Err stop.Memory) old new status put f g e = g refl e
output-by (Err (stop.Directory file)) old new status put f g e = g refl e
output-by (Err stop.Output) old new status put f g e = f refl
output-by (Err stop.Link) old new status put f g e = g refl e
output-by (Err stop.Ended) old new status put f g e = g refl e
output-by (Err (stop.Refused text)) old new status put f g e = g refl e
output-by (Err (stop.Peer kept)) old new status put f g e = g refl e
output-by (Err stop.TooManyInfos) old new status put f g e = g refl e
output-by (Err (stop.Requirement line name value)) old new status put f g e = g refl e
output-by (Err (stop.Plan line kind)) old new status put f g e = g refl e

module _ (place : Place) (o : Order) (old new : Outside) (status : ℕ) (r : Ran place o old new status) where
  abbrev start : Outside
  start = outside r.port r.folder old.text old.unput

  abbrev end : Outside
  end = outside new.port new.folder r.mid r.put

  wide : Wider (moved start end) (moved old new)
  wide = record { port_before = r.turns.later; port_now = same-le new.port.faults; folder_before = r.later; folder_now = same-le new.folder.faults; output_before = same-le old.unput; output_now = r.shown_later }

  wide-text : Wider (moved start end) (moved old (with_text r.mid new))
  wide-text = record { port_before = r.turns.later; port_now = same-le new.port.faults; folder_before = r.later; folder_now = same-le new.folder.faults; output_before = same-le old.unput; output_now = r.shown_later }

  drove-wider : (j : Job) (t : Dev) → Drove j start end r.course t → Drove j old (with_text r.mid new) r.course t
  drove-wider j t d = record {
    caused = caused-wider wide-text r.course.outcome j r.course.numbers t d.caused;
    left = d.left;
    prints = prints-wider wide-text j t r.course (Grew old.text r.mid) d.prints;
    wired = λ done e one. subst (λ x. LogGrew x new.port.log (IsWire j)) r.turns.log (d.wired done e one);
  }

  abbrev Over : Dev → Dev → Type 0
  Over s t = IsLed (moved start end) r.course s t × OfFiles old.folder.files (λ f. Drove (job o f s) start end r.course t)

  over : OfTold r.port.peer new.port.peer Over
  over = subst (λ x. OfTold r.port.peer new.port.peer (λ s t. IsLed (moved start end) r.course s t × OfFiles x (λ f. Drove (job o f s) start end r.course t))) r.files
      (both-on o r.folder.files r.port.peer new.port.peer (IsLed (moved start end) r.course) (λ j t. Drove j start end r.course t) r.drives.device r.drives.job)

  over-wider : (s t : Dev) → Over s t → LedOver o old (with_text r.mid new) r.course s t
  over-wider s t x = (
    led-wider wide-text r.course s t x.0,
    files-on old.folder.files (λ f. Drove (job o f s) start end r.course t) (λ f. Drove (job o f s) old (with_text r.mid new) r.course t) (λ f. drove-wider (job o f s) t) x.1,
  )

  untold-wider : new.port.peer ≡ None → TriedUntold (length r.course.numbers - 1) old new
  untold-wider e =
      let u = r.drives.untold (untold-before _ r.port.peer new.port.peer r.drives.device e) in
      record {
        faults = u.faults;
        ends = u.ends;
        all = u.all;
        failed = rose-by-wider u.faults old.port.faults r.port.faults new.port.faults new.port.faults r.turns.later (same-le new.port.faults) u.failed;
        ended = subst (λ n. RoseBy u.ends n new.port.ends) r.turns.ends u.ended;
      }

  why-output : r.course.outcome ≡ Err stop.Output → OutputFailed (moved old new)
  why-output e = output-wider wide (subst (Why o start end (length r.course.numbers)) e r.drives.why)

  last-failed : IsTrue (is_some (verdict_of r.course.outcome)) → status ≡ 9 → OutputFailed (moved old new)
  last-failed v e = rose-wider old.unput r.put new.unput new.unput r.drives.shown_later (same-le new.unput) (r.failed v e)

  pub run-ends : Led place o old new status
  run-ends = record {
    course = r.course;
    mid = r.mid;
    grows = r.drives.grows;
    turned = turned-by place old new r.port r.aimed r.drives.kept r.drives.down;
    begun = r.drives.begun;
    few = r.drives.few;
    why = why-led r.course.outcome o start end old new (length r.course.numbers) wide (aimed-unbarred old.port r.port place r.aimed)
        (untold-still _ r.port.peer new.port.peer r.drives.device) (subst (λ x. Rose x new.port.ends → Rose old.port.ends new.port.ends) (sym r.turns.ends) (λ x. x)) r.drives.why;
    untold = untold-wider;
    heard = r.drives.heard;
    device = aimed-on {R = Over} {Q = LedOver o old (with_text r.mid new) r.course} old.port r.port new.port place over-wider r.aimed over;
    shows = r.shows;
    unput = output-by r.course.outcome old new status r.put why-output last-failed;
    sound = r.drives.sound;
  }
