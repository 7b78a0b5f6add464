-- What an installation left, and the text that tells it.
use Rattle.std.proofs.Common.{◌≡◌, ◌⊎◌, inl, inr, ℕ, suc, ◌+◌, ◌≤◌, Option, Some, None, List, [], ◌∷◌, ◌++◌, length, map, take, refl, sym, ap, ◌∙◌, subst, arith}
use Rattle.std.specs.Prelude.{Result, Ok, Err}
use Rattle.std.proofs.lemmas.List.{append_assoc}
use Rattle.fb_frame.specs.Sinks.{Grew, GrewPart}
use Rattle.fb_frame.proofs.SinkLemmas.{Grew-append}
use Rattle.dev_model.specs.declared.device.Dev.{Dev}
use Rattle.dev_model.specs.declared.device.Mode.TheVariants.{Halted}
use Rattle.wire_told.specs.Places.{Place}
use Rattle.flash_plan.specs.declared.options.Options.{Options}
use Rattle.flash_plan.specs.declared.product.Product.{Product}
use Rattle.host_driver.specs.declared.drive.Done.{Done as DoneSo}
use Rattle.host_driver.specs.declared.drive.DriveError.{DriveError}
use Rattle.host_driver.specs.declared.drive.DriveError.TheVariants as stop
use Rattle.host_driver.specs.Driving.{moved, Drove, MayRetry, LinkFailed}
use Rattle.host_driver.specs.Jobs.{Outside, Job, order}
use Rattle.host_driver.specs.Printing.{Attempt, PrintsBy, IsDue, IsCutShort, steps_in, numbers_due, text_of, lines_of}
use Rattle.host_words.specs.Requests.{FlashAll}
use Rattle.host_top.specs.Ending.{IsSamePort, IsMet, IsOpened, Shows, ShowsLast, with_text, LedOver, Led}
use Rattle.host_top.specs.Hosted.{Follows, LeftBehind, IsWhole, IsCut, IsDueLine, IsLastLine}
use Rattle.host_top.specs.Verdicts.{Verdict, NoMemory, NoFolder, NoLink, Unmet, NoPlan, Refusing, NoPeer, TooManyLines, Done, last_line, verdict_of}
use Rattle.host_top.proofs.QuestionLemmas.{not-halted, aimed-told}
use Rattle.host_top.proofs.SaysLemmas.{follows-from}
use Rattle.host_top.proofs.InstalledLemmas.{ended-says, on-job}

-- how many attempts there were
length-steps : (attempts : List Attempt) → length (map steps_in attempts) ≡ length attempts
length-steps [] = refl
length-steps (a ∷ attempts) = ap (λ n. suc n) (length-steps attempts)

length-due : (attempts : List Attempt) → length (numbers_due attempts) ≡ length attempts
length-due [] = refl
length-due (a ∷ []) = refl
length-due (a ∷ b ∷ attempts) = ap (λ n. suc n) (length-due (b ∷ attempts))

-- the text
module _ (old new : Outside) (status : ℕ) (j : Job) (t : Dev) (attempts : List Attempt) where
  abbrev Text : Type 0
  Text = IsWhole (lines_of j) attempts old new status ⊎ ((status ≡ 9) × IsCut j attempts old new t)

  cut-from : (a b c : Option (List ℕ)) (v : Verdict) → IsLastLine v → old.text ≡ a → new.text ≡ c → Grew a b (text_of (lines_of j) attempts) → GrewPart b c (last_line v) → IsCut j attempts old new t
  cut-from (Some a) (Some b) (Some c) v l oa nc e p = record {
    line = last_line v;
    due = inr (inr (v, l, refl));
    n = p.count;
    short = p.fewer;
    text = subst (λ x. Grew x new.text (text_of (lines_of j) attempts ++ take p.count (last_line v))) (sym oa)
        (subst (λ x. Grew (Some a) x (text_of (lines_of j) attempts ++ take p.count (last_line v))) (sym nc)
        (p.grew ∙ (ap (λ x. x ++ take p.count (last_line v)) e ∙ append_assoc a (text_of (lines_of j) attempts) (take p.count (last_line v)))));
  }
  cut-from None None None v l oa nc e p = record {
    line = last_line NoLink;
    due = inr (inr (NoLink, record { end = Err stop.Link; tells = refl }, refl));
    n = 0;
    short = omega arith;
    text = subst (λ x. Grew x new.text (text_of (lines_of j) attempts ++ take 0 (last_line NoLink))) (sym oa)
        (subst (λ x. Grew None x (text_of (lines_of j) attempts ++ take 0 (last_line NoLink))) (sym nc) tt);
  }
  cut-from (Some a) (Some b) None v l oa nc e p = absurd p
  cut-from (Some a) None c v l oa nc e p = absurd e
  cut-from None (Some b) c v l oa nc e p = absurd e
  cut-from None None (Some c) v l oa nc e p = absurd p

  whole-from : (v : Verdict) (mid : Option (List ℕ)) → IsLastLine v → Grew old.text mid (text_of (lines_of j) attempts) → Shows v mid new.text status → Text
  whole-from v mid l g (inl p) =
      inl (record { verdict = v; last = l; status_is = p.0; text = Grew-append old.text mid new.text (text_of (lines_of j) attempts) (last_line v) g p.1 })
  whole-from v mid l g (inr p) = inr (p.0, cut-from old.text mid new.text v l refl refl g p.1)

module _ (place : Place) (dir : List ℕ) (options : Options) (product : Product) (old new : Outside) (status : ℕ) (opened : IsOpened dir (order product options) old new) (l : Led place (order product options) old new status) where
  -- the text and how many attempts there were
  abbrev Telling : Job → Dev → List Attempt → Type 0
  Telling j t attempts = Text old new status j t attempts × (length attempts ≡ length l.course.numbers)

  module _ (j : Job) (t : Dev) (attempts : List Attempt) where
    abbrev Due : List ℕ → Type 0
    Due line = IsDue (lines_of j) (MayRetry j (moved old new) t) attempts l.course.numbers line

    due-long : (line : List ℕ) → Due line → length attempts ≡ length l.course.numbers
    due-long line (inl d) = sym (ap length d.0 ∙ length-due attempts)
    due-long line (inr d) = sym (ap length d.0 ∙ length-steps attempts)

    memory-long : (l.course.numbers ≡ map steps_in attempts) ⊎ (l.course.numbers ≡ numbers_due attempts) → length attempts ≡ length l.course.numbers
    memory-long (inl e) = sym (ap length e ∙ length-steps attempts)
    memory-long (inr e) = sym (ap length e ∙ length-due attempts)

    due-line : (line : List ℕ) → Due line → IsDueLine (lines_of j) (MayRetry j (moved old new) t) attempts line
    due-line line (inl d) = inl d.1
    due-line line (inr (a, b, m, e)) = inr (inl (m, e))

    cut-short : IsCutShort Due (text_of (lines_of j) attempts) (Grew old.text l.mid) → new.text ≡ l.mid → IsCut j attempts old new t
    cut-short c e = record {
      line = c.line;
      due = due-line c.line c.due;
      n = c.n;
      short = c.short;
      text = subst (λ x. Grew old.text x (text_of (lines_of j) attempts ++ take c.n c.line)) (sym e) c.grew;
    }

    whole-told : (o : Result DoneSo DriveError) (v : Verdict) → verdict_of o ≡ Some v → (l.course.numbers ≡ map steps_in attempts) × Grew old.text l.mid (text_of (lines_of j) attempts) → Shows v l.mid new.text status → Telling j t attempts
    whole-told o v e w s = (whole-from old new status j t attempts v l.mid (record { end = o; tells = e }) w.1 s, sym (ap length w.0 ∙ length-steps attempts))

    told-at : (o : Result DoneSo DriveError) → PrintsBy (lines_of j) (MayRetry j (moved old new) t) attempts (record l.course { outcome = o }) (Grew old.text l.mid) → ShowsLast (verdict_of o) l.mid new.text status → Telling j t attempts
    told-at (Ok done) p s = whole-told (Ok done) (Done done.steps) refl p s
    told-at (Err stop.Memory) p s = (whole-from old new status j t attempts NoMemory l.mid (record { end = Err stop.Memory; tells = refl }) p.1 s, memory-long p.0)
    told-at (Err (stop.Directory file)) p s = whole-told (Err (stop.Directory file)) (NoFolder file) refl p s
    told-at (Err stop.Output) p s = (inr (s.0, cut-short p s.1), due-long p.line p.due)
    told-at (Err stop.Link) p s = whole-told (Err stop.Link) NoLink refl p s
    told-at (Err stop.Ended) p s = whole-told (Err stop.Ended) NoLink refl p s
    told-at (Err (stop.Refused text)) p s = whole-told (Err (stop.Refused text)) (Refusing text) refl p s
    told-at (Err (stop.Peer kept)) p s = whole-told (Err (stop.Peer kept)) (NoPeer kept) refl p s
    told-at (Err stop.TooManyInfos) p s = whole-told (Err stop.TooManyInfos) TooManyLines refl p s
    told-at (Err (stop.Requirement line name value)) p s = whole-told (Err (stop.Requirement line name value)) (Unmet line name value) refl p s
    told-at (Err (stop.Plan line kind)) p s = whole-told (Err (stop.Plan line kind)) (NoPlan line kind) refl p s

  left-by : (j : Job) (t : Dev) → j.options ≡ options → Drove j old (with_text l.mid new) l.course t → LeftBehind old new status j t
  left-by j t q d =
      let told = told-at j t d.prints.attempts l.course.outcome d.prints.text l.shows in
      record {
        attempts = d.prints.attempts;
        ordered = d.prints.ordered;
        few = subst (λ (o : Options). length d.prints.attempts ≤ o.retries + 1) (sym q) (subst (λ n. n ≤ options.retries + 1) (sym told.1) l.few);
        left = d.prints.left;
        text = told.0;
      }

  led-halts : (s t : Dev) → IsMet s → LedOver (order product options) old (with_text l.mid new) l.course s t → t.mode ≡ Halted → LinkFailed (moved old new) ⊎ IsSamePort old.port new.port
  led-halts s t m r e = by (r.0.halted e)
    where
      by : (s.mode ≡ Halted) ⊎ LinkFailed (moved old new) → LinkFailed (moved old new) ⊎ IsSamePort old.port new.port
      by (inl h) = absurd (not-halted s.mode m.serves h)
      by (inr h) = inl h

  pub led-follows : Follows (Some (FlashAll place dir options)) old new status
  led-follows =
      follows-from (Some (FlashAll place dir options)) old new status (ended-says place dir options product old new status opened l)
      (inr (inr (l.turned, on-job place dir options product old new status opened l (LeftBehind old new status) left-by))) l.turned.others
      (aimed-told (old.port.stands place) new.port.peer {P = λ t. t.mode ≡ Halted → LinkFailed (moved old new) ⊎ IsSamePort old.port new.port} led-halts l.device)
