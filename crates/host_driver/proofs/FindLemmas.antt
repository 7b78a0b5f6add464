-- Partitions that are asked for, name by name and task by task.
use Rattle.std.proofs.Common.{◌≡◌, ℕ, suc, ◌*◌, ◌≤◌, Bool, true, false, if◌then◌else◌, Option, Some, None, List, [], ◌∷◌, ◌++◌, length, drop, append-nil, append_assoc, refl, sym, ap, ◌∙◌, subst, arith}
use Rattle.std.specs.Prelude.{is_some, bytes_eq, option_to_list}
use Rattle.std.specs.Option.{option_or}
use Rattle.std.specs.List.{AllByRecursion}
use Rattle.std.proofs.lemmas.List.{map-append}
use Rattle.std.proofs.lemmas.Slice.Eq.{bytes_eq-Decides}
use Rattle.fb_frame.specs.declared.slot.Slot.{Slot}
use Rattle.dev_model.specs.declared.device.Dev.{Dev}
use Rattle.dev_model.specs.Repeats.{is_among}
use Rattle.product_info.specs.declared.task.Task.{Task}
use Rattle.flash_plan.specs.declared.answers.Part.{Part}
use Rattle.flash_plan.specs.Facts.{kind_of, kind_in}
use Rattle.flash_plan.specs.Targets.{found, probed, probed_by}
use Rattle.fb_link.specs.Seen.{Seen}
use Rattle.host_driver.specs.declared.drive.DriveError.{DriveError}
use Rattle.host_driver.specs.AnswerText.{kind_question}
use Rattle.host_driver.specs.Finding.{kind_questions, AreRight, Tell, Finds, is_found, IsSought, task_probes, tasks_probes}
use Rattle.host_driver.specs.Questioning.{IsLearned, IsUnlearned, IsFront}
use Rattle.host_driver.proofs.QuestionLemmas.{device-any, learned-still, learned-next, learned-as, unlearned-next, unlearned-as}

-- What parts tell, with one more at the end.
kind-pushed : (old : List Part) (part : Part) (name : List ℕ) → kind_in (old ++ part ∷ []) name ≡ option_or (kind_in old name) (if bytes_eq part.name name then Some part.logical else None)
kind-pushed [] part name = refl
kind-pushed (p ∷ old) part name = by (kind-pushed old part name) (bytes_eq p.name name)
  where
    by : kind_in (old ++ part ∷ []) name ≡ option_or (kind_in old name) (if bytes_eq part.name name then Some part.logical else None) → (b : Bool) → (if b then Some p.logical else kind_in (old ++ part ∷ []) name) ≡ option_or (if b then Some p.logical else kind_in old name) (if bytes_eq part.name name then Some part.logical else None)
    by more true = refl
    by more false = more

module _ (old : List Part) (part : Part) (dev : Dev) (so : kind_of dev part.name ≡ Some part.logical) where
  pushed : List Part
  pushed = old ++ part ∷ []

  same-name : (name : List ℕ) → bytes_eq part.name name ≡ true → part.name ≡ name
  same-name name e = (bytes_eq-Decides part.name name).0 e

  pushed-right : AreRight old dev → (name : List ℕ) (o : Option Bool) (b : Bool) (logical : Bool) → kind_in old name ≡ o → bytes_eq part.name name ≡ b → option_or o (if b then Some part.logical else None) ≡ Some logical → kind_of dev name ≡ Some logical
  pushed-right right name (Some k) b logical e f g = right name logical (e ∙ g)
  pushed-right right name None true logical e f g = sym (ap (kind_of dev) (same-name name f)) ∙ (so ∙ g)
  pushed-right right name None false logical e f g = absurd cc

  pushed-keeps : (name : List ℕ) (o : Option Bool) (b : Bool) → kind_in old name ≡ o → o ≡ kind_of dev name → bytes_eq part.name name ≡ b → option_or o (if b then Some part.logical else None) ≡ kind_of dev name
  pushed-keeps name (Some l) b e k f = k
  pushed-keeps name None true e k f = sym so ∙ ap (kind_of dev) (same-name name f)
  pushed-keeps name None false e k f = k

  right-kind : AreRight old dev → (o : Option Bool) → kind_in old part.name ≡ o → option_or o (Some part.logical) ≡ kind_of dev part.name
  right-kind right (Some k) e = sym (right part.name k e)
  right-kind right None e = sym so

  pub found-new : Finds (part.name ∷ []) old (old ++ part ∷ []) dev
  found-new right = record {
    right = λ name logical e. pushed-right right name (kind_in old name) (bytes_eq part.name name) logical refl refl (sym (kind-pushed old part name) ∙ e);
    keep = λ name k. kind-pushed old part name ∙ pushed-keeps name (kind_in old name) (bytes_eq part.name name) refl k refl;
    know = (kind-pushed old part part.name ∙ (ap (λ b. option_or (kind_in old part.name) (if b then Some part.logical else None)) ((bytes_eq-Decides part.name part.name).1 refl) ∙ right-kind right (kind_in old part.name) refl), tt);
  }

no-kind : (old : List Part) (name : List ℕ) (dev : Dev) (o : Option Bool) → AreRight old dev → kind_of dev name ≡ None → kind_in old name ≡ o → o ≡ None
no-kind old name dev None right e f = refl
no-kind old name dev (Some k) right e f = absurd (let g = sym e ∙ right name k f in cc)

pub found-none : (old : List Part) (name : List ℕ) (dev : Dev) → kind_of dev name ≡ None → Finds (name ∷ []) old old dev
found-none old name dev e right = record {
  right = right;
  keep = λ n k. k;
  know = (no-kind old name dev (kind_in old name) right e refl ∙ sym e, tt);
}

pub finds-nothing : (old : List Part) (dev : Dev) → Finds [] old old dev
finds-nothing old dev right = record { right = right; keep = λ n k. k; know = tt }

all-kept : (old new : List Part) (dev : Dev) → ((name : List ℕ) → Tell old dev name → Tell new dev name) → (names more : List (List ℕ)) → AllByRecursion (Tell old dev) names → AllByRecursion (Tell new dev) more → AllByRecursion (Tell new dev) (names ++ more)
all-kept old new dev keep [] more h k = k
all-kept old new dev keep (name ∷ names) more h k = (keep name h.0, all-kept old new dev keep names more h.1 k)

pub finds-then : (xs ys : List (List ℕ)) (a b c : List Part) (dev : Dev) → Finds xs a b dev → Finds ys b c dev → Finds (xs ++ ys) a c dev
finds-then xs ys a b c dev p q right =
    let first = p right in
    let next = q first.right in
    record { right = next.right; keep = λ n k. next.keep n (first.keep n k); know = all-kept b c dev next.keep xs ys first.know next.know }

-- One name.
sought-none : (listed : List (List ℕ)) (name : List ℕ) (dev : Dev) (c : Bool) → kind_of dev name ≡ None → is_among listed name ≡ c → c ≡ is_some (found (kind_of dev) listed name)
sought-none listed name dev true e f = sym (ap is_some (ap (λ o. option_or o (if is_among listed name then Some true else None)) e ∙ ap (λ b. if b then Some true else None) f))
sought-none listed name dev false e f = sym (ap is_some (ap (λ o. option_or o (if is_among listed name then Some true else None)) e ∙ ap (λ b. if b then Some true else None) f))

pub name-none : (listed : List (List ℕ)) (name : List ℕ) (old : List Part) (among : Bool) (a b : Seen) → among ≡ is_among listed name → IsLearned 4104 (λ dev. kind_question name ∷ []) (λ dev. None ≡ kind_of dev name) a b →
    IsLearned 4104 (λ dev. kind_questions (option_to_list (Some name))) (λ dev. IsSought listed (Some name) among dev (λ names dev. Finds names old old dev)) a b
name-none listed name old among a b m p =
    learned-as 4104 4104 (λ dev. kind_question name ∷ []) (λ dev. kind_questions (option_to_list (Some name))) (λ dev. None ≡ kind_of dev name) (λ dev. IsSought listed (Some name) among dev (λ names dev. Finds names old old dev)) a b p (omega arith)
    (λ s k. (refl, record { kept = found-none old name s (sym k); found_so = sought-none listed name s among (sym k) (sym m) }))

pub name-some : (listed : List (List ℕ)) (part : Part) (old new : List Part) (a b : Seen) → new ≡ old ++ part ∷ [] → IsLearned 4104 (λ dev. kind_question part.name ∷ []) (λ dev. Some part.logical ≡ kind_of dev part.name) a b →
    IsLearned 4104 (λ dev. kind_questions (option_to_list (Some part.name))) (λ dev. IsSought listed (Some part.name) true dev (λ names dev. Finds names old new dev)) a b
name-some listed part old new a b n p =
    learned-as 4104 4104 (λ dev. kind_question part.name ∷ []) (λ dev. kind_questions (option_to_list (Some part.name))) (λ dev. Some part.logical ≡ kind_of dev part.name)
    (λ dev. IsSought listed (Some part.name) true dev (λ names dev. Finds names old new dev)) a b p (omega arith)
    (λ s k. (
      refl,
      record {
        kept = subst (λ ps. Finds (part.name ∷ []) old ps s) (sym n) (found-new old part s (sym k));
        found_so = ap (λ o. is_some (option_or o (if is_among listed part.name then Some true else None))) k;
      },
    ))

pub name-missing : (listed : List (List ℕ)) (old : List Part) (a : Seen) → IsLearned 4104 (λ dev. kind_questions (option_to_list None)) (λ dev. IsSought listed None false dev (λ names dev. Finds names old old dev)) a a
name-missing listed old a =
    learned-as 0 4104 (λ dev. []) (λ dev. kind_questions (option_to_list None)) (λ dev. Unit {0}) (λ dev. IsSought listed None false dev (λ names dev. Finds names old old dev)) a a (learned-still (λ dev. Unit {0}) a (device-any a.port.peer)) (omega arith)
    (λ s k. (refl, record { kept = finds-nothing old s; found_so = refl }))

-- The candidates of a task.
one-probed : (kind : List ℕ → Option Bool) (listed : List (List ℕ)) (second : Option (List ℕ)) → probed kind listed (option_to_list second) ≡ option_to_list second
one-probed kind listed None = refl
one-probed kind listed (Some m) = by (found kind listed m)
  where
    by : (o : Option Bool) → probed_by m o [] ≡ m ∷ []
    by (Some k) = refl
    by None = refl

probed-first : (listed : List (List ℕ)) (first second : Option (List ℕ)) (dev : Dev) → true ≡ is_found listed first dev → probed (kind_of dev) listed (option_to_list first ++ option_to_list second) ≡ option_to_list first
probed-first listed None second dev e = absurd cc
probed-first listed (Some n) second dev e = by (found (kind_of dev) listed n) e
  where
    by : (o : Option Bool) → true ≡ is_some o → probed_by n o (probed (kind_of dev) listed (option_to_list second)) ≡ n ∷ []
    by (Some k) e = refl
    by None e = absurd cc

probed-both : (listed : List (List ℕ)) (first second : Option (List ℕ)) (dev : Dev) → false ≡ is_found listed first dev → probed (kind_of dev) listed (option_to_list first ++ option_to_list second) ≡ option_to_list first ++ option_to_list second
probed-both listed None second dev e = one-probed (kind_of dev) listed second
probed-both listed (Some n) second dev e = by (found (kind_of dev) listed n) e
  where
    by : (o : Option Bool) → false ≡ is_some o → probed_by n o (probed (kind_of dev) listed (option_to_list second)) ≡ n ∷ option_to_list second
    by (Some k) e = absurd cc
    by None e = ap (λ names. n ∷ names) (one-probed (kind_of dev) listed second)

front-probed : (listed : List (List ℕ)) (first second : Option (List ℕ)) (dev : Dev) → IsFront (kind_questions (option_to_list first)) (kind_questions (probed (kind_of dev) listed (option_to_list first ++ option_to_list second)))
front-probed listed None second dev = record { more = kind_questions (probed (kind_of dev) listed (option_to_list second)); whole = refl }
front-probed listed (Some n) second dev = by (found (kind_of dev) listed n)
  where
    by : (o : Option Bool) → IsFront (kind_question n ∷ []) (kind_questions (probed_by n o (probed (kind_of dev) listed (option_to_list second))))
    by (Some k) = record { more = []; whole = refl }
    by None = record { more = kind_questions (probed (kind_of dev) listed (option_to_list second)); whole = refl }

module _ (listed : List (List ℕ)) (first second : Option (List ℕ)) where
  abbrev all : Dev → List (List ℕ)
  all dev = probed (kind_of dev) listed (option_to_list first ++ option_to_list second)

  pub candidates-first : (seek : Bool) (old new : List Part) (a b : Seen) → seek ≡ true → IsLearned 4104 (λ dev. kind_questions (option_to_list first)) (λ dev. IsSought listed first seek dev (λ names dev. Finds names old new dev)) a b →
      IsLearned 8208 (λ dev. kind_questions (all dev)) (λ dev. Finds (all dev) old new dev) a b
  candidates-first seek old new a b e p =
      learned-as 4104 8208 (λ dev. kind_questions (option_to_list first)) (λ dev. kind_questions (all dev)) (λ dev. IsSought listed first seek dev (λ names dev. Finds names old new dev)) (λ dev. Finds (all dev) old new dev) a b p (omega arith)
      (λ s k.
      let same = probed-first listed first second s (sym e ∙ k.found_so) in
      (ap kind_questions (sym same), subst (λ names. Finds names old new s) (sym same) k.kept))

  pub candidates-both : (seek last : Bool) (old middle new : List Part) (a b c : Seen) → seek ≡ false → IsLearned 4104 (λ dev. kind_questions (option_to_list first)) (λ dev. IsSought listed first seek dev (λ names dev. Finds names old middle dev)) a b →
      IsLearned 4104 (λ dev. kind_questions (option_to_list second)) (λ dev. IsSought listed second last dev (λ names dev. Finds names middle new dev)) b c → IsLearned 8208 (λ dev. kind_questions (all dev)) (λ dev. Finds (all dev) old new dev) a c
  candidates-both seek last old middle new a b c e p q =
      learned-next 8208 4104 4104 (λ dev. kind_questions (option_to_list first)) (λ dev. kind_questions (option_to_list second)) (λ dev. kind_questions (all dev)) (λ dev. IsSought listed first seek dev (λ names dev. Finds names old middle dev))
      (λ dev. IsSought listed second last dev (λ names dev. Finds names middle new dev)) (λ dev. Finds (all dev) old new dev) a b c p q (omega arith)
      (λ s k j.
      let same = probed-both listed first second s (sym e ∙ k.found_so) in (
        sym (map-append kind_question (option_to_list first) (option_to_list second)) ∙ ap kind_questions (sym same),
        subst (λ names. Finds names old new s) (sym same) (finds-then (option_to_list first) (option_to_list second) old middle new s k.kept j.kept),
      ))

  pub candidates-unasked : (a b : Seen) (error : DriveError) → IsUnlearned (λ dev. kind_questions (option_to_list first)) a b error → IsUnlearned (λ dev. kind_questions (all dev)) a b error
  candidates-unasked a b error p =
      unlearned-as (λ dev. kind_questions (option_to_list first)) (λ dev. kind_questions (all dev)) (λ dev. Unit {0}) a b error (device-any a.port.peer) p (λ s k. front-probed listed first second s)

  pub candidates-broken : (seek : Bool) (old new : List Part) (a b c : Seen) (error : DriveError) → seek ≡ false → IsLearned 4104 (λ dev. kind_questions (option_to_list first)) (λ dev. IsSought listed first seek dev (λ names dev. Finds names old new dev)) a b →
      IsUnlearned (λ dev. kind_questions (option_to_list second)) b c error → IsUnlearned (λ dev. kind_questions (all dev)) a c error
  candidates-broken seek old new a b c error e p q =
      unlearned-next 4104 (λ dev. kind_questions (option_to_list first)) (λ dev. kind_questions (option_to_list second)) (λ dev. kind_questions (all dev)) (λ dev. IsSought listed first seek dev (λ names dev. Finds names old new dev)) a b c error p q
      (λ s k.
      let same = probed-both listed first second s (sym e ∙ k.found_so) in
      record { more = []; whole = ap kind_questions same ∙ (map-append kind_question (option_to_list first) (option_to_list second) ∙ sym (append-nil (kind_questions (option_to_list first) ++ kind_questions (option_to_list second)))) })

-- A task for which nothing is asked.
pub task-unasked : (parts : List Part) (a : Seen) → IsLearned 8208 (λ dev. []) (λ dev. Finds [] parts parts dev) a a
task-unasked parts a =
    learned-as 0 8208 (λ dev. []) (λ dev. []) (λ dev. Unit {0}) (λ dev. Finds [] parts parts dev) a a (learned-still (λ dev. Unit {0}) a (device-any a.port.peer)) (omega arith) (λ s k. (refl, finds-nothing parts s))

-- Tasks one after another: these partitions were asked for those before.
module _ (slot : Option Slot) (listed : List (List ℕ)) (tasks : List Task) where
  abbrev Rest : List Task → List Part → (Dev → List (List ℕ)) → Dev → Type 0
  Rest rest parts names dev = (names dev ++ tasks_probes slot listed rest dev ≡ tasks_probes slot listed tasks dev) × Finds (names dev) [] parts dev

  pub record TasksLeft (i : ℕ) (parts : List Part) (a b : Seen) : Type 0 where
    pub names : Dev → List (List ℕ)
    pub learned : IsLearned (8208 * i) (λ dev. kind_questions (names dev)) (Rest (drop i tasks) parts names) a b

  pub tasks-begun : (parts : List Part) (a : Seen) → parts ≡ [] → TasksLeft 0 parts a a
  tasks-begun parts a e = record {
    names = λ dev. [];
    learned = learned-as 0 (8208 * 0) (λ dev. []) (λ dev. []) (λ dev. Unit {0}) (Rest tasks parts (λ dev. [])) a a (learned-still (λ dev. Unit {0}) a (device-any a.port.peer)) (omega arith)
        (λ s k. (refl, (refl, subst (λ ps. Finds [] [] ps s) (sym e) (finds-nothing [] s))));
  }

  module _ (i : ℕ) (task : Task) (parts : List Part) (a b c : Seen) (p : TasksLeft i parts a b) (next : drop i tasks ≡ task ∷ drop (suc i) tasks) where
    probes : Dev → List (List ℕ)
    probes dev = task_probes slot listed task.action dev

    later : Dev → List (List ℕ)
    later dev = tasks_probes slot listed (drop (suc i) tasks) dev

    whole : (s : Dev) → Rest (drop i tasks) parts p.names s → p.names s ++ (probes s ++ later s) ≡ tasks_probes slot listed tasks s
    unfolding probes later
    whole s k = ap (λ ts. p.names s ++ tasks_probes slot listed ts s) (sym next) ∙ k.0

    pub tasks-next : (new : List Part) → IsLearned 8208 (λ dev. kind_questions (task_probes slot listed task.action dev)) (λ dev. Finds (task_probes slot listed task.action dev) parts new dev) b c → TasksLeft (suc i) new a c
    unfolding probes later
    tasks-next new q = record {
      names = λ dev. p.names dev ++ task_probes slot listed task.action dev;
      learned = learned-next (8208 * suc i) (8208 * i) 8208 (λ dev. kind_questions (p.names dev)) (λ dev. kind_questions (task_probes slot listed task.action dev)) (λ dev. kind_questions (p.names dev ++ task_probes slot listed task.action dev))
          (Rest (drop i tasks) parts p.names) (λ dev. Finds (task_probes slot listed task.action dev) parts new dev) (Rest (drop (suc i) tasks) new (λ dev. p.names dev ++ task_probes slot listed task.action dev)) a b c p.learned q (omega arith)
          (λ s k j. (
            sym (map-append kind_question (p.names s) (task_probes slot listed task.action s)),
            (append_assoc (p.names s) (task_probes slot listed task.action s) (tasks_probes slot listed (drop (suc i) tasks) s) ∙ whole s k, finds-then (p.names s) (task_probes slot listed task.action s) [] parts new s k.1 j),
          ));
    }

    pub tasks-broken : (error : DriveError) → IsUnlearned (λ dev. kind_questions (task_probes slot listed task.action dev)) b c error → IsUnlearned (λ dev. kind_questions (tasks_probes slot listed tasks dev)) a c error
    unfolding probes later
    tasks-broken error q =
        unlearned-next (8208 * i) (λ dev. kind_questions (p.names dev)) (λ dev. kind_questions (task_probes slot listed task.action dev)) (λ dev. kind_questions (tasks_probes slot listed tasks dev)) (Rest (drop i tasks) parts p.names) a b c error p.learned q
        (λ s k. record {
          more = kind_questions (tasks_probes slot listed (drop (suc i) tasks) s);
          whole = ap kind_questions (sym (whole s k) ∙ sym (append_assoc (p.names s) (task_probes slot listed task.action s) (tasks_probes slot listed (drop (suc i) tasks) s)))
              ∙ (map-append kind_question (p.names s ++ task_probes slot listed task.action s) (tasks_probes slot listed (drop (suc i) tasks) s)
              ∙ ap (λ n. n ++ kind_questions (tasks_probes slot listed (drop (suc i) tasks) s)) (map-append kind_question (p.names s) (task_probes slot listed task.action s)));
        })

  pub tasks-done : (i : ℕ) (parts : List Part) (a b : Seen) → TasksLeft i parts a b → drop i tasks ≡ [] → i ≤ length tasks →
      IsLearned (8208 * length tasks) (λ dev. kind_questions (tasks_probes slot listed tasks dev)) (λ dev. AllByRecursion (Tell parts dev) (tasks_probes slot listed tasks dev)) a b
  tasks-done i parts a b p end within =
      learned-as (8208 * i) (8208 * length tasks) (λ dev. kind_questions (p.names dev)) (λ dev. kind_questions (tasks_probes slot listed tasks dev)) (Rest (drop i tasks) parts p.names) (λ dev. AllByRecursion (Tell parts dev) (tasks_probes slot listed tasks dev)) a b
      p.learned (omega (arith, within))
      (λ s k.
      let same : p.names s ≡ tasks_probes slot listed tasks s = sym (append-nil (p.names s)) ∙ (ap (λ ts. p.names s ++ tasks_probes slot listed ts s) (sym end) ∙ k.0) in
      (ap kind_questions same, subst (AllByRecursion (Tell parts s)) same (k.1 (λ name logical e. absurd cc)).know))
