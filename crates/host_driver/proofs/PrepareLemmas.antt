-- The questions and the plan of an attempt, joined.
use Rattle.std.proofs.Common.{◌≡◌, ℕ, ◌+◌, ◌*◌, ◌≤◌, Bool, true, false, not, ◌||◌, ◌&&◌, if◌then◌else◌, Option, Some, None, List, [], ◌∷◌, ◌++◌, length, append-nil, append_assoc, refl, sym, ap, ◌∙◌, subst, arith}
use Rattle.std.specs.Prelude.{codes, is_some, Ok, Err, IsTrue}
use Rattle.std.specs.List.{list_any, AllByRecursion}
use Rattle.fb_frame.specs.Sinks.{Grew}
use Rattle.fb_frame.specs.declared.slot.Slot.{Slot}
use Rattle.dev_model.specs.declared.device.Dev.{Dev}
use Rattle.dev_model.specs.Partitions.{has_slots}
use Rattle.dev_model.specs.Variables.{asked}
use Rattle.product_info.specs.declared.requirement.Requirement.{Requirement}
use Rattle.product_info.specs.declared.task.Task.{Task}
use Rattle.wire_told.specs.Answered.{Sound}
use Rattle.wire_told.specs.Ports.{PortTold, Drops}
use Rattle.wire_told.proofs.PortLemmas.{Kept-trans}
use Rattle.flash_plan.specs.declared.answers.Answers.{Answers}
use Rattle.flash_plan.specs.declared.answers.Part.{Part}
use Rattle.flash_plan.specs.declared.plan.Order.{Order as PlanOrder}
use Rattle.flash_plan.specs.declared.plan.PlanKind.{PlanKind}
use Rattle.flash_plan.specs.Facts.{facts_of, facts_in}
use Rattle.flash_plan.specs.Files.{Files}
use Rattle.flash_plan.specs.Orders.{orders}
use Rattle.flash_plan.specs.Plans.{work_of, steps_by}
use Rattle.flash_plan.specs.Products.{is_update, IsWhole}
use Rattle.flash_plan.specs.Questions.{questions, probes, AreAnswers}
use Rattle.flash_plan.specs.Requiring.{variable_of, meets_line, holds_all, first_unmet}
use Rattle.flash_plan.specs.Targets.{slot_of}
use Rattle.flash_plan.proofs.PlanLemmas.{plans_told}
use Rattle.fb_link.specs.Seen.{Seen, seen}
use Rattle.host_driver.specs.declared.drive.DriveError.{DriveError}
use Rattle.host_driver.specs.declared.drive.DriveError.TheVariants as stop
use Rattle.host_driver.specs.declared.questions.Traits.{Traits}
use Rattle.host_driver.specs.declared.requirements.Unmet.{Unmet}
use Rattle.host_driver.specs.Asking.{ShowsBy}
use Rattle.host_driver.specs.Deciding.{check_questions, first_judged, unmet_of, IsChecked, IsListed}
use Rattle.host_driver.specs.Driven.{IsUnmet, IsUnplanned}
use Rattle.host_driver.specs.Finding.{Tell, kind_questions, tasks_probes}
use Rattle.host_driver.specs.Jobs.{Order, job}
use Rattle.host_driver.specs.Preparing.{asks_of, MakesPlan, decide_questions, IsDecided, part_questions, IsUnmade, IsPrepared, WhyUnprepared, Unplans, ShowsAsks, IsUnprepared}
use Rattle.host_driver.specs.Printing.{joined}
use Rattle.host_driver.specs.Questioning.{OfDevice, shown_to, trait_questions, AreTraits, IsLearned, WhyUnlearned, IsUnlearned, IsFront}
use Rattle.host_driver.proofs.AlongLemmas.{told-more}
use Rattle.host_driver.proofs.QuestionLemmas.{device-any, learned-still, learned-next, unlearned-next, unlearned-as, learned-hung, memory-unlearned}

-- All questions, in three parts.
parted-by : (b u : Bool) (R P : List (List ℕ)) →
    (codes "slot-count" ∷ (if b then codes "current-slot" ∷ [] else []) ++ codes "max-download-size" ∷ (if u then codes "super-partition-name" ∷ [] else []) ++ R ++ P)
    ≡ ((codes "slot-count" ∷ (if b then codes "current-slot" ∷ [] else [])) ++ (codes "max-download-size" ∷ (if u then codes "super-partition-name" ∷ [] else [])) ++ R) ++ P
parted-by true true R P = refl
parted-by true false R P = refl
parted-by false true R P = refl
parted-by false false R P = refl

all-by : (order : Order) (dev : Dev) (c : Bool) → (order.options.force || holds_all order.product.requirements dev) ≡ c →
    questions order.product order.options dev ≡ decide_questions order dev ++ (if c then part_questions order dev else [])
all-by order dev c e =
    parted-by (has_slots dev) (list_any is_update order.product.tasks) (check_questions order.product.requirements order.options.force dev) (if order.options.force || holds_all order.product.requirements dev then part_questions order dev else [])
    ∙ ap (λ b. decide_questions order dev ++ (if b then part_questions order dev else [])) e

pub all-met : (order : Order) (dev : Dev) → IsTrue (order.options.force || holds_all order.product.requirements dev) → questions order.product order.options dev ≡ decide_questions order dev ++ part_questions order dev
all-met order dev e = all-by order dev true e

pub all-unmet : (order : Order) (dev : Dev) → (order.options.force || holds_all order.product.requirements dev) ≡ false → questions order.product order.options dev ≡ decide_questions order dev
all-unmet order dev e = all-by order dev false e ∙ append-nil (decide_questions order dev)

pub front-asked : (order : Order) (dev : Dev) → IsFront (decide_questions order dev) (questions order.product order.options dev)
front-asked order dev = record {
  more = if order.options.force || holds_all order.product.requirements dev then part_questions order dev else [];
  whole = all-by order dev (order.options.force || holds_all order.product.requirements dev) refl;
}

-- Whether each line is met is whether none is the first that isn't.
met-by : (lines : List Requirement) (dev : Dev) (o : Option Requirement) → first_unmet lines dev ≡ o → holds_all lines dev ≡ (if is_some o then false else true)
met-by [] dev None e = refl
met-by [] dev (Some line) e = absurd cc
met-by (line ∷ lines) dev o e = by (λ f. met-by lines dev o f) (meets_line dev line) refl
  where
    first : (b : Bool) → meets_line dev line ≡ b → first_unmet (line ∷ lines) dev ≡ (if not b then Some line else first_unmet lines dev)
    first b f = ap (λ c. if not c then Some line else first_unmet lines dev) f

    by : (first_unmet lines dev ≡ o → holds_all lines dev ≡ (if is_some o then false else true)) → (b : Bool) → meets_line dev line ≡ b → holds_all (line ∷ lines) dev ≡ (if is_some o then false else true)
    by more true f = ap (λ c. c && holds_all lines dev) f ∙ more (sym (first true f) ∙ e)
    by more false f = ap (λ c. c && holds_all lines dev) f ∙ ap (λ p. if is_some p then false else true) (sym (first false f) ∙ e)

checked-met : (order : Order) (dev : Dev) (b : Bool) (o : Option Requirement) → order.options.force ≡ b → first_unmet order.product.requirements dev ≡ o → None ≡ (if b then None else first_judged o dev) → IsTrue (order.options.force || holds_all order.product.requirements dev)
checked-met order dev true o e f g = ap (λ c. c || holds_all order.product.requirements dev) e
checked-met order dev false None e f g = ap (λ c. c || holds_all order.product.requirements dev) e ∙ met-by order.product.requirements dev None f
checked-met order dev false (Some line) e f g = absurd cc

-- the first line that isn't met, with what the device tells of it
record IsFirst (order : Order) (u : Unmet) (dev : Dev) : Type 0 where
  line : Requirement
  first : first_unmet order.product.requirements dev ≡ Some line
  same : u ≡ unmet_of line (asked dev (variable_of line))
  unmet : (order.options.force || holds_all order.product.requirements dev) ≡ false

checked-unmet : (order : Order) (u : Unmet) (dev : Dev) (b : Bool) (o : Option Requirement) → order.options.force ≡ b → b ≡ false → first_unmet order.product.requirements dev ≡ o → Some u ≡ (if b then None else first_judged o dev) → IsFirst order u dev
checked-unmet order u dev true o e h f g = absurd cc
checked-unmet order u dev false None e h f g = absurd cc
checked-unmet order u dev false (Some line) e h f g = record {
  line = line;
  first = f;
  same = cc;
  unmet = ap (λ c. c || holds_all order.product.requirements dev) e ∙ met-by order.product.requirements dev (Some line) f;
}

-- The requirements are decided.
abbrev updates : Order → Bool
updates order = list_any is_update order.product.tasks

pub decided : (order : Order) (traits : Traits) (a b c : Seen) → IsLearned 16416 (trait_questions (updates order)) (AreTraits (updates order) traits) a b →
    IsLearned (4104 + 4104 * length order.product.requirements) (check_questions order.product.requirements order.options.force) (IsChecked order.product.requirements order.options.force None) b c →
    IsLearned (20520 + 4104 * length order.product.requirements) (decide_questions order) (IsDecided order traits) a c
decided order traits a b c p q =
    learned-next (20520 + 4104 * length order.product.requirements) 16416 (4104 + 4104 * length order.product.requirements) (trait_questions (updates order)) (check_questions order.product.requirements order.options.force) (decide_questions order)
    (AreTraits (updates order) traits) (IsChecked order.product.requirements order.options.force None) (IsDecided order traits) a b c p q (omega arith)
    (λ s k j. (refl, record { has = k; met = checked-met order s order.options.force (first_unmet order.product.requirements s) refl refl j }))

-- what is known of an attempt that broke off in questions
why-unlearned : (order : Order) (e : DriveError) (a b : PortTold) → WhyUnlearned a b e → WhyUnprepared order a b e
why-unlearned order stop.Memory a b w = w
why-unlearned order (stop.Directory file) a b w = w
why-unlearned order stop.Output a b w = w
why-unlearned order stop.Link a b w = w
why-unlearned order stop.Ended a b w = w
why-unlearned order (stop.Refused text) a b w = w
why-unlearned order (stop.Peer kept) a b w = w
why-unlearned order stop.TooManyInfos a b w = w
why-unlearned order (stop.Requirement line name value) a b w = absurd w
why-unlearned order (stop.Plan line kind) a b w = absurd w

unplans-none : (order : Order) (e : DriveError) (a b : PortTold) (s t : Dev) → WhyUnlearned a b e → Unplans order e s t
unplans-none order stop.Memory a b s t w = tt
unplans-none order (stop.Directory file) a b s t w = tt
unplans-none order stop.Output a b s t w = tt
unplans-none order stop.Link a b s t w = tt
unplans-none order stop.Ended a b s t w = tt
unplans-none order (stop.Refused text) a b s t w = tt
unplans-none order (stop.Peer kept) a b s t w = tt
unplans-none order stop.TooManyInfos a b s t w = tt
unplans-none order (stop.Requirement line name value) a b s t w = absurd w
unplans-none order (stop.Plan line kind) a b s t w = absurd w

shows-asks : (lines : List (List ℕ)) (e : DriveError) (a b : PortTold) (x y : Option (List ℕ)) → WhyUnlearned a b e → ShowsBy lines e x y → ShowsAsks lines e x y
shows-asks lines stop.Memory a b x y w s = s
shows-asks lines (stop.Directory file) a b x y w s = s
shows-asks lines stop.Output a b x y w s = s
shows-asks lines stop.Link a b x y w s = s
shows-asks lines stop.Ended a b x y w s = s
shows-asks lines (stop.Refused text) a b x y w s = s
shows-asks lines (stop.Peer kept) a b x y w s = s
shows-asks lines stop.TooManyInfos a b x y w s = s
shows-asks lines (stop.Requirement line name value) a b x y w s = absurd w
shows-asks lines (stop.Plan line kind) a b x y w s = absurd w

pub unprepared-asked : (order : Order) (a b : Seen) (e : DriveError) → IsUnlearned (λ dev. questions order.product order.options dev) a b e → IsUnprepared order a b e
unprepared-asked order a b e p = record {
  why = why-unlearned order e a.port b.port p.why;
  still = p.still;
  unplans = told-more (λ s t. t ≡ s) (Unplans order e) (λ s t x. unplans-none order e a.port b.port s t p.why) a.port.peer b.port.peer p.still;
  shown = told-more (λ s t. ShowsBy (asks_of order s) e a.text b.text) (λ s t. ShowsAsks (asks_of order s) e a.text b.text) (λ s t x. shows-asks (asks_of order s) e a.port b.port a.text b.text p.why x) a.port.peer b.port.peer p.shown;
  grows = p.grows;
  heard = p.heard;
  down = p.down;
  sound = p.sound;
  kept = p.kept;
}

pub traits-unprepared : (order : Order) (a b : Seen) (e : DriveError) → IsUnlearned (trait_questions (updates order)) a b e → IsUnprepared order a b e
traits-unprepared order a b e p =
    unprepared-asked order a b e
    (unlearned-as (trait_questions (updates order)) (λ dev. questions order.product order.options dev) (λ dev. Unit {0}) a b e (device-any a.port.peer) p
    (λ s k. let f = front-asked order s in
    let c = check_questions order.product.requirements order.options.force s in
    record { more = c ++ f.more; whole = f.whole ∙ append_assoc (trait_questions (updates order) s) c f.more }))

pub check-unprepared : (order : Order) (traits : Traits) (a b c : Seen) (e : DriveError) → IsLearned 16416 (trait_questions (updates order)) (AreTraits (updates order) traits) a b →
    IsUnlearned (check_questions order.product.requirements order.options.force) b c e → IsUnprepared order a c e
check-unprepared order traits a b c e p q =
    unprepared-asked order a c e
    (unlearned-next 16416 (trait_questions (updates order)) (check_questions order.product.requirements order.options.force) (λ dev. questions order.product order.options dev) (AreTraits (updates order) traits) a b c e p q (λ s k. front-asked order s))

-- a requirement that isn't met
module _ (order : Order) (traits : Traits) (u : Unmet) (a b c : Seen) (p : IsLearned 16416 (trait_questions (updates order)) (AreTraits (updates order) traits) a b)
    (q : IsLearned (4104 + 4104 * length order.product.requirements) (check_questions order.product.requirements order.options.force) (IsChecked order.product.requirements order.options.force (Some u)) b c)
    (known : (order.options.force ≡ false) × IsListed order.product.requirements u) where
  undecided : IsLearned (20520 + 4104 * length order.product.requirements) (decide_questions order) (IsFirst order u) a c
  undecided =
      learned-next (20520 + 4104 * length order.product.requirements) 16416 (4104 + 4104 * length order.product.requirements) (trait_questions (updates order)) (check_questions order.product.requirements order.options.force) (decide_questions order)
      (AreTraits (updates order) traits) (IsChecked order.product.requirements order.options.force (Some u)) (IsFirst order u) a b c p q (omega arith)
      (λ s k j. (refl, checked-unmet order u s order.options.force (first_unmet order.product.requirements s) refl known.0 refl j))

  abbrev Unmeets : Dev → Dev → Type 0
  Unmeets s t = ((t ≡ s) × IsFirst order u s) × Grew a.text c.text (joined (shown_to s (decide_questions order s)))

  pub requirement-unprepared : (d : PortTold) → Drops c.port d → Sound d.peer → IsUnprepared order a (seen d c.text) (stop.Requirement u.line u.name u.value)
  requirement-unprepared d drops sound =
      let hung = learned-hung (20520 + 4104 * length order.product.requirements) (decide_questions order) (IsFirst order u) a c d undecided drops in
      record {
        why = (known.0, record { place = known.1.place; requirement = known.1.requirement; there = known.1.there; line_is = known.1.line_is; name_is = known.1.name_is });
        still = told-more Unmeets (λ s t. t ≡ s) (λ s t x. x.0.0) a.port.peer d.peer hung;
        unplans = told-more Unmeets (λ s t. (files : Files) → IsUnmet (job order files s) u.line u.name u.value t)
            (λ s t x files. let f = x.0.1 in record {
              asked_for = known.0;
              requirement = f.line;
              first = f.first;
              line_is = ap (λ (v : Unmet). v.line) f.same;
              name_is = ap (λ (v : Unmet). v.name) f.same;
              value_is = ap (λ (v : Unmet). v.value) f.same;
              same = x.0.0;
            }) a.port.peer d.peer hung;
        shown = told-more Unmeets (λ s t. Grew a.text c.text (joined (asks_of order s)))
            (λ s t x. subst (λ names. Grew a.text c.text (joined (shown_to s names))) (sym (all-unmet order s x.0.1.unmet)) x.1) a.port.peer d.peer hung;
        grows = undecided.grows;
        heard = λ h. tt;
        down = drops.down;
        sound = sound;
        kept = Kept-trans a.port c.port d undecided.kept drops.kept;
      }

-- The answers.
pub answers-learned : (order : Order) (traits : Traits) (parts : List Part) (a b : Seen) → OfDevice (AreTraits (updates order) traits) a.port.peer →
    IsLearned (8208 * length order.product.tasks) (λ dev. kind_questions (tasks_probes (slot_of order.options.slot traits.current) (work_of order.product).listed order.product.tasks dev))
    (λ dev. AllByRecursion (Tell parts dev) (tasks_probes (slot_of order.options.slot traits.current) (work_of order.product).listed order.product.tasks dev)) a b →
    IsLearned (8208 * length order.product.tasks) (part_questions order)
    (λ dev. AreAnswers (work_of order.product) order.options.slot dev (record { current = traits.current; max = traits.max; super_name = traits.super_name; parts = parts })) a b
answers-learned order traits parts a b known p =
    learned-next (8208 * length order.product.tasks) 0 (8208 * length order.product.tasks) (λ dev. [])
    (λ dev. kind_questions (tasks_probes (slot_of order.options.slot traits.current) (work_of order.product).listed order.product.tasks dev)) (part_questions order) (AreTraits (updates order) traits)
    (λ dev. AllByRecursion (Tell parts dev) (tasks_probes (slot_of order.options.slot traits.current) (work_of order.product).listed order.product.tasks dev))
    (λ dev. AreAnswers (work_of order.product) order.options.slot dev (record { current = traits.current; max = traits.max; super_name = traits.super_name; parts = parts }))
    a a b (learned-still (AreTraits (updates order) traits) a known) p (omega arith)
    (λ s k j.
    let same : tasks_probes (slot_of order.options.slot traits.current) (work_of order.product).listed order.product.tasks s ≡ probes (work_of order.product) order.options.slot (facts_of s) =
    ap (λ o. tasks_probes (slot_of order.options.slot o) (work_of order.product).listed order.product.tasks s) k.current in
    (ap kind_questions same, record { current = k.current; most = k.most; super_name = k.super_name; parts = subst (AllByRecursion (Tell parts s)) same j }))

pub answers-unlearned : (order : Order) (traits : Traits) (a b : Seen) (e : DriveError) → OfDevice (AreTraits (updates order) traits) a.port.peer →
    IsUnlearned (λ dev. kind_questions (tasks_probes (slot_of order.options.slot traits.current) (work_of order.product).listed order.product.tasks dev)) a b e → IsUnlearned (part_questions order) a b e
answers-unlearned order traits a b e known p =
    unlearned-as (λ dev. kind_questions (tasks_probes (slot_of order.options.slot traits.current) (work_of order.product).listed order.product.tasks dev)) (part_questions order) (AreTraits (updates order) traits) a b e known p
    (λ s k. record { more = []; whole = ap (λ o. kind_questions (tasks_probes (slot_of order.options.slot o) (work_of order.product).listed order.product.tasks s)) (sym k.current) ∙ sym (append-nil (kind_questions (tasks_probes (slot_of order.options.slot traits.current) (work_of order.product).listed order.product.tasks s))) })

-- The plan.
module _ (order : Order) (traits : Traits) (answers : Answers) (a b c : Seen) (whole : IsWhole order.product)
    (p : IsLearned (20520 + 4104 * length order.product.requirements) (decide_questions order) (IsDecided order traits) a b)
    (q : IsLearned (8208 * length order.product.tasks) (part_questions order) (λ dev. AreAnswers (work_of order.product) order.options.slot dev answers) b c) where
  abbrev Known : Dev → Type 0
  Known dev = IsDecided order traits dev × AreAnswers (work_of order.product) order.options.slot dev answers

  all-learned : IsLearned 4194304 (λ dev. questions order.product order.options dev) Known a c
  all-learned =
      learned-next 4194304 (20520 + 4104 * length order.product.requirements) (8208 * length order.product.tasks) (decide_questions order) (part_questions order) (λ dev. questions order.product order.options dev) (IsDecided order traits)
      (λ dev. AreAnswers (work_of order.product) order.options.slot dev answers) Known a b c p q (let few = whole.few_requirements in let tasks = whole.few_tasks in omega (arith, few, tasks)) (λ s k j. (sym (all-met order s k.met), (k, j)))

  pub prepared-by : (plan : List PlanOrder) (most : ℕ) → 131072 ≤ most → most ≡ answers.max → orders (work_of order.product) order.options (facts_in answers) ≡ Ok plan → IsPrepared order plan most a c
  prepared-by plan most large same e = record {
    large = large;
    facts = facts_in answers;
    made = e;
    told = told-more (λ s t. (t ≡ s) × Known s) (λ s t. (t ≡ s) × MakesPlan order plan most s)
        (λ s t x. (
          x.0,
          record {
            met = x.1.0.met;
            planned = sym (plans_told (work_of order.product) order.options s answers x.1.1) ∙ e;
            most_is = same ∙ x.1.1.most;
          },
        )) a.port.peer c.port.peer all-learned.told;
    serving = all-learned.serving;
    shown = all-learned.shown;
    grows = all-learned.grows;
    heard = all-learned.heard;
    log = all-learned.log;
    kept = all-learned.kept;
  }

  abbrev Hung : Dev → Dev → Type 0
  Hung s t = ((t ≡ s) × Known s) × Grew a.text c.text (joined (asks_of order s))

  unmade-plan : (line : ℕ) (kind : PlanKind) (d : PortTold) → orders (work_of order.product) order.options (facts_in answers) ≡ Err (line, kind) → Drops c.port d → Sound d.peer → IsUnprepared order a (seen d c.text) (stop.Plan line kind)
  unmade-plan line kind d e drops sound =
      let hung = learned-hung 4194304 (λ dev. questions order.product order.options dev) Known a c d all-learned drops in
      record {
        why = tt;
        still = told-more Hung (λ s t. t ≡ s) (λ s t x. x.0.0) a.port.peer d.peer hung;
        unplans = told-more Hung (λ s t. (files : Files) → IsUnplanned (job order files s) line kind t)
            (λ s t x files. record {
              unplanned = ap (steps_by files order.product) (sym (plans_told (work_of order.product) order.options s answers x.0.1.1) ∙ e);
              met = x.0.1.0.met;
              same = x.0.0;
            }) a.port.peer d.peer hung;
        shown = told-more Hung (λ s t. Grew a.text c.text (joined (asks_of order s))) (λ s t x. x.1) a.port.peer d.peer hung;
        grows = all-learned.grows;
        heard = λ h. tt;
        down = drops.down;
        sound = sound;
        kept = Kept-trans a.port c.port d all-learned.kept drops.kept;
      }

  unmade-memory : (d : PortTold) → Drops c.port d → Sound d.peer → IsUnprepared order a (seen d c.text) stop.Memory
  unmade-memory d drops sound =
      unprepared-asked order a (seen d c.text) stop.Memory
      (memory-unlearned 4194304 (λ dev. questions order.product order.options dev) (λ dev. questions order.product order.options dev) Known a c d all-learned drops sound (λ s k. record { more = []; whole = sym (append-nil (questions order.product order.options s)) }))

  pub unmade : (e : DriveError) (d : PortTold) → IsUnmade order answers e → Drops c.port d → Sound d.peer → IsUnprepared order a (seen d c.text) e
  unmade stop.Memory d u drops sound = unmade-memory d drops sound
  unmade (stop.Directory file) d u drops sound = absurd u
  unmade stop.Output d u drops sound = absurd u
  unmade stop.Link d u drops sound = absurd u
  unmade stop.Ended d u drops sound = absurd u
  unmade (stop.Refused text) d u drops sound = absurd u
  unmade (stop.Peer kept) d u drops sound = absurd u
  unmade stop.TooManyInfos d u drops sound = absurd u
  unmade (stop.Requirement line name value) d u drops sound = absurd u
  unmade (stop.Plan line kind) d u drops sound = unmade-plan line kind d u drops sound

pub unanswered : (order : Order) (traits : Traits) (a b c : Seen) (e : DriveError) → IsLearned (20520 + 4104 * length order.product.requirements) (decide_questions order) (IsDecided order traits) a b → IsUnlearned (part_questions order) b c e → IsUnprepared order a c e
unanswered order traits a b c e p q =
    unprepared-asked order a c e
    (unlearned-next (20520 + 4104 * length order.product.requirements) (decide_questions order) (part_questions order) (λ dev. questions order.product order.options dev) (IsDecided order traits) a b c e p q
    (λ s k. record { more = []; whole = all-met order s k.met ∙ sym (append-nil (decide_questions order s ++ part_questions order s)) }))

-- where no table could be read for want of memory
pub unlisted : (order : Order) (a : Seen) (d : PortTold) → Drops a.port d → Sound d.peer → IsUnlearned (part_questions order) a (seen d a.text) stop.Memory
unlisted order a d drops sound =
    memory-unlearned 0 (λ dev. []) (part_questions order) (λ dev. Unit {0}) a a d (learned-still (λ dev. Unit {0}) a (device-any a.port.peer)) drops sound (λ s k. record { more = part_questions order s; whole = refl })

-- the answers, with the slot, the listed names and the tasks said otherwise
module _ (order : Order) (traits : Traits) (slot : Option Slot) (names : List (List ℕ)) (tasks : List Task) (a b : Seen) (s : slot ≡ slot_of order.options.slot traits.current) (n : names ≡ (work_of order.product).listed) (t : tasks ≡ order.product.tasks)
    (known : OfDevice (AreTraits (updates order) traits) a.port.peer) where
  pub answers-given : (parts : List Part) → IsLearned (8208 * length tasks) (λ dev. kind_questions (tasks_probes slot names tasks dev)) (λ dev. AllByRecursion (Tell parts dev) (tasks_probes slot names tasks dev)) a b →
      IsLearned (8208 * length order.product.tasks) (part_questions order)
      (λ dev. AreAnswers (work_of order.product) order.options.slot dev (record { current = traits.current; max = traits.max; super_name = traits.super_name; parts = parts })) a b
  answers-given parts p =
      answers-learned order traits parts a b known
      (subst (λ o. IsLearned (8208 * length order.product.tasks) (λ dev. kind_questions (tasks_probes o (work_of order.product).listed order.product.tasks dev)) (λ dev. AllByRecursion (Tell parts dev) (tasks_probes o (work_of order.product).listed order.product.tasks dev)) a b) s
      (subst (λ l. IsLearned (8208 * length order.product.tasks) (λ dev. kind_questions (tasks_probes slot l order.product.tasks dev)) (λ dev. AllByRecursion (Tell parts dev) (tasks_probes slot l order.product.tasks dev)) a b) n
      (subst (λ ts. IsLearned (8208 * length ts) (λ dev. kind_questions (tasks_probes slot names ts dev)) (λ dev. AllByRecursion (Tell parts dev) (tasks_probes slot names ts dev)) a b) t p)))

  pub answers-lost : (e : DriveError) → IsUnlearned (λ dev. kind_questions (tasks_probes slot names tasks dev)) a b e → IsUnlearned (part_questions order) a b e
  answers-lost e p =
      answers-unlearned order traits a b e known
      (subst (λ o. IsUnlearned (λ dev. kind_questions (tasks_probes o (work_of order.product).listed order.product.tasks dev)) a b e) s
      (subst (λ l. IsUnlearned (λ dev. kind_questions (tasks_probes slot l order.product.tasks dev)) a b e) n
      (subst (λ ts. IsUnlearned (λ dev. kind_questions (tasks_probes slot names ts dev)) a b e) t p)))
