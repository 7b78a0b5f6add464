-- What an installation never comes to.
use Rattle.std.proofs.Common.{◌≡◌, inl, inr, ℕ, ◌<◌, ◌≤◌, Bool, true, false, Option, Some, None, List, [], ◌∷◌, ◌++◌, length, refl, sym, ap, ◌∙◌, subst, arith, length-append}
use Rattle.std.specs.Prelude.{MatchBool, Err, option_map}
use Rattle.std.specs.List.{list_any, AllByRecursion}
use Rattle.std.proofs.lemmas.List.Elements.{recursion_from_All}
use Rattle.fb_frame.specs.declared.slot.Slot.TheVariants.{B}
use Rattle.fb_frame.specs.Framing.{frame}
use Rattle.fb_frame.specs.Greeting.{handshake}
use Rattle.fb_message.specs.declared.reply.Reply.{Reply}
use Rattle.fb_message.specs.declared.reply.Reply.TheVariants.{Load}
use Rattle.fb_message.specs.CommandText.{CommandValue, spelling}
use Rattle.fb_message.specs.ReplyText.{reply_bytes, reply_of}
use Rattle.dev_model.specs.declared.device.Dev.{Dev}
use Rattle.dev_model.specs.declared.step.Step.{Step}
use Rattle.dev_model.specs.Attempts.{Left, LeftHalted, is_halted}
use Rattle.dev_model.specs.Options.{◌>>=◌, needs}
use Rattle.dev_model.specs.Partitions.{is_fastboot}
use Rattle.dev_model.specs.Steps.{run, can, apply, leaves}
use Rattle.wire_told.specs.Answered.{is_line, reply_frames}
use Rattle.wire_told.proofs.OneFrames.{length-frame}
use Rattle.fb_link.specs.Concluded.{IsUndue}
use Rattle.flash_plan.specs.Examples.{falcon}
use Rattle.flash_plan.specs.Orders.{orders}
use Rattle.flash_plan.specs.Rows.{other_steps}
use Rattle.host_driver.specs.declared.drive.Done.{Done}
use Rattle.host_driver.specs.declared.drive.DriveError.TheVariants.{Link, Refused}
use Rattle.host_driver.specs.Driven.{made, Succeeds, Spent, IsUndone}
use Rattle.host_driver.specs.Driving.{Why, Caused, Moved, Tried, MayRetry, LinkFailed}
use Rattle.host_driver.specs.HeardLast.{LogEnds, IsUndueReply, IsUndueEnd}
use Rattle.host_driver.specs.Jobs.{Order, Job, last_in}
use Rattle.host_driver.specs.Excluded.{port_of, outside_of, other_job, Excluded}
use Rattle.host_driver.proofs.CompleteLemmas.{rose-some}

line-due : (heard log : Option (List ℕ)) (kept : List ℕ) (line : Reply) → reply_of kept ≡ Some line → is_line line ≡ true → IsUndueReply (port_of heard log) kept → ⊥
line-due heard log kept line e l u = due u.undue
  where
    due : IsUndue u.command kept → ⊥
    due (inl n) = absurd cc
    due (inr r) = let same : r.0 ≡ line = cc in let n : is_line line ≡ false = subst (λ x. is_line x ≡ false) same r.2 in absurd cc

-- two frames are longer than one
two-frames : (x y z : List ℕ) (before infos : List Reply) → handshake 1 ++ frame x ≡ (handshake 1 ++ reply_frames before) ++ ((frame y ++ reply_frames infos) ++ frame x) → ⊥
two-frames x y z before infos e =
    let n = ap length e in
    let a = length-append (handshake 1) (frame x) in
    let b = length-append (handshake 1 ++ reply_frames before) ((frame y ++ reply_frames infos) ++ frame x) in
    let c = length-append (handshake 1) (reply_frames before) in
    let d = length-append (frame y ++ reply_frames infos) (frame x) in
    let f = length-append (frame y) (reply_frames infos) in
    let g = length-frame y in
    omega (arith, n, a, b, c, d, f, g)

data-due : (log : Option (List ℕ)) (count : ℕ) → IsUndueEnd (port_of (Some (handshake 1 ++ frame (reply_bytes (Load count)))) log) (reply_bytes (Load count)) → ⊥
data-due log count u = two-frames (reply_bytes (Load count)) (reply_bytes (Load u.count)) [] u.heard.0 u.infos u.heard.1

unsent : (log : Option (List ℕ)) (command : CommandValue) → spelling command ≡ None → LogEnds log command → ⊥
unsent log command e l = let s = l.1 in absurd cc

unfailed : (j : Job) (m : Moved) (t : Dev) (n : ℕ) → (LinkFailed m → ⊥) → is_fastboot j.device.mode ≡ true → 1 ≤ n → MayRetry j m t n → ⊥
unfailed j m t n h f l r = none r.1
  where
    none : Spent m.before.port m.now.port n j.device t → ⊥
    none (inl k) = h (rose-some n m.before.port m.now.port l k)
    none (inr (inl k, g)) = h k
    none (inr (inr k, g)) = absurd cc

none-left : (j : Job) (m : Moved) (t : Dev) (n : ℕ) → j.options.retries ≡ 0 → 1 ≤ n → MayRetry j m t n → ⊥
none-left j m t n e l r = let h = r.0 in omega (arith, e, l, h)

-- the last of numbers that are all below isn't the bound
last-below : (numbers : List ℕ) (bound : ℕ) → AllByRecursion (λ n. n < bound) numbers → last_in numbers ≡ Some bound → ⊥
last-below [] bound h e = absurd cc
last-below (n ∷ []) bound h e = let same : n ≡ bound = cc in let k = h.0 in omega (arith, same, k)
last-below (n ∷ k ∷ rest) bound h e = last-below (k ∷ rest) bound h.1 e

undone : (o : Option (List Step)) (numbers : List ℕ) (plan : List Step) → o ≡ Some plan → list_any leaves plan ≡ true → last_in numbers ≡ Some (length plan) → IsUndone o numbers → ⊥
undone None numbers plan e l n h = absurd cc
undone (Some other) numbers plan e l n h =
    let same : other ≡ plan = cc in
    let below = subst (λ q. IsUndone (Some q) numbers) same h l in
    last-below numbers (length plan) (recursion_from_All (λ n. n < length plan) numbers below) n

link-done : (j : Job) (m : Moved) (numbers : List ℕ) (t : Dev) (plan : List Step) → made j ≡ Some plan → list_any leaves plan ≡ true → last_in numbers ≡ Some (length plan) → Caused j m numbers t (Err Link) → ⊥
link-done j m numbers t plan e l n c = undone (made j) numbers plan e l n c.2

gives-up : (order : Order) (before now : ℕ) → 1 ≤ order.options.retries → Why order (outside_of before) (outside_of now) 1 (Err Link) → ⊥
gives-up order before now h w = let k = w.1 in omega (arith, h, k)

tries-again : (m : Moved) (a b : ℕ) (text : List ℕ) (s t : Dev) → (LinkFailed m → ⊥) → Tried m (record { numbers = a ∷ b ∷ []; outcome = Err (Refused text) }) s t → ⊥
tries-again m a b text s t h (inl r) = h (rose-some 1 m.before.port m.now.port (omega arith) r)
tries-again m a b text s t h (inr r) = absurd r.0

-- a plan of one step that was all acknowledged was taken
taken-one : (step : Step) (s u : Dev) (b : Bool) → (needs b >>= λ _. run [] (apply step s)) ≡ Some u → u ≡ apply step s
taken-one step s u true e = cc
taken-one step s u false e = absurd cc

counts-one : (step : Step) (s : Dev) (b : Bool) → is_halted s.mode ≡ b → b ≡ false → MatchBool b (LeftHalted (step ∷ []) s 1 s) (Left (step ∷ []) s 1 s) → s ≡ apply step s
counts-one step s true e f l = absurd cc
counts-one step s false e f l = l.next ∙ taken-one step s l.before (can step s) l.taken

some-steps : (x y : List Step) → ◌≡◌ {A = Option (List Step)} (Some x) (Some y) → x ≡ y
some-steps x y e = cc

made-other : made other_job ≡ Some other_steps
unfolding orders
made-other = refl

other-ends : option_map (λ (d : Dev). d.active) (run other_steps falcon) ≡ Some B
other-ends = refl

other-slot : (numbers : List ℕ) (done : Done) (t : Dev) → Succeeds other_job numbers done t → t.active ≡ B
other-slot numbers done t k =
    let plan : k.plan ≡ other_steps = some-steps k.plan other_steps (sym k.made_so ∙ made-other) in
    let runs = subst (λ q. run q falcon ≡ Some t) plan k.runs in
    let ends : Some t.active ≡ Some B = ap (option_map (λ (d : Dev). d.active)) (sym runs) ∙ other-ends in
    cc

pub excluded : Excluded
excluded = record {
  line_undue = line-due;
  data_undue = data-due;
  unsent = unsent;
  retried_unfailed = unfailed;
  retried_spent = none-left;
  success_as_link = link-done;
  gives_up_at_once = gives-up;
  tries_a_refused_step = tries-again;
  counts_an_untaken_step = λ step s f l. counts-one step s (is_halted s.mode) refl f l;
  asks_other_slot_anew = other-slot;
}
