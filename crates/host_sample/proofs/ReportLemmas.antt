-- What an installation in memory reports, and over which device.
use Rattle.std.proofs.Common.{◌≡◌, ℕ, ◌+◌, ◌≤◌, Bool, true, false, List, [], ◌∷◌, ◌++◌, length, take, Option, Some, None, refl, sym, ap, subst, ◌∙◌, arith, append-nil}
use Rattle.std.specs.Prelude.{Result, Ok, Err, IsTrue}
use Rattle.std.proofs.lemmas.List.{take_all, length-map}
use Rattle.fb_frame.specs.Sinks.{Grew}
use Rattle.dev_model.specs.declared.device.Dev.{Dev}
use Rattle.dev_model.specs.declared.step.Step.{Step}
use Rattle.dev_disk.specs.Files.{Files as Images}
use Rattle.dev_store.specs.declared.layout.LayoutError.{LayoutError}
use Rattle.dev_store.specs.LayoutLines.{lines, entry_of}
use Rattle.dev_store.specs.Layouts.{LayoutValue, layout_of}
use Rattle.dev_store.specs.NewDevice.{new_device}
use Rattle.dev_store.specs.Opening.{MadeIn}
use Rattle.wire_told.specs.Places.{Device}
use Rattle.flash_plan.specs.declared.product.Product.{Product}
use Rattle.flash_plan.specs.Files.{Files}
use Rattle.flash_plan.specs.Moves.{PlanFault}
use Rattle.flash_plan.specs.Plans.{steps_by, steps_of}
use Rattle.flash_plan.specs.Products.{product_of}
use Rattle.flash_plan.specs.declared.plan.Order.{Order}
use Rattle.host_driver.specs.Driven.{is_met, planned}
use Rattle.host_driver.specs.Jobs.{Has, last_in}
use Rattle.host_driver.specs.Printing.{Lines, Attempt, Asking, Asked, Again, in_order, is_answered, steps_in, text_of, lines_by, lines_of, joined}
use Rattle.host_driver.proofs.CompleteLemmas.{made-plan}
use Rattle.host_words.specs.Words.{usual_options}
use Rattle.host_top.specs.Verdicts.{Done, last_line}
use Rattle.host_memory.specs.Rehearsals.{scene, IsInstalled as IsRehearsed}
use Rattle.pair_port.specs.Pairs.{stand_in, stand_by}
use Rattle.sample_product.specs.Products.{layout_text, IsSampleProduct}
use Rattle.host_sample.specs.Samples.{image_path, HoldsSample, IsSampleDevice, IsReported}

is-taken : Result LayoutValue LayoutError → Bool
is-taken (Ok layout) = true
is-taken (Err bad) = false

taken : is-taken (layout_of layout_text) ≡ true
unfolding layout_of lines entry_of is-taken
taken = refl

-- the layout's text is taken
pub never-bad : (bad : LayoutError) → layout_of layout_text ≡ Err bad → ⊥
unfolding is-taken
never-bad bad e = let t = sym (ap is-taken e) ∙ taken in absurd cc

-- the device that the new image stands for
new-stands : (layout : LayoutValue) (file : Option (List ℕ)) (device : Dev) → MadeIn layout true file → stand_in file ≡ Device device → device ≡ new_device layout true
new-stands layout None device m e = absurd m
new-stands layout (Some file) device m e = let t = sym e ∙ ap stand_by m.stands in cc

is-device : (files : Images) (device : Dev) → HoldsSample files → stand_in (files image_path) ≡ Device device → IsSampleDevice device
is-device files device h e = record { layout = h.layout; laid = h.laid; is = new-stands h.layout (files image_path) device h.made e }

-- there is a line for each step
lines-long : (sizes : List ℕ) (files : Files) (product : Product) (found : Result (List Order) PlanFault) (plan : List Step) → steps_by files product found ≡ Ok plan → length (lines_by sizes found) ≡ length plan
lines-long sizes files product (Err fault) plan e = absurd cc
lines-long sizes files product (Ok orders) plan e =
    let p : steps_of files product orders ≡ plan = cc in
    length-map orders _ ∙ sym (length-map orders _) ∙ ap length p

-- the text of one attempt in which all steps were printed
one-attempt : (lines : Lines) (n : ℕ) (attempts : List Attempt) → in_order false attempts ≡ true → length attempts ≤ 1 → Has (last_in attempts) (λ a. IsTrue (is_answered a) × (steps_in a ≡ n)) → length lines.steps ≡ n
    → text_of lines attempts ≡ joined lines.asks ++ joined lines.steps
one-attempt lines n [] o f h l = absurd h
one-attempt lines n (Asking m ∷ []) o f h l = let t = h.0 in absurd cc
one-attempt lines n (Asked m ∷ []) o f h l =
    append-nil (joined lines.asks ++ joined (take m lines.steps))
    ∙ ap (λ steps. joined lines.asks ++ joined steps) (take_all m lines.steps (omega (arith, h.1, l)))
one-attempt lines n (Again m ∷ []) o f h l = absurd cc
one-attempt lines n (a ∷ b ∷ rest) o f h l = let t : ⊥ = omega (arith, f) in absurd t

-- what a rehearsal says of a sample
pub reported : (number : ℕ) (files : Files) (before after : Images) (text now : Option (List ℕ)) → IsSampleProduct number files → HoldsSample before
    → IsRehearsed image_path usual_options (scene files before after text now) → IsReported number after text now
reported number files before after text now product holds i =
    let j = i.j in
    let r = i.reported in
    let long = lines-long _ j.files j.product _ i.plan (made-plan (is_met j) (planned j) i.plan i.made_so) in
    let few : length r.attempts ≤ 1 = subst (λ o. length r.attempts ≤ o.retries + 1) i.is_job.asked r.few in
    let one = one-attempt (lines_of j) (length i.plan) r.attempts r.ordered few r.last long in
    record {
      j = j;
      final = i.final;
      installed = record {
        product = λ name. ap (λ files. files name) (sym i.is_job.files) ∙ product name;
        read = ap (λ o. product_of j.files o.wipe) (sym i.is_job.asked) ∙ i.is_job.read;
        options = i.is_job.asked;
        device = is-device before j.device holds i.is_job.stood;
        plan = i.plan;
        made_so = i.made_so;
        runs = i.runs;
      };
      stands = i.stands;
      printed = subst (λ t. Grew text now (t ++ last_line (Done (length i.plan)))) one r.text;
    }
