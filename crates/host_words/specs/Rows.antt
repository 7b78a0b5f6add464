-- Worked examples: what words ask for.
use Rattle.std.specs.Prelude.{◌≡◌, true, [], ◌∷◌, Some, None, codes}
use Rattle.fb_frame.specs.declared.slot.Slot.TheVariants.{B}
use Rattle.flash_plan.specs.declared.options.Options.{Options}
use Rattle.flash_plan.specs.declared.options.SlotChoice.TheVariants.{Is}
use Rattle.wire_told.specs.Places.{ImageAt, TcpAt}
use Rattle.host_words.specs.Requests.{FlashAll, GetVar, Sample}
use Rattle.host_words.specs.Words.{host_words, usual_options}

abbrev pub full : Options
full = record { slot = Is B; wipe = true; skip_reboot = true; force = true; retries = 9 }

pub record Rows : Type 0 where
  pub none : host_words []
      ≡ None
  pub flash : host_words (codes "-s" ∷ codes "image:DEV" ∷ codes "flashall" ∷ codes "DIR" ∷ [])
      ≡ Some (FlashAll (ImageAt (codes "DEV")) (codes "DIR") usual_options)
  pub all : host_words
      (codes "-s" ∷ codes "tcp:host:80" ∷ codes "--slot" ∷ codes "b" ∷ codes "-w"
      ∷ codes "--skip-reboot" ∷ codes "--force" ∷ codes "--retries" ∷ codes "9" ∷ codes "flashall"
      ∷ codes "DIR" ∷ [])
      ≡ Some (FlashAll (TcpAt (codes "host") 80) (codes "DIR") full)
  pub question : host_words (codes "-s" ∷ codes "tcp:host" ∷ codes "getvar" ∷ codes "all" ∷ [])
      ≡ Some (GetVar (TcpAt (codes "host") 5554) (codes "all"))
  pub drawn : host_words (codes "sample" ∷ codes "1" ∷ [])
      ≡ Some (Sample 1)
  pub retries : host_words
      (codes "-s" ∷ codes "image:DEV" ∷ codes "--retries" ∷ codes "10" ∷ codes "flashall" ∷ codes "DIR" ∷ [])
      ≡ None
  pub zeros : host_words
      (codes "-s" ∷ codes "image:DEV" ∷ codes "--retries" ∷ codes "01" ∷ codes "flashall" ∷ codes "DIR" ∷ [])
      ≡ None
  pub slot : host_words
      (codes "-s" ∷ codes "image:DEV" ∷ codes "--slot" ∷ codes "c" ∷ codes "flashall" ∷ codes "DIR" ∷ [])
      ≡ None
  pub no_target : host_words (codes "flashall" ∷ codes "DIR" ∷ [])
      ≡ None
  pub no_file : host_words (codes "-s" ∷ codes "image:" ∷ codes "flashall" ∷ codes "DIR" ∷ [])
      ≡ None
  pub port : host_words (codes "-s" ∷ codes "tcp:host:0" ∷ codes "flashall" ∷ codes "DIR" ∷ [])
      ≡ None
  pub wiped : host_words (codes "-s" ∷ codes "image:DEV" ∷ codes "-w" ∷ codes "getvar" ∷ codes "all" ∷ [])
      ≡ None
  pub targeted : host_words (codes "-s" ∷ codes "image:DEV" ∷ codes "sample" ∷ codes "1" ∷ [])
      ≡ None
  pub action : host_words (codes "-s" ∷ codes "image:DEV" ∷ codes "erase" ∷ codes "boot" ∷ [])
      ≡ None
  pub more : host_words (codes "-s" ∷ codes "image:DEV" ∷ codes "flashall" ∷ codes "DIR" ∷ codes "DIR" ∷ [])
      ≡ None
  pub twice : host_words
      (codes "-w" ∷ codes "-w" ∷ codes "-s" ∷ codes "image:DEV" ∷ codes "flashall" ∷ codes "DIR" ∷ [])
      ≡ None
  pub help : host_words (codes "--help" ∷ [])
      ≡ None
