-- Worked examples: what words ask for.
use Rattle.std.specs.Prelude.{◌≡◌, true, false, [], ◌∷◌, Some, None, codes}
use Rattle.device_words.specs.declared.request.DeviceWords.TheVariants.{Make, Show, Unlock, Serve}
use Rattle.device_words.specs.Words.{device_words}

pub record Rows : Type 0 where
  pub none : device_words []
      ≡ None
  pub made : device_words (codes "make" ∷ codes "LAYOUT" ∷ codes "DEV" ∷ [])
      ≡ Some (Make (codes "LAYOUT") (codes "DEV") false)
  pub unlocked : device_words (codes "make" ∷ codes "LAYOUT" ∷ codes "DEV" ∷ codes "--unlocked" ∷ [])
      ≡ Some (Make (codes "LAYOUT") (codes "DEV") true)
  pub shown : device_words (codes "show" ∷ codes "DEV" ∷ [])
      ≡ Some (Show (codes "DEV"))
  pub freed : device_words (codes "unlock" ∷ codes "DEV" ∷ [])
      ≡ Some (Unlock (codes "DEV"))
  pub served : device_words (codes "serve" ∷ codes "DEV" ∷ [])
      ≡ Some (Serve (codes "DEV") 5554 16)
  pub least : device_words
      (codes "serve" ∷ codes "--port" ∷ codes "1" ∷ codes "DEV" ∷ codes "--connections=1" ∷ [])
      ≡ Some (Serve (codes "DEV") 1 1)
  pub most : device_words
      (codes "--port" ∷ codes "65535" ∷ codes "--connections" ∷ codes "65535" ∷ codes "serve" ∷ codes "DEV"
      ∷ [])
      ≡ Some (Serve (codes "DEV") 65535 65535)
  pub no_port : device_words (codes "serve" ∷ codes "DEV" ∷ codes "--port" ∷ codes "0" ∷ [])
      ≡ None
  pub port : device_words (codes "serve" ∷ codes "DEV" ∷ codes "--port" ∷ codes "65536" ∷ [])
      ≡ None
  pub no_connections : device_words (codes "serve" ∷ codes "DEV" ∷ codes "--connections" ∷ codes "0" ∷ [])
      ≡ None
  pub connections : device_words (codes "serve" ∷ codes "DEV" ∷ codes "--connections" ∷ codes "65536" ∷ [])
      ≡ None
  pub zeros : device_words (codes "serve" ∷ codes "DEV" ∷ codes "--port" ∷ codes "01" ∷ [])
      ≡ None
  pub no_image : device_words (codes "make" ∷ codes "LAYOUT" ∷ [])
      ≡ None
  pub no_name : device_words (codes "show" ∷ [] ∷ [])
      ≡ None
  pub ported : device_words (codes "show" ∷ codes "DEV" ∷ codes "--port" ∷ codes "80" ∷ [])
      ≡ None
  pub locked : device_words (codes "serve" ∷ codes "DEV" ∷ codes "--unlocked" ∷ [])
      ≡ None
  pub second : device_words (codes "unlock" ∷ codes "DEV" ∷ codes "DEV" ∷ [])
      ≡ None
  pub more : device_words (codes "make" ∷ codes "LAYOUT" ∷ codes "DEV" ∷ codes "DEV" ∷ [])
      ≡ None
  pub twice : device_words (codes "serve" ∷ codes "DEV" ∷ codes "--port=1" ∷ codes "--port=1" ∷ [])
      ≡ None
  pub action : device_words (codes "erase" ∷ codes "DEV" ∷ [])
      ≡ None
  pub help : device_words (codes "--help" ∷ [])
      ≡ None
