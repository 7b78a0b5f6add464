-- A call whose words ask for nothing, or for whose words memory is wanting.
use Rattle.std.proofs.Common.{◌≡◌, ℕ, ◌≤◌, Option, None, refl, sym, subst}
use Rattle.dev_disk.specs.Disks.{DiskTold}
use Rattle.dev_store.specs.Laws.{StandsByParts}
use Rattle.device_jobs.specs.Working.{Ends, Output}
use Rattle.device_session.specs.Gates.{GateTold}
use Rattle.device_words.specs.declared.request.DeviceWords.{DeviceWords}
use Rattle.word_rules.specs.declared.error.WordsError.{WordsError}
use Rattle.word_rules.specs.declared.error.WordsError.TheVariants as words
use Rattle.device_top.specs.Working.{words_status, words_line, sides, IsCall}
use Rattle.device_top.proofs.CallLemmas.{usage-call, wanting-call}

pub words-call : StandsByParts → (asked : Option DeviceWords) (e : WordsError) (status : ℕ) (t : DiskTold) (a : GateTold) (p q : Output) → (e ≡ words.Usage → asked ≡ None) →
    Ends (words_status e) (words_line e) status p q → p.faults ≤ q.faults → IsCall asked status (sides t a p) (sides t a q)
words-call law asked words.Usage status t a p q none ends later =
    subst (λ r. IsCall r status (sides t a p) (sides t a q)) (sym (none refl)) (usage-call status t a p q ends later)
words-call law asked words.Memory status t a p q none ends later = wanting-call law asked status t a p q ends later
