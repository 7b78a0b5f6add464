-- The rows of the table of commands, in parts.
use Rattle.std.proofs.Common.{◌≡◌, ℕ, Bool, true, false, List, [], ◌∷◌, ◌++◌, length, Option, Some, None, refl, sym, ap, ◌∙◌, arith}
use Rattle.std.specs.Option.{option_or}
use Rattle.std.specs.Prelude.{◌==◌, ◌&&◌, bytes_eq, if◌then◌else◌, option_and_then, codes}
use Rattle.std.proofs.lemmas.Bool.Decides.{nat_tests}
use Rattle.fb_message.specs.declared.command.BootTarget.TheVariants.{System, Bootloader, Fastboot, Recovery}
use Rattle.fb_message.specs.Prefixes.{behind_word, first_reading}
use Rattle.fb_message.specs.CommandText.{CommandValue, Reboot, Continue, Lock, Unlock, UnlockAbility, alone, valued_rows, word_rows, word_command, logical_rows, command_rows}

or-assoc : {X : Type 0} (a b c : Option X) → option_or a (option_or b c) ≡ option_or (option_or a b) c
or-assoc None b c = refl
or-assoc (Some x) b c = refl

-- the rows of two tables
rows-append : {X : Type 0} (some others : List (List ℕ × (List ℕ → Option X))) (text : List ℕ) →
    first_reading (some ++ others) text ≡ option_or (first_reading some text) (first_reading others text)
rows-append [] others text = refl
rows-append (row ∷ some) others text =
    ap (option_or (option_and_then row.1 (behind_word row.0 text))) (rows-append some others text)
    ∙ or-assoc (option_and_then row.1 (behind_word row.0 text)) (first_reading some text) (first_reading others text)

alone-cell : (a b c : Bool) (rest : Option CommandValue) (command : CommandValue) (o : Option (List ℕ)) → a ≡ b →
    option_and_then (alone command) o ≡ (if c then Some command else None) →
    option_and_then (alone command) (if a then o else None) ≡ (if b && c then Some command else None)
alone-cell true true c rest command o e f = f
alone-cell true false c rest command o e f = absurd cc
alone-cell false true c rest command o e f = absurd cc
alone-cell false false c rest command o e f = refl

-- a word that nothing follows is the whole text
alone-is : (word text : List ℕ) (command : CommandValue) → option_and_then (alone command) (behind_word word text) ≡ (if bytes_eq text word then Some command else None)
alone-is [] [] command = refl
alone-is [] (t ∷ text) command =
    let more : (length (t ∷ text) == 0) ≡ false = grind (arith, nat_tests) in
    ap (λ b. if b then Some command else None) more
alone-is (w ∷ word) [] command = refl
alone-is (w ∷ word) (t ∷ text) command =
    alone-cell (w == t) (t == w) (bytes_eq text word) None command (behind_word word text) (grind (arith, nat_tests)) (alone-is word text command)

or-if : (b : Bool) (command : CommandValue) (o p more : Option CommandValue) → o ≡ (if b then Some command else None) → p ≡ more → option_or o p ≡ (if b then Some command else more)
or-if true command o p more e f = ap (λ x. option_or x p) e
or-if false command o p more e f = ap (λ x. option_or x p) e ∙ f

word-row : (word text : List ℕ) (command : CommandValue) (p more : Option CommandValue) → p ≡ more →
    option_or (option_and_then (alone command) (behind_word word text)) p ≡ (if bytes_eq text word then Some command else more)
word-row word text command p more e = or-if (bytes_eq text word) command _ p more (alone-is word text command) e

words-are : (text : List ℕ) → first_reading word_rows text ≡ word_command text
words-are text =
    word-row (codes "reboot") text (Reboot System) _ _ (
    word-row (codes "reboot-bootloader") text (Reboot Bootloader) _ _ (
    word-row (codes "reboot-fastboot") text (Reboot Fastboot) _ _ (
    word-row (codes "reboot-recovery") text (Reboot Recovery) _ _ (
    word-row (codes "continue") text Continue _ _ (
    word-row (codes "flashing lock") text Lock _ _ (
    word-row (codes "flashing unlock") text Unlock _ _ (
    word-row (codes "flashing get_unlock_ability") text UnlockAbility _ _ refl)))))))

-- the whole table in its three parts
known-is : (text : List ℕ) → first_reading command_rows text ≡ option_or (first_reading valued_rows text) (option_or (word_command text) (first_reading logical_rows text))
known-is text =
    rows-append valued_rows (word_rows ++ logical_rows) text
    ∙ ap (option_or (first_reading valued_rows text)) (rows-append word_rows logical_rows text ∙ ap (λ o. option_or o (first_reading logical_rows text)) (words-are text))

or-third : {X : Type 0} (a b c o : Option X) → None ≡ a → None ≡ b → o ≡ c → o ≡ option_or a (option_or b c)
or-third a b c o e f g = g ∙ (ap (λ x. option_or x c) f ∙ ap (λ x. option_or x (option_or b c)) e)

or-second : {X : Type 0} (a b c : Option X) (x : X) → None ≡ a → Some x ≡ b → Some x ≡ option_or a (option_or b c)
or-second a b c x e f = ap (λ o. option_or o c) f ∙ ap (λ o. option_or o (option_or b c)) e

-- what the second part reads
pub known-word : (text : List ℕ) (command : CommandValue) → None ≡ first_reading valued_rows text → Some command ≡ word_command text →
    Some command ≡ first_reading command_rows text
known-word text command e f = or-second (first_reading valued_rows text) (word_command text) (first_reading logical_rows text) command e f ∙ sym (known-is text)

-- what the third part reads
pub known-logical : (text : List ℕ) (o : Option CommandValue) → None ≡ first_reading valued_rows text → None ≡ word_command text →
    o ≡ first_reading logical_rows text → o ≡ first_reading command_rows text
known-logical text o e f g = or-third (first_reading valued_rows text) (word_command text) (first_reading logical_rows text) o e f g ∙ sym (known-is text)
