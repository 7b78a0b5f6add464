-- Requirements, line by line.
use Rattle.std.proofs.Common.{◌≡◌, ℕ, suc, ◌+◌, ◌*◌, ◌≤◌, ◌<◌, Bool, true, false, not, ◌||◌, if◌then◌else◌, Option, Some, None, List, [], ◌∷◌, ◌++◌, length, drop, map, filter, append-nil, append_assoc, refl, sym, ap, ◌∙◌, subst, arith}
use Rattle.std.specs.Prelude.{codes, is_some, slice_get, IfSome}
use Rattle.std.specs.List.{list_any}
use Rattle.dev_model.specs.declared.device.Dev.{Dev}
use Rattle.dev_model.specs.Variables.{asked, value}
use Rattle.product_info.specs.declared.requirement.Requirement.{Requirement}
use Rattle.product_info.specs.Meeting.{is_for, holds, meets}
use Rattle.flash_plan.specs.Questions.{looked_at, requirement_questions}
use Rattle.flash_plan.specs.Requiring.{variable_of, applies, meets_line, first_unmet}
use Rattle.fb_link.specs.Seen.{Seen}
use Rattle.host_driver.specs.declared.drive.DriveError.{DriveError}
use Rattle.host_driver.specs.declared.requirements.Unmet.{Unmet}
use Rattle.host_driver.specs.Deciding.{line_question, line_questions, product_question, check_questions, unmet_of, judged, IsProduct, AreFor, IsJudged, first_judged, AreJudged, IsChecked, IsOfLine, IsListed}
use Rattle.host_driver.specs.Questioning.{OfDevice, IsLearned, IsUnlearned}
use Rattle.host_driver.proofs.AlongLemmas.{told-more}
use Rattle.host_driver.proofs.QuestionLemmas.{device-of, device-any, learned-still, learned-next, learned-as, unlearned-next, unlearned-as}

-- A line that isn't for the device's product is met, and nothing is asked for it.
skipped-by : (line : Requirement) (value : Option (List ℕ)) (b : Bool) (dev : Dev) → applies dev line ≡ b → b ≡ false → (line_question line dev ≡ []) × (meets_line dev line ≡ true)
skipped-by line value b dev e f =
    let no : applies dev line ≡ false = e ∙ f in
    (ap (λ c. if c then variable_of line ∷ [] else []) no, ap (λ c. not c || holds line.kind line.values (asked dev (variable_of line))) no)

pub line-skipped : (line : Requirement) (product : Option (List ℕ)) (a : Seen) → is_for line.product product ≡ false → OfDevice (IsProduct product line) a.port.peer → IsLearned 4104 (line_question line) (IsJudged line None) a a
line-skipped line product a e known =
    learned-as 0 4104 (λ dev. []) (line_question line) (IsProduct product line) (IsJudged line None) a a (learned-still (IsProduct product line) a known) (omega arith)
    (λ s k.
    let x = skipped-by line None (applies s line) s refl (sym k ∙ e) in
    (sym x.0, ap (λ b. if b then None else Some (unmet_of line (asked s (variable_of line)))) (sym x.1)))

-- The variable of another line is asked for.
pub line-asked : (line : Requirement) (product value : Option (List ℕ)) (name : List ℕ) (unmet : Option Unmet) (a b : Seen) → is_for line.product product ≡ true → name ≡ variable_of line → unmet ≡ judged line product value →
    OfDevice (IsProduct product line) a.port.peer → IsLearned 4104 (λ dev. name ∷ []) (λ dev. value ≡ asked dev name) a b → IsLearned 4104 (line_question line) (IsJudged line unmet) a b
line-asked line product value name unmet a b e n u known p =
    learned-next 4104 0 4104 (λ dev. []) (λ dev. name ∷ []) (line_question line) (IsProduct product line) (λ dev. value ≡ asked dev name) (IsJudged line unmet) a a b (learned-still (IsProduct product line) a known) p (omega arith)
    (λ s k v.
    let yes : applies s line ≡ true = sym k ∙ e in
    let told : value ≡ asked s (variable_of line) = v ∙ ap (asked s) n in
    let same : judged line product value ≡ (if meets_line s line then None else Some (unmet_of line (asked s (variable_of line)))) =
    ap (λ v. if not (is_for line.product product) || holds line.kind line.values v then None else Some (unmet_of line v)) told
    ∙ ap (λ c. if not c || holds line.kind line.values (asked s (variable_of line)) then None else Some (unmet_of line (asked s (variable_of line)))) k in
    (ap (λ m. m ∷ []) n ∙ ap (λ c. if c then variable_of line ∷ [] else []) (sym yes), u ∙ same))

pub line-unasked : (line : Requirement) (product : Option (List ℕ)) (name : List ℕ) (a b : Seen) (error : DriveError) → is_for line.product product ≡ true → name ≡ variable_of line → OfDevice (IsProduct product line) a.port.peer →
    IsUnlearned (λ dev. name ∷ []) a b error → IsUnlearned (line_question line) a b error
line-unasked line product name a b error e n known p =
    unlearned-as (λ dev. name ∷ []) (line_question line) (IsProduct product line) a b error known p
    (λ s k. record { more = []; whole = ap (λ c. if c then variable_of line ∷ [] else []) (sym k ∙ e) ∙ ap (λ m. m ∷ []) (sym n) })

-- Lines one after another: these questions were asked for those before, which are met.
abbrev pub Left : List Requirement → Option (List ℕ) → List Requirement → (Dev → List (List ℕ)) → Dev → Type 0
Left lines product rest names dev = (names dev ++ line_questions rest dev ≡ line_questions lines dev) × (first_unmet rest dev ≡ first_unmet lines dev) × AreFor product rest dev

pub record LinesLeft (lines : List Requirement) (product : Option (List ℕ)) (i : ℕ) (a b : Seen) : Type 0 where
  pub names : Dev → List (List ℕ)
  pub learned : IsLearned (4104 * i) names (Left lines product (drop i lines) names) a b

pub lines-begun : (lines : List Requirement) (product : Option (List ℕ)) (a : Seen) → OfDevice (AreFor product lines) a.port.peer → LinesLeft lines product 0 a a
lines-begun lines product a known = record {
  names = λ dev. [];
  learned = learned-as 0 (4104 * 0) (λ dev. []) (λ dev. []) (AreFor product lines) (Left lines product lines (λ dev. [])) a a (learned-still (AreFor product lines) a known) (omega arith) (λ s k. (refl, (refl, refl, k)));
}

split-by : (line : Requirement) (rest : List Requirement) (dev : Dev) (c : Bool) (more : List Requirement) → map variable_of (if c then line ∷ filter (applies dev) more else filter (applies dev) more) ≡ (if c then variable_of line ∷ [] else []) ++ map variable_of (filter (applies dev) more)
split-by line rest dev true more = refl
split-by line rest dev false more = refl

abbrev more-of : List Requirement → Bool → Dev → List Requirement
more-of rest b dev = if b then looked_at dev rest else []

split-line : (line : Requirement) (rest : List Requirement) (dev : Dev) → line_questions (line ∷ rest) dev ≡ line_question line dev ++ map variable_of (filter (applies dev) (more-of rest (meets_line dev line) dev))
split-line line rest dev = split-by line rest dev (applies dev line) (if meets_line dev line then looked_at dev rest else [])

met-by : {X : Type 0} (b : Bool) (x : X) → None ≡ (if b then None else Some x) → b ≡ true
met-by true x e = refl
met-by false x e = absurd cc

unmet-by : {X : Type 0} (b : Bool) (u x : X) → Some u ≡ (if b then None else Some x) → (b ≡ false) × (u ≡ x)
unmet-by true u x e = absurd cc
unmet-by false u x e = (refl, cc)

first-of : (line : Requirement) (rest : List Requirement) (dev : Dev) (b : Bool) → meets_line dev line ≡ b → first_unmet (line ∷ rest) dev ≡ (if b then first_unmet rest dev else Some line)
first-of line rest dev true e = ap (λ c. if not c then Some line else first_unmet rest dev) e
first-of line rest dev false e = ap (λ c. if not c then Some line else first_unmet rest dev) e

module _ (lines : List Requirement) (product : Option (List ℕ)) (i : ℕ) (line : Requirement) (a b c : Seen) (p : LinesLeft lines product i a b) (next : drop i lines ≡ line ∷ drop (suc i) lines) where
  abbrev rest : List Requirement
  rest = drop (suc i) lines

  left : (s : Dev) → Left lines product (drop i lines) p.names s → Left lines product (line ∷ rest) p.names s
  left s k = subst (λ ls. Left lines product ls p.names s) next k

  pub line-known : OfDevice (IsProduct product line) b.port.peer
  line-known = device-of (IsProduct product line) a.port.peer b.port.peer
      (told-more (λ s t. (t ≡ s) × Left lines product (drop i lines) p.names s) (λ s t. (t ≡ s) × IsProduct product line s) (λ s t x. (x.0, (left s x.1).2.0)) a.port.peer b.port.peer p.learned.told)

  pub lines-next : IsLearned 4104 (line_question line) (IsJudged line None) b c → LinesLeft lines product (suc i) a c
  lines-next q = record {
    names = λ dev. p.names dev ++ line_question line dev;
    learned = learned-next (4104 * suc i) (4104 * i) 4104 p.names (line_question line) (λ dev. p.names dev ++ line_question line dev) (Left lines product (drop i lines) p.names) (IsJudged line None)
        (Left lines product rest (λ dev. p.names dev ++ line_question line dev)) a b c p.learned q (omega arith)
        (λ s k j.
        let l = left s k in
        let met = met-by (meets_line s line) (unmet_of line (asked s (variable_of line))) j in
        let split : line_questions (line ∷ rest) s ≡ line_question line s ++ line_questions rest s = split-line line rest s ∙ ap (λ m. line_question line s ++ map variable_of (filter (applies s) (more-of rest m s))) met in
        (refl, (append_assoc (p.names s) (line_question line s) (line_questions rest s) ∙ (ap (λ n. p.names s ++ n) (sym split) ∙ l.0), sym (first-of line rest s true met) ∙ l.1, l.2.1)));
  }

  pub lines-unmet : (u : Unmet) → i < length lines → IsLearned 4104 (line_question line) (IsJudged line (Some u)) b c → IsLearned (4104 * length lines) (line_questions lines) (AreJudged lines (Some u)) a c
  lines-unmet u within q =
      learned-next (4104 * length lines) (4104 * i) 4104 p.names (line_question line) (line_questions lines) (Left lines product (drop i lines) p.names) (IsJudged line (Some u)) (AreJudged lines (Some u)) a b c p.learned q (omega (arith, within))
      (λ s k j.
      let l = left s k in
      let is = unmet-by (meets_line s line) u (unmet_of line (asked s (variable_of line))) j in
      let split : line_questions (line ∷ rest) s ≡ line_question line s =
      split-line line rest s ∙ (ap (λ m. line_question line s ++ map variable_of (filter (applies s) (more-of rest m s))) is.0 ∙ append-nil (line_question line s)) in
      (ap (λ n. p.names s ++ n) (sym split) ∙ l.0, ap Some is.1 ∙ ap (λ o. first_judged o s) (sym (first-of line rest s false is.0) ∙ l.1)))

  pub lines-broken : (error : DriveError) → IsUnlearned (line_question line) b c error → IsUnlearned (line_questions lines) a c error
  lines-broken error q =
      unlearned-next (4104 * i) p.names (line_question line) (line_questions lines) (Left lines product (drop i lines) p.names) a b c error p.learned q
      (λ s k.
      let l = left s k in
      let more = map variable_of (filter (applies s) (more-of rest (meets_line s line) s)) in
      record { more = more; whole = sym l.0 ∙ (ap (λ n. p.names s ++ n) (split-line line rest s) ∙ sym (append_assoc (p.names s) (line_question line s) more)) })

pub lines-done : (lines : List Requirement) (product : Option (List ℕ)) (i : ℕ) (a b : Seen) → LinesLeft lines product i a b → drop i lines ≡ [] → i ≤ length lines → IsLearned (4104 * length lines) (line_questions lines) (AreJudged lines None) a b
lines-done lines product i a b p end within =
    learned-as (4104 * i) (4104 * length lines) p.names (line_questions lines) (Left lines product (drop i lines) p.names) (AreJudged lines None) a b p.learned (omega (arith, within))
    (λ s k. let l = subst (λ ls. Left lines product ls p.names s) end k in (sym (append-nil (p.names s)) ∙ l.0, ap (λ o. first_judged o s) l.1))

-- The product is asked for where a line is for one.
unnamed-by : (o product : Option (List ℕ)) (dev : Dev) → is_some o ≡ false → is_for o product ≡ is_for o (value dev (codes "product"))
unnamed-by None product dev e = refl
unnamed-by (Some x) product dev e = absurd cc

unnamed-for : (lines : List Requirement) (product : Option (List ℕ)) (dev : Dev) → list_any (λ line. is_some line.product) lines ≡ false → AreFor product lines dev
unnamed-for [] product dev e = tt
unnamed-for (line ∷ lines) product dev e = by (λ f. unnamed-for lines product dev f) (is_some line.product) refl e
  where
    by : (list_any (λ line. is_some line.product) lines ≡ false → AreFor product lines dev) → (b : Bool) → is_some line.product ≡ b → (b || list_any (λ line. is_some line.product) lines) ≡ false → AreFor product (line ∷ lines) dev
    by more true f e = absurd cc
    by more false f e = (unnamed-by line.product product dev f, more e)

named-for : (lines : List Requirement) (product : Option (List ℕ)) (dev : Dev) → product ≡ value dev (codes "product") → AreFor product lines dev
named-for [] product dev e = tt
named-for (line ∷ lines) product dev e = (ap (is_for line.product) e, named-for lines product dev e)

pub product-unneeded : (lines : List Requirement) (a : Seen) → list_any (λ line. is_some line.product) lines ≡ false → IsLearned 4104 (product_question lines) (AreFor None lines) a a
product-unneeded lines a e =
    learned-as 0 4104 (λ dev. []) (product_question lines) (λ dev. Unit {0}) (AreFor None lines) a a (learned-still (λ dev. Unit {0}) a (device-any a.port.peer)) (omega arith)
    (λ s k. (ap (λ b. if b then codes "product" ∷ [] else []) (sym e), unnamed-for lines None s e))

pub product-asked : (lines : List Requirement) (product : Option (List ℕ)) (a b : Seen) → list_any (λ line. is_some line.product) lines ≡ true → IsLearned 4104 (λ dev. codes "product" ∷ []) (λ dev. product ≡ asked dev (codes "product")) a b →
    IsLearned 4104 (product_question lines) (AreFor product lines) a b
product-asked lines product a b e p =
    learned-as 4104 4104 (λ dev. codes "product" ∷ []) (product_question lines) (λ dev. product ≡ asked dev (codes "product")) (AreFor product lines) a b p (omega arith)
    (λ s k. (ap (λ b. if b then codes "product" ∷ [] else []) (sym e), named-for lines product s k))

pub product-unasked : (lines : List Requirement) (a b : Seen) (error : DriveError) → list_any (λ line. is_some line.product) lines ≡ true → IsUnlearned (λ dev. codes "product" ∷ []) a b error → IsUnlearned (product_question lines) a b error
product-unasked lines a b error e p =
    unlearned-as (λ dev. codes "product" ∷ []) (product_question lines) (λ dev. Unit {0}) a b error (device-any a.port.peer) p (λ s k. record { more = []; whole = ap (λ b. if b then codes "product" ∷ [] else []) e })

-- All of them.
pub check-forced : (lines : List Requirement) (force : Bool) (a : Seen) → force ≡ true → IsLearned (4104 + 4104 * length lines) (check_questions lines force) (IsChecked lines force None) a a
check-forced lines force a e =
    learned-as 0 (4104 + 4104 * length lines) (λ dev. []) (check_questions lines force) (λ dev. Unit {0}) (IsChecked lines force None) a a (learned-still (λ dev. Unit {0}) a (device-any a.port.peer)) (omega arith)
    (λ s k. (ap (λ b. if b then [] else requirement_questions s lines) (sym e), ap (λ b. if b then None else first_judged (first_unmet lines s) s) (sym e)))

pub check-all : (lines : List Requirement) (force : Bool) (product : Option (List ℕ)) (unmet : Option Unmet) (a b c : Seen) → force ≡ false → IsLearned 4104 (product_question lines) (AreFor product lines) a b →
    IsLearned (4104 * length lines) (line_questions lines) (AreJudged lines unmet) b c → IsLearned (4104 + 4104 * length lines) (check_questions lines force) (IsChecked lines force unmet) a c
check-all lines force product unmet a b c e p q =
    learned-next (4104 + 4104 * length lines) 4104 (4104 * length lines) (product_question lines) (line_questions lines) (check_questions lines force) (AreFor product lines) (AreJudged lines unmet) (IsChecked lines force unmet) a b c p q (omega arith)
    (λ s k j. (ap (λ b. if b then [] else requirement_questions s lines) (sym e), j ∙ ap (λ b. if b then None else first_judged (first_unmet lines s) s) (sym e)))

pub check-unnamed : (lines : List Requirement) (force : Bool) (a b : Seen) (error : DriveError) → force ≡ false → IsUnlearned (product_question lines) a b error → IsUnlearned (check_questions lines force) a b error
check-unnamed lines force a b error e p =
    unlearned-as (product_question lines) (check_questions lines force) (λ dev. Unit {0}) a b error (device-any a.port.peer) p
    (λ s k. record { more = line_questions lines s; whole = ap (λ b. if b then [] else requirement_questions s lines) e })

pub check-broken : (lines : List Requirement) (force : Bool) (product : Option (List ℕ)) (a b c : Seen) (error : DriveError) → force ≡ false → IsLearned 4104 (product_question lines) (AreFor product lines) a b →
    IsUnlearned (line_questions lines) b c error → IsUnlearned (check_questions lines force) a c error
check-broken lines force product a b c error e p q =
    unlearned-next 4104 (product_question lines) (line_questions lines) (check_questions lines force) (AreFor product lines) a b c error p q
    (λ s k. record { more = []; whole = ap (λ b. if b then [] else requirement_questions s lines) e ∙ sym (append-nil (requirement_questions s lines)) })

-- the line that isn't met is one of them
pub judged-listed : (line : Requirement) (product value : Option (List ℕ)) (unmet : Option Unmet) → unmet ≡ judged line product value → IfSome unmet (IsOfLine line)
judged-listed line product value None e = tt
judged-listed line product value (Some u) e =
    let same : u ≡ unmet_of line value = (unmet-by (meets line product value) u (unmet_of line value) e).1 in
    record { line_is = sym (ap (λ (v : Unmet). v.line) same); name_is = sym (ap (λ (v : Unmet). v.name) same) }

pub listed-at : (lines : List Requirement) (i : ℕ) (line : Requirement) (u : Unmet) → slice_get lines i ≡ Some line → IsOfLine line u → IsListed lines u
listed-at lines i line u e k = record { place = i; requirement = line; there = e; line_is = k.line_is; name_is = k.name_is }

pub listed-unforced : (lines : List Requirement) (force : Bool) (unmet : Option Unmet) → force ≡ false → IfSome unmet (IsListed lines) → IfSome unmet (λ u. (force ≡ false) × IsListed lines u)
listed-unforced lines force None e k = tt
listed-unforced lines force (Some u) e k = (e, k)
