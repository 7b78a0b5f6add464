-- A question over a connection: what its answers come to.
use Rattle.std.proofs.Common.{◌≡◌, ◌≢◌, inl, inr, ℕ, suc, ◌+◌, ◌<◌, ◌≤◌, Bool, true, false, Option, Some, None, List, [], ◌∷◌, ◌++◌, length, take, refl, sym, ap, ◌∙◌, subst, arith, length-append, append_assoc}
use Rattle.std.specs.Prelude.{codes, map, nat_le, slice_get, if◌then◌else◌, bytes_eq, Ok, Err}
use Rattle.std.specs.List.{list_all}
use Rattle.std.proofs.lemmas.Bool.Decides.{nat_tests}
use Rattle.std.specs.Prelude.{nat_lt, ◌-◌}
use Rattle.std.proofs.lemmas.List.{take-append-le}
use Rattle.std.proofs.Math.Seq.{take-append_seam, take-append-add}
use Rattle.fb_frame.specs.Causes.{Rose}
use Rattle.fb_frame.specs.Framing.{frame}
use Rattle.fb_frame.specs.Sinks.{Grew, GrewByPart, GrewPart}
use Rattle.fb_message.specs.declared.reply.Reply.{Reply}
use Rattle.fb_message.specs.declared.reply.Reply.TheVariants.{Okay, Fail, Info, Text, Load}
use Rattle.fb_message.specs.CommandText.{GetVar, spelling}
use Rattle.fb_message.specs.Prefixes.{only_if}
use Rattle.fb_message.specs.ReplyText.{reply_bytes}
use Rattle.fb_message.proofs.Commands.{command_again}
use Rattle.fb_message.proofs.Words.{only-inverse}
use Rattle.dev_model.specs.declared.device.Dev.{Dev}
use Rattle.dev_model.specs.Partitions.{is_fastboot}
use Rattle.dev_model.specs.Variables.{value, all_rows}
use Rattle.dev_model.proofs.Valid.{both}
use Rattle.wire_model.specs.Halts.{Halts}
use Rattle.wire_model.specs.Says.{Loaded, says, tells, tells_all}
use Rattle.wire_model.specs.Wire.{Wire}
use Rattle.wire_told.specs.Answered.{IsAnswered, is_line}
use Rattle.wire_told.specs.Exchanges.{said_to, IsExchanged, IsInterrupted, Exchanged}
use Rattle.wire_told.specs.Peers.{Peer, Apart, Joined, OnLink}
use Rattle.wire_told.specs.Places.{Appended}
use Rattle.wire_told.specs.Ports.{Kept}
use Rattle.wire_told.proofs.ExchangeLemmas.{said-open}
use Rattle.wire_told.proofs.Lifted.{of-on, on-on}
use Rattle.wire_told.proofs.OneFrames.{length-frame}
use Rattle.fb_link.specs.Broken.{BrokeOff, ShownInPart, SaysFirst}
use Rattle.fb_link.specs.Concluded.{Concluded, IsCutOff, IsUndue, LogsWhole}
use Rattle.fb_link.specs.Errors.{Why}
use Rattle.fb_link.specs.Lines.{shown_line, shown_lines}
use Rattle.fb_link.specs.Seen.{Seen}
use Rattle.fb_link.specs.declared.link_error.LinkError.{LinkError}
use Rattle.fb_link.specs.declared.link_error.LinkError.TheVariants as link
use Rattle.fb_link.proofs.EndLemmas.{frames-snoc}
use Rattle.fb_link.proofs.TypedLemmas.{Exchanged-concluded}
use Rattle.host_driver.specs.declared.drive.DriveError.{DriveError}
use Rattle.host_driver.specs.declared.drive.DriveError.TheVariants as stop
use Rattle.host_driver.specs.Asking.{Told, told_reply, Tells, lines_to, IsAsked, ShowsSome, IsCutIn, ShowsBy, IsUnrefused, IsUnasked}
use Rattle.host_driver.specs.Printing.{infos_to, joined}
use Rattle.host_driver.specs.Stepping.{IsServing, stop_of}
use Rattle.host_driver.proofs.TakeLemmas.{told-on, told-off, with-off, heard-more, heard-again, logged, why-broken, heard-broken, grows-part}

-- What a device says to a question: its lines, and one reply.
tell_end : Option (List ℕ) → Reply
tell_end None = Fail (codes "unknown variable")
tell_end (Some text) = Okay text

end_to : Bool → Option (List ℕ) → Reply
end_to b o = if b then Okay [] else tell_end o

said-by : (b : Bool) (o : Option (List ℕ)) (dev : Dev) →
    (if b then tells_all dev else tells o) ≡ (if b then map (λ row. Info (row.0 ++ 58 ∷ row.1)) (all_rows dev) else []) ++ end_to b o ∷ []
unfolding end_to tell_end
said-by true o dev = refl
said-by false None dev = refl
said-by false (Some text) dev = refl

end-no-line : (b : Bool) (o : Option (List ℕ)) → is_line (end_to b o) ≡ false
unfolding end_to tell_end
end-no-line true o = refl
end-no-line false None = refl
end-no-line false (Some text) = refl

said-asked : (name : List ℕ) (dev : Dev) (loaded : Loaded) → (says dev loaded (GetVar name)).replies ≡ infos_to dev name ++ end_to (bytes_eq name (codes "all")) (value dev name) ∷ []
unfolding says
said-asked name dev loaded = said-by (bytes_eq name (codes "all")) (value dev name) dev

tells-text : (b : Bool) (o : Option (List ℕ)) (text : List ℕ) → Okay text ≡ end_to b o → (if b then Some [] else o) ≡ Some text
unfolding end_to tell_end
tells-text true o text e = let same : text ≡ [] = cc in ap Some (sym same)
tells-text false None text e = absurd cc
tells-text false (Some other) text e = let same : text ≡ other = cc in ap Some (sym same)

tells-none : (b : Bool) (o : Option (List ℕ)) (text : List ℕ) → Fail text ≡ end_to b o → ((if b then Some [] else o) ≡ None) × (text ≡ codes "unknown variable")
unfolding end_to tell_end
tells-none true o text e = absurd cc
tells-none false None text e = (refl, cc)
tells-none false (Some other) text e = absurd cc

tells-so : (name : List ℕ) (answer : Told) (dev : Dev) → told_reply answer ≡ end_to (bytes_eq name (codes "all")) (value dev name) → Tells name answer dev
tells-so name (Ok text) dev e = tells-text (bytes_eq name (codes "all")) (value dev name) text e
tells-so name (Err text) dev e = tells-none (bytes_eq name (codes "all")) (value dev name) text e

-- two lists with one more at the end
snoc-same : (xs ys : List Reply) (x y : Reply) → xs ++ x ∷ [] ≡ ys ++ y ∷ [] → (xs ≡ ys) × (x ≡ y)
snoc-same [] [] x y e = (refl, cc)
snoc-same [] (b ∷ ys) x y e = absurd (omega (arith, ap length e, length-append ys (y ∷ [])))
snoc-same (a ∷ xs) [] x y e = absurd (omega (arith, ap length e, length-append xs (x ∷ [])))
snoc-same (a ∷ xs) (b ∷ ys) x y e =
    let first : a ≡ b = cc in
    let rest : xs ++ x ∷ [] ≡ ys ++ y ∷ [] = cc in
    let more = snoc-same xs ys x y rest in
    (ap (λ z. z ∷ xs) first ∙ ap (λ zs. b ∷ zs) more.0, more.1)

answered-so : (broke : Type 0) (name : List ℕ) (end : Reply) (p : List ℕ) (infos : List Reply) → spelling (GetVar name) ≡ Some p → (w u : Wire) → IsAnswered broke p (infos ++ end ∷ []) w u →
    (infos ≡ infos_to w.device name) × (end ≡ end_to (bytes_eq name (codes "all")) (value w.device name))
answered-so broke name end p infos e w u (inl x) =
    snoc-same infos (infos_to w.device name) end (end_to (bytes_eq name (codes "all")) (value w.device name))
    (x.all ∙ (ap (λ k. (says w.device w.loaded k).replies) (command_again (GetVar name) p e) ∙ said-asked name w.device w.loaded))
answered-so broke name end p infos e w u (inr x) = absurd (subst (λ c. Halts w.device w.loaded c u.device) (command_again (GetVar name) p e) x.1.halts).change

asked-device : (name : List ℕ) (w : Wire) → (said_to (GetVar name) w).device ≡ w.device
unfolding says
asked-device name w = refl

same-so : (broke : Type 0) (name : List ℕ) (end : Reply) (w u : Wire) → IsExchanged broke (GetVar name) end w u → u.device ≡ w.device
same-so broke name end w u (inl x) = x.device ∙ asked-device name w
same-so broke name end w u (inr x) = absurd x.1.halts.change

same-cut : (broke : Type 0) (name : List ℕ) (w : Wire) (dev : Dev) → IsInterrupted broke (GetVar name) w dev → dev ≡ w.device
same-cut broke name w dev (inl e) = e
same-cut broke name w dev (inr (inl e)) = e ∙ asked-device name w
same-cut broke name w dev (inr (inr x)) = absurd x.1.change

serving-so : (broke : Type 0) (name p : List ℕ) (end : Reply) (spare : ℕ) → spelling (GetVar name) ≡ Some p → length p ≤ 4096 → (w u : Wire) → IsServing (4104 + spare) w → IsExchanged broke (GetVar name) end w u → IsServing spare u
serving-so broke name p end spare e h w u f (inl x) = record {
  free = record { running = x.closed ∙ said-open (GetVar name) refl w; bounded = omega (arith, f.free.bounded, x.taken p e, length-frame p, h) };
  runs = ap (λ (d : Dev). is_fastboot d.mode) (x.device ∙ asked-device name w) ∙ f.runs;
}
serving-so broke name p end spare e h w u f (inr x) = absurd x.1.halts.change

both-on : (R S T : Wire → Wire → Type 0) → ((w u : Wire) → R w u → S w u → T w u) → (a b : Option Peer) → OnLink R a b → OnLink S a b → OnLink T a b
both-on R S T f None None r s = tt
both-on R S T f None (Some q) r s = absurd r
both-on R S T f (Some (Apart dev)) b r s = absurd r
both-on R S T f (Some (Joined w)) None r s = absurd r
both-on R S T f (Some (Joined w)) (Some (Apart dev)) r s = absurd r
both-on R S T f (Some (Joined w)) (Some (Joined u)) r s = f w u r s

-- lines of replies, one after another
joined-lines : (rs : List Reply) → joined (map shown_line rs) ≡ shown_lines rs
joined-lines [] = refl
joined-lines (r ∷ rs) = ap (λ t. shown_line r ++ t) (joined-lines rs)

name-short : (name p : List ℕ) → spelling (GetVar name) ≡ Some p → length p ≤ 4096
name-short name p e =
    let o = only-inverse (nat_le (length name) 4089) (codes "getvar:" ++ name) p e in
    let short : length name ≤ 4089 = (let e = o.0 in grind (arith, nat_tests)) in
    omega (arith, short, ap length o.1, length-append (codes "getvar:") name)

pub asked-answer : (name : List ℕ) (answer : Told) (a b : Seen) → Concluded (GetVar name) a b (told_reply answer) → Kept a.port b.port → IsAsked name answer a b
asked-answer name answer a b k kept =
    let broke = Rose a.port.faults b.port.faults in
    let end = told_reply answer in
    let x = Exchanged-concluded (GetVar name) a b end k in
    record {
      told = told-on (λ s t. (t ≡ s) × Tells name answer s) a.port.peer b.port.peer
          (both-on (IsExchanged broke (GetVar name) end) (IsAnswered broke k.payload (k.infos ++ end ∷ [])) (λ w u. (u.device ≡ w.device) × Tells name answer w.device)
          (λ w u p q. (same-so broke name end w u p, tells-so name answer w.device (answered-so broke name end k.payload k.infos k.spelled w u q).1)) a.port.peer b.port.peer x k.told);
      serving = λ spare free.
          of-on (IsServing (4104 + spare)) (IsExchanged broke (GetVar name) end) (IsServing spare) (serving-so broke name k.payload end spare k.spelled (name-short name k.payload k.spelled)) a.port.peer b.port.peer free x;
      shown = told-on (λ s t. Grew a.text b.text (joined (lines_to s name))) a.port.peer b.port.peer
          (on-on (IsAnswered broke k.payload (k.infos ++ end ∷ [])) (λ w u. Grew a.text b.text (joined (lines_to w.device name)))
          (λ w u q. subst (λ t. Grew a.text b.text t) (ap shown_lines (answered-so broke name end k.payload k.infos k.spelled w u q).0 ∙ sym (joined-lines (infos_to w.device name))) k.shown) a.port.peer b.port.peer k.told);
      grows = record { more = shown_lines k.infos; grew = k.shown };
      heard = λ h. heard-again a.port.heard b.port.heard (k.infos ++ end ∷ []) h k.bytes;
      last = λ h. heard-more a.port.heard b.port.heard k.infos (frame (reply_bytes end)) h (subst (Appended a.port.heard b.port.heard) (sym (frames-snoc k.infos end)) k.bytes);
      log = logged (GetVar name) a.port.log b.port.log k.payload k.spelled k.log;
      kept = kept;
    }

-- The lines that were heard are the first of all.
front-lines : (infos more xs : List Reply) (end : Reply) → list_all is_line infos ≡ true → is_line end ≡ false → xs ++ end ∷ [] ≡ infos ++ more → (rest : List Reply) × (xs ≡ infos ++ rest)
front-lines [] more xs end l n e = (xs, refl)
front-lines (i ∷ infos) more [] end l n e =
    let first : end ≡ i = cc in
    let line : is_line i ≡ true = (both (is_line i) (list_all is_line infos) l).0 in
    absurd (let f : is_line i ≡ false = subst (λ r. is_line r ≡ false) first n in cc)
front-lines (i ∷ infos) more (x ∷ xs) end l n e =
    let first : x ≡ i = cc in
    let rest : xs ++ end ∷ [] ≡ infos ++ more = cc in
    let r = front-lines infos more xs end (both (is_line i) (list_all is_line infos) l).1 n rest in
    (r.0, ap (λ z. z ∷ xs) first ∙ ap (λ zs. i ∷ zs) r.1)

map-lines : (xs ys : List Reply) → map shown_line (xs ++ ys) ≡ map shown_line xs ++ map shown_line ys
map-lines [] ys = refl
map-lines (x ∷ xs) ys = ap (λ t. shown_line x ∷ t) (map-lines xs ys)

pub joined-append : (xs ys : List (List ℕ)) → joined (xs ++ ys) ≡ joined xs ++ joined ys
joined-append [] ys = refl
joined-append (x ∷ xs) ys = ap (λ t. x ++ t) (joined-append xs ys) ∙ sym (append_assoc x (joined xs) (joined ys))

-- what was heard of a told device's lines
abbrev Fronts : List ℕ → List Reply → Wire → Type 0
Fronts name infos w = (rest : List (List ℕ)) × (lines_to w.device name ≡ map shown_line infos ++ rest)

fronts : (name : List ℕ) (infos : List Reply) → list_all is_line infos ≡ true → (w : Wire) → (more : List Reply) × ((said_to (GetVar name) w).replies ≡ infos ++ more) → Fronts name infos w
fronts name infos l w s =
    let r = front-lines infos s.0 (infos_to w.device name) (end_to (bytes_eq name (codes "all")) (value w.device name)) l (end-no-line (bytes_eq name (codes "all")) (value w.device name)) (sym (said-asked name w.device w.loaded) ∙ s.1) in
    (map shown_line r.0, ap (map shown_line) r.1 ∙ map-lines infos r.0)

length-map : (xs : List Reply) → length (map shown_line xs) ≡ length xs
length-map [] = refl
length-map (x ∷ xs) = ap suc (length-map xs)

shows-front : (name : List ℕ) (infos : List Reply) (x y : Option (List ℕ)) → Grew x y (shown_lines infos) → (w : Wire) → Fronts name infos w → ShowsSome (lines_to w.device name) x y
shows-front name infos x y g w f =
    let ls = map shown_line infos in
    let first : take (length ls) (lines_to w.device name) ≡ ls = ap (take (length ls)) f.1 ∙ take-append_seam ls f.0 in
    record { count = length ls; grew = subst (Grew x y) (sym (ap joined first ∙ joined-lines infos)) g }

shows-error : (e : LinkError) (lines : List (List ℕ)) (x y : Option (List ℕ)) → ShowsSome lines x y → ShowsBy lines (stop_of e) x y
shows-error link.Link lines x y s = s
shows-error link.Ended lines x y s = s
shows-error (link.BadHandshake four) lines x y s = s
shows-error (link.BadLength n) lines x y s = s
shows-error (link.BadReply reply) lines x y s = s
shows-error link.TooManyInfos lines x y s = s

unrefused-error : (e : LinkError) → IsUnrefused (stop_of e)
unrefused-error link.Link = tt
unrefused-error link.Ended = tt
unrefused-error (link.BadHandshake four) = tt
unrefused-error (link.BadLength n) = tt
unrefused-error (link.BadReply reply) = tt
unrefused-error link.TooManyInfos = tt

pub spelled-name : (name : List ℕ) → length name ≤ 4089 → spelling (GetVar name) ≡ Some (codes "getvar:" ++ name)
spelled-name name h = by (nat_le (length name) 4089) refl
  where
    by : (b : Bool) → nat_le (length name) 4089 ≡ b → spelling (GetVar name) ≡ Some (codes "getvar:" ++ name)
    by true e = ap (λ b. only_if b (codes "getvar:" ++ name)) e
    by false e = absurd (grind (arith, nat_tests))

pub unasked-broken : (name : List ℕ) (a b : Seen) (e : LinkError) (error : DriveError) → length name ≤ 4089 → error ≡ stop_of e → BrokeOff (SaysFirst (GetVar name) a.port.peer) 0 a b e → Why (IsUndue (GetVar name)) e a.port b.port →
    (e ≢ link.Link → LogsWhole (GetVar name) a.port b.port) → IsCutOff (GetVar name) a.port b.port → Exchanged (GetVar name) a.port b.port None → Kept a.port b.port → IsUnasked name a b error
unasked-broken name a b e error h same k w l cut x kept =
    let broke = Rose a.port.faults b.port.faults in
    subst (IsUnasked name a b) (sym same) (record {
      why = why-broken (GetVar name) e a.port b.port w;
      unrefused = unrefused-error e;
      still = told-off (λ s t. t ≡ s) a.port.peer b.port.peer
          (with-off (λ w. (more : List Reply) × ((said_to (GetVar name) w).replies ≡ k.infos ++ more)) (IsInterrupted broke (GetVar name)) (λ w dev. dev ≡ w.device) (λ w dev p q. same-cut broke name w dev q) a.port.peer b.port.peer k.due x);
      shown = told-off (λ s t. ShowsBy (lines_to s name) (stop_of e) a.text b.text) a.port.peer b.port.peer
          (with-off (λ w. (more : List Reply) × ((said_to (GetVar name) w).replies ≡ k.infos ++ more)) (IsInterrupted broke (GetVar name)) (λ w dev. ShowsBy (lines_to w.device name) (stop_of e) a.text b.text)
          (λ w dev p q. shows-error e (lines_to w.device name) a.text b.text (shows-front name k.infos a.text b.text k.shown w (fronts name k.infos k.lines w p))) a.port.peer b.port.peer k.due x);
      grows = record { more = shown_lines k.infos; grew = k.shown };
      heard = heard-broken (GetVar name) (codes "getvar:" ++ name) e a b k w l (spelled-name name h);
      down = cut.down;
      sound = cut.sound;
      kept = kept;
    })

-- A count of bytes falls into one of some lines.
record Falls (lines : List (List ℕ)) (count : ℕ) : Type 0 where
  at : ℕ
  line : List ℕ
  next : slice_get lines at ≡ Some line
  n : ℕ
  short : n < length line
  same : take count (joined lines) ≡ joined (take at lines) ++ take n line

falls-by : (x : List ℕ) (lines : List (List ℕ)) (count : ℕ) (b : Bool) → nat_lt count (length x) ≡ b → count < length (joined (x ∷ lines)) → ((d : ℕ) → d < length (joined lines) → Falls lines d) → Falls (x ∷ lines) count
falls-by x lines count true e h more =
    let within : count < length x = grind (arith, nat_tests, e) in
    record { at = 0; line = x; next = refl; n = count; short = within; same = take-append-le count x (joined lines) (omega (arith, within)) }
falls-by x lines count false e h more =
    let beyond : length x ≤ count = grind (arith, nat_tests, e) in
    let d = count - length x in
    let sum : length x + d ≡ count = omega (arith, beyond) in
    let f = more d (omega (arith, h, beyond, length-append x (joined lines))) in
    record {
      at = suc f.at;
      line = f.line;
      next = f.next;
      n = f.n;
      short = f.short;
      same = ap (λ k. take k (x ++ joined lines)) (sym sum)
          ∙ (take-append-add x (joined lines) d
          ∙ (ap (λ t. x ++ t) f.same ∙ sym (append_assoc x (joined (take f.at lines)) (take f.n f.line))));
    }

falls : (lines : List (List ℕ)) (count : ℕ) → count < length (joined lines) → Falls lines count
falls [] count h = absurd (omega (arith, h))
falls (x ∷ lines) count h = falls-by x lines count (nat_lt count (length x)) refl h (λ d k. falls lines d k)

cut-in : (lines ls rest : List (List ℕ)) (bytes : List ℕ) → lines ≡ ls ++ rest → bytes ≡ joined ls → (x y : List ℕ) → GrewByPart bytes x y → IsCutIn lines (Some x) (Some y)
cut-in lines ls rest bytes e s x y p =
    let all : joined lines ≡ joined ls ++ joined rest = ap joined e ∙ joined-append ls rest in
    let few : p.count < length (joined ls) = (let k = p.fewer in omega (arith, k, ap length s)) in
    let f = falls lines p.count (omega (arith, few, ap length all, length-append (joined ls) (joined rest))) in
    record {
      count = f.at;
      line = f.line;
      next = f.next;
      n = f.n;
      short = f.short;
      grew = p.grew
          ∙ ap (λ t. x ++ t)
          (ap (take p.count) s
          ∙ (sym (take-append-le p.count (joined ls) (joined rest) (omega (arith, few)))
          ∙ (ap (take p.count) (sym all) ∙ f.same)));
    }

-- Some line was heard, and it has at least one byte.
line-long : (r : Reply) → is_line r ≡ true → 0 < length (shown_line r)
line-long (Okay text) l = absurd cc
line-long (Fail text) l = absurd cc
line-long (Info text) l = omega arith
line-long (Text text) l = omega arith
line-long (Load count) l = absurd cc

cut-told : (name : List ℕ) (infos : List Reply) (w : Wire) → list_all is_line infos ≡ true → 0 < length infos → Fronts name infos w → (x y : Option (List ℕ)) → GrewPart x y (shown_lines infos) → IsCutIn (lines_to w.device name) x y
cut-told name infos w l some f (Some x) (Some y) g = cut-in (lines_to w.device name) (map shown_line infos) f.0 (shown_lines infos) f.1 (sym (joined-lines infos)) x y g
cut-told name infos w l some f (Some x) None g = absurd g
cut-told name infos w l some f None (Some y) g = absurd g
cut-told name [] w l some f None None g = absurd (omega (arith, some))
cut-told name (i ∷ infos) w l some f None None g = record {
  count = 0;
  line = shown_line i;
  next = ap (λ ls. slice_get ls 0) f.1;
  n = 0;
  short = line-long i (both (is_line i) (list_all is_line infos) l).0;
  grew = tt;
}

pub unasked-unshown : (name : List ℕ) (a b : Seen) → ShownInPart (SaysFirst (GetVar name) a.port.peer) 0 a b → IsCutOff (GetVar name) a.port b.port → Exchanged (GetVar name) a.port b.port None → Kept a.port b.port → IsUnasked name a b stop.Output
unasked-unshown name a b k cut x kept =
    let broke = Rose a.port.faults b.port.faults in
    record {
      why = tt;
      unrefused = tt;
      still = told-off (λ s t. t ≡ s) a.port.peer b.port.peer
          (with-off (λ w. (more : List Reply) × ((said_to (GetVar name) w).replies ≡ k.infos ++ more)) (IsInterrupted broke (GetVar name)) (λ w dev. dev ≡ w.device) (λ w dev p q. same-cut broke name w dev q) a.port.peer b.port.peer k.due x);
      shown = told-off (λ s t. IsCutIn (lines_to s name) a.text b.text) a.port.peer b.port.peer
          (with-off (λ w. (more : List Reply) × ((said_to (GetVar name) w).replies ≡ k.infos ++ more)) (IsInterrupted broke (GetVar name)) (λ w dev. IsCutIn (lines_to w.device name) a.text b.text)
          (λ w dev p q. cut-told name k.infos w k.lines k.some (fronts name k.infos k.lines w p) a.text b.text k.shown) a.port.peer b.port.peer k.due x);
      grows = grows-part a.text b.text (shown_lines k.infos) k.shown;
      heard = λ h. tt;
      down = cut.down;
      sound = cut.sound;
      kept = kept;
    }
