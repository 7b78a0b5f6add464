-- What a command's replies leave: a command is awaited again, or data is.
use Rattle.std.proofs.Common.{◌≡◌, ◌⊎◌, inl, inr, ℕ, ◌+◌, ◌-◌, ◌*◌, ◌^◌, ◌<◌, ◌≤◌, Bool, true, false, cond, List, [], ◌∷◌, ◌++◌, length, Option, Some, None, refl, sym, ap, ◌∙◌, subst, arith, append-nil, length-append}
use Rattle.std.specs.Prelude.{◌==◌, nat_lt, codes}
use Rattle.std.specs.List.{list_all}
use Rattle.std.proofs.lemmas.Bool.Decides.{nat_tests}
use Rattle.fb_frame.specs.Framing.{frame}
use Rattle.fb_message.specs.declared.reply.Reply.{Reply}
use Rattle.fb_message.specs.declared.reply.Reply.TheVariants.{Okay, Fail, Info, Text, Load}
use Rattle.fb_message.specs.ReplyText.{reply_fits}
use Rattle.fb_message.specs.CommandText.{CommandValue, GetVar, Download, Flash, Erase, SetActive, Reboot, Continue, Lock, Unlock, UnlockAbility, UpdateSuper, Create, Delete, Resize, Unknown, command_of}
use Rattle.dev_model.specs.declared.device.Dev.{Dev}
use Rattle.dev_model.specs.Refusals.{download_refusal}
use Rattle.dev_model.specs.Validity.{IsValid}
use Rattle.wire_model.specs.Says.{Loaded, Said, says, awaits}
use Rattle.wire_model.specs.Wire.{Wire, Command, Data, with_replies, answered, after}
use Rattle.wire_model.specs.Replies.{IsNoLoad}
use Rattle.wire_told.specs.Told.{GoesBy, IsIdle, done, StartsPlain, IsReceiving}
use Rattle.wire_told.specs.Answered.{is_line, ends_well, reply_frames, IsSaid, IsAnswered, IsListening, IsBetween, IsDue, IsLoadedNow, IsSending, IsVerdict, announces, is_announced, suits, got_by, got_of, IsWritten}
use Rattle.wire_told.proofs.Going.{goes-plain, goes-after}
use Rattle.wire_model.proofs.GoesValid.{goes_keeps_valid}
use Rattle.wire_told.proofs.RepliesLemmas.{awaited-plain}
use Rattle.wire_told.proofs.DataLemmas.{taken, filled, loaded_by, received-device, received-got}
use Rattle.wire_model.proofs.ValidReplies.{AllPlain, says-plain, IsNoDownload}
use Rattle.wire_told.proofs.HearingLemmas.{same-replies}

verdict-plain : (end : Reply) → IsVerdict end → IsNoLoad end
verdict-plain (Okay text) v = tt
verdict-plain (Fail text) v = tt
verdict-plain (Info text) v = tt
verdict-plain (Text text) v = tt
verdict-plain (Load count) v = v

starts-plain : (infos : List Reply) (end : Reply) → list_all is_line infos ≡ true → IsVerdict end → StartsPlain (infos ++ end ∷ [])
starts-plain [] end l v = verdict-plain end v
starts-plain (Info text ∷ infos) end l v = tt
starts-plain (Text text ∷ infos) end l v = tt
starts-plain (Okay text ∷ infos) end l v = tt
starts-plain (Fail text ∷ infos) end l v = tt
starts-plain (Load count ∷ infos) end l v = absurd cc

nothing-left : (x y : List ℕ) → x ++ y ≡ x → y ≡ []
nothing-left x [] e = refl
nothing-left x (b ∷ y) e = absurd (omega (arith, ap length e, length-append x (b ∷ y)))

answered-plain : (said : Said) (w : Wire) → StartsPlain said.replies → answered said w ≡ record (with_replies said.replies w) { device = said.device; loaded = said.loaded; closed = said.closed }
answered-plain said w s = awaited-plain said.replies (record (with_replies said.replies w) { device = said.device; loaded = said.loaded; closed = said.closed }) s

-- the device of the state after a heard answer is one that there can be
heard-valid : (broke : Type 0) (bytes x : List ℕ) (w v u : Wire) → IsValid w.device → GoesBy broke w bytes v → v ≡ record u { out = x ++ u.out } → IsValid u.device
heard-valid broke bytes x w v u valid g e =
    let P : Dev → Type 0 = λ d. IsValid d in
    subst P (ap (λ (y : Wire). y.device) e) (goes_keeps_valid w v bytes valid (goes-plain broke w v bytes g))

between-by : (broke : Type 0) (spare : ℕ) (p : List ℕ) (infos : List Reply) (end : Reply) (w u : Wire) → list_all is_line infos ≡ true → IsVerdict end → IsIdle spare w → IsValid u.device → IsAnswered broke p (infos ++ end ∷ []) w u → IsBetween u
between-by broke spare p infos end w u l k i valid (inl s) =
    let said = says w.device w.loaded (command_of p) in
    let plain : StartsPlain said.replies = subst StartsPlain s.all (starts-plain infos end l k) in
    let all : record u { out = reply_frames (infos ++ end ∷ []) ++ u.out } ≡ record (record (with_replies said.replies w) { device = said.device; loaded = said.loaded; closed = said.closed }) { rest = []; taken = w.taken + length (frame p) } =
    s.state ∙ ap (λ (x : Wire). record x { rest = []; taken = w.taken + length (frame p) }) (answered-plain said w plain) in
    let o : reply_frames (infos ++ end ∷ []) ++ u.out ≡ reply_frames (infos ++ end ∷ []) =
    ap (λ (x : Wire). x.out) all ∙ (ap (λ t. t ++ reply_frames said.replies) i.quiet ∙ ap reply_frames (sym s.all)) in
    record {
      quiet = nothing-left (reply_frames (infos ++ end ∷ [])) u.out o;
      commanding = ap (λ (x : Wire). x.phase) all ∙ i.commanding;
      rest = ap (λ (x : Wire). x.rest) all;
      valid = valid;
    }
between-by broke spare p infos end w u l k i valid (inr f) = record {
  quiet = ap (λ (x : Wire). x.out) f.1.state ∙ i.quiet;
  commanding = ap (λ (x : Wire). x.phase) f.1.state ∙ i.commanding;
  rest = ap (λ (x : Wire). x.rest) f.1.state;
  valid = valid;
}

-- after OKAY and FAIL a command is awaited
pub between-again : (broke : Type 0) (spare : ℕ) (p : List ℕ) (infos : List Reply) (end : Reply) (w v u : Wire) → list_all is_line infos ≡ true → IsVerdict end → IsIdle spare w → IsValid w.device → GoesBy broke w (frame p) v → v ≡ record u { out = reply_frames (infos ++ end ∷ []) ++ u.out } → IsAnswered broke p (infos ++ end ∷ []) w u → IsBetween u
between-again broke spare p infos end w v u l k i valid g e a =
    between-by broke spare p infos end w u l k i (heard-valid broke (frame p) (reply_frames (infos ++ end ∷ [])) w v u valid g e) a

-- a list that ends with x and has one element is x alone
single : (infos : List Reply) (x y : Reply) → infos ++ x ∷ [] ≡ y ∷ [] → (infos ≡ []) × (x ≡ y)
single [] x y e = (refl, cc)
single (i ∷ infos) x y e =
    let n = ap length e in
    let m = length-append infos (x ∷ []) in
    absurd (omega (arith, n, m))

-- what a device says to a download
download-said : (refusal : Option (List ℕ)) (count : ℕ) (dev : Dev) (loaded : Loaded) (end : Reply) → end ∷ [] ≡ (awaits refusal count dev loaded).replies →
    ((text : List ℕ) × (end ≡ Fail text)) ⊎ ((end ≡ Load count) × (awaits refusal count dev loaded ≡ record { replies = Load count ∷ []; device = dev; loaded = None; closed = false }))
download-said (Some text) count dev loaded end e = inl (text, cc)
download-said None count dev loaded end e = inr (cc, refl)

abbrev asked_for : Wire → ℕ → Said
asked_for w count = says w.device w.loaded (Download count)

to-load : (w : Wire) (count : ℕ) (end : Reply) → end ∷ [] ≡ (asked_for w count).replies →
    ((text : List ℕ) × (end ≡ Fail text)) ⊎ ((end ≡ Load count) × (asked_for w count ≡ record { replies = Load count ∷ []; device = w.device; loaded = None; closed = false }))
unfolding says
to-load w count end e = download-said (download_refusal w.device count) count w.device w.loaded end e

awaits-one : (refusal : Option (List ℕ)) (count : ℕ) (dev : Dev) (loaded : Loaded) → (only : Reply) × ((awaits refusal count dev loaded).replies ≡ only ∷ [])
awaits-one (Some text) count dev loaded = (Fail text, refl)
awaits-one None count dev loaded = (Load count, refl)

one-reply : (w : Wire) (count : ℕ) → (only : Reply) × ((asked_for w count).replies ≡ only ∷ [])
unfolding says
one-reply w count = awaits-one (download_refusal w.device count) count w.device w.loaded

suits-okay : (c : CommandValue) (text : List ℕ) → IsNoDownload c → suits c (Okay text) ≡ true
suits-okay (GetVar name) text n = refl
suits-okay (Download count) text n = absurd n
suits-okay (Flash name) text n = refl
suits-okay (Erase name) text n = refl
suits-okay (SetActive slot) text n = refl
suits-okay (Reboot what) text n = refl
suits-okay Continue text n = refl
suits-okay Lock text n = refl
suits-okay Unlock text n = refl
suits-okay UnlockAbility text n = refl
suits-okay (UpdateSuper name wipe) text n = refl
suits-okay (Create name size) text n = refl
suits-okay (Delete name) text n = refl
suits-okay (Resize name size) text n = refl
suits-okay Unknown text n = refl

plain-last : (infos : List Reply) (end : Reply) → AllPlain (infos ++ end ∷ []) → IsNoLoad end
plain-last [] end p = p.0
plain-last (i ∷ infos) end p = plain-last infos end p.1

plain-suits : (c : CommandValue) (end : Reply) → IsNoDownload c → is_line end ≡ false → IsNoLoad end → suits c end ≡ true
plain-suits c (Okay text) n l p = suits-okay c text n
plain-suits c (Fail text) n l p = refl
plain-suits c (Info text) n l p = absurd cc
plain-suits c (Text text) n l p = absurd cc
plain-suits c (Load count) n l p = absurd p

same-count : (count : ℕ) → (count == count) ≡ true
same-count count = grind (arith, nat_tests)

load-suits : (count : ℕ) (end : Reply) → ((text : List ℕ) × (end ≡ Fail text)) ⊎ (end ≡ Load count) → suits (Download count) end ≡ true
load-suits count end (inl f) = ap (suits (Download count)) f.1
load-suits count end (inr e) = ap (suits (Download count)) e ∙ same-count count

download-suits : (w : Wire) (count : ℕ) (infos : List Reply) (end : Reply) → infos ++ end ∷ [] ≡ (asked_for w count).replies → suits (Download count) end ≡ true
download-suits w count infos end e =
    let one = one-reply w count in
    let s = single infos end one.0 (e ∙ one.1) in
    pick (to-load w count end (ap (λ t. t ++ end ∷ []) (sym s.0) ∙ e))
  where
    pick : ((text : List ℕ) × (end ≡ Fail text)) ⊎ ((end ≡ Load count) × (asked_for w count ≡ record { replies = Load count ∷ []; device = w.device; loaded = None; closed = false })) → suits (Download count) end ≡ true
    pick (inl f) = load-suits count end (inl f)
    pick (inr g) = load-suits count end (inr g.0)

said-suits : (w : Wire) (c : CommandValue) (infos : List Reply) (end : Reply) → is_line end ≡ false → infos ++ end ∷ [] ≡ (says w.device w.loaded c).replies → suits c end ≡ true
said-suits w (Download count) infos end l e = download-suits w count infos end e
said-suits w (GetVar name) infos end l e = plain-suits (GetVar name) end tt l (plain-last infos end (subst AllPlain (sym e) (says-plain w.device w.loaded (GetVar name) tt)))
said-suits w (Flash name) infos end l e = plain-suits (Flash name) end tt l (plain-last infos end (subst AllPlain (sym e) (says-plain w.device w.loaded (Flash name) tt)))
said-suits w (Erase name) infos end l e = plain-suits (Erase name) end tt l (plain-last infos end (subst AllPlain (sym e) (says-plain w.device w.loaded (Erase name) tt)))
said-suits w (SetActive slot) infos end l e = plain-suits (SetActive slot) end tt l (plain-last infos end (subst AllPlain (sym e) (says-plain w.device w.loaded (SetActive slot) tt)))
said-suits w (Reboot what) infos end l e = plain-suits (Reboot what) end tt l (plain-last infos end (subst AllPlain (sym e) (says-plain w.device w.loaded (Reboot what) tt)))
said-suits w Continue infos end l e = plain-suits Continue end tt l (plain-last infos end (subst AllPlain (sym e) (says-plain w.device w.loaded Continue tt)))
said-suits w Lock infos end l e = plain-suits Lock end tt l (plain-last infos end (subst AllPlain (sym e) (says-plain w.device w.loaded Lock tt)))
said-suits w Unlock infos end l e = plain-suits Unlock end tt l (plain-last infos end (subst AllPlain (sym e) (says-plain w.device w.loaded Unlock tt)))
said-suits w UnlockAbility infos end l e = plain-suits UnlockAbility end tt l (plain-last infos end (subst AllPlain (sym e) (says-plain w.device w.loaded UnlockAbility tt)))
said-suits w (UpdateSuper name wipe) infos end l e = plain-suits (UpdateSuper name wipe) end tt l (plain-last infos end (subst AllPlain (sym e) (says-plain w.device w.loaded (UpdateSuper name wipe) tt)))
said-suits w (Create name size) infos end l e = plain-suits (Create name size) end tt l (plain-last infos end (subst AllPlain (sym e) (says-plain w.device w.loaded (Create name size) tt)))
said-suits w (Delete name) infos end l e = plain-suits (Delete name) end tt l (plain-last infos end (subst AllPlain (sym e) (says-plain w.device w.loaded (Delete name) tt)))
said-suits w (Resize name size) infos end l e = plain-suits (Resize name size) end tt l (plain-last infos end (subst AllPlain (sym e) (says-plain w.device w.loaded (Resize name size) tt)))
said-suits w Unknown infos end l e = plain-suits Unknown end tt l (plain-last infos end (subst AllPlain (sym e) (says-plain w.device w.loaded Unknown tt)))

-- what a device answers to a command may end it
pub answered-suits : (broke : Type 0) (p : List ℕ) (infos : List Reply) (end : Reply) (w u : Wire) → is_line end ≡ false → IsAnswered broke p (infos ++ end ∷ []) w u → suits (command_of p) end ≡ true
answered-suits broke p infos end w u l (inl s) = said-suits w (command_of p) infos end l s.all
answered-suits broke p infos end w u l (inr f) =
    let s = single infos end (Fail (codes "disk fault")) f.1.told in
    ap (suits (command_of p)) s.1

-- A download that was answered by DATA.
with-load : (count : ℕ) (w : Wire) → Wire
with-load count w = record w { out = w.out ++ reply_frames (Load count ∷ []); loaded = None; closed = false }

load-answered : (b : Bool) (count : ℕ) (w : Wire) → (0 == count) ≡ b →
    answered (record { replies = Load count ∷ []; device = w.device; loaded = None; closed = false }) w
    ≡ cond b (record (with-load count w) { out = (with-load count w).out ++ reply_frames (Okay [] ∷ []); loaded = Some []; phase = Command }) (record (with-load count w) { phase = Data count [] })
unfolding with-load
load-answered b count w e =
    ap (λ (c : Bool). cond c (record (with-load count w) { out = (with-load count w).out ++ reply_frames (Okay [] ∷ []); loaded = Some []; phase = Command }) (record (with-load count w) { phase = Data count [] })) e

append-same : (x y z : List ℕ) → x ++ y ≡ x ++ z → y ≡ z
append-same [] y z e = e
append-same (b ∷ x) y z e = append-same x y z (ap tail e)
  where
    tail : List ℕ → List ℕ
    tail [] = []
    tail (c ∷ cs) = cs

zero-count : (count : ℕ) → (0 == count) ≡ true → count ≡ 0
zero-count count e = let h : count ≡ 0 = grind (arith, nat_tests) in h

some-count : (count : ℕ) → (0 == count) ≡ false → 0 < count
some-count count e = let h : 0 < count = grind (arith, nat_tests) in h

-- a download has begun, of which no data came yet
abbrev pub IsBegun : ℕ → Wire → Type 0
IsBegun count u = IsSending count u × (got_of u ≡ [])

sending-by : (b : Bool) (spare count : ℕ) (p : List ℕ) (w u : Wire) → (0 == count) ≡ b → IsIdle spare w → IsValid w.device → w.taken + length (frame p) + 9 * count < 2 ^ 62 →
    says w.device w.loaded (command_of p) ≡ record { replies = Load count ∷ []; device = w.device; loaded = None; closed = false } →
    record u { out = reply_frames (Load count ∷ []) ++ u.out } ≡ done p w → IsBegun count u
unfolding with-load got_of
sending-by true spare count p w u e i valid room said state =
    let n = zero-count count e in
    let all : record u { out = reply_frames (Load count ∷ []) ++ u.out } ≡ record (record (with-load count w) { out = (with-load count w).out ++ reply_frames (Okay [] ∷ []); loaded = Some []; phase = Command }) { rest = []; taken = w.taken + length (frame p) } =
    state ∙ (ap (λ s. record (answered s w) { rest = []; taken = w.taken + length (frame p) }) said ∙ ap (λ (x : Wire). record x { rest = []; taken = w.taken + length (frame p) }) (load-answered true count w e)) in
    let o : reply_frames (Load count ∷ []) ++ u.out ≡ reply_frames (Load count ∷ []) ++ reply_frames (Okay [] ∷ []) =
    ap (λ (x : Wire). x.out) all ∙ ap (λ t. (t ++ reply_frames (Load count ∷ [])) ++ reply_frames (Okay [] ∷ [])) i.quiet in
    let P : Dev → Type 0 = λ d. IsValid d in (
      record {
        running = ap (λ (x : Wire). x.closed) all;
        rest = ap (λ (x : Wire). x.rest) all;
        valid = subst P (sym (ap (λ (x : Wire). x.device) all)) valid;
        bounded = omega (arith, room, ap (λ (x : Wire). x.taken) all);
        due = inr (n, record { got = []; loaded = ap (λ (x : Wire). x.loaded) all; commanding = ap (λ (x : Wire). x.phase) all; okay = append-same (reply_frames (Load count ∷ [])) u.out (reply_frames (Okay [] ∷ [])) o });
      },
      ap got_of all,
    )
sending-by false spare count p w u e i valid room said state =
    let n = some-count count e in
    let all : record u { out = reply_frames (Load count ∷ []) ++ u.out } ≡ record (record (with-load count w) { phase = Data count [] }) { rest = []; taken = w.taken + length (frame p) } =
    state ∙ (ap (λ s. record (answered s w) { rest = []; taken = w.taken + length (frame p) }) said ∙ ap (λ (x : Wire). record x { rest = []; taken = w.taken + length (frame p) }) (load-answered false count w e)) in
    let o : reply_frames (Load count ∷ []) ++ u.out ≡ reply_frames (Load count ∷ []) =
    ap (λ (x : Wire). x.out) all ∙ ap (λ t. t ++ reply_frames (Load count ∷ [])) i.quiet in
    let P : Dev → Type 0 = λ d. IsValid d in (
      record {
        running = ap (λ (x : Wire). x.closed) all;
        rest = ap (λ (x : Wire). x.rest) all;
        valid = subst P (sym (ap (λ (x : Wire). x.device) all)) valid;
        bounded = omega (arith, room, ap (λ (x : Wire). x.taken) all);
        due = inl (n, record { count = count; got = []; receiving = ap (λ (x : Wire). x.phase) all; all = omega arith; quiet = nothing-left (reply_frames (Load count ∷ [])) u.out o });
      },
      ap got_of all,
    )

load-not-fail : (count : ℕ) (text : List ℕ) → Load count ≡ Fail text → ⊥
load-not-fail count text e = cc

sending-said : (spare count : ℕ) (p : List ℕ) (infos : List Reply) (w u : Wire) → command_of p ≡ Download count → IsIdle spare w → IsValid w.device → w.taken + length (frame p) + 9 * count < 2 ^ 62 → IsSaid p (infos ++ Load count ∷ []) w u → IsBegun count u
sending-said spare count p infos w u c i valid room s =
    let e : infos ++ Load count ∷ [] ≡ (asked_for w count).replies = s.all ∙ ap (λ x. (says w.device w.loaded x).replies) c in
    let one = one-reply w count in
    let alone = single infos (Load count) one.0 (e ∙ one.1) in
    pick alone.0 (to-load w count (Load count) (ap (λ t. t ++ Load count ∷ []) (sym alone.0) ∙ e))
  where
    pick : infos ≡ [] → ((text : List ℕ) × (Load count ≡ Fail text)) ⊎ ((Load count ≡ Load count) × (asked_for w count ≡ record { replies = Load count ∷ []; device = w.device; loaded = None; closed = false })) → IsBegun count u
    pick n (inl f) = absurd (load-not-fail count f.0 f.1)
    pick n (inr g) =
        sending-by (0 == count) spare count p w u refl i valid room
        (ap (λ x. says w.device w.loaded x) c ∙ g.1)
        (ap (λ t. record u { out = reply_frames t ++ u.out }) (ap (λ t. t ++ Load count ∷ []) (sym n)) ∙ s.state)

fault-no-load : (infos : List Reply) (count : ℕ) → infos ++ Load count ∷ [] ≡ Fail (codes "disk fault") ∷ [] → ⊥
fault-no-load infos count e = load-not-fail count (codes "disk fault") (single infos (Load count) (Fail (codes "disk fault")) e).1

pub sending-load : (broke : Type 0) (spare count : ℕ) (p : List ℕ) (infos : List Reply) (w u : Wire) → command_of p ≡ Download count → IsIdle spare w → IsValid w.device → w.taken + length (frame p) + 9 * count < 2 ^ 62 → IsAnswered broke p (infos ++ Load count ∷ []) w u → IsBegun count u
sending-load broke spare count p infos w u c i valid room (inl s) = sending-said spare count p infos w u c i valid room s
sending-load broke spare count p infos w u c i valid room (inr f) = absurd (fault-no-load infos count f.1.told)

-- Data.
pub due-receiving : (left : ℕ) (w : Wire) → IsSending left w → (d : IsDue left w) → IsReceiving 0 d.count d.got w
due-receiving left w s d = record {
  running = s.running;
  quiet = d.quiet;
  receiving = d.receiving;
  rest = s.rest;
  bounded = omega (arith, s.bounded, d.all);
}

pub due-of : (left : ℕ) (w : Wire) → 0 < left → IsSending left w → IsDue left w
due-of left w some s = pick s.due
  where
    pick : ((0 < left) × IsDue left w) ⊎ ((left ≡ 0) × IsLoadedNow w) → IsDue left w
    pick (inl d) = d.1
    pick (inr z) = absurd (omega (arith, some, z.0))

-- a frame of data was taken in whole
pub took-data : (broke : Type 0) (left : ℕ) (p : List ℕ) (w v : Wire) → IsSending left w → 0 < length p → length p ≤ left → length p ≤ 65536 → GoesBy broke w (frame p) v → v ≡ after w (frame p)
took-data broke left p w v s some h small g =
    let d = due-of left w (omega arith) s in
    let i = due-receiving left w s d in
    let one = taken broke 0 d.count d.got p w v i some (omega (arith, h, d.all)) small g in
    let two = taken broke 0 d.count d.got p w (after w (frame p)) i some (omega (arith, h, d.all)) small (goes-after broke w (frame p)) in
    one ∙ sym two

sending-some : (broke : Type 0) (left : ℕ) (p : List ℕ) (w v : Wire) → IsSending left w → 0 < length p → length p < left → length p ≤ 65536 → GoesBy broke w (frame p) v → IsSending (left - length p) v
sending-some broke left p w v s some h small g =
    let d = due-of left w (omega arith) s in
    let i = due-receiving left w s d in
    let f = filled broke 0 d.count d.got p w v i some (omega (arith, h, d.all)) small g in
    let m = length-append d.got p in
    let P : Dev → Type 0 = λ x. IsValid x in
    record {
      running = f.receiving.running;
      rest = f.receiving.rest;
      valid = subst P (sym f.device) s.valid;
      bounded = omega (arith, f.receiving.bounded, d.all, m);
      due = inl (omega (arith, h), record { count = d.count; got = d.got ++ p; receiving = f.receiving.receiving; all = omega (arith, d.all, m, h); quiet = f.receiving.quiet });
    }

sending-last : (broke : Type 0) (left : ℕ) (p : List ℕ) (w v : Wire) → IsSending left w → 0 < length p → length p ≡ left → length p ≤ 65536 → GoesBy broke w (frame p) v → IsSending (left - length p) v
sending-last broke left p w v s some h small g =
    let d = due-of left w (omega arith) s in
    let i = due-receiving left w s d in
    let f = loaded_by broke 0 d.count d.got p w v i some (omega (arith, h, d.all)) small g in
    let P : Dev → Type 0 = λ x. IsValid x in
    record {
      running = f.running;
      rest = f.rest;
      valid = subst P (sym f.device) s.valid;
      bounded = omega (arith, f.bounded, h);
      due = inr (omega (arith, h), record { got = d.got ++ p; loaded = f.loaded; commanding = f.commanding; okay = f.out ∙ sym (append-nil (frame (codes "OKAY"))) });
    }

less-or-all : (m n : ℕ) → m ≤ n → (b : Bool) → nat_lt m n ≡ b → (m < n) ⊎ (m ≡ n)
less-or-all m n h true e = inl (let k : m < n = grind (arith, nat_tests) in k)
less-or-all m n h false e = inr (let k : n ≤ m = grind (arith, nat_tests) in omega (arith, h, k))

pub sending-less : (broke : Type 0) (left : ℕ) (p : List ℕ) (w v : Wire) → IsSending left w → 0 < length p → length p ≤ left → length p ≤ 65536 → GoesBy broke w (frame p) v → IsSending (left - length p) v
sending-less broke left p w v s some h small g = pick (less-or-all (length p) left h (nat_lt (length p) left) refl)
  where
    pick : (length p < left) ⊎ (length p ≡ left) → IsSending (left - length p) v
    pick (inl k) = sending-some broke left p w v s some k small g
    pick (inr k) = sending-last broke left p w v s some k small g

got-due : (w : Wire) (count : ℕ) (got : List ℕ) → w.phase ≡ Data count got → got_of w ≡ got
unfolding got_of
got-due w count got e = ap (λ ph. got_by ph w.loaded) e

-- and its data came after what came before
pub written : (broke : Type 0) (left : ℕ) (p : List ℕ) (w v : Wire) → IsSending left w → 0 < length p → length p ≤ left → length p ≤ 65536 → GoesBy broke w (frame p) v → IsWritten p w v
written broke left p w v s some h small g =
    let d = due-of left w (omega arith) s in
    let i = due-receiving left w s d in
    let e = taken broke 0 d.count d.got p w v i some (omega (arith, h, d.all)) small g in
    let n = w.taken + length (frame p) in
    record {
      state = took-data broke left p w v s some h small g;
      device = ap (λ (x : Wire). x.device) e ∙ received-device d.count (d.got ++ p) w n;
      got = ap got_of e ∙ (received-got d.count (d.got ++ p) w n ∙ ap (λ t. t ++ p) (sym (got-due w d.count d.got d.receiving)));
      running = (sending-less broke left p w v s some h small g).running;
      taken = ap (λ (x : Wire). x.taken) e;
    }

-- The end of a download.
loaded-by : (left : ℕ) (w : Wire) → left ≡ 0 → ((0 < left) × IsDue left w) ⊎ ((left ≡ 0) × IsLoadedNow w) → IsLoadedNow w
loaded-by left w n (inl d) = absurd (omega (arith, d.0, n))
loaded-by left w n (inr z) = z.1

loaded-of : (w : Wire) → IsSending 0 w → IsLoadedNow w
loaded-of w s = loaded-by 0 w refl s.due

-- what came is loaded, whatever was heard
pub loads : (x : List ℕ) (w v : Wire) → IsSending 0 w → w ≡ record v { out = x ++ v.out } → v.loaded ≡ Some (got_of w)
unfolding got_of
loads x w v s e =
    let l = loaded-of w s in
    let g : got_by w.phase w.loaded ≡ l.got = ap (λ ph. got_by ph w.loaded) l.commanding ∙ ap (λ o. got_by Command o) l.loaded in
    sym (ap (λ (x : Wire). x.loaded) e) ∙ (l.loaded ∙ ap Some (sym g))

pub sent-okay : (n : ℕ) (w : Wire) → n < 10000 → IsSending 0 w → IsListening n w
sent-okay n w h s =
    let l = loaded-of w s in
    record { more = Okay [] ∷ []; extra = []; due = l.okay ∙ sym (append-nil (reply_frames (Okay [] ∷ []))); ends = refl; fits = refl; few = omega (arith, h) }

-- OKAY alone was heard, and a command is awaited
pub finished : (rs : List Reply) (w u : Wire) → IsSending 0 w → ends_well rs ≡ true → list_all reply_fits rs ≡ true → w ≡ record u { out = reply_frames rs ++ u.out } → (rs ≡ Okay [] ∷ []) × IsBetween u
finished rs w u s ends fits e =
    let l = loaded-of w s in
    let all = same-replies rs (Okay [] ∷ []) u.out [] ends refl fits refl (sym (ap (λ (x : Wire). x.out) e) ∙ (l.okay ∙ sym (append-nil (reply_frames (Okay [] ∷ []))))) in
    let P : Dev → Type 0 = λ x. IsValid x in (
      all.0,
      record {
        quiet = all.1;
        commanding = sym (ap (λ (x : Wire). x.phase) e) ∙ l.commanding;
        rest = sym (ap (λ (x : Wire). x.rest) e) ∙ s.rest;
        valid = subst P (ap (λ (x : Wire). x.device) e) s.valid;
      },
    )

-- DATA ends a download of its own count alone
announced-by : (c : CommandValue) (o : Option ℕ) (n : ℕ) → announces c ≡ o → is_announced o n ≡ true → announces c ≡ Some n
announced-by c None n e f = absurd cc
announced-by c (Some count) n e f = let h : n ≡ count = grind (arith, nat_tests) in e ∙ ap Some (sym h)

pub suits-load : (c : CommandValue) (n : ℕ) → suits c (Load n) ≡ true → announces c ≡ Some n
suits-load c n f = announced-by c (announces c) n refl f

some-count-same : (m n : ℕ) → Some m ≡ Some n → m ≡ n
some-count-same m n e = cc

pub announces-download : (c : CommandValue) (n : ℕ) → announces c ≡ Some n → c ≡ Download n
announces-download (Download count) n e = ap Download (some-count-same count n e)
announces-download (GetVar name) n e = absurd cc
announces-download (Flash name) n e = absurd cc
announces-download (Erase name) n e = absurd cc
announces-download (SetActive slot) n e = absurd cc
announces-download (Reboot what) n e = absurd cc
announces-download Continue n e = absurd cc
announces-download Lock n e = absurd cc
announces-download Unlock n e = absurd cc
announces-download UnlockAbility n e = absurd cc
announces-download (UpdateSuper name wipe) n e = absurd cc
announces-download (Create name size) n e = absurd cc
announces-download (Delete name) n e = absurd cc
announces-download (Resize name size) n e = absurd cc
announces-download Unknown n e = absurd cc
