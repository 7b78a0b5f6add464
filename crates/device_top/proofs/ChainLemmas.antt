-- Connections that were served one after another, by the devices that they leave.
use Rattle.std.proofs.Common.{◌≡◌, ◌≢◌, ℕ, ◌≤◌, List, [], ◌∷◌, take, Option, Some, None, is_some, refl, sym, ap, subst, ◌∙◌, arith}
use Rattle.std.specs.Prelude.{IsTrue}
use Rattle.fb_frame.specs.Causes.{Rose}
use Rattle.dev_disk.specs.Disks.{DiskTold}
use Rattle.dev_disk.proofs.TwinLemmas.{Rose-behind, Rose-before}
use Rattle.dev_model.specs.declared.device.Dev.{Dev}
use Rattle.dev_model.specs.declared.device.Mode.{Mode}
use Rattle.dev_model.specs.declared.device.Mode.TheVariants as mode
use Rattle.dev_model.specs.Partitions.{is_fastboot}
use Rattle.dev_store.specs.Held.{Held, image_of, seen}
use Rattle.device_engine.specs.Running.{HasDevice, HasDeviceIn}
use Rattle.wire_model.specs.Wire.{fresh}
use Rattle.wire_told.proofs.Going.{goes-weaker}
use Rattle.device_session.specs.Gates.{Connection}
use Rattle.device_session.specs.Serving.{ServesOne, Serves}
use Rattle.device_session.proofs.StillLemmas.{running, has-in}
use Rattle.device_top.specs.Serving.{Connects, Leads}

-- the device that is held of one that didn't halt
has-back : {K : Type 0} (told : K → DiskTold) (held : Held K) (m : Mode) (dev : Dev) → m ≢ mode.Halted → HasDeviceIn m told held dev → dev ≡ held.device
has-back told held mode.Bootloader dev n h = h
has-back told held mode.Userspace dev n h = h
has-back told held mode.System dev n h = h
has-back told held mode.Recovery dev n h = h
has-back told held mode.Halted dev n h = absurd (n refl)

mode-in : {K : Type 0} (told : K → DiskTold) (held : Held K) (m : Mode) (dev : Dev) → held.device.mode ≡ m → HasDeviceIn m told held dev → dev.mode ≡ held.device.mode
mode-in told held mode.Bootloader dev e h = ap (λ (d : Dev). d.mode) h
mode-in told held mode.Userspace dev e h = ap (λ (d : Dev). d.mode) h
mode-in told held mode.System dev e h = ap (λ (d : Dev). d.mode) h
mode-in told held mode.Recovery dev e h = ap (λ (d : Dev). d.mode) h
mode-in told held mode.Halted dev e h = h.0 ∙ sym e

-- a device that is held has the mode that is held
pub has-mode : {K : Type 0} (told : K → DiskTold) (held : Held K) (dev : Dev) → HasDevice told held dev → dev.mode ≡ held.device.mode
has-mode told held dev h = mode-in told held held.device.mode dev refl h

seen-told : (file : Option (List ℕ)) (dev : Dev) → IsTrue (is_some file) → seen file dev ≡ dev
unfolding seen
seen-told None dev e = absurd cc
seen-told (Some file) dev e = refl

-- what connections make of a device, where a disk call can have failed only after this count
pub record Chain {K : Type 0} (told : K → DiskTold) (first : ℕ) (old new : Held K) (served : List Connection) : Type 0 where
  pub later : (told old.disk).faults ≤ (told new.disk).faults
  pub left : Dev
  pub leads : Leads (Rose first (told new.disk).faults) old.device served left
  pub has : HasDevice told new left

connects : {K : Type 0} (told : K → DiskTold) (first last : ℕ) (old mid : Held K) (c : Connection) (left : Dev) → first ≤ (told old.disk).faults → (told mid.disk).faults ≤ last →
    (one : ServesOne told old mid c) → left ≡ one.state.device → Connects (Rose first last) old.device c left
connects told first last old mid c left a b one e =
    let before = (told old.disk).faults in
    let now = (told mid.disk).faults in
    record {
      begins = one.begins;
      state = one.state;
      taken = one.taken;
      within = one.within;
      goes = goes-weaker (Rose before now) (Rose first last) (λ r. Rose-before first now last (Rose-behind first before now a r) b) (fresh old.device) one.state
          (take one.taken c.gives) one.goes;
      leaves = e;
      written = one.written;
      whole = one.whole;
      ended = one.ended;
    }

none-chain : {K : Type 0} (told : K → DiskTold) (first : ℕ) (old : Held K) → IsTrue (is_fastboot old.device.mode) → Chain told first old old []
none-chain told first old f = record {
  later = omega arith;
  left = old.device;
  leads = refl;
  has = has-in told old old.device.mode old.device (running old.device.mode f) refl;
}

one-chain : {K : Type 0} (told : K → DiskTold) (first : ℕ) (old mid : Held K) (c : Connection) → first ≤ (told old.disk).faults → ServesOne told old mid c → Chain told first old mid (c ∷ [])
one-chain told first old mid c a one = record {
  later = one.later;
  left = one.state.device;
  leads = (one.state.device, connects told first (told mid.disk).faults old mid c one.state.device a (omega arith) one refl, refl);
  has = subst (HasDevice told mid) (seen-told (image_of told mid) one.state.device one.tells) one.left;
}

more-chain : {K : Type 0} (told : K → DiskTold) (first : ℕ) (old mid new : Held K) (c : Connection) (rest : List Connection) → first ≤ (told old.disk).faults → ServesOne told old mid c →
    IsTrue (is_fastboot mid.device.mode) → Chain told first mid new rest → Chain told first old new (c ∷ rest)
more-chain told first old mid new c rest a one f more =
    let back : seen (image_of told mid) one.state.device ≡ mid.device = has-back told mid mid.device.mode _ (running mid.device.mode f) one.left in
    let same : mid.device ≡ one.state.device = sym back ∙ seen-told (image_of told mid) one.state.device one.tells in
    record {
      later = omega (arith, one.later, more.later);
      left = more.left;
      leads = (mid.device, connects told first (told new.disk).faults old mid c mid.device a more.later one same, more.leads);
      has = more.has;
    }

-- the devices of connections that were served
pub chain : {K : Type 0} (told : K → DiskTold) (first : ℕ) (old : Held K) (served : List Connection) (new : Held K) → first ≤ (told old.disk).faults →
    IsTrue (is_fastboot old.device.mode) → Serves told old served new → Chain told first old new served
chain told first old [] new a f e = subst (λ (k : Held _). Chain told first old k []) (sym e) (none-chain told first old f)
chain told first old (c ∷ []) new a f (mid, one, e) = subst (λ (k : Held _). Chain told first old k (c ∷ [])) (sym e) (one-chain told first old mid c a one)
chain told first old (c ∷ d ∷ rest) new a f (mid, one, (end, next, more)) =
    more-chain told first old mid new c (d ∷ rest) a one next.begins
    (chain told first mid (d ∷ rest) new (omega (arith, a, one.later)) next.begins (end, next, more))

-- a wider cause of a failed disk call
pub leads-weaker : (broke more : Type 0) → (broke → more) → (dev : Dev) (served : List Connection) (left : Dev) → Leads broke dev served left → Leads more dev served left
leads-weaker broke more f dev [] left e = e
leads-weaker broke more f dev (c ∷ rest) left (mid, one, l) = (
  mid,
  record {
    begins = one.begins;
    state = one.state;
    taken = one.taken;
    within = one.within;
    goes = goes-weaker broke more f (fresh dev) one.state (take one.taken c.gives) one.goes;
    leaves = one.leaves;
    written = one.written;
    whole = one.whole;
    ended = one.ended;
  },
  leads-weaker broke more f mid rest left l,
)
