-- Calls on a session, however its bytes are cut and its outbox is drained.
use Rattle.std.proofs.Common.{◌≡◌, ◌⊎◌, inl, inr, ℕ, List, [], ◌∷◌, ◌++◌, refl, sym, ap, subst, ◌∙◌, append_assoc, arith}
use Rattle.std.proofs.lemmas.List.{append-nil}
use Rattle.fb_frame.specs.Causes.{Rose}
use Rattle.dev_model.specs.declared.device.Dev.{Dev}
use Rattle.wire_model.specs.Wire.{Wire, fresh, after}
use Rattle.wire_model.specs.Halts.{Faults}
use Rattle.wire_told.specs.Told.{GoesBy}
use Rattle.wire_model.proofs.Ahead.{output_apart}
use Rattle.wire_model.proofs.GoesApart.{goes_apart}
use Rattle.wire_model.proofs.Faulted.{locked_goes}
use Rattle.wire_model.proofs.Items.{after_part}
use Rattle.wire_told.proofs.Going.{goes-append, goes-nothing, goes-plain}
use Rattle.device_session.specs.Calls.{Call, Feed, Drain, fed, drained, Calls, OneConnection, LockedConnection}

abbrev pub ahead : List ℕ → Wire → Wire
ahead before w = record w { out = before ++ w.out }

-- what follows, where there is a cause for a fault
pub because : (broke : Type 0) (w v : Wire) (bytes : List ℕ) → broke → (v ≡ after w bytes) ⊎ Faults w bytes v → GoesBy broke w bytes v
unfolding GoesBy
because broke w v bytes c (inl e) = inl e
because broke w v bytes c (inr f) = inr (c, f)

apart : (broke : Type 0) (before : List ℕ) (w v : Wire) (bytes : List ℕ) → (v ≡ after w bytes) ⊎ (broke × Faults w bytes v) →
    GoesBy broke (ahead before w) bytes (ahead before v)
unfolding GoesBy
apart broke x w v bytes (inl e) = inl (ap (ahead x) e ∙ sym (output_apart w x bytes))
apart broke x w v bytes (inr f) = because broke (ahead x w) (ahead x v) bytes f.0 (goes_apart w v x bytes (inr f.1))

pub goes-ahead : (broke : Type 0) (before : List ℕ) (w v : Wire) (bytes : List ℕ) → GoesBy broke w bytes v →
    GoesBy broke (ahead before w) bytes (ahead before v)
unfolding GoesBy
goes-ahead broke x w v bytes g = apart broke x w v bytes g

-- the calls behind bytes that were taken and a front that was drained
joined-calls : (broke : Type 0) (first w v : Wire) (x d : List ℕ) (calls : List Call) → GoesBy broke first x (ahead d w) → Calls broke w calls v →
    GoesBy broke first (x ++ fed calls) (ahead (d ++ drained calls) v)
joined-calls broke first w v x d [] g e =
    subst (λ (u : Wire). GoesBy broke first (x ++ []) (ahead (d ++ []) u)) (sym e)
    (subst (λ (l : List ℕ). GoesBy broke first l (ahead (d ++ []) w)) (sym (append-nil x))
    (subst (λ (l : List ℕ). GoesBy broke first x (ahead l w)) (sym (append-nil d)) g))
joined-calls broke first w v x d (Feed bytes ∷ calls) g (u, goes, more) =
    subst (λ (l : List ℕ). GoesBy broke first l (ahead (d ++ drained calls) v)) (append_assoc x bytes (fed calls))
    (joined-calls broke first u v (x ++ bytes) d calls
    (goes-append broke first (ahead d w) (ahead d u) x bytes g (goes-ahead broke d w u bytes goes)) more)
joined-calls broke first w v x d (Drain bytes ∷ calls) g (u, same, more) =
    let out : ahead d w ≡ ahead (d ++ bytes) u =
    ap (ahead d) same ∙ ap (λ (l : List ℕ). record u { out = l }) (sym (append_assoc d bytes u.out)) in
    subst (λ (l : List ℕ). GoesBy broke first (x ++ fed calls) (ahead l v)) (append_assoc d bytes (drained calls))
    (joined-calls broke first u v x (d ++ bytes) calls
    (subst (λ (s : Wire). GoesBy broke first x s) out g) more)

pub fresh-settled : (dev : Dev) → after (fresh dev) [] ≡ fresh dev
fresh-settled dev = after_part (fresh dev) [] refl (omega arith) refl

pub one_connection : OneConnection
one_connection before now dev calls v made =
    joined-calls (Rose before now) (fresh dev) (fresh dev) v [] [] calls (goes-nothing (Rose before now) (fresh dev) (fresh-settled dev)) made

pub locked_connection : LockedConnection
locked_connection before now dev calls v locked made =
    locked_goes (fresh dev) (ahead (drained calls) v) (fed calls) locked
    (goes-plain (Rose before now) (fresh dev) (ahead (drained calls) v) (fed calls) (one_connection before now dev calls v made))

pub ruleset connections = (one_connection, locked_connection)
