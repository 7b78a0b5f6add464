-- Bytes that the session that is up gave.
use Rattle.std.proofs.Common.{◌≡◌, ℕ, ◌≤◌, List, ◌++◌, length, take, drop, min, sym, ap, ◌∙◌, subst}
use Rattle.std.proofs.lemmas.List.{length-take-le}
use Rattle.device_session.specs.Living.{Live}
use Rattle.pair_port.specs.Calls.{GivesPair, HearsPair, OfLive}
use Rattle.pair_port.specs.Counters.{most, passed}
use Rattle.pair_port.specs.Pairs.{Pair, End, Up}

pub gives-pair : {K : Type 0} (old new : Pair K) (live after : Live K) (n : ℕ) (before now : List ℕ) → old.end ≡ Up live → new.end ≡ Up after → new.left ≡ old.left → n ≤ length before →
    length now ≡ length before → live.out ≡ take n now ++ drop n live.out → after ≡ record live { out = drop n live.out } → GivesPair old new (take n now)
gives-pair old new live after n before now u v l fits same next is =
    let long : length (take n now) ≡ n = length-take-le n now (subst (λ k. n ≤ k) (sym same) fits) in
    record {
      live = live;
      up_before = u;
      up_now = v ∙ ap Up (is ∙ ap (λ (k : ℕ). record live { out = drop k live.out }) (sym long));
      next = next ∙ ap (λ (k : ℕ). take n now ++ drop k live.out) (sym long);
      left = l;
    }

-- the session that is up has so many bytes
waiting-is : {K : Type 0} (end : End K) (live : Live K) (waiting : ℕ) → end ≡ Up live → OfLive (λ live. waiting ≡ length live.out) end → waiting ≡ length live.out
waiting-is end live waiting e w = subst (λ (x : End _). OfLive (λ live. waiting ≡ length live.out) x) e w

pub hears-pair : {K : Type 0} (old mid new : Pair K) (n waiting many : ℕ) (bytes : List ℕ) → GivesPair old mid bytes → new.end ≡ mid.end → new.left ≡ mid.left → length bytes ≡ n →
    OfLive (λ live. waiting ≡ length live.out) old.end → n ≡ most old.counters (min waiting many) → new.counters ≡ passed n old.counters → HearsPair old new many bytes
hears-pair old mid new n waiting many bytes g e l long w m c = record {
  gives = record { live = g.live; up_before = g.up_before; up_now = e ∙ g.up_now; next = g.next; left = l ∙ g.left };
  all = long ∙ m ∙ ap (λ (k : ℕ). most old.counters (min k many)) (waiting-is old.end g.live waiting g.up_before w);
  counters = c ∙ ap (λ (k : ℕ). passed k old.counters) (sym long);
}
