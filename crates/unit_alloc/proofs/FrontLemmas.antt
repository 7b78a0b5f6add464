-- The entries that stay where a part keeps its first units, moved to the front.
use Rattle.std.proofs.Common.{◌≡◌, ℕ, ◌+◌, ◌<◌, ◌≤◌, ◌≢◌, cond, eqb, List, [], ◌∷◌, ◌++◌, length, get_or, set, take, drop, All, refl, sym, ap, subst, ◌∙◌, arith, length-set}
use Rattle.std.proofs.lemmas.List.{take_more, take_more_set, drop_more, drop-set-lt, length-take, take-take, take-append-le, get_or-set_same, get_or-replicate}
use Rattle.std.proofs.lemmas.List.Elements.{All-push, All-get_or, All-nil, All-same}
use Rattle.std.proofs.lemmas.Bool.Decides.{nat_tests}
use Rattle.unit_alloc.specs.declared.plain.Entry.{Entry}
use Rattle.unit_alloc.specs.Owning.{Owning, OneOwner, units_of, handed, kept, unowned}
use Rattle.unit_alloc.specs.Log.{entered, replayed, given, IsLog}
use Rattle.unit_alloc.proofs.HandedLemmas.{OneOwner-kept}
use Rattle.unit_alloc.proofs.KeptLemmas.{kept-handed_full, kept-handed_room, kept-handed_other, kept-none}
use Rattle.unit_alloc.proofs.LogLemmas.{no_entry, replayed_push, replayed_empty, length-replayed, units_of-replayed, length-given_push}

-- what stays of the first entries is in front
pub record Front (part keep : ℕ) (old new : List Entry) (from to count : ℕ) : Type 0 where
  pub replay : (units parts : ℕ) → part < parts → replayed units parts (take to new) ≡ kept (replayed units parts (take from old)) part keep
  pub counted : count ≡ length (given part (take to new))
  pub most : count ≤ keep
  pub rest : drop from new ≡ drop from old
  pub behind : to ≤ from
  pub long : length new ≡ length old
  pub parted : (parts : ℕ) → All (λ e. e.part < parts) old → All (λ e. e.part < parts) (take to new)

pub Front-none : (part keep : ℕ) (old : List Entry) → Front part keep old old 0 0 0
Front-none part keep old = record {
  replay = λ units parts h.
      let e = replayed_empty units parts [] refl in
      e ∙ sym (kept-none (unowned units parts) part keep (get_or-replicate parts part [] [] h)) ∙ ap (λ (n : Owning). kept n part keep) (sym e);
  counted = refl;
  most = omega arith;
  rest = refl;
  behind = omega arith;
  long = refl;
  parted = λ parts all. All-nil (λ (e : Entry). e.part < parts);
}

-- e is the entry that is read
module _ (part keep from to count : ℕ) (old new : List Entry) (f : Front part keep old new from to count) (h : from < length new) (e : Entry) (e_is : e ≡ get_or new from no_entry) where
  at : get_or new from no_entry ∷ drop (from + 1) new ≡ get_or old from no_entry ∷ drop (from + 1) old
  at = sym (drop_more new from no_entry h) ∙ f.rest ∙ drop_more old from no_entry (omega (arith, f.long))

  read_is : e ≡ get_or old from no_entry
  read_is = let a = at in e_is ∙ cc

  rest_is : drop (from + 1) new ≡ drop (from + 1) old
  rest_is = let a = at in cc

  -- the replay of one more of the old entries
  replay_more : (units parts : ℕ) → replayed units parts (take (from + 1) old) ≡ entered (replayed units parts (take from old)) e
  replay_more units parts =
      ap (replayed units parts) (take_more old from no_entry (omega (arith, f.long)))
      ∙ replayed_push units parts (take from old) (get_or old from no_entry)
      ∙ ap (entered (replayed units parts (take from old))) (sym read_is)

  -- how many units the part has in front, of those that it had
  count_is : (units parts : ℕ) → part < parts → count ≡ length (take keep (units_of (replayed units parts (take from old)) part))
  count_is units parts hp =
      let m = replayed units parts (take from old) in
      f.counted
      ∙ ap (length {A = ℕ}) (sym (units_of-replayed part units parts (take to new) hp) ∙ ap (λ (n : Owning). units_of n part) (f.replay units parts hp)
      ∙ get_or-set_same m.parts part (take keep (units_of m part)) [] (omega (arith, length-replayed units parts (take from old))))

  pub Front-left_out : e.part ≡ part → keep ≤ count → Front part keep old new (from + 1) to count
  Front-left_out mine full = record {
    replay = λ units parts hp.
        let m = replayed units parts (take from old) in
        let n = count_is units parts hp in
        let l = length-take keep (units_of m part) in
        f.replay units parts hp
        ∙ sym (kept-handed_full m part keep e.unit (omega (arith, length-replayed units parts (take from old))) (omega arith))
        ∙ ap (λ q. kept (handed m q (e.unit ∷ [])) part keep) (sym mine)
        ∙ ap (λ (n : Owning). kept n part keep) (sym (replay_more units parts));
    counted = f.counted;
    most = f.most;
    rest = rest_is;
    behind = omega (arith, f.behind);
    long = f.long;
    parted = f.parted;
  }

  -- the entry goes behind those in front
  front_more : take (to + 1) (set new to e) ≡ take to new ++ e ∷ []
  front_more = take_more_set new to e (omega (arith, f.behind))

  parted_more : (parts : ℕ) → All (λ e. e.part < parts) old → All (λ e. e.part < parts) (take (to + 1) (set new to e))
  parted_more parts all =
      let P : Entry → Type 0 = λ x. x.part < parts in
      All-same P (take (to + 1) (set new to e)) (take to new ++ e ∷ []) front_more
      (All-push P (take to new) e (f.parted parts all) (subst P (sym read_is) (All-get_or P old from no_entry (omega (arith, f.long)) all)))

  rest_more : drop (from + 1) (set new to e) ≡ drop (from + 1) old
  rest_more = drop-set-lt (from + 1) new to e (omega (arith, f.behind)) ∙ rest_is

  counted_more : length (given part (take (to + 1) (set new to e))) ≡ count + cond (eqb e.part part) 1 0
  counted_more =
      let l = length-given_push part (take to new) e in
      ap (λ (l : List Entry). length (given part l)) front_more ∙ l ∙ ap (λ n. n + cond (eqb e.part part) 1 0) (sym f.counted)

  pub Front-mine : e.part ≡ part → count < keep → Front part keep old (set new to e) (from + 1) (to + 1) (count + 1)
  Front-mine mine room = record {
    replay = λ units parts hp.
        let m = replayed units parts (take from old) in
        let n = count_is units parts hp in
        let l = length-take keep (units_of m part) in
        ap (replayed units parts) front_more
        ∙ replayed_push units parts (take to new) e
        ∙ ap (λ (n : Owning). entered n e) (f.replay units parts hp)
        ∙ ap (λ q. handed (kept m part keep) q (e.unit ∷ [])) mine
        ∙ sym (kept-handed_room m part keep e.unit (omega (arith, length-replayed units parts (take from old))) (omega arith))
        ∙ ap (λ q. kept (handed m q (e.unit ∷ [])) part keep) (sym mine)
        ∙ ap (λ (n : Owning). kept n part keep) (sym (replay_more units parts));
    counted = let c = counted_more in grind (arith, nat_tests);
    most = omega arith;
    rest = rest_more;
    behind = omega (arith, f.behind);
    long = length-set new to e ∙ f.long;
    parted = parted_more;
  }

  pub Front-other : e.part ≢ part → Front part keep old (set new to e) (from + 1) (to + 1) count
  Front-other other = record {
    replay = λ units parts hp.
        let m = replayed units parts (take from old) in
        ap (replayed units parts) front_more
        ∙ replayed_push units parts (take to new) e
        ∙ ap (λ (n : Owning). entered n e) (f.replay units parts hp)
        ∙ sym (kept-handed_other m part e.part keep e.unit other)
        ∙ ap (λ (n : Owning). kept n part keep) (sym (replay_more units parts));
    counted = let c = counted_more in grind (arith, nat_tests);
    most = f.most;
    rest = rest_more;
    behind = omega (arith, f.behind);
    long = length-set new to e ∙ f.long;
    parted = parted_more;
  }

-- what is read of a list's front after it was written through a slice of all of it
pub front_written : (r n : ℕ) (new rest : List Entry) → n ≡ length new → r ≤ n → take r (take n (new ++ rest)) ≡ take r new
front_written r n new rest e h = take-take r n (new ++ rest) h ∙ take-append-le r new rest (omega arith)

-- the log of what stays where a part keeps its first units
pub log_kept : (units parts p k : ℕ) (es fs : List Entry) (m : Owning) → replayed units parts es ≡ m → IsLog units parts es → p < length m.parts →
    All (λ e. e.part < parts) fs → (p < parts → replayed units parts fs ≡ kept (replayed units parts es) p k) →
    IsLog units parts fs × (replayed units parts fs ≡ kept m p k)
log_kept units parts p k es fs m e log h all same =
    let q : length (replayed units parts es).parts ≡ length m.parts = ap (λ (n : Owning). length n.parts) e in
    let n = length-replayed units parts es in
    let s = same (omega arith) in (
      record {
        parted = all;
        one = subst OneOwner (sym s) (OneOwner-kept (replayed units parts es) p k (omega arith) log.one);
      },
      s ∙ ap (λ (n : Owning). kept n p k) e,
    )
