-- the value that the argument refers to goes into the ghost field; assumes `Logic`
use Rattle.std.proofs.Common.{[], ◌∷◌, refl}
use Rattle.std.proofs.raw_atomic.Walks.{proved}
use mir.Syntax.{a_type, named}
use mir.Val.{vptr, vstruct, vcons, vnil}
use mir.MapTy.{inst_fn}
use types.Kit.{raw, ‵, ◌⊛◌, ◌$◌, ◌∵◌, !, qed, done, move, keep, split, fjoin, suffices}
use types.Part.{agg}
use types.Run.{enter, and_then, no_more, returns}
use types.ByLocal.{alloc_all, pass_all, free_all, look_at, get, sets}
use denote.Builtin.{RefOf}
use denote.Exit.{yes}
use denote.Param.{param, layouts}
use denote.RattleType.{owns}
use denote.Ref.{shr_vals, shr_Tells}
use denote.Shadow.{pure_i}
use denote.Signature.{plain, types_at}
use denote.Steps.{nothing}
use denote.Triple.Entry.{alive}
use denote.Triple.Walked.{Stays, walk_of, says, stay_dropped, Goes-dropped, ends_at}
use Rattle.pair_port.specs.contracts.left.Seen.{the_row}
use Rattle.pair_port.specs.contracts.left.Seen.of as f
use Rattle.pair_port.specs.contracts.left.Seen.of.Key.{name as #self}
use Rattle.pair_port.proofs.left.Seen.of.Statement.{statement}
use Rattle.pair_port.proofs.left.Seen.of.Code as code

pub of_spec : {M : Type 1} → statement M
of_spec 𝓤 𝓛 𝓜 𝓡 wired T LT =
    let inst = layouts (a_type ∷ []) (T, tt) in
    let fn = inst_fn inst code.function in
    let R = the_row (param 0 T) in
    let E = f.ended T in
    let c = f.clauses T 𝓛 𝓜.mem 𝓡.returns in
    let value = RefOf (0 ∷ []) tt (plain (λ _. param 0 T)) (λ _. tt) in
    let hs : Stays E.signature.params E.kept = (stay_dropped value yes, tt) in
    proved 𝓛 E hs c 𝓜 𝓡 (Goes-dropped 𝓛 2 value yes (λ κs x w. refl), tt)
    (#self inst) fn (code.unfolded 𝓤 𝓛.H 𝓜 𝓡 wired (T, tt))
    (λ κs. (shr_vals, tt)) (λ κs. (shr_Tells (named 0) κs.0 (param 0 T), tt))
    (λ κs qs bounds a gh are.
    let p = vptr a.0.ref_ptr.0 a.0.ref_ptr.1 in
    let v = vstruct (vcons (vstruct vnil) vnil) in
    let made : R.Denot = record { of = record {}; value = a.0.now } in
    let y : (walk_of 𝓛 E hs c).Ghost = ((κs, qs, bounds, a, (p ∷ [], tt)), gh) in
    qed 𝓛 ((raw (alive 𝓛 E.signature κs qs) ⊛ ‵ (owns (types_at E.signature.params κs) a y.0.4)) ∷ raw ((c κs a).requires gh) ∷ []) ∵
    keep ! (0 ∷ []) $ split ! $ keep ! (0 ∷ []) $
    enter ! _ _ _ _ _ $ alloc_all ! (λ l. pass_all ! refl ((tt, tt), tt) $
    sets ! (agg ! (no_more !)) refl (tt, tt) $
    sets ! (agg ! (and_then ! (get ! refl) (no_more !))) refl (tt, (tt, tt)) $
    returns ! (look_at ! 0 refl) $ free_all ! refl $
    suffices ! _ (ends_at 𝓛 E hs c y v made (tt, tt) (tt, tt)) $ says ! refl $
    pure_i ! (R.own_val made (v ∷ [])) ((λ vss. (tt, ((λ uss. (tt, tt)), tt))), tt) (((vstruct vnil ∷ [], tt), (refl, ((tt, (refl, tt)), tt))), tt) $
    nothing ! $ nothing ! $ fjoin ! $ move ! (2 ∷ 0 ∷ 1 ∷ []) $ done !))
