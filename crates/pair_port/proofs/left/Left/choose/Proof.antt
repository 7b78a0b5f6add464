-- the device that the `requires` promises goes into the ghost field; assumes `Logic`
use Rattle.std.proofs.Common.{[], ◌∷◌, refl}
use Rattle.std.proofs.raw_atomic.Walks.{proved}
use mir.Syntax.{a_type, dcons, dnil, named}
use mir.Val.{vptr, vstruct, vnil}
use mir.MapTy.{inst_fn}
use contract.BorrowLft.{◌⊑◌}
use contract.Lifetimes.{lft_at}
use contract.Monad.{fact}
use types.Kit.{raw, ‵, ◌⊛◌, ◌$◌, ◌∵◌, !, qed, done, move, keep, drop, split, fjoin, suffices}
use types.Part.{agg}
use types.Run.{enter, no_more, returns}
use types.ByLocal.{alloc_all, pass_all, free_all, look_at, sets}
use denote.Builtin.{RefOf}
use denote.Exit.{yes}
use denote.Param.{param, bounded}
use denote.RattleType.{owns}
use denote.Ref.{shr_vals, shr_Tells}
use denote.Shadow.{pure_i}
use denote.Signature.{plain, types_at}
use denote.Steps.{nothing, heard}
use denote.Triple.Entry.{alive}
use denote.Triple.Walked.{Stays, walk_of, says, stay_dropped, Goes-dropped, ends_at}
use Rattle.dev_model.specs.declared.device.Dev.{Dev}
use Rattle.pair_port.specs.contracts.left.Left.{the_row as R}
use Rattle.pair_port.specs.contracts.left.Left.choose as f
use Rattle.pair_port.specs.contracts.left.Left.choose.Key.{name as #self}
use Rattle.pair_port.proofs.left.Left.choose.Statement.{statement}
use Rattle.pair_port.proofs.left.Left.choose.Code as code

pub choose_spec : {M : Type 1} → statement M
choose_spec 𝓤 𝓛 𝓜 𝓡 wired S T C LS LT LC g d _ =
    let inst = bounded (a_type ∷ a_type ∷ a_type ∷ []) (S, (T, (C, tt))) (dcons d dnil) in
    let fn = inst_fn inst code.function in
    let E = f.ended S T C g d in
    let c = f.clauses S T C g d 𝓛 𝓜.mem 𝓡.returns in
    let before = RefOf (0 ∷ []) tt (plain (λ _. param 0 S)) (λ _. tt) in
    let after = RefOf (1 ∷ []) tt (plain (λ _. param 1 T)) (λ _. tt) in
    let hs : Stays E.signature.params E.kept = (stay_dropped before yes, (stay_dropped after yes, tt)) in
    proved 𝓛 E hs c 𝓜 𝓡
    (Goes-dropped 𝓛 5 before yes (λ κs x w. refl), (Goes-dropped 𝓛 5 after yes (λ κs x w. refl), tt))
    (#self inst) fn (code.unfolded 𝓤 𝓛.H 𝓜 𝓡 wired (S, (T, (C, tt))) d)
    (λ κs. (shr_vals, (shr_vals, tt)))
    (λ κs. (shr_Tells (named 0) κs.0 (param 0 S), (shr_Tells (named 1) κs.1.0 (param 1 T), tt)))
    (λ κs qs bounds a gh are.
    let p = vptr a.0.ref_ptr.0 a.0.ref_ptr.1 in
    let q = vptr a.1.0.ref_ptr.0 a.1.0.ref_ptr.1 in
    let y : (walk_of 𝓛 E hs c).Ghost = ((κs, qs, bounds, a, (p ∷ [], (q ∷ [], tt))), gh) in
    qed 𝓛 ((raw (alive 𝓛 E.signature κs qs) ⊛ ‵ (owns (types_at E.signature.params κs) a y.0.4)) ∷ (raw (fact 𝓤 (lft_at 5 2 tt κs ⊑ S.lives)) ⊛ (raw (fact 𝓤 (lft_at 5 3 tt κs ⊑ T.lives)) ⊛ (raw (fact 𝓤 (lft_at 5 4 tt κs ⊑ C.lives)) ⊛ raw (fact 𝓤 ((dev : Dev) × g.fits dev))))) ∷ []) ∵
    move ! (1 ∷ []) $ split ! $ drop ! $ split ! $ drop ! $ split ! $ drop ! $ heard ! _ (λ promised.
    let made : R.Denot = record { device = promised.0 } in
    split ! $ keep ! (0 ∷ []) $
    enter ! _ _ _ _ _ $ alloc_all ! (λ l. pass_all ! refl ((tt, tt), ((tt, tt), tt)) $
    sets ! (agg ! (no_more !)) refl (tt, tt) $
    returns ! (look_at ! 0 refl) $ free_all ! refl $
    suffices ! _ (ends_at 𝓛 E hs c y (vstruct vnil) made (tt, (tt, tt)) (tt, (tt, tt))) $ says ! promised.1 $
    pure_i ! (R.own_val made (vstruct vnil ∷ [])) ((λ vss. (tt, tt)), tt) ((tt, (refl, tt)), tt) $
    nothing ! $ nothing ! $ fjoin ! $ nothing ! $ fjoin ! $ move ! (2 ∷ 0 ∷ 1 ∷ []) $ done !)))
