-- `into_box` makes the box of a handle again: a walk of its MIR, by hand.
use Rattle.std.proofs.Common.{◌≡◌, List, [], ◌∷◌, ◌++◌, refl, sym, ap, subst}
use mir.Syntax.{Dict, tcons, tnil, dnil, impl}
use mir.Val.{Val, vptr, vstruct, vcons, vnil, of_list}
use mir.Raw.{raw as bare}
use base.Fraction.{full_share}
use base.Logic.{SProp, ent, emp, id⊢, never, fst∗}
use base.Fml.{ftrue, flft}
use prog.Wp.{WpFn}
use types.Logic.{sem}
use types.Kit.{‵, raw, ◌⊛◌, some, later, at_ret, ◌$◌, ◌∵◌, !, qed, by, move, keep, drop, split, split3, join, fsplit, fjoin, fpick, pick, suffices, use0, use1, await, rewrite, feq_i, feq_l}
use types.Run.{stop, fld, of_opd, no_more, and_then, first, blocks, exec, returns, enter}
use types.ByLocal.{alloc_all, pass_all, free_all, look_at, get, get_in, sets, lands_last, env}
use types.Part.{sub, whole}
use types.Tokens.{lft_new}
use contract.Monad.{fact, fact_i}
use contract.BorrowLft.{◌⊑◌, ⊑_static}
use contract.Running.{tables}
use denote.Exit.{yes, no}
use denote.RattleType.{RattleType, owns}
use denote.Signature.{plain}
use denote.RawPtr.{Ptr, block_ptr, null_ptr, ptr_val, in_a_block}
use denote.Steps.{nothing, only}
use denote.Param.{layout, arg}
use denote.Param.Laws.{Laws, arg_laws}
use denote.Param.NoDrop.{glues}
use denote.Triple.Clauses.{Lasts, lasts}
use denote.Triple.Spec.{triple_of}
use denote.Triple.Call.{calls_at_last}
use denote.Triple.Walked.{Stays, stay_dropped, walk_of, Goes-dropped}
use Rattle.core.proofs.alloc.Calls.{handle_tells}
use Rattle.core.proofs.alloc.Shapes.{after}
use Rattle.core.proofs.atomic.Steps.{fm}
use Rattle.core.proofs.cell.Inside.{Good}
use Rattle.std_alloc.proofs.BoxSteps.Form as box
use Rattle.std_alloc.proofs.BoxSteps.Form.{box_typed}
use Rattle.std_alloc.proofs.BoxSteps.Steps.{box_out, box_in}
use Rattle.std_alloc.specs.Box.Ownership.{box_owns}
use Rattle.std.proofs.raw_atomic.Walks.{proved_at, leaves}
use Rattle.std.proofs.impls.GlobalAllocator.TheImpl.Met.{passed}
use Rattle.std.specs.contracts.impls.GlobalAllocator.TheImpl as Impl
use Rattle.std.specs.contracts.alloc.Global as G
use Rattle.std.proofs.alloc.Global.TheLaws as GL
use Rattle.std_alloc.specs.contracts.boxed.Box.from_raw as callee
use Rattle.std_alloc.proofs.boxed.Box.from_raw.Met.{met}
use Rattle.server.specs.contracts.service.Service as S
use Rattle.server.proofs.service.Service.TheLaws as SL
use Rattle.server.specs.contracts.handle.Handle.{the_row as Handle-row}
use Rattle.server.specs.contracts.handle.Handle.into_box.{ended, clauses}
use Rattle.server.specs.contracts.handle.Handle.into_box.Key.{name as #self}
use Rattle.server.proofs.handle.Handle.into_box.Statement.{statement}
use Rattle.server.proofs.handle.Handle.into_box.Code as code
use Rattle.server.proofs.Destruct++none.drop.Code.{code as drop-code}

-- the service's type and the allocator's, as the call names them
abbrev T : RattleType
T = arg (bare (layout S.the_row)) no S.the_row

T-laws : Laws T
T-laws = arg_laws (bare (layout S.the_row)) no S.the_row SL.the_row_laws refl

abbrev A : RattleType
A = arg (bare (layout G.the_row)) no G.the_row

A-laws : Laws A
A-laws = arg_laws (bare (layout G.the_row)) no G.the_row GL.the_row_laws refl

abbrev dd : Dict
dd = impl ("server::Destruct++none::drop" ∷ []) (tcons (layout A) tnil) dnil

abbrev E : box.Bx
E = record { row = T; laws = T-laws; al = record { row = A; laws = A-laws; g = Impl.ghosts; d = Impl.dict; drops = dd } }

pub into_box_spec : {M : Type 1} → statement M
unfolding drop-code
into_box_spec {M} 𝓤 𝓛 𝓜 𝓡 wired =
    let H = 𝓛.H in let 𝓣 = tables 𝓤 H 𝓜 𝓡 𝓡.env in let fn = code.function in
    let c = clauses 𝓛 𝓜.mem 𝓡.returns in
    let hs : Stays ended.signature.params ended.kept = (stay_dropped (plain (λ _. Handle-row)) yes, (stay_dropped (plain (λ _. G.the_row)) yes, tt)) in
    proved_at 𝓛 ended hs c 𝓜 𝓡 (Goes-dropped 𝓛 0 (plain (λ _. Handle-row)) yes (λ κs x f. refl), (Goes-dropped 𝓛 0 (plain (λ _. G.the_row)) yes (λ κs x f. refl), tt)) #self fn (code.unfolded 𝓤 H 𝓜 𝓡 wired) (λ z are.
    let v = z.0.3.0 in let a = z.0.3.1.0 in let us = z.0.4.0 in let ws = z.0.4.1.0 in let Post : Val → SProp 𝓤 = (walk_of 𝓛 ended hs c).post z in let Run : List Val → SProp 𝓤 = λ xs. WpFn 𝓤 H 𝓣.C 𝓣.Λ fn xs Post in
    qed 𝓛 ((‵ ftrue ⊛ ‵ (owns (Handle-row ∷ G.the_row ∷ []) (v, (a, tt)) (us, (ws, tt)))) ∷ raw (emp 𝓤) ∷ []) ∵ split ! $ drop ! $ fsplit ! $
    -- the handle is taken apart
    fsplit ! $ fpick ! (λ vss. fsplit ! $ feq_l ! (λ ev. fsplit ! $ feq_l ! (λ ep. drop ! $
    in_a_block ! v.at (λ p. box_owns (Impl.ghosts.dealloc_token a) T p v.service) (fst∗ 𝓤 (never 𝓤) (sem 𝓛 (Impl.ghosts.dealloc_token a (bare (layout T)) null_ptr))) (λ b o e.
    let w : Val = vstruct (vcons (vptr b o) vnil) in
    let is : us ≡ w ∷ [] = subst (λ (p : Ptr). us ≡ vstruct (of_list (ptr_val p ∷ [])) ∷ []) e (subst (λ (ps : List Val). us ≡ vstruct (of_list (ps ++ [])) ∷ []) ep ev) in
    move ! (1 ∷ []) $ fsplit ! $ handle_tells E.al ! a ws (λ h ea fits. move ! (1 ∷ []) $ drop ! $ move ! (2 ∷ []) $ drop ! $
    -- [the allocator; the box]
    suffices ! (Run (w ∷ h ∷ [])) (subst (λ (xs : List Val). ent 𝓤 (Run (w ∷ h ∷ [])) (Run xs)) (sym (λ i. is i ++ (ea i ++ []))) (id⊢ 𝓤 (Run (w ∷ h ∷ [])))) $
    enter ! 𝓣.C 𝓣.Λ fn (w ∷ h ∷ []) Post $ alloc_all ! (λ l. pass_all ! refl ((tt, (tt, tt)), (fits, tt)) $ let Ev = env fn.locals l in
    sets ! (of_opd ! (get_in ! (fld ! refl (stop !)) (sub ! 0 refl (whole !)))) refl (tt, tt) $ first ! $ blocks ! $ sets ! (of_opd ! (get ! refl)) refl (tt, tt) $
    lft_new ! tt (λ β. lft_new ! tt (λ α.
    let k = triple_of 𝓛 (callee.signature T A Impl.ghosts Impl.dict dd) (callee.spec T A Impl.ghosts Impl.dict dd 𝓛 𝓜.mem 𝓡.returns) in
    let y : k.Ghost = (((α ∷ [], (β ∷ [], tt)), (full_share, (full_share, tt)), tt, (a, (block_ptr b o, tt)), (h ∷ [], (vptr b o ∷ [], tt))), v.service) in
    let B : RattleType = box.B E in let toks = ‵ (flft (α ∷ []) full_share) ⊛ ‵ (flft (β ∷ []) full_share) ⊛ ‵ ftrue in
    nothing ! $ move ! (2 ∷ 0 ∷ []) $ join ! $ move ! (1 ∷ 0 ∷ []) $ join ! $
    use0 𝓛 (raw (fact 𝓤 ((β ∷ []) ⊑ A.lives))) (fact_i 𝓤 ((β ∷ []) ⊑ A.lives) (emp 𝓤) (⊑_static (β ∷ []))) $ move ! (0 ∷ 3 ∷ []) $ join ! $
    use0 𝓛 (raw (fact 𝓤 ((α ∷ []) ⊑ T.lives))) (fact_i 𝓤 ((α ∷ []) ⊑ T.lives) (emp 𝓤) (⊑_static (α ∷ []))) $ join ! $
    nothing ! $ feq_i ! (List Val) (vptr b o ∷ []) (vptr b o ∷ []) refl $ fjoin ! $ move ! (3 ∷ 0 ∷ []) $ fjoin ! $ move ! (2 ∷ 0 ∷ []) $ join ! $ join ! $ use1 𝓛 (raw (k.pre y)) (id⊢ 𝓤 _) $
    calls_at_last ! (fm 𝓛 𝓜 𝓡) k (met 𝓤 𝓛 𝓜 𝓡 (code.calls-std_alloc::boxed::Box::from_raw 𝓡.env wired) T A T-laws A-laws Impl.ghosts Impl.dict dd
    (passed 𝓡.env (code.calls-std_heap::GlobalAllocator::allocate 𝓡.env wired) (code.calls-std_heap::GlobalAllocator::deallocate 𝓡.env wired) (code.calls-std_heap::GlobalAllocator::grow 𝓡.env wired) (code.calls-std_heap::GlobalAllocator::shrink 𝓡.env wired) M 𝓤 𝓛 𝓜 𝓡)
    (glues "server::Destruct++none::drop" 𝓡.env (code.calls-server::Destruct++none::drop 𝓡.env wired) A A-laws M 𝓤 𝓛 𝓜 𝓡)) y (and_then ! (get ! refl) (and_then ! (get ! refl) (no_more !))) (λ u.
    use1 𝓛 (later (some (λ (r : B.Denot). (toks ⊛ ‵ (B.own_val r (u ∷ []))) ⊛ some (λ (ls : Lasts (callee.ended T A Impl.ghosts Impl.dict dd) y.0.0 y.0.3). ‵ (lasts (callee.ended T A Impl.ghosts Impl.dict dd) y.0.0 y.0.3 ls) ⊛ (raw (fact 𝓤 (r.value ≡ v.service)) ⊛ raw (fact 𝓤 (r.alloc ≡ a))))))) (id⊢ 𝓤 (k.post y u)) $
    await ! tt $ pick ! (λ r. split ! $ move ! (1 ∷ []) $ pick ! (λ _. split3 ! $ drop ! $ move ! (2 ∷ []) $ split ! $ move ! (1 ∷ []) $
    box_out E ! r (u ∷ []) (λ b' o' h' e' us' fits'. box_in E ! r b' o' r.value e' refl $ rewrite ! 0 (λ (xs : List Val). ‵ (B.own_val r xs)) (sym us') refl $
    let good : Good (layout B) u = subst (Good (layout B)) (sym (ap only us')) (box_typed E h' b' o' fits') in
    lands_last ! refl good $ exec ! 𝓣.C 𝓣.Λ Ev (after 2 fn.body) (at_ret Ev Post) $ sets ! (of_opd ! (get ! refl)) refl good $
    nothing ! $ nothing ! $ nothing ! $ fjoin ! $ move ! (1 ∷ 0 ∷ []) $ fjoin ! $ nothing ! $
    returns ! (look_at ! 0 refl) $ free_all ! refl $ keep ! (0 ∷ 1 ∷ 2 ∷ 4 ∷ []) $ by ! (leaves 𝓛 ended hs c z u r (tt, (tt, tt)) (tt, (tt, tt))))))))))))))))
