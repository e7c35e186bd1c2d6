-- `service` lends the service of a handle: a walk of its MIR, by hand.
use Rattle.std.proofs.Common.{◌≡◌, ℕ, List, [], ◌∷◌, ◌++◌, refl, sym, ap, subst}
use seplogic.Ra.Ura.{Ura}
use base.Fraction.{full_share}
use mir.Syntax.{named}
use mir.Val.{Val, vptr, vstruct, vcons, vnil, of_list}
use mir.Raw.{raw as bare}
use base.Logic.{SProp, ent, sep, emp, via, never, fst∗}
use base.Fml.{Lft, GName, Share, Fml, ftrue, flft, fsep}
use prog.Memory.{Memory}
use prog.Routine.{Routine}
use prog.Wp.{Env, Calls, Loops, WpFn, Tables}
use types.Logic.{Logic, sem}
use contract.Monad.{Fun}
use contract.Running.{tables, tables_of}
use sound.WpLaws.{WpFn-mono}
use types.Kit.{‵, raw, ◌⊛◌, some, later, at_ret, ◌$◌, ◌∵◌, !, qed, by, move, keep, use1, drop, split, join, pick, fsplit, fsplit3, fjoin, fpick, fpack, suffices, frame, done, await, group, feq_i, feq_l, rewrite}
use types.Part.{whole, sub, look_in}
use types.Run.{stop, fld, load, of_opd, first, blocks, exec, returns, enter, addr}
use types.ByLocal.{alloc_all, pass_all, free_all, look_at, get, through, sets, sets_last, env}
use denote.RattleType.{owns, Valss}
use denote.Memory.{part_at, mem, cell_at, part_of}
use denote.Builtin.{RawPtr}
use denote.RawPtr.{Ptr, block_ptr, null_ptr, ptr_val, in_a_block}
use denote.Ref.{MutRef, MutBor, mut_vals, mut_Tells}
use denote.Signature.{plain, mut_ref_to}
use denote.Steps.{nothing, opens}
use denote.Exit.{no}
use denote.Follow.{follows, Part, lends_Part}
use denote.Param.{layout}
use denote.Struct.Struct.{within}
use denote.Struct.Owning.{shape}
use denote.Triple.Clauses.{Clauses}
use denote.Triple.Entry.{on_entry}
use denote.Triple.Spec.{Meets, triple_of}
use denote.Triple.Table.{entered}
use denote.Triple.Walked.{says, Stays, stay_dropped, walk_of, ends_at, walked, walk_Meets, Goes-spent_ref}
use Rattle.core.proofs.alloc.Shapes.{after}
use Rattle.std_alloc.specs.Box.Ownership.{box_owns}
use Rattle.std_heap.proofs.Handle.{handle}
use Rattle.std_heap.specs.contracts.GlobalAllocator.TheImpl.{ghosts}
use Rattle.server.specs.contracts.service.Service as S
use Rattle.server.specs.contracts.handle.Handle as Hd
use Rattle.server.specs.declared.handle.Handle.{Handle}
use Rattle.server.specs.declared.service.Service.{Service}
use Rattle.server.specs.contracts.handle.Handle.service as F
use Rattle.server.specs.contracts.handle.Handle.service.Key.{name as #self}
use Rattle.server.proofs.handle.Handle.service.Statement as stated
use Rattle.server.proofs.handle.Handle.service.Code as code

abbrev stayed : Stays (F.ended).signature.params (F.ended).kept
stayed = (stay_dropped (mut_ref_to (0 ∷ []) tt (plain (λ _. Hd.the_row))) no, tt)

abbrev with_service : Handle → Service → Handle
with_service h w = record h { service = w }

module _ {M : Type 1} {𝓤 : Ura M} (𝓛 : Logic 𝓤) (at_mem : Memory → SProp 𝓤) (run : Routine → Fun 𝓤) where
  open 𝓛 use {H, A}

  abbrev spec : Clauses 𝓤 F.ended
  spec = F.clauses 𝓛 at_mem run

  module _ (κ : Lft) (q : Share) (rb ro : ℕ) (γ : GName) (h : Handle) where
    abbrev self : MutBor Handle
    self = record { ref_ptr = (rb, ro); ghost_name = γ; now = h }

    abbrev bound : (walk_of 𝓛 F.ended stayed spec).Ghost
    bound = (((κ, tt), (q, tt), tt, (self, tt), (vptr rb ro ∷ [], tt)), tt)

    abbrev Post : Val → SProp 𝓤
    Post = (walk_of 𝓛 F.ended stayed spec).post bound

    module _ (b o : ℕ) where
      abbrev word : Val
      word = vstruct (vcons (vptr b o) vnil)

      -- all of the handle but the service
      abbrev Rest : Fml
      Rest = fsep (ghosts.dealloc_token handle (bare (layout S.the_row)) (block_ptr b o)) (cell_at full_share Hd.the_row.mir (word ∷ []) rb ro)

      back : h.at ≡ block_ptr b o → (w : Service) → ent 𝓤 (sep 𝓤 (sem 𝓛 ((mem S.the_row).own_at w b o)) (sem 𝓛 Rest)) (sem 𝓛 ((mem Hd.the_row).own_at (with_service h w) rb ro))
      unfolding part_of
      back at_b w =
          qed 𝓛 (‵ (part_at S.the_row full_share w b o) ∷ ‵ Rest ∷ []) ∵ move ! (1 ∷ []) $ fsplit ! $ move ! (2 ∷ 0 ∷ []) $ fjoin ! $
          rewrite ! 0 (λ (p : Ptr). ‵ (box_owns (ghosts.dealloc_token handle) S.the_row p w)) (sym at_b) refl $
          nothing ! $ feq_i ! (List Val) (vptr b o ∷ []) (ptr_val h.at ∷ []) (ap (λ (p : Ptr). ptr_val p ∷ []) (sym at_b)) $ fjoin ! $
          feq_i ! (List Val) (word ∷ []) (word ∷ []) refl $ fjoin ! $
          fpack ! (Valss (RawPtr ∷ [])) (within (shape Hd.the_type) (h.at, tt) (word ∷ [])) (vptr b o ∷ [], tt) $ fjoin ! $ move ! (1 ∷ 0 ∷ []) $ fjoin ! $
          fpack ! (List Val) (λ us. fsep (cell_at full_share Hd.the_row.mir us rb ro) (Hd.the_row.own_val (with_service h w) us)) (word ∷ []) $ done !

      exits : (γ' : GName)
          → ent 𝓤 (sep 𝓤 (sem 𝓛 ((MutRef (named 0) κ S.the_row).own_val (record { ref_ptr = (b, o); ghost_name = γ'; now = h.service }) (vptr b o ∷ []))) (sep 𝓤 (A.lft κ q) (sem 𝓛 (follows Hd.the_row S.the_row γ γ' (with_service h))))) (Post (vptr b o))
      exits γ' =
          qed 𝓛 (‵ ((MutRef (named 0) κ S.the_row).own_val (record { ref_ptr = (b, o); ghost_name = γ'; now = h.service }) (vptr b o ∷ [])) ∷ ‵ (flft κ q) ∷ ‵ (follows Hd.the_row S.the_row γ γ' (with_service h)) ∷ []) ∵
          suffices ! _ (ends_at 𝓛 F.ended stayed spec bound (vptr b o) (record { ref_ptr = (b, o); ghost_name = γ'; now = h.service }) (tt, tt) (tt, tt)) $
          nothing ! $ nothing ! $ fjoin ! $ join ! $ nothing ! $ move ! (2 ∷ 0 ∷ []) $ join ! $ join ! $ frame ! $ says ! refl $ done !

    module _ (C : Calls 𝓤 H) (Λ : Loops 𝓤 H) where
      walk : ent 𝓤 (on_entry 𝓛 (F.ended).signature (κ, tt) (q, tt) (self, tt) (vptr rb ro ∷ [], tt)) (WpFn 𝓤 H C Λ code.function (vptr rb ro ∷ []) Post)
      walk =
          qed 𝓛 ((‵ (flft κ q) ⊛ ‵ ftrue) ∷ ‵ (owns (MutRef (named 0) κ Hd.the_row ∷ []) (self, tt) (vptr rb ro ∷ [], tt)) ∷ []) ∵
          enter ! C Λ code.function (vptr rb ro ∷ []) _ $
          alloc_all ! (λ l. pass_all ! refl ((tt, tt), tt) $
          let En : Env 𝓤 H = env (code.function).locals l in
          move ! (1 ∷ []) $ fsplit ! $ fsplit3 ! $ drop ! $ move ! (3 ∷ []) $ split ! $ move ! (2 ∷ 3 ∷ 0 ∷ []) $
          opens ! tt Hd.the_row {h = h} rb ro (λ vs. move ! (1 ∷ []) $
          -- the handle is taken apart
          fsplit ! $ fpick ! (λ vss. fsplit ! $ feq_l ! (λ ev. fsplit ! $ feq_l ! (λ ep. drop ! $
          in_a_block ! h.at (λ p. box_owns (ghosts.dealloc_token handle) S.the_row p h.service) (fst∗ 𝓤 (never 𝓤) (sem 𝓛 (ghosts.dealloc_token handle (bare (layout S.the_row)) null_ptr))) (λ b o e.
          let is : vs ≡ word b o ∷ [] = subst (λ (p : Ptr). vs ≡ vstruct (of_list (ptr_val p ∷ [])) ∷ []) e (subst (λ (ps : List Val). vs ≡ vstruct (of_list (ps ++ [])) ∷ []) ep ev) in
          fsplit ! $ rewrite ! 2 (λ (us : List Val). ‵ (cell_at full_share Hd.the_row.mir us rb ro)) is refl $
          -- [the service; the right to free it; the handle's cell; the open borrow; obs; auth]
          first ! $ blocks ! $
          sets ! (of_opd ! (load ! (through ! refl (fld ! refl (stop !))) (look_in ! 2 (sub ! 0 refl (whole !))))) refl (tt, tt) $
          sets ! (of_opd ! (get ! refl)) refl (tt, tt) $
          sets_last ! (addr ! (through ! refl (stop !))) refl (tt, tt) $
          exec ! C Λ En (after 1 (code.function).body) (at_ret En Post) $
          sets ! (of_opd ! (get ! refl)) refl (tt, tt) $
          move ! (1 ∷ 2 ∷ []) $ fjoin ! $ move ! (2 ∷ 3 ∷ 4 ∷ 1 ∷ 0 ∷ []) $ group ! 5 $
          use1 𝓛 (later (some (λ (γ' : GName). raw (Part 𝓛 Hd.the_row S.the_row (with_service h) (named 0) κ q rb ro b o γ (sem 𝓛 (Rest b o)) (back b o e) h.service γ'))))
          (lends_Part 𝓛 Hd.the_row S.the_row (with_service h) (named 0) κ q rb ro b o γ (sem 𝓛 (Rest b o)) (back b o e) (Hd.the_row.coded.code h) (Hd.the_row.coded.code h) h.service) $ await ! tt $ pick ! (λ γ'.
          returns ! (look_at ! 0 refl) $ free_all ! refl $
          keep ! (0 ∷ []) $ by ! (exits b o γ'))))))))

  meets : (𝓣 : Tables 𝓤 H) → Meets 𝓛 F.signature (WpFn 𝓤 H 𝓣.C 𝓣.Λ code.function) (F.spec 𝓛 at_mem run)
  meets 𝓣 =
      walk_Meets 𝓛 F.ended stayed (Goes-spent_ref 𝓛 1 (0 ∷ []) tt (plain (λ _. Hd.the_row)), tt) spec (WpFn 𝓤 H 𝓣.C 𝓣.Λ code.function) (WpFn-mono 𝓤 H 𝓛.laws 𝓣 code.function)
      (walked 𝓛 F.ended stayed spec (WpFn 𝓤 H 𝓣.C 𝓣.Λ code.function) (λ κs. (mut_vals, tt)) (λ κs. (mut_Tells (named 0) κs.0 Hd.the_row, tt))
      (λ κs qs bounds a g are. via 𝓤 _ (fst∗ 𝓤 _ (emp 𝓤)) (walk κs.0 qs.0 a.0.ref_ptr.0 a.0.ref_ptr.1 a.0.ghost_name a.0.now 𝓣.C 𝓣.Λ)))

pub service_spec : {M : Type 1} → stated.statement M
unfolding tables_of
service_spec 𝓤 𝓛 𝓜 𝓡 wired =
    entered 𝓤 𝓛.H (triple_of 𝓛 F.signature (F.spec 𝓛 𝓜.mem 𝓡.returns))
    (tables 𝓤 𝓛.H 𝓜 𝓡 𝓡.env).C (tables 𝓤 𝓛.H 𝓜 𝓡 𝓡.env).Λ #self code.function (code.unfolded 𝓤 𝓛.H 𝓜 𝓡 wired)
    (meets 𝓛 𝓜.mem 𝓡.returns (tables_of 𝓤 𝓛.H 𝓜 (tables 𝓤 𝓛.H 𝓜 𝓡 𝓡.env)))
