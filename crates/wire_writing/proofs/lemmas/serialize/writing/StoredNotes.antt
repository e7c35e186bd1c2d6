-- The notes of a compression table, which lie in the table itself until they are linked.
use Rattle.std.proofs.Common.{◌≡◌, ◌≢◌, ℕ, ◌-◌, ◌<◌, List, [], ◌∷◌, ◌++◌, length, take, Option, None, refl, sym, ap, ◌∙◌, subst, arith, length-append, length-take}
use Rattle.std.proofs.lemmas.List.{append-nil, map-append, take-map, nil_from_length}
use Rattle.std.specs.List.{All}
use Rattle.wire_writing.specs.representation.Noted.{Notes, IsPlace, first_place}
use Rattle.wire_writing.specs.representation.NameTable.{pairs, AreLinked, IsKept, IsTable, IsStored}
use Rattle.wire_writing.specs.declared.serialize.writing.compression_table.Note.{Note}
use Rattle.wire_writing.specs.declared.serialize.writing.compression_table.KeptName.{KeptName}
use Rattle.wire_writing.proofs.lemmas.serialize.writing.FirstPlaces.{pair, first_place-rest, none_kept, take_both, IsTable-push, IsTable-take}

not_empty : (notes : List Note) (lasts : List ℕ) → AreLinked notes lasts → lasts ≢ []
not_empty notes lasts h e = absurd (omega (arith, h.each, ap length e))

stored_behind : (first linked : List Note) (lasts : List ℕ) → first ≡ [] → AreLinked linked lasts → IsStored first linked lasts
stored_behind first linked lasts none h = record {
  short = omega (arith, ap length none);
  here = λ e. absurd (not_empty linked lasts h e);
  behind = λ ne. none;
}

module _ (asked : Notes) (first linked : List Note) (owner target : Option KeptName) (lasts : List ℕ) (t : IsTable asked (first ++ linked) owner target lasts) (st : IsStored first linked lasts) where
  -- A suffix that is not among all notes is not among those that were made.
  new : (s : List ℕ) → first_place s (asked ++ pairs (first ++ linked)) ≡ None → first_place s (pairs (first ++ linked)) ≡ None
  new s e = first_place-rest s asked (pairs (first ++ linked)) e

  pub only_first : lasts ≡ [] → first ++ linked ≡ first
  only_first e = ap (λ ns. first ++ ns) (st.here e) ∙ append-nil first

  -- where nothing was noted
  module _ (e : asked ++ pairs (first ++ linked) ≡ []) where
    none_made : (asked' : Notes) → asked' ++ pairs (first ++ linked) ≡ asked'
    none_made asked' = ap (λ ns. asked' ++ ns) (nil_from_length (pairs (first ++ linked)) (omega (arith, ap length e, length-append asked (pairs (first ++ linked))))) ∙ append-nil asked'

    nothing_kept : (kept : Option KeptName) (all : Notes) → IsKept (asked ++ pairs (first ++ linked)) kept → IsKept all kept
    nothing_kept kept all h = none_kept kept all (subst (λ ns. IsKept ns kept) e h)

    pub begun : (asked' : Notes) (kept : Option KeptName) → All (λ note. IsPlace note.1) asked' → IsKept asked' kept → IsTable asked' (first ++ linked) kept target lasts
    begun asked' kept in_range k = record {
      apart = t.apart;
      in_range = subst (λ ns. All (λ note. IsPlace note.1) ns) (sym (none_made asked')) in_range;
      linked = t.linked;
      owner_kept = subst (λ ns. IsKept ns kept) (sym (none_made asked')) k;
      target_kept = nothing_kept target (asked' ++ pairs (first ++ linked)) t.target_kept;
    }

    pub begun_root : (asked' : Notes) → All (λ note. IsPlace note.1) asked' → IsTable asked' (first ++ linked) owner target lasts
    begun_root asked' in_range = begun asked' owner in_range (nothing_kept owner asked' t.owner_kept)

  -- where they are linked
  module _ (ne : lasts ≢ []) (linked' : List Note) (lasts' : List ℕ) (h : AreLinked linked' lasts') where
    none : first ≡ []
    none = st.behind ne

    behind : IsTable asked linked owner target lasts
    behind = subst (λ ns. IsTable asked (ns ++ linked) owner target lasts) none t

    pub linked-push : (s : List ℕ) (p : ℕ) → pairs linked' ≡ pairs linked ++ (s, p) ∷ [] → first_place s (asked ++ pairs (first ++ linked)) ≡ None → IsPlace p → IsTable asked (first ++ linked') owner target lasts' × IsStored first linked' lasts'
    linked-push s p e fresh at = (
      subst (λ ns. IsTable asked (ns ++ linked') owner target lasts') (sym none)
          (IsTable-push asked linked linked' owner target lasts lasts' s p behind e (subst (λ ns. first_place s (pairs (ns ++ linked)) ≡ None) none (new s fresh)) at (λ ne. h)),
      stored_behind first linked' lasts' none h,
    )

    linked-made : (k : ℕ) → linked' ≡ take k linked → pairs (first ++ linked') ≡ take k (pairs (first ++ linked))
    linked-made k e = subst (λ ns. pairs (ns ++ linked') ≡ take k (pairs (ns ++ linked))) (sym none) (ap pairs e ∙ sym (take-map pair k linked))

    pub linked-view : (j : ℕ) (asked' : Notes) → asked' ≡ take j asked → linked' ≡ take (j - length asked) linked → asked' ++ pairs (first ++ linked') ≡ take j (asked ++ pairs (first ++ linked))
    linked-view j asked' a e = ap (λ ns. ns ++ pairs (first ++ linked')) a ∙ ap (λ ns. take j asked ++ ns) (linked-made (j - length asked) e) ∙ take_both asked (pairs (first ++ linked)) j

    pub linked-take : (j : ℕ) (asked' : Notes) → asked' ≡ take j asked → linked' ≡ take (j - length asked) linked → IsTable asked' (first ++ linked') None None lasts' × IsStored first linked' lasts'
    linked-take j asked' a e = (
      IsTable-take asked (first ++ linked) (first ++ linked') owner target lasts lasts' j (j - length asked) asked' t (linked-view j asked' a e) (linked-made (j - length asked) e) (λ ne. subst (λ ns. AreLinked (ns ++ linked') lasts') (sym none) h),
      stored_behind first linked' lasts' none h,
    )

  -- where they lie in the table itself
  module _ (e : lasts ≡ []) where
    -- with one note more
    pub first-push : (n : Note) (first' : List Note) → first' ≡ first ++ n ∷ [] → length first < 16 → first_place n.suffix.now (asked ++ pairs (first ++ linked)) ≡ None → IsPlace n.place → IsTable asked (first' ++ linked) owner target lasts × IsStored first' linked lasts
    first-push n first' more lt fresh at =
        let all : first' ++ linked ≡ first ++ n ∷ [] = ap (λ ns. first' ++ ns) (st.here e) ∙ append-nil first' ∙ more in
        let paired : pairs (first' ++ linked) ≡ pairs (first ++ linked) ++ pair n ∷ [] = ap pairs all ∙ map-append pair first (n ∷ []) ∙ ap (λ ns. pairs ns ++ pair n ∷ []) (sym (only_first e)) in (
          IsTable-push asked (first ++ linked) (first' ++ linked) owner target lasts lasts n.suffix.now n.place t paired (new n.suffix.now fresh) at (λ ne. absurd (ne e)),
          record {
            short = omega (arith, ap length more, length-append first (n ∷ []), lt);
            here = st.here;
            behind = λ ne. absurd (ne e);
          },
        )

    -- with one note more, linked in memory from then on
    pub moved-push : (moved pushed : List Note) (lasts' : List ℕ) (s : List ℕ) (p : ℕ) → pairs moved ≡ pairs first → pairs pushed ≡ pairs moved ++ (s, p) ∷ [] → AreLinked pushed lasts' → first_place s (asked ++ pairs (first ++ linked)) ≡ None → IsPlace p → IsTable asked pushed owner target lasts' × IsStored [] pushed lasts'
    moved-push moved pushed lasts' s p same more h fresh at =
        let paired : pairs pushed ≡ pairs (first ++ linked) ++ (s, p) ∷ [] = more ∙ ap (λ ps. ps ++ (s, p) ∷ []) (same ∙ ap pairs (sym (only_first e))) in (
          IsTable-push asked (first ++ linked) pushed owner target lasts lasts' s p t paired (new s fresh) at (λ ne. h),
          stored_behind [] pushed lasts' refl h,
        )

    first-made : (k : ℕ) (first' : List Note) → first' ≡ take k first → pairs (first' ++ linked) ≡ take k (pairs (first ++ linked))
    first-made k first' front = ap (λ ns. pairs (first' ++ ns)) (st.here e) ∙ ap pairs (append-nil first' ∙ front) ∙ sym (take-map pair k first) ∙ ap (λ ns. take k (pairs ns)) (sym (only_first e))

    pub first-view : (j : ℕ) (asked' : Notes) (first' : List Note) → asked' ≡ take j asked → first' ≡ take (j - length asked) first → asked' ++ pairs (first' ++ linked) ≡ take j (asked ++ pairs (first ++ linked))
    first-view j asked' first' a front = ap (λ ns. ns ++ pairs (first' ++ linked)) a ∙ ap (λ ns. take j asked ++ ns) (first-made (j - length asked) first' front) ∙ take_both asked (pairs (first ++ linked)) j

    -- with the first so many notes
    pub first-take : (j : ℕ) (asked' : Notes) (first' : List Note) → asked' ≡ take j asked → first' ≡ take (j - length asked) first → IsTable asked' (first' ++ linked) None None lasts × IsStored first' linked lasts
    first-take j asked' first' a front = (
      IsTable-take asked (first ++ linked) (first' ++ linked) owner target lasts lasts j (j - length asked) asked' t (first-view j asked' first' a front) (first-made (j - length asked) first' front) (λ ne. absurd (ne e)),
      record {
        short = omega (arith, ap length front, length-take (j - length asked) first, st.short);
        here = st.here;
        behind = λ ne. absurd (ne e);
      },
    )
