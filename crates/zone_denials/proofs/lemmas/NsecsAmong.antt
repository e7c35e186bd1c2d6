-- The last NSEC key before a name has the last record of the chain before it.
use Rattle.std.proofs.Common.{◌≡◌, ℕ, ◌==◌, true, false, Bool, cond, List, [], ◌∷◌, ◌++◌, refl, sym, ap, subst, ◌∙◌, append_assoc, arith}
use Rattle.std.specs.List.{AllByRecursion}
use Rattle.std.specs.declared.cmp.Ordering.{Ordering}
use Rattle.std.specs.declared.cmp.Ordering.TheVariants.{Less, Equal, Greater}
use Rattle.std.specs.Ordering.{nat_cmp, ordering_then}
use Rattle.wire_names.specs.rr.domain.DomainName.{DomainName}
use Rattle.wire_names.specs.rr.domain.NameOrder.{name_cmp}
use Rattle.wire_messages.specs.Numbers.{type_nsec}
use Rattle.wire_messages.specs.rr.RrKeys.{key_cmp}
use Rattle.wire_messages.specs.declared.rr.rr_key.RrKey.{RrKey}
use Rattle.zone_denials.specs.Nsec.{IsBefore, Nsec}
use Rattle.zone_denials.specs.NsecKeys.{LastNsecIsLast, chain_of, is_nsec, is_other}

put : (b : Bool) (n : Nsec) (xs ys : List Nsec) → cond b (n ∷ (xs ++ ys)) (xs ++ ys) ≡ cond b (n ∷ xs) xs ++ ys
put true n xs ys = refl
put false n xs ys = refl

chain_append : (under : RrKey → Nsec) (xs ys : List RrKey) → chain_of under (xs ++ ys) ≡ chain_of under xs ++ chain_of under ys
chain_append under [] ys = refl
chain_append under (k ∷ xs) ys =
    ap (λ ns. cond (k.record_type == type_nsec) (under k ∷ ns) ns) (chain_append under xs ys) ∙ put (k.record_type == type_nsec) (under k) (chain_of under xs) (chain_of under ys)

none_of : (under : RrKey → Nsec) (ks : List RrKey) → AllByRecursion is_other ks → chain_of under ks ≡ []
none_of under [] h = refl
none_of under (k ∷ ks) h = ap (λ b. cond b (under k ∷ chain_of under ks) (chain_of under ks)) h.0 ∙ none_of under ks h.1

at_key : (under : RrKey → Nsec) (key : RrKey) (ks : List RrKey) → is_nsec key → chain_of under (key ∷ ks) ≡ under key ∷ chain_of under ks
at_key under key ks h = ap (λ b. cond b (under key ∷ chain_of under ks) (chain_of under ks)) h

picked : (P : RrKey → Type 0) (front : List RrKey) (k : RrKey) (rest : List RrKey) → AllByRecursion P (front ++ k ∷ rest) → P k
picked P [] k rest h = h.0
picked P (f ∷ front) k rest h = picked P front k rest h.1

-- a key before the least one of a name has a name before it
name_before : (key first : RrKey) → first.record_type ≡ 0 → key_cmp key first ≡ Less → IsBefore key.name first.name
name_before key first least h = by_order (name_cmp key.name first.name) refl where
  not_below : (t : ℕ) → nat_cmp t 0 ≡ Less → ⊥
  not_below t e = absurd (grind (arith, e))

  by_order : (o : Ordering) → name_cmp key.name first.name ≡ o → IsBefore key.name first.name
  by_order Less e = e
  by_order Equal e = absurd (not_below key.record_type (ap (nat_cmp key.record_type) (sym least) ∙ ap (λ o. ordering_then o (nat_cmp key.record_type first.record_type)) (sym e) ∙ h))
  by_order Greater e = absurd (greater_not (ap (λ o. ordering_then o (nat_cmp key.record_type first.record_type)) (sym e) ∙ h)) where
    greater_not : Greater ≡ Less → ⊥
    greater_not e = cc

key_before : (key first : RrKey) → IsBefore key.name first.name → key_cmp key first ≡ Less
key_before key first h = ap (λ o. ordering_then o (nat_cmp key.record_type first.record_type)) h

cond_all : (P : Nsec → Type 0) (b : Bool) (n : Nsec) (ns : List Nsec) → P n → AllByRecursion P ns → AllByRecursion P (cond b (n ∷ ns) ns)
cond_all P true n ns p h = (p, h)
cond_all P false n ns p h = h

none_before : (under : RrKey → Nsec) (first : RrKey) (ks : List RrKey) → ((k : RrKey) → (under k).owner ≡ k.name) → AllByRecursion (λ k. ¬ (key_cmp k first ≡ Less)) ks → AllByRecursion (λ m. ¬ (IsBefore m.owner first.name)) (chain_of under ks)
none_before under first [] owners h = tt
none_before under first (k ∷ ks) owners h =
    cond_all (λ m. ¬ (IsBefore m.owner first.name)) (k.record_type == type_nsec) (under k) (chain_of under ks)
    (λ b. h.0 (key_before k first (subst (λ (d : DomainName). IsBefore d first.name) (owners k) b))) (none_before under first ks owners h.1)

pub last_nsec_is_last : LastNsecIsLast
last_nsec_is_last under before from first key owners least low high last =
    let whole : before ++ from ≡ last.front ++ (key ∷ (last.rest ++ from)) = ap (λ ks. ks ++ from) last.is ∙ append_assoc last.front (key ∷ last.rest) from in
    let chain : chain_of under (before ++ from) ≡ chain_of under last.front ++ (under key ∷ chain_of under from) =
    ap (chain_of under) whole ∙ chain_append under last.front (key ∷ (last.rest ++ from))
    ∙ ap (λ ns. chain_of under last.front ++ ns) (at_key under key (last.rest ++ from) last.nsec ∙ ap (λ ns. under key ∷ ns) (chain_append under last.rest from ∙ ap (λ ns. ns ++ chain_of under from) (none_of under last.rest last.others))) in
    record {
      front = chain_of under last.front;
      rest = chain_of under from;
      is = chain;
      before = subst (λ (d : DomainName). IsBefore d first.name) (sym (owners key)) (name_before key first least (picked (λ k. key_cmp k first ≡ Less) last.front key last.rest (subst (AllByRecursion (λ k. key_cmp k first ≡ Less)) last.is low)));
      after = none_before under first from owners high;
    }
