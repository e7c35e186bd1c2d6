-- The names of wildcards, and how long names are.
use Rattle.std.proofs.Common.{◌≡◌, ℕ, suc, ◌+◌, ◌<◌, ◌≤◌, List, [], ◌∷◌, ◌++◌, ◌-◌, drop, take, get_or, length, refl, sym, ap, subst, ◌∙◌, arith}
use Rattle.std.proofs.Common.{Bool}
use Rattle.wire_names.specs.rr.domain.NameOrder.{Encloses, lower_labels, lower_name}
use Rattle.std.specs.Char.{to_ascii_lowercase}
use Rattle.std.specs.Map.{keys_of}
use Rattle.std.proofs.lemmas.List.Elements.{All-contains}
use Rattle.zone_answers.specs.Zones.{AreOwners, Exists, IsOwner, Sets, wildcard}
use Rattle.std.proofs.lemmas.List.{length-drop, length-map, take_all}
use Rattle.wire_names.specs.rr.domain.DomainName.{DomainName, cut, name_len, wire_form}
use Rattle.wire_names.proofs.lemmas.rr.domain.WireForm.{cut-wire, name_len-wire_form}

pub too_long : (ls : List (List ℕ)) → 254 < length (wire_form ls) + 2 → 255 < name_len ((42 ∷ []) ∷ ls)
too_long ls h = omega (arith, name_len-wire_form ls)

pub lower_len : (ls : List (List ℕ)) → name_len (lower_labels ls) ≡ name_len ls
lower_len [] = refl
lower_len (l ∷ ls) = omega (arith, length-map l to_ascii_lowercase, lower_len ls)

end_len : (front ls : List (List ℕ)) → name_len ls ≤ name_len (front ++ ls)
end_len [] ls = omega arith
end_len (l ∷ front) ls = omega (arith, end_len front ls)

-- what encloses a name is no longer
pub enclosing_len : (ns ms : List (List ℕ)) → Encloses ns ms → name_len ns ≤ name_len ms
enclosing_len ns ms e = omega (arith, ap name_len e.ends, end_len e.front (lower_labels ns), lower_len ns, lower_len ms)

-- no owner is below a name that is too long
pub none_owned : (origin : DomainName) (sets : Sets) (name : DomainName) → AreOwners origin sets → 255 < name_len name.labels → ¬ (Exists sets name)
none_owned origin sets name owners long x =
    let o : IsOwner origin x.owner = All-contains (IsOwner origin) (keys_of sets) x.owner owners x.held in
    absurd (omega (arith, enclosing_len name.labels x.owner.name.labels x.at_or_below, o.labels.short))

pub wildcard_is : (name inner source found : DomainName) (bytes : List ℕ) (labels : List (List ℕ)) (mark : Bool) → inner ≡ name → lower_labels name.labels ≡ name.labels → bytes ≡ wire_form inner.labels
    → labels ≡ (42 ∷ []) ∷ cut bytes → mark ≡ name.is_fqdn → source ≡ record { labels = labels; is_fqdn = mark } → found ≡ lower_name source → found ≡ wildcard name
wildcard_is name inner source found bytes labels mark same lower stand are marks is lowered =
    let own : labels ≡ (42 ∷ []) ∷ name.labels = are ∙ ap (λ (ls : List (List ℕ)). (42 ∷ []) ∷ ls) (ap cut stand ∙ cut-wire inner.labels ∙ ap (λ (d : DomainName). d.labels) same) in
    let whole : source ≡ wildcard name = is ∙ ap (λ (ls : List (List ℕ)). let d : DomainName = record { labels = ls; is_fqdn = mark } in d) own ∙ ap (λ (m : Bool). let d : DomainName = record { labels = (42 ∷ []) ∷ name.labels; is_fqdn = m } in d) marks in
    lowered ∙ ap lower_name whole ∙ ap (λ (ls : List (List ℕ)). let d : DomainName = record { labels = (42 ∷ []) ∷ ls; is_fqdn = name.is_fqdn } in d) lower

-- a label of one octet
one_octet : (l : List ℕ) (b : ℕ) (rest : List ℕ) → length l ≡ 1 → get_or (l ++ rest) 0 0 ≡ b → l ≡ b ∷ []
one_octet [] b rest one is = absurd (omega arith)
one_octet (x ∷ []) b rest one is = ap (λ y. y ∷ []) is
one_octet (x ∷ y ∷ l) b rest one is = absurd (omega arith)

behind_label : (l rest : List ℕ) → drop (length l) (l ++ rest) ≡ rest
behind_label [] rest = refl
behind_label (x ∷ l) rest = behind_label l rest

same_ends : (os ms : List (List ℕ)) → wire_form os ≡ wire_form ms → os ≡ ms
same_ends os ms is = sym (cut-wire os) ∙ ap cut is ∙ cut-wire ms

-- a name whose first label is `*`, and that goes on as another one behind its first label
pub beside : (own ls : List (List ℕ)) → 0 < length (wire_form ls) → 1 < length (wire_form own) → get_or (wire_form own) 0 0 ≡ 1 → get_or (wire_form own) 1 0 ≡ 42
    → drop 2 (wire_form own) ≡ drop (1 + get_or (wire_form ls) 0 0) (wire_form ls) → own ≡ (42 ∷ []) ∷ drop 1 ls
beside [] ls some more one star same = absurd (omega arith)
beside (l ∷ os) [] some more one star same = absurd (omega arith)
beside (l ∷ os) (m ∷ ms) some more one star same =
    let label : l ≡ 42 ∷ [] = one_octet l 42 (wire_form os) one star in
    let next : 1 + length m ≡ suc (length m) = omega arith in
    let ends : wire_form os ≡ wire_form ms = sym (ap (λ (x : List ℕ). drop 1 (x ++ wire_form os)) label) ∙ same ∙ ap (λ n. drop n (wire_form (m ∷ ms))) next ∙ behind_label m (wire_form ms) in
    ap (λ (x : List ℕ). x ∷ os) label ∙ ap (λ (xs : List (List ℕ)). (42 ∷ []) ∷ xs) (same_ends os ms ends)

pub beside_bytes : (own ls : List (List ℕ)) (w v : List ℕ) → w ≡ wire_form own → v ≡ wire_form ls → 0 < length v → 1 < length w → get_or w 0 0 ≡ 1 → get_or w 1 0 ≡ 42
    → drop 2 w ≡ drop (1 + get_or v 0 0) v → own ≡ (42 ∷ []) ∷ drop 1 ls
beside_bytes own ls w v of_own of_name =
    subst (λ (x : List ℕ). 0 < length v → 1 < length x → get_or x 0 0 ≡ 1 → get_or x 1 0 ≡ 42 → drop 2 x ≡ drop (1 + get_or v 0 0) v → own ≡ (42 ∷ []) ∷ drop 1 ls) (sym of_own)
    (subst (λ (y : List ℕ). 0 < length y → 1 < length (wire_form own) → get_or (wire_form own) 0 0 ≡ 1 → get_or (wire_form own) 1 0 ≡ 42
    → drop 2 (wire_form own) ≡ drop (1 + get_or y 0 0) y → own ≡ (42 ∷ []) ∷ drop 1 ls) (sym of_name) (beside own ls))

-- what is taken of the rest, as long as it is, is the rest
rest_taken : (xs : List ℕ) (n m : ℕ) → n ≡ m → take (length xs - n) (drop n xs) ≡ drop m xs
rest_taken xs n m is = take_all (length xs - n) (drop n xs) (omega (arith, length-drop n xs)) ∙ ap (λ k. drop k xs) is

pub same_rest : (xs ys : List ℕ) (n m : ℕ) → n ≡ m → take (length xs - 2) (drop 2 xs) ≡ take (length ys - (1 + n)) (drop (1 + n) ys) → drop 2 xs ≡ drop (1 + m) ys
same_rest xs ys n m is same = sym (rest_taken xs 2 2 refl) ∙ same ∙ rest_taken ys (1 + n) (1 + m) (ap (λ k. 1 + k) is)
