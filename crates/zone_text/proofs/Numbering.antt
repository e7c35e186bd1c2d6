-- What a text with a number for its dollar signs is, is told by its fronts, one behind the other.
use Rattle.std.proofs.Common.{◌≡◌, ◌∙◌, ℕ, Bool, List, [], ◌∷◌, ◌++◌, Some, None, Option, MatchOption, Bor, length, ◌<◌, append_assoc, append-nil, sym, ap, subst, refl, arith}
use Rattle.zone_text.specs.Numbered.{IsNumbered, front_of}
use Rattle.zone_text.specs.Numbered.IsNumbered.{nothing, more}

pairs : (a b c d : List ℕ) → ◌≡◌ {A = Option (List ℕ × List ℕ)} (Some (a, b)) (Some (c, d)) → (a ≡ c) × (b ≡ d)
pairs a b c d e =
    let same : ◌≡◌ {A = List ℕ × List ℕ} (a, b) (c, d) = cc in
    (ap (λ (p : List ℕ × List ℕ). p.0) same, ap (λ (p : List ℕ × List ℕ). p.1) same)

-- what is put of a front
abbrev pub Puts : Bool → ℕ → List ℕ → List ℕ → List ℕ → Bor (List ℕ) → Type 0
Puts quoted number text old new behind = (own : List ℕ) × (front_of quoted number text ≡ Some (own, behind.now)) × (new ≡ old ++ own) × (length behind.now < length text)

pub put_of : (quoted : Bool) (number : ℕ) (text old new : List ℕ) (found : Option (Bor (List ℕ))) (behind : Bor (List ℕ)) → found ≡ Some behind → MatchOption found (front_of quoted number text ≡ None) (Puts quoted number text old new) → Puts quoted number text old new behind
put_of quoted number text old new found behind is h = subst (λ (o : Option (Bor (List ℕ))). MatchOption o (front_of quoted number text ≡ None) (Puts quoted number text old new)) is h

pub no_bytes : (text : List ℕ) → length text ≡ 0 → text ≡ []
no_bytes [] e = refl
no_bytes (byte ∷ text) e = absurd (omega arith)

module _ (quoted : Bool) (number : ℕ) where
  -- behind a front stands what it does not stand for
  pub next : (text own behind tail : List ℕ) → front_of quoted number text ≡ Some (own, behind) → IsNumbered quoted number text tail → (rest : List ℕ) × (tail ≡ own ++ rest) × IsNumbered quoted number behind rest
  next text own behind tail front nothing = absurd (cc)
  next text own behind tail front (more {own = other} {behind = b} {rest = rest} e h) =
      let same = pairs other b own behind (sym e ∙ front) in
      (rest, ap (λ (l : List ℕ). l ++ rest) same.0, subst (λ (l : List ℕ). IsNumbered quoted number l rest) same.1 h)

  pub none : (text tail : List ℕ) → (text ≡ [] → ⊥) → front_of quoted number text ≡ None → IsNumbered quoted number text tail → ⊥
  none text tail some without nothing = some refl
  none text tail some without (more e h) = cc

  pub forth : (text rest own behind bytes new all : List ℕ) → front_of quoted number rest ≡ Some (own, behind) → new ≡ bytes ++ own → ((tail : List ℕ) → IsNumbered quoted number rest tail → IsNumbered quoted number text (bytes ++ tail)) → IsNumbered quoted number behind all → IsNumbered quoted number text (new ++ all)
  forth text rest own behind bytes new all front is before h = subst (IsNumbered quoted number text) (sym (ap (λ (l : List ℕ). l ++ all) is ∙ append_assoc bytes own all)) (before (own ++ all) (more front h))

  pub back : (text rest own behind bytes new all : List ℕ) → front_of quoted number rest ≡ Some (own, behind) → new ≡ bytes ++ own → (tail : List ℕ) × (all ≡ bytes ++ tail) × IsNumbered quoted number rest tail → (tail : List ℕ) × (all ≡ new ++ tail) × IsNumbered quoted number behind tail
  back text rest own behind bytes new all front is before =
      let n = next rest own behind before.0 front before.2 in
      (n.0, before.1 ∙ ap (λ (l : List ℕ). bytes ++ l) n.1 ∙ sym (append_assoc bytes own n.0) ∙ ap (λ (l : List ℕ). l ++ n.0) (sym is), n.2)

  pub whole : (text rest bytes : List ℕ) → rest ≡ [] → ((tail : List ℕ) → IsNumbered quoted number rest tail → IsNumbered quoted number text (bytes ++ tail)) → IsNumbered quoted number text bytes
  whole text rest bytes end before = subst (IsNumbered quoted number text) (append-nil bytes) (before [] (subst (λ (l : List ℕ). IsNumbered quoted number l []) (sym end) nothing))

  -- and so it is one
  pub once : (text one other : List ℕ) → IsNumbered quoted number text one → IsNumbered quoted number text other → one ≡ other
  once text one other nothing is = nothing_once other is where
    nothing_once : (other : List ℕ) → IsNumbered quoted number [] other → [] ≡ other
    nothing_once other nothing = refl
    nothing_once other (more e h) = absurd (cc)
  once text one other (more {own = own} {behind = behind} {rest = rest} e h) is =
      let n = next text own behind other e is in
      ap (λ (l : List ℕ). own ++ l) (once behind rest n.0 h n.2) ∙ sym n.1
