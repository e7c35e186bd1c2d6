-- What has settings is not refused.
use Rattle.std.proofs.Common.{◌≡◌, ℕ, List, true, Option, Some, None, String, Global, refl, sym, ap, subst, ◌∙◌, inl, inr}
use Rattle.std.proofs.lemmas.Bool.{false≢true}
use Rattle.std.specs.Prelude.{is_some}
use Rattle.toml.specs.Data.{Data, Members, no_members, member}
use Rattle.server_settings.specs.Settings.{AreKnown, HasMember, IsDocument, IsRefused, Pair, is_option, join, settings_of, settings_under}

pub same_some : {A : Type 0} (a b : A) → Some a ≡ Some b → a ≡ b
same_some a b e = ap (λ o. elim o [ Some x ↦ x | None ↦ a ]) e

known_member : (options : List (String Global)) (ms : Members) (name : List ℕ) (d : Data) → AreKnown options ms → HasMember name d ms → is_option options name ≡ true
known_member options no_members name d known there = elim there [ ]
known_member options (member k e ms) name d known (inl (named, _)) = ap (is_option options) (sym named) ∙ known.0
known_member options (member k e ms) name d known (inr there) = known_member options ms name d known.1 there

joined : (front back : Option (List Pair)) (settings : List Pair) → join front back ≡ Some settings → (is_some front ≡ true) × ((rest : List Pair) × (back ≡ Some rest))
joined (Some front) (Some back) settings e = (refl, (back, refl))
joined (Some front) None settings e = absurd (false≢true (ap is_some e))
joined None back settings e = absurd (false≢true (ap is_some e))

given_member : (ms : Members) (settings : List Pair) (name : List ℕ) (d : Data) → settings_of ms ≡ Some settings → HasMember name d ms → settings_under name d ≡ None → ⊥
given_member no_members settings name d given there none = elim there [ ]
given_member (member k e ms) settings name d given (inl (named, is)) none =
    let nothing : settings_under k e ≡ None = rw (named, is) none in
    false≢true (sym (ap is_some nothing) ∙ (joined _ _ settings given).0)
given_member (member k e ms) settings name d given (inr there) none =
    let (_, (rest, back)) = joined _ _ settings given in
    given_member ms rest name d back there none

pub settings_stand : (options : List (String Global)) (text : List ℕ) (ms : Members) (settings : List Pair) → IsDocument text ms → AreKnown options ms → settings_of ms ≡ Some settings → ¬ (IsRefused options text)
settings_stand options text ms settings document known given (inl (name, (others, d, other, there, unknown))) =
    let same : others ≡ ms = same_some _ _ (sym other.1 ∙ document.1) in
    false≢true (sym unknown ∙ known_member options ms name d known (subst (HasMember name d) same there))
settings_stand options text ms settings document known given (inr (name, (others, d, other, there, none))) =
    let same : others ≡ ms = same_some _ _ (sym other.1 ∙ document.1) in
    given_member ms settings name d given (subst (HasMember name d) same there) none

pub not_both : {A : Type 0} (o : Option A) (a : A) → o ≡ None → o ≡ Some a → ⊥
not_both o a none some = false≢true (sym (ap is_some none) ∙ ap is_some some)
