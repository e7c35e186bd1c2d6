-- What is left after an error of adding.
use Rattle.std.proofs.Common.{◌≡◌, ℕ, List, inl, inr, Option, Result, Ok, Err, refl, sym, subst}
use Rattle.std.specs.Result.{IsErrAnd}
use Rattle.wire_names.specs.rr.domain.DomainName.{DomainName}
use Rattle.std.specs.Str.Lines.{lines}
use Rattle.hickory_store.specs.blocklist.AddedLists.{Adds, ReadsText}
use Rattle.hickory_store.specs.blocklist.Entries.{AddsFirstLines}
use Rattle.hickory_store.specs.declared.blocklist.handler.AddError.{AddError}
use Rattle.hickory_store.specs.declared.blocklist.handler.AddError.TheVariants.{Io, NotUtf8, Memory}

module _ (left after : Option (List ℕ)) (old : List DomainName) where
  nothing_by : (e : AddError) → (e ≡ NotUtf8 → ⊥) → Adds (Err e) left after old old
  nothing_by Io other = refl
  nothing_by NotUtf8 other = absurd (other refl)
  nothing_by Memory other = inl refl

  -- the list could not be read whole
  pub nothing_added : (r : Result (Unit {0}) AddError) (e : AddError) → (e ≡ NotUtf8 → ⊥) → IsErrAnd r (λ f. f ≡ e) → Adds r left after old old
  nothing_added (Ok x) e other is = absurd is
  nothing_added (Err f) e other is = subst (λ (e : AddError). Adds (Err e) left after old old) (sym is) (nothing_by e other)

  -- it was read, and a front of its lines was added
  pub front_added : (r : Result (Unit {0}) AddError) (bytes : List ℕ) (new : List DomainName) → IsErrAnd r (λ f. f ≡ Memory) → ReadsText left after bytes → AddsFirstLines old (lines bytes) new → Adds r left after old new
  front_added (Ok x) bytes new is read added = absurd is
  front_added (Err f) bytes new is read added = subst (λ (e : AddError). Adds (Err e) left after old new) (sym is) (inr (bytes, read, added))
