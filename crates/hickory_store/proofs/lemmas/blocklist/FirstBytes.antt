-- Whether a byte stands in a text, by the place where it stands first, and what that says of a line.
use Rattle.std.proofs.Common.{◌≡◌, ◌∙◌, ℕ, ◌<◌, Bool, true, false, cond, List, length, Some, None, ap, sym, refl, arith}
use Rattle.std.specs.List.{list_any, position_or_len, before_first, after_first}
use Rattle.std.specs.Str.{trim, bytes_eq}
use Rattle.std.specs.Prelude.{codes}
use Rattle.std.proofs.lemmas.List.Folds.{list_any_at, list_any_none}
use Rattle.std.proofs.lemmas.List.Sums.{fails_before_first, passes_at_first}
use Rattle.hickory_store.specs.blocklist.ListLines.{is_comment, is_blank, entry_of, name_of}

is_there : (p : ℕ → Bool) (bs : List ℕ) → position_or_len p bs < length bs → list_any p bs ≡ true
is_there p bs h = list_any_at p bs (position_or_len p bs) 0 h (passes_at_first p bs 0 h)

is_nowhere : (p : ℕ → Bool) (bs : List ℕ) → position_or_len p bs ≡ length bs → list_any p bs ≡ false
is_nowhere p bs e = list_any_none p bs (λ k d h. fails_before_first p bs k d (omega (arith, e, h)))

pub commented : (line entry result : List ℕ) → entry ≡ before_first is_comment line → position_or_len is_comment line < length line → result ≡ trim entry → result ≡ entry_of line
commented line entry result e h r = rw (is_there is_comment line h) (r ∙ ap trim e)

pub uncommented : (line : List ℕ) → position_or_len is_comment line ≡ length line → line ≡ entry_of line
uncommented line e = rw (is_nowhere is_comment line e) refl

module _ (entry address name : List ℕ) (before : address ≡ before_first is_blank entry) (behind : name ≡ after_first is_blank entry) (blank : position_or_len is_blank entry < length entry) where
  addressed : (b : Bool) → bytes_eq (trim address) (codes "0.0.0.0") ≡ b → name_of entry ≡ cond b (Some name) None
  addressed b e = rw (is_there is_blank entry blank, ← before, e, ← behind) refl

  pub unspecified : bytes_eq (trim address) (codes "0.0.0.0") ≡ true → Some name ≡ name_of entry
  unspecified e = sym (addressed true e)

  pub other_address : bytes_eq (trim address) (codes "0.0.0.0") ≡ false → None ≡ name_of entry
  other_address e = sym (addressed false e)

pub bare : (entry : List ℕ) → position_or_len is_blank entry ≡ length entry → Some entry ≡ name_of entry
bare entry e = rw (is_nowhere is_blank entry e) refl
