-- What is on a list once plain lines were added.
use Rattle.std.proofs.Common.{◌≡◌, inl, inr, ℕ, List, ◌++◌, Option, Some, None, Ok, Err, Any, sym, ap, ◌∙◌, subst}
use Rattle.std.specs.Prelude.{map}
use Rattle.std.specs.Str.{IsUtf8}
use Rattle.std.specs.Str.Lines.{lines}
use Rattle.std.proofs.lemmas.List.{append-nil}
use Rattle.wire_names.specs.rr.domain.DomainName.{DomainName}
use Rattle.hickory_store.specs.blocklist.AddedLists.{Adds}
use Rattle.hickory_store.specs.blocklist.Entries.{HasEntry}
use Rattle.hickory_store.specs.blocklist.ListLines.{Lists}
use Rattle.hickory_store.specs.blocklist.Readers.{ReadsToEnd}
use Rattle.hickory_store.specs.declared.blocklist.handler.AddError.{AddError}
use Rattle.hickory_store.specs.declared.blocklist.handler.AddError.TheVariants.{Io, NotUtf8, Memory}
use Rattle.name_lists.specs.Adding.{AddsList, AddsSome}
use Rattle.name_lists.specs.Counts.{Counts, IsAdapted, given_names}
use Rattle.name_lists.specs.Words.{lines_of, without_mark}
use Rattle.name_lists.proofs.ListedNames.{AreListable, all_listable, any_of_front, lines_are, listed, listing, text_of}

-- what was read is all that was left
read_is : (left : List ℕ) (after : Option (List ℕ)) (bytes : List ℕ) → ReadsToEnd (Some left) after bytes → left ≡ bytes
read_is left None bytes r = absurd r.taken
read_is left (Some rest) bytes r = r.taken ∙ ap (λ e. bytes ++ e) r.ended ∙ append-nil bytes

module _ (text left : List ℕ) (counts : Counts) (adapted : IsAdapted text left counts) (after : Option (List ℕ)) (old new : List DomainName) where
  names : List DomainName
  names = given_names adapted.outcomes

  listable : AreListable (given_names adapted.outcomes)
  listable = all_listable (lines_of (without_mark text)) adapted.outcomes adapted.become

  texts : (bytes : List ℕ) → ReadsToEnd (Some left) after bytes → lines bytes ≡ map text_of (given_names adapted.outcomes)
  texts bytes r = ap lines (sym (read_is left after bytes r) ∙ adapted.handed) ∙ lines_are (given_names adapted.outcomes) listable

  pub adds_all : Adds (Ok tt) (Some left) after old new → AddsList text old new counts
  adds_all a =
      let is = texts a.0 a.1.whole in
      record {
        outcomes = adapted.outcomes;
        become = adapted.become;
        adds = λ name. (
          λ h. elim ((a.2 name).0 h) [
            | inl before ↦ inl before
            | inr any ↦ inr (listed (given_names adapted.outcomes) listable name (subst (λ ls. Any (λ line. Lists line name) ls) is any))
          ],
          λ either. elim either [
            | inl before ↦ (a.2 name).1 (inl before)
            | inr given ↦ (a.2 name).1 (inr (subst (λ ls. Any (λ line. Lists line name) ls) (sym is) (listing (given_names adapted.outcomes) listable name given)))
          ],
        );
        counted = adapted.counted;
      }

  pub adds_some : Adds (Err Memory) (Some left) after old new → AddsSome text old new
  adds_some a = elim a [
    | inl same ↦ record {
      kept = λ name h. subst (λ ns. HasEntry ns name) (sym same) h;
      only = λ name h. inl (subst (λ ns. HasEntry ns name) same h);
    }
    | inr some ↦
        let is = texts some.0 some.1.whole in
        let adds = some.2.2 in
        record {
          kept = λ name h. (adds name).1 (inl h);
          only = λ name h. elim ((adds name).0 h) [
            | inl before ↦ inl before
            | inr any ↦
                let whole : Any (λ line. Lists line name) (lines some.0) = any_of_front (λ line. Lists line name) some.2.0 (lines some.0) any in
                inr (adapted.outcomes, adapted.become, listed (given_names adapted.outcomes) listable name (subst (λ ls. Any (λ line. Lists line name) ls) is whole))
          ];
        }
  ]

  -- whatever the error
  pub adds_err : (e : AddError) → Adds (Err e) (Some left) after old new → AddsSome text old new
  adds_err Io a = adds_some (inl a)
  adds_err NotUtf8 a = adds_some (inl a.0)
  adds_err Memory a = adds_some a

pub is_text : (left : List ℕ) (after : Option (List ℕ)) (old new : List DomainName) → IsUtf8 left → Adds (Err NotUtf8) (Some left) after old new → ⊥
is_text left after old new utf8 a = a.1.2 (subst IsUtf8 (read_is left after a.1.0 a.1.1) utf8)

pub none_added : (text : List ℕ) (old : List DomainName) → AddsSome text old old
none_added text old = record { kept = λ name h. h; only = λ name h. inl h }
