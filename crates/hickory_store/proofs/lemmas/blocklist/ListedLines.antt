-- What a line lists: the one name that its text spells, whether that is a wildcard, and the lines so far.
use Rattle.std.proofs.Common.{◌≡◌, ◌≢◌, ◌==◌, ◌&&◌, ◌⊎◌, inl, inr, ℕ, Bool, true, false, List, [], ◌∷◌, ◌++◌, Some, Result, Ok, Err, OnErr, All, Any, refl, sym, ap, subst, ◌∙◌, arith}
use Rattle.std.specs.Prelude.{◌↔◌, slice_index, nat_eq}
use Rattle.std.specs.Char.{to_ascii_lowercase}
use Rattle.std.specs.Cmp.Lexicographic.{pointwise}
use Rattle.std.proofs.lemmas.Bool.{ne_eqb}
use Rattle.std.proofs.lemmas.Bool.Decides.{nat_tests}
use Rattle.std.proofs.lemmas.List.{append-nil}
use Rattle.std.proofs.lemmas.List.Elements.{All-head, Contains-push_cases, Contains-append_left}
use Rattle.std.proofs.lemmas.List.Quantifiers.{Any-push}
use Rattle.wire_names.specs.rr.domain.DomainName.{DomainName}
use Rattle.wire_names.specs.rr.domain.NameOrder.{SameName, lower_label, lower_labels, is_wildcard}
use Rattle.wire_names.specs.rr.domain.NameText.{IsNameByte, IsTextLabel, IsNameText, name_text}
use Rattle.wire_names.proofs.lemmas.rr.domain.SameNames.{lower_labels-twice}
use Rattle.hickory_store.specs.blocklist.ListLines.{Lists, name_part}
use Rattle.hickory_store.specs.blocklist.Entries.{IsEntry, AddsEntry, AddsLines}
use Rattle.hickory_store.proofs.lemmas.blocklist.KeptNames.{full}

-- ---- a text begins with `*` where the name's first label is `*`

plain_byte : (b : ℕ) → IsNameByte b → b ≢ 42
plain_byte b h e = grind arith

plain_lower : (b : ℕ) → IsNameByte b → to_ascii_lowercase b ≢ 42
plain_lower b h e = grind (arith, nat_tests)

first_by : (label rest : List ℕ) → IsTextLabel label → (slice_index (label ++ rest) 0 == 42) ≡ pointwise nat_eq (lower_label label) (42 ∷ [])
first_by label rest (inl e) = subst (λ (l : List ℕ). (slice_index (l ++ rest) 0 == 42) ≡ pointwise nat_eq (lower_label l) (42 ∷ [])) (sym e) refl
first_by [] rest (inr h) = absurd (omega (arith, h.0.0))
first_by (b ∷ label) rest (inr h) =
    let plain : IsNameByte b = All-head IsNameByte b label h.1 in
    ne_eqb b 42 (plain_byte b plain) ∙ sym (ap (λ t. t && pointwise nat_eq (lower_label label) []) (ne_eqb (to_ascii_lowercase b) 42 (plain_lower b plain)))

star_by : (labels : List (List ℕ)) (mark : Bool) → labels ≢ [] → All IsTextLabel labels → (slice_index (name_text labels mark) 0 == 42) ≡ is_wildcard (lower_labels labels)
star_by [] mark some each = absurd (some refl)
star_by (l ∷ []) true some each = first_by l (46 ∷ []) (All-head IsTextLabel l [] each)
star_by (l ∷ []) false some each = ap (λ (t : List ℕ). slice_index t 0 == 42) (sym (append-nil l)) ∙ first_by l [] (All-head IsTextLabel l [] each)
star_by (l ∷ m ∷ labels) mark some each = first_by l (46 ∷ name_text (m ∷ labels) mark) (All-head IsTextLabel l (m ∷ labels) each)

pub starts_with_star : (text : List ℕ) (written : DomainName) → IsNameText text written → (slice_index text 0 == 42) ≡ is_wildcard (lower_labels written.labels)
starts_with_star text written t = ap (λ (bs : List ℕ). slice_index bs 0 == 42) t.spelled ∙ star_by written.labels written.is_fqdn t.some t.each

-- ---- the name of a line

module _ (line text : List ℕ) (written : DomainName) (part : name_part line ≡ Some text) (spelled : IsNameText text written) (only : (n : DomainName) → IsNameText text n → n ≡ written) where
  lists_that : (name : DomainName) → Lists line name → SameName (full (lower_labels written.labels)) name
  lists_that name l =
      let same : l.text ≡ text = let e : Some l.text ≡ Some text = sym l.part ∙ part in cc in
      let is : l.written ≡ written = only l.written (subst (λ (t : List ℕ). IsNameText t l.written) same l.spelled) in
      record {
        labels = lower_labels-twice written.labels ∙ ap (λ (d : DomainName). lower_labels d.labels) (sym is) ∙ l.same.labels;
        marks = l.same.marks;
      }

  that_lists : (name : DomainName) → SameName (full (lower_labels written.labels)) name → Lists line name
  that_lists name s = record {
    text = text;
    written = written;
    part = part;
    spelled = spelled;
    same = record { labels = sym (lower_labels-twice written.labels) ∙ s.labels; marks = s.marks };
  }

  pub lists_one : (entry : DomainName) → entry ≡ full (lower_labels written.labels) → (name : DomainName) → Lists line name ↔ SameName entry name
  lists_one entry is = λ name. (
    λ l. subst (λ (d : DomainName). SameName d name) (sym is) (lists_that name l),
    λ s. that_lists name (subst (λ (d : DomainName). SameName d name) is s),
  )

pub in_entry_form : (labels : List (List ℕ)) (entry : DomainName) → entry ≡ full (lower_labels labels) → IsEntry entry
in_entry_form labels entry is = subst IsEntry (sym is) (record { lower = lower_labels-twice labels; full = refl })

-- ---- lines so far

module _ {X : Type 0} (P : X → Type 0) where
  any_cases : (xs : List X) (y : X) → Any P (xs ++ y ∷ []) → Any P xs ⊎ P y
  any_cases xs y a = elim (Contains-push_cases xs y a.1 (a.0, a.2, a.3)) [ inl at ↦ inl (at.0, a.1, at.1, at.2, a.4) | inr e ↦ inr (subst P (sym e) a.4) ]

  any_before : (xs : List X) (y : X) → Any P xs → Any P (xs ++ y ∷ [])
  any_before xs y a = let at = Contains-append_left xs (y ∷ []) a.1 (a.0, a.2, a.3) in (at.0, a.1, at.1, at.2, a.4)

pub adds_none : (old : List DomainName) → AddsLines old [] old
adds_none old = λ name. (λ a. inl a, λ either. elim either [ inl a ↦ a | inr any ↦ absurd (omega (arith, any.2)) ])

-- a line without a name
pub skips_line : (old : List DomainName) (line : List ℕ) → ((name : DomainName) → ¬ (Lists line name)) → AddsLines old (line ∷ []) old
skips_line old line none = λ name. (
  λ a. inl a,
  λ either. elim either [
    | inl a ↦ a
    | inr any ↦ elim (any_cases (λ l. Lists l name) [] line any) [ inl nothing ↦ absurd (omega (arith, nothing.2)) | inr here ↦ absurd (none name here) ]
  ],
)

-- a line whose name is put in
pub adds_line : (old : List DomainName) (line : List ℕ) (entry : DomainName) (new : List DomainName) → ((name : DomainName) → Lists line name ↔ SameName entry name) → AddsEntry old entry new → AddsLines old (line ∷ []) new
adds_line old line entry new lists adds = λ name. (
  λ a. elim ((adds name).0 a) [ inl b ↦ inl b | inr same ↦ inr (Any-push (λ l. Lists l name) [] line ((lists name).1 same)) ],
  λ either. elim either [
    | inl b ↦ (adds name).1 (inl b)
    | inr any ↦ elim (any_cases (λ l. Lists l name) [] line any) [ inl nothing ↦ absurd (omega (arith, nothing.2)) | inr here ↦ (adds name).1 (inr ((lists name).0 here)) ]
  ],
)

-- one more line
pub adds_more : (old : List DomainName) (lines : List (List ℕ)) (mid : List DomainName) (line : List ℕ) (new : List DomainName) → AddsLines old lines mid → AddsLines mid (line ∷ []) new → AddsLines old (lines ++ line ∷ []) new
adds_more old lines mid line new so_far step = λ name. (
  λ a. elim ((step name).0 a) [
    | inl b ↦ elim ((so_far name).0 b) [ inl first ↦ inl first | inr any ↦ inr (any_before (λ l. Lists l name) lines line any) ]
    | inr one ↦ inr (elim (any_cases (λ l. Lists l name) [] line one) [ inl nothing ↦ absurd (omega (arith, nothing.2)) | inr here ↦ Any-push (λ l. Lists l name) lines line here ])
  ],
  λ either. elim either [
    | inl b ↦ (step name).1 (inl ((so_far name).1 (inl b)))
    | inr any ↦ elim (any_cases (λ l. Lists l name) lines line any) [
      | inl before ↦ (step name).1 (inl ((so_far name).1 (inr before)))
      | inr here ↦ (step name).1 (inr (Any-push (λ l. Lists l name) [] line here))
    ]
  ],
)

-- what holds anyhow holds after an error
pub on_any_err : {T E : Type 0} (r : Result T E) (P : Type 0) → P → OnErr r P
on_any_err (Ok x) P p = tt
on_any_err (Err e) P p = p
