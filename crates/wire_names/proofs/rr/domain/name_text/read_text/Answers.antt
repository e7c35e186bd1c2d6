use Rattle.std.proofs.Common.{rules, ◌⊎◌, ◌≡◌, ◌↔◌, ◌∙◌, ◌-◌, ap, sym, subst, arith, length, take, drop, List, ℕ, [], ◌∷◌, ◌++◌, true, false}
use Rattle.std.specs.Bool.{IsTrue}
use Rattle.wire_names.specs.rr.domain.NameText.{IsTextLabel, IsNameText}
use Rattle.wire_names.proofs.lemmas.rr.domain.NameSpelling.{dot_at, dot_within, first_dot, fits, Reads, ends_text, reads_on, empty_is, one_dot, more_at}
use Rattle.wire_names.proofs.rr.domain.name_text.read_text.Goals as goal
use Rattle.wire_names.proofs.rr.domain.name_text.read_text.Goals.{then-not-is_text_label-via-then-not-is_text_label, then-not-is_text_label-via-else-not-is_text_label+then-wire_len-label-ge-MAX_NAME_LEN}

pub split_at-requires : goal.split_at-requires
split_at-requires c = omega (arith, dot_within c.labels.rest.now, c.label_len.ensures)

pub returns-then-not-is_text_label : goal.returns-then-not-is_text_label
returns-then-not-is_text_label c = λ n t.
    let rest : List ℕ = c.labels.rest.now in
    let f = fits c.args.text.now rest c.labels.labels c.labels.invariant n t in
    let label : c.split_at.result.0.now ≡ take (dot_at rest) rest = c.split_at.ensures.front ∙ ap (λ k. take k rest) c.label_len.ensures in
    let yes : IsTrue c.is_text_label.result = c.is_text_label.ensures.1 (subst IsTextLabel (sym label) f.0) in
    elim c.then-not-is_text_label.branch [
      | then-not-is_text_label-via-then-not-is_text_label w ↦ cc (w.if-not-is_text_label.true)
      | then-not-is_text_label-via-else-not-is_text_label+then-wire_len-label-ge-MAX_NAME_LEN w ↦ omega (arith, f.1, w.wire_len.ensures.size, ap length label, w.if-wire_len-label-ge-MAX_NAME_LEN.true)
    ]

pub returns-in-empty : goal.returns-in-empty
returns-in-empty c = λ n.
    let rest : List ℕ = c.labels.rest.now in
    let label : c.split_at.result.0.now ≡ take (dot_at rest) rest = c.split_at.ensures.front ∙ ap (λ k. take k rest) c.label_len.ensures in
    let behind : c.split_at.result.1.now ≡ drop (dot_at rest) rest = c.split_at.ensures.back ∙ ap (λ k. drop k rest) c.label_len.ensures in
    let is : IsTextLabel (take (dot_at rest) rest) = subst IsTextLabel label (c.is_text_label.ensures.0 (search rules)) in
    let pushed : c.push.new.self ≡ c.labels.labels ++ take (dot_at rest) rest ∷ [] = c.push.ensures ∙ ap (λ l. c.labels.labels ++ l ∷ []) label in
    let none : drop (dot_at rest) rest ≡ [] = sym behind ∙ empty_is c.split_at.result.1.now c.in-empty.len_below in
    subst (λ (ls : List (List ℕ)). IsNameText c.args.text.now n ↔ (n ≡ record { labels = ls; is_fqdn = false })) (sym pushed)
    (ends_text c.args.text.now rest c.labels.labels false c.labels.invariant is (omega (arith, c.wire_len.ensures.size, ap length label)) none n)

pub returns-in-len1 : goal.returns-in-len1
returns-in-len1 c = λ n.
    let rest : List ℕ = c.labels.rest.now in
    let label : c.split_at.result.0.now ≡ take (dot_at rest) rest = c.split_at.ensures.front ∙ ap (λ k. take k rest) c.label_len.ensures in
    let behind : c.split_at.result.1.now ≡ drop (dot_at rest) rest = c.split_at.ensures.back ∙ ap (λ k. drop k rest) c.label_len.ensures in
    let is : IsTextLabel (take (dot_at rest) rest) = subst IsTextLabel label (c.is_text_label.ensures.0 (search rules)) in
    let pushed : c.push.new.self ≡ c.labels.labels ++ take (dot_at rest) rest ∷ [] = c.push.ensures ∙ ap (λ l. c.labels.labels ++ l ∷ []) label in
    let dot : drop (dot_at rest) rest ≡ 46 ∷ [] = one_dot (drop (dot_at rest) rest) (first_dot rest) (omega (arith, ap length behind, c.in-len1.len_at_least)) (omega (arith, ap length behind, c.in-len1.len_below)) in
    subst (λ (ls : List (List ℕ)). IsNameText c.args.text.now n ↔ (n ≡ record { labels = ls; is_fqdn = true })) (sym pushed)
    (ends_text c.args.text.now rest c.labels.labels true c.labels.invariant is (omega (arith, c.wire_len.ensures.size, ap length label)) dot n)

pub labels-preserved : goal.labels-preserved
labels-preserved c =
    let rest : List ℕ = c.labels.rest.now in
    let label : c.split_at.result.0.now ≡ take (dot_at rest) rest = c.split_at.ensures.front ∙ ap (λ k. take k rest) c.label_len.ensures in
    let behind : c.split_at.result.1.now ≡ drop (dot_at rest) rest = c.split_at.ensures.back ∙ ap (λ k. drop k rest) c.label_len.ensures in
    let is : IsTextLabel (take (dot_at rest) rest) = subst IsTextLabel label (c.is_text_label.ensures.0 (search rules)) in
    let pushed : c.push.new.self ≡ c.labels.labels ++ take (dot_at rest) rest ∷ [] = c.push.ensures ∙ ap (λ l. c.labels.labels ++ l ∷ []) label in
    let more : List ℕ = take (length c.split_at.result.1.now - 1) (drop 1 c.split_at.result.1.now) in
    let m = more_at c.split_at.result.1.now (subst (λ (xs : List ℕ). (xs ≡ []) ⊎ ((more : List ℕ) × (xs ≡ 46 ∷ more))) (sym behind) (first_dot rest)) (omega (arith, c.in-len1-up.len_at_least)) in
    subst (λ (ls : List (List ℕ)). Reads c.args.text.now more ls) (sym pushed)
    (reads_on c.args.text.now rest more c.labels.labels c.labels.invariant is (sym behind ∙ m.0) m.1)
