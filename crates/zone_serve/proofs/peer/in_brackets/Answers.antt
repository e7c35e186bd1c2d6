use Rattle.std.proofs.Common.{◌≡◌, ◌++◌, ◌∷◌, [], None, Some, List, ℕ, arith, subst, sym, ◌∙◌}
use Rattle.std.proofs.lemmas.List.{append_cancel_right}
use Rattle.std.proofs.lemmas.Str.Pattern.{strip_prefix_char, strip_suffix_char}
use Rattle.std.specs.Net.Grammar.{IsIpv6Text}
use Rattle.zone_serve.proofs.peer.in_brackets.Goals as goal

behind_one : (x y : ℕ) (xs ys : List ℕ) → x ∷ xs ≡ y ∷ ys → xs ≡ ys
behind_one x y xs ys same = cc

pub returns-in_default : goal.returns-in_default
returns-in_default c = λ address b. strip_prefix_char 91 c.args.text.now None c.in_default.ensures.cases (omega arith) (b.0 ++ 93 ∷ []) b.1

pub returns-in_default-strip_suffix : goal.returns-in_default-strip_suffix
returns-in_default-strip_suffix c = λ address b.
    let front = strip_prefix_char 91 c.args.text.now (Some c.in-Some.behind) c.in-Some.ensures.cases (omega arith) in
    strip_suffix_char 93 c.in-Some.behind.now None c.in_default-strip_suffix.ensures.cases (omega arith) b.0
    (behind_one 91 91 c.in-Some.behind.now (b.0 ++ 93 ∷ []) (sym front ∙ b.1))

pub returns-in-Err : goal.returns-in-Err
returns-in-Err c = λ address b.
    let front = strip_prefix_char 91 c.args.text.now (Some c.in-Some.behind) c.in-Some.ensures.cases (omega arith) in
    let end = strip_suffix_char 93 c.in-Some.behind.now (Some c.in-Some-strip_suffix.inside) c.in-Some-strip_suffix.ensures.cases (omega arith) in
    let same : b.0 ≡ c.in-Some-strip_suffix.inside.now =
    append_cancel_right b.0 c.in-Some-strip_suffix.inside.now (93 ∷ []) (sym (behind_one 91 91 c.in-Some.behind.now (b.0 ++ 93 ∷ []) (sym front ∙ b.1)) ∙ end) in
    c.in-Err.ensures.value address (subst (λ (text : List ℕ). IsIpv6Text text address) same b.2)
