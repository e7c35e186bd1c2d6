use Rattle.std.proofs.Common.{◌≡◌, ◌∙◌, ℕ, ◌<◌, ◌≤◌, Bool, true, false, List, ◌++◌, Option, Some, None, length, sym, ap, subst, refl, arith, length-append}
use Rattle.std.proofs.lemmas.Result.{err_from_is_err_and}
use Rattle.std.specs.Option.{option_copied}
use Rattle.wire_names.specs.rr.domain.DomainName.{DomainName, name_len, wire_form}
use Rattle.wire_names.proofs.lemmas.rr.domain.WireForm.{name_len-wire_form, wire-append}
use Rattle.text_words.specs.declared.words.Word.{Word}
use Rattle.text_words.specs.Spelling.{AreNameLabels, HasNoNameLabels, IsNoName, SpellsName}
use Rattle.text_words.proofs.SpelledOnce.{same_named}
use Rattle.text_words.specs.Spelling.SpellsName.{absolute, relative}
use Rattle.text_words.proofs.names.absolute_name.Goals.{then-not-is_fqdn+in-Some+in_ok-append_labels, else-not-is_fqdn}
use Rattle.text_words.proofs.names.absolute_name.Goals as goal

in_full : (origin : Option DomainName) (text : List ℕ) (own all : List (List ℕ)) (dot : Bool) → dot ≡ true → all ≡ own → AreNameLabels dot text own → SpellsName origin text all
in_full origin text own all dot is same h = rw same (absolute (subst (λ (b : Bool). AreNameLabels b text own) is h))

behind : (origin : Option DomainName) (text : List ℕ) (own all : List (List ℕ)) (o : DomainName) (dot : Bool) → dot ≡ false → origin ≡ Some o → all ≡ own ++ o.labels → AreNameLabels dot text own → SpellsName origin text all
behind origin text own all o dot is there same h = rw same (relative there (subst (λ (b : Bool). AreNameLabels b text own) is h))

pub returns-clause-spelled : goal.returns-clause-spelled
returns-clause-spelled c =
    let made : c.in_ok-to_name.field-0.labels ≡ c.if-not-is_fqdn.labels = ap (λ (n : DomainName). n.labels) c.in_ok-to_name.ensures in
    elim c.if-not-is_fqdn.branch [
      | then-not-is_fqdn+in-Some+in_ok-append_labels w ↦ behind (option_copied c.args.origin) c.args.word.now.bytes.now c.spelled_labels.new.labels c.in_ok-to_name.field-0.labels w.in-Some.origin.now c.in_ok-is_fqdn.is_fqdn
          w.if-not-is_fqdn.true (ap option_copied w.in-Some.is) (made ∙ w.labels-is ∙ w.in_ok-append_labels.ensures.behind) c.in_ok-is_fqdn.ensures.spelled
      | else-not-is_fqdn w ↦ in_full (option_copied c.args.origin) c.args.word.now.bytes.now c.spelled_labels.new.labels c.in_ok-to_name.field-0.labels c.in_ok-is_fqdn.is_fqdn
          w.if-not-is_fqdn.false (made ∙ w.labels-is) c.in_ok-is_fqdn.ensures.spelled
    ]

short_front : (own more : List (List ℕ)) → name_len (own ++ more) ≤ 255 → name_len own ≤ 255
short_front own more short = omega (arith, short, name_len-wire_form (own ++ more), ap length (wire-append own more), length-append (wire_form own) (wire_form more), name_len-wire_form own)

-- where no labels stand, no name does
no_labels : (origin : Option DomainName) (word : Word) → HasNoNameLabels word → IsNoName origin word
no_labels origin word none ls unquoted (absolute are) short = none true ls unquoted are short
no_labels origin word none ls unquoted (relative {labels = own} {o = o} is are) short = none false own unquoted are (short_front own o.labels short)

-- a relative name with no origin
no_origin : (word : Word) (own : List (List ℕ)) (dot : Bool) → dot ≡ false → AreNameLabels dot word.bytes.now own → IsNoName None word
no_origin word own dot not_full read ls unquoted (absolute are) short = let same : dot ≡ true = (same_named word.bytes.now dot true own ls read are).0 in cc
no_origin word own dot not_full read ls unquoted (relative is are) short = cc

-- one that is too long with its origin
too_long : (origin : Option DomainName) (word : Word) (own : List (List ℕ)) (dot : Bool) (o : DomainName) → dot ≡ false → origin ≡ Some o → AreNameLabels dot word.bytes.now own → 255 < name_len (own ++ o.labels) → IsNoName origin word
too_long origin word own dot o not_full there read long ls unquoted (absolute are) short = let same : dot ≡ true = (same_named word.bytes.now dot true own ls read are).0 in cc
too_long origin word own dot o not_full there read long ls unquoted (relative {labels = other} {o = a} is are) short =
    let same : own ≡ other = (same_named word.bytes.now dot false own other read are).1 in
    let name : o ≡ a = cc in
    let all : (own ++ o.labels) ≡ (other ++ a.labels) = rw (same, name) refl in
    omega (arith, long, short, ap name_len all)

pub returns-in_err-is_fqdn-clause-refused : goal.returns-in_err-is_fqdn-clause-refused
returns-in_err-is_fqdn-clause-refused c =
    let p = err_from_is_err_and c.from_residual.result c.from_residual.ensures.1 in
    rw p.1 (λ wanting. no_labels (option_copied c.args.origin) c.args.word.now c.in_err-is_fqdn.ensures.refused)

pub returns-in_default-clause-refused : goal.returns-in_default-clause-refused
returns-in_default-clause-refused c = λ wanting.
    subst (λ (o : Option DomainName). IsNoName o c.args.word.now) (sym (ap option_copied c.in_default.is)) (no_origin c.args.word.now c.spelled_labels.new.labels c.in_ok-is_fqdn.is_fqdn c.if-not-is_fqdn.true c.in_ok-is_fqdn.ensures.spelled)

pub returns-in_err-append_labels-clause-refused : goal.returns-in_err-append_labels-clause-refused
returns-in_err-append_labels-clause-refused c =
    let p = err_from_is_err_and c.from_residual-in_err-append_labels.result c.from_residual-in_err-append_labels.ensures.1 in
    rw p.1 (λ wanting. too_long (option_copied c.args.origin) c.args.word.now c.spelled_labels.new.labels c.in_ok-is_fqdn.is_fqdn c.in-Some.origin.now c.if-not-is_fqdn.true (ap option_copied c.in-Some.is) c.in_ok-is_fqdn.ensures.spelled c.in_err-append_labels.ensures.refused)
