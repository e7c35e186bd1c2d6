use Rattle.std.proofs.Common.{◌≡◌, ◌∷◌, [], length, ◌<◌, sym, ap, ◌∙◌}
use Rattle.std.specs.Prelude.{IfOk, not}
use Rattle.std.specs.String.{string_bytes}
use Rattle.name_lists.specs.Pushes.{Pushes}
use Rattle.name_lists.specs.Words.{words_before_comment}
use Rattle.name_lists.proofs.Hosts.{by_one, by_hosts}
use Rattle.name_lists.proofs.NameLines.{match_none, match_some}
use Rattle.name_lists.proofs.gives.push_words.Goals as goal

pub returns-then-is_none : goal.returns-then-is_none
returns-then-is_none c =
    let behind = c.in-Some.behind.now in
    let none : words_before_comment behind ≡ [] =
    match_none c.next_word-2.result (words_before_comment behind ≡ []) (λ p. (words_before_comment behind ≡ p.0.now ∷ words_before_comment p.1.now) × (length p.1.now < length behind))
    (c.is_none.ensures ∙ ap not c.if-is_none.true) c.next_word-2.ensures in
    by_one (λ R. IfOk c.push_alone.result (λ g. Pushes R g (string_bytes c.args.names.now) (string_bytes c.push_alone.new.names)))
    (words_before_comment c.args.text.now) c.in-Some.word.now (c.in-Some.ensures.0 ∙ ap (λ ws. c.in-Some.word.now ∷ ws) none) c.push_alone.ensures

pub returns : goal.returns
returns c =
    let behind = c.in-Some.behind.now in
    let some = match_some c.next_word-2.result (words_before_comment behind ≡ []) (λ p. (words_before_comment behind ≡ p.0.now ∷ words_before_comment p.1.now) × (length p.1.now < length behind))
    (c.is_none.ensures ∙ ap not c.if-is_none.false) c.next_word-2.ensures in
    by_hosts (λ R. IfOk c.push_hosts_line.result (λ g. Pushes R g (string_bytes c.args.names.now) (string_bytes c.push_hosts_line.new.names)))
    (words_before_comment c.args.text.now) c.in-Some.word.now (words_before_comment behind) some.0.0.now (words_before_comment some.0.1.now) c.in-Some.ensures.0 some.1.0
    (sym c.is_root_alias.ensures ∙ c.if-is_root_alias.false)
    c.push_hosts_line.ensures
