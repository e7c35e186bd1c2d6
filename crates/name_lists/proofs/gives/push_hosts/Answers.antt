use Rattle.std.proofs.Common.{true, false, subst}
use Rattle.std.specs.String.{string_bytes}
use Rattle.name_lists.specs.Gives.{GivesHost}
use Rattle.name_lists.specs.Pushes.{Pushes}
use Rattle.name_lists.specs.Words.{words_before_comment}
use Rattle.name_lists.proofs.Hosts.{hosts_more, hosts_all, hosts_not}
use Rattle.name_lists.proofs.gives.push_hosts.Goals as goal

pub returns-then-not-branch : goal.returns-then-not-branch
returns-then-not-branch c =
    let pushed : Pushes (GivesHost c.args.is_behind_sink c.in-Some.word.now) false (string_bytes c.loop-word.names) (string_bytes c.push_host.new.names) =
    subst (λ b. Pushes (GivesHost c.args.is_behind_sink c.in-Some.word.now) b (string_bytes c.loop-word.names) (string_bytes c.push_host.new.names)) c.if-not-branch.true c.in_ok-push_host.ensures in
    hosts_not c.args.is_behind_sink (words_before_comment c.args.text.now) (string_bytes c.args.names.now) (words_before_comment c.loop-word.rest.now)
    c.in-Some.word.now (words_before_comment c.in-Some.behind.now) (string_bytes c.loop-word.names) c.loop-word.invariant c.in-Some.ensures.0 pushed

pub loop-word-preserved : goal.loop-word-preserved
loop-word-preserved c =
    let pushed : Pushes (GivesHost c.args.is_behind_sink c.in-Some.word.now) true (string_bytes c.loop-word.names) (string_bytes c.push_host.new.names) =
    subst (λ b. Pushes (GivesHost c.args.is_behind_sink c.in-Some.word.now) b (string_bytes c.loop-word.names) (string_bytes c.push_host.new.names)) c.if-not-branch.false c.in_ok-push_host.ensures in
    hosts_more c.args.is_behind_sink (words_before_comment c.args.text.now) (string_bytes c.args.names.now) (words_before_comment c.loop-word.rest.now)
    c.in-Some.word.now (words_before_comment c.in-Some.behind.now) (string_bytes c.loop-word.names) (string_bytes c.push_host.new.names) pushed.0 c.loop-word.invariant c.in-Some.ensures.0 pushed.1 pushed.2

pub returns : goal.returns
returns c =
    hosts_all c.args.is_behind_sink (words_before_comment c.args.text.now) (string_bytes c.args.names.now) (words_before_comment c.loop-word.rest.now)
    (string_bytes c.loop-word.names) c.loop-word.invariant c.in_default.ensures
