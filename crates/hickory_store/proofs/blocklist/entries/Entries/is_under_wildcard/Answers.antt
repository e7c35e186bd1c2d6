use Rattle.std.proofs.Common.{◌≡◌, ◌<◌, ◌≤◌, true, false, length, sym, ◌∙◌, subst, arith}
use Rattle.std.specs.Prelude.{◌↔◌, IsTrue}
use Rattle.hickory_store.specs.blocklist.Blocked.{IsUnderWildcard}
use Rattle.hickory_store.proofs.lemmas.blocklist.ShortenedNames.{up, one_less, none_next, under_at, under_none, under_nothing, under_short}
use Rattle.hickory_store.proofs.blocklist.entries.Entries.is_under_wildcard.Goals as goal

pub returns-then-is_empty : goal.returns-then-is_empty
returns-then-is_empty c =
    subst (λ names. IsTrue false ↔ IsUnderWildcard names c.args.depth c.args.name.now) c.self.view_is
    (under_nothing c.self.inside.names.keys c.self.inside.wildcard_bases.keys c.args.name.now c.args.depth c.self.invariant.beside (c.is_empty.ensures.0 c.if-is_empty.true))

pub returns-then-count-shortest : goal.returns-then-count-shortest
returns-then-count-shortest c =
    subst (λ names. IsTrue false ↔ IsUnderWildcard names c.args.depth c.args.name.now) c.self.view_is
    (under_short c.self.inside.names.keys c.self.inside.wildcard_bases.keys c.args.name.now c.args.depth c.self.invariant.beside (omega (arith, c.label_count-count.ensures, c.from-shortest.ensures)))

pub returns-then-contains : goal.returns-then-contains
returns-then-contains c =
    let hit : c.contains.result ≡ true = c.if-contains.true in
    let more : 0 < length c.loop.base.labels = omega (arith, c.loop.invariant.counted) in
    let deep : c.args.depth ≤ length c.remove_first_label.new.self.labels =
    omega (arith, c.loop.invariant.counted, one_less c.loop.base c.remove_first_label.new.self c.remove_first_label.ensures more) in
    subst (λ names. IsTrue true ↔ IsUnderWildcard names c.args.depth c.args.name.now) c.self.view_is
    (under_at c.self.inside.wildcard_bases.keys c.args.name.now c.loop.base c.remove_first_label.new.self c.remove_first_label.ensures c.loop.invariant.above more c.loop.invariant.none
    c.self.inside.names.keys c.self.invariant.beside (sym c.contains.ensures ∙ hit) c.args.depth deep)

pub loop-preserved : goal.loop-preserved
loop-preserved c =
    let miss : c.contains.result ≡ false = c.if-contains.false in
    let more : 0 < length c.loop.base.labels = omega (arith, c.loop.invariant.counted) in
    record {
      above = up c.args.name.now c.loop.base c.remove_first_label.new.self c.remove_first_label.ensures c.loop.invariant.above;
      counted = omega (arith, c.loop.invariant.counted, one_less c.loop.base c.remove_first_label.new.self c.remove_first_label.ensures more);
      none = none_next c.self.inside.wildcard_bases.keys c.args.name.now c.loop.base c.remove_first_label.new.self c.remove_first_label.ensures c.loop.invariant.above more c.loop.invariant.none (sym c.contains.ensures ∙ miss);
    }

pub returns : goal.returns
returns c =
    subst (λ names. IsTrue false ↔ IsUnderWildcard names c.args.depth c.args.name.now) c.self.view_is
    (under_none c.self.inside.names.keys c.self.inside.wildcard_bases.keys c.args.name.now c.args.depth (length c.loop.base.labels) c.self.invariant.beside
    (omega (arith, c.loop.invariant.counted)) c.loop.invariant.none)
