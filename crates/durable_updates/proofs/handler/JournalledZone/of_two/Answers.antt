-- The journal of the file that counts.
use Rattle.std.proofs.Common.{◌≡◌, ◌⊎◌, ◌+◌, ◌^◌, Bool, cond, subst}
use Rattle.journal.specs.Generations.{generation_of}
use Rattle.journal.specs.Read.{contents}
use Rattle.durable_updates.specs.Snapshots.{Recalls}
use Rattle.durable_updates.proofs.Below.{below_at_start, spare_at_start}
use Rattle.durable_updates.proofs.Compactions.{start_durable}
use Rattle.durable_updates.proofs.handler.JournalledZone.of_two.Goals as goal

pub with_spare-requires-clause-durable : goal.with_spare-requires-clause-durable
with_spare-requires-clause-durable g c =
    start_durable g.D.Disk c.requires.recalled.0 c.args.zone.zone (contents c.args.found.now.second.entries.items) c.args.second c.args.found.now.second.end c.new-second.result c.new-second.ensures
    (subst (λ (b : Bool). Recalls (contents (cond b c.args.found.now.second.entries c.args.found.now.first.entries).items) c.requires.recalled.0 c.args.zone.zone) c.if-found.true c.requires.recalled.1) c.requires.second

pub with_spare-requires-else-found-clause-durable : goal.with_spare-requires-else-found-clause-durable
with_spare-requires-else-found-clause-durable g c =
    start_durable g.D.Disk c.requires.recalled.0 c.args.zone.zone (contents c.args.found.now.first.entries.items) c.args.first c.args.found.now.first.end c.new-first.result c.new-first.ensures
    (subst (λ (b : Bool). Recalls (contents (cond b c.args.found.now.second.entries c.args.found.now.first.entries).items) c.requires.recalled.0 c.args.zone.zone) c.if-found.false c.requires.recalled.1) c.requires.first

pub with_spare-requires-clause-spare : goal.with_spare-requires-clause-spare
with_spare-requires-clause-spare g c = record {
  is_spare = spare_at_start g.D.Disk (contents c.args.found.now.first.entries.items) c.args.first c.args.found.now.first.end c.new-first.result c.new-first.ensures c.requires.first;
  below = below_at_start g.D.Disk (contents c.args.found.now.second.entries.items) c.args.second c.args.found.now.second.end c.next_generation-generation.result c.new-second.result c.new-second.ensures
      (subst (λ (b : Bool). (c.next_generation-generation.result ≡ generation_of (contents (cond b c.args.found.now.second.entries c.args.found.now.first.entries).items) + 1) ⊎ (c.next_generation-generation.result + 1 ≡ 2 ^ 64)) c.if-found.true c.next_generation-generation.ensures)
      c.requires.second;
}

pub with_spare-requires-else-found-clause-spare : goal.with_spare-requires-else-found-clause-spare
with_spare-requires-else-found-clause-spare g c = record {
  is_spare = spare_at_start g.D.Disk (contents c.args.found.now.second.entries.items) c.args.second c.args.found.now.second.end c.new-second.result c.new-second.ensures c.requires.second;
  below = below_at_start g.D.Disk (contents c.args.found.now.first.entries.items) c.args.first c.args.found.now.first.end c.next_generation-generation.result c.new-first.result c.new-first.ensures
      (subst (λ (b : Bool). (c.next_generation-generation.result ≡ generation_of (contents (cond b c.args.found.now.second.entries c.args.found.now.first.entries).items) + 1) ⊎ (c.next_generation-generation.result + 1 ≡ 2 ^ 64)) c.if-found.false c.next_generation-generation.ensures)
      c.requires.first;
}
