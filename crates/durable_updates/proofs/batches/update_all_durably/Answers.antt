-- What was judged is written, or taken back.
use Rattle.journal.specs.Read.{contents}
use Rattle.hickory_base.specs.zone_store.ZoneSets.{sets_of}
use Rattle.durable_updates.proofs.Committed.{served}
use Rattle.durable_updates.proofs.batches.update_all_durably.Goals as goal

pub returns-in-Ok-clause-served : goal.returns-in-Ok-clause-served
returns-in-Ok-clause-served g c =
    served g.V.Verifier g.D.Disk c.args.requests.now c.in-Ok.batch.answers.items c.commit.result.items (record { zone = c.args.zone.now; journal = c.args.journal.now }) (record { zone = c.commit.new.zone; journal = c.commit.new.journal })
    c.judge_all.new.zone (sets_of c.in_ok-before.before) (contents c.in-Ok.batch.entries.items)
    c.in-Ok.ensures.answers c.in-Ok.ensures.entries c.judge_all.ensures.others c.in_ok-before.ensures.sets c.commit.ensures.commits
