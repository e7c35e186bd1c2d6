-- The journal is left alone, or has the entries too, all or none.
use Rattle.std.proofs.Common.{◌≡◌, ◌∙◌, ap, subst, sym, ℕ, List, Vec}
use Rattle.std.specs.declared.alloc.Global.{Global}
use Rattle.hickory_base.specs.zone_store.ZoneAnswers.{MemoryZone}
use Rattle.hickory_base.specs.zone_store.ZoneSets.{sets_of}
use Rattle.journal.specs.Read.{contents}
use Rattle.durable_updates.specs.Redone.{Redone}
use Rattle.zone_import.proofs.Kept.{added, left_alone, one_or_other, turned}
use Rattle.zone_import.proofs.importing.import.Goals as goal

pub returns-in_err-plan-clause-crash : goal.returns-in_err-plan-clause-crash
returns-in_err-plan-clause-crash g c = λ first keeps file left. left_alone g.D.Disk first c.args.zone.now.zone c.args.other.now c.args.journal.now keeps file left

pub returns-in_err-ahead-clause-crash : goal.returns-in_err-ahead-clause-crash
returns-in_err-ahead-clause-crash g c = λ first keeps file left. left_alone g.D.Disk first c.args.zone.now.zone c.args.other.now c.args.journal.now keeps file left

-- entries are done again, whoever lends them, and to the zone that the handler has
same_done : (entries written : List (Vec ℕ Global)) (old zone ahead : MemoryZone) → entries ≡ written → zone ≡ old → Redone (contents entries) zone ahead → Redone (contents written) old ahead
same_done entries written old zone ahead same of done =
    subst (λ (es : List (Vec ℕ Global)). Redone (contents es) old ahead) same (subst (λ (z : MemoryZone). Redone (contents entries) z ahead) of done)

pub returns-in_err-append_all-clause-crash : goal.returns-in_err-append_all-clause-crash
returns-in_err-append_all-clause-crash g c = λ first keeps file left.
    let written : List (Vec ℕ Global) = c.deref-2.result.now in
    let done : Redone (contents written) c.args.zone.now.zone c.in_ok-ahead.ahead.zone =
    same_done c.deref.result.now written c.args.zone.now.zone c.in_memory-3.result.now c.in_ok-ahead.ahead.zone (c.deref.ensures.value ∙ sym c.deref-2.ensures.value) c.in_memory-3.ensures c.in_ok-ahead.ensures.redone in
    one_or_other g.D.Disk first c.args.zone.now.zone c.args.other.now c.args.journal.now keeps (contents written) c.in_ok-ahead.ahead.zone done c.in_ok-ahead.ensures.same file
    (c.append_all.ensures.crash keeps.entries keeps.settled file left)

pub returns-clause-crash : goal.returns-clause-crash
returns-clause-crash g c = λ first keeps file left.
    let written : List (Vec ℕ Global) = c.deref-2.result.now in
    let done : Redone (contents written) c.args.zone.now.zone c.in_ok-ahead.ahead.zone =
    same_done c.deref.result.now written c.args.zone.now.zone c.in_memory-3.result.now c.in_ok-ahead.ahead.zone (c.deref.ensures.value ∙ sym c.deref-2.ensures.value) c.in_memory-3.ensures c.in_ok-ahead.ensures.redone in
    one_or_other g.D.Disk first c.args.zone.now.zone c.args.other.now c.args.journal.now keeps (contents written) c.in_ok-ahead.ahead.zone done c.in_ok-ahead.ensures.same file
    (c.append_all.ensures.crash keeps.entries keeps.settled file left)

pub returns-clause-acknowledged : goal.returns-clause-acknowledged
returns-clause-acknowledged g c = λ first keeps.
    let written : List (Vec ℕ Global) = c.deref-2.result.now in
    let done : Redone (contents written) c.args.zone.now.zone c.in_ok-ahead.ahead.zone =
    same_done c.deref.result.now written c.args.zone.now.zone c.in_memory-3.result.now c.in_ok-ahead.ahead.zone (c.deref.ensures.value ∙ sym c.deref-2.ensures.value) c.in_memory-3.ensures c.in_ok-ahead.ensures.redone in
    let is : c.replace_records.new.self ≡ c.in_ok-ahead.ahead.zone =
    turned (contents written) c.args.zone.now.zone c.in_ok-ahead.ahead.zone c.replace_records.new.self (sets_of c.take_records-sets.result) done
    (c.replace_records.ensures ∙ ap (λ (z : MemoryZone). record z { sets = sets_of c.take_records-sets.result }) c.in_memory_mut-2.ensures.value)
    (c.take_records-sets.ensures.sets ∙ ap (λ (z : MemoryZone). z.sets) c.in_memory_mut.ensures.value) in
    added g.D.Disk first c.args.zone.now.zone c.args.other.now c.args.journal.now keeps (contents written) c.in_ok-ahead.ahead.zone done c.replace_records.new.self c.append_all.new.self is
    (c.in_ok-append_all.ensures.acknowledged keeps.entries keeps.settled)
