-- The journal is opened in files 0 and 1, which held these bytes.
use Rattle.std.proofs.Common.{◌≡◌, ◌⊎◌, inl, inr, ℕ, List, Result, Ok, Err, OnErr, rules}
use Rattle.wire_names.specs.rr.domain.DomainName.{DomainName}
use Rattle.wire_names.specs.rr.domain.NameOrder.{lower_name}
use Rattle.hickory_catalog.specs.zones.Zones.{ZoneChains}
use Rattle.journal.specs.host_file.FileState.{of_bytes}
use Rattle.served_zones.specs.Journals.{StopsAtOpening}
use Rattle.served_zones.specs.ServedZones.{IsApexText, ServedHandler}
use Rattle.server.specs.Journals.{StaysUnopened, host_disks}
use Rattle.server.proofs.service.Service.open_journal.Goals as goal

unopened : (text first second : List ℕ) (old new : ZoneChains ServedHandler) (apex : DomainName) → IsApexText text apex
    → (new ≡ old) ⊎ StopsAtOpening host_disks (of_bytes 0 first) (of_bytes 1 second) (lower_name apex) old new → StaysUnopened text first second old new
unopened text first second old new apex spelled (inl same) = inl same
unopened text first second old new apex spelled (inr stops) = inr (apex, spelled, stops)

if_refused : {T E : Type 0} (result : Result T E) (P : Type 0) → P → OnErr result P
if_refused (Ok opened) P is = tt
if_refused (Err e) P is = is

pub returns-in_err-opened-clause-err : goal.returns-in_err-opened-clause-err
returns-in_err-opened-clause-err c =
    let first_is : c.new-first.result ≡ of_bytes 0 c.args.first.now = search rules in
    let second_is : c.new-second.result ≡ of_bytes 1 c.args.second.now = search rules in
    let apex_is : c.in_ok-apex.apex ≡ lower_name c.in_ok-spelled.spelled = c.in_ok-apex.ensures in
    if_refused c.from_residual-in_err-opened.result _ (
      unopened c.args.name.now c.args.first.now c.args.second.now _ _ c.in_ok-spelled.spelled c.in_ok-spelled.ensures
          (rw apex_is at (rw second_is at (rw first_is at c.in_err-opened.ensures.err))),
      c.reserve.ensures.items,
    )

pub returns-clause-ok : goal.returns-clause-ok
returns-clause-ok c =
    let first_is : c.new-first.result ≡ of_bytes 0 c.args.first.now = search rules in
    let second_is : c.new-second.result ≡ of_bytes 1 c.args.second.now = search rules in
    let apex_is : c.in_ok-apex.apex ≡ lower_name c.in_ok-spelled.spelled = c.in_ok-apex.ensures in
    record {
      apex = c.in_ok-spelled.spelled;
      spelled = c.in_ok-spelled.ensures;
      opens = rw apex_is at (rw second_is at (rw first_is at c.in_ok-opened.ensures.opened));
      last = rw c.reserve.ensures.items at (rw apex_is at c.in_ok-push.ensures.items);
    }
