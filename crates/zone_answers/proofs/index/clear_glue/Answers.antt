use Rattle.std.proofs.Common.{◌≡◌, ◌<◌, ℕ, arith, length, nat_lt, refl, subst, true}
use Rattle.std.specs.List.{AllByRecursion}
use Rattle.std.proofs.lemmas.Bool.Decides.{nat_tests}
use Rattle.std.proofs.lemmas.Option.{slice_get_read}
use Rattle.zone_answers.specs.representation.TopCuts.{IsClearHost}
use Rattle.zone_answers.proofs.index.clear_glue.Goals as goal

within : (place len : ℕ) → true ≡ nat_lt place len → place < len
within place len e = grind (arith, nat_tests, e)

pub returns-then-are_clear_hosts : goal.returns-then-are_clear_hosts
returns-then-are_clear_hosts c =
    let place = c.args.place in
    let hosts = c.args.hosts.now in
    let glue = c.args.glue.now in
    record {
      places = c.in-Some.places.now;
      hosts_there = slice_get_read hosts (length hosts) place c.in-Some.places.now refl (within place (length hosts) c.in-Some.ensures.lookup.0) c.in-Some.ensures.lookup.1;
      clear = subst (AllByRecursion (IsClearHost c.args.marks.now)) c.as_slice.ensures.value (c.are_clear_hosts.ensures c.if-are_clear_hosts.true);
      section = c.in-Some-get.glue.now;
      there = slice_get_read glue (length glue) place c.in-Some-get.glue.now refl (within place (length glue) c.in-Some-get.ensures.lookup.0) c.in-Some-get.ensures.lookup.1;
      records = c.as_slice-then-are_clear_hosts.ensures.value;
    }
