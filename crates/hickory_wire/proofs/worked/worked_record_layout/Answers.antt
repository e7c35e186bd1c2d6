-- Resource records, field after field.
use Rattle.std.proofs.Common.{◌≡◌, ◌∷◌, [], List, codes, refl, arith}
use Rattle.std.specs.List.{AllByRecursion, flat_map}
use Rattle.wire_messages.specs.rr.RecordData.{option_octets, IsOption}
use Rattle.wire_messages.specs.rr.RecordData.OptionsOf.{well_formed, malformed}
use Rattle.wire_messages.specs.declared.op.edns.EdnsOption.{EdnsOption}
use Rattle.hickory_wire.proofs.lemmas.worked.Literals.{stands, root_at, octets_at, end_at, label_at, pointer_at}
use Rattle.hickory_wire.proofs.worked.worked_record_layout.Goals as goal

pub returns-clause-a : goal.returns-clause-a
returns-clause-a c = record {
  middle = 1;
  len = 4;
  owner = root_at 0 refl refl refl;
  name = refl;
  fixed = stands _ _ _ refl refl;
  class = omega arith;
  ttl = omega arith;
  small = omega arith;
  rdata = (octets_at 11 _ refl refl refl, (record { four = refl }, tt));
  counted = refl;
  within = omega arith;
  proof = refl;
}

pub returns-clause-a_empty : goal.returns-clause-a_empty
returns-clause-a_empty c = record {
  middle = 1;
  len = 0;
  owner = root_at 0 refl refl refl;
  name = refl;
  fixed = stands _ _ _ refl refl;
  class = omega arith;
  ttl = omega arith;
  small = omega arith;
  rdata = (refl, (omega arith, (omega arith, omega arith)));
  counted = refl;
  within = omega arith;
  proof = refl;
}

pub returns-clause-ns : goal.returns-clause-ns
returns-clause-ns c = record {
  middle = 7;
  len = 4;
  owner = record { labels = pointer_at 5 0 0 5 refl refl refl refl (label_at 0 (codes "com") refl refl refl refl (end_at 4 refl refl refl)); short = omega arith };
  name = refl;
  fixed = stands _ _ _ refl refl;
  class = omega arith;
  ttl = omega arith;
  small = omega arith;
  rdata = (record { labels = label_at 17 (codes "a") refl refl refl refl (pointer_at 19 0 0 5 refl refl refl refl (label_at 0 (codes "com") refl refl refl refl (end_at 4 refl refl refl))); short = omega arith }, (tt, refl));
  counted = refl;
  within = omega arith;
  proof = refl;
}

pub returns-clause-soa : goal.returns-clause-soa
returns-clause-soa c = record {
  middle = 1;
  len = 27;
  owner = root_at 0 refl refl refl;
  name = refl;
  fixed = stands _ _ _ refl refl;
  class = omega arith;
  ttl = omega arith;
  small = omega arith;
  rdata = (
    record {
      one = 15;
      two = 18;
      mname = record { labels = label_at 11 (codes "ns") refl refl refl refl (end_at 14 refl refl refl); short = omega arith };
      rname = record { labels = label_at 15 (codes "a") refl refl refl refl (end_at 17 refl refl refl); short = omega arith };
      numbers = octets_at 18 _ refl refl refl;
    },
    ((omega arith, omega arith, omega arith, omega arith, omega arith), (refl, refl)),
  );
  counted = refl;
  within = omega arith;
  proof = refl;
}

pub returns-clause-txt : goal.returns-clause-txt
returns-clause-txt c = record {
  middle = 1;
  len = 4;
  owner = root_at 0 refl refl refl;
  name = refl;
  fixed = stands _ _ _ refl refl;
  class = omega arith;
  ttl = omega arith;
  small = omega arith;
  rdata = (octets_at 11 _ refl refl refl, ((omega arith, (omega arith, tt)), λ e. absurd cc));
  counted = refl;
  within = omega arith;
  proof = refl;
}

-- an option has at least four bytes
not_options : (options : List EdnsOption) → AllByRecursion IsOption options → 0 ∷ 3 ∷ 0 ∷ [] ≡ flat_map option_octets options → ⊥
not_options [] each e = absurd cc
not_options (o ∷ os) each e = absurd cc

pub returns-clause-opt_malformed : goal.returns-clause-opt_malformed
returns-clause-opt_malformed c = record {
  middle = 1;
  len = 3;
  owner = root_at 0 refl refl refl;
  name = refl;
  fixed = stands _ _ _ refl refl;
  class = omega arith;
  ttl = omega arith;
  small = omega arith;
  rdata = (0 ∷ 3 ∷ 0 ∷ [], octets_at 11 _ refl refl refl, malformed not_options);
  counted = refl;
  within = omega arith;
  proof = refl;
}

pub returns-clause-opt_with_nsid : goal.returns-clause-opt_with_nsid
returns-clause-opt_with_nsid c = record {
  middle = 1;
  len = 4;
  owner = root_at 0 refl refl refl;
  name = refl;
  fixed = stands _ _ _ refl refl;
  class = omega arith;
  ttl = omega arith;
  small = omega arith;
  rdata = (0 ∷ 3 ∷ 0 ∷ 0 ∷ [], octets_at 11 _ refl refl refl, well_formed (record { code = omega arith; short = omega arith }, tt) refl);
  counted = refl;
  within = omega arith;
  proof = refl;
}

pub returns-clause-tsig : goal.returns-clause-tsig
returns-clause-tsig c = record {
  middle = 1;
  len = 17;
  owner = root_at 0 refl refl refl;
  name = refl;
  fixed = stands _ _ _ refl refl;
  class = omega arith;
  ttl = omega arith;
  small = omega arith;
  rdata = (record { middle = 12; algorithm = root_at 11 refl refl refl; fields = octets_at 12 _ refl refl refl }, ((omega arith, omega arith, omega arith, omega arith, omega arith, omega arith), refl));
  counted = refl;
  within = omega arith;
  proof = refl;
}

pub returns-clause-tsig_bad_time : goal.returns-clause-tsig_bad_time
returns-clause-tsig_bad_time c = record {
  middle = 1;
  len = 27;
  owner = root_at 0 refl refl refl;
  name = refl;
  fixed = stands _ _ _ refl refl;
  class = omega arith;
  ttl = omega arith;
  small = omega arith;
  rdata = (record { middle = 14; algorithm = record { labels = label_at 11 (codes "a") refl refl refl refl (end_at 13 refl refl refl); short = omega arith }; fields = octets_at 14 _ refl refl refl }, ((omega arith, omega arith, omega arith, omega arith, omega arith, omega arith), refl));
  counted = refl;
  within = omega arith;
  proof = refl;
}
