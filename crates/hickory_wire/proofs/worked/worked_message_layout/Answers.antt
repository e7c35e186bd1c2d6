-- A query and its OPT record, section after section.
use Rattle.std.proofs.Common.{◌∷◌, [], refl, arith}
use Rattle.wire_messages.specs.op.Metadata.{bare_metadata}
use Rattle.hickory_wire.specs.worked.Worked.{root, record_of, saying}
use Rattle.wire_messages.specs.rr.RecordData.OptionsOf.{well_formed}
use Rattle.wire_messages.specs.declared.op.header.MessageType.TheVariants as message_type
use Rattle.wire_messages.specs.declared.rr.rdata.RData.TheVariants as rdata
use Rattle.hickory_wire.proofs.lemmas.worked.Literals.{stands, root_at, octets_at}
use Rattle.hickory_wire.proofs.worked.worked_message_layout.Goals as goal

pub returns-clause-message : goal.returns-clause-message
returns-clause-message c = record {
  header = record { metadata = bare_metadata 1 message_type.Query 0; counts = record { queries = 1; answers = 0; authorities = 0; additionals = 1 } };
  all = record_of root 1232 65536 (rdata.OPT []) ∷ [];
  answers_at = 17;
  authorities_at = 17;
  additionals_at = 17;
  stop = 28;
  header_stands = record { id = 1; one = 0; two = 0; stands = stands _ _ _ refl refl; id_small = omega arith; counts = record { queries = omega arith; answers = omega arith; authorities = omega arith; additionals = omega arith }; metadata = refl };
  queries = (
    17,
    record {
      stands = record { middle = 13; name = root_at 12 refl refl refl; fields = stands _ _ _ refl refl; after = refl };
      formed = record { name = refl; query_type = omega arith; query_class = omega arith };
    },
    refl,
  );
  answers = refl;
  authorities = refl;
  additionals = (
    28,
    record {
      middle = 18;
      len = 0;
      owner = root_at 17 refl refl refl;
      name = refl;
      fixed = stands _ _ _ refl refl;
      class = omega arith;
      ttl = omega arith;
      small = omega arith;
      rdata = ([], octets_at 28 [] refl refl refl, well_formed tt refl);
      counted = refl;
      within = omega arith;
      proof = refl;
    },
    refl,
  );
  query_count = refl;
  answer_count = refl;
  authority_count = refl;
  additional_count = refl;
  answers_plain = tt;
  authorities_plain = tt;
  section = record {
    unsigned = record_of root 1232 65536 (rdata.OPT []) ∷ [];
    opts = record_of root 1232 65536 (rdata.OPT []) ∷ [];
    signature_last = refl;
    one_signature = refl;
    opt_records = refl;
    others = refl;
    one_opt = (saying 1232 0 1, record { root = refl; rdata = refl; says = refl }, refl);
  };
  metadata = refl;
}

pub returns-clause-header : goal.returns-clause-header
returns-clause-header c = record {
  id = 0x1234;
  one = 0xa8;
  two = 0x05;
  stands = stands _ _ _ refl refl;
  id_small = omega arith;
  counts = record { queries = omega arith; answers = omega arith; authorities = omega arith; additionals = omega arith };
  metadata = refl;
}

pub returns-clause-question : goal.returns-clause-question
returns-clause-question c = record { middle = 13; name = root_at 12 refl refl refl; fields = stands _ _ _ refl refl; after = refl }
