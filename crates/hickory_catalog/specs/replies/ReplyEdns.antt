-- What the OPT record of a reply says, for what the request's says and what identifies the server.
use Rattle.std.specs.Prelude.{◌==◌, ◌&&◌, ◌/◌, ℕ, Bool, cond, max, List, [], ◌∷◌, find, is_some, Option, Some, None, option_map}
use Rattle.wire_messages.specs.op.EdnsFields.{EdnsFields}
use Rattle.wire_messages.specs.declared.op.edns.EdnsOption.{EdnsOption}

-- The client asks for the server's identifier: it sends the option NSID (RFC 5001 section 2.1), which is 3 (section
-- 2.3). Data in it are ignored (section 2.2).
abbrev pub asks_for_nsid : EdnsFields → Bool
asks_for_nsid asked = is_some (find (λ option. option.code == 3) asked.options)

-- The option with the server's identifier (RFC 5001 section 2.2), where there is one, and the client asks for it in the
-- version that the server speaks, 0.
abbrev pub nsid_options : Option (List ℕ) → EdnsFields → List EdnsOption
nsid_options None asked = []
nsid_options (Some identifier) asked = cond (asked.version == 0 && asks_for_nsid asked) (record { code = 3; bytes = identifier } ∷ []) []

-- A reply has an OPT record just where the request has one (RFC 6891 sections 6.1.1 and 7). It says version 0, DO as
-- asked (RFC 3225 section 3), the payload that was asked for, but at least 512 (RFC 6891 section 6.2.3; section 6.2.4
-- would have the server's own), and no other flag (section 6.1.4).
abbrev pub reply_edns : Option (List ℕ) → Option EdnsFields → Option EdnsFields
reply_edns identifier None = None
reply_edns identifier (Some asked) = Some (record {
  max_payload = max asked.max_payload 512;
  rcode_high = 0;
  version = 0;
  dnssec_ok = asked.dnssec_ok;
  reserved_flags = 0;
  options = nsid_options identifier asked;
})

-- The OPT record of a reply holds the high eight bits of its response code (RFC 6891 section 6.1.3).
abbrev pub with_high_code : ℕ → Option EdnsFields → Option EdnsFields
with_high_code code edns = option_map (λ (e : EdnsFields). record e { rcode_high = code / 16 }) edns
