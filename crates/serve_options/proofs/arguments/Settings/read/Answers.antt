-- One option more, or all of them and the mode.
use Rattle.std.proofs.Common.{◌≡◌, ◌∙◌, ◌++◌, [], ◌∷◌, ℕ, List, ap, refl, rules, sym}
use Rattle.std.specs.Prelude.{codes, string_bytes}
use Rattle.serve_options.specs.Arguments.{mode_word, words_of}
use Rattle.serve_options.proofs.Said.{alone_taken, last_word, with_text_taken}
use Rattle.serve_options.proofs.arguments.Settings.read.Goals as goal

pub loop-rest-preserved-then-eq : goal.loop-rest-preserved-then-eq
loop-rest-preserved-then-eq c =
    let (options, are, say) = c.loop-rest.invariant in (
      options ++ (codes "--no-groups", []) ∷ [],
      alone_taken string_bytes _ options c.loop-rest.rest.now c.option-item.result c.as_str-in-len2-up.result.now are c.in-len2-up.len_at_least c.option-item.is (search rules) (sym c.eq.ensures ∙ c.if-eq.true),
      c.in_ok-put_no_groups.ensures options say,
    )

pub loop-rest-preserved : goal.loop-rest-preserved
loop-rest-preserved c =
    let (options, are, say) = c.loop-rest.invariant in
    let same : c.as_str-else-eq.result.now ≡ c.as_str-in-len2-up.result.now = search rules in (
      options ++ (c.as_str-else-eq.result.now, c.as_str-else-eq-2.result.now) ∷ [],
      with_text_taken string_bytes _ options c.loop-rest.rest.now c.option-item.result c.text-item.result _ _ are c.in-len2-up.len_at_least c.option-item.is c.text-item.is (search rules) (search rules)
          (rw same (sym c.eq.ensures ∙ c.if-eq.false)),
      c.in_ok-put.ensures options say,
    )

pub returns-in-None-journal_fault : goal.returns-in-None-journal_fault
returns-in-None-journal_fault c =
    let (options, are, say) = c.loop-rest.invariant in record {
      options = options;
      words = are ∙ ap (λ (l : List (List ℕ)). words_of options ++ l) (last_word string_bytes c.loop-rest.rest.now c.mode-item.result (mode_word c.in-Some-mode_named.mode) c.in-len1.len_at_least c.in-len1.len_below c.mode-item.is (search rules));
      say = record {
        known = say.known;
        zones = say.zones;
        blocklists = say.blocklists;
        allowed = say.allowed;
        denied = say.denied;
        transfers_allowed = say.transfers_allowed;
        transfers_denied = say.transfers_denied;
        identifier = say.identifier;
        max_udp = say.max_udp;
        keys = say.keys;
        transfer_keys = say.transfer_keys;
        updates = say.updates;
        journals = say.journals;
        no_groups = say.no_groups;
      };
      of_one_process = c.in-None-journal_fault.ensures.process refl;
      keys = c.in-None-journal_fault.ensures.keys refl;
    }
