use Rattle.std.proofs.Common.{◌≡◌, ◌∙◌, ◌+◌, ◌*◌, ◌^◌, ◌<◌, ◌-◌, ◌≤◌, ℕ, List, ◌++◌, Option, None, Some, Err, refl, length, take, drop, ap, sym, subst, arith, length-drop}
use Rattle.std.proofs.Math.Seq.{take-add}
use Rattle.std.proofs.lemmas.List.{length-take-le, take-append-drop, take_all}
use Rattle.std.specs.Int.{w64, to_be_bytes}
use Rattle.std.specs.Option.{IfNone, IfSome, ok_or}
use Rattle.record_text.specs.Groups.{IsBase32, IsLastGroup, SpellsBase32, SpellsGroups}
use Rattle.record_text.specs.Groups.SpellsGroups.{none, more}
use Rattle.std.proofs.lemmas.Result.{err_from_is_err_and}
use Rattle.text_words.specs.declared.error.TextError.{TextError}
use Rattle.text_words.specs.Spelling.{Puts}
use Rattle.record_text.specs.RecordText.{HasNone}
use Rattle.record_text.proofs.Digits.{eights, forty_bits, group_within, last_within}
use Rattle.record_text.proofs.data.hashes.base32.Goals as goal

more_groups : (text : List ℕ) (place k n : ℕ) (octets after bytes : List ℕ) → k ≡ 8 → place + 8 ≤ length text → after ≡ octets ++ take 5 (drop 3 bytes) → bytes ≡ to_be_bytes w64 n → SpellsGroups (take place text) octets
    → IsBase32 (take k (drop place text)) n → SpellsGroups (take (place + 8) text) after
more_groups text place k n octets after bytes e within pushed be before is =
    let one : SpellsGroups (take place text ++ take 8 (drop place text)) (octets ++ drop 3 (to_be_bytes w64 n)) =
    more n before (length-take-le 8 (drop place text) (omega (arith, length-drop place text))) (subst (λ (j : ℕ). IsBase32 (take j (drop place text)) n) e is) in
    let octets_are : after ≡ octets ++ drop 3 (to_be_bytes w64 n) = pushed ∙ ap (λ (b : List ℕ). octets ++ take 5 (drop 3 b)) be in
    subst (SpellsGroups (take (place + 8) text)) (sym octets_are) (subst (λ (t : List ℕ). SpellsGroups t (octets ++ drop 3 (to_be_bytes w64 n))) (sym (take-add place 8 text)) one)

pub groups-init : goal.groups-init
groups-init c = record {
  within = omega arith;
  spelled = rw c.new-bytes.ensures.items none;
}

pub groups-preserved : goal.groups-preserved
groups-preserved c =
    let text : List ℕ = c.args.word.now.bytes.now in
    let place : ℕ = c.groups.place in
    let inside : place + 8 ≤ length text = omega (arith, c.groups-test.true) in
    record {
      within = inside;
      spelled = more_groups text place (place + 8 - place) c.in_ok-number.number c.groups.bytes.items c.extend_from_slice.new.self.items c.to_be_bytes.result (omega arith) inside c.in_ok-extend_from_slice.ensures.items c.to_be_bytes.ensures
          c.groups.invariant.spelled (subst (λ (o : Option ℕ). IfSome o (IsBase32 (take (place + 8 - place) (drop place text)))) c.in_ok-number.ensures.ok_part c.number_of_group.ensures.value);
    }

-- all that is left
whole : (text : List ℕ) (place : ℕ) → take (length text - place) (drop place text) ≡ drop place text
whole text place = take_all (length text - place) (drop place text) (omega (arith, length-drop place text))

-- a group is no number
no_group : (text octets : List ℕ) (place k : ℕ) → k ≡ 8 → place + 8 ≤ length text → SpellsGroups (take place text) octets → HasNone (λ n. IsBase32 (take k (drop place text)) n × (n < 2 ^ 64)) → HasNone (SpellsBase32 text)
no_group text octets place k e within before refused all is =
    let front : (j : ℕ) × (length (take place text) ≡ 8 * j) = eights before in
    let here : 8 * front.0 ≡ place = omega (arith, length-take-le place text (omega (arith, within)), front.1) in
    let at : (n : ℕ) × IsBase32 (take 8 (drop (8 * front.0) text)) n = group_within is front.0 (omega (arith, here, within)) in
    let own : IsBase32 (take 8 (drop place text)) at.0 = subst (λ (p : ℕ). IsBase32 (take 8 (drop p text)) at.0) here at.1 in
    let small : at.0 < 2 ^ 64 = forty_bits (take 8 (drop place text)) at.0 (length-take-le 8 (drop place text) (omega (arith, length-drop place text, within))) own in
    refused at.0 (subst (λ (m : ℕ). IsBase32 (take m (drop place text)) at.0) (sym e) own, small)

-- what is left is no last group
no_last : (text octets : List ℕ) (place : ℕ) → place ≤ length text → length text < place + 8 → SpellsGroups (take place text) octets → HasNone (IsLastGroup (drop place text)) → HasNone (SpellsBase32 text)
no_last text octets place within few before refused all is =
    let front : (j : ℕ) × (length (take place text) ≡ 8 * j) = eights before in
    let here : 8 * front.0 ≡ place = omega (arith, length-take-le place text within, front.1) in
    let last : IsLastGroup (drop (8 * front.0) text) is.last_octets = last_within is front.0 (omega (arith, here, within)) (omega (arith, here, few)) in
    refused is.last_octets (subst (λ (p : ℕ). IsLastGroup (drop p text) is.last_octets) here last)

-- what was put behind whole groups ends the text
ended : (text : List ℕ) (place : ℕ) (octets after : List ℕ) → place ≤ length text → SpellsGroups (take place text) octets → Puts (IsLastGroup (take (length text - place) (drop place text))) octets after → SpellsBase32 text after
ended text place octets after within before last = record {
  front = take place text;
  last = drop place text;
  front_octets = octets;
  last_octets = last.0;
  in_order = sym (take-append-drop place text);
  together = last.1;
  groups = before;
  ended = subst (λ (t : List ℕ). IsLastGroup t last.0) (whole text place) last.2;
}

left_over : (text : List ℕ) (place : ℕ) (octets : List ℕ) → place ≤ length text → length text < place + 8 → SpellsGroups (take place text) octets → HasNone (IsLastGroup (take (length text - place) (drop place text))) → HasNone (SpellsBase32 text)
left_over text place octets within few before refused = no_last text octets place within few before (λ own is. refused own (subst (λ (t : List ℕ). IsLastGroup t own) (sym (whole text place)) is))

from_err : (o : Option ℕ) (e f : TextError) → Err f ≡ ok_or o e → o ≡ None
from_err None e f same = refl
from_err (Some m) e f same = absurd (cc)

pub returns-clause-spelled : goal.returns-clause-spelled
returns-clause-spelled c =
    let text : List ℕ = c.args.word.now.bytes.now in
    let place : ℕ = c.groups.place in
    ended text place c.groups.bytes.items c.put_last.new.bytes.items c.groups.invariant.within c.groups.invariant.spelled c.in_ok-put_last.ensures.put

pub returns-in_err-put_last-clause-refused : goal.returns-in_err-put_last-clause-refused
returns-in_err-put_last-clause-refused c =
    let p = err_from_is_err_and c.from_residual-in_err-put_last.result c.from_residual-in_err-put_last.ensures.1 in
    rw (p.1, p.2) (λ other. left_over c.args.word.now.bytes.now c.groups.place c.groups.bytes.items c.groups.invariant.within (omega (arith, c.groups-test.false)) c.groups.invariant.spelled (c.in_err-put_last.ensures.refused other))

pub returns-in_err-number-clause-refused : goal.returns-in_err-number-clause-refused
returns-in_err-number-clause-refused c =
    let text : List ℕ = c.args.word.now.bytes.now in
    let place : ℕ = c.groups.place in
    let p = err_from_is_err_and c.from_residual.result c.from_residual.ensures.1 in
    let missing : c.number_of_group.result ≡ None = from_err c.number_of_group.result c.fault-bad.result c.in_err-number.field-0.0 c.in_err-number.ensures.value in
    let refused : HasNone (λ n. IsBase32 (take (place + 8 - place) (drop place text)) n × (n < 2 ^ 64)) = subst (λ (o : Option ℕ). IfNone o (HasNone (λ n. IsBase32 (take (place + 8 - place) (drop place text)) n × (n < 2 ^ 64)))) missing c.number_of_group.ensures.none in
    rw p.1 (λ other. no_group text c.groups.bytes.items place (place + 8 - place) (omega arith) (omega (arith, c.groups-test.true)) c.groups.invariant.spelled refused)
