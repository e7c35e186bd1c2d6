-- Names and their faults, by the rules of the layout.
use Rattle.std.proofs.Common.{◌∷◌, [], codes, refl, arith}
use Rattle.wire_messages.specs.serialize.layout.NameLayout.LabelsFault.{byte_missing, code_unknown, label_missing, too_long, pointer_missing, not_prior}
use Rattle.hickory_wire.specs.worked.Worked as worked
use Rattle.hickory_wire.specs.worked.Worked.{letters}
use Rattle.hickory_wire.proofs.lemmas.worked.Literals.{stands, is_label, end_at, label_at, pointer_at, fault_behind_label, fault_behind_pointer}
use Rattle.hickory_wire.proofs.worked.worked_name_layout.Goals as goal

pub returns-clause-www : goal.returns-clause-www
returns-clause-www c = record { labels = label_at 12 (codes "www") refl refl refl refl (label_at 16 (codes "example") refl refl refl refl (label_at 24 (codes "com") refl refl refl refl (end_at 28 refl refl refl))); short = omega arith }

pub returns-clause-behind_two_pointers : goal.returns-clause-behind_two_pointers
returns-clause-behind_two_pointers c = record {
  labels = label_at 21 (codes "b") refl refl refl refl (pointer_at 23 0 17 21 refl refl refl refl (label_at 17 (codes "a") refl refl refl refl (pointer_at 19 0 12 17 refl refl refl refl (label_at 12 (codes "com") refl refl refl refl (end_at 16 refl refl refl)))));
  short = omega arith;
}

pub returns-clause-from_the_header : goal.returns-clause-from_the_header
returns-clause-from_the_header c = record {
  labels = pointer_at 12 0 0 10 refl refl refl refl (label_at 0 (0 ∷ 0 ∷ 0 ∷ 0 ∷ 1 ∷ 0 ∷ 0 ∷ 0 ∷ []) refl refl refl refl (end_at 9 refl refl refl));
  short = omega arith;
}

pub returns-clause-longest : goal.returns-clause-longest
returns-clause-longest c = record {
  labels = label_at 0 (letters 63) refl refl refl refl (label_at 64 (letters 63) refl refl refl refl (label_at 128 (letters 63) refl refl refl refl (label_at 192 (letters 61) refl refl refl refl (end_at 254 refl refl refl))));
  short = omega arith;
}

pub returns-clause-longest_through_pointer : goal.returns-clause-longest_through_pointer
returns-clause-longest_through_pointer c = record {
  labels = label_at 253 (codes "a") refl refl refl refl (pointer_at 255 0 0 253 refl refl refl refl
      (label_at 0 (letters 63) refl refl refl refl (label_at 64 (letters 63) refl refl refl refl (label_at 128 (letters 63) refl refl refl refl (label_at 192 (letters 59) refl refl refl refl (end_at 252 refl refl refl))))));
  short = omega arith;
}

pub returns-clause-circle : goal.returns-clause-circle
returns-clause-circle c = fault_behind_pointer 12 0 0 refl refl refl (not_prior 0 12 (stands worked.pointers_in_a_circle 0 (192 ∷ 12 ∷ []) refl refl) (omega arith))

pub returns-clause-to_itself : goal.returns-clause-to_itself
returns-clause-to_itself c = not_prior 0 12 (stands worked.pointer_to_itself 12 (192 ∷ 12 ∷ []) refl refl) (omega arith)

pub returns-clause-to_its_labels : goal.returns-clause-to_its_labels
returns-clause-to_its_labels c = fault_behind_label 12 (codes "a") refl refl refl refl (not_prior 0 12 (stands worked.pointer_to_its_labels 14 (192 ∷ 12 ∷ []) refl refl) (omega arith))

pub returns-clause-ahead : goal.returns-clause-ahead
returns-clause-ahead c = not_prior 0 14 (stands worked.pointer_ahead 12 (192 ∷ 14 ∷ []) refl refl) (omega arith)

pub returns-clause-code_01 : goal.returns-clause-code_01
returns-clause-code_01 c = code_unknown 64 (stands worked.reserved_code_01 0 (64 ∷ []) refl refl) (omega arith) (omega arith)

pub returns-clause-code_10 : goal.returns-clause-code_10
returns-clause-code_10 c = code_unknown 128 (stands worked.reserved_code_10 0 (128 ∷ []) refl refl) (omega arith) (omega arith)

pub returns-clause-too_long : goal.returns-clause-too_long
returns-clause-too_long c =
    fault_behind_label 0 (letters 63) refl refl refl refl (fault_behind_label 64 (letters 63) refl refl refl refl (fault_behind_label 128 (letters 63) refl refl refl refl
    (too_long (letters 62) (is_label (letters 62) refl) (stands worked.too_long_name 192 (worked.label_of_letters 62) refl refl) (omega arith))))

pub returns-clause-too_long_through_pointer : goal.returns-clause-too_long_through_pointer
returns-clause-too_long_through_pointer c =
    fault_behind_label 254 (codes "a") refl refl refl refl (fault_behind_pointer 256 0 0 refl refl refl
    (fault_behind_label 0 (letters 63) refl refl refl refl (fault_behind_label 64 (letters 63) refl refl refl refl (fault_behind_label 128 (letters 63) refl refl refl refl
    (too_long (letters 60) (is_label (letters 60) refl) (stands worked.too_long_through_pointer 192 (worked.label_of_letters 60) refl refl) (omega arith))))))

pub returns-clause-no_byte : goal.returns-clause-no_byte
returns-clause-no_byte c = byte_missing (omega arith)

pub returns-clause-label_missing : goal.returns-clause-label_missing
returns-clause-label_missing c = label_missing 3 (stands worked.label_missing 0 (3 ∷ []) refl refl) (omega arith) (omega arith) (omega arith)

pub returns-clause-label_cut : goal.returns-clause-label_cut
returns-clause-label_cut c = label_missing 3 (stands worked.label_cut 0 (3 ∷ []) refl refl) (omega arith) (omega arith) (omega arith)

pub returns-clause-end_missing : goal.returns-clause-end_missing
returns-clause-end_missing c = fault_behind_label 0 (codes "com") refl refl refl refl (byte_missing (omega arith))

pub returns-clause-pointer_cut : goal.returns-clause-pointer_cut
returns-clause-pointer_cut c = pointer_missing 0 (stands worked.pointer_cut 12 (192 ∷ []) refl refl) (omega arith)

pub returns-clause-to_later_name : goal.returns-clause-to_later_name
returns-clause-to_later_name c = not_prior 0 14 (stands worked.pointer_to_later_name 12 (192 ∷ 14 ∷ []) refl refl) (omega arith)
