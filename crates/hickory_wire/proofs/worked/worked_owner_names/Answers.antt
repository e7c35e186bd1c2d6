-- An answer behind one of the same owner name.
use Rattle.std.proofs.Common.{◌≡◌, ℕ, ◌≤◌, List, ◌++◌, codes, get_or, refl, ap, arith}
use Rattle.wire_writing.specs.serialize.writing.Writing.{Puts}
use Rattle.hickory_wire.specs.worked.WorkedReplies.{www_answer, www_answer_bytes, www_answer_again, www_reply_compressed}
use Rattle.hickory_wire.proofs.lemmas.worked.Literals.{stands, octets_at, end_at, label_at, pointer_at}
use Rattle.hickory_wire.proofs.lemmas.worked.LiteralReplies.{put_answer}
use Rattle.hickory_wire.proofs.worked.worked_owner_names.Goals as goal

-- the answer again, its name a pointer to a pointer to the question's
again : Puts 512 www_reply_compressed www_answer (www_reply_compressed ++ www_answer_again)
again = record {
  more = www_answer_again;
  formed = refl;
  in_range = record { class = omega arith; ttl = omega arith; rdata = record { four = refl } };
  appended = refl;
  in_full = tt;
  small = omega arith;
  within = omega arith;
  form = record {
    middle = 51;
    len = 4;
    owner = record { labels = pointer_at 49 0 33 35 refl refl refl refl (pointer_at 33 0 12 29 refl refl refl refl (label_at 12 (codes "www") refl refl refl refl (label_at 16 (codes "example") refl refl refl refl (label_at 24 (codes "com") refl refl refl refl (end_at 28 refl refl refl))))); short = omega arith };
    fixed = stands _ _ _ refl refl;
    small = omega arith;
    rdata = octets_at 61 _ refl refl refl;
    counted = refl;
  };
}

pub returns-clause-repeated : goal.returns-clause-repeated
returns-clause-repeated c = (www_reply_compressed ++ www_answer_again, again, λ earlier has low some. omega arith, refl)

-- the first byte of the name in full is no pointer
pub returns-clause-in_full_again : goal.returns-clause-in_full_again
returns-clause-in_full_again c = λ h.
    let pointer : 192 ≤ get_or h.0 49 0 = h.2 33 (0, omega arith, refl) (omega arith) (λ e. cc) in
    let byte : get_or (www_reply_compressed ++ www_answer_bytes) 49 0 ≡ get_or h.0 49 0 = ap (λ (l : List ℕ). get_or l 49 0) h.3 in
    absurd (omega (arith, pointer, byte))

pub returns-clause-in_full_first : goal.returns-clause-in_full_first
returns-clause-in_full_first c = (www_reply_compressed ++ www_answer_bytes, put_answer 512 www_reply_compressed (omega arith) (omega arith), λ earlier has low some. absurd (omega (arith, has.1)), refl)
