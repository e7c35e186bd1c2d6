use Rattle.std.proofs.Common.{◌≡◌, ◌∙◌, ◌++◌, List, ℕ, ap}
use Rattle.std.proofs.lemmas.List.{append_assoc}
use Rattle.std.proofs.lemmas.Result.{on_ok_weaker}
use Rattle.wire_writing.proofs.serialize.writing.data_encoder.write_soa_numbers.Goals as goal

-- five parts that were put one behind the other
five : (o x1 x2 x3 x4 x5 a b c d e : List ℕ) → x1 ≡ o ++ a → x2 ≡ x1 ++ b → x3 ≡ x2 ++ c → x4 ≡ x3 ++ d → x5 ≡ x4 ++ e → x5 ≡ o ++ (a ++ b ++ c ++ d ++ e)
five o x1 x2 x3 x4 x5 a b c d e h1 h2 h3 h4 h5 =
    h5 ∙ ap (λ z. z ++ e) (h4 ∙ ap (λ z. z ++ d) (h3 ∙ ap (λ z. z ++ c) (h2 ∙ ap (λ z. z ++ b) h1))) ∙ simp append_assoc

pub returns-clause-bytes : goal.returns-clause-bytes
returns-clause-bytes c = on_ok_weaker c.write_u32-5.result
    (λ last. five _ _ _ _ _ _ _ _ _ _ _ c.in_ok-write_u32.ensures c.in_ok-write_u32-2.ensures c.in_ok-write_u32-3.ensures c.in_ok-write_u32-4.ensures last)
    c.write_u32-5.ensures
