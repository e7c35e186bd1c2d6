use Rattle.std.proofs.Common.{◌≡◌, ◌++◌, List, ℕ, append_assoc, refl}
use Rattle.std.proofs.lemmas.Result.{IfOk-equal}
use Rattle.notices.proofs.messages.write_soa.Goals as goal

-- parts that are put one behind the other are put together
joined : (b0 b1 b2 b3 b4 b5 b6 m r s1 s2 s3 s4 s5 : List ℕ) → b1 ≡ b0 ++ m → b2 ≡ b1 ++ r → b3 ≡ b2 ++ s1 → b4 ≡ b3 ++ s2 → b5 ≡ b4 ++ s3 → b6 ≡ b5 ++ s4
    → b6 ++ s5 ≡ b0 ++ ((m ++ r) ++ ((((s1 ++ s2) ++ s3) ++ s4) ++ s5))
joined b0 b1 b2 b3 b4 b5 b6 m r s1 s2 s3 s4 s5 e1 e2 e3 e4 e5 e6 = rw (e6, e5, e4, e3, e2, e1) (simp append_assoc refl)

pub returns : goal.returns
returns c =
    IfOk-equal c.write_u32-5.result _ _ _ c.write_u32-5.ensures
    (joined _ _ _ _ _ _ _ _ _ _ _ _ _ _ c.in_ok-write_name.ensures c.in_ok-write_name-2.ensures c.in_ok-write_u32.ensures c.in_ok-write_u32-2.ensures c.in_ok-write_u32-3.ensures c.in_ok-write_u32-4.ensures)
