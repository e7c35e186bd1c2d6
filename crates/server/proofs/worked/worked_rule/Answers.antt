use Rattle.std.proofs.Common.{[], ◌∷◌, arith, codes, false, refl}
use Rattle.update_policy.specs.RuleTexts.{own}
use Rattle.server.proofs.WorkedRuns.{named_k}
use Rattle.server.proofs.worked.worked_rule.Goals as goal

pub returns : goal.returns
unfolding lib.Utf8.encode
returns c = (
  codes "k" ∷ codes "self" ∷ [],
  (
    [],
    codes " self",
    refl,
    omega arith,
    ([], refl, tt),
    (codes "k", refl, (refl, tt)),
    (codes "self", λ some. (32, refl, refl, refl)),
    (
      codes " ",
      [],
      refl,
      omega arith,
      (codes " ", refl, (refl, tt)),
      (codes "self", refl, (refl, (refl, (refl, (refl, tt))))),
      ([], λ some. absurd (omega (arith, some))),
      ([], refl, tt),
    ),
  ),
  record {
    key = codes "k";
    rest = codes "self" ∷ [];
    types = [];
    are = refl;
    key_is = (record { labels = codes "k" ∷ []; is_fqdn = false }, named_k false (codes "k") refl, refl);
    scope_is = own refl refl;
    types_are = tt;
  },
)
