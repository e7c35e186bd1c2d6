-- Keys as text (the secret in base64, RFC 4648 section 4).
use Rattle.std.specs.Prelude.{◌≡◌, ◌≢◌, List, ℕ, [], ◌∷◌, ◌++◌, true, Ok}
use Rattle.base64.specs.Engines.{standard}
use Rattle.base64.specs.GeneralPurpose.{decode_of}
use Rattle.wire_names.specs.rr.domain.DomainName.{DomainName}
use Rattle.wire_names.specs.rr.domain.NameText.{IsNameText}
use Rattle.tsig.specs.Hmac.{algorithm_label}
use Rattle.tsig.specs.declared.keys.Key.{Key}

-- The text is a key as `dig -y` takes it, `ALGORITHM:NAME:SECRET`. The name is fully qualified whether or not it ends
-- in a dot. It takes each MAC that RFC 8945 allows.
pub record IsKeyText (text : List ℕ) (key : Key) : Type 0 where
  pub name : List ℕ
  pub secret : List ℕ
  pub named : DomainName
  pub spelled : text ≡ algorithm_label key.algorithm ++ 58 ∷ (name ++ 58 ∷ secret)
  pub is_name : IsNameText name named
  pub qualified : key.name ≡ record named { is_fqdn = true }
  pub decoded : decode_of standard secret ≡ Ok key.secret
  pub any_mac : key.shortest ≡ 0

-- A key that can be used: its name is fully qualified, and it has a secret.
pub record IsUsable (key : Key) : Type 0 where
  pub qualified : key.name.is_fqdn ≡ true
  pub some : key.secret ≢ []
