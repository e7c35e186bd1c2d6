-- How servers that are told are spelled.
use Rattle.std.specs.Prelude.{◌≡◌, ◌<◌, ◌++◌, ℕ, List, codes}
use Rattle.std.specs.Net.Grammar.{IsIpText, IsNumber}
use Rattle.notices.specs.declared.notice.Target.{Target}

-- The text is an address, an @ and a decimal number from 1 on, which is the port; or an address alone, and the port is
-- that of DNS (RFC 1035 section 4.2).
pub data IsTargetText (text : List ℕ) (target : Target) : Type 0 where
  with_port : (address digits : List ℕ) → text ≡ address ++ (codes "@" ++ digits) → IsIpText address target.address → IsNumber 10 digits target.port → 0 < target.port
      → IsTargetText text target
  alone : IsIpText text target.address → target.port ≡ 53 → IsTargetText text target
