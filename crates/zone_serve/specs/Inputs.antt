-- What becomes of an input in a mode, and what is written of it.
use Rattle.std.specs.Prelude.{[], ℕ, List, IfSome, Option}
use Rattle.std.specs.Io.KnownBytes.{Appends, Consumes, IsAtEnd}
use Rattle.std.specs.declared.net.ip_addr.IpAddr.{IpAddr}
use Rattle.wire_names.specs.rr.domain.DomainName.{DomainName}
use Rattle.signed_server.specs.KeyedServers.{KeyedServer}
use Rattle.serve_options.specs.declared.arguments.Mode.{Mode}
use Rattle.serve_options.specs.declared.arguments.Mode.TheVariants.{Lines, Tcp, Udp}
use Rattle.zone_serve.specs.Groups.{LinesServed}
use Rattle.zone_serve.specs.Served.{AreLines, DatagramServed, StreamServed}

-- what is left of an input, and what an output holds, before and after
pub record Flow : Type 0 where
  pub input : Option (List ℕ)
  pub left : Option (List ℕ)
  pub output : Option (List ℕ)
  pub filled : Option (List ℕ)

-- The input is one datagram, or messages after their lengths, from this address; or lines, of which each has the address of
-- its message. All of it is read, and what is written of it comes after what was written before.
module _ {H : Type 0} (begins settles : List (DomainName × List H) → List (DomainName × List H) → Type 0) where
  abbrev pub InputServed : KeyedServer H → Mode → IpAddr → Flow → List (DomainName × List H) → Type 0
  InputServed service Udp address flow zones = (read : List ℕ) × (written : List ℕ) × DatagramServed service address read written zones
      × Consumes flow.input flow.left read × IsAtEnd flow.left × Appends flow.output flow.filled written
  InputServed service Tcp address flow zones = (read : List ℕ) × (written : List ℕ) × StreamServed service address read written zones
      × Consumes flow.input flow.left read × IsAtEnd flow.left × Appends flow.output flow.filled written
  InputServed service Lines address flow zones = IfSome flow.input (λ input. (lines : List (List ℕ)) × (written : List ℕ)
      × AreLines input lines [] × LinesServed begins settles service lines written zones × Appends flow.output flow.filled written)
