-- Keys by their names.
use Rattle.std.specs.Prelude.{List, [], ◌∷◌, Option, Some, None, if◌then◌else◌}
use Rattle.wire_names.specs.rr.domain.DomainName.{DomainName}
use Rattle.wire_names.specs.rr.domain.NameOrder.{name_eq}
use Rattle.tsig.specs.declared.keys.Key.{Key}

-- the first key of this name, letter case aside
abbrev pub key_of : List Key → DomainName → Option Key
key_of [] name = None
key_of (key ∷ keys) name = if name_eq key.name name then Some key else key_of keys name
