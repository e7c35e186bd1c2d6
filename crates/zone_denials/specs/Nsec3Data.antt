-- The data of NSEC3 and NSEC3PARAM records as octets (RFC 5155 sections 3.2 and 4.2), if the hash algorithm is SHA-1 (section
-- 11). Resolvers ignore other ones (section 8.1).
use Rattle.std.specs.Prelude.{◌+◌, ◌*◌, ◌==◌, ◌&&◌, ◌∷◌, ℕ, Bool, nat_lt, not, cond, List, [], length, take, drop, Option, Some, None}
use Rattle.std.specs.Option.{option_map}
use Rattle.zone_denials.specs.Nsec3.{Hashing, Nsec3}
use Rattle.zone_denials.specs.TypeBits.{types_in}
use Rattle.zone_denials.specs.declared.nsec3_data.Nsec3Data.{Nsec3Data}
use Rattle.zone_denials.specs.declared.nsec3_data.Parameters.{Parameters}

-- the hash algorithm is SHA-1, and so many octets of the salt follow
abbrev pub has_salt : ℕ → ℕ → List ℕ → Bool
has_salt algorithm count rest = algorithm == 1 && not (nat_lt (length rest) count)

-- the parameters by which names are hashed: the hash algorithm, the flags, the iterations, and the salt after its length
abbrev pub parameters_in : List ℕ → Option Hashing
parameters_in (algorithm ∷ flags ∷ high ∷ low ∷ count ∷ rest) = cond (has_salt algorithm count rest) (Some (record { salt = take count rest; iterations = high * 256 + low })) None
parameters_in other = None

-- the parameters of a zone: of an NSEC3PARAM record with other flags than 0 they are ignored (section 4.1.2)
abbrev pub zone_parameters_in : List ℕ → Option Hashing
zone_parameters_in (algorithm ∷ flags ∷ rest) = cond (flags == 0) (parameters_in (algorithm ∷ flags ∷ rest)) None
zone_parameters_in other = None

-- whether a next hash of 20 octets and flags 0 or 1 are there: records with other flags are ignored (section 8.2)
abbrev pub has_next : ℕ → ℕ → List ℕ → Bool
has_next flags count rest = count == 20 && not (nat_lt (length rest) 20) && nat_lt flags 2

-- what follows the salt: the next hash after its length, and the type bit map
abbrev pub after_salt : List ℕ → ℕ → List ℕ → Option Nsec3
after_salt hash flags [] = None
after_salt hash flags (count ∷ rest) = cond (has_next flags count rest)
    (option_map (λ (types : List ℕ). let n : Nsec3 = record { hash = hash; next = take 20 rest; opt_out = flags == 1; types = types } in n) (types_in (drop 20 rest))) None

-- what an NSEC3 record of a hash and octets says, if these have the form of its data
abbrev pub nsec3_in : List ℕ → List ℕ → Option Nsec3
nsec3_in hash (algorithm ∷ flags ∷ high ∷ low ∷ count ∷ rest) = cond (has_salt algorithm count rest) (after_salt hash flags (drop count rest)) None
nsec3_in hash other = None

abbrev pub hashing_by : Parameters → Hashing
hashing_by it = record { salt = it.salt.now; iterations = it.iterations }

abbrev pub nsec3_by : List ℕ → Nsec3Data → Nsec3
nsec3_by hash it = record { hash = hash; next = it.next; opt_out = it.opt_out; types = it.types.items }
