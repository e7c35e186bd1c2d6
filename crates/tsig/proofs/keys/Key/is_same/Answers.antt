-- Name, secret, algorithm and policy are the whole key.
use Rattle.std.proofs.Common.{◌≡◌, rules}
use Rattle.tsig.proofs.keys.Key.is_same.Goals as goal

pub returns-then-eq : goal.returns-then-eq
returns-then-eq c t =
    let name : c.args.self.now.name ≡ c.args.other.now.name = search rules in
    let secret : c.args.self.now.secret ≡ c.args.other.now.secret = search rules in
    let algorithm : c.args.self.now.algorithm ≡ c.args.other.now.algorithm = search rules in
    let shortest : c.args.self.now.shortest ≡ c.args.other.now.shortest = search rules in
    λ i. record { name = name i; algorithm = algorithm i; secret = secret i; shortest = shortest i }
