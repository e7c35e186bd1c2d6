use Rattle.std.proofs.Common.{◌≡◌, ◌∙◌, ℕ, ap, refl, arith}
use Rattle.hickory_base.specs.requests.RequestReading.{additionals_of}
use Rattle.hickory_base.proofs.lemmas.requests.NoAdditionals.{nothing_added}
use Rattle.hickory_base.proofs.requests.message_request.MessageRequest.read_additionals.Goals as goal

pub returns-then-count-eq0 : goal.returns-then-count-eq0
returns-then-count-eq0 c =
    let none : c.args.count ≡ 0 = omega (arith, c.if-count-eq0.true) in
    (ap (λ (n : ℕ). additionals_of c.args.self.now n c.args.decoder.now) none ∙ nothing_added c.args.self.now c.requires.none c.args.decoder.now, refl)
