-- What is put is the reply behind the one before, or the first.
use Rattle.tsig.specs.Signing.{reply_of}
use Rattle.signed_server.proofs.Puts.{puts_made}
use Rattle.signed_server.proofs.chains.put_signed.Goals as goal

pub returns-in-None : goal.returns-in-None
returns-in-None c =
    rw c.in-None.is (puts_made (reply_of c.args.keys.now c.args.judgement.now c.args.message.now c.args.now) c.sign.new.out.items c.sign.result (rw c.requires at c.sign.ensures.puts))
