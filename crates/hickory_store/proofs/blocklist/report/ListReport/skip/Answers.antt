use Rattle.std.proofs.Common.{refl, rules}
use Rattle.hickory_store.proofs.lemmas.blocklist.ListReports.{skips, skips_told}
use Rattle.hickory_store.proofs.blocklist.report.ListReport.skip.Goals as goal

pub returns-in_ok-push : goal.returns-in_ok-push
returns-in_ok-push c = λ lines is. skips_told lines c.args.self.now _ is c.saturating_add-self.ensures refl c.saturating_add-self-2.ensures (search rules) (search rules)

pub returns-else-len-lt-TOLD : goal.returns-else-len-lt-TOLD
returns-else-len-lt-TOLD c = λ lines is. skips lines c.args.self.now _ is c.saturating_add-self.ensures refl c.saturating_add-self-2.ensures (search rules) refl
