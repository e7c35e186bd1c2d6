use Rattle.std.proofs.Common.{refl}
use Rattle.hickory_store.proofs.lemmas.blocklist.ListReports.{takes}
use Rattle.hickory_store.proofs.blocklist.report.ListReport.take.Goals as goal

pub returns : goal.returns
returns c = λ lines is. takes lines c.args.self.now _ is c.saturating_add-self.ensures c.saturating_add-self-2.ensures refl refl
