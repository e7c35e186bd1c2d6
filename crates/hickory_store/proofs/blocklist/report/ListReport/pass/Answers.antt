use Rattle.std.proofs.Common.{refl}
use Rattle.hickory_store.proofs.lemmas.blocklist.ListReports.{passes}
use Rattle.hickory_store.proofs.blocklist.report.ListReport.pass.Goals as goal

pub returns : goal.returns
returns c = λ lines is. passes lines c.args.self.now _ is c.saturating_add-self.ensures refl refl refl
