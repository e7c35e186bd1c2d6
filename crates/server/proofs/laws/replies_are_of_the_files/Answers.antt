use Rattle.server.proofs.Runs.{of_files, unchanged}
use Rattle.server.proofs.laws.replies_are_of_the_files.Goals as goal

pub returns-clause-replies : goal.returns-clause-replies
returns-clause-replies c = of_files _ _ _ c.served_queries.ensures.answered c.served_queries.ensures.updated c.served_queries.ensures.read c.owners_stay.ensures.sets c.owners_stay.ensures.by_rules

pub returns-clause-files : goal.returns-clause-files
returns-clause-files c = unchanged _
