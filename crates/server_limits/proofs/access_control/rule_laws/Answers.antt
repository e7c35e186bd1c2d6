use Rattle.server_limits.proofs.lemmas.Rule.{mapped_form_allowed_alike, only_members_decide}
use Rattle.server_limits.proofs.access_control.rule_laws.Goals as goal

pub returns-clause-mapped_form : goal.returns-clause-mapped_form
returns-clause-mapped_form c = mapped_form_allowed_alike

pub returns-clause-members : goal.returns-clause-members
returns-clause-members c = only_members_decide
