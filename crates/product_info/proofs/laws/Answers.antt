use Rattle.product_info.proofs.FormLemmas.{tasks-read, tasks-spelled}
use Rattle.product_info.proofs.LineLemmas.{requirements-read, requirements-spelled}
use Rattle.product_info.proofs.laws.Goals as goal

pub returns-clause-requirements_read : goal.returns-clause-requirements_read
returns-clause-requirements_read c = requirements-read

pub returns-clause-requirements_spelled : goal.returns-clause-requirements_spelled
returns-clause-requirements_spelled c = requirements-spelled

pub returns-clause-tasks_read : goal.returns-clause-tasks_read
returns-clause-tasks_read c = tasks-read

pub returns-clause-tasks_spelled : goal.returns-clause-tasks_spelled
returns-clause-tasks_spelled c = tasks-spelled
