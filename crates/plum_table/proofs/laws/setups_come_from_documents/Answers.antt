use Rattle.plum_table.proofs.Walked.{not_toml}
use Rattle.plum_table.proofs.laws.setups_come_from_documents.Goals as goal

pub returns : goal.returns
returns c = record { not_toml = not_toml }
