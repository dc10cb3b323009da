use Rattle.dvc_config.proofs.UrlLemmas.{last_url}
use Rattle.dvc_config.proofs.law.url_law.Goals as goal

pub returns : goal.returns
returns c = record { last = last_url }
