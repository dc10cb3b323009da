use Rattle.std.proofs.Common.{sym, ◌∙◌}
use Rattle.yaml_nodes.specs.Document.{parse}
use Rattle.yaml_nodes.proofs.GrammarLaw.{document_sound, document_complete, yaml_sound, yaml_complete}
use Rattle.yaml_nodes.proofs.law.grammar_law.Goals as goal

pub returns-clause-some : goal.returns-clause-some
returns-clause-some c = λ bytes. (parse bytes, yaml_complete bytes)

pub returns-clause-one : goal.returns-clause-one
returns-clause-one c = λ bytes o p h k. sym (yaml_sound bytes o h) ∙ yaml_sound bytes p k

pub returns-clause-sound : goal.returns-clause-sound
returns-clause-sound c = yaml_sound

pub returns-clause-complete : goal.returns-clause-complete
returns-clause-complete c = yaml_complete

pub returns-clause-document_sound : goal.returns-clause-document_sound
returns-clause-document_sound c = document_sound

pub returns-clause-document_complete : goal.returns-clause-document_complete
returns-clause-document_complete c = document_complete
