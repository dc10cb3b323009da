-- Rules of paths to be ignored. The tool takes none: a file with a rule is refused.
--     is_rule line             a line has a rule: it has more than spaces, and doesn't begin with `#`
--     has_rules text           a line of the text has one
--     ignores_fault t files    the refusal of the first of the files that has one, or that can't be read
use Rattle.std.specs.Prelude.{ℕ, Bool, ◌&&◌, not, nat_eq, ◌==◌, List, [], ◌∷◌, codes, Option, Some, None, Result, Ok, Err, if◌then◌else◌}
use Rattle.std.specs.Option.{option_or}
use Rattle.std.specs.List.{list_all, list_any, starts_with}
use Rattle.std.specs.Str.Lines.{lines}
use Rattle.dvc_base.specs.Path.{Path}
use Rattle.dvc_base.specs.declared.fault.Fault.{Fault}
use Rattle.dvc_base.specs.declared.fault.Fault.TheVariants.{IgnoreRules}
use Rattle.dvc_base.specs.declared.fault.FaultKind.{FaultKind}
use Rattle.dvc_base.specs.declared.fault.FaultKind.TheVariants as k
use Rattle.world_api.specs.Tree.{Tree, Item, item_at}
use Rattle.workspace_files.specs.Read.{text_at, text_kinds}

abbrev pub is_rule : List ℕ → Bool
is_rule line = not (starts_with nat_eq line (codes "#")) && not (list_all (λ b. b == 32) line)

-- lines end with a line feed, or with a carriage return and a line feed
unfoldable pub has_rules : List ℕ → Bool
has_rules text = list_any is_rule (lines text)

abbrev pub rules_fault : Path → List ℕ → Option Fault
rules_fault at text = if has_rules text then Some (IgnoreRules at) else None

abbrev pub ignore_by_text : Path → Result (Option (List ℕ)) Fault → Option Fault
ignore_by_text at (Ok None) = None
ignore_by_text at (Ok (Some text)) = rules_fault at text
ignore_by_text at (Err fault) = Some fault

abbrev pub ignore_fault : Path → Option Item → Option Fault
ignore_fault at item = ignore_by_text at (text_at at item)

abbrev pub ignores_fault : Tree → List Path → Option Fault
ignores_fault t [] = None
ignores_fault t (p ∷ ps) = option_or (ignore_fault p (item_at t p)) (ignores_fault t ps)

-- which faults may come of files of rules
abbrev pub ignore_kinds : List FaultKind
ignore_kinds = k.IgnoreRules ∷ text_kinds

abbrev pub rule_kinds : List FaultKind
rule_kinds = k.NoMemory ∷ k.IgnoreRules ∷ []
