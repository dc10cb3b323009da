-- What is seen of a stage in a tree, and what an entry has to do with it.
--     seen_at s ps t             what is seen of a stage, with these parameters
--     entry_at s ps t            the entry that it has; none where one of its values has no name
--     IsPresent e s t            the entry tells what is seen of the stage
--     IsMade effect s t          the effect makes the values at the stage's outputs from those that it reads
--     IsTrueEntry book effect e  contents of the book have the entry's names, and the effect makes its outputs from its dependencies
use Rattle.std.specs.Prelude.{◌≡◌, ℕ, List, [], ◌∷◌, map, Option, Some, None, Ok, ⊤}
use Rattle.dvc_base.specs.declared.data.ParamFile.{ParamFile}
use Rattle.world_api.specs.Tree.{Tree, Value, value_at}
use Rattle.world_api.specs.History.{Book}
use Rattle.world_api.specs.Effect.{Effect, gives, invocation_of}
use Rattle.file_hash.specs.Naming.{named_of}
use Rattle.file_hash.specs.declared.named.Named.{Named}
use Rattle.lock_files.specs.declared.entry.Entry.{Entry}
use Rattle.lock_files.specs.declared.entry.PathEntry.{PathEntry}
use Rattle.change_check.specs.Same.{canonical_files, told_of, seen_of}
use Rattle.change_check.specs.declared.seen.SeenPath.{SeenPath}
use Rattle.change_check.specs.declared.seen.Seen.{Seen}
use Rattle.repro_laws.specs.Book.{IsBooks}
use Rattle.repro_laws.specs.Stage.{dep_value, params_at, job_with, stage_outs}
use Rattle.repro_laws.specs.declared.stage.Dep.{Dep}
use Rattle.repro_laws.specs.declared.stage.Out.{Out}
use Rattle.repro_laws.specs.declared.stage.Stage.{Stage}

-- ---- what is seen

abbrev pub seen_dep : Tree → Dep → SeenPath
seen_dep t d = record { path = d.text; named = named_of (dep_value t d) }

abbrev pub seen_out : Tree → Out → SeenPath
seen_out t o = record { path = o.text; named = named_of (value_at t o.path) }

abbrev pub seen_at : Stage → List ParamFile → Tree → Seen
seen_at s ps t = record {
  commands = s.commands;
  deps = map (seen_dep t) s.deps;
  params = canonical_files ps;
  outs = map (seen_out t) s.made;
}

pub record IsPresent (e : Entry) (s : Stage) (t : Tree) : Type 0 where
  pub params : List ParamFile
  pub read : params_at s t ≡ Ok params
  pub same : seen_of e ≡ seen_at s params t

-- ---- the entry of a stage

abbrev pub path_named : List ℕ → Option Named → Option PathEntry
path_named text None = None
path_named text (Some n) = Some (record { path = text; name = n.name; size = n.size; nfiles = n.nfiles })

abbrev pub in_front : Option PathEntry → Option (List PathEntry) → Option (List PathEntry)
in_front None entries = None
in_front (Some entry) None = None
in_front (Some entry) (Some entries) = Some (entry ∷ entries)

-- each path with its name; none where nothing stands at one of them
abbrev pub all_named : List SeenPath → Option (List PathEntry)
all_named [] = Some []
all_named (p ∷ ps) = in_front (path_named p.path p.named) (all_named ps)

abbrev pub entry_from : List (List ℕ) → List ParamFile → Option (List PathEntry) → Option (List PathEntry) → Option Entry
entry_from commands ps None outs = None
entry_from commands ps (Some deps) None = None
entry_from commands ps (Some deps) (Some outs) = Some (record { commands = commands; deps = deps; params = ps; outs = outs })

-- parameters are written as they stand in their files
abbrev pub entry_at : Stage → List ParamFile → Tree → Option Entry
entry_at s ps t = entry_from s.commands ps (all_named (map (seen_dep t) s.deps)) (all_named (map (seen_out t) s.made))

-- ---- values that the effect makes

pub record IsMade (effect : Effect) (s : Stage) (t : Tree) : Type 0 where
  pub params : List ParamFile
  pub read : params_at s t ≡ Ok params
  pub made : effect (invocation_of (job_with s params) t) ≡ gives (map (value_at t) (stage_outs s))

-- ---- true entries

-- a path entry stands for a value: it is the book's, and has the entry's name
abbrev pub StandsFor : Book → PathEntry → Value → Type 0
StandsFor book p v = IsBooks book v × (named_of v ≡ Some (told_of p))

abbrev pub StandFor : Book → List PathEntry → List Value → Type 0
StandFor book [] [] = ⊤
StandFor book [] (v ∷ vs) = ⊥
StandFor book (p ∷ ps) [] = ⊥
StandFor book (p ∷ ps) (v ∷ vs) = StandsFor book p v × StandFor book ps vs

abbrev pub with_values : List PathEntry → List Value → List (List ℕ × Value)
with_values (p ∷ ps) (v ∷ vs) = (p.path, v) ∷ with_values ps vs
with_values _ _ = []

pub record IsTrueEntry (book : Book) (effect : Effect) (e : Entry) : Type 0 where
  pub ins : List Value
  pub outs : List Value
  pub read : StandFor book e.deps ins
  pub ran : effect (record { commands = e.commands; deps = with_values e.deps ins; params = canonical_files e.params; outs = map (λ p. p.path) e.outs }) ≡ gives outs
  pub wrote : StandFor book e.outs outs
