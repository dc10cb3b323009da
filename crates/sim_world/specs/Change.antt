-- The changes of a world in memory, and the history that they make.
--     changed c m        the moment after a change
--     replay h cs        the history after changes, each of which is one moment
use Rattle.std.specs.Prelude.{◌≡◌, ℕ, ◌++◌, Bool, false, not, ◌&&◌, ◌||◌, List, [], ◌∷◌, map, Some}
use Rattle.dvc_base.specs.Path.{Path, under}
use Rattle.world_api.specs.Tree.{Tree, Value as Told, value_at}
use Rattle.world_api.specs.Effect.{Effect, given_values, out_paths, is_in_any}
use Rattle.world_api.specs.History.{Moment, History, ran_too}
use Rattle.world_api.specs.Layout.{lane_path}
use Rattle.world_api.specs.Writes.{is_at}
use Rattle.world_api.specs.declared.job.Job.{Job}
use Rattle.sim_world.specs.Answer.{told}
use Rattle.sim_world.specs.Book.{book_of, with_met}
use Rattle.sim_world.specs.Edits.{without, edited_tree, is_edited, left_tree, made_tree, published_tree}
use Rattle.sim_world.specs.declared.value.Value.{Value}
use Rattle.sim_world.specs.declared.change.Change.{Change}
use Rattle.sim_world.specs.declared.change.Change.TheVariants.{Edited, Cleared, Started, Left, Ran, FolderMade, Written, Settled, Published, Met}

-- loose as before, but for an area
abbrev pub settled : (Path → Bool) → (Path → Bool) → Path → Bool
settled area loose p = not (area p) && loose p

abbrev pub loosened : (Path → Bool) → (Path → Bool) → Path → Bool
loosened area loose p = area p || loose p

abbrev pub edited : Path → Value → Moment → Moment
edited at value m = record m {
  tree = edited_tree at value m.tree;
  loose = settled (is_edited at value m.tree) m.loose;
  aside = with_met (told value ∷ []) m.aside;
}

abbrev pub cleared : Path → Moment → Moment
cleared at m = record m { tree = without at m.tree; loose = settled (under at) m.loose }

-- the values at a job's dependencies
abbrev pub dep_values : Job → Tree → List Told
dep_values job t = map (λ d. d.1) (given_values t job.dir job.deps)

abbrev pub started : Job → Moment → Moment
started job m = record m {
  loose = loosened (is_in_any (out_paths job)) m.loose;
  aside = with_met (dep_values job m.tree) m.aside;
}

abbrev pub left : Path → Value → Moment → Moment
left at value m = record m {
  tree = left_tree at value m.tree;
  loose = loosened (under at) m.loose;
  aside = with_met (told value ∷ []) m.aside;
}

abbrev pub with_job : Job → Moment → Moment
with_job job m = record m { aside = record m.aside { fixed = ran_too job m.aside.fixed } }

abbrev pub made : Path → Moment → Moment
made at m = record m { tree = made_tree at m.tree; loose = settled (is_at at) m.loose }

abbrev pub written : ℕ → Value → Moment → Moment
written lane value m = record m {
  tree = left_tree (lane_path lane) value m.tree;
  loose = loosened (under (lane_path lane)) m.loose;
}

abbrev pub made_firm : ℕ → Moment → Moment
made_firm lane m = record m { loose = settled (under (lane_path lane)) m.loose }

abbrev pub published : ℕ → Path → Value → Moment → Moment
published lane at value m = record m {
  tree = published_tree (lane_path lane) at value m.tree;
  loose = settled (under at) m.loose;
  aside = with_met (told value ∷ []) m.aside;
}

abbrev pub met_at : Path → Moment → Moment
met_at at m = record m { aside = with_met (value_at m.tree at ∷ []) m.aside }

abbrev pub changed : Change → Moment → Moment
changed (Edited at value) m = edited at value m
changed (Cleared at) m = cleared at m
changed (Started job) m = started job m
changed (Left at value) m = left at value m
changed (Ran job) m = with_job job m
changed (FolderMade at) m = made at m
changed (Written lane value) m = written lane value m
changed (Settled lane) m = made_firm lane m
changed (Published lane at value) m = published lane at value m
changed (Met at) m = met_at at m

-- one moment more
abbrev pub grown : (Moment → Moment) → History → History
grown change h = record { present = change h.present; past = h.present ∷ h.past; under = h.under }

abbrev pub replay : History → List Change → History
replay h [] = h
replay h (c ∷ cs) = replay (grown (changed c) h) cs

-- a world as it begins: nothing is loose, nothing has run, and what stands was met
abbrev pub opened : Effect → Tree → Moment
opened effect t = record { tree = t; loose = λ p. false; aside = record { fixed = record { ran = []; effect = Some effect }; book = book_of t } }

abbrev pub history_of : Effect → Tree → List Change → History
history_of effect t cs = replay (record { present = opened effect t; past = []; under = [] }) cs

-- some changes were made, and the next one was refused
pub record IsFront (cs : List Change) (old new : History) : Type 0 where
  pub front : List Change
  pub refused : Change
  pub rest : List Change
  pub parts : cs ≡ front ++ refused ∷ rest
  pub made : new ≡ replay old front
