-- Values in form, which are printed and read back.
--     IsEntry e       a command; path entries with distinct paths and parameters, each list in order
--     IsTrack t       path entries with distinct paths, and other pairs
--     IsBook book     distinct stages, each with an entry in form
-- Numbers among the parameters and in the other pairs have to be spelled as their kind and value are (`IsSound`), and 59 collections
-- may stand in one another in a parameter, 63 in another pair, so that the whole has at most 64.
use Rattle.std.specs.Prelude.{◌≡◌, ℕ, ◌<◌, ◌^◌, Bool, true, false, not, ◌&&◌, List, [], ◌∷◌, ◌++◌, length, map, Option, Some, None, IsTrue, nat_lt, codes}
use Rattle.std.specs.List.{list_all}
use Rattle.dvc_base.specs.Name.{are_digits}
use Rattle.dvc_base.specs.declared.data.ParamFile.{ParamFile}
use Rattle.dvc_base.specs.declared.node.Pair.{Pair}
use Rattle.yaml_nodes.specs.Part.{key_of}
use Rattle.yaml_print.specs.Print.{value_of}
use Rattle.yaml_print.specs.Sound.{Each, are_new, IsSound}
use Rattle.lock_files.specs.declared.entry.PathEntry.{PathEntry}
use Rattle.lock_files.specs.declared.entry.Entry.{Entry}
use Rattle.lock_files.specs.declared.entry.Track.{Track}
use Rattle.lock_files.specs.Mapping.{has}
use Rattle.lock_files.specs.Order.{is_rising}
use Rattle.lock_files.specs.Refused.{is_among}
use Rattle.lock_files.specs.Value.{path_at, is_other_key}
use Rattle.lock_files.specs.Book.{Lock, is_lock}

-- the number of files stands exactly beside the name of a folder
abbrev pub is_count : Bool → Option ℕ → Bool
is_count dir None = not dir
is_count dir (Some n) = dir && nat_lt n (2 ^ 64)

abbrev pub is_path_entry : PathEntry → Bool
is_path_entry e = are_digits e.name.digits && (nat_lt e.size (2 ^ 64) && is_count e.name.dir e.nfiles)

abbrev pub are_paths : List PathEntry → Bool
are_paths es = list_all is_path_entry es && is_rising (map path_at es)

-- keys in order, each with a value that stands under five collections
pub record IsKeyed (ps : List Pair) : Type 0 where
  pub rising : IsTrue (is_rising (map key_of ps))
  pub sound : Each (λ p. IsSound 59 (value_of p)) ps

abbrev pub file_at : ParamFile → List ℕ
file_at f = f.file

pub record IsEntry (e : Entry) : Type 0 where
  pub commands : 0 < length e.commands
  pub deps : IsTrue (are_paths e.deps)
  pub files : IsTrue (is_rising (map file_at e.params))
  pub keys : Each (λ f. IsKeyed f.keys) e.params
  pub outs : IsTrue (are_paths e.outs)

-- none of the texts stands before it, nor among `before`
abbrev pub are_distinct : List (List ℕ) → List (List ℕ) → Bool
are_distinct before [] = true
are_distinct before (text ∷ texts) = not (is_among text before) && are_distinct (before ++ text ∷ []) texts

pub record IsTrack (t : Track) : Type 0 where
  pub some : 0 < length t.outs
  pub outs : IsTrue (list_all is_path_entry t.outs)
  pub paths : IsTrue (are_distinct [] (map path_at t.outs))
  pub others : IsTrue (list_all is_other_key t.rest)
  pub no_deps : has (codes "deps") t.rest ≡ false
  pub no_wdir : has (codes "wdir") t.rest ≡ false
  pub keys : IsTrue (are_new [] t.rest)
  pub sound : Each (λ p. IsSound 63 (value_of p)) t.rest

pub record IsBook (book : Lock) : Type 0 where
  pub names : IsTrue (is_lock book)
  pub entries : Each (λ s. IsEntry s.1) book
