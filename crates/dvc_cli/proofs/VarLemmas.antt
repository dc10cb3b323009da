-- Files of variables, from what was read of each.
--     why_read        the refusal of a file
--     files_stop      it is that of all of them
--     files_more      one more file is read
use Rattle.std.proofs.Common.{◌≡◌, ℕ, ◌+◌, ◌<◌, List, [], ◌∷◌, ◌++◌, length, take, get_or, refl, sym, ap, subst, ◌∙◌, inl, inr, Result, Ok, Err, IsTrue}
use Rattle.std.specs.Prelude.{◌⊎◌}
use Rattle.dvc_base.specs.Path.{Path}
use Rattle.dvc_base.specs.Fault.{is_free}
use Rattle.dvc_base.specs.declared.fault.Fault.{Fault}
use Rattle.dvc_base.specs.declared.fault.Fault.TheVariants as f
use Rattle.dvc_base.specs.declared.node.Node.{Node}
use Rattle.params.specs.Read as reading
use Rattle.params.specs.declared.fault.ParamsFault.{ParamsFault}
use Rattle.params.specs.declared.fault.ParamsFault.TheVariants as p
use Rattle.std.proofs.lemmas.Bool.{false≢true}
use Rattle.template_expand.specs.declared.files.VarFile.{VarFile}
use Rattle.repro_laws.specs.Params.{params_answer}
use Rattle.world_api.specs.Tree.{Tree, item_at}
use Rattle.repro_core.proofs.TrackedLemmas.{all_more, fault_here}
use Rattle.workspace_files.specs.Read.{IsRead}
use Rattle.dvc_cli.specs.Vars.{var_of, var_at, vars_at}

memory_free : (fault : Fault) → fault ≡ f.NoMemory → IsTrue (is_free fault)
memory_free fault e = subst (λ (x : Fault). IsTrue (is_free x)) (sym e) refl

free_why : (at : Path) (why : ParamsFault) → IsTrue (reading.is_free why) → IsTrue (is_free (params_answer at why))
free_why at p.Failed h = refl
free_why at p.NoMemory h = refl
free_why at p.NoFile h = absurd (false≢true h)
free_why at (p.Yaml why) h = absurd (false≢true h)
free_why at (p.Schema key) h = absurd (false≢true h)
free_why at (p.Changed told found) h = absurd (false≢true h)
free_why at p.TooLarge h = absurd (false≢true h)

pub why_read : (at : Path) (why : ParamsFault) (fault : Fault) (due : Result Node ParamsFault) → (fault ≡ f.NoMemory) ⊎ (fault ≡ params_answer at why) → reading.IsRead (Err why) due → IsRead {A = VarFile} (Err fault) (var_of at due)
why_read at why fault due (inl none) read = inl (memory_free fault none)
why_read at why fault due (inr e) (inl free) = inl (subst (λ (x : Fault). IsTrue (is_free x)) (sym e) (free_why at why free))
why_read at why fault due (inr e) (inr is) = inr (ap (var_of at) is ∙ ap (λ (x : Fault). Err x) (sym e))

module _ (t : Tree) (paths : List Path) (i : ℕ) (path : Path) (before : i < length paths) (here : path ≡ get_or paths i path) (made : List VarFile) (so_far : vars_at t (take i paths) ≡ Ok made) where
  pub files_stop : (fault : Fault) → IsRead {A = VarFile} (Err fault) (var_at path (item_at t path)) → IsRead {A = List VarFile} (Err fault) (vars_at t paths)
  files_stop fault (inl free) = inl free
  files_stop fault (inr e) =
      inr (fault_here (λ q. var_at q (item_at t q)) (vars_at t) refl (λ x xs. refl) paths i path before here made so_far fault e)

  pub files_more : (file : VarFile) → var_at path (item_at t path) ≡ Ok file → vars_at t (take (i + 1) paths) ≡ Ok (made ++ file ∷ [])
  files_more file e =
      all_more (λ q. var_at q (item_at t q)) (vars_at t) refl (λ x xs. refl) paths i path before here made so_far file e
