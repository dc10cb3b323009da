-- The entries of what was seen, and the path of the lock.
--     no_gap             what has entries has a name at each path
--     entries_more       one more path has its entry
--     no_scratch         the lock's path lies apart from the folders and files on the way to it
use Rattle.std.proofs.Common.{◌≡◌, ◌<◌, ◌+◌, ℕ, zero, suc, List, [], ◌∷◌, ◌++◌, length, take, get_or, refl, sym, ap, subst, ◌∙◌, arith, Option, Some, None}
use Rattle.std.proofs.lemmas.List.{take_more}
use Rattle.dvc_base.specs.Path.{Path}
use Rattle.world_api.specs.Writes.{IsNoScratch}
use Rattle.world_api.specs.Layout.{dvc_path, tmp_path, lock_path}
use Rattle.lock_files.specs.declared.entry.PathEntry.{PathEntry}
use Rattle.change_check.specs.declared.seen.SeenPath.{SeenPath}
use Rattle.file_hash.specs.declared.named.Named.{Named}
use Rattle.repro_laws.specs.Entries.{path_named, in_front, all_named}
use Rattle.repro_core.proofs.StoreLemmas.{named_last}

-- ---- entries of what is seen

first_gap : (text : List ℕ) (n : Option Named) (rest : Option (List PathEntry)) (es : List PathEntry) → n ≡ None → in_front (path_named text n) rest ≡ Some es → ⊥
first_gap text None rest es none e = absurd (cc)
first_gap text (Some n) rest es none e = absurd (cc)

rest_named : (a : Option PathEntry) (rest : Option (List PathEntry)) (es : List PathEntry) → in_front a rest ≡ Some es → (more : List PathEntry) × (rest ≡ Some more)
rest_named None rest es e = absurd (cc)
rest_named (Some x) None es e = absurd (cc)
rest_named (Some x) (Some more) es e = (more, refl)

-- whatever stands for a place past the end
same_item : {A : Type 0} (xs : List A) (i : ℕ) (d e : A) → i < length xs → get_or xs i d ≡ get_or xs i e
same_item [] i d e l = absurd (omega arith)
same_item (x ∷ xs) zero d e l = refl
same_item (x ∷ xs) (suc i) d e l = same_item xs i d e (omega arith)

pub no_gap : (seen : List SeenPath) (i : ℕ) (d : SeenPath) (es : List PathEntry) → i < length seen → all_named seen ≡ Some es → (get_or seen i d).named ≡ None → ⊥
no_gap [] i d es l e none = absurd (omega arith)
no_gap (q ∷ seen) zero d es l e none = first_gap q.path q.named (all_named seen) es none e
no_gap (q ∷ seen) (suc i) d es l e none =
    let rest = rest_named (path_named q.path q.named) (all_named seen) es e in
    no_gap seen i d rest.0 (omega arith) rest.1 none

pub entries_more : (seen : List SeenPath) (i : ℕ) (d p : SeenPath) (n : Named) (es : List PathEntry) (e : PathEntry) → i < length seen → (get_or seen i d).named ≡ Some n → all_named (take i seen) ≡ Some es → path_named (get_or seen i p).path (Some n) ≡ Some e → all_named (take (i + 1) seen) ≡ Some (es ++ e ∷ [])
entries_more seen i d p n es e l named so_far here =
    let x = get_or seen i p in
    let same : x.named ≡ Some n = ap (λ (y : SeenPath). y.named) (same_item seen i p d l) ∙ named in
    ap all_named (take_more seen i p l) ∙ named_last (take i seen) x es e so_far (ap (path_named x.path) same ∙ here)

-- ---- the lock's path

lock_no_scratch : IsNoScratch lock_path
unfolding lock_path dvc_path tmp_path
lock_no_scratch = record { no_dvc = λ e. absurd (cc); no_tmp = refl }

pub no_scratch : (at : Path) → at ≡ lock_path → IsNoScratch at
no_scratch at e = subst IsNoScratch (sym e) lock_no_scratch
