-- The record is put at its place, which lies in `.dvc` and is no lane's.
use Rattle.std.proofs.Common.{◌≡◌, true, refl, sym, subst, Some}
use Rattle.dvc_base.specs.Path.{Path, under}
use Rattle.world_api.specs.Calls.{parent}
use Rattle.world_api.specs.Layout.{dvc_path}
use Rattle.world_api.specs.Writes.{IsNoScratch, IsNewFile}
use Rattle.object_cache.proofs.GiveLemmas.{passes_still}
use Rattle.object_cache.proofs.PutLemmas.{on_ok}
use Rattle.run_cache.specs.Records.{record_text, key_of_canonical, record_path}
use Rattle.run_cache.specs.Find.{IsFindable}
use Rattle.run_cache.proofs.PathLemmas.{in_dvc, no_scratch}
use Rattle.run_cache.proofs.RecordLemmas.{kept_by}
use Rattle.run_cache.proofs.store.keep.Goals as goal

pub returns-in_err-path-clause-moments : goal.returns-in_err-path-clause-moments
returns-in_err-path-clause-moments g c told =
    let e = c.args.entry.now in
    let h = g.F.Ground.history c.args.files.now in
    passes_still (record_path e) (Some (record_text e)) h h refl

pub put_text-requires-clause-apart : goal.put_text-requires-clause-apart
put_text-requires-clause-apart g c =
    subst IsNoScratch (sym c.in_ok-path.ensures.exact) (no_scratch (key_of_canonical c.in_ok-canonical.canonical) c.in_ok-text.text)

pub put_text-requires-clause-inside : goal.put_text-requires-clause-inside
put_text-requires-clause-inside g c =
    subst (λ (p : Path). under dvc_path (parent p) ≡ true) (sym c.in_ok-path.ensures.exact) (in_dvc (key_of_canonical c.in_ok-canonical.canonical) c.in_ok-text.text)

pub returns-clause-findable : goal.returns-clause-findable
returns-clause-findable g c told =
    let e = c.args.entry.now in
    let n = (g.F.Ground.history c.put_text.new.files).present in
    on_ok c.put_text.result (IsNewFile c.in_ok-path.path c.as_slice.result.now n) (IsFindable e n.tree)
    (λ h. kept_by n.tree e c.in_ok-canonical.canonical c.in_ok-text.text c.as_slice.result.now c.in_ok-path.path c.requires c.in_ok-canonical.ensures.exact c.in_ok-text.ensures.exact c.in_ok-text.ensures.read_back c.as_slice.ensures.same c.in_ok-path.ensures.exact h.stands)
    (c.put_text.ensures.put told)
