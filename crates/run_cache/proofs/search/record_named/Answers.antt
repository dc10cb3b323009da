-- What isn't spelled as a key is the name of no record.
use Rattle.std.proofs.Common.{◌≡◌, ◌∙◌, false, sym, ap}
use Rattle.dvc_base.specs.RunKey.{are_key_digits}
use Rattle.world_api.specs.Outside.{tree_of}
use Rattle.run_cache.proofs.RecordLemmas.{no_record}
use Rattle.run_cache.proofs.search.record_named.Goals as goal

pub returns-then-not-is_record_name-clause-told : goal.returns-then-not-is_record_name-clause-told
returns-then-not-is_record_name-clause-told g c told =
    let text = c.as_bytes-name.ensures.value ∙ c.as_str.ensures.same in
    let other : are_key_digits c.args.name.now ≡ false = ap are_key_digits (sym text) ∙ sym c.is_record_name.ensures.exact ∙ c.if-not-is_record_name.true in
    sym (no_record (tree_of (g.F.Ground.history c.args.files.now)) c.args.key.now c.args.name.now other)
