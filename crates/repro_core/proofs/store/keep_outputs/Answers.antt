-- One more output is stored, or is refused.
use Rattle.std.proofs.Common.{rules, ◌≡◌, ◌<◌, ℕ, length, get_or, refl, sym, ap, subst, ◌∙◌, Some, None}
use Rattle.std.proofs.lemmas.Result.{err_from_is_err_and}
use Rattle.repro_laws.specs.Headline.{IsApart}
use Rattle.repro_laws.specs.Moments.{is_own}
use Rattle.repro_laws.specs.declared.stage.Out.{Out}
use Rattle.repro_core.specs.Storing.{put_due}
use Rattle.repro_core.proofs.LimitedLemmas.{PutDue, due_each}
use Rattle.repro_core.proofs.StoredLemmas.{stay_stored, passes_untouched, passes_stored}
use Rattle.repro_core.proofs.StoreLemmas.{each_at, kept_apart, seen_one, seen_later, stored_more, is_one, tells_out}
use Rattle.repro_core.proofs.store.keep_outputs.Goals as goal

pub loop-at-init : goal.loop-at-init
loop-at-init g c = record {
  moments = λ told. passes_untouched (g.F.Ground.history c.args.files.now) (g.F.Ground.history c.args.files.now) refl;
  stored = λ told. tt;
  counted = search rules;
}

pub keep_output-requires-clause-apart : goal.keep_output-requires-clause-apart
keep_output-requires-clause-apart g c =
    let made = c.args.stage.now.made in
    let i = c.loop-at.at in
    let o = c.index-made-at.result in
    let within : i < length made = search rules in
    let is : o ≡ get_or made i o = search rules in
    each_at (λ (x : Out). IsApart is_own x.path) made i o within is (kept_apart c.args.stage.now c.requires.kept)

pub keep_output-requires-clause-seen : goal.keep_output-requires-clause-seen
keep_output-requires-clause-seen g c told =
    let s = c.args.stage.now in
    let i = c.loop-at.at in
    let o = c.index-made-at.result in
    let p = c.index-seen-at.result in
    let seen = c.args.seen.now in
    let old = g.F.Ground.history c.args.files.now in
    let here = g.F.Ground.history c.loop-at.files in
    let within : i < length s.made = search rules in
    let is : o ≡ get_or s.made i o = search rules in
    let before : i < length seen = subst (λ (n : ℕ). i < n) (sym c.requires.length) within in
    let there : p ≡ get_or seen i p = search rules in
    let apart = each_at (λ (x : Out). IsApart is_own x.path) s.made i o within is (kept_apart s c.requires.kept) in
    let moments = c.loop-at.invariant.moments told in
    seen_one old.present.tree s.made seen i o p (c.requires.seen told) within is there
    ∙ seen_later old.present.tree here.present.tree o (stay_stored old.present here.present o.path apart moments.now)

pub keep_output-requires-clause-small : goal.keep_output-requires-clause-small
keep_output-requires-clause-small g c told =
    let s = c.args.stage.now in
    let i = c.loop-at.at in
    let o = c.index-made-at.result in
    let old = g.F.Ground.history c.args.files.now in
    let here = g.F.Ground.history c.loop-at.files in
    let within : i < length s.made = search rules in
    let is : o ≡ get_or s.made i o = search rules in
    let apart = each_at (λ (x : Out). IsApart is_own x.path) s.made i o within is (kept_apart s c.requires.kept) in
    let moments = c.loop-at.invariant.moments told in
    let none = each_at (λ (x : Out). PutDue s old.present.tree x ≡ None) s.made i o within is (due_each s old.present.tree c.requires.stage (c.requires.named told) (c.requires.small told)) in
    ap (put_due s.name o) (stay_stored old.present here.present o.path apart moments.now) ∙ none

pub returns-in_err-keep_output-clause-moments : goal.returns-in_err-keep_output-clause-moments
returns-in_err-keep_output-clause-moments g c told =
    passes_stored (g.F.Ground.history c.args.files.now) (g.F.Ground.history c.loop-at.files) (g.F.Ground.history c.keep_output.new.files) (c.loop-at.invariant.moments told) (c.keep_output.ensures.moments told)

pub returns-in_err-keep_output-clause-told : goal.returns-in_err-keep_output-clause-told
returns-in_err-keep_output-clause-told g c =
    let s = c.args.stage.now in
    let i = c.loop-at.at in
    let o = c.index-made-at.result in
    let within : i < length s.made = search rules in
    let is : o ≡ get_or s.made i o = search rules in
    let fault = c.in_err-keep_output.field-0.0 in
    let exit = err_from_is_err_and c.from_residual.result c.from_residual.ensures.1 in
    rw (exit.1, exit.2) (tells_out s o (Some fault) (is_one s.made i o within is) c.in_err-keep_output.ensures.kinds c.in_err-keep_output.ensures.told)

pub loop-at-preserved : goal.loop-at-preserved
loop-at-preserved g c =
    let s = c.args.stage.now in
    let i = c.loop-at.at in
    let o = c.index-made-at.result in
    let within : i < length s.made = search rules in
    let is : o ≡ get_or s.made i o = search rules in
    let old = g.F.Ground.history c.args.files.now in
    let here = g.F.Ground.history c.loop-at.files in
    let new = g.F.Ground.history c.keep_output.new.files in
    record {
      moments = λ told. passes_stored old here new (c.loop-at.invariant.moments told) (c.keep_output.ensures.moments told);
      stored = λ told.
          let moments = c.keep_output.ensures.moments told in
          stored_more here.present new.present s.made i o within is (kept_apart s c.requires.kept) moments.now (c.loop-at.invariant.stored told) (c.in_ok-keep_output.ensures.stored told);
      counted = search rules;
    }
