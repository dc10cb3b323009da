-- One more output is named and stored, or is the first that is refused.
use Rattle.std.proofs.Common.{rules, ◌≡◌, ◌<◌, ◌+◌, ◌++◌, ◌∷◌, ℕ, [], inl, length, take, get_or, map, refl, inr, sym, ap, subst, ◌∙◌, Option, List, Some, None}
use Rattle.std.proofs.lemmas.Result.{err_from_is_err_and}
use Rattle.dvc_base.specs.declared.fault.Fault.{Fault}
use Rattle.world_api.specs.Tree.{Tree, Value, value_at}
use Rattle.file_hash.specs.Naming.{named_of}
use Rattle.lock_files.specs.declared.entry.PathEntry.{PathEntry}
use Rattle.lock_files.specs.Form.{is_path_entry}
use Rattle.std.specs.Prelude.{IsTrue}
use Rattle.repro_laws.specs.Stage.{out_text}
use Rattle.repro_laws.specs.Entries.{path_named}
use Rattle.repro_laws.specs.Headline.{IsApart}
use Rattle.repro_laws.specs.Moments.{is_own}
use Rattle.repro_laws.specs.Sound.{IsAnswerAt}
use Rattle.repro_laws.specs.declared.stage.Out.{Out}
use Rattle.repro_core.specs.Steps.{AreNamed}
use Rattle.repro_core.specs.Storing.{put_due}
use Rattle.repro_core.proofs.StoredLemmas.{stay_stored, passes_untouched, passes_stored}
use Rattle.repro_core.proofs.StoreLemmas.{each_at, each_more, each_whole, first_none, answer_at, named_none, named_more, all_more, kept_apart, stored_more, is_one, tells_out}
use Rattle.repro_core.proofs.store.put_made.Goals as goal

pub loop-at-init : goal.loop-at-init
loop-at-init g c =
    let empty : c.new-outs.result ≡ [] = search rules in
    record {
      moments = λ told. passes_untouched (g.F.Ground.history c.args.files.now) (g.F.Ground.history c.args.files.now) refl;
      due = λ told. tt;
      named = λ told. ap (λ (es : List PathEntry). Some es) (sym empty);
      stored = λ told. tt;
      good = subst (AreNamed []) (sym empty) (named_none c.args.stage.now.made);
      counted = search rules;
    }

pub put_entry-requires : goal.put_entry-requires
put_entry-requires g c =
    let made = c.args.stage.now.made in
    let i = c.loop-at.at in
    let o = c.index-made-at.result in
    let within : i < length made = search rules in
    let is : o ≡ get_or made i o = search rules in
    record { apart = each_at (λ (x : Out). IsApart is_own x.path) made i o within is (kept_apart c.args.stage.now c.requires.kept) }

pub returns-in_err-put_entry-clause-answer : goal.returns-in_err-put_entry-clause-answer
returns-in_err-put_entry-clause-answer g c told =
    let s = c.args.stage.now in
    let i = c.loop-at.at in
    let o = c.index-made-at.result in
    let within : i < length s.made = search rules in
    let is : o ≡ get_or s.made i o = search rules in
    let old = g.F.Ground.history c.args.files.now in
    let here = g.F.Ground.history c.loop-at.files in
    let new = g.F.Ground.history c.put_entry.new.files in
    let fault = c.in_err-put_entry.field-0.0 in
    let apart = each_at (λ (x : Out). IsApart is_own x.path) s.made i o within is (kept_apart s c.requires.kept) in
    let moments = c.loop-at.invariant.moments told in
    let same = stay_stored old.present here.present o.path apart moments.now in
    let answer : IsAnswerAt new.present.tree (Some fault) (put_due s.name o (value_at here.present.tree o.path)) = c.in_err-put_entry.ensures.answer told in
    let exit = err_from_is_err_and c.from_residual.result c.from_residual.ensures.1 in
    rw (exit.1, exit.2) (answer_at new.present.tree (λ (x : Out). put_due s.name x (value_at old.present.tree x.path)) s.made i o fault within is (c.loop-at.invariant.due told) (subst (λ (v : Value). IsAnswerAt new.present.tree (Some fault) (put_due s.name o v)) same answer))

pub returns-in_err-put_entry-clause-moments : goal.returns-in_err-put_entry-clause-moments
returns-in_err-put_entry-clause-moments g c told =
    passes_stored (g.F.Ground.history c.args.files.now) (g.F.Ground.history c.loop-at.files) (g.F.Ground.history c.put_entry.new.files) (c.loop-at.invariant.moments told) (c.put_entry.ensures.moments told)

pub returns-in_err-put_entry-clause-told : goal.returns-in_err-put_entry-clause-told
returns-in_err-put_entry-clause-told g c =
    let s = c.args.stage.now in
    let i = c.loop-at.at in
    let o = c.index-made-at.result in
    let within : i < length s.made = search rules in
    let is : o ≡ get_or s.made i o = search rules in
    let fault = c.in_err-put_entry.field-0.0 in
    let exit = err_from_is_err_and c.from_residual.result c.from_residual.ensures.1 in
    rw (exit.1, exit.2) (tells_out s o (Some fault) (is_one s.made i o within is) c.in_err-put_entry.ensures.kinds c.in_err-put_entry.ensures.told)

pub returns-in_err-push-clause-moments : goal.returns-in_err-push-clause-moments
returns-in_err-push-clause-moments g c told =
    passes_stored (g.F.Ground.history c.args.files.now) (g.F.Ground.history c.loop-at.files) (g.F.Ground.history c.put_entry.new.files) (c.loop-at.invariant.moments told) (c.put_entry.ensures.moments told)

none_due : (name : List ℕ) (o : Out) (t u : Value) → u ≡ t → put_due name o u ≡ None → put_due name o t ≡ None
none_due name o t u e none = ap (put_due name o) (sym e) ∙ none

answer_none : (t : Tree) (due : Option Fault) → IsAnswerAt t None due → due ≡ None
answer_none t due (inl none) = none
answer_none t due (inr barred) = absurd barred

named_by : (text : List ℕ) (t u : Value) (e : PathEntry) → u ≡ t → path_named text (named_of u) ≡ Some e → path_named text (named_of t) ≡ Some e
named_by text t u e same named = ap (λ (v : Value). path_named text (named_of v)) (sym same) ∙ named

pub loop-at-preserved : goal.loop-at-preserved
loop-at-preserved g c =
    let s = c.args.stage.now in
    let i = c.loop-at.at in
    let o = c.index-made-at.result in
    let within : i < length s.made = search rules in
    let is : o ≡ get_or s.made i o = search rules in
    let old = g.F.Ground.history c.args.files.now in
    let here = g.F.Ground.history c.loop-at.files in
    let new = g.F.Ground.history c.put_entry.new.files in
    let entry = c.in_ok-put_entry.field-0 in
    let outs = c.loop-at.outs in
    let pushed : c.push.new.self ≡ outs ++ entry ∷ [] = search rules in
    let good : (entry.path ≡ o.text) × IsTrue (is_path_entry entry) = c.in_ok-put_entry.ensures.good in
    let aparts = kept_apart s c.requires.kept in
    let apart = each_at (λ (x : Out). IsApart is_own x.path) s.made i o within is aparts in
    record {
      moments = λ told. passes_stored old here new (c.loop-at.invariant.moments told) (c.put_entry.ensures.moments told);
      due = λ told.
          let moments = c.loop-at.invariant.moments told in
          let same = stay_stored old.present here.present o.path apart moments.now in
          let none = answer_none new.present.tree (put_due s.name o (value_at here.present.tree o.path)) (c.in_ok-put_entry.ensures.answer told) in
          each_more (λ (x : Out). put_due s.name x (value_at old.present.tree x.path) ≡ None) s.made i o within is (c.loop-at.invariant.due told) (none_due s.name o (value_at old.present.tree o.path) (value_at here.present.tree o.path) same none);
      named = λ told.
          let moments = c.loop-at.invariant.moments told in
          let same = stay_stored old.present here.present o.path apart moments.now in
          all_more old.present.tree s.made i o outs entry within is (c.loop-at.invariant.named told) (named_by o.text (value_at old.present.tree o.path) (value_at here.present.tree o.path) entry same (c.in_ok-put_entry.ensures.named told))
          ∙ ap (λ (es : List PathEntry). Some es) (sym pushed);
      stored = λ told.
          let moments = c.put_entry.ensures.moments told in
          stored_more here.present new.present s.made i o within is aparts moments.now (c.loop-at.invariant.stored told) (c.in_ok-put_entry.ensures.stored told);
      good = subst (AreNamed (map out_text (take (i + 1) s.made))) (sym pushed) (named_more s.made i o outs entry within is good.0 good.1 c.loop-at.invariant.good);
      counted = search rules;
    }

pub returns-clause-answer : goal.returns-clause-answer
returns-clause-answer g c told =
    let s = c.args.stage.now in
    let i = c.loop-at.at in
    let end : i ≡ length s.made = search rules in
    let old = g.F.Ground.history c.args.files.now in
    let due : Out → Option Fault = λ (x : Out). put_due s.name x (value_at old.present.tree x.path) in
    inl (first_none due s.made (each_whole (λ (x : Out). due x ≡ None) s.made i end (c.loop-at.invariant.due told)))
