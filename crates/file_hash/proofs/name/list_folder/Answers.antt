-- What is answered is what is due, and a walk is refused by the limit that is due.
use Rattle.std.proofs.Common.{◌≡◌, sym, subst, rules, Err}
use Rattle.std.specs.Prelude.{IfErr}
use Rattle.world_api.specs.Outside.{tree_of}
use Rattle.file_hash.specs.Naming.{IsChangeAt, IsDue, files_at, listed_of, listed_due}
use Rattle.file_hash.proofs.FolderLemmas.{limit_walk, change_walk, due_refused, listed_answer}
use Rattle.file_hash.proofs.name.list_folder.Goals as goal

pub returns-clause-answer : goal.returns-clause-answer
returns-clause-answer g c = λ told.
    let at = c.args.at.now in
    subst (λ h. IsDue c.list_met.result (listed_due (files_at (tree_of h) at))) (c.find_files.ensures.unchanged told)
    (listed_answer (tree_of (g.F.Ground.history c.find_files.new.files)) at c.list_met.result (c.list_met.ensures.listed told) (c.list_met.ensures.refused told) c.list_met.ensures.text)

pub returns-in_err-met-clause-answer : goal.returns-in_err-met-clause-answer
returns-in_err-met-clause-answer g c = λ told.
    let tree = tree_of (g.F.Ground.history c.args.files.now) in
    let why = c.in_err-met.field-0.0 in
    let e : c.from_residual.result ≡ Err why = search rules in
    subst (λ r. IsDue r (listed_due (files_at tree c.args.at.now))) (sym e)
    (due_refused tree c.args.at.now why (listed_of (files_at tree c.args.at.now)) (limit_walk tree (g.met.F.ReadFiles.stands c.args.files.now told).0 c.args.at.now (c.requires.folder told) why (c.in_err-met.ensures.refused told) c.in_err-met.ensures.kinds))

pub returns-in_err-met-clause-changed : goal.returns-in_err-met-clause-changed
returns-in_err-met-clause-changed g c =
    let why = c.in_err-met.field-0.0 in
    let e : c.from_residual.result ≡ Err why = search rules in
    subst (λ r. IfErr r (IsChangeAt g.F.Ground.tells c.args.at.now)) (sym e) (change_walk g.F.Ground.tells c.args.at.now why c.in_err-met.ensures.kinds)
