-- What was met is listed, and each refusal is the one that is due.
use Rattle.std.proofs.Common.{◌≡◌, sym, subst, rules, Err}
use Rattle.std.specs.Prelude.{IfErr}
use Rattle.world_api.specs.Outside.{tree_of}
use Rattle.file_hash.specs.Naming.{IsChangeAt}
use Rattle.file_hash.specs.Walk.{IsListFault}
use Rattle.file_hash.proofs.FolderLemmas.{told_is, listed_is, size_is, limit_none, limit_text, limit_member, change_member, change_text, listing_made}
use Rattle.file_hash.proofs.name.list_met.Goals as goal

pub members_of-requires : goal.members_of-requires
members_of-requires g c = record {
  told = λ told.
      let tree = tree_of (g.F.Ground.history c.args.files.now) in
      told_is tree c.args.at.now c.args.met.now (g.met.F.ReadFiles.stands c.args.files.now told).0 (c.requires.folder told) (c.requires.walked told) c.as_slice.result.now c.as_slice.ensures.same;
}

pub returns-clause-listed : goal.returns-clause-listed
returns-clause-listed g c = λ told.
    let tree = tree_of (g.F.Ground.history c.args.files.now) in
    let at = c.args.at.now in
    let met = c.args.met.now in
    let is_tree = (g.met.F.ReadFiles.stands c.args.files.now told).0 in
    let here = c.requires.folder told in
    let walked = c.requires.walked told in
    let named = c.in_ok-list.ensures.named told in
    let list = listed_is tree at met is_tree here walked c.as_slice.result.now named.0 c.in_ok-list.list c.as_slice.ensures.same named.1 named.2 in
    record {
      none = limit_none tree at met is_tree here walked c.in_ok-list.list list c.in_ok-text.ensures.exact.1;
      list = list;
      size = size_is tree at met is_tree here walked;
    }

pub returns-clause-good : goal.returns-clause-good
returns-clause-good g c =
    let made = c.in_ok-list.ensures.made in
    listing_made c.args.met.now c.as_slice.result.now made.0 c.in_ok-list.list c.as_slice.ensures.same c.requires.found made.1 made.2

pub returns-in_err-list-clause-refused : goal.returns-in_err-list-clause-refused
returns-in_err-list-clause-refused g c = λ told.
    let tree = tree_of (g.F.Ground.history c.args.files.now) in
    let why = c.in_err-list.field-0.0 in
    let e : c.from_residual.result ≡ Err why = search rules in
    subst (λ r. IfErr r (IsListFault tree c.args.at.now)) (sym e) (limit_member tree g.F.Ground.tells c.args.at.now why told c.in_err-list.ensures.kinds)

pub returns-in_err-list-clause-changed : goal.returns-in_err-list-clause-changed
returns-in_err-list-clause-changed g c =
    let why = c.in_err-list.field-0.0 in
    let e : c.from_residual.result ≡ Err why = search rules in
    subst (λ r. IfErr r (IsChangeAt g.F.Ground.tells c.args.at.now)) (sym e) (change_member g.F.Ground.tells c.args.at.now why c.in_err-list.ensures.kinds)

pub returns-in_err-text-clause-refused : goal.returns-in_err-text-clause-refused
returns-in_err-text-clause-refused g c = λ told.
    let tree = tree_of (g.F.Ground.history c.args.files.now) in
    let at = c.args.at.now in
    let met = c.args.met.now in
    let is_tree = (g.met.F.ReadFiles.stands c.args.files.now told).0 in
    let here = c.requires.folder told in
    let walked = c.requires.walked told in
    let named = c.in_ok-list.ensures.named told in
    let list = listed_is tree at met is_tree here walked c.as_slice.result.now named.0 c.in_ok-list.list c.as_slice.ensures.same named.1 named.2 in
    let why = c.in_err-text.field-0.0 in
    let e : c.from_residual-in_err-text.result ≡ Err why = search rules in
    subst (λ r. IfErr r (IsListFault tree at)) (sym e) (limit_text tree at met is_tree here walked c.in_ok-list.list why list c.in_err-text.ensures.kinds)

pub returns-in_err-text-clause-changed : goal.returns-in_err-text-clause-changed
returns-in_err-text-clause-changed g c =
    let why = c.in_err-text.field-0.0 in
    let e : c.from_residual-in_err-text.result ≡ Err why = search rules in
    subst (λ r. IfErr r (IsChangeAt g.F.Ground.tells c.args.at.now)) (sym e) (change_text g.F.Ground.tells c.args.at.now c.in_ok-list.list why c.in_err-text.ensures.kinds)
