-- As what nodes that were made are read.
--     pairs_made, items_made, text_made, scalar_made, number_made
--     Says ps e          the pairs say this path entry, and nothing that is refused
--     path_says, out_says      those of a path entry in a lock and in a track file
use Rattle.std.proofs.Common.{◌≡◌, ℕ, ◌^◌, Bool, true, false, not, ◌&&◌, List, Option, Some, None, codes, refl, ap, ◌∙◌, nat_lt}
use Rattle.std.specs.Prelude.{pos, option_and_then, is_some}
use Rattle.std.specs.Fmt.{decimal}
use Rattle.std.proofs.lemmas.Bool.{and_parts, cond-true, false≢true}
use Rattle.dvc_base.specs.Name.{ObjectName, name_text, name_in, are_digits}
use Rattle.dvc_base.proofs.NameLemmas.{name_in-text}
use Rattle.dvc_base.specs.declared.node.Node.{Node}
use Rattle.dvc_base.specs.declared.node.Node.TheVariants as nd
use Rattle.dvc_base.specs.declared.node.Pair.{Pair}
use Rattle.yaml_print.proofs.NodeCases.{out_text, out_whole, out_items, out_pairs}
use Rattle.lock_files.specs.declared.entry.PathEntry.{PathEntry}
use Rattle.lock_files.specs.Mapping.{pairs_of, items_of, text_of, scalar_of, number_of, pairs_in, items_in, text_in, scalar_in, number_in, has, text_at, number_at, is_bool_at}
use Rattle.lock_files.specs.Refused.{name_at, has_count_by}
use Rattle.lock_files.specs.Nodes.{number_node, path_pairs, out_pairs as made_out_pairs}
use Rattle.lock_files.specs.Form.{is_count, is_path_entry}

pub pairs_made : (ps : List Pair) → pairs_in (nd.Pairs ps) ≡ Some ps
pairs_made ps = ap pairs_of (out_pairs ps)

pub items_made : (vs : List Node) → items_in (nd.Items vs) ≡ Some vs
items_made vs = ap items_of (out_items vs)

pub text_made : (t : List ℕ) → text_in (nd.Text t) ≡ Some t
text_made t = ap text_of (out_text t)

pub scalar_made : (t : List ℕ) → scalar_in (nd.Text t) ≡ Some t
scalar_made t = ap scalar_of (out_text t)

pub number_made : (n : ℕ) → nat_lt n (2 ^ 64) ≡ true → number_in (number_node n) ≡ Some n
number_made n h = ap number_of (out_whole (pos n) (decimal n)) ∙ cond-true (nat_lt n (2 ^ 64)) (Some n) None h

-- ---- path entries

pub record Says (ps : List Pair) (e : PathEntry) : Type 0 where
  pub there : has (codes "hash") ps ≡ true
  pub hash : text_at (codes "hash") ps ≡ Some (codes "md5")
  pub cache : has (codes "cache") ps ≡ false
  pub remote : has (codes "remote") ps ≡ false
  pub persist : is_bool_at (codes "persist") true ps ≡ false
  pub push : is_bool_at (codes "push") false ps ≡ false
  pub path : text_at (codes "path") ps ≡ Some e.path
  pub name : name_at ps ≡ Some e.name
  pub size : number_at (codes "size") ps ≡ Some e.size
  pub count : has_count_by e.name.dir ps ≡ true
  pub nfiles : number_at (codes "nfiles") ps ≡ e.nfiles

pub record Parts (e : PathEntry) : Type 0 where
  pub digits : are_digits e.name.digits ≡ true
  pub size : nat_lt e.size (2 ^ 64) ≡ true
  pub count : is_count e.name.dir e.nfiles ≡ true

pub parts_of : (e : PathEntry) → is_path_entry e ≡ true → Parts e
parts_of e h =
    let first = and_parts (are_digits e.name.digits) (nat_lt e.size (2 ^ 64) && is_count e.name.dir e.nfiles) h in
    let rest = and_parts (nat_lt e.size (2 ^ 64)) (is_count e.name.dir e.nfiles) first.1 in
    record { digits = first.0; size = rest.0; count = rest.1 }

name_made : (name : ObjectName) → are_digits name.digits ≡ true → option_and_then name_in (scalar_in (nd.Text (name_text name))) ≡ Some name
name_made name h = ap (option_and_then name_in) (scalar_made (name_text name)) ∙ name_in-text name h

-- without `nfiles`, and with it, for each order of the pairs
no_count : (dir : Bool) (ps : List Pair) → has (codes "nfiles") ps ≡ false → is_count dir None ≡ true → has_count_by dir ps ≡ true
no_count true ps h k = absurd (false≢true k)
no_count false ps h k = ap not h

a_count : (dir : Bool) (ps : List Pair) (n : ℕ) → number_at (codes "nfiles") ps ≡ Some n → is_count dir (Some n) ≡ true → has_count_by dir ps ≡ true
a_count true ps n h k = ap is_some h
a_count false ps n h k = absurd (false≢true k)

pub counted : (dir : Bool) (n : ℕ) → is_count dir (Some n) ≡ true → nat_lt n (2 ^ 64) ≡ true
counted dir n h = (and_parts dir (nat_lt n (2 ^ 64)) h).1

path_says_none : (path : List ℕ) (name : ObjectName) (size : ℕ) → (let e : PathEntry = record { path = path; name = name; size = size; nfiles = None } in Parts e → Says (path_pairs e) e)
path_says_none path name size p =
    let e : PathEntry = record { path = path; name = name; size = size; nfiles = None } in
    record {
      there = refl;
      hash = text_made (codes "md5");
      cache = refl;
      remote = refl;
      persist = refl;
      push = refl;
      path = text_made path;
      name = name_made name p.digits;
      size = number_made size p.size;
      count = no_count name.dir (path_pairs e) refl p.count;
      nfiles = refl;
    }

path_says_some : (path : List ℕ) (name : ObjectName) (size n : ℕ) → (let e : PathEntry = record { path = path; name = name; size = size; nfiles = Some n } in Parts e → Says (path_pairs e) e)
path_says_some path name size n p =
    let e : PathEntry = record { path = path; name = name; size = size; nfiles = Some n } in
    let number = number_made n (counted name.dir n p.count) in
    record {
      there = refl;
      hash = text_made (codes "md5");
      cache = refl;
      remote = refl;
      persist = refl;
      push = refl;
      path = text_made path;
      name = name_made name p.digits;
      size = number_made size p.size;
      count = a_count name.dir (path_pairs e) n number p.count;
      nfiles = number;
    }

path_says_by : (path : List ℕ) (name : ObjectName) (size : ℕ) (nfiles : Option ℕ) → (let e : PathEntry = record { path = path; name = name; size = size; nfiles = nfiles } in Parts e → Says (path_pairs e) e)
path_says_by path name size None p = path_says_none path name size p
path_says_by path name size (Some n) p = path_says_some path name size n p

pub path_says : (e : PathEntry) → is_path_entry e ≡ true → Says (path_pairs e) e
path_says e h = path_says_by e.path e.name e.size e.nfiles (parts_of e h)

out_says_none : (path : List ℕ) (name : ObjectName) (size : ℕ) → (let e : PathEntry = record { path = path; name = name; size = size; nfiles = None } in Parts e → Says (made_out_pairs e) e)
out_says_none path name size p =
    let e : PathEntry = record { path = path; name = name; size = size; nfiles = None } in
    record {
      there = refl;
      hash = text_made (codes "md5");
      cache = refl;
      remote = refl;
      persist = refl;
      push = refl;
      path = text_made path;
      name = name_made name p.digits;
      size = number_made size p.size;
      count = no_count name.dir (made_out_pairs e) refl p.count;
      nfiles = refl;
    }

out_says_some : (path : List ℕ) (name : ObjectName) (size n : ℕ) → (let e : PathEntry = record { path = path; name = name; size = size; nfiles = Some n } in Parts e → Says (made_out_pairs e) e)
out_says_some path name size n p =
    let e : PathEntry = record { path = path; name = name; size = size; nfiles = Some n } in
    let number = number_made n (counted name.dir n p.count) in
    record {
      there = refl;
      hash = text_made (codes "md5");
      cache = refl;
      remote = refl;
      persist = refl;
      push = refl;
      path = text_made path;
      name = name_made name p.digits;
      size = number_made size p.size;
      count = a_count name.dir (made_out_pairs e) n number p.count;
      nfiles = number;
    }

out_says_by : (path : List ℕ) (name : ObjectName) (size : ℕ) (nfiles : Option ℕ) → (let e : PathEntry = record { path = path; name = name; size = size; nfiles = nfiles } in Parts e → Says (made_out_pairs e) e)
out_says_by path name size None p = out_says_none path name size p
out_says_by path name size (Some n) p = out_says_some path name size n p

pub out_says : (e : PathEntry) → is_path_entry e ≡ true → Says (made_out_pairs e) e
out_says e h = out_says_by e.path e.name e.size e.nfiles (parts_of e h)
