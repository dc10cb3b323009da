-- What is written is the lock's text, at the lock's path, and is read as this lock.
use Rattle.std.proofs.Common.{◌≡◌, ◌∙◌, ℕ, List, Ok, inl, inr, sym, ap, subst, rules}
use Rattle.dvc_base.specs.Path.{Path}
use Rattle.world_api.specs.History.{Moment, History, Passes}
use Rattle.world_api.specs.Layout.{lock_path}
use Rattle.world_api.specs.Writes.{InWrite}
use Rattle.world_api.proofs.HistoryLemmas.{passes_weaker}
use Rattle.yaml_print.specs.Print.{print_text}
use Rattle.lock_files.specs.Book.{Lock, set}
use Rattle.lock_files.specs.Form.{IsBook}
use Rattle.lock_files.specs.Nodes.{lock_node}
use Rattle.lock_files.specs.Read.{lock_read}
use Rattle.repro_core.proofs.RecordLemmas.{no_scratch}
use Rattle.repro_core.specs.Steps.{InRecord}
use Rattle.lock_files.proofs.TextLemmas.{book_set}
use Rattle.repro_core.proofs.record.record.Goals as goal

written_at : (p q : Path) (x y : List ℕ) (a b : History) → p ≡ q → x ≡ y → Passes (InWrite p x a.present) a b → Passes (InWrite q y a.present) a b
written_at p q x y a b here same h =
    subst (λ (r : Path). Passes (InWrite r y a.present) a b) here (subst (λ (z : List ℕ). Passes (InWrite p z a.present) a b) same h)

new_lock : (lock : Lock) (m n : Moment) → lock_read (print_text (lock_node lock)) ≡ Ok lock → InWrite lock_path (print_text (lock_node lock)) m n → InRecord lock m n
new_lock lock m n read write = record {
  path = elim write.path [
    | inl same ↦ inl same
    | inr file ↦ inr (record { file = file; read_back = read })
  ];
  dvc = write.dvc;
  others = write.others;
}

recorded : (lock : Lock) (text : List ℕ) (at : Path) (a b : History) → text ≡ print_text (lock_node lock) → lock_read text ≡ Ok lock → at ≡ lock_path → Passes (InWrite at text a.present) a b → Passes (InRecord lock a.present) a b
recorded lock text at a b same read here h =
    let printed = print_text (lock_node lock) in
    let back : lock_read printed ≡ Ok lock = subst (λ (t : List ℕ). lock_read t ≡ Ok lock) same read in
    passes_weaker (InWrite lock_path printed a.present) (InRecord lock a.present) a b (λ n w. new_lock lock a.present n back w) (written_at at lock_path text printed a b here same h)

pub write_bytes-requires-clause-apart : goal.write_bytes-requires-clause-apart
write_bytes-requires-clause-apart g c = no_scratch c.args.at.now c.requires.at

pub print_lock-requires : goal.print_lock-requires
print_lock-requires g c =
    let lock = set c.args.lock.now c.args.name.now c.args.entry in
    let is : c.set.new.self ≡ lock = search rules in
    subst IsBook (sym is) (book_set c.args.lock.now c.args.name.now c.args.entry c.requires.form c.requires.entry)

pub returns-in_err-text-clause-form : goal.returns-in_err-text-clause-form
returns-in_err-text-clause-form g c =
    let lock = set c.args.lock.now c.args.name.now c.args.entry in
    let is : c.set.new.self ≡ lock = search rules in
    subst IsBook (sym is) (book_set c.args.lock.now c.args.name.now c.args.entry c.requires.form c.requires.entry)

pub returns-in-Ok-clause-form : goal.returns-in-Ok-clause-form
returns-in-Ok-clause-form g c =
    let lock = set c.args.lock.now c.args.name.now c.args.entry in
    let is : c.set.new.self ≡ lock = search rules in
    subst IsBook (sym is) (book_set c.args.lock.now c.args.name.now c.args.entry c.requires.form c.requires.entry)

pub returns-clause-form : goal.returns-clause-form
returns-clause-form g c =
    let lock = set c.args.lock.now c.args.name.now c.args.entry in
    let is : c.set.new.self ≡ lock = search rules in
    subst IsBook (sym is) (book_set c.args.lock.now c.args.name.now c.args.entry c.requires.form c.requires.entry)

pub returns-in-Ok-clause-moments : goal.returns-in-Ok-clause-moments
returns-in-Ok-clause-moments g c told =
    let lock = set c.args.lock.now c.args.name.now c.args.entry in
    let is : c.set.new.self ≡ lock = search rules in
    let text = c.as_slice.result.now in
    let slice : text ≡ c.in_ok-text.text = search rules in
    let same : text ≡ print_text (lock_node lock) = slice ∙ c.in_ok-text.ensures.exact ∙ ap (λ (l : Lock). print_text (lock_node l)) is in
    let read = subst (λ (t : List ℕ). lock_read t ≡ Ok lock) (sym slice) (c.in_ok-text.ensures.read_back ∙ ap Ok is) in
    recorded lock text c.args.at.now (g.F.Ground.history c.args.files.now) (g.F.Ground.history c.write_bytes.new.files) same read c.requires.at (c.write_bytes.ensures.moments told)

pub returns-clause-moments : goal.returns-clause-moments
returns-clause-moments g c told =
    let lock = set c.args.lock.now c.args.name.now c.args.entry in
    let is : c.set.new.self ≡ lock = search rules in
    let text = c.as_slice.result.now in
    let slice : text ≡ c.in_ok-text.text = search rules in
    let same : text ≡ print_text (lock_node lock) = slice ∙ c.in_ok-text.ensures.exact ∙ ap (λ (l : Lock). print_text (lock_node l)) is in
    let read = subst (λ (t : List ℕ). lock_read t ≡ Ok lock) (sym slice) (c.in_ok-text.ensures.read_back ∙ ap Ok is) in
    recorded lock text c.args.at.now (g.F.Ground.history c.args.files.now) (g.F.Ground.history c.write_bytes.new.files) same read c.requires.at (c.write_bytes.ensures.moments told)
