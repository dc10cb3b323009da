-- The entry with canonical parameters.
--     canonical_form     it is in form, where the entry is
--     made_form          the same of what is made of canonical parts
--     key_again          and has the entry's key
use Rattle.std.proofs.Common.{◌≡◌, ℕ, true, List, [], ◌∷◌, map, length, ◌<◌, refl, sym, ap, subst, ◌∙◌}
use Rattle.std.specs.Prelude.{IsTrue}
use Rattle.dvc_base.specs.declared.data.ParamFile.{ParamFile}
use Rattle.dvc_base.specs.declared.node.Pair.{Pair}
use Rattle.yaml_print.specs.Print.{value_of}
use Rattle.yaml_print.specs.Sound.{Each, IsSound}
use Rattle.lock_files.specs.declared.entry.Entry.{Entry}
use Rattle.lock_files.specs.declared.entry.PathEntry.{PathEntry}
use Rattle.lock_files.specs.Form.{IsKeyed, IsEntry, are_paths, file_at}
use Rattle.lock_files.specs.Order.{is_rising}
use Rattle.params.specs.Canonical.{canonical}
use Rattle.params.proofs.AgainLemmas.{canonical_again}
use Rattle.params.proofs.SoundLemmas.{canonical_sound}
use Rattle.params.proofs.PairLemmas.{same_pair, keys_made}
use Rattle.run_cache.specs.Records.{canonical_pair, canonical_file, canonical_entry, key_of_canonical, key_of}

-- ---- in form

abbrev AreSound : List Pair → Type 0
AreSound ps = Each (λ p. IsSound 59 (value_of p)) ps

abbrev pub AreKeyed : List ParamFile → Type 0
AreKeyed fs = Each (λ f. IsKeyed f.keys) fs

pairs_sound : (ps : List Pair) → AreSound ps → AreSound (map canonical_pair ps)
pairs_sound [] h = tt
pairs_sound (p ∷ ps) h = (canonical_sound 59 (value_of p) h.0, pairs_sound ps h.1)

pairs_keyed : (ps : List Pair) → IsKeyed ps → IsKeyed (map canonical_pair ps)
pairs_keyed ps h = record {
  rising = subst (λ (ks : List (List ℕ)). is_rising ks ≡ true) (sym (keys_made (canonical 59) ps)) h.rising;
  sound = pairs_sound ps h.sound;
}

files_keyed : (fs : List ParamFile) → AreKeyed fs → AreKeyed (map canonical_file fs)
files_keyed [] h = tt
files_keyed (f ∷ fs) h = (pairs_keyed f.keys h.0, files_keyed fs h.1)

same_files : (fs : List ParamFile) → map file_at (map canonical_file fs) ≡ map file_at fs
same_files [] = refl
same_files (f ∷ fs) = ap (λ (ts : List (List ℕ)). f.file ∷ ts) (same_files fs)

pub canonical_form : (e : Entry) → IsEntry e → IsEntry (canonical_entry e)
canonical_form e h = record {
  commands = h.commands;
  deps = h.deps;
  files = subst (λ (ts : List (List ℕ)). is_rising ts ≡ true) (sym (same_files e.params)) h.files;
  keys = files_keyed e.params h.keys;
  outs = h.outs;
}

-- the same of its parts
pub made_form : (e : Entry) (cs : List (List ℕ)) (ds : List PathEntry) (fs : List ParamFile) (os : List PathEntry) → cs ≡ e.commands → ds ≡ e.deps → fs ≡ map canonical_file e.params → os ≡ e.outs → IsEntry e
    → IsEntry (record { commands = cs; deps = ds; params = fs; outs = os })
made_form e cs ds fs os a b d f h =
    let whole = canonical_form e h in
    record {
      commands = subst (λ (x : List (List ℕ)). 0 < length x) (sym a) h.commands;
      deps = subst (λ (x : List PathEntry). IsTrue (are_paths x)) (sym b) h.deps;
      files = subst (λ (x : List ParamFile). IsTrue (is_rising (map file_at x))) (sym d) whole.files;
      keys = subst AreKeyed (sym d) whole.keys;
      outs = subst (λ (x : List PathEntry). IsTrue (are_paths x)) (sym f) h.outs;
    }

-- ---- once is enough

pairs_again : (ps : List Pair) → AreSound ps → map canonical_pair (map canonical_pair ps) ≡ map canonical_pair ps
pairs_again [] h = refl
pairs_again (p ∷ ps) h =
    ap (λ (q : Pair). q ∷ map canonical_pair (map canonical_pair ps)) (same_pair (canonical_pair (canonical_pair p)) (canonical_pair p) refl (canonical_again 59 (value_of p) h.0))
    ∙ ap (λ (qs : List Pair). canonical_pair p ∷ qs) (pairs_again ps h.1)

file_again : (f : ParamFile) → IsKeyed f.keys → canonical_file (canonical_file f) ≡ canonical_file f
file_again f h =
    let make : List Pair → ParamFile = λ ks. record { file = f.file; keys = ks } in
    ap make (pairs_again f.keys h.sound)

files_again : (fs : List ParamFile) → AreKeyed fs → map canonical_file (map canonical_file fs) ≡ map canonical_file fs
files_again [] h = refl
files_again (f ∷ fs) h =
    ap (λ (g : ParamFile). g ∷ map canonical_file (map canonical_file fs)) (file_again f h.0)
    ∙ ap (λ (gs : List ParamFile). canonical_file f ∷ gs) (files_again fs h.1)

pub key_again : (e : Entry) → IsEntry e → key_of (canonical_entry e) ≡ key_of e
key_again e h =
    let make : List ParamFile → Entry = λ fs. record { commands = e.commands; deps = e.deps; params = fs; outs = e.outs } in
    ap (λ (fs : List ParamFile). key_of_canonical (make fs)) (files_again e.params h.keys)
