-- Parameters by value.
--     value_exact        a test of whether two values are the same tells whether their canonical nodes are the same nodes
--     files_exact        files of parameters, compared as their canonical ones
--     are_canonical      canonical parameters can be compared
--     keyed_sound        so can those in form
--     entry_sound        as those of an entry are
--     each_by            what follows for each item
use Rattle.std.proofs.Common.{◌≡◌, Bool, ◌&&◌, List, [], ◌∷◌, map, refl, sym, ap, ◌∙◌, lit<}
use Rattle.std.specs.Bool.{Decides}
use Rattle.std.specs.Cmp.Lexicographic.{pointwise}
use Rattle.std.proofs.lemmas.Bool.Decides.{same_from_decides}
use Rattle.dvc_base.specs.declared.data.ParamFile.{ParamFile}
use Rattle.dvc_base.specs.declared.node.Node.{Node}
use Rattle.dvc_base.specs.declared.node.Pair.{Pair}
use Rattle.yaml_print.specs.Print.{value_of}
use Rattle.yaml_print.specs.Sound.{Each, IsSound}
use Rattle.yaml_print.proofs.SoundLemmas.{sound_within}
use Rattle.lock_files.specs.declared.entry.Entry.{Entry}
use Rattle.lock_files.specs.Form.{IsKeyed, IsEntry}
use Rattle.params.specs.Canonical.{canonical}
use Rattle.params.proofs.AgainLemmas.{canonical_again}
use Rattle.params.proofs.SoundLemmas.{canonical_sound}
use Rattle.change_check.specs.Same.{canonical_pair, canonical_file, canonical_files, same_node, same_file}
use Rattle.change_check.specs.Sound.{IsSoundPair, IsCanonicalPair, AreSound, AreCanonical}
use Rattle.change_check.proofs.NodeLemmas.{node_decides}

pub value_exact : (a b : Node) (r : Bool) → IsSound 64 a → canonical 64 b ≡ b → Decides r (canonical 64 a ≡ canonical 64 b) → r ≡ same_node 64 (canonical 64 a) b
value_exact a b r sound again tells =
    same_from_decides {P = canonical 64 a ≡ b} r (same_node 64 (canonical 64 a) b) (λ e. tells.0 e ∙ again, λ e. tells.1 (e ∙ sym again))
    (node_decides 64 (canonical 64 a) b (canonical_sound 64 a sound))

mapped_first : {A B C : Type 0} (E : B → C → Bool) (f : A → B) (xs : List A) (ys : List C) → pointwise (λ x y. E (f x) y) xs ys ≡ pointwise E (map f xs) ys
mapped_first E f [] [] = refl
mapped_first E f [] (y ∷ ys) = refl
mapped_first E f (x ∷ xs) [] = refl
mapped_first E f (x ∷ xs) (y ∷ ys) = ap (λ (r : Bool). E (f x) y && r) (mapped_first E f xs ys)

pub pairs_exact : (E : Pair → Pair → Bool) (ps qs : List Pair) → pointwise (λ p q. E (canonical_pair p) q) ps qs ≡ pointwise E (map canonical_pair ps) qs
pairs_exact E ps qs = mapped_first E canonical_pair ps qs

pub files_exact : (fs gs : List ParamFile) → pointwise (λ f g. same_file (canonical_file f) g) fs gs ≡ pointwise same_file (canonical_files fs) gs
files_exact fs gs = mapped_first same_file canonical_file fs gs

-- ---- what can be compared

each_made : {A : Type 0} (P Q : A → Type 0) (f : A → A) → ((x : A) → P x → Q (f x)) → (xs : List A) → Each P xs → Each Q (map f xs)
each_made P Q f h [] all = tt
each_made P Q f h (x ∷ xs) all = (h x all.0, each_made P Q f h xs all.1)

pub each_by : {A : Type 0} (P Q : A → Type 0) → ((x : A) → P x → Q x) → (xs : List A) → Each P xs → Each Q xs
each_by P Q h [] all = tt
each_by P Q h (x ∷ xs) all = (h x all.0, each_by P Q h xs all.1)

pair_canonical : (p : Pair) → IsSoundPair p → IsCanonicalPair (canonical_pair p)
pair_canonical p h = (canonical_sound 64 (value_of p) h, canonical_again 64 (value_of p) h)

pub are_canonical : (ps : List ParamFile) → AreSound ps → AreCanonical (canonical_files ps)
are_canonical ps h =
    each_made (λ f. Each IsSoundPair f.keys) (λ f. Each IsCanonicalPair f.keys) canonical_file
    (λ f k. each_made IsSoundPair IsCanonicalPair canonical_pair pair_canonical f.keys k) ps h

keys_sound : (f : ParamFile) → IsKeyed f.keys → Each IsSoundPair f.keys
keys_sound f k =
    each_by (λ p. IsSound 59 (value_of p)) IsSoundPair (λ p s. sound_within 59 64 (value_of p) (lit< tt) s) f.keys k.sound

pub keyed_sound : (ps : List ParamFile) → Each (λ f. IsKeyed f.keys) ps → AreSound ps
keyed_sound ps h = each_by (λ f. IsKeyed f.keys) (λ f. Each IsSoundPair f.keys) keys_sound ps h

pub entry_sound : (e : Entry) → IsEntry e → AreSound e.params
entry_sound e h = keyed_sound e.params h.keys
