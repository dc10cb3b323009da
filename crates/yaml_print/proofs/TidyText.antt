-- The text of a node is UTF-8, has no carriage return, and none of its lines marks the end of a document.
--     tidy begins t    the last two, of a text that begins a line or lies in one
--     TidyLine w       w ends a line, and is all that
use Rattle.std.proofs.Common.{◌≡◌, ℕ, zero, suc, ◌+◌, eqb, Bool, true, false, not, ◌&&◌, inl, inr, List, [], ◌∷◌, ◌++◌, Option, Some, None, refl, ap, sym, subst, ◌∙◌, append_assoc}
use Rattle.std.specs.Prelude.{replicate}
use Rattle.std.specs.Char.{encode_utf8}
use Rattle.std.specs.List.{list_all}
use Rattle.std.specs.Str.{IsUtf8}
use Rattle.std.proofs.lemmas.Str.{IsUtf8-append, IsUtf8-encode, IsUtf8-nil}
use Rattle.dvc_base.specs.declared.node.Node.{Node, out-Node}
use Rattle.dvc_base.specs.declared.node.Node.TheOpen.{Node-F}
use Rattle.dvc_base.specs.declared.node.Pair.{Pair}
use Rattle.yaml_text.specs.Outcome.{Text}
use Rattle.yaml_nodes.specs.Part.{key_of}
use Rattle.yaml_print.specs.ScalarText.{Layer, scalar_text}
use Rattle.yaml_print.specs.Print.{value_of, inline_text, rows, item_text, extra_columns, value_by, value_text, pair_text, layer_text, node_text}
use Rattle.yaml_print.specs.Sound.{Each, Inside, IsFlat, IsProper, IsSound, IsSpelt, AreTexts}
use Rattle.yaml_print.proofs.BoolLemmas.{either, true_not_false, same, both_left, both_right}
use Rattle.yaml_print.proofs.Shown.{is_shown, is_graph, Fine, graphs_fine}
use Rattle.yaml_print.proofs.LineRead.{at_column}
use Rattle.yaml_print.proofs.InlineRead.{triple, feed_ends, colon_ends}
use Rattle.yaml_print.proofs.WrittenRead.{Value, written_key}
use Rattle.yaml_print.proofs.FlatRead.{scalar_value, flat_value}
use Rattle.yaml_print.proofs.NodeRead.{none_sound, none_spelt, more_sound, more_spelt, flat_text}

abbrev pub is_dotted : Text → Bool
is_dotted = triple 46 46 46

abbrev pub tidy : Bool → Text → Bool
tidy begins [] = true
tidy begins (b ∷ t) = not (eqb b 13) && not (begins && is_dotted (b ∷ t)) && tidy (eqb b 10) t

-- ---- parts of a line

shown_apart : (b k : ℕ) → is_shown k ≡ false → is_shown b ≡ true → eqb b k ≡ false
shown_apart b k never h =
    elim (either (eqb b k)) [ inl is ↦ absurd (true_not_false (sym h ∙ ap is_shown (same b k is) ∙ never)) | inr is ↦ is ]

pub fine_tidy : (w t : Text) → list_all is_shown w ≡ true → tidy false t ≡ true → tidy false (w ++ t) ≡ true
fine_tidy [] t h k = k
fine_tidy (b ∷ w) t h k =
    let shown = both_left (is_shown b) (list_all is_shown w) h in
    ap (λ v. (not v && true) && tidy (eqb b 10) (w ++ t)) (shown_apart b 13 refl shown)
    ∙ ap (λ v. tidy v (w ++ t)) (shown_apart b 10 refl shown)
    ∙ fine_tidy w t (both_right (is_shown b) (list_all is_shown w) h) k

pub begin_tidy : (s : Text) → is_dotted s ≡ false → tidy false s ≡ true → tidy true s ≡ true
begin_tidy [] h k = refl
begin_tidy (b ∷ t) h k = ap (λ v. (not (eqb b 13) && not v) && tidy (eqb b 10) t) h ∙ k

spaces_graph : (n : ℕ) → list_all is_graph (replicate n 32) ≡ true
spaces_graph zero = refl
spaces_graph (suc n) = spaces_graph n

spaces_fine : (n : ℕ) → Fine (replicate n 32)
spaces_fine n = graphs_fine (replicate n 32) (spaces_graph n)

pub column_tidy : (n : ℕ) (s : Text) → is_dotted s ≡ false → tidy false s ≡ true → tidy true (at_column n s) ≡ true
column_tidy zero s h k = begin_tidy s h k
column_tidy (suc n) s h k = fine_tidy (replicate n 32) s ((spaces_fine n).shown) k

feed_spelt : IsUtf8 (10 ∷ [])
unfolding encode_utf8
feed_spelt = IsUtf8-encode 10 refl

-- ---- lines

pub record TidyLine (w : Text) : Type 0 where
  pub spelt : IsUtf8 w
  pub begins : (t : Text) → is_dotted (w ++ t) ≡ false
  pub tidied : (t : Text) → tidy true t ≡ true → tidy false (w ++ t) ≡ true

rows_tidy : {A : Type 0} (n : ℕ) (line : A → Text) (xs : List A) (t : Text) → Each (λ x. TidyLine (line x)) xs → tidy true t ≡ true → tidy true (rows n line xs ++ t) ≡ true
rows_tidy n line [] t each h = h
rows_tidy n line (x ∷ xs) t each h =
    let u = rows n line xs ++ t in
    let e = append_assoc (replicate n 32) (line x ++ rows n line xs) t ∙ ap (at_column n) (append_assoc (line x) (rows n line xs) t) in
    ap (tidy true) e ∙ column_tidy n (line x ++ u) (each.0.begins u) (each.0.tidied u (rows_tidy n line xs t each.1 h))

rows_spelt : {A : Type 0} (n : ℕ) (line : A → Text) (xs : List A) → Each (λ x. TidyLine (line x)) xs → IsUtf8 (rows n line xs)
rows_spelt n line [] each = IsUtf8-nil
rows_spelt n line (x ∷ xs) each =
    IsUtf8-append (replicate n 32) (line x ++ rows n line xs) ((spaces_fine n).spelt) (IsUtf8-append (line x) (rows n line xs) each.0.spelt (rows_spelt n line xs each.1))

-- a line, and rows below it
with_rows : {A : Type 0} (n : ℕ) (line : A → Text) (x : A) (xs : List A) → Each (λ y. TidyLine (line y)) (x ∷ xs) → TidyLine (line x ++ rows n line xs)
with_rows n line x xs each = record {
  spelt = IsUtf8-append (line x) (rows n line xs) each.0.spelt (rows_spelt n line xs each.1);
  begins = λ t. ap is_dotted (append_assoc (line x) (rows n line xs) t) ∙ each.0.begins (rows n line xs ++ t);
  tidied = λ t h. ap (tidy false) (append_assoc (line x) (rows n line xs) t) ∙ each.0.tidied (rows n line xs ++ t) (rows_tidy n line xs t each.1 h);
}

value_line : (low : ℕ) (w : Text) (v : Node) → Value low w v → TidyLine (w ++ 10 ∷ [])
value_line low w v r = record {
  spelt = IsUtf8-append w (10 ∷ []) (r.fine.spelt) feed_spelt;
  begins = λ t. ap is_dotted (append_assoc w (10 ∷ []) t) ∙ (r.marks (10 ∷ t) (feed_ends t)).dots;
  tidied = λ t h. ap (tidy false) (append_assoc w (10 ∷ []) t) ∙ fine_tidy w (10 ∷ t) (r.fine.shown) h;
}

-- ---- what stands in collections

pub record Tidy (d : ℕ) : Type 0 where
  pub lines : (v : Node) (n : ℕ) → IsSound d v → AreTexts d v → TidyLine (node_text d n v)

item_line : (d : ℕ) → Tidy d → (n : ℕ) (x : Node) → IsSound d x → AreTexts d x → TidyLine (item_text (node_text d) n x)
item_line d r n x sound texts =
    let l = r.lines x (n + 2) sound texts in
    record {
      spelt = IsUtf8-append (45 ∷ 32 ∷ []) (node_text d (n + 2) x) ((graphs_fine (45 ∷ 32 ∷ []) refl).spelt) l.spelt;
      begins = λ t. refl;
      tidied = λ t h. l.tidied t h;
    }

value_spelt : (d : ℕ) → Tidy d → (n : ℕ) (v : Node) (o : Option ℕ) → IsSound d v → AreTexts d v → IsUtf8 (value_by (node_text d) n v o)
value_spelt d r n v None sound texts = IsUtf8-append (32 ∷ []) (node_text d n v) ((graphs_fine (32 ∷ []) refl).spelt) ((r.lines v n sound texts).spelt)
value_spelt d r n v (Some m) sound texts =
    IsUtf8-append (10 ∷ []) (replicate (n + m) 32 ++ node_text d (n + m) v) feed_spelt
    (IsUtf8-append (replicate (n + m) 32) (node_text d (n + m) v) ((spaces_fine (n + m)).spelt) ((r.lines v (n + m) sound texts).spelt))

value_tidy : (d : ℕ) → Tidy d → (n : ℕ) (v : Node) (o : Option ℕ) (t : Text) → IsSound d v → AreTexts d v → tidy true t ≡ true → tidy false (value_by (node_text d) n v o ++ t) ≡ true
value_tidy d r n v None t sound texts h = (r.lines v n sound texts).tidied t h
value_tidy d r n v (Some m) t sound texts h =
    let l = r.lines v (n + m) sound texts in
    ap (tidy true) (append_assoc (replicate (n + m) 32) (node_text d (n + m) v) t) ∙ column_tidy (n + m) (node_text d (n + m) v ++ t) (l.begins t) (l.tidied t h)

pair_line : (d : ℕ) → Tidy d → (n : ℕ) (p : Pair) → IsUtf8 (key_of p) → IsSound d (value_of p) → AreTexts d (value_of p) → TidyLine (pair_text (node_text d) n p)
pair_line d r n p spelt sound texts =
    let k = written_key (key_of p) spelt in
    let w = scalar_text (key_of p) in
    let o = extra_columns (out-Node (value_of p)) in
    let v = value_text (node_text d) n (value_of p) in
    record {
      spelt = IsUtf8-append w (58 ∷ v) (k.fine.spelt) (IsUtf8-append (58 ∷ []) v ((graphs_fine (58 ∷ []) refl).spelt) (value_spelt d r n (value_of p) o sound texts));
      begins = λ t. ap is_dotted (append_assoc w (58 ∷ v) t) ∙ (k.marks (58 ∷ (v ++ t)) (colon_ends (v ++ t))).dots;
      tidied = λ t h. ap (tidy false) (append_assoc w (58 ∷ v) t) ∙ fine_tidy w (58 ∷ (v ++ t)) (k.fine.shown) (value_tidy d r n (value_of p) o t sound texts h);
    }

item_lines : (d : ℕ) → Tidy d → (n : ℕ) (xs : List Node) → Each (IsSound d) xs → Each (AreTexts d) xs → Each (λ x. TidyLine (item_text (node_text d) n x)) xs
item_lines d r n [] sound texts = tt
item_lines d r n (x ∷ xs) sound texts = (item_line d r n x sound.0 texts.0, item_lines d r n xs sound.1 texts.1)

pair_lines : (d : ℕ) → Tidy d → (n : ℕ) (ps : List Pair) → Each (λ p. IsUtf8 (key_of p)) ps → Each (λ p. IsSound d (value_of p)) ps → Each (λ p. AreTexts d (value_of p)) ps
    → Each (λ p. TidyLine (pair_text (node_text d) n p)) ps
pair_lines d r n [] spelt sound texts = tt
pair_lines d r n (p ∷ ps) spelt sound texts = (pair_line d r n p spelt.0 sound.0 texts.0, pair_lines d r n ps spelt.1 sound.1 texts.1)

-- ---- nodes

flat_line : (d n : ℕ) (l : Layer) → IsFlat l → IsProper l → IsSpelt l → TidyLine (layer_text (node_text d) n l)
flat_line d n l flat proper spelt = subst (λ w. TidyLine w) (sym (flat_text (node_text d) n l flat)) (value_line 1 (inline_text l) _ (flat_value l flat proper spelt))

layer_line : (d : ℕ) → Tidy d → (n : ℕ) (l : Layer) → IsProper l → IsSpelt l → Inside (IsSound d) l → Inside (AreTexts d) l → TidyLine (layer_text (node_text d) n l)
layer_line d r n (Node-F.Items (x ∷ xs)) proper spelt sound texts = with_rows n (item_text (node_text d) n) x xs (item_lines d r n (x ∷ xs) sound texts)
layer_line d r n (Node-F.Pairs (p ∷ ps)) proper spelt sound texts = with_rows n (pair_text (node_text d) n) p ps (pair_lines d r n (p ∷ ps) spelt sound texts)
layer_line d r n (Node-F.Items []) proper spelt sound texts = flat_line d n (Node-F.Items []) tt proper spelt
layer_line d r n (Node-F.Pairs []) proper spelt sound texts = flat_line d n (Node-F.Pairs []) tt proper spelt
layer_line d r n Node-F.Null proper spelt sound texts = flat_line d n Node-F.Null tt proper spelt
layer_line d r n (Node-F.Bool b) proper spelt sound texts = flat_line d n (Node-F.Bool b) tt proper spelt
layer_line d r n (Node-F.Whole k w) proper spelt sound texts = flat_line d n (Node-F.Whole k w) tt proper spelt
layer_line d r n (Node-F.Decimal w) proper spelt sound texts = flat_line d n (Node-F.Decimal w) tt proper spelt
layer_line d r n (Node-F.Text w) proper spelt sound texts = flat_line d n (Node-F.Text w) tt proper spelt

none_line : (v : Node) (n : ℕ) → IsSound 0 v → AreTexts 0 v → TidyLine (node_text 0 n v)
unfolding node_text
none_line v n sound texts =
    let s = none_sound v sound in
    value_line 0 (inline_text (out-Node v)) _ (scalar_value (out-Node v) s.1 s.0 (none_spelt v texts))

more_line : (d : ℕ) → Tidy d → (v : Node) (n : ℕ) → IsSound (suc d) v → AreTexts (suc d) v → TidyLine (node_text (suc d) n v)
unfolding node_text
more_line d r v n sound texts =
    let s = more_sound d v sound in
    let w = more_spelt d v texts in
    layer_line d r n (out-Node v) s.0 w.0 s.1 w.1

pub tidy_all : (d : ℕ) → Tidy d
tidy_all zero = record { lines = none_line }
tidy_all (suc d) = record { lines = more_line d (tidy_all d) }
