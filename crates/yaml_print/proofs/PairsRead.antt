-- Block mappings, as they are read.
use Rattle.std.proofs.Common.{◌≡◌, ℕ, suc, ◌+◌, ◌<◌, eqb, ltb, Bool, true, false, cond, not, ◌||◌, ◌&&◌, List, [], ◌∷◌, ◌++◌, length, Option, Some, None, Ok, Err, refl, ap, sym, subst, ◌∙◌, arith, append_assoc}
use Rattle.std.specs.Prelude.{replicate}
use Rattle.std.specs.Str.{IsUtf8}
use Rattle.std.proofs.lemmas.Bool.Decides.{nat_tests}
use Rattle.std.proofs.lemmas.List.{length-append}
use Rattle.dvc_base.specs.declared.node.Node.{Node, out-Node}
use Rattle.dvc_base.specs.declared.node.Node.TheOpen.{Node-F}
use Rattle.dvc_base.specs.declared.node.Node.TheVariants as nd
use Rattle.dvc_base.specs.declared.node.Pair.{Pair}
use Rattle.yaml_text.specs.declared.refusal.Refusal.TheVariants.{Duplicate}
use Rattle.yaml_text.specs.Outcome.{Text, Step, ◌>>=◌, syntax}
use Rattle.yaml_text.specs.Line.{spaces, past_spaces, past_white, rest_of_line, next_line}
use Rattle.yaml_scalars.specs.Plain.{may_follow_colon}
use Rattle.yaml_nodes.specs.Part.{steps, key_of, has_key, with_pair}
use Rattle.yaml_nodes.specs.Flow.{is_merge, new_key}
use Rattle.yaml_nodes.specs.Block.{inline, begins_item, with_found, value_below, value, next_pair, with_value, mapping_turn, block}
use Rattle.yaml_print.specs.ScalarText.{Layer, scalar_text}
use Rattle.yaml_print.specs.Print.{value_of, rows, extra_columns, value_by, value_text, pair_text, node_text}
use Rattle.yaml_print.specs.Sound.{Each, IsFlat, are_new, IsSound, AreTexts}
use Rattle.yaml_print.proofs.BoolLemmas.{true_not_false, eq_self, both_right}
use Rattle.yaml_print.proofs.LineRead.{IsHead, at_column, spaces_at, past_spaces_at, next_at, Below, Follows, below_more, follows_below, follows_at, below_no_pair}
use Rattle.yaml_print.proofs.InlineRead.{IsUnmarked, colon_ends}
use Rattle.yaml_print.proofs.WrittenRead.{written_key}
use Rattle.yaml_print.proofs.ItemsRead.{last_turn, more_turns, EndsNode, Reads, no_white_end, past_space, more_rows}

-- ---- values

-- on the lines below the key
below_read : (d n m : ℕ) (s : Text) → IsHead s → (ltb n m || (eqb m n && begins_item s)) ≡ true → value d (block d) n (10 ∷ at_column m s) ≡ block d (n + 1) m s
unfolding value
below_read d n m s h deep =
    let t = at_column m s in
    let y = block d (n + 1) in
    let z : Step Node = Ok (nd.Null, t) in
    ap (λ o. o >>= value_below (block d) n) (next_at m s h)
    ∙ ap (λ k. cond (ltb n k || (eqb k n && begins_item (past_spaces t))) (y k (past_spaces t)) z) (spaces_at m s h)
    ∙ ap (λ u. cond (ltb n m || (eqb m n && begins_item u)) (y m u) z) (past_spaces_at m s h)
    ∙ ap (λ v. cond v (y m s) z) deep

-- beside the key
beside_read : (d n : ℕ) (s : Text) → IsHead s → value d (block d) n (32 ∷ s) ≡ inline d (n + 1) s
unfolding value
beside_read d n s h =
    let w = 32 ∷ s in
    ap (λ v. cond v (rest_of_line false w >>= next_line >>= value_below (block d) n) (inline d (n + 1) (past_white w))) (no_white_end s h)
    ∙ ap (inline d (n + 1)) (past_space s h)

flat_read : (d : ℕ) → Reads d → (n : ℕ) (v : Node) (t : Text) → IsSound d v → AreTexts d v → IsFlat (out-Node v) → Follows n t → value d (block d) n (32 ∷ (node_text d n v ++ t)) ≡ Ok (v, t)
flat_read d r n v t sound texts flat f =
    let e : suc n ≡ n + 1 = omega arith in
    beside_read d n (node_text d n v ++ t) (r.heads v n t sound texts)
    ∙ r.inlines v (n + 1) n t sound texts flat (subst (λ k. Below k t) e f.below)

deep_read : (d : ℕ) → Reads d → (n m : ℕ) (v : Node) (t : Text) → IsSound d v → AreTexts d v → EndsNode (out-Node v) (n + 1) m t → (ltb n m || (eqb m n && begins_item (node_text d m v ++ t))) ≡ true
    → value d (block d) n ((10 ∷ (replicate m 32 ++ node_text d m v)) ++ t) ≡ Ok (v, t)
deep_read d r n m v t sound texts ends deep =
    ap (λ u. value d (block d) n (10 ∷ u)) (append_assoc (replicate m 32) (node_text d m v) t)
    ∙ below_read d n m (node_text d m v ++ t) (r.heads v m t sound texts) deep
    ∙ r.reads v (n + 1) m t sound texts ends

less_two : (n : ℕ) (b : Bool) → (ltb n (n + 2) || b) ≡ true
less_two n b = let e : ltb n (n + 2) ≡ true = grind (arith, nat_tests) in ap (λ v. v || b) e

or_last : (a b c : Bool) → b ≡ true → c ≡ true → (a || (b && c)) ≡ true
or_last true b c h k = refl
or_last false b c h k = ap (λ v. v && c) h ∙ k

same_column : (n : ℕ) (b : Bool) → b ≡ true → (ltb n (n + 0) || (eqb (n + 0) n && b)) ≡ true
same_column n b h = let e : eqb (n + 0) n ≡ true = grind (arith, nat_tests) in or_last (ltb n (n + 0)) (eqb (n + 0) n) b e h

flat_as : (l m : Layer) → l ≡ m → IsFlat m → IsFlat l
flat_as l m e h = subst (λ k. IsFlat k) (sym e) h

value_read_by : (d : ℕ) → Reads d → (n : ℕ) (v : Node) (t : Text) → IsSound d v → AreTexts d v → Follows n t → (l : Layer) → out-Node v ≡ l
    → value d (block d) n (value_by (node_text d) n v (extra_columns l) ++ t) ≡ Ok (v, t)
value_read_by d r n v t sound texts f (Node-F.Items (x ∷ xs)) is =
    let e : n ≡ n + 0 = omega arith in
    deep_read d r n (n + 0) v t sound texts (subst (λ k. EndsNode k (n + 1) (n + 0) t) (sym is) (subst (λ k. Follows k t) e f))
    (same_column n (begins_item (node_text d (n + 0) v ++ t)) (r.dashes v x xs (n + 0) t sound is))
value_read_by d r n v t sound texts f (Node-F.Pairs (p ∷ ps)) is =
    deep_read d r n (n + 2) v t sound texts (subst (λ k. EndsNode k (n + 1) (n + 2) t) (sym is) (below_more (suc n) (n + 2) t (omega arith) f.below))
    (less_two n (eqb (n + 2) n && begins_item (node_text d (n + 2) v ++ t)))
value_read_by d r n v t sound texts f (Node-F.Items []) is = flat_read d r n v t sound texts (flat_as (out-Node v) (Node-F.Items []) is tt) f
value_read_by d r n v t sound texts f (Node-F.Pairs []) is = flat_read d r n v t sound texts (flat_as (out-Node v) (Node-F.Pairs []) is tt) f
value_read_by d r n v t sound texts f Node-F.Null is = flat_read d r n v t sound texts (flat_as (out-Node v) Node-F.Null is tt) f
value_read_by d r n v t sound texts f (Node-F.Bool b) is = flat_read d r n v t sound texts (flat_as (out-Node v) (Node-F.Bool b) is tt) f
value_read_by d r n v t sound texts f (Node-F.Whole k w) is = flat_read d r n v t sound texts (flat_as (out-Node v) (Node-F.Whole k w) is tt) f
value_read_by d r n v t sound texts f (Node-F.Decimal w) is = flat_read d r n v t sound texts (flat_as (out-Node v) (Node-F.Decimal w) is tt) f
value_read_by d r n v t sound texts f (Node-F.Text w) is = flat_read d r n v t sound texts (flat_as (out-Node v) (Node-F.Text w) is tt) f

pub value_read : (d : ℕ) → Reads d → (n : ℕ) (v : Node) (t : Text) → IsSound d v → AreTexts d v → Follows n t → value d (block d) n (value_text (node_text d) n v ++ t) ≡ Ok (v, t)
value_read d r n v t sound texts f = value_read_by d r n v t sound texts f (out-Node v) refl

-- ---- pairs

follows_colon_by : (d n : ℕ) (v : Node) (o : Option ℕ) (t : Text) → may_follow_colon false (value_by (node_text d) n v o ++ t) ≡ true
follows_colon_by d n v None t = refl
follows_colon_by d n v (Some m) t = refl

pub follows_colon_value : (d n : ℕ) (v : Node) (t : Text) → may_follow_colon false (value_text (node_text d) n v ++ t) ≡ true
follows_colon_value d n v t = follows_colon_by d n v (extra_columns (out-Node v)) t

abbrev pub at_pair : ℕ → ℕ → Pair → Text → Text
at_pair d n p t = scalar_text (key_of p) ++ 58 ∷ (value_text (node_text d) n (value_of p) ++ t)

pub pair_apart : (d n : ℕ) (p : Pair) (t : Text) → pair_text (node_text d) n p ++ t ≡ at_pair d n p t
pair_apart d n p t = append_assoc (scalar_text (key_of p)) (58 ∷ value_text (node_text d) n (value_of p)) t

pub pair_head : (d n : ℕ) (p : Pair) (t : Text) → IsUtf8 (key_of p) → IsHead (at_pair d n p t)
pair_head d n p t spelt = (written_key (key_of p) spelt).head (58 ∷ (value_text (node_text d) n (value_of p) ++ t)) (colon_ends (value_text (node_text d) n (value_of p) ++ t))

pub pair_marks : (d n : ℕ) (p : Pair) (t : Text) → IsUtf8 (key_of p) → IsUnmarked (at_pair d n p t)
pair_marks d n p t spelt =
    (written_key (key_of p) spelt).marks (58 ∷ (value_text (node_text d) n (value_of p) ++ t)) (colon_ends (value_text (node_text d) n (value_of p) ++ t))

pub pair_no_item : (d n : ℕ) (p : Pair) (t : Text) → IsUtf8 (key_of p) → begins_item (at_pair d n p t) ≡ false
pair_no_item d n p t spelt = (written_key (key_of p) spelt).no_item (58 ∷ (value_text (node_text d) n (value_of p) ++ t))

new_key_read : (found : List Pair) (t key : Text) → is_merge t key ≡ false → has_key key found ≡ false → new_key found t key ≡ Ok key
unfolding new_key
new_key_read found t key h k =
    ap (λ v. cond v (syntax t) (cond (has_key key found) (Err (Duplicate (length t))) (Ok key))) h ∙ ap (λ v. cond v (Err (Duplicate (length t))) (Ok key)) k

pair_turn : (d : ℕ) → Reads d → (n : ℕ) (found : List Pair) (p : Pair) (t : Text) (next : Bool × Text) → IsUtf8 (key_of p) → IsSound d (value_of p) → AreTexts d (value_of p)
    → has_key (key_of p) found ≡ false → Follows n t → next_pair n t ≡ next
    → mapping_turn d (block d) n found (at_pair d n p t) ≡ Ok (with_found (found ++ p ∷ []) next)
unfolding mapping_turn
pair_turn d r n found p t next spelt sound texts fresh f is =
    let k = written_key (key_of p) spelt in
    let u = value_text (node_text d) n (value_of p) ++ t in
    let w = at_pair d n p t in
    ap (λ o. o >>= with_value d (block d) n found w) (k.reads u (follows_colon_value d n (value_of p) t))
    ∙ ap (λ o. o >>= λ name. value d (block d) n u >>= λ q. Ok (with_found (with_pair found name q.0) (next_pair n q.1))) (new_key_read found w (key_of p) (k.no_merge u) fresh)
    ∙ ap (λ o. o >>= λ q. Ok (with_found (with_pair found (key_of p) q.0) (next_pair n q.1))) (value_read d r n (value_of p) t sound texts f)
    ∙ ap (λ q. Ok (with_found (found ++ p ∷ []) q)) is

some_more : (s : Text) → IsHead s → (n : ℕ) → ltb 0 (length (at_column n s)) ≡ true
some_more [] h n = absurd h
some_more (b ∷ s) h n = let e : 0 < length (at_column n (b ∷ s)) = omega (arith, length-append (replicate n 32) (b ∷ s)) in grind (arith, nat_tests)

pair_at : (n : ℕ) (s : Text) → IsHead s → next_pair n (at_column n s) ≡ (false, s)
pair_at n s h =
    let t = at_column n s in
    ap (λ v. cond (v && eqb (spaces t) n) (false, past_spaces t) (true, t)) (some_more s h n)
    ∙ ap (λ k. cond (eqb k n) (false, past_spaces t) (true, t)) (spaces_at n s h)
    ∙ ap (λ v. cond v (false, past_spaces t) (true, t)) (eq_self n)
    ∙ ap (λ u. (false, u)) (past_spaces_at n s h)

fresh_by : (a b : Bool) → (not a && b) ≡ true → a ≡ false
fresh_by true b h = absurd (true_not_false (sym h))
fresh_by false b h = refl

pub pairs_read : (d : ℕ) → Reads d → (n : ℕ) (found : List Pair) (p : Pair) (ps : List Pair) (t : Text)
    → Each (λ q. IsUtf8 (key_of q)) (p ∷ ps) → Each (λ q. IsSound d (value_of q)) (p ∷ ps) → Each (λ q. AreTexts d (value_of q)) (p ∷ ps) → are_new found (p ∷ ps) ≡ true → Below n t
    → steps (mapping_turn d (block d) n) found (at_pair d n p (rows n (pair_text (node_text d) n) ps ++ t)) ≡ Ok (found ++ p ∷ ps, t)
pairs_read d r n found p [] t spelt sound texts fresh b =
    last_turn (mapping_turn d (block d) n) found (found ++ p ∷ []) (at_pair d n p t) t
    (pair_turn d r n found p t (true, t) spelt.0 sound.0 texts.0 (fresh_by (has_key (key_of p) found) true fresh) (follows_below n t b) (below_no_pair n t b))
pairs_read d r n found p (q ∷ qs) t spelt sound texts fresh b =
    let line = pair_text (node_text d) n in
    let rest = rows n line qs ++ t in
    let s = at_pair d n q rest in
    let u = at_column n s in
    let e = more_rows n line q qs t ∙ ap (at_column n) (pair_apart d n q rest) in
    let turn = mapping_turn d (block d) n in
    let head = pair_head d n q rest spelt.1.0 in
    let less : length s < length (at_pair d n p u) =
    omega (arith, length-append (scalar_text (key_of p)) (58 ∷ (value_text (node_text d) n (value_of p) ++ u)), length-append (value_text (node_text d) n (value_of p)) u, length-append (replicate n 32) s) in
    ap (λ w. steps turn found (at_pair d n p w)) e
    ∙ more_turns turn found (found ++ p ∷ []) (at_pair d n p u) s
    (pair_turn d r n found p u (false, s) spelt.0 sound.0 texts.0 (fresh_by (has_key (key_of p) found) (are_new (found ++ p ∷ []) (q ∷ qs)) fresh)
    (follows_at n s head (pair_no_item d n q rest spelt.1.0)) (pair_at n s head)) less
    ∙ pairs_read d r n (found ++ p ∷ []) q qs t spelt.1 sound.1 texts.1 (both_right (not (has_key (key_of p) found)) (are_new (found ++ p ∷ []) (q ∷ qs)) fresh) b
    ∙ ap (λ w. Ok (w, t)) (append_assoc found (p ∷ []) (q ∷ qs))
