-- Block sequences and mappings, as they are read: from the nodes that stand in them, at most `d` collections deep, to the whole.
--     Stop l least column t      what may stand behind a node
--     Reads d                    nodes of at most d collections in one another are read back
use Rattle.std.proofs.Common.{◌≡◌, ℕ, suc, ◌+◌, ◌<◌, ◌≤◌, eqb, ltb, Bool, true, false, cond, ◌||◌, ◌&&◌, List, [], ◌∷◌, ◌++◌, length, drop, Ok, refl, ap, sym, ◌∙◌, arith, append_assoc}
use Rattle.std.specs.Prelude.{replicate}
use Rattle.std.proofs.lemmas.Bool.Decides.{nat_tests}
use Rattle.std.proofs.lemmas.List.{length-append}
use Rattle.dvc_base.specs.declared.node.Node.{Node, out-Node}
use Rattle.dvc_base.specs.declared.node.Node.TheOpen.{Node-F}
use Rattle.yaml_text.specs.Outcome.{Text, Outcome, ◌>>=◌, syntax}
use Rattle.yaml_text.specs.Line.{is_white, is_white_end, spaces, whites, past_spaces, past_white, rest_of_line, next_line}
use Rattle.yaml_scalars.specs.Turns.{Turn}
use Rattle.yaml_nodes.specs.Part.{steps, first}
use Rattle.yaml_nodes.specs.Block.{inline, begins_item, item_below, item, next_item, with_found, sequence_turn, block}
use Rattle.yaml_nodes.proofs.StepLemmas.{steps_step}
use Rattle.yaml_print.specs.ScalarText.{Layer}
use Rattle.yaml_print.specs.Print.{rows, item_text, node_text}
use Rattle.yaml_print.specs.Sound.{Each, IsFlat, IsSound, AreTexts}
use Rattle.yaml_print.proofs.BoolLemmas.{eq_self, neither_right, either_false}
use Rattle.yaml_print.proofs.LineRead.{IsHead, at_column, spaces_at, past_spaces_at, Below, Follows, below_more, below_at, follows_below}
use Rattle.yaml_print.proofs.InlineRead.{IsUnmarked}

-- ---- turns

pub last_turn : {S : Type 0} (turn : S → Text → Outcome (Turn S)) (s r : S) (t u : Text) → turn s t ≡ Ok (true, (r, u)) → steps turn s t ≡ Ok (r, u)
last_turn turn s r t u is =
    sym (steps_step turn s t) ∙ ap (λ o. o >>= λ p. cond p.0 (Ok p.1) (cond (ltb (length p.1.1) (length t)) (steps turn p.1.0 p.1.1) (syntax t))) is

pub more_turns : {S : Type 0} (turn : S → Text → Outcome (Turn S)) (s r : S) (t u : Text) → turn s t ≡ Ok (false, (r, u)) → length u < length t → steps turn s t ≡ steps turn r u
more_turns turn s r t u is less =
    let short : ltb (length u) (length t) ≡ true = grind (arith, nat_tests) in
    sym (steps_step turn s t)
    ∙ ap (λ o. o >>= λ p. cond p.0 (Ok p.1) (cond (ltb (length p.1.1) (length t)) (steps turn p.1.0 p.1.1) (syntax t))) is
    ∙ ap (λ v. cond v (steps turn r u) (syntax t)) short

-- ---- what stands behind a node

abbrev pub EndsNode : Layer → ℕ → ℕ → Text → Type 0
EndsNode (Node-F.Items (x ∷ xs)) least column t = Follows column t
EndsNode (Node-F.Pairs (p ∷ ps)) least column t = Below column t
EndsNode _ least column t = Below least t

pub below_stops : (l : Layer) (k least column : ℕ) (t : Text) → k ≤ least → k ≤ column → Below k t → EndsNode l least column t
below_stops (Node-F.Items (x ∷ xs)) k least column t h m b = follows_below column t (below_more k column t m b)
below_stops (Node-F.Items []) k least column t h m b = below_more k least t h b
below_stops (Node-F.Pairs (p ∷ ps)) k least column t h m b = below_more k column t m b
below_stops (Node-F.Pairs []) k least column t h m b = below_more k least t h b
below_stops Node-F.Null k least column t h m b = below_more k least t h b
below_stops (Node-F.Bool v) k least column t h m b = below_more k least t h b
below_stops (Node-F.Whole n w) k least column t h m b = below_more k least t h b
below_stops (Node-F.Decimal w) k least column t h m b = below_more k least t h b
below_stops (Node-F.Text w) k least column t h m b = below_more k least t h b

pub record Reads (d : ℕ) : Type 0 where
  pub reads : (v : Node) (least column : ℕ) (t : Text) → IsSound d v → AreTexts d v → EndsNode (out-Node v) least column t → block d least column (node_text d column v ++ t) ≡ Ok (v, t)
  pub inlines : (v : Node) (least column : ℕ) (t : Text) → IsSound d v → AreTexts d v → IsFlat (out-Node v) → Below least t → inline d least (node_text d column v ++ t) ≡ Ok (v, t)
  pub heads : (v : Node) (column : ℕ) (t : Text) → IsSound d v → AreTexts d v → IsHead (node_text d column v ++ t)
  pub marks : (v : Node) (column : ℕ) (t : Text) → IsSound d v → AreTexts d v → IsUnmarked (node_text d column v ++ t)
  pub dashes : (v : Node) (x : Node) (xs : List Node) (column : ℕ) (t : Text) → IsSound d v → out-Node v ≡ Node-F.Items (x ∷ xs) → begins_item (node_text d column v ++ t) ≡ true

-- ---- white space before a node

pub no_white_end : (s : Text) → IsHead s → is_white_end s ≡ false
no_white_end [] h = absurd h
no_white_end (b ∷ t) h = either_false (eqb b 10 || eqb b 35) (is_white b && is_white_end t) (either_false (eqb b 10) (eqb b 35) h.0 h.2) (ap (λ v. v && is_white_end t) h.1)

no_tab : (s : Text) → IsHead s → eqb (first s) 9 ≡ false
no_tab [] h = absurd h
no_tab (b ∷ t) h = neither_right (eqb b 32) (eqb b 9) h.1

no_whites : (s : Text) → IsHead s → whites s ≡ 0
no_whites [] h = refl
no_whites (b ∷ t) h = ap (λ v. cond v (1 + whites t) 0) h.1

pub past_space : (s : Text) → IsHead s → past_white (32 ∷ s) ≡ s
past_space s h = ap (λ n. drop (1 + n) (32 ∷ s)) (no_whites s h)

-- ---- sequences

abbrev at_item : ℕ → ℕ → Node → Text → Text
at_item d n x t = 45 ∷ 32 ∷ (node_text d (n + 2) x ++ t)

item_read : (d : ℕ) → Reads d → (n : ℕ) (x : Node) (t : Text) → IsSound d x → AreTexts d x → Below (suc n) t
    → item (block d) n (32 ∷ (node_text d (n + 2) x ++ t)) ≡ Ok (x, t)
unfolding item
item_read d r n x t sound texts b =
    let s = node_text d (n + 2) x ++ t in
    let h = r.heads x (n + 2) t sound texts in
    let w = 32 ∷ s in
    let e : n + 1 + 1 ≡ n + 2 = omega arith in
    let y = rest_of_line false w >>= next_line >>= item_below (block d) n in
    let z = block d (n + 1) (n + 1 + spaces w) (past_spaces w) in
    ap (λ v. cond v y (cond (eqb (first (past_spaces w)) 9) (syntax (past_spaces w)) z)) (no_white_end s h)
    ∙ ap (λ v. cond v (syntax (past_spaces w)) z) (ap (λ u. eqb (first u) 9) (past_spaces_at 1 s h) ∙ no_tab s h)
    ∙ ap (λ k. block d (n + 1) (n + 1 + k) (past_spaces w)) (spaces_at 1 s h)
    ∙ ap (λ u. block d (n + 1) (n + 1 + 1) u) (past_spaces_at 1 s h)
    ∙ ap (λ k. block d (n + 1) k s) e
    ∙ r.reads x (n + 1) (n + 2) t sound texts (below_stops (out-Node x) (suc n) (n + 1) (n + 2) t (omega arith) (omega arith) b)

item_turn : (d : ℕ) → Reads d → (n : ℕ) (found : List Node) (x : Node) (t : Text) (next : Bool × Text) → IsSound d x → AreTexts d x → Below (suc n) t → next_item n t ≡ next
    → sequence_turn (block d) n found (at_item d n x t) ≡ Ok (with_found (found ++ x ∷ []) next)
unfolding sequence_turn
item_turn d r n found x t next sound texts b is =
    ap (λ o. o >>= λ p. Ok (with_found (found ++ p.0 ∷ []) (next_item n p.1))) (item_read d r n x t sound texts b)
    ∙ ap (λ p. Ok (with_found (found ++ x ∷ []) p)) is

dash_at : (n : ℕ) (s : Text) → IsHead s → begins_item s ≡ true → next_item n (at_column n s) ≡ (false, s)
dash_at n s h is =
    let t = at_column n s in
    ap (λ k. cond (eqb k n && begins_item (past_spaces t)) (false, past_spaces t) (true, t)) (spaces_at n s h)
    ∙ ap (λ v. cond (v && begins_item (past_spaces t)) (false, past_spaces t) (true, t)) (eq_self n)
    ∙ ap (λ u. cond (begins_item u) (false, u) (true, t)) (past_spaces_at n s h)
    ∙ ap (λ v. cond v (false, s) (true, t)) is

pub more_rows : {A : Type 0} (n : ℕ) (line : A → Text) (x : A) (xs : List A) (t : Text) → rows n line (x ∷ xs) ++ t ≡ at_column n (line x ++ (rows n line xs ++ t))
more_rows n line x xs t =
    append_assoc (replicate n 32) (line x ++ rows n line xs) t
    ∙ ap (λ u. replicate n 32 ++ u) (append_assoc (line x) (rows n line xs) t)

pub dash_head : (s : Text) → IsHead (45 ∷ 32 ∷ s)
dash_head s = (refl, refl, refl, refl)

pub items_read : (d : ℕ) → Reads d → (n : ℕ) (found : List Node) (x : Node) (xs : List Node) (t : Text) → Each (IsSound d) (x ∷ xs) → Each (AreTexts d) (x ∷ xs) → Follows n t
    → steps (sequence_turn (block d) n) found (at_item d n x (rows n (item_text (node_text d) n) xs ++ t)) ≡ Ok (found ++ x ∷ xs, t)
items_read d r n found x [] t sound texts f =
    last_turn (sequence_turn (block d) n) found (found ++ x ∷ []) (at_item d n x t) t (item_turn d r n found x t (true, t) sound.0 texts.0 f.below f.no_item)
items_read d r n found x (y ∷ ys) t sound texts f =
    let line = item_text (node_text d) n in
    let s = at_item d n y (rows n line ys ++ t) in
    let e = more_rows n line y ys t in
    let u = at_column n s in
    let turn = sequence_turn (block d) n in
    let less : length s < length (at_item d n x u) = omega (arith, length-append (node_text d (n + 2) x) u, length-append (replicate n 32) s) in
    ap (λ w. steps turn found (at_item d n x w)) e
    ∙ more_turns turn found (found ++ x ∷ []) (at_item d n x u) s
    (item_turn d r n found x u (false, s) sound.0 texts.0 (below_at (suc n) n s (dash_head (node_text d (n + 2) y ++ (rows n line ys ++ t))) (omega arith)) (dash_at n s (dash_head (node_text d (n + 2) y ++ (rows n line ys ++ t))) refl)) less
    ∙ items_read d r n (found ++ x ∷ []) y ys t sound.1 texts.1 f
    ∙ ap (λ w. Ok (w, t)) (append_assoc found (x ∷ []) (y ∷ ys))
