-- What the grammar gives for scalars, keys and nodes of flow style is what reading gives.
use Rattle.std.proofs.Common.{◌≡◌, ◌<◌, ℕ, zero, suc, eqb, Bool, true, false, cond, ◌||◌, ◌&&◌, List, [], ◌∷◌, ◌++◌, length, drop, Ok, Err, refl, ap, sym, subst, ◌∙◌, ◌⊎◌, inl, inr, ne_eqb, eq-eqb, eqb-true, arith}
use Rattle.std.proofs.lemmas.Bool.Decides.{eqb_tells}
use Rattle.dvc_base.specs.declared.node.Node.{Node}
use Rattle.dvc_base.specs.declared.node.Node.TheVariants as nd
use Rattle.dvc_base.specs.declared.node.Pair.{Pair}
use Rattle.yaml_text.specs.declared.refusal.Refusal.{Refusal}
use Rattle.yaml_text.specs.declared.refusal.Refusal.TheVariants.{Syntax}
use Rattle.yaml_text.specs.Outcome.{Text, Outcome, Step, ◌>>=◌, syntax}
use Rattle.yaml_text.specs.Line.{is_bad, is_marker, comment, rest_of_line, next_line}
use Rattle.yaml_text.proofs.RuleLemmas.{white_no_feed, comment_sound, rest_sound, next_sound}
use Rattle.yaml_text.proofs.OutcomeLemmas.{ok_at}
use Rattle.yaml_scalars.specs.Turns.{Turn}
use Rattle.yaml_scalars.specs.Plain.{begins_plain}
use Rattle.yaml_scalars.specs.Rules.{IsQuoted}
use Rattle.yaml_scalars.proofs.QuotedRules.{quoted_sound}
use Rattle.yaml_scalars.proofs.PlainRules.{plain_sound}
use Rattle.yaml_nodes.specs.Part.{steps, first, is_quote, begins_form, plain_node, quoted_node, with_pair}
use Rattle.yaml_nodes.specs.Flow.{parts_from, between_parts, flow_scalar, item_turn, items, flow_key, flow_value, pair_turn, pairs, flow_form, flow_node}
use Rattle.yaml_nodes.specs.Flow as flow
use Rattle.yaml_nodes.specs.Block.{begins_key, block_key}
use Rattle.yaml_nodes.specs.Grammar as g
use Rattle.yaml_nodes.proofs.StepLemmas.{steps_err, steps_last, steps_more}
use Rattle.yaml_nodes.proofs.FlowLemmas.{flow_shallow, flow_none, deep_by}
use Rattle.yaml_nodes.proofs.WithinLemmas.{item_less, pair_less, flow_keeps}

abbrev pub scalar_at : Bool → ℕ → Text → Step Node
scalar_at flow least t = cond (is_quote t) (quoted_node t (drop 1 t)) (cond (begins_plain flow t) (plain_node flow least t) (syntax t))

-- ---- where a quote begins

pub or_eqb : (a b c : ℕ) → (eqb a b || eqb a c) ≡ true → (a ≡ b) ⊎ (a ≡ c)
or_eqb a b c h = elim (eqb_tells a b) [ inl w ↦ inl w.1 | inr w ↦ inr (eqb-true a c (let e = w.0 in cc)) ]

quote_of : {over : Bool} {t : Text} {o : Step Text} → IsQuoted over t o → is_quote t ≡ true
quote_of (IsQuoted.single {t = t} h s) = let d = eq-eqb (first t) 39 h in cc
quote_of (IsQuoted.double {t = t} h s) =
    let d = eq-eqb (first t) 34 h in
    let f : eqb (first t) 39 ≡ false = ne_eqb (first t) 39 (λ k. absurd (omega arith)) in cc

-- no plain scalar begins with a quote
plain_no_quote : (flow : Bool) (t : Text) → begins_plain flow t ≡ true → is_quote t ≡ false
plain_no_quote flow [] h = refl
plain_no_quote flow (b ∷ t) h =
    elim (eqb_tells b 39) [
      | inl w ↦ absurd (let e : begins_plain flow (39 ∷ t) ≡ true = subst (λ c. begins_plain flow (c ∷ t) ≡ true) w.1 h in cc)
      | inr w ↦ elim (eqb_tells b 34) [
        | inl x ↦ absurd (let e : begins_plain flow (34 ∷ t) ≡ true = subst (λ c. begins_plain flow (c ∷ t) ≡ true) x.1 h in cc)
        | inr x ↦ (let d = w.0 in let f = x.0 in cc)
      ]
    ]

-- ---- scalars and keys

pub scalar_sound : {flow : Bool} {least : ℕ} {t : Text} {o : Step Node} → g.IsScalar flow least t o → scalar_at flow least t ≡ o
unfolding plain_node quoted_node
scalar_sound (g.in_quotes {t = t} {r = r} q) = let h = quote_of q in let e = quoted_sound true t (Ok r) q in cc
scalar_sound (g.IsScalar.bad_quotes {t = t} {e = e} q) = let h = quote_of q in let d = quoted_sound true t (Err e) q in cc
scalar_sound (g.unquoted {flow = flow} {least = least} {t = t} {r = r} b s k) = let h = plain_no_quote flow t b in let e = plain_sound flow least t (Ok r) s in cc
scalar_sound (g.too_wide {flow = flow} {least = least} {t = t} {r = r} b s k) = let h = plain_no_quote flow t b in let e = plain_sound flow least t (Ok r) s in cc
scalar_sound (g.bad_plain {flow = flow} {least = least} {t = t} {e = e} b s) = let h = plain_no_quote flow t b in let d = plain_sound flow least t (Err e) s in cc
scalar_sound (g.no_scalar q b) = cc

pub new_sound : {found : List Pair} {t k : Text} {o : Outcome Text} → g.IsNew found t k o → flow.new_key found t k ≡ o
unfolding flow.new_key
new_sound (g.merge_key m) = cc
new_sound (g.second_key m h) = cc
new_sound (g.new_key m h) = cc

pub flow_key_sound : {t : Text} {o : Step Text} → g.IsFlowKey t o → flow_key t ≡ o
unfolding flow_key
flow_key_sound (g.IsFlowKey.key_in_quotes {t = t} {o = o} q) = let h = quote_of q in let e = quoted_sound true t o q in cc
flow_key_sound (g.IsFlowKey.plain_key {t = t} b c) = let h = plain_no_quote true t b in cc
flow_key_sound (g.IsFlowKey.bad_character {t = t} b c) = let h = plain_no_quote true t b in cc
flow_key_sound (g.IsFlowKey.no_key q b) = cc

pub key_sound : {t : Text} {o : Step Text} → g.IsKey t o → block_key t ≡ o
unfolding block_key
key_sound (g.IsKey.key_in_quotes {t = t} {r = r} q c) = let h = quote_of q in let e = quoted_sound false t (Ok r) q in cc
key_sound (g.IsKey.no_colon {t = t} {r = r} q c) = let h = quote_of q in let e = quoted_sound false t (Ok r) q in cc
key_sound (g.IsKey.bad_quotes {t = t} {e = e} q) = let h = quote_of q in let d = quoted_sound false t (Err e) q in cc
key_sound (g.IsKey.plain_key {t = t} b c) = let h = plain_no_quote false t b in cc
key_sound (g.IsKey.no_plain_colon {t = t} b c) = let h = plain_no_quote false t b in cc
key_sound (g.IsKey.no_key q b) = cc

pub ahead_sound : {t : Text} {o : Outcome Bool} → g.IsKeyAhead t o → begins_key t ≡ o
unfolding begins_key
ahead_sound (g.quotes_ahead {t = t} {r = r} q) = let h = quote_of q in let e = quoted_sound true t (Ok r) q in cc
ahead_sound (g.bad_quotes_ahead {t = t} {e = e} q) = let h = quote_of q in let d = quoted_sound true t (Err e) q in cc
ahead_sound (g.plain_ahead q) = cc

pub below_sound : {t : Text} {o : Outcome Text} → g.IsBelow t o → (rest_of_line false t >>= next_line) ≡ o
below_sound (g.bad_rest {t = t} {e = e} r) = let d = rest_sound false t (Err e) r in cc
below_sound (g.below {t = t} {u = u} {o = o} r n) = let d = rest_sound false t (Ok u) r in let f = next_sound u o n in cc

-- ---- between parts

-- a comment is passed as one
past_comment : (t : Text) → parts_from true true t ≡ (comment t >>= λ u. cond (is_marker u) (syntax u) (parts_from true false u))
past_comment [] = refl
past_comment (b ∷ t) = comment_by (eqb b 10) (is_bad b) b t (past_comment t)
  where
    comment_by : (n w : Bool) (b : ℕ) (t : Text) → parts_from true true t ≡ (comment t >>= λ u. cond (is_marker u) (syntax u) (parts_from true false u))
        → cond n (cond (is_marker t) (syntax t) (parts_from true false t)) (cond w (syntax (b ∷ t)) (parts_from true true t))
        ≡ (cond n (Ok t) (cond w (syntax (b ∷ t)) (comment t)) >>= λ u. cond (is_marker u) (syntax u) (parts_from true false u))
    comment_by true w b t i = refl
    comment_by false true b t i = refl
    comment_by false false b t i = i

behind_comment : (t : Text) (o : Outcome Text) → comment t ≡ o → parts_from true true t ≡ (o >>= λ u. cond (is_marker u) (syntax u) (parts_from true false u))
behind_comment t o h = past_comment t ∙ ap (λ x. x >>= λ u. cond (is_marker u) (syntax u) (parts_from true false u)) h

and_false : (a : Bool) → (a && false) ≡ false
and_false true = refl
and_false false = refl

parts_sound : (may : Bool) (t : Text) (o : Outcome Text) → g.IsGap may t o → parts_from may false t ≡ o
parts_sound may t o g.IsGap.text_ends = refl
parts_sound may t o (g.line_ends {t = u} m s) = let i = parts_sound true u o s in cc
parts_sound may t o (g.IsGap.marker m) = cc
parts_sound may t o (g.white {b = b} {t = u} h s) = let d = white_no_feed b h in let i = parts_sound true u o s in cc
parts_sound may t o (g.bad_comment {t = u} {e = e} c) = behind_comment u (Err e) (comment_sound u (Err e) c)
parts_sound may t o (g.behind_comment {t = v} {u = u} c m s) =
    let d = behind_comment v (Ok u) (comment_sound v (Ok u) c) in let i = parts_sound true u o s in cc
parts_sound may t o (g.marker_behind_comment {t = v} {u = u} c m) = let d = behind_comment v (Ok u) (comment_sound v (Ok u) c) in cc
parts_sound may t o g.no_comment = refl
parts_sound may t o (g.a_part {b = b} n w h) = let d = ne_eqb b 10 n in let f = ne_eqb b 35 h in let k = and_false may in cc

pub gap : {t : Text} {o : Outcome Text} → g.IsGap false t o → between_parts t ≡ o
unfolding between_parts
gap {t} {o} s = parts_sound false t o s

-- ---- items of a flow sequence, a turn at a time

abbrev items_from : ℕ → List Node → Text → Step Node
items_from depth found t = steps (item_turn (flow_node depth)) found t >>= λ r. Ok (nd.Items r.0, r.1)

items_err : (depth : ℕ) (found : List Node) (t : Text) (e : Refusal) → item_turn (flow_node depth) found t ≡ Err e → items_from depth found t ≡ Err e
items_err depth found t e is = ap (λ o. o >>= λ r. Ok (nd.Items r.0, r.1)) (steps_err (item_turn (flow_node depth)) found t e is)

items_last : (depth : ℕ) (found : List Node) (t : Text) (r : List Node × Text) → item_turn (flow_node depth) found t ≡ Ok (true, r) → items_from depth found t ≡ Ok (nd.Items r.0, r.1)
items_last depth found t r is = ap (λ o. o >>= λ r. Ok (nd.Items r.0, r.1)) (steps_last (item_turn (flow_node depth)) found t r is)

pub item_left : (depth : ℕ) (found : List Node) (t : Text) (r : List Node × Text) → item_turn (flow_node depth) found t ≡ Ok (false, r) → length r.1 < length t
item_left depth found t r is =
    ok_at (λ (x : Turn (List Node)). length x.1.1 < length t) (item_turn (flow_node depth) found t) (false, r) is
    (item_less (flow_node depth) (flow_keeps depth) (length t) found t (omega arith))

items_more : (depth : ℕ) (found : List Node) (t : Text) (r : List Node × Text) → item_turn (flow_node depth) found t ≡ Ok (false, r) → items_from depth found t ≡ items_from depth r.0 r.1
items_more depth found t r is =
    ap (λ o. o >>= λ r. Ok (nd.Items r.0, r.1)) (steps_more (item_turn (flow_node depth)) found t r is (item_left depth found t r is))

item_gap : (depth : ℕ) (found : List Node) (t : Text) (e : Refusal) → between_parts t ≡ Err e → item_turn (flow_node depth) found t ≡ Err e
unfolding item_turn
item_gap depth found t e a = cc

items_end : (depth : ℕ) (found : List Node) (t u : Text) → between_parts t ≡ Ok u → first u ≡ 93 → item_turn (flow_node depth) found t ≡ Ok (true, (found, drop 1 u))
unfolding item_turn
items_end depth found t u a b = let d = eq-eqb (first u) 93 b in cc

bad_item : (depth : ℕ) (found : List Node) (t u : Text) (e : Refusal) → between_parts t ≡ Ok u → (first u ≡ 93 → ⊥) → flow_node depth u ≡ Err e
    → item_turn (flow_node depth) found t ≡ Err e
unfolding item_turn
bad_item depth found t u e a b c = let d = ne_eqb (first u) 93 b in cc

-- up to what stands behind the item
item_then : (depth : ℕ) (found : List Node) (t u : Text) (r : Node × Text) → between_parts t ≡ Ok u → (first u ≡ 93 → ⊥) → flow_node depth u ≡ Ok r
    → item_turn (flow_node depth) found t ≡ (between_parts r.1 >>= λ next. flow.behind_item (found ++ r.0 ∷ []) u r.1 next)
unfolding item_turn
item_then depth found t u r a b c = let d = ne_eqb (first u) 93 b in cc

behind_item_err : (depth : ℕ) (found : List Node) (t u : Text) (r : Node × Text) (e : Refusal) → between_parts t ≡ Ok u → (first u ≡ 93 → ⊥) → flow_node depth u ≡ Ok r
    → between_parts r.1 ≡ Err e → item_turn (flow_node depth) found t ≡ Err e
behind_item_err depth found t u r e a b c k = let s = item_then depth found t u r a b c in cc

pub one_item : (depth : ℕ) (found : List Node) (t u v : Text) (r : Node × Text) → between_parts t ≡ Ok u → (first u ≡ 93 → ⊥) → flow_node depth u ≡ Ok r
    → between_parts r.1 ≡ Ok v → first v ≡ 44 → item_turn (flow_node depth) found t ≡ Ok (false, (found ++ r.0 ∷ [], drop 1 v))
one_item depth found t u v r a b c k m = let s = item_then depth found t u r a b c in let d = eq-eqb (first v) 44 m in cc

last_item : (depth : ℕ) (found : List Node) (t u v : Text) (r : Node × Text) → between_parts t ≡ Ok u → (first u ≡ 93 → ⊥) → flow_node depth u ≡ Ok r
    → between_parts r.1 ≡ Ok v → first v ≡ 93 → item_turn (flow_node depth) found t ≡ Ok (true, (found ++ r.0 ∷ [], drop 1 v))
last_item depth found t u v r a b c k m =
    let s = item_then depth found t u r a b c in
    let d = eq-eqb (first v) 93 m in
    let f : eqb (first v) 44 ≡ false = ne_eqb (first v) 44 (λ h. absurd (omega arith)) in cc

no_comma : (depth : ℕ) (found : List Node) (t u v : Text) (r : Node × Text) (b : Bool) → between_parts t ≡ Ok u → (first u ≡ 93 → ⊥) → flow_node depth u ≡ Ok r
    → between_parts r.1 ≡ Ok v → (first v ≡ 44 → ⊥) → (first v ≡ 93 → ⊥) → flow.is_pair u r.1 v ≡ b → item_turn (flow_node depth) found t ≡ cond b (syntax u) (syntax v)
no_comma depth found t u v r b a n c k m l p =
    let s = item_then depth found t u r a n c in
    let d = ne_eqb (first v) 44 m in
    let f = ne_eqb (first v) 93 l in cc

-- ---- pairs of a flow mapping

abbrev pairs_from : ℕ → List Pair → Text → Step Node
pairs_from depth found t = steps (pair_turn (flow_node depth)) found t >>= λ r. Ok (nd.Pairs r.0, r.1)

pairs_err : (depth : ℕ) (found : List Pair) (t : Text) (e : Refusal) → pair_turn (flow_node depth) found t ≡ Err e → pairs_from depth found t ≡ Err e
pairs_err depth found t e is = ap (λ o. o >>= λ r. Ok (nd.Pairs r.0, r.1)) (steps_err (pair_turn (flow_node depth)) found t e is)

pairs_last : (depth : ℕ) (found : List Pair) (t : Text) (r : List Pair × Text) → pair_turn (flow_node depth) found t ≡ Ok (true, r) → pairs_from depth found t ≡ Ok (nd.Pairs r.0, r.1)
pairs_last depth found t r is = ap (λ o. o >>= λ r. Ok (nd.Pairs r.0, r.1)) (steps_last (pair_turn (flow_node depth)) found t r is)

pub pair_left : (depth : ℕ) (found : List Pair) (t : Text) (r : List Pair × Text) → pair_turn (flow_node depth) found t ≡ Ok (false, r) → length r.1 < length t
pair_left depth found t r is =
    ok_at (λ (x : Turn (List Pair)). length x.1.1 < length t) (pair_turn (flow_node depth) found t) (false, r) is
    (pair_less (flow_node depth) (flow_keeps depth) (length t) found t (omega arith))

pairs_more : (depth : ℕ) (found : List Pair) (t : Text) (r : List Pair × Text) → pair_turn (flow_node depth) found t ≡ Ok (false, r) → pairs_from depth found t ≡ pairs_from depth r.0 r.1
pairs_more depth found t r is =
    ap (λ o. o >>= λ r. Ok (nd.Pairs r.0, r.1)) (steps_more (pair_turn (flow_node depth)) found t r is (pair_left depth found t r is))

-- behind the key: the gap and the value together
abbrev pub valued : ℕ → Text → Text → Step Node
valued depth t u = between_parts u >>= λ next. flow_value (flow_node depth) t next

pair_gap : (depth : ℕ) (found : List Pair) (t : Text) (e : Refusal) → between_parts t ≡ Err e → pair_turn (flow_node depth) found t ≡ Err e
unfolding pair_turn
pair_gap depth found t e a = cc

pairs_end : (depth : ℕ) (found : List Pair) (t u : Text) → between_parts t ≡ Ok u → first u ≡ 125 → pair_turn (flow_node depth) found t ≡ Ok (true, (found, drop 1 u))
unfolding pair_turn
pairs_end depth found t u a b = let d = eq-eqb (first u) 125 b in cc

bad_key : (depth : ℕ) (found : List Pair) (t u : Text) (e : Refusal) → between_parts t ≡ Ok u → (first u ≡ 125 → ⊥) → flow_key u ≡ Err e → pair_turn (flow_node depth) found t ≡ Err e
unfolding pair_turn
bad_key depth found t u e a b c = let d = ne_eqb (first u) 125 b in cc

old_key : (depth : ℕ) (found : List Pair) (t u : Text) (k : Text × Text) (e : Refusal) → between_parts t ≡ Ok u → (first u ≡ 125 → ⊥) → flow_key u ≡ Ok k
    → flow.new_key found u k.0 ≡ Err e → pair_turn (flow_node depth) found t ≡ Err e
unfolding pair_turn
old_key depth found t u k e a b c n = let d = ne_eqb (first u) 125 b in cc

joined : {A : Type 0} (o : Outcome Text) (f : Text → Step Node) (h : Node × Text → Outcome A) → (o >>= λ x. f x >>= h) ≡ ((o >>= f) >>= h)
joined (Ok x) f h = refl
joined (Err e) f h = refl

-- up to the value
pair_then : (depth : ℕ) (found : List Pair) (t u name : Text) (k : Text × Text) → between_parts t ≡ Ok u → (first u ≡ 125 → ⊥) → flow_key u ≡ Ok k
    → flow.new_key found u k.0 ≡ Ok name → pair_turn (flow_node depth) found t ≡ (valued depth u k.1 >>= λ r. flow.behind_pair (with_pair found name r.0) r.1)
unfolding pair_turn
pair_then depth found t u name k a b c n =
    let d = ne_eqb (first u) 125 b in
    let j = joined (between_parts k.1) (flow_value (flow_node depth) u) (λ r. flow.behind_pair (with_pair found name r.0) r.1) in cc

bad_value : (depth : ℕ) (found : List Pair) (t u name : Text) (k : Text × Text) (e : Refusal) → between_parts t ≡ Ok u → (first u ≡ 125 → ⊥) → flow_key u ≡ Ok k
    → flow.new_key found u k.0 ≡ Ok name → valued depth u k.1 ≡ Err e → pair_turn (flow_node depth) found t ≡ Err e
bad_value depth found t u name k e a b c n v =
    pair_then depth found t u name k a b c n ∙ ap (λ o. o >>= λ r. flow.behind_pair (with_pair found name r.0) r.1) v

pair_at : (depth : ℕ) (found : List Pair) (t u name : Text) (k : Text × Text) (r : Node × Text) → between_parts t ≡ Ok u → (first u ≡ 125 → ⊥) → flow_key u ≡ Ok k
    → flow.new_key found u k.0 ≡ Ok name → valued depth u k.1 ≡ Ok r → pair_turn (flow_node depth) found t ≡ flow.behind_pair (with_pair found name r.0) r.1
pair_at depth found t u name k r a b c n v =
    pair_then depth found t u name k a b c n ∙ ap (λ o. o >>= λ r. flow.behind_pair (with_pair found name r.0) r.1) v

behind_comma : (found : List Pair) (v : Text) → first v ≡ 44 → flow.behind_pair found v ≡ Ok (false, (found, drop 1 v))
behind_comma found v m = let d = eq-eqb (first v) 44 m in cc

behind_brace : (found : List Pair) (v : Text) → first v ≡ 125 → flow.behind_pair found v ≡ Ok (true, (found, drop 1 v))
behind_brace found v m =
    let d = eq-eqb (first v) 125 m in
    let f : eqb (first v) 44 ≡ false = ne_eqb (first v) 44 (λ h. absurd (omega arith)) in cc

behind_other : (found : List Pair) (v : Text) → (first v ≡ 44 → ⊥) → (first v ≡ 125 → ⊥) → flow.behind_pair found v ≡ syntax v
behind_other found v m l = let d = ne_eqb (first v) 44 m in let f = ne_eqb (first v) 125 l in cc

pub one_pair : (depth : ℕ) (found : List Pair) (t u name : Text) (k : Text × Text) (r : Node × Text) → between_parts t ≡ Ok u → (first u ≡ 125 → ⊥) → flow_key u ≡ Ok k
    → flow.new_key found u k.0 ≡ Ok name → valued depth u k.1 ≡ Ok r → first r.1 ≡ 44 → pair_turn (flow_node depth) found t ≡ Ok (false, (with_pair found name r.0, drop 1 r.1))
one_pair depth found t u name k r a b c n v m = pair_at depth found t u name k r a b c n v ∙ behind_comma (with_pair found name r.0) r.1 m

-- ---- the value of a pair

-- nothing stands before a byte that is neither white space nor a comment
end_by : (w : Text) → (first w ≡ 44) ⊎ (first w ≡ 125) → between_parts w ≡ Ok w
unfolding between_parts
end_by [] (inl h) = absurd (omega arith)
end_by [] (inr h) = absurd (omega arith)
end_by (b ∷ w) (inl h) = subst (λ c. flow.parts_from false false (c ∷ w) ≡ Ok (c ∷ w)) (sym h) refl
end_by (b ∷ w) (inr h) = subst (λ c. flow.parts_from false false (c ∷ w) ≡ Ok (c ∷ w)) (sym h) refl

at_end : (w : Text) → g.ends_pair w ≡ true → between_parts w ≡ Ok w
at_end w h = end_by w (or_eqb (first w) 44 125 h)

value_gap : (depth : ℕ) (t u : Text) (e : Refusal) → between_parts u ≡ Err e → valued depth t u ≡ Err e
value_gap depth t u e a = cc

no_colon : (depth : ℕ) (t u v : Text) → between_parts u ≡ Ok v → flow.is_key_colon t v ≡ false → valued depth t u ≡ Ok (nd.Null, v)
unfolding flow_value
no_colon depth t u v a b = cc

-- behind the colon
value_then : (depth : ℕ) (t u v : Text) → between_parts u ≡ Ok v → flow.is_key_colon t v ≡ true
    → valued depth t u ≡ (between_parts (drop 1 v) >>= flow.value_at (flow_node depth) >>= λ r. between_parts r.1 >>= λ after. Ok (r.0, after))
unfolding flow_value
value_then depth t u v a b = cc

colon_gap : (depth : ℕ) (t u v : Text) (e : Refusal) → between_parts u ≡ Ok v → flow.is_key_colon t v ≡ true → between_parts (drop 1 v) ≡ Err e → valued depth t u ≡ Err e
colon_gap depth t u v e a b c = let s = value_then depth t u v a b in cc

no_value : (depth : ℕ) (t u v w : Text) → between_parts u ≡ Ok v → flow.is_key_colon t v ≡ true → between_parts (drop 1 v) ≡ Ok w → g.ends_pair w ≡ true → valued depth t u ≡ Ok (nd.Null, w)
no_value depth t u v w a b c h = let s = value_then depth t u v a b in let k = at_end w h in cc

bad_node : (depth : ℕ) (t u v w : Text) (e : Refusal) → between_parts u ≡ Ok v → flow.is_key_colon t v ≡ true → between_parts (drop 1 v) ≡ Ok w → g.ends_pair w ≡ false
    → flow_node depth w ≡ Err e → valued depth t u ≡ Err e
bad_node depth t u v w e a b c h n = let s = value_then depth t u v a b in cc

behind_value : (depth : ℕ) (t u v w : Text) (r : Node × Text) (e : Refusal) → between_parts u ≡ Ok v → flow.is_key_colon t v ≡ true → between_parts (drop 1 v) ≡ Ok w
    → g.ends_pair w ≡ false → flow_node depth w ≡ Ok r → between_parts r.1 ≡ Err e → valued depth t u ≡ Err e
behind_value depth t u v w r e a b c h n k = let s = value_then depth t u v a b in cc

a_value : (depth : ℕ) (t u v w x : Text) (r : Node × Text) → between_parts u ≡ Ok v → flow.is_key_colon t v ≡ true → between_parts (drop 1 v) ≡ Ok w
    → g.ends_pair w ≡ false → flow_node depth w ≡ Ok r → between_parts r.1 ≡ Ok x → valued depth t u ≡ Ok (r.0, x)
a_value depth t u v w x r a b c h n k = let s = value_then depth t u v a b in cc

-- ---- a flow node

scalar_flow : (depth : ℕ) (t : Text) (o : Step Node) → begins_form t ≡ false → scalar_at true 0 t ≡ o → flow_node depth t ≡ o
unfolding flow_scalar
scalar_flow depth t o h is = flow_shallow depth t h ∙ is

begins_form_at : (t : Text) → (first t ≡ 91) ⊎ (first t ≡ 123) → begins_form t ≡ true
begins_form_at t (inl h) = let d = eq-eqb (first t) 91 h in cc
begins_form_at t (inr h) =
    let d = eq-eqb (first t) 123 h in
    let f : eqb (first t) 91 ≡ false = ne_eqb (first t) 91 (λ k. absurd (omega arith)) in cc

sequence_flow : (depth : ℕ) (t : Text) → first t ≡ 91 → flow_node (suc depth) t ≡ items_from depth [] (drop 1 t)
unfolding flow_form items
sequence_flow depth t h = deep_by depth t (begins_form_at t (inl h)) ∙ ap (λ b. cond b (items (flow_node depth) (drop 1 t)) (pairs (flow_node depth) (drop 1 t))) (eq-eqb (first t) 91 h)

mapping_flow : (depth : ℕ) (t : Text) → first t ≡ 123 → flow_node (suc depth) t ≡ pairs_from depth [] (drop 1 t)
unfolding flow_form pairs
mapping_flow depth t h =
    deep_by depth t (begins_form_at t (inr h))
    ∙ ap (λ b. cond b (items (flow_node depth) (drop 1 t)) (pairs (flow_node depth) (drop 1 t))) (ne_eqb (first t) 91 (λ k. absurd (omega arith)))

mutual
  pub flow_sound : (depth : ℕ) (t : Text) (o : Step Node) → g.IsFlow depth t o → flow_node depth t ≡ o
  flow_sound depth t o (g.scalar_node h s) = scalar_flow depth t o h (scalar_sound s)
  flow_sound depth t o (g.too_deep_in_flow h) = flow_none zero t h refl
  flow_sound depth t o (g.flow_sequence {depth = d} h s) = sequence_flow d t h ∙ items_sound d [] (drop 1 t) o s
  flow_sound depth t o (g.flow_mapping {depth = d} h s) = mapping_flow d t h ∙ pairs_sound d [] (drop 1 t) o s

  items_sound : (depth : ℕ) (found : List Node) (t : Text) (o : Step Node) → g.IsItems depth found t o → items_from depth found t ≡ o
  items_sound depth found t o (g.item_gap {e = e} a) = items_err depth found t e (item_gap depth found t e (gap a))
  items_sound depth found t o (g.items_end {u = u} a b) = items_last depth found t (found, drop 1 u) (items_end depth found t u (gap a) b)
  items_sound depth found t o (g.bad_item {u = u} {e = e} a b c) = items_err depth found t e (bad_item depth found t u e (gap a) b (flow_sound depth u (Err e) c))
  items_sound depth found t o (g.behind_item {u = u} {r = r} {e = e} a b c k) =
      items_err depth found t e (behind_item_err depth found t u r e (gap a) b (flow_sound depth u (Ok r) c) (gap k))
  items_sound depth found t o (g.one_item {u = u} {v = v} {r = r} a b c k m s) =
      items_more depth found t (found ++ r.0 ∷ [], drop 1 v) (one_item depth found t u v r (gap a) b (flow_sound depth u (Ok r) c) (gap k) m)
      ∙ items_sound depth (found ++ r.0 ∷ []) (drop 1 v) o s
  items_sound depth found t o (g.last_item {u = u} {v = v} {r = r} a b c k m) =
      items_last depth found t (found ++ r.0 ∷ [], drop 1 v) (last_item depth found t u v r (gap a) b (flow_sound depth u (Ok r) c) (gap k) m)
  items_sound depth found t o (g.single_pair {u = u} {v = v} {r = r} a b c k m l p) =
      items_err depth found t (Syntax (length u)) (no_comma depth found t u v r true (gap a) b (flow_sound depth u (Ok r) c) (gap k) m l p)
  items_sound depth found t o (g.no_item_comma {u = u} {v = v} {r = r} a b c k m l p) =
      items_err depth found t (Syntax (length v)) (no_comma depth found t u v r false (gap a) b (flow_sound depth u (Ok r) c) (gap k) m l p)

  pairs_sound : (depth : ℕ) (found : List Pair) (t : Text) (o : Step Node) → g.IsPairs depth found t o → pairs_from depth found t ≡ o
  pairs_sound depth found t o (g.pair_gap {e = e} a) = pairs_err depth found t e (pair_gap depth found t e (gap a))
  pairs_sound depth found t o (g.pairs_end {u = u} a b) = pairs_last depth found t (found, drop 1 u) (pairs_end depth found t u (gap a) b)
  pairs_sound depth found t o (g.IsPairs.bad_key {u = u} {e = e} a b c) = pairs_err depth found t e (bad_key depth found t u e (gap a) b (flow_key_sound c))
  pairs_sound depth found t o (g.IsPairs.old_key {u = u} {k = k} {e = e} a b c n) =
      pairs_err depth found t e (old_key depth found t u k e (gap a) b (flow_key_sound c) (new_sound n))
  pairs_sound depth found t o (g.IsPairs.bad_value {u = u} {name = name} {k = k} {e = e} a b c n v) =
      pairs_err depth found t e (bad_value depth found t u name k e (gap a) b (flow_key_sound c) (new_sound n) (flow_value_sound depth u k.1 (Err e) v))
  pairs_sound depth found t o (g.one_pair {u = u} {name = name} {k = k} {r = r} a b c n v m s) =
      pairs_more depth found t (with_pair found name r.0, drop 1 r.1)
      (one_pair depth found t u name k r (gap a) b (flow_key_sound c) (new_sound n) (flow_value_sound depth u k.1 (Ok r) v) m)
      ∙ pairs_sound depth (with_pair found name r.0) (drop 1 r.1) o s
  pairs_sound depth found t o (g.last_pair {u = u} {name = name} {k = k} {r = r} a b c n v m) =
      pairs_last depth found t (with_pair found name r.0, drop 1 r.1)
      (pair_at depth found t u name k r (gap a) b (flow_key_sound c) (new_sound n) (flow_value_sound depth u k.1 (Ok r) v) ∙ behind_brace (with_pair found name r.0) r.1 m)
  pairs_sound depth found t o (g.no_pair_comma {u = u} {name = name} {k = k} {r = r} a b c n v m l) =
      pairs_err depth found t (Syntax (length r.1))
      (pair_at depth found t u name k r (gap a) b (flow_key_sound c) (new_sound n) (flow_value_sound depth u k.1 (Ok r) v) ∙ behind_other (with_pair found name r.0) r.1 m l)

  pub flow_value_sound : (depth : ℕ) (t u : Text) (o : Step Node) → g.IsFlowValue depth t u o → valued depth t u ≡ o
  flow_value_sound depth t u o (g.value_gap {e = e} a) = value_gap depth t u e (gap a)
  flow_value_sound depth t u o (g.IsFlowValue.no_colon {v = v} a b) = no_colon depth t u v (gap a) b
  flow_value_sound depth t u o (g.colon_gap {v = v} {e = e} a b c) = colon_gap depth t u v e (gap a) b (gap c)
  flow_value_sound depth t u o (g.IsFlowValue.no_value {v = v} {w = w} a b c h) = no_value depth t u v w (gap a) b (gap c) h
  flow_value_sound depth t u o (g.bad_node {v = v} {w = w} {e = e} a b c h n) = bad_node depth t u v w e (gap a) b (gap c) h (flow_sound depth w (Err e) n)
  flow_value_sound depth t u o (g.behind_value {v = v} {w = w} {r = r} {e = e} a b c h n k) =
      behind_value depth t u v w r e (gap a) b (gap c) h (flow_sound depth w (Ok r) n) (gap k)
  flow_value_sound depth t u o (g.a_value {v = v} {w = w} {x = x} {r = r} a b c h n k) = a_value depth t u v w x r (gap a) b (gap c) h (flow_sound depth w (Ok r) n) (gap k)
