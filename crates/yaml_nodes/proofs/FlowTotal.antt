-- The grammar gives an outcome for each text: scalars, keys and nodes of flow style.
use Rattle.std.proofs.Common.{◌≡◌, ◌<◌, ◌≤◌, ℕ, zero, suc, Bool, true, false, ◌&&◌, List, [], ◌∷◌, ◌++◌, length, take, drop, Ok, Err, inl, inr, sym, subst, arith}
use Rattle.std.proofs.lemmas.Bool.{cases_Bool}
use Rattle.std.proofs.lemmas.Bool.Decides.{eqb_tells}
use Rattle.dvc_base.specs.declared.node.Node.{Node}
use Rattle.dvc_base.specs.declared.node.Node.TheVariants as nd
use Rattle.dvc_base.specs.declared.node.Pair.{Pair}
use Rattle.yaml_text.specs.declared.refusal.Refusal.TheVariants.{Duplicate}
use Rattle.yaml_text.specs.Outcome.{Text, syntax}
use Rattle.yaml_text.specs.Line.{is_white, past_spaces, is_marker, comment}
use Rattle.yaml_text.specs.Rules.{IsComment, IsRest}
use Rattle.yaml_text.proofs.OutcomeLemmas.{outcome_is, Gives, given, ok_at}
use Rattle.yaml_text.proofs.RuleLemmas.{comment_sound, comment_total, rest_total, next_total}
use Rattle.yaml_text.proofs.WithinLemmas.{comment_within}
use Rattle.yaml_scalars.specs.Plain.{is_colon, begins_plain, plain_len}
use Rattle.yaml_scalars.specs.Kind.{scalar}
use Rattle.yaml_scalars.specs.Rules.{IsQuoted, IsPlain}
use Rattle.yaml_scalars.proofs.QuotedRules.{quoted_total}
use Rattle.yaml_scalars.proofs.PlainRules.{plain_total}
use Rattle.yaml_nodes.specs.Part.{first, is_quote, begins_form, too_deep, is_on_one_line, has_key, with_pair}
use Rattle.yaml_nodes.specs.Flow.{is_pair, begins_bad, behind_plain_key, is_merge, is_key_colon}
use Rattle.yaml_nodes.specs.Block.{behind_plain}
use Rattle.yaml_nodes.specs.Grammar as g
use Rattle.yaml_nodes.proofs.FlowSoundness.{or_eqb, gap, new_sound, flow_key_sound, flow_sound, flow_value_sound, item_left, one_item, pair_left, one_pair}

quotes_total : (over : Bool) (t : Text) → is_quote t ≡ true → Gives (IsQuoted over t)
quotes_total over t q = quoted_total over t (or_eqb (first t) 39 34 q)

plain_scalar_total : (flow : Bool) (least : ℕ) (t : Text) → begins_plain flow t ≡ true → Gives (g.IsScalar flow least t)
plain_scalar_total flow least t b =
    elim (given (IsPlain flow least t) (plain_total flow least t)) [
      | inl r ↦ elim (outcome_is (scalar (length t) r.0.0)) [ inl n ↦ (Ok (n.0, r.0.1), g.unquoted b r.1 n.1) | inr e ↦ (Err e.0, g.too_wide b r.1 e.1) ]
      | inr e ↦ (Err e.0, g.bad_plain b e.1)
    ]

pub scalar_total : (flow : Bool) (least : ℕ) (t : Text) → Gives (g.IsScalar flow least t)
scalar_total flow least t =
    elim (cases_Bool (is_quote t)) [
      | inl q ↦ elim (given (IsQuoted true t) (quotes_total true t q))
          [ inl r ↦ (Ok (nd.Text r.0.0, r.0.1), g.in_quotes r.1) | inr e ↦ (Err e.0, g.IsScalar.bad_quotes e.1) ]
      | inr q ↦ elim (cases_Bool (begins_plain flow t)) [ inl b ↦ plain_scalar_total flow least t b | inr b ↦ (syntax t, g.no_scalar q b) ]
    ]

pub new_total : (found : List Pair) (t key : Text) → Gives (g.IsNew found t key)
new_total found t key =
    elim (cases_Bool (is_merge t key)) [
      | inl m ↦ (syntax t, g.merge_key m)
      | inr m ↦ elim (cases_Bool (has_key key found)) [ inl h ↦ (Err (Duplicate (length t)), g.second_key m h) | inr h ↦ (Ok key, g.new_key m h) ]
    ]

flow_key_total : (t : Text) → Gives (g.IsFlowKey t)
flow_key_total t =
    elim (cases_Bool (is_quote t)) [
      | inl q ↦ let k = quotes_total true t q in (k.0, g.IsFlowKey.key_in_quotes k.1)
      | inr q ↦ elim (cases_Bool (begins_plain true t)) [
        | inl b ↦ elim (cases_Bool (begins_bad (behind_plain_key t))) [
          | inl c ↦ (syntax (behind_plain_key t), g.IsFlowKey.bad_character b c)
          | inr c ↦ (Ok (take (plain_len true false t) t, drop (plain_len true false t) t), g.IsFlowKey.plain_key b c)
        ]
        | inr b ↦ (syntax t, g.IsFlowKey.no_key q b)
      ]
    ]

pub key_total : (t : Text) → Gives (g.IsKey t)
key_total t =
    elim (cases_Bool (is_quote t)) [
      | inl q ↦ elim (given (IsQuoted false t) (quotes_total false t q)) [
        | inl r ↦ elim (cases_Bool (is_colon false (past_spaces r.0.1)))
            [ inl c ↦ (Ok (r.0.0, drop 1 (past_spaces r.0.1)), g.IsKey.key_in_quotes r.1 c) | inr c ↦ (syntax (past_spaces r.0.1), g.IsKey.no_colon r.1 c) ]
        | inr e ↦ (Err e.0, g.IsKey.bad_quotes e.1)
      ]
      | inr q ↦ elim (cases_Bool (begins_plain false t)) [
        | inl b ↦ elim (cases_Bool (is_colon false (behind_plain t))) [
          | inl c ↦ (Ok (take (plain_len false false t) t, drop 1 (behind_plain t)), g.IsKey.plain_key b c)
          | inr c ↦ (syntax (behind_plain t), g.IsKey.no_plain_colon b c)
        ]
        | inr b ↦ (syntax t, g.IsKey.no_key q b)
      ]
    ]

pub ahead_total : (t : Text) → Gives (g.IsKeyAhead t)
ahead_total t =
    elim (cases_Bool (is_quote t)) [
      | inl q ↦ elim (given (IsQuoted true t) (quotes_total true t q))
          [ inl r ↦ (Ok (is_colon false (past_spaces r.0.1) && is_on_one_line t r.0.1), g.quotes_ahead r.1) | inr e ↦ (Err e.0, g.bad_quotes_ahead e.1) ]
      | inr q ↦ (Ok (begins_plain false t && is_colon false (behind_plain t)), g.plain_ahead q)
    ]

pub below_total : (t : Text) → Gives (g.IsBelow t)
below_total t =
    elim (given (IsRest false t) (rest_total false t))
    [ inl u ↦ let n = next_total u.0 in (n.0, g.below u.1 n.1) | inr e ↦ (Err e.0, g.bad_rest e.1) ]

-- ---- between parts

-- a text of less than n bytes
abbrev Gaps : ℕ → Type 0
Gaps n = (may : Bool) (t : Text) → length t < n → Gives (g.IsGap may t)

line_total : (may : Bool) (t : Text) → Gaps (suc (length t)) → Gives (g.IsGap may (10 ∷ t))
line_total may t more =
    elim (cases_Bool (is_marker t)) [ inl m ↦ (syntax t, g.IsGap.marker m) | inr m ↦ let s = more true t (omega arith) in (s.0, g.line_ends m s.1) ]

comment_gap_total : (t : Text) → Gaps (suc (length t)) → Gives (g.IsGap true (35 ∷ t))
comment_gap_total t more =
    elim (given (IsComment t) (comment_total t)) [
      | inl u ↦ elim (cases_Bool (is_marker u.0)) [
        | inl m ↦ (syntax u.0, g.marker_behind_comment u.1 m)
        | inr m ↦
            let left : length u.0 ≤ length t = ok_at (λ (v : Text). length v ≤ length t) (comment t) u.0 (comment_sound t (Ok u.0) u.1) (comment_within (length t) t (omega arith)) in
            let s = more true u.0 (omega arith) in
            (s.0, g.behind_comment u.1 m s.1)
      ]
      | inr e ↦ (Err e.0, g.bad_comment e.1)
    ]

hash_total : (may : Bool) (t : Text) → Gaps (suc (length t)) → Gives (g.IsGap may (35 ∷ t))
hash_total true t more = comment_gap_total t more
hash_total false t more = (Ok (35 ∷ t), g.no_comment)

gaps : (n : ℕ) → Gaps n
gaps zero may t h = absurd (omega arith)
gaps (suc n) may [] h = (Ok [], g.IsGap.text_ends)
gaps (suc n) may (b ∷ t) h =
    elim (eqb_tells b 10) [
      | inl w ↦ let s = line_total may t (λ m u l. gaps n m u (omega arith)) in (s.0, subst (λ c. g.IsGap may (c ∷ t) s.0) (sym w.1) s.1)
      | inr w ↦ elim (cases_Bool (is_white b)) [
        | inl x ↦ let s = gaps n true t (omega arith) in (s.0, g.white x s.1)
        | inr x ↦ elim (eqb_tells b 35) [
          | inl y ↦ let s = hash_total may t (λ m u l. gaps n m u (omega arith)) in (s.0, subst (λ c. g.IsGap may (c ∷ t) s.0) (sym y.1) s.1)
          | inr y ↦ (Ok (b ∷ t), g.a_part w.1 x y.1)
        ]
      ]
    ]

gap_total : (t : Text) → Gives (g.IsGap false t)
gap_total t = gaps (suc (length t)) false t (omega arith)

-- ---- items and pairs of a flow form

-- each node in the form has an outcome, and so have the shorter texts
abbrev Nodes : ℕ → Type 0
Nodes depth = (t : Text) → Gives (g.IsFlow depth t)

abbrev Items : ℕ → ℕ → Type 0
Items depth n = (found : List Node) (t : Text) → length t < n → Gives (g.IsItems depth found t)

abbrev Pairs : ℕ → ℕ → Type 0
Pairs depth n = (found : List Pair) (t : Text) → length t < n → Gives (g.IsPairs depth found t)

behind_item_total : (depth : ℕ) (found : List Node) (t u v : Text) (r : Node × Text) → Items depth (length t) → g.IsGap false t (Ok u) → (first u ≡ 93 → ⊥)
    → g.IsFlow depth u (Ok r) → g.IsGap false r.1 (Ok v) → Gives (g.IsItems depth found t)
behind_item_total depth found t u v r more a b c k =
    elim (eqb_tells (first v) 44) [
      | inl w ↦
          let left = item_left depth found t (found ++ r.0 ∷ [], drop 1 v) (one_item depth found t u v r (gap a) b (flow_sound depth u (Ok r) c) (gap k) w.1) in
          let s = more (found ++ r.0 ∷ []) (drop 1 v) left in
          (s.0, g.one_item a b c k w.1 s.1)
      | inr w ↦ elim (eqb_tells (first v) 93) [
        | inl x ↦ (Ok (nd.Items (found ++ r.0 ∷ []), drop 1 v), g.last_item a b c k x.1)
        | inr x ↦ elim (cases_Bool (is_pair u r.1 v))
            [ inl p ↦ (syntax u, g.single_pair a b c k w.1 x.1 p) | inr p ↦ (syntax v, g.no_item_comma a b c k w.1 x.1 p) ]
      ]
    ]

item_total : (depth : ℕ) → Nodes depth → (found : List Node) (t u : Text) → Items depth (length t) → g.IsGap false t (Ok u) → Gives (g.IsItems depth found t)
item_total depth each found t u more a =
    elim (eqb_tells (first u) 93) [
      | inl b ↦ (Ok (nd.Items found, drop 1 u), g.items_end a b.1)
      | inr b ↦ elim (given (g.IsFlow depth u) (each u)) [
        | inl r ↦ elim (given (g.IsGap false r.0.1) (gap_total r.0.1))
            [ inl v ↦ behind_item_total depth found t u v.0 r.0 more a b.1 r.1 v.1 | inr e ↦ (Err e.0, g.behind_item a b.1 r.1 e.1) ]
        | inr e ↦ (Err e.0, g.bad_item a b.1 e.1)
      ]
    ]

items_total : (depth : ℕ) → Nodes depth → (n : ℕ) → Items depth n
items_total depth each zero found t h = absurd (omega arith)
items_total depth each (suc n) found t h =
    elim (given (g.IsGap false t) (gap_total t))
    [ inl u ↦ item_total depth each found t u.0 (λ f v l. items_total depth each n f v (omega arith)) u.1 | inr e ↦ (Err e.0, g.item_gap e.1) ]

node_total : (depth : ℕ) → Nodes depth → (t u v w : Text) → g.IsGap false u (Ok v) → is_key_colon t v ≡ true → g.IsGap false (drop 1 v) (Ok w) → Gives (g.IsFlowValue depth t u)
node_total depth each t u v w a b c =
    elim (cases_Bool (g.ends_pair w)) [
      | inl h ↦ (Ok (nd.Null, w), g.IsFlowValue.no_value a b c h)
      | inr h ↦ elim (given (g.IsFlow depth w) (each w)) [
        | inl r ↦ elim (given (g.IsGap false r.0.1) (gap_total r.0.1))
            [ inl x ↦ (Ok (r.0.0, x.0), g.a_value a b c h r.1 x.1) | inr e ↦ (Err e.0, g.behind_value a b c h r.1 e.1) ]
        | inr e ↦ (Err e.0, g.bad_node a b c h e.1)
      ]
    ]

value_total : (depth : ℕ) → Nodes depth → (t u : Text) → Gives (g.IsFlowValue depth t u)
value_total depth each t u =
    elim (given (g.IsGap false u) (gap_total u)) [
      | inl v ↦ elim (cases_Bool (is_key_colon t v.0)) [
        | inl b ↦ elim (given (g.IsGap false (drop 1 v.0)) (gap_total (drop 1 v.0))) [ inl w ↦ node_total depth each t u v.0 w.0 v.1 b w.1 | inr e ↦ (Err e.0, g.colon_gap v.1 b e.1) ]
        | inr b ↦ (Ok (nd.Null, v.0), g.IsFlowValue.no_colon v.1 b)
      ]
      | inr e ↦ (Err e.0, g.value_gap e.1)
    ]

behind_pair_total : (depth : ℕ) (found : List Pair) (t u name : Text) (k : Text × Text) (r : Node × Text) → Pairs depth (length t) → g.IsGap false t (Ok u) → (first u ≡ 125 → ⊥)
    → g.IsFlowKey u (Ok k) → g.IsNew found u k.0 (Ok name) → g.IsFlowValue depth u k.1 (Ok r) → Gives (g.IsPairs depth found t)
behind_pair_total depth found t u name k r more a b c n v =
    elim (eqb_tells (first r.1) 44) [
      | inl w ↦
          let left = pair_left depth found t (with_pair found name r.0, drop 1 r.1)
          (one_pair depth found t u name k r (gap a) b (flow_key_sound c) (new_sound n) (flow_value_sound depth u k.1 (Ok r) v) w.1) in
          let s = more (with_pair found name r.0) (drop 1 r.1) left in
          (s.0, g.one_pair a b c n v w.1 s.1)
      | inr w ↦ elim (eqb_tells (first r.1) 125)
          [ inl x ↦ (Ok (nd.Pairs (with_pair found name r.0), drop 1 r.1), g.last_pair a b c n v x.1) | inr x ↦ (syntax r.1, g.no_pair_comma a b c n v w.1 x.1) ]
    ]

named_total : (depth : ℕ) → Nodes depth → (found : List Pair) (t u : Text) (k : Text × Text) → Pairs depth (length t) → g.IsGap false t (Ok u) → (first u ≡ 125 → ⊥)
    → g.IsFlowKey u (Ok k) → Gives (g.IsPairs depth found t)
named_total depth each found t u k more a b c =
    elim (given (g.IsNew found u k.0) (new_total found u k.0)) [
      | inl n ↦ elim (given (g.IsFlowValue depth u k.1) (value_total depth each u k.1))
          [ inl r ↦ behind_pair_total depth found t u n.0 k r.0 more a b c n.1 r.1 | inr e ↦ (Err e.0, g.IsPairs.bad_value a b c n.1 e.1) ]
      | inr e ↦ (Err e.0, g.IsPairs.old_key a b c e.1)
    ]

pair_total : (depth : ℕ) → Nodes depth → (found : List Pair) (t u : Text) → Pairs depth (length t) → g.IsGap false t (Ok u) → Gives (g.IsPairs depth found t)
pair_total depth each found t u more a =
    elim (eqb_tells (first u) 125) [
      | inl b ↦ (Ok (nd.Pairs found, drop 1 u), g.pairs_end a b.1)
      | inr b ↦ elim (given (g.IsFlowKey u) (flow_key_total u))
          [ inl k ↦ named_total depth each found t u k.0 more a b.1 k.1 | inr e ↦ (Err e.0, g.IsPairs.bad_key a b.1 e.1) ]
    ]

pairs_total : (depth : ℕ) → Nodes depth → (n : ℕ) → Pairs depth n
pairs_total depth each zero found t h = absurd (omega arith)
pairs_total depth each (suc n) found t h =
    elim (given (g.IsGap false t) (gap_total t))
    [ inl u ↦ pair_total depth each found t u.0 (λ f v l. pairs_total depth each n f v (omega arith)) u.1 | inr e ↦ (Err e.0, g.pair_gap e.1) ]

-- ---- a flow node

scalar_node_total : (depth : ℕ) (t : Text) → begins_form t ≡ false → Gives (g.IsFlow depth t)
scalar_node_total depth t h = let s = scalar_total true 0 t in (s.0, g.scalar_node h s.1)

form_total : (depth : ℕ) → Nodes depth → (t : Text) → begins_form t ≡ true → Gives (g.IsFlow (suc depth) t)
form_total depth each t h =
    elim (or_eqb (first t) 91 123 h) [
      | inl w ↦ let s = items_total depth each (suc (length (drop 1 t))) [] (drop 1 t) (omega arith) in (s.0, g.flow_sequence w s.1)
      | inr w ↦ let s = pairs_total depth each (suc (length (drop 1 t))) [] (drop 1 t) (omega arith) in (s.0, g.flow_mapping w s.1)
    ]

pub flow_total : (depth : ℕ) (t : Text) → Gives (g.IsFlow depth t)
flow_total zero t = elim (cases_Bool (begins_form t)) [ inl h ↦ (too_deep t, g.too_deep_in_flow h) | inr h ↦ scalar_node_total zero t h ]
flow_total (suc depth) t = elim (cases_Bool (begins_form t)) [ inl h ↦ form_total depth (flow_total depth) t h | inr h ↦ scalar_node_total (suc depth) t h ]
