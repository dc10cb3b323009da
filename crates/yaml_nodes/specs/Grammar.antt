-- The grammar of nodes, as relations between a text and what it gives: each rule is a constructor, and each way in which a
-- text falls short of one. `o` is a value with the text left behind it, or the refusal. For each text there is exactly one
-- outcome. Numbers of sections are those of YAML 1.2.
--     IsScalar flow least t o         a quoted or plain scalar (7.3)
--     IsNew found t key o             the key may stand behind the keys of these pairs (3.2.1.1)
--     IsFlowKey t o, IsKey t o        a key of a flow mapping, and of a block mapping (7.4.2, 8.2.2)
--     IsKeyAhead t o                  whether a line begins with a key (8.2.2)
--     IsGap may t o                   white space, line breaks and comments between parts of a flow form (6.7)
--     IsBelow t o                     the line below, behind a node or an indicator (6.6)
--     IsFlow depth t o                a node in flow style (7.4, 7.5), with at most `depth` collections in one another
--     IsInline depth least t o        a scalar or flow form in block style; its further lines have at least the indentation `least`
--     IsBlock depth least column t o  a node in block style (8.2) that begins at `column`
use Rattle.std.specs.Prelude.{◌≡◌, ◌≢◌, ◌<◌, ◌≤◌, ℕ, zero, suc, ◌+◌, Bool, true, false, ◌&&◌, ◌||◌, ◌==◌, nat_lt, List, [], ◌∷◌, ◌++◌, length, take, drop, Ok, Err}
use Rattle.dvc_base.specs.declared.node.Node.{Node}
use Rattle.dvc_base.specs.declared.node.Node.TheVariants as nd
use Rattle.dvc_base.specs.declared.node.Pair.{Pair}
use Rattle.yaml_text.specs.declared.refusal.Refusal.{Refusal}
use Rattle.yaml_text.specs.declared.refusal.Refusal.TheVariants.{Duplicate}
use Rattle.yaml_text.specs.Characters.{tab, line_feed, hash, comma, greater_than, open_bracket, close_bracket, open_brace, bar, close_brace}
use Rattle.yaml_text.specs.Outcome.{Text, Outcome, Step, syntax}
use Rattle.yaml_text.specs.Line.{is_white, spaces, past_spaces, past_white, is_rest_empty, is_marker}
use Rattle.yaml_text.specs.Rules.{IsComment, IsRest, IsNext}
use Rattle.yaml_scalars.specs.Plain.{is_colon, begins_plain, plain_len}
use Rattle.yaml_scalars.specs.Kind.{scalar}
use Rattle.yaml_scalars.specs.Rules.{IsQuoted, IsPlain, IsLines}
use Rattle.yaml_nodes.specs.Part.{first, is_quote, begins_form, too_deep, is_on_one_line, has_key, with_pair}
use Rattle.yaml_nodes.specs.Flow.{is_pair, begins_bad, behind_plain_key, is_merge, is_key_colon}
use Rattle.yaml_nodes.specs.Block.{begins_item, behind_plain}

-- ---- scalars

-- A quoted scalar is text (7.3.1, 7.3.2). A plain one stands for what its own text says (7.3.3, 10.3.2).
pub data IsScalar : Bool → ℕ → Text → Step Node → Type 0 where
  in_quotes : {flow : Bool} {least : ℕ} {t : Text} {r : Text × Text}
      → IsQuoted true t (Ok r) → IsScalar flow least t (Ok (nd.Text r.0, r.1))
  bad_quotes : {flow : Bool} {least : ℕ} {t : Text} {e : Refusal} → IsQuoted true t (Err e) → IsScalar flow least t (Err e)
  unquoted : {flow : Bool} {least : ℕ} {t : Text} {r : Text × Text} {n : Node}
      → begins_plain flow t ≡ true → IsPlain flow least t (Ok r) → scalar (length t) r.0 ≡ Ok n → IsScalar flow least t (Ok (n, r.1))
  too_wide : {flow : Bool} {least : ℕ} {t : Text} {r : Text × Text} {e : Refusal}
      → begins_plain flow t ≡ true → IsPlain flow least t (Ok r) → scalar (length t) r.0 ≡ Err e → IsScalar flow least t (Err e)
  bad_plain : {flow : Bool} {least : ℕ} {t : Text} {e : Refusal}
      → begins_plain flow t ≡ true → IsPlain flow least t (Err e) → IsScalar flow least t (Err e)
  no_scalar : {flow : Bool} {least : ℕ} {t : Text} → is_quote t ≡ false → begins_plain flow t ≡ false → IsScalar flow least t (syntax t)

-- ---- keys

-- The keys of a mapping differ (3.2.1.1), and the merge key is left out of the profile; t is at the key.
pub data IsNew : List Pair → Text → Text → Outcome Text → Type 0 where
  merge_key : {found : List Pair} {t key : Text} → is_merge t key ≡ true → IsNew found t key (syntax t)
  second_key : {found : List Pair} {t key : Text}
      → is_merge t key ≡ false → has_key key found ≡ true → IsNew found t key (Err (Duplicate (length t)))
  new_key : {found : List Pair} {t key : Text} → is_merge t key ≡ false → has_key key found ≡ false → IsNew found t key (Ok key)

-- a key in a flow mapping; a plain one stays on one line (7.4.2)
pub data IsFlowKey : Text → Step Text → Type 0 where
  key_in_quotes : {t : Text} {o : Step Text} → IsQuoted true t o → IsFlowKey t o
  plain_key : {t : Text}
      → begins_plain true t ≡ true → begins_bad (behind_plain_key t) ≡ false
      → IsFlowKey t (Ok (take (plain_len true false t) t, drop (plain_len true false t) t))
  -- no key ends at a character that no text may have
  bad_character : {t : Text}
      → begins_plain true t ≡ true → begins_bad (behind_plain_key t) ≡ true → IsFlowKey t (syntax (behind_plain_key t))
  no_key : {t : Text} → is_quote t ≡ false → begins_plain true t ≡ false → IsFlowKey t (syntax t)

-- a key in a block mapping, on one line, and the text behind its `:` (8.2.2)
pub data IsKey : Text → Step Text → Type 0 where
  key_in_quotes : {t : Text} {r : Text × Text}
      → IsQuoted false t (Ok r) → is_colon false (past_spaces r.1) ≡ true → IsKey t (Ok (r.0, drop 1 (past_spaces r.1)))
  no_colon : {t : Text} {r : Text × Text}
      → IsQuoted false t (Ok r) → is_colon false (past_spaces r.1) ≡ false → IsKey t (syntax (past_spaces r.1))
  bad_quotes : {t : Text} {e : Refusal} → IsQuoted false t (Err e) → IsKey t (Err e)
  plain_key : {t : Text}
      → begins_plain false t ≡ true → is_colon false (behind_plain t) ≡ true
      → IsKey t (Ok (take (plain_len false false t) t, drop 1 (behind_plain t)))
  no_plain_colon : {t : Text} → begins_plain false t ≡ true → is_colon false (behind_plain t) ≡ false → IsKey t (syntax (behind_plain t))
  no_key : {t : Text} → is_quote t ≡ false → begins_plain false t ≡ false → IsKey t (syntax t)

-- where a key and its `:` stand on one line, a block mapping begins (8.2.2)
pub data IsKeyAhead : Text → Outcome Bool → Type 0 where
  quotes_ahead : {t : Text} {r : Text × Text}
      → IsQuoted true t (Ok r) → IsKeyAhead t (Ok (is_colon false (past_spaces r.1) && is_on_one_line t r.1))
  bad_quotes_ahead : {t : Text} {e : Refusal} → IsQuoted true t (Err e) → IsKeyAhead t (Err e)
  plain_ahead : {t : Text} → is_quote t ≡ false → IsKeyAhead t (Ok (begins_plain false t && is_colon false (behind_plain t)))

-- ---- between parts of a flow form

-- `may`: a comment may begin here. A line `---` stands in no node (9.1.1).
pub data IsGap : Bool → Text → Outcome Text → Type 0 where
  text_ends : {may : Bool} → IsGap may [] (Ok [])
  line_ends : {may : Bool} {t : Text} {o : Outcome Text} → is_marker t ≡ false → IsGap true t o → IsGap may (line_feed ∷ t) o
  marker : {may : Bool} {t : Text} → is_marker t ≡ true → IsGap may (line_feed ∷ t) (syntax t)
  white : {may : Bool} {b : ℕ} {t : Text} {o : Outcome Text} → is_white b ≡ true → IsGap true t o → IsGap may (b ∷ t) o
  bad_comment : {t : Text} {e : Refusal} → IsComment t (Err e) → IsGap true (hash ∷ t) (Err e)
  behind_comment : {t u : Text} {o : Outcome Text} → IsComment t (Ok u) → is_marker u ≡ false → IsGap true u o → IsGap true (hash ∷ t) o
  marker_behind_comment : {t u : Text} → IsComment t (Ok u) → is_marker u ≡ true → IsGap true (hash ∷ t) (syntax u)
  no_comment : {t : Text} → IsGap false (hash ∷ t) (Ok (hash ∷ t))
  a_part : {may : Bool} {b : ℕ} {t : Text} → b ≢ line_feed → is_white b ≡ false → b ≢ hash → IsGap may (b ∷ t) (Ok (b ∷ t))

-- ---- flow style

-- Where a value is left out, a comma or the closing brace follows (7.4.2).
abbrev pub ends_pair : Text → Bool
ends_pair t = first t == comma || first t == close_brace

mutual
  pub data IsFlow : ℕ → Text → Step Node → Type 0 where
    scalar_node : {depth : ℕ} {t : Text} {o : Step Node} → begins_form t ≡ false → IsScalar true 0 t o → IsFlow depth t o
    too_deep_in_flow : {t : Text} → begins_form t ≡ true → IsFlow zero t (too_deep t)
    flow_sequence : {depth : ℕ} {t : Text} {o : Step Node} → first t ≡ open_bracket → IsItems depth [] (drop 1 t) o → IsFlow (suc depth) t o
    flow_mapping : {depth : ℕ} {t : Text} {o : Step Node} → first t ≡ open_brace → IsPairs depth [] (drop 1 t) o → IsFlow (suc depth) t o

  -- behind `[` or a comma, where these items were found (7.4.1)
  pub data IsItems : ℕ → List Node → Text → Step Node → Type 0 where
    item_gap : {depth : ℕ} {found : List Node} {t : Text} {e : Refusal} → IsGap false t (Err e) → IsItems depth found t (Err e)
    items_end : {depth : ℕ} {found : List Node} {t u : Text}
        → IsGap false t (Ok u) → first u ≡ close_bracket → IsItems depth found t (Ok (nd.Items found, drop 1 u))
    bad_item : {depth : ℕ} {found : List Node} {t u : Text} {e : Refusal}
        → IsGap false t (Ok u) → first u ≢ close_bracket → IsFlow depth u (Err e) → IsItems depth found t (Err e)
    behind_item : {depth : ℕ} {found : List Node} {t u : Text} {r : Node × Text} {e : Refusal}
        → IsGap false t (Ok u) → first u ≢ close_bracket → IsFlow depth u (Ok r) → IsGap false r.1 (Err e) → IsItems depth found t (Err e)
    one_item : {depth : ℕ} {found : List Node} {t u v : Text} {r : Node × Text} {o : Step Node}
        → IsGap false t (Ok u) → first u ≢ close_bracket → IsFlow depth u (Ok r) → IsGap false r.1 (Ok v)
        → first v ≡ comma → IsItems depth (found ++ r.0 ∷ []) (drop 1 v) o → IsItems depth found t o
    last_item : {depth : ℕ} {found : List Node} {t u v : Text} {r : Node × Text}
        → IsGap false t (Ok u) → first u ≢ close_bracket → IsFlow depth u (Ok r) → IsGap false r.1 (Ok v)
        → first v ≡ close_bracket → IsItems depth found t (Ok (nd.Items (found ++ r.0 ∷ []), drop 1 v))
    -- a pair without braces, which is left out of the profile
    single_pair : {depth : ℕ} {found : List Node} {t u v : Text} {r : Node × Text}
        → IsGap false t (Ok u) → first u ≢ close_bracket → IsFlow depth u (Ok r) → IsGap false r.1 (Ok v)
        → first v ≢ comma → first v ≢ close_bracket → is_pair u r.1 v ≡ true → IsItems depth found t (syntax u)
    no_item_comma : {depth : ℕ} {found : List Node} {t u v : Text} {r : Node × Text}
        → IsGap false t (Ok u) → first u ≢ close_bracket → IsFlow depth u (Ok r) → IsGap false r.1 (Ok v)
        → first v ≢ comma → first v ≢ close_bracket → is_pair u r.1 v ≡ false → IsItems depth found t (syntax v)

  -- behind `{` or a comma, where these pairs were found (7.4.2)
  pub data IsPairs : ℕ → List Pair → Text → Step Node → Type 0 where
    pair_gap : {depth : ℕ} {found : List Pair} {t : Text} {e : Refusal} → IsGap false t (Err e) → IsPairs depth found t (Err e)
    pairs_end : {depth : ℕ} {found : List Pair} {t u : Text}
        → IsGap false t (Ok u) → first u ≡ close_brace → IsPairs depth found t (Ok (nd.Pairs found, drop 1 u))
    bad_key : {depth : ℕ} {found : List Pair} {t u : Text} {e : Refusal}
        → IsGap false t (Ok u) → first u ≢ close_brace → IsFlowKey u (Err e) → IsPairs depth found t (Err e)
    old_key : {depth : ℕ} {found : List Pair} {t u : Text} {k : Text × Text} {e : Refusal}
        → IsGap false t (Ok u) → first u ≢ close_brace → IsFlowKey u (Ok k) → IsNew found u k.0 (Err e) → IsPairs depth found t (Err e)
    bad_value : {depth : ℕ} {found : List Pair} {t u name : Text} {k : Text × Text} {e : Refusal}
        → IsGap false t (Ok u) → first u ≢ close_brace → IsFlowKey u (Ok k) → IsNew found u k.0 (Ok name)
        → IsFlowValue depth u k.1 (Err e) → IsPairs depth found t (Err e)
    one_pair : {depth : ℕ} {found : List Pair} {t u name : Text} {k : Text × Text} {r : Node × Text} {o : Step Node}
        → IsGap false t (Ok u) → first u ≢ close_brace → IsFlowKey u (Ok k) → IsNew found u k.0 (Ok name)
        → IsFlowValue depth u k.1 (Ok r) → first r.1 ≡ comma → IsPairs depth (with_pair found name r.0) (drop 1 r.1) o → IsPairs depth found t o
    last_pair : {depth : ℕ} {found : List Pair} {t u name : Text} {k : Text × Text} {r : Node × Text}
        → IsGap false t (Ok u) → first u ≢ close_brace → IsFlowKey u (Ok k) → IsNew found u k.0 (Ok name)
        → IsFlowValue depth u k.1 (Ok r) → first r.1 ≡ close_brace → IsPairs depth found t (Ok (nd.Pairs (with_pair found name r.0), drop 1 r.1))
    no_pair_comma : {depth : ℕ} {found : List Pair} {t u name : Text} {k : Text × Text} {r : Node × Text}
        → IsGap false t (Ok u) → first u ≢ close_brace → IsFlowKey u (Ok k) → IsNew found u k.0 (Ok name)
        → IsFlowValue depth u k.1 (Ok r) → first r.1 ≢ comma → first r.1 ≢ close_brace → IsPairs depth found t (syntax r.1)

  -- the value of the key at t, behind which u is left, and the text from the next part on (7.4.2)
  pub data IsFlowValue : ℕ → Text → Text → Step Node → Type 0 where
    value_gap : {depth : ℕ} {t u : Text} {e : Refusal} → IsGap false u (Err e) → IsFlowValue depth t u (Err e)
    no_colon : {depth : ℕ} {t u v : Text} → IsGap false u (Ok v) → is_key_colon t v ≡ false → IsFlowValue depth t u (Ok (nd.Null, v))
    colon_gap : {depth : ℕ} {t u v : Text} {e : Refusal}
        → IsGap false u (Ok v) → is_key_colon t v ≡ true → IsGap false (drop 1 v) (Err e) → IsFlowValue depth t u (Err e)
    no_value : {depth : ℕ} {t u v w : Text}
        → IsGap false u (Ok v) → is_key_colon t v ≡ true → IsGap false (drop 1 v) (Ok w) → ends_pair w ≡ true
        → IsFlowValue depth t u (Ok (nd.Null, w))
    bad_node : {depth : ℕ} {t u v w : Text} {e : Refusal}
        → IsGap false u (Ok v) → is_key_colon t v ≡ true → IsGap false (drop 1 v) (Ok w) → ends_pair w ≡ false
        → IsFlow depth w (Err e) → IsFlowValue depth t u (Err e)
    behind_value : {depth : ℕ} {t u v w : Text} {r : Node × Text} {e : Refusal}
        → IsGap false u (Ok v) → is_key_colon t v ≡ true → IsGap false (drop 1 v) (Ok w) → ends_pair w ≡ false
        → IsFlow depth w (Ok r) → IsGap false r.1 (Err e) → IsFlowValue depth t u (Err e)
    a_value : {depth : ℕ} {t u v w x : Text} {r : Node × Text}
        → IsGap false u (Ok v) → is_key_colon t v ≡ true → IsGap false (drop 1 v) (Ok w) → ends_pair w ≡ false
        → IsFlow depth w (Ok r) → IsGap false r.1 (Ok x) → IsFlowValue depth t u (Ok (r.0, x))

-- ---- scalars and flow forms in block style

-- Nothing but a comment may stand on the rest of this line; then the next line that isn't blank (6.6, 6.7).
pub data IsBelow : Text → Outcome Text → Type 0 where
  bad_rest : {t : Text} {e : Refusal} → IsRest false t (Err e) → IsBelow t (Err e)
  below : {t u : Text} {o : Outcome Text} → IsRest false t (Ok u) → IsNext u o → IsBelow t o

-- `|` or `>`, which begins a block scalar (8.1)
abbrev pub begins_lines : Text → Bool
begins_lines t = first t == bar || first t == greater_than

pub data IsInline : ℕ → ℕ → Text → Step Node → Type 0 where
  bad_form : {depth least : ℕ} {t : Text} {e : Refusal} → begins_form t ≡ true → IsFlow depth t (Err e) → IsInline depth least t (Err e)
  behind_form : {depth least : ℕ} {t : Text} {r : Node × Text} {e : Refusal}
      → begins_form t ≡ true → IsFlow depth t (Ok r) → IsBelow r.1 (Err e) → IsInline depth least t (Err e)
  a_form : {depth least : ℕ} {t u : Text} {r : Node × Text}
      → begins_form t ≡ true → IsFlow depth t (Ok r) → IsBelow r.1 (Ok u) → IsInline depth least t (Ok (r.0, u))
  bad_lines : {depth least : ℕ} {t : Text} {e : Refusal}
      → begins_lines t ≡ true → IsLines (first t == greater_than) least (drop 1 t) (Err e) → IsInline depth least t (Err e)
  behind_lines : {depth least : ℕ} {t : Text} {r : Text × Text} {e : Refusal}
      → begins_lines t ≡ true → IsLines (first t == greater_than) least (drop 1 t) (Ok r) → IsNext r.1 (Err e) → IsInline depth least t (Err e)
  some_lines : {depth least : ℕ} {t u : Text} {r : Text × Text}
      → begins_lines t ≡ true → IsLines (first t == greater_than) least (drop 1 t) (Ok r) → IsNext r.1 (Ok u)
      → IsInline depth least t (Ok (nd.Text r.0, u))
  bad_scalar : {depth least : ℕ} {t : Text} {e : Refusal}
      → begins_form t ≡ false → begins_lines t ≡ false → IsScalar false least t (Err e) → IsInline depth least t (Err e)
  behind_scalar : {depth least : ℕ} {t : Text} {r : Node × Text} {e : Refusal}
      → begins_form t ≡ false → begins_lines t ≡ false → IsScalar false least t (Ok r) → IsBelow r.1 (Err e) → IsInline depth least t (Err e)
  a_scalar : {depth least : ℕ} {t u : Text} {r : Node × Text}
      → begins_form t ≡ false → begins_lines t ≡ false → IsScalar false least t (Ok r) → IsBelow r.1 (Ok u) → IsInline depth least t (Ok (r.0, u))

-- ---- block style

-- at the next line: the dash of another item of the sequence at this column
abbrev pub another_item : ℕ → Text → Bool
another_item column t = spaces t == column && begins_item (past_spaces t)

-- at the next line: another pair of the mapping at this column
abbrev pub another_pair : ℕ → Text → Bool
another_pair column t = nat_lt 0 (length t) && spaces t == column

-- at the next line: the value of a key at this column. A sequence may stand at the key's own column.
abbrev pub has_value : ℕ → Text → Bool
has_value column t = nat_lt column (spaces t) || another_item column t

mutual
  pub data IsBlock : ℕ → ℕ → ℕ → Text → Step Node → Type 0 where
    sequence : {depth least column : ℕ} {t : Text} {o : Step Node}
        → begins_item t ≡ true → IsEntries depth column [] t o → IsBlock (suc depth) least column t o
    too_deep_item : {least column : ℕ} {t : Text} → begins_item t ≡ true → IsBlock zero least column t (too_deep t)
    bad_start : {depth least column : ℕ} {t : Text} {e : Refusal}
        → begins_item t ≡ false → IsKeyAhead t (Err e) → IsBlock depth least column t (Err e)
    mapping : {depth least column : ℕ} {t : Text} {o : Step Node}
        → begins_item t ≡ false → IsKeyAhead t (Ok true) → IsKeys depth column [] t o → IsBlock (suc depth) least column t o
    too_deep_key : {least column : ℕ} {t : Text} → begins_item t ≡ false → IsKeyAhead t (Ok true) → IsBlock zero least column t (too_deep t)
    inline : {depth least column : ℕ} {t : Text} {o : Step Node}
        → begins_item t ≡ false → IsKeyAhead t (Ok false) → IsInline depth least t o → IsBlock depth least column t o

  -- at the dash of an item, behind these items (8.2.1)
  pub data IsEntries : ℕ → ℕ → List Node → Text → Step Node → Type 0 where
    bad_entry : {depth column : ℕ} {found : List Node} {t : Text} {e : Refusal}
        → IsEntry depth column (drop 1 t) (Err e) → IsEntries depth column found t (Err e)
    one_entry : {depth column : ℕ} {found : List Node} {t : Text} {r : Node × Text} {o : Step Node}
        → IsEntry depth column (drop 1 t) (Ok r) → another_item column r.1 ≡ true
        → IsEntries depth column (found ++ r.0 ∷ []) (past_spaces r.1) o → IsEntries depth column found t o
    last_entry : {depth column : ℕ} {found : List Node} {t : Text} {r : Node × Text}
        → IsEntry depth column (drop 1 t) (Ok r) → another_item column r.1 ≡ false
        → IsEntries depth column found t (Ok (nd.Items (found ++ r.0 ∷ []), r.1))

  -- behind the dash at this column: an item on the lines below, or beside the dash (8.2.1)
  pub data IsEntry : ℕ → ℕ → Text → Step Node → Type 0 where
    bad_entry_below : {depth column : ℕ} {t : Text} {e : Refusal}
        → is_rest_empty t ≡ true → IsBelow t (Err e) → IsEntry depth column t (Err e)
    entry_below : {depth column : ℕ} {t u : Text} {o : Step Node}
        → is_rest_empty t ≡ true → IsBelow t (Ok u) → column < spaces u → IsBlock depth (column + 1) (spaces u) (past_spaces u) o
        → IsEntry depth column t o
    no_entry : {depth column : ℕ} {t u : Text}
        → is_rest_empty t ≡ true → IsBelow t (Ok u) → spaces u ≤ column → IsEntry depth column t (Ok (nd.Null, u))
    a_tab : {depth column : ℕ} {t : Text}
        → is_rest_empty t ≡ false → first (past_spaces t) ≡ tab → IsEntry depth column t (syntax (past_spaces t))
    entry_beside : {depth column : ℕ} {t : Text} {o : Step Node}
        → is_rest_empty t ≡ false → first (past_spaces t) ≢ tab → IsBlock depth (column + 1) (column + 1 + spaces t) (past_spaces t) o
        → IsEntry depth column t o

  -- at a key, behind these pairs (8.2.2)
  pub data IsKeys : ℕ → ℕ → List Pair → Text → Step Node → Type 0 where
    bad_key : {depth column : ℕ} {found : List Pair} {t : Text} {e : Refusal} → IsKey t (Err e) → IsKeys depth column found t (Err e)
    old_key : {depth column : ℕ} {found : List Pair} {t : Text} {k : Text × Text} {e : Refusal}
        → IsKey t (Ok k) → IsNew found t k.0 (Err e) → IsKeys depth column found t (Err e)
    bad_value : {depth column : ℕ} {found : List Pair} {t name : Text} {k : Text × Text} {e : Refusal}
        → IsKey t (Ok k) → IsNew found t k.0 (Ok name) → IsValue depth column k.1 (Err e) → IsKeys depth column found t (Err e)
    one_key : {depth column : ℕ} {found : List Pair} {t name : Text} {k : Text × Text} {r : Node × Text} {o : Step Node}
        → IsKey t (Ok k) → IsNew found t k.0 (Ok name) → IsValue depth column k.1 (Ok r) → another_pair column r.1 ≡ true
        → IsKeys depth column (with_pair found name r.0) (past_spaces r.1) o → IsKeys depth column found t o
    last_key : {depth column : ℕ} {found : List Pair} {t name : Text} {k : Text × Text} {r : Node × Text}
        → IsKey t (Ok k) → IsNew found t k.0 (Ok name) → IsValue depth column k.1 (Ok r) → another_pair column r.1 ≡ false
        → IsKeys depth column found t (Ok (nd.Pairs (with_pair found name r.0), r.1))

  -- behind the `:` of a key at this column (8.2.2)
  pub data IsValue : ℕ → ℕ → Text → Step Node → Type 0 where
    bad_value_below : {depth column : ℕ} {t : Text} {e : Refusal}
        → is_rest_empty t ≡ true → IsBelow t (Err e) → IsValue depth column t (Err e)
    value_below : {depth column : ℕ} {t u : Text} {o : Step Node}
        → is_rest_empty t ≡ true → IsBelow t (Ok u) → has_value column u ≡ true → IsBlock depth (column + 1) (spaces u) (past_spaces u) o
        → IsValue depth column t o
    no_value : {depth column : ℕ} {t u : Text}
        → is_rest_empty t ≡ true → IsBelow t (Ok u) → has_value column u ≡ false → IsValue depth column t (Ok (nd.Null, u))
    value_beside : {depth column : ℕ} {t : Text} {o : Step Node}
        → is_rest_empty t ≡ false → IsInline depth (column + 1) (past_white t) o → IsValue depth column t o
