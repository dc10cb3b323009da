-- What stands on one line, as it is read: keys before their colon, and values before the line's end.
use Rattle.std.proofs.Common.{◌≡◌, ℕ, eqb, Bool, true, false, cond, not, ◌||◌, ◌&&◌, [], ◌∷◌, ◌++◌, length, take, drop, Ok, refl, ap, sym, ◌∙◌}
use Rattle.std.specs.Prelude.{slice_index, bytes_eq, codes}
use Rattle.std.proofs.lemmas.List.{take_at, drop_at}
use Rattle.dvc_base.specs.declared.node.Node.{Node}
use Rattle.yaml_text.specs.Outcome.{Text, ◌>>=◌, syntax}
use Rattle.yaml_text.specs.Line.{past_white, past_spaces, next_line, is_rest_empty}
use Rattle.yaml_scalars.specs.Turns.{all_turns}
use Rattle.yaml_scalars.specs.Plain.{plain_len, begins_plain, may_follow_colon, is_colon, with_part, next_part, plain_turn, plain}
use Rattle.yaml_scalars.specs.Quoted.{quoted}
use Rattle.yaml_scalars.specs.Kind.{scalar}
use Rattle.yaml_scalars.proofs.TurnLemmas.{turns_step}
use Rattle.yaml_scalars.proofs.PlainLemmas.{plain_shrinks}
use Rattle.yaml_nodes.specs.Part.{first, is_quote, begins_form, is_on_one_line, plain_node, quoted_node}
use Rattle.yaml_nodes.specs.Flow.{flow_node}
use Rattle.yaml_nodes.specs.Block.{line_end, lines_node, inline, begins_item, behind_plain, begins_key, behind_key, block_key}
use Rattle.yaml_print.specs.ScalarText.{begins_as_marker, is_one_line}
use Rattle.yaml_print.proofs.BoolLemmas.{true_not_false, same, neither_left, neither_right, either_false, right_false}
use Rattle.yaml_print.proofs.PlainRead.{EndsPlain, feed_ends_plain, colon_ends_plain, whole_line, begins_more, not_first, plain_no_item, plain_no_quote, plain_not_open}
use Rattle.yaml_print.proofs.LineRead.{IsHead, Below, stops_at}

-- ---- no mark of the text or between documents

-- the first three bytes are these
abbrev pub triple : ℕ → ℕ → ℕ → Text → Bool
triple a b c t = eqb (slice_index t 0) a && eqb (slice_index t 1) b && eqb (slice_index t 2) c

-- what follows a scalar on its line has no part in a mark
abbrev pub Ends : Text → Type 0
Ends u = (eqb (slice_index u 0) 45 ≡ false) × (eqb (slice_index u 0) 46 ≡ false) × (eqb (slice_index u 0) 239 ≡ false) × (eqb (slice_index u 0) 187 ≡ false) × (eqb (slice_index u 0) 191 ≡ false)

pub feed_ends : (u : Text) → Ends (10 ∷ u)
feed_ends u = (refl, refl, refl, refl, refl)

pub colon_ends : (u : Text) → Ends (58 ∷ u)
colon_ends u = (refl, refl, refl, refl, refl)

-- `---`, `...` and the byte order mark
pub record IsUnmarked (t : Text) : Type 0 where
  pub dashes : triple 45 45 45 t ≡ false
  pub dots : triple 46 46 46 t ≡ false
  pub order : triple 239 187 191 t ≡ false

abbrev pub order_mark : Text
order_mark = 239 ∷ 187 ∷ 191 ∷ []

turn_by : (a b c : Bool) → (a && (b && (c && true))) ≡ false → ((a && b) && c) ≡ false
turn_by true true true h = h
turn_by true true false h = refl
turn_by true false c h = refl
turn_by false b c h = refl

first_by : (a b c : Bool) → a ≡ false → ((a && b) && c) ≡ false
first_by a b c h = ap (λ v. (v && b) && c) h

second_by : (a b c : Bool) → b ≡ false → ((a && b) && c) ≡ false
second_by a b c h = ap (λ v. v && c) (right_false a b h)

no_triple : (i j k : ℕ) (w u : Text) → bytes_eq (take 3 w) (i ∷ j ∷ k ∷ []) ≡ false → eqb (slice_index u 0) i ≡ false → eqb (slice_index u 0) j ≡ false → eqb (slice_index u 0) k ≡ false
    → triple i j k (w ++ u) ≡ false
no_triple i j k [] u h e f g = first_by (eqb (slice_index u 0) i) (eqb (slice_index u 1) j) (eqb (slice_index u 2) k) e
no_triple i j k (a ∷ []) u h e f g = second_by (eqb a i) (eqb (slice_index u 0) j) (eqb (slice_index u 1) k) f
no_triple i j k (a ∷ b ∷ []) u h e f g = right_false (eqb a i && eqb b j) (eqb (slice_index u 0) k) g
no_triple i j k (a ∷ b ∷ c ∷ w) u h e f g = turn_by (eqb a i) (eqb b j) (eqb c k) h

pub unmarked : (w u : Text) → begins_as_marker w ≡ false → bytes_eq (take 3 w) order_mark ≡ false → Ends u → IsUnmarked (w ++ u)
unmarked w u h k e = record {
  dashes = no_triple 45 45 45 w u (neither_left (bytes_eq (take 3 w) (codes "---")) (bytes_eq (take 3 w) (codes "...")) h) e.0 e.0 e.0;
  dots = no_triple 46 46 46 w u (neither_right (bytes_eq (take 3 w) (codes "---")) (bytes_eq (take 3 w) (codes "...")) h) e.1 e.1 e.1;
  order = no_triple 239 187 191 w u k e.2 e.3 e.4;
}

-- ---- plain scalars on one line

pub record OneLine (w : Text) : Type 0 where
  pub begins : begins_plain false w ≡ true
  pub whole : plain_len false false w ≡ length w
  pub marks : (u : Text) → Ends u → IsUnmarked (w ++ u)

parts_by : (a b c : Bool) → (a && b && not c) ≡ true → (a ≡ true) × (b ≡ true) × (c ≡ false)
parts_by true true true h = absurd (true_not_false (sym h))
parts_by true true false h = (refl, refl, refl)
parts_by true false c h = absurd (true_not_false (sym h))
parts_by false b c h = absurd (true_not_false (sym h))

pub one_line : (w : Text) → is_one_line w ≡ true → bytes_eq (take 3 w) order_mark ≡ false → OneLine w
one_line w h k =
    let p = parts_by (begins_plain false w) (eqb (plain_len false false w) (length w)) (begins_as_marker w) h in
    record { begins = p.0; whole = same (plain_len false false w) (length w) p.1; marks = λ u e. unmarked w u p.2 k e }

plain_head : (w : Text) → begins_plain false w ≡ true → triple 45 45 45 w ≡ false → IsHead w
plain_head [] h m = absurd (true_not_false (sym h))
plain_head (b ∷ t) h m = (
  not_first 10 b t refl h,
  either_false (eqb b 32) (eqb b 9) (not_first 32 b t refl h) (not_first 9 b t refl h),
  not_first 35 b t refl h,
  ap (λ v. v && is_rest_empty (drop 3 (b ∷ t))) m,
)

pub one_line_head : (w u : Text) → OneLine w → Ends u → IsHead (w ++ u)
one_line_head w u l e = plain_head (w ++ u) (begins_more w u l.begins) ((l.marks u e).dashes)

no_item : (w : Text) → begins_plain false w ≡ true → begins_item w ≡ false
no_item [] h = absurd (true_not_false (sym h))
no_item (b ∷ t) h = plain_no_item b t h

no_quote : (w : Text) → begins_plain false w ≡ true → is_quote w ≡ false
no_quote [] h = absurd (true_not_false (sym h))
no_quote (b ∷ t) h = plain_no_quote b t h

no_opening : (w : Text) → begins_plain false w ≡ true → begins_form w ≡ false
no_opening [] h = absurd (true_not_false (sym h))
no_opening (b ∷ t) h = plain_not_open b t h

no_lines : (w : Text) → begins_plain false w ≡ true → (eqb (first w) 124 || eqb (first w) 62) ≡ false
no_lines [] h = absurd (true_not_false (sym h))
no_lines (b ∷ t) h = either_false (eqb b 124) (eqb b 62) (not_first 124 b t refl h) (not_first 62 b t refl h)

pub one_line_no_item : (w u : Text) → OneLine w → begins_item (w ++ u) ≡ false
one_line_no_item w u l = no_item (w ++ u) (begins_more w u l.begins)

len_same : (w u : Text) → OneLine w → EndsPlain u → plain_len false false (w ++ u) ≡ length w
len_same w u l ends = whole_line false w u ends l.whole

taken : (w u : Text) → OneLine w → EndsPlain u → take (plain_len false false (w ++ u)) (w ++ u) ≡ w
taken w u l ends = ap (λ n. take n (w ++ u)) (len_same w u l ends) ∙ take_at w u (length w) refl

dropped : (w u : Text) → OneLine w → EndsPlain u → drop (plain_len false false (w ++ u)) (w ++ u) ≡ u
dropped w u l ends = ap (λ n. drop n (w ++ u)) (len_same w u l ends) ∙ drop_at w u (length w) refl

-- the scalar ends with its line
plain_last : (least : ℕ) (w u : Text) → Below least u → plain_turn false least w (10 ∷ u) ≡ Ok (true, (w, 10 ∷ u))
unfolding plain_turn
plain_last least w u b =
    ap (λ lines. next_part false least w (10 ∷ u) lines) b.line.blank
    ∙ ap (λ o. o >>= λ part. Ok (with_part false w (10 ∷ u) 0 part)) (stops_at least u b)

plain_whole : (least : ℕ) (w u : Text) → OneLine w → Below least u → plain false least (w ++ 10 ∷ u) ≡ Ok (w, 10 ∷ u)
unfolding plain
plain_whole least w u l b =
    let turn = plain_turn false least in
    ap (λ t. all_turns turn t (drop (plain_len false false (w ++ 10 ∷ u)) (w ++ 10 ∷ u))) (taken w (10 ∷ u) l (feed_ends_plain u))
    ∙ ap (all_turns turn w) (dropped w (10 ∷ u) l (feed_ends_plain u))
    ∙ sym (turns_step turn (plain_shrinks false least) w (10 ∷ u))
    ∙ ap (λ o. o >>= λ r. cond r.0 (Ok r.1) (all_turns turn r.1.0 r.1.1)) (plain_last least w u b)

plain_node_read : (least : ℕ) (w u : Text) (v : Node) → OneLine w → ((k : ℕ) → scalar k w ≡ Ok v) → Below least u → plain_node false least (w ++ 10 ∷ u) ≡ Ok (v, 10 ∷ u)
unfolding plain_node
plain_node_read least w u v l kind b =
    ap (λ o. o >>= λ r. scalar (length (w ++ 10 ∷ u)) r.0 >>= λ node. Ok (node, r.1)) (plain_whole least w u l b)
    ∙ ap (λ o. o >>= λ node. Ok (node, 10 ∷ u)) (kind (length (w ++ 10 ∷ u)))

pub ended : (v : Node) (u : Text) → next_line u ≡ Ok u → line_end (v, 10 ∷ u) ≡ Ok (v, u)
ended v u h = ap (λ o. o >>= λ next. Ok (v, next)) h

pub plain_inline : (depth least : ℕ) (w u : Text) (v : Node) → OneLine w → ((k : ℕ) → scalar k w ≡ Ok v) → Below least u → inline depth least (w ++ 10 ∷ u) ≡ Ok (v, u)
unfolding inline
plain_inline depth least w u v l kind b =
    let t = w ++ 10 ∷ u in
    let begins = begins_more w (10 ∷ u) l.begins in
    let d = cond (begins_plain false t) (plain_node false least t >>= line_end) (syntax t) in
    let c = cond (eqb (first t) 124 || eqb (first t) 62) (lines_node least t) d in
    let q = cond (is_quote t) (quoted_node t (drop 1 t) >>= line_end) c in
    ap (λ x. cond x (flow_node depth t >>= line_end) q) (no_opening t begins)
    ∙ ap (λ x. cond x (quoted_node t (drop 1 t) >>= line_end) c) (no_quote t begins)
    ∙ ap (λ x. cond x (lines_node least t) d) (no_lines t begins)
    ∙ ap (λ x. cond x (plain_node false least t >>= line_end) (syntax t)) begins
    ∙ ap (λ o. o >>= line_end) (plain_node_read least w u v l kind b)
    ∙ ended v u b.line.next

pub plain_no_key : (w u : Text) → OneLine w → begins_key (w ++ 10 ∷ u) ≡ Ok false
unfolding begins_key
plain_no_key w u l =
    let t = w ++ 10 ∷ u in
    let begins = begins_more w (10 ∷ u) l.begins in
    ap (λ x. cond x (quoted (first t) true (drop 1 t) >>= λ r. Ok (is_colon false (past_spaces r.1) && is_on_one_line t r.1)) (Ok (begins_plain false t && is_colon false (behind_plain t)))) (no_quote t begins)
    ∙ ap (λ s. Ok (begins_plain false t && is_colon false (past_white s))) (dropped w (10 ∷ u) l (feed_ends_plain u))
    ∙ ap (λ x. Ok (x && false)) begins

pub plain_key : (w u : Text) → OneLine w → may_follow_colon false u ≡ true → begins_key (w ++ 58 ∷ u) ≡ Ok true
unfolding begins_key
plain_key w u l p =
    let t = w ++ 58 ∷ u in
    let begins = begins_more w (58 ∷ u) l.begins in
    ap (λ x. cond x (quoted (first t) true (drop 1 t) >>= λ r. Ok (is_colon false (past_spaces r.1) && is_on_one_line t r.1)) (Ok (begins_plain false t && is_colon false (behind_plain t)))) (no_quote t begins)
    ∙ ap (λ s. Ok (begins_plain false t && is_colon false (past_white s))) (dropped w (58 ∷ u) l (colon_ends_plain u p))
    ∙ ap (λ x. Ok (x && may_follow_colon false u)) begins
    ∙ ap Ok p

pub plain_key_read : (w u : Text) → OneLine w → may_follow_colon false u ≡ true → block_key (w ++ 58 ∷ u) ≡ Ok (w, u)
unfolding block_key
plain_key_read w u l p =
    let t = w ++ 58 ∷ u in
    let begins = begins_more w (58 ∷ u) l.begins in
    let k = behind_key (is_colon false (behind_plain t)) (take (plain_len false false t) t) (behind_plain t) in
    let q = quoted (first t) false (drop 1 t) >>= λ r. behind_key (is_colon false (past_spaces r.1)) r.0 (past_spaces r.1) in
    ap (λ x. cond x q (cond (begins_plain false t) k (syntax t))) (no_quote t begins)
    ∙ ap (λ x. cond x k (syntax t)) begins
    ∙ ap (λ n. behind_key (is_colon false (past_white (drop n t))) (take n t) (past_white (drop n t))) (len_same w (58 ∷ u) l (colon_ends_plain u p))
    ∙ ap (λ s. behind_key (is_colon false (past_white s)) (take (length w) t) (past_white s)) (drop_at w (58 ∷ u) (length w) refl)
    ∙ ap (λ s. behind_key (may_follow_colon false u) s (58 ∷ u)) (take_at w (58 ∷ u) (length w) refl)
    ∙ ap (λ x. behind_key x w (58 ∷ u)) p
