-- A text as it is written, as it is read: as a key before its colon, and as a value before the line's end.
use Rattle.std.proofs.Common.{◌≡◌, ℕ, ◌-◌, ◌≤◌, eqb, Bool, true, false, cond, not, ◌||◌, ◌&&◌, List, [], ◌∷◌, ◌++◌, length, take, drop, Ok, refl, ap, sym, subst, ◌∙◌, arith, append_assoc}
use Rattle.std.specs.Prelude.{slice_index, bytes_eq, codes}
use Rattle.std.specs.List.{list_any, list_all}
use Rattle.std.specs.Str.{IsUtf8, chars}
use Rattle.std.proofs.lemmas.Str.{scalars-chars}
use Rattle.std.proofs.lemmas.List.{take_at, length-append}
use Rattle.dvc_base.specs.declared.node.Node.{Node}
use Rattle.dvc_base.specs.declared.node.Node.TheVariants as nd
use Rattle.yaml_text.specs.Outcome.{Text, Outcome, Step, ◌>>=◌, syntax}
use Rattle.yaml_text.specs.Line.{past_spaces}
use Rattle.yaml_scalars.specs.Plain.{begins_plain, may_follow_colon, is_colon, plain_len}
use Rattle.yaml_scalars.specs.Turns.{Turn, all_turns}
use Rattle.yaml_scalars.specs.Quoted.{quoted, quoted_turn}
use Rattle.yaml_scalars.specs.Kind.{scalar}
use Rattle.yaml_nodes.specs.Part.{first, is_quote, is_on_one_line, plain_node, quoted_node}
use Rattle.yaml_nodes.specs.Flow.{flow_node, is_merge}
use Rattle.yaml_nodes.specs.Block.{line_end, lines_node, inline, begins_item, behind_plain, begins_key, behind_key, block_key}
use Rattle.yaml_print.specs.ScalarText.{needs_escape, is_text, is_one_line, is_plain, text_of_each, between, in_quotes, scalar_text}
use Rattle.yaml_print.specs.Sound.{Each}
use Rattle.yaml_print.proofs.BoolLemmas.{true_not_false, same, both_left, both_right, neither_left, neither_right, not_true}
use Rattle.yaml_print.proofs.PlainRead.{plain_shown}
use Rattle.yaml_print.proofs.NodeCases.{text_kind}
use Rattle.yaml_print.proofs.Shown.{Fine, is_shown, fine_append, graphs_fine}
use Rattle.yaml_print.proofs.QuotedRead.{left, left_at_meaning, Read, each_fine, text_read}
use Rattle.yaml_print.proofs.CharacterRead.{double_read, single_read}
use Rattle.yaml_print.proofs.LineRead.{IsHead, Below}
use Rattle.yaml_print.proofs.InlineRead.{order_mark, Ends, IsUnmarked, OneLine, one_line, one_line_head, one_line_no_item, plain_inline, plain_no_key, plain_key, plain_key_read, ended}

-- w is read as the key t
pub record Key (w t : Text) : Type 0 where
  pub fine : Fine w
  pub marks : (u : Text) → Ends u → IsUnmarked (w ++ u)
  pub head : (u : Text) → Ends u → IsHead (w ++ u)
  pub no_item : (u : Text) → begins_item (w ++ u) ≡ false
  pub begins : (u : Text) → may_follow_colon false u ≡ true → begins_key (w ++ 58 ∷ u) ≡ Ok true
  pub reads : (u : Text) → may_follow_colon false u ≡ true → block_key (w ++ 58 ∷ u) ≡ Ok (t, u)
  pub no_merge : (u : Text) → is_merge (w ++ 58 ∷ u) t ≡ false

-- w is read as the node v, where at least `low` collections may still stand in one another
pub record Value (low : ℕ) (w : Text) (v : Node) : Type 0 where
  pub fine : Fine w
  pub marks : (u : Text) → Ends u → IsUnmarked (w ++ u)
  pub head : (u : Text) → Ends u → IsHead (w ++ u)
  pub no_item : (u : Text) → begins_item (w ++ 10 ∷ u) ≡ false
  pub no_key : (u : Text) → begins_key (w ++ 10 ∷ u) ≡ Ok false
  pub reads : (depth least : ℕ) (u : Text) → low ≤ depth → Below least u → inline depth least (w ++ 10 ∷ u) ≡ Ok (v, u)

-- ---- plain

pub plain_value : (w : Text) (v : Node) → Fine w → OneLine w → ((k : ℕ) → scalar k w ≡ Ok v) → Value 0 w v
plain_value w v f l kind = record {
  fine = f;
  marks = l.marks;
  head = λ u e. one_line_head w u l e;
  no_item = λ u. one_line_no_item w (10 ∷ u) l;
  no_key = λ u. plain_no_key w u l;
  reads = λ depth least u some b. plain_inline depth least w u v l kind b;
}

merge_by : (a b : Bool) → b ≡ false → (not a && b) ≡ false
merge_by true b h = refl
merge_by false b h = h

pub plain_is_key : (w : Text) → Fine w → OneLine w → bytes_eq w (codes "<<") ≡ false → Key w w
plain_is_key w f l merge = record {
  fine = f;
  marks = l.marks;
  head = λ u e. one_line_head w u l e;
  no_item = λ u. one_line_no_item w u l;
  begins = λ u p. plain_key w u l p;
  reads = λ u p. plain_key_read w u l p;
  no_merge = λ u. merge_by (is_quote (w ++ 58 ∷ u)) (bytes_eq w (codes "<<")) merge;
}

-- ---- between quotes

abbrev ReadsQuoted : ℕ → Text → Type 0
ReadsQuoted quote t = (over : Bool) (u : Text) → eqb (slice_index u 0) 39 ≡ false → quoted quote over ((text_of_each (between quote) (chars t) ++ quote ∷ []) ++ u) ≡ Ok (t, u)

reads_quoted : (quote : ℕ) (Good : ℕ → Type 0) (t : Text) → IsUtf8 t
    → ((over : Bool) (f q : Text) (c : ℕ) (w : Text) → Good c → Read quote over f q c w)
    → ((over : Bool) (u f q : Text) → eqb (slice_index u 0) 39 ≡ false → left quote over f q (quote ∷ u) ≡ Ok (f ++ q, u))
    → Each Good (chars t) → ReadsQuoted quote t
reads_quoted quote Good t spelt step last good = λ over u e.
    ap (quoted quote over) (append_assoc (text_of_each (between quote) (chars t)) (quote ∷ []) u)
    ∙ text_read quote over Good t u spelt (step over) (λ f q. last over u f q e) good

each_any : (cs : List ℕ) → Each (λ c. Unit {0}) cs
each_any [] = tt
each_any (c ∷ cs) = (tt, each_any cs)

each_none : (cs : List ℕ) → list_any needs_escape cs ≡ false → Each (λ c. needs_escape c ≡ false) cs
each_none [] h = tt
each_none (c ∷ cs) h = (neither_left (needs_escape c) (list_any needs_escape cs) h, each_none cs (neither_right (needs_escape c) (list_any needs_escape cs) h))

double_end : (over : Bool) (u f q : Text) → eqb (slice_index u 0) 39 ≡ false → left 34 over f q (34 ∷ u) ≡ Ok (f ++ q, u)
double_end over u f q e = left_at_meaning 34 over f q u 34 refl

single_end : (over : Bool) (u f q : Text) → eqb (slice_index u 0) 39 ≡ false → left 39 over f q (39 ∷ u) ≡ Ok (f ++ q, u)
single_end over u f q e =
    let go : Turn Text → Step Text = λ r. cond r.0 (Ok r.1) (all_turns (quoted_turn 39 over) r.1.0 r.1.1) in
    left_at_meaning 39 over f q u 39 refl ∙ ap (λ v. go (cond v (false, ((f ++ q) ++ 39 ∷ [], drop 1 u)) (true, (f ++ q, u)))) e

double_reads : (t : Text) → IsUtf8 t → ReadsQuoted 34 t
double_reads t spelt = reads_quoted 34 (λ c. Unit {0}) t spelt (λ over f q c w g. double_read over f q c w) double_end (each_any (chars t))

single_reads : (t : Text) → IsUtf8 t → list_any needs_escape (chars t) ≡ false → ReadsQuoted 39 t
single_reads t spelt h = reads_quoted 39 (λ c. needs_escape c ≡ false) t spelt (λ over f q c w g. single_read over f q c w g) single_end (each_none (chars t) h)

quotes_fine : (quote : ℕ) (t : Text) → Fine (quote ∷ []) → Fine (text_of_each (between quote) (chars t)) → Fine (in_quotes quote t)
unfolding in_quotes
quotes_fine quote t q f = fine_append (quote ∷ []) (text_of_each (between quote) (chars t) ++ quote ∷ []) q (fine_append (text_of_each (between quote) (chars t)) (quote ∷ []) f q)

double_fine : (t : Text) → IsUtf8 t → Fine (in_quotes 34 t)
double_fine t spelt =
    quotes_fine 34 t (graphs_fine (34 ∷ []) refl)
    (each_fine 34 true (λ c. Unit {0}) (chars t) (λ f q c w g. double_read true f q c w) (each_any (chars t)) (scalars-chars t spelt))

single_fine : (t : Text) → IsUtf8 t → list_any needs_escape (chars t) ≡ false → Fine (in_quotes 39 t)
single_fine t spelt h =
    quotes_fine 39 t (graphs_fine (39 ∷ []) refl)
    (each_fine 39 true (λ c. needs_escape c ≡ false) (chars t) (λ f q c w g. single_read true f q c w g) (each_none (chars t) h) (scalars-chars t spelt))

-- ---- on one line

shown_by : (a b : Bool) → not (a || b) ≡ true → a ≡ false
shown_by true b h = absurd (true_not_false (sym h))
shown_by false b h = refl

no_feed : (w : Text) → list_all is_shown w ≡ true → list_any (λ b. eqb b 10) w ≡ false
no_feed [] h = refl
no_feed (b ∷ w) h =
    ap (λ v. v || list_any (λ c. eqb c 10) w) (shown_by (eqb b 10) _ (both_left (is_shown b) (list_all is_shown w) h))
    ∙ no_feed w (both_right (is_shown b) (list_all is_shown w) h)

on_one_line : (w u : Text) → Fine w → is_on_one_line (w ++ u) u ≡ true
on_one_line w u f =
    let len : length w ≡ length (w ++ u) - length u = omega (arith, length-append w u) in
    ap (λ t. not (list_any (λ b. eqb b 10) t)) (take_at w u (length (w ++ u) - length u) len) ∙ ap not (no_feed w f.shown)

abbrev IsQuote : ℕ → Type 0
IsQuote quote = ((eqb quote 39 || eqb quote 34) ≡ true) × ((eqb quote 91 || eqb quote 123) ≡ false)

quoted_inline : (quote depth least : ℕ) (t u : Text) → IsQuote quote → ReadsQuoted quote t → Below least u → inline depth least (in_quotes quote t ++ 10 ∷ u) ≡ Ok (nd.Text t, u)
unfolding inline in_quotes quoted_node
quoted_inline quote depth least t u is r b =
    let w = in_quotes quote t ++ 10 ∷ u in
    let q = quoted_node w (drop 1 w) >>= line_end in
    let d = cond (eqb (first w) 124 || eqb (first w) 62) (lines_node least w) (cond (begins_plain false w) (plain_node false least w >>= line_end) (syntax w)) in
    ap (λ x. cond x (flow_node depth w >>= line_end) (cond (is_quote w) q d)) is.1
    ∙ ap (λ x. cond x q d) is.0
    ∙ ap (λ o. o >>= (λ s. Ok (nd.Text s.0, s.1)) >>= line_end) (r true (10 ∷ u) refl)
    ∙ ended (nd.Text t) u b.line.next

quoted_no_key : (quote : ℕ) (t u : Text) → IsQuote quote → ReadsQuoted quote t → begins_key (in_quotes quote t ++ 10 ∷ u) ≡ Ok false
unfolding begins_key in_quotes
quoted_no_key quote t u is r =
    let w = in_quotes quote t ++ 10 ∷ u in
    let f : Text × Text → Outcome Bool = λ s. Ok (is_colon false (past_spaces s.1) && is_on_one_line w s.1) in
    ap (λ x. cond x (quoted quote true (drop 1 w) >>= f) (Ok (begins_plain false w && is_colon false (behind_plain w)))) is.0
    ∙ ap (λ o. o >>= f) (r true (10 ∷ u) refl)

quoted_key : (quote : ℕ) (t u : Text) → IsQuote quote → ReadsQuoted quote t → Fine (in_quotes quote t) → may_follow_colon false u ≡ true → begins_key (in_quotes quote t ++ 58 ∷ u) ≡ Ok true
unfolding begins_key in_quotes
quoted_key quote t u is r fine p =
    let w = in_quotes quote t ++ 58 ∷ u in
    let f : Text × Text → Outcome Bool = λ s. Ok (is_colon false (past_spaces s.1) && is_on_one_line w s.1) in
    ap (λ x. cond x (quoted quote true (drop 1 w) >>= f) (Ok (begins_plain false w && is_colon false (behind_plain w)))) is.0
    ∙ ap (λ o. o >>= f) (r true (58 ∷ u) refl)
    ∙ ap (λ x. Ok (x && is_on_one_line w (58 ∷ u))) p
    ∙ ap Ok (on_one_line (in_quotes quote t) (58 ∷ u) fine)

quoted_key_read : (quote : ℕ) (t u : Text) → IsQuote quote → ReadsQuoted quote t → may_follow_colon false u ≡ true → block_key (in_quotes quote t ++ 58 ∷ u) ≡ Ok (t, u)
unfolding block_key in_quotes
quoted_key_read quote t u is r p =
    let w = in_quotes quote t ++ 58 ∷ u in
    let f : Text × Text → Step Text = λ s. behind_key (is_colon false (past_spaces s.1)) s.0 (past_spaces s.1) in
    let k = behind_key (is_colon false (behind_plain w)) (take (plain_len false false w) w) (behind_plain w) in
    ap (λ x. cond x (quoted quote false (drop 1 w) >>= f) (cond (begins_plain false w) k (syntax w))) is.0
    ∙ ap (λ o. o >>= f) (r false (58 ∷ u) refl)
    ∙ ap (λ x. behind_key x t (58 ∷ u)) p

-- ---- a text as it is written

at_34 : IsQuote 34
at_34 = (refl, refl)

at_39 : IsQuote 39
at_39 = (refl, refl)

double_key : (t : Text) → ReadsQuoted 34 t → Fine (in_quotes 34 t) → Key (in_quotes 34 t) t
unfolding in_quotes
double_key t r f = record {
  fine = f;
  marks = λ u e. record { dashes = refl; dots = refl; order = refl };
  head = λ u e. (refl, refl, refl, refl);
  no_item = λ u. refl;
  begins = λ u p. quoted_key 34 t u at_34 r f p;
  reads = λ u p. quoted_key_read 34 t u at_34 r p;
  no_merge = λ u. refl;
}

single_key : (t : Text) → ReadsQuoted 39 t → Fine (in_quotes 39 t) → Key (in_quotes 39 t) t
unfolding in_quotes
single_key t r f = record {
  fine = f;
  marks = λ u e. record { dashes = refl; dots = refl; order = refl };
  head = λ u e. (refl, refl, refl, refl);
  no_item = λ u. refl;
  begins = λ u p. quoted_key 39 t u at_39 r f p;
  reads = λ u p. quoted_key_read 39 t u at_39 r p;
  no_merge = λ u. refl;
}

double_value : (t : Text) → ReadsQuoted 34 t → Fine (in_quotes 34 t) → Value 0 (in_quotes 34 t) (nd.Text t)
unfolding in_quotes
double_value t r f = record {
  fine = f;
  marks = λ u e. record { dashes = refl; dots = refl; order = refl };
  head = λ u e. (refl, refl, refl, refl);
  no_item = λ u. refl;
  no_key = λ u. quoted_no_key 34 t u at_34 r;
  reads = λ depth least u some b. quoted_inline 34 depth least t u at_34 r b;
}

single_value : (t : Text) → ReadsQuoted 39 t → Fine (in_quotes 39 t) → Value 0 (in_quotes 39 t) (nd.Text t)
unfolding in_quotes
single_value t r f = record {
  fine = f;
  marks = λ u e. record { dashes = refl; dots = refl; order = refl };
  head = λ u e. (refl, refl, refl, refl);
  no_item = λ u. refl;
  no_key = λ u. quoted_no_key 39 t u at_39 r;
  reads = λ depth least u some b. quoted_inline 39 depth least t u at_39 r b;
}

plain_parts : (t : Text) → is_plain t ≡ true → (is_one_line t ≡ true) × (bytes_eq t (codes "<<") ≡ false) × (is_text (scalar 0 t) ≡ true)
unfolding is_plain
plain_parts t h =
    let ab = both_left (is_one_line t && not (bytes_eq t (codes "<<"))) (is_text (scalar 0 t)) h in (
      both_left (is_one_line t) (not (bytes_eq t (codes "<<"))) ab,
      not_true (bytes_eq t (codes "<<")) (both_right (is_one_line t) (not (bytes_eq t (codes "<<"))) ab),
      both_right (is_one_line t && not (bytes_eq t (codes "<<"))) (is_text (scalar 0 t)) h,
    )

pub one_line_fine : (t : Text) → IsUtf8 t → OneLine t → Fine t
one_line_fine t spelt l = record { shown = plain_shown false t l.whole; spelt = spelt }

end_by : (a : Bool) → (a && false) ≡ false
end_by true = refl
end_by false = refl

ends_by : (a b : Bool) → (a && (b && false)) ≡ false
ends_by true b = end_by b
ends_by false b = refl

marked_chars : (t : Text) → list_any needs_escape (chars (239 ∷ 187 ∷ 191 ∷ t)) ≡ true
unfolding chars
marked_chars [] = refl
marked_chars (b ∷ t) = refl

marked_by : (a b c : ℕ) (t : Text) → list_any needs_escape (chars (a ∷ b ∷ c ∷ t)) ≡ false → (x y z : Bool) → eqb a 239 ≡ x → eqb b 187 ≡ y → eqb c 191 ≡ z → (x && (y && (z && true))) ≡ false
marked_by a b c t h true true true ha hb hc =
    let e : a ∷ b ∷ c ∷ t ≡ 239 ∷ 187 ∷ 191 ∷ t =
    ap (λ k. k ∷ b ∷ c ∷ t) (same a 239 ha) ∙ ap (λ k. 239 ∷ k ∷ c ∷ t) (same b 187 hb) ∙ ap (λ k. 239 ∷ 187 ∷ k ∷ t) (same c 191 hc) in
    absurd (true_not_false (sym (marked_chars t) ∙ ap (λ w. list_any needs_escape (chars w)) (sym e) ∙ h))
marked_by a b c t h true true false ha hb hc = refl
marked_by a b c t h true false z ha hb hc = refl
marked_by a b c t h false y z ha hb hc = refl

-- the byte order mark is a character that needs an escape
no_order_mark : (t : Text) → list_any needs_escape (chars t) ≡ false → bytes_eq (take 3 t) order_mark ≡ false
no_order_mark [] h = refl
no_order_mark (a ∷ []) h = end_by (eqb a 239)
no_order_mark (a ∷ b ∷ []) h = ends_by (eqb a 239) (eqb b 187)
no_order_mark (a ∷ b ∷ c ∷ t) h = marked_by a b c t h (eqb a 239) (eqb b 187) (eqb c 191) refl refl refl

written_by : (t : Text) (escapes is : Bool) → list_any needs_escape (chars t) ≡ escapes → is_plain t ≡ is
    → cond escapes (in_quotes 34 t) (cond is t (in_quotes 39 t)) ≡ scalar_text t
unfolding scalar_text
written_by t escapes is h k = sym (ap (λ v. cond v (in_quotes 34 t) (cond (is_plain t) t (in_quotes 39 t))) h ∙ ap (λ v. cond escapes (in_quotes 34 t) (cond v t (in_quotes 39 t))) k)

key_by : (t : Text) → IsUtf8 t → (escapes is : Bool) → list_any needs_escape (chars t) ≡ escapes → is_plain t ≡ is → Key (cond escapes (in_quotes 34 t) (cond is t (in_quotes 39 t))) t
key_by t spelt true is h k = double_key t (double_reads t spelt) (double_fine t spelt)
key_by t spelt false true h k =
    let p = plain_parts t k in
    let l = one_line t p.0 (no_order_mark t h) in
    plain_is_key t (one_line_fine t spelt l) l p.1
key_by t spelt false false h k = single_key t (single_reads t spelt h) (single_fine t spelt h)

value_by : (t : Text) → IsUtf8 t → (escapes is : Bool) → list_any needs_escape (chars t) ≡ escapes → is_plain t ≡ is
    → Value 0 (cond escapes (in_quotes 34 t) (cond is t (in_quotes 39 t))) (nd.Text t)
value_by t spelt true is h k = double_value t (double_reads t spelt) (double_fine t spelt)
value_by t spelt false true h k =
    let p = plain_parts t k in
    let l = one_line t p.0 (no_order_mark t h) in
    plain_value t (nd.Text t) (one_line_fine t spelt l) l (λ n. text_kind n t p.2)
value_by t spelt false false h k = single_value t (single_reads t spelt h) (single_fine t spelt h)

pub written_key : (t : Text) → IsUtf8 t → Key (scalar_text t) t
written_key t spelt =
    let e = list_any needs_escape (chars t) in
    subst (λ w. Key w t) (written_by t e (is_plain t) refl refl) (key_by t spelt e (is_plain t) refl refl)

pub written_value : (t : Text) → IsUtf8 t → Value 0 (scalar_text t) (nd.Text t)
written_value t spelt =
    let e = list_any needs_escape (chars t) in
    subst (λ w. Value 0 w (nd.Text t)) (written_by t e (is_plain t) refl refl) (value_by t spelt e (is_plain t) refl refl)
