-- The text of a node alone, as a whole text.
use Rattle.std.proofs.Common.{◌≡◌, ℕ, suc, ◌<◌, eqb, Bool, true, false, cond, not, ◌&&◌, [], ◌∷◌, length, take, drop, Ok, refl, ap, sym, subst, ◌∙◌, arith}
use Rattle.std.specs.Prelude.{slice_index}
use Rattle.std.specs.Str.{IsUtf8}
use Rattle.std.proofs.Math.Seq.{take-length, drop-length}
use Rattle.std.proofs.lemmas.Bool.Decides.{nat_tests}
use Rattle.dvc_base.specs.declared.node.Node.{Node, out-Node}
use Rattle.dvc_base.specs.declared.node.Node.TheVariants as nd
use Rattle.yaml_text.specs.Outcome.{Text, ◌>>=◌}
use Rattle.yaml_text.specs.Line.{is_rest_empty, spaces, past_spaces, rest_of_line, next_line, is_marker}
use Rattle.yaml_text.specs.Source.{past_mark, with_line_feeds, source, is_all_blank, body_from, body_len}
use Rattle.yaml_text.proofs.SourceLemmas.{source_whole}
use Rattle.yaml_nodes.specs.Block.{block}
use Rattle.yaml_nodes.specs.Document.{max_depth, sole_node, root, past_marker, document, tail, with_body, read, parse}
use Rattle.yaml_print.specs.Print.{node_text, print_text}
use Rattle.yaml_print.specs.Sound.{IsSound, AreTexts, IsPrintable}
use Rattle.yaml_print.proofs.BoolLemmas.{both_left, both_right, not_true}
use Rattle.yaml_print.proofs.QuoteLemmas.{append_nil}
use Rattle.yaml_print.proofs.LineRead.{IsHead, head_line, no_spaces, past_spaces_at, next_at, below_end}
use Rattle.yaml_print.proofs.InlineRead.{IsUnmarked}
use Rattle.yaml_print.proofs.ItemsRead.{below_stops}
use Rattle.yaml_print.proofs.NodeRead.{reads_all}
use Rattle.yaml_print.proofs.TidyText.{is_dotted, tidy, begin_tidy, tidy_all}

-- ---- the text stands for itself

same_feeds : (begins : Bool) (t : Text) → tidy begins t ≡ true → with_line_feeds t ≡ t
same_feeds begins [] h = refl
same_feeds begins (b ∷ t) h =
    let a = both_left (not (eqb b 13) && not (begins && is_dotted (b ∷ t))) (tidy (eqb b 10) t) h in
    let no_return = not_true (eqb b 13) (both_left (not (eqb b 13)) (not (begins && is_dotted (b ∷ t))) a) in
    ap (λ v. cond (v && eqb (slice_index t 0) 10) (with_line_feeds t) (b ∷ with_line_feeds t)) no_return
    ∙ ap (λ u. b ∷ u) (same_feeds (eqb b 10) t (both_right (not (eqb b 13) && not (begins && is_dotted (b ∷ t))) (tidy (eqb b 10) t) h))

no_last_by : (begins d e f : Bool) → (begins && d) ≡ false → (begins && ((d && e) && f)) ≡ false
no_last_by true d e f h = ap (λ v. (v && e) && f) h
no_last_by false d e f h = refl

whole_body : (begins : Bool) (t : Text) → tidy begins t ≡ true → body_from begins t ≡ length t
whole_body begins [] h = refl
whole_body begins (b ∷ t) h =
    let a = both_left (not (eqb b 13) && not (begins && is_dotted (b ∷ t))) (tidy (eqb b 10) t) h in
    let no_dots = not_true (begins && is_dotted (b ∷ t)) (both_right (not (eqb b 13)) (not (begins && is_dotted (b ∷ t))) a) in
    ap (λ v. cond v 0 (suc (body_from (eqb b 10) t))) (no_last_by begins (is_dotted (b ∷ t)) (is_rest_empty (drop 3 (b ∷ t))) (is_all_blank false (drop 3 (b ∷ t))) no_dots)
    ∙ ap suc (whole_body (eqb b 10) t (both_right (not (eqb b 13) && not (begins && is_dotted (b ∷ t))) (tidy (eqb b 10) t) h))

same_mark : (t : Text) → IsUnmarked t → past_mark t ≡ t
same_mark t m = ap (λ v. cond v (drop 3 t) t) m.order

same_source : (t : Text) → IsUtf8 t → IsUnmarked t → tidy true t ≡ true → source t ≡ t
same_source t spelt m h = source_whole t spelt ∙ ap with_line_feeds (same_mark t m) ∙ same_feeds true t h

-- ---- the document

no_marker : (t : Text) → IsHead t → is_marker t ≡ false
no_marker [] h = absurd h
no_marker (b ∷ t) h = h.3

some_text : (t : Text) → IsHead t → eqb (length t) 0 ≡ false
some_text [] h = absurd h
some_text (b ∷ t) h = let e : 0 < length (b ∷ t) = omega arith in grind (arith, nat_tests)

root_read : (t : Text) (v : Node) → IsHead t → block max_depth 0 0 t ≡ Ok (v, []) → root t ≡ Ok v
root_read t v h is =
    ap (λ c. cond c (Ok nd.Null) (block max_depth 0 (spaces t) (past_spaces t) >>= sole_node)) (some_text t h)
    ∙ ap (λ k. block max_depth 0 k (past_spaces t) >>= sole_node) (no_spaces t h)
    ∙ ap (λ u. block max_depth 0 0 u >>= sole_node) (past_spaces_at 0 t h)
    ∙ ap (λ o. o >>= sole_node) is

document_read : (t : Text) (v : Node) → IsHead t → block max_depth 0 0 t ≡ Ok (v, []) → document t ≡ Ok v
unfolding document
document_read t v h is =
    ap (λ o. o >>= past_marker >>= root) (head_line t t h)
    ∙ ap (λ c. cond c (rest_of_line false (drop 3 t) >>= next_line) (next_line t) >>= root) (no_marker t h)
    ∙ ap (λ o. o >>= root) (next_at 0 t h)
    ∙ root_read t v h is

read_by : (t : Text) (v : Node) → tidy true t ≡ true → document t ≡ Ok v → read t ≡ Ok v
unfolding read body_len tail
read_by t v h is =
    ap (λ n. with_body t (take n t) (drop n t) (document (take n t))) (whole_body true t h)
    ∙ ap (λ u. with_body t u (drop (length t) t) (document u)) (take-length t)
    ∙ ap (λ u. with_body t t u (document t)) (drop-length t)
    ∙ ap (with_body t t []) is

parse_by : (t : Text) (v : Node) → source t ≡ t → read t ≡ Ok v → parse t ≡ Ok v
unfolding parse
parse_by t v h is = ap read h ∙ is

block_read : (d : ℕ) (v : Node) → IsSound d v → AreTexts d v → block d 0 0 (node_text d 0 v) ≡ Ok (v, [])
block_read d v sound texts =
    ap (block d 0 0) (sym (append_nil (node_text d 0 v)))
    ∙ (reads_all d).reads v 0 0 [] sound texts (below_stops (out-Node v) 0 0 0 [] (omega arith) (omega arith) (below_end 0))

tidy_text : (d : ℕ) (v : Node) → IsSound d v → AreTexts d v → tidy true (node_text d 0 v) ≡ true
tidy_text d v sound texts =
    let l = (tidy_all d).lines v 0 sound texts in
    let e = append_nil (node_text d 0 v) in
    begin_tidy (node_text d 0 v) (ap is_dotted (sym e) ∙ l.begins []) (ap (tidy false) (sym e) ∙ l.tidied [] refl)

node_parsed : (d : ℕ) (v : Node) → d ≡ max_depth → IsSound d v → AreTexts d v → parse (node_text d 0 v) ≡ Ok v
node_parsed d v is sound texts =
    let t = node_text d 0 v in
    let e = append_nil t in
    let r = reads_all d in
    let head : IsHead t = subst (λ w. IsHead w) e (r.heads v 0 [] sound texts) in
    let marks : IsUnmarked t = subst (λ w. IsUnmarked w) e (r.marks v 0 [] sound texts) in
    let h = tidy_text d v sound texts in
    let b : block max_depth 0 0 t ≡ Ok (v, []) = ap (λ k. block k 0 0 t) (sym is) ∙ block_read d v sound texts in
    parse_by t v (same_source t (((tidy_all d).lines v 0 sound texts).spelt) marks h) (read_by t v h (document_read t v head b))

-- what is printed is read back
pub read_back : (v : Node) → IsPrintable v → AreTexts max_depth v → parse (print_text v) ≡ Ok v
unfolding print_text
read_back v sound texts = node_parsed max_depth v refl sound texts
