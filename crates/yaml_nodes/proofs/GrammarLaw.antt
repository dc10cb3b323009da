-- The grammar of a whole text and reading it give the same, for each text.
use Rattle.std.proofs.Common.{◌≡◌, ◌<◌, eqb, ne_eqb, true, false, [], ◌∷◌, length, take, drop, Result, Ok, Err, ◌∙◌, inl, inr, refl, sym, ap, subst, arith}
use Rattle.std.proofs.lemmas.Bool.{cases_Bool}
use Rattle.dvc_base.specs.declared.node.Node.{Node}
use Rattle.dvc_base.specs.declared.node.Node.TheVariants as nd
use Rattle.dvc_base.specs.declared.node.YamlFault.{YamlFault}
use Rattle.yaml_text.specs.declared.refusal.Refusal.{Refusal}
use Rattle.yaml_text.specs.Outcome.{Text, Outcome, ◌>>=◌, syntax}
use Rattle.yaml_text.specs.Line.{spaces, past_spaces, rest_of_line, first_line, next_line, is_marker}
use Rattle.yaml_text.specs.Source.{source, body_len}
use Rattle.yaml_text.specs.Rules.{IsRest, IsFirst}
use Rattle.yaml_text.proofs.OutcomeLemmas.{Gives, given}
use Rattle.yaml_text.proofs.RuleLemmas.{rest_sound, rest_total, first_line_sound, first_total, next_sound, next_total}
use Rattle.yaml_nodes.specs.Block.{block}
use Rattle.yaml_nodes.specs.Grammar.{IsBlock}
use Rattle.yaml_nodes.specs.DocumentGrammar as g
use Rattle.yaml_nodes.specs.Document as spec
use Rattle.yaml_nodes.proofs.FlowSoundness.{below_sound}
use Rattle.yaml_nodes.proofs.FlowTotal.{below_total}
use Rattle.yaml_nodes.proofs.BlockSoundness.{block_sound}
use Rattle.yaml_nodes.proofs.BlockTotal.{block_total}

-- ---- the document

abbrev start : Text → Outcome Text
start t = first_line t >>= spec.past_marker

marker_by : (t u : Text) → first_line t ≡ Ok u → is_marker u ≡ true → start t ≡ (rest_of_line false (drop 3 u) >>= next_line)
marker_by t u a b = cc

unmarked_by : (t u : Text) → first_line t ≡ Ok u → is_marker u ≡ false → start t ≡ next_line u
unmarked_by t u a b = cc

start_sound : (t : Text) (o : Outcome Text) → g.IsStart t o → start t ≡ o
start_sound t o (g.bad_comment {e = e} a) = let d = first_line_sound t (Err e) a in cc
start_sound t o (g.behind_marker {u = u} a b c) = marker_by t u (first_line_sound t (Ok u) a) b ∙ below_sound c
start_sound t o (g.unmarked {u = u} a b c) = unmarked_by t u (first_line_sound t (Ok u) a) b ∙ next_sound u o c

start_total : (t : Text) → Gives (g.IsStart t)
start_total t =
    elim (given (IsFirst t t) (first_total t)) [
      | inl u ↦ elim (cases_Bool (is_marker u.0))
          [ inl b ↦ let s = below_total (drop 3 u.0) in (s.0, g.behind_marker u.1 b s.1) | inr b ↦ let n = next_total u.0 in (n.0, g.unmarked u.1 b n.1) ]
      | inr e ↦ (Err e.0, g.bad_comment e.1)
    ]

root_is : (u : Text) → 0 < length u → spec.root u ≡ (block spec.max_depth 0 (spaces u) (past_spaces u) >>= spec.sole_node)
root_is u h = let d : eqb (length u) 0 ≡ false = ne_eqb (length u) 0 (λ k. absurd (omega arith)) in cc

bad_start : (t : Text) (e : Refusal) → start t ≡ Err e → spec.document t ≡ Err e
unfolding spec.document
bad_start t e a = ap (λ o. o >>= spec.root) a

root_at : (t u : Text) (o : Outcome Node) → start t ≡ Ok u → spec.root u ≡ o → spec.document t ≡ o
unfolding spec.document
root_at t u o a b = ap (λ o. o >>= spec.root) a ∙ b

bad_node : (u : Text) (e : Refusal) → 0 < length u → block spec.max_depth 0 (spaces u) (past_spaces u) ≡ Err e → spec.root u ≡ Err e
bad_node u e h b = root_is u h ∙ ap (λ o. o >>= spec.sole_node) b

node_at : (u : Text) (r : Node × Text) → 0 < length u → block spec.max_depth 0 (spaces u) (past_spaces u) ≡ Ok r → spec.root u ≡ spec.sole_node r
node_at u r h b = root_is u h ∙ ap (λ o. o >>= spec.sole_node) b

behind : (r : Node × Text) → 0 < length r.1 → spec.sole_node r ≡ syntax r.1
behind r h = let d : eqb (length r.1) 0 ≡ false = ne_eqb (length r.1) 0 (λ k. absurd (omega arith)) in cc

pub document_sound : (t : Text) (o : Outcome Node) → g.IsDocument t o → spec.document t ≡ o
document_sound t o (g.bad_start {e = e} s) = bad_start t e (start_sound t (Err e) s)
document_sound t o (g.no_node s) = root_at t [] (Ok nd.Null) (start_sound t (Ok []) s) refl
document_sound t o (g.bad_node {u = u} {e = e} s h b) =
    root_at t u (Err e) (start_sound t (Ok u) s) (bad_node u e h (block_sound spec.max_depth 0 (spaces u) (past_spaces u) (Err e) b))
document_sound t o (g.one_node {u = u} {n = n} s h b) =
    root_at t u (Ok n) (start_sound t (Ok u) s) (node_at u (n, []) h (block_sound spec.max_depth 0 (spaces u) (past_spaces u) (Ok (n, [])) b))
document_sound t o (g.text_behind {u = u} {r = r} s h b k) =
    root_at t u (syntax r.1) (start_sound t (Ok u) s) (node_at u r h (block_sound spec.max_depth 0 (spaces u) (past_spaces u) (Ok r) b) ∙ behind r k)

node_total : (t u : Text) (n : Node) (rest : Text) → g.IsStart t (Ok u) → 0 < length u → IsBlock spec.max_depth 0 (spaces u) (past_spaces u) (Ok (n, rest)) → Gives (g.IsDocument t)
node_total t u n [] s h b = (Ok n, g.one_node s h b)
node_total t u n (c ∷ rest) s h b = (syntax (c ∷ rest), g.text_behind s h b (omega arith))

root_total : (t u : Text) → g.IsStart t (Ok u) → Gives (g.IsDocument t)
root_total t [] s = (Ok nd.Null, g.no_node s)
root_total t (c ∷ u) s =
    let some : 0 < length (c ∷ u) = omega arith in
    elim (given (IsBlock spec.max_depth 0 (spaces (c ∷ u)) (past_spaces (c ∷ u))) (block_total spec.max_depth 0 (spaces (c ∷ u)) (past_spaces (c ∷ u))))
    [ inl r ↦ node_total t (c ∷ u) r.0.0 r.0.1 s some r.1 | inr e ↦ (Err e.0, g.bad_node s some e.1) ]

pub document_total : (t : Text) → Gives (g.IsDocument t)
document_total t = elim (given (g.IsStart t) (start_total t)) [ inl u ↦ root_total t u.0 u.1 | inr e ↦ (Err e.0, g.bad_start e.1) ]

pub document_complete : (t : Text) → g.IsDocument t (spec.document t)
document_complete t = let p = document_total t in subst (λ o. g.IsDocument t o) (sym (document_sound t p.0 p.1)) p.1

-- ---- behind the document

tail_some : (t : Text) → 0 < length t → spec.tail t ≡ (rest_of_line false (drop 3 t) >>= first_line)
unfolding spec.tail
tail_some t h = let d : eqb (length t) 0 ≡ false = ne_eqb (length t) 0 (λ k. absurd (omega arith)) in cc

no_tail : spec.tail [] ≡ Ok []
unfolding spec.tail
no_tail = refl

tail_sound : (t : Text) (o : Outcome Text) → g.IsTail t o → spec.tail t ≡ o
tail_sound t o g.no_tail = no_tail
tail_sound t o (g.bad_marker {e = e} h r) = tail_some t h ∙ ap (λ x. x >>= first_line) (rest_sound false (drop 3 t) (Err e) r)
tail_sound t o (g.end_marker {u = u} h r s) = tail_some t h ∙ ap (λ x. x >>= first_line) (rest_sound false (drop 3 t) (Ok u) r) ∙ first_line_sound u o s

tail_total : (t : Text) → Gives (g.IsTail t)
tail_total [] = (Ok [], g.no_tail)
tail_total (b ∷ t) =
    elim (given (IsRest false (drop 3 (b ∷ t))) (rest_total false (drop 3 (b ∷ t))))
    [ inl u ↦ let s = first_total u.0 in (s.0, g.end_marker (omega arith) u.1 s.1) | inr e ↦ (Err e.0, g.bad_marker (omega arith) e.1) ]

-- ---- the whole text

bad_document : (t : Text) (e : Refusal) → spec.document (take (body_len t) t) ≡ Err e → spec.read t ≡ Err (spec.fault_on_line (spec.refusal_line t (take (body_len t) t)) e)
unfolding spec.read
bad_document t e a = ap (λ o. spec.with_body t (take (body_len t) t) (drop (body_len t) t) o) a

document_at : (t : Text) (n : Node) → spec.document (take (body_len t) t) ≡ Ok n → spec.read t ≡ spec.with_tail t n (spec.tail (drop (body_len t) t))
unfolding spec.read
document_at t n a = ap (λ o. spec.with_body t (take (body_len t) t) (drop (body_len t) t) o) a

pub whole_sound : (t : Text) (o : Result Node YamlFault) → g.IsWhole t o → spec.read t ≡ o
whole_sound t o (g.bad_document {e = e} d) = bad_document t e (document_sound (take (body_len t) t) (Err e) d)
whole_sound t o (g.bad_tail {n = n} {e = e} d k) = document_at t n (document_sound (take (body_len t) t) (Ok n) d) ∙ ap (spec.with_tail t n) (tail_sound (drop (body_len t) t) (Err e) k)
whole_sound t o (g.a_document {u = u} {n = n} d k) =
    document_at t n (document_sound (take (body_len t) t) (Ok n) d) ∙ ap (spec.with_tail t n) (tail_sound (drop (body_len t) t) (Ok u) k)

whole_total : (t : Text) → (o : Result Node YamlFault) × g.IsWhole t o
whole_total t =
    elim (given (g.IsDocument (take (body_len t) t)) (document_total (take (body_len t) t))) [
      | inl n ↦ elim (given (g.IsTail (drop (body_len t) t)) (tail_total (drop (body_len t) t)))
          [ inl u ↦ (Ok n.0, g.a_document n.1 u.1) | inr e ↦ (Err (spec.fault_on_line (spec.refusal_line t t) e.0), g.bad_tail n.1 e.1) ]
      | inr e ↦ (Err (spec.fault_on_line (spec.refusal_line t (take (body_len t) t)) e.0), g.bad_document e.1)
    ]

pub yaml_sound : (bytes : Text) (o : Result Node YamlFault) → g.IsYaml bytes o → spec.parse bytes ≡ o
unfolding spec.parse
yaml_sound bytes o y = whole_sound (source bytes) o y

pub yaml_complete : (bytes : Text) → g.IsYaml bytes (spec.parse bytes)
unfolding spec.parse
yaml_complete bytes = let p = whole_total (source bytes) in subst (λ o. g.IsWhole (source bytes) o) (sym (whole_sound (source bytes) p.0 p.1)) p.1

pub parsed : (bytes : Text) (r : Result Node YamlFault) → spec.IsAnswer r (spec.parse bytes) → g.IsParsed bytes r
parsed bytes (Ok n) h = subst (λ o. g.IsYaml bytes o) h (yaml_complete bytes)
parsed bytes (Err e) (inl h) = inl h
parsed bytes (Err e) (inr h) = inr (subst (λ o. g.IsYaml bytes o) h (yaml_complete bytes))
