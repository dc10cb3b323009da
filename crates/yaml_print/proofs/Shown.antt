-- Parts of a line: UTF-8 without line ends or other bytes below the space.
use Rattle.std.proofs.Common.{◌≡◌, ℕ, zero, suc, ◌<◌, ◌≤◌, eqb, ltb, leb, Bool, true, false, not, ◌||◌, ◌&&◌, [], ◌∷◌, ◌++◌, refl, ap, sym, ◌∙◌, arith}
use Rattle.std.specs.List.{list_all}
use Rattle.std.specs.Str.{IsUtf8, IsAscii}
use Rattle.std.proofs.lemmas.Bool.Decides.{nat_tests}
use Rattle.std.proofs.lemmas.List.Folds.{list_all-append}
use Rattle.std.proofs.lemmas.Str.{IsUtf8-append, IsUtf8-from_ascii}
use Rattle.yaml_text.specs.Outcome.{Text}
use Rattle.yaml_text.specs.Line.{is_bad}
use Rattle.yaml_scalars.specs.Quoted.{is_literal}
use Rattle.yaml_print.proofs.BoolLemmas.{true_not_false, both_left, both_right, both}

abbrev pub is_shown : ℕ → Bool
is_shown b = not (eqb b 10 || is_bad b)

pub record Fine (w : Text) : Type 0 where
  pub shown : list_all is_shown w ≡ true
  pub spelt : IsUtf8 w

pub fine_append : (v w : Text) → Fine v → Fine w → Fine (v ++ w)
fine_append v w f g = record {
  shown = list_all-append is_shown v w ∙ both (list_all is_shown v) (list_all is_shown w) f.shown g.shown;
  spelt = IsUtf8-append v w f.spelt g.spelt;
}

-- ---- from the space to the tilde

abbrev pub is_graph : ℕ → Bool
is_graph b = leb 32 b && ltb b 127

graph_shown : (b : ℕ) → is_graph b ≡ true → is_shown b ≡ true
graph_shown b h =
    let more : 32 ≤ b = (let e = both_left (leb 32 b) (ltb b 127) h in grind (arith, nat_tests)) in
    let less : b < 127 = (let e = both_right (leb 32 b) (ltb b 127) h in grind (arith, nat_tests)) in
    let a : eqb b 10 ≡ false = grind (arith, nat_tests) in
    let c : ltb b 32 ≡ false = grind (arith, nat_tests) in
    let d : eqb b 127 ≡ false = grind (arith, nat_tests) in
    ap (λ v. not (v || is_bad b)) a ∙ ap (λ v. not ((v && not (eqb b 9 || eqb b 10)) || eqb b 127)) c ∙ ap not d

graphs_shown : (w : Text) → list_all is_graph w ≡ true → list_all is_shown w ≡ true
graphs_shown [] h = refl
graphs_shown (b ∷ w) h =
    both (is_shown b) (list_all is_shown w) (graph_shown b (both_left (is_graph b) (list_all is_graph w) h)) (graphs_shown w (both_right (is_graph b) (list_all is_graph w) h))

graph_ascii : (b : ℕ) → is_graph b ≡ true → b < 128
graph_ascii b h = let e = both_right (leb 32 b) (ltb b 127) h in grind (arith, nat_tests)

graphs_ascii : (w : Text) → list_all is_graph w ≡ true → IsAscii w
graphs_ascii [] h i = omega arith
graphs_ascii (b ∷ w) h zero = graph_ascii b (both_left (is_graph b) (list_all is_graph w) h)
graphs_ascii (b ∷ w) h (suc i) = graphs_ascii w (both_right (is_graph b) (list_all is_graph w) h) i

pub graphs_fine : (w : Text) → list_all is_graph w ≡ true → Fine w
graphs_fine w h = record { shown = graphs_shown w h; spelt = IsUtf8-from_ascii w (graphs_ascii w h) }

-- ---- bytes that stand for themselves between quotes

shown_by : (a b c d : Bool) → not (((a || b) || c) || d) ≡ true → not (b || c) ≡ true
shown_by true b c d h = absurd (true_not_false (sym h))
shown_by false true c d h = absurd (true_not_false (sym h))
shown_by false false true d h = absurd (true_not_false (sym h))
shown_by false false false d h = refl

pub literal_shown : (quote : ℕ) (w : Text) → list_all (is_literal quote) w ≡ true → list_all is_shown w ≡ true
literal_shown quote [] h = refl
literal_shown quote (b ∷ w) h =
    both (is_shown b) (list_all is_shown w)
    (shown_by (eqb b quote) (eqb b 10) (is_bad b) (eqb quote 34 && eqb b 92) (both_left (is_literal quote b) (list_all (is_literal quote) w) h))
    (literal_shown quote w (both_right (is_literal quote b) (list_all (is_literal quote) w) h))
