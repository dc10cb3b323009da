-- Nodes opened and closed again, and what a plain scalar stands for.
use Rattle.std.proofs.Common.{◌≡◌, ℕ, Bool, true, false, cond, List, Option, Some, None, Ok, Err, refl, ap, sym, ◌∙◌}
use Rattle.std.specs.Prelude.{option_map, ℤ, drop}
use Rattle.dvc_base.specs.declared.node.Node.{Node}
use Rattle.dvc_base.specs.declared.node.Node.TheOpen.{Node-F}
use Rattle.dvc_base.specs.declared.node.Node.TheViews.{out-Node, roll-Node, out-roll-Node, roll-out-Node}
use Rattle.dvc_base.specs.declared.node.Node.TheVariants as nd
use Rattle.dvc_base.specs.declared.node.Pair.{Pair}
use Rattle.yaml_text.specs.declared.refusal.Refusal.{Refusal}
use Rattle.yaml_text.specs.declared.refusal.Refusal.TheVariants.{TooWide}
use Rattle.yaml_text.specs.Outcome.{Text, Outcome}
use Rattle.yaml_scalars.specs.Number.{number, past_sign, is_negative, is_wide, parts_of}
use Rattle.yaml_scalars.specs.Kind.{is_null, is_true, is_false, is_octal, is_hexadecimal, is_decimal_whole, with_sign, fits_whole, whole, decimal, numeral, scalar}
use Rattle.yaml_print.specs.ScalarText.{Layer, is_text_layer, is_text}
use Rattle.yaml_print.proofs.BoolLemmas.{true_not_false}

pub back : (v : Node) → roll-Node (out-Node v) ≡ v
back v = roll-out-Node v

pub out_null : out-Node nd.Null ≡ Node-F.Null
out_null = ap out-Node (sym nd.rolls-Null) ∙ out-roll-Node Node-F.Null

pub out_bool : (b : Bool) → out-Node (nd.Bool b) ≡ Node-F.Bool b
out_bool b = ap out-Node (sym (nd.rolls-Bool b)) ∙ out-roll-Node (Node-F.Bool b)

pub out_whole : (n : ℤ) (t : Text) → out-Node (nd.Whole n t) ≡ Node-F.Whole n t
out_whole n t = ap out-Node (sym (nd.rolls-Whole n t)) ∙ out-roll-Node (Node-F.Whole n t)

pub out_decimal : (t : Text) → out-Node (nd.Decimal t) ≡ Node-F.Decimal t
out_decimal t = ap out-Node (sym (nd.rolls-Decimal t)) ∙ out-roll-Node (Node-F.Decimal t)

pub out_text : (t : Text) → out-Node (nd.Text t) ≡ Node-F.Text t
out_text t = ap out-Node (sym (nd.rolls-Text t)) ∙ out-roll-Node (Node-F.Text t)

pub out_items : (xs : List Node) → out-Node (nd.Items xs) ≡ Node-F.Items xs
out_items xs = ap out-Node (sym (nd.rolls-Items xs)) ∙ out-roll-Node (Node-F.Items xs)

pub out_pairs : (ps : List Pair) → out-Node (nd.Pairs ps) ≡ Node-F.Pairs ps
out_pairs ps = ap out-Node (sym (nd.rolls-Pairs ps)) ∙ out-roll-Node (Node-F.Pairs ps)

-- ---- the kind of a plain scalar doesn't rest on where it stands

ok_only : {A : Type 0} (e : Refusal) (v : A) → (let r : Outcome A = Err e in r) ≡ Ok v → ⊥
ok_only e v h = absurd (cc)

whole_same : (fits : Bool) (j k : ℕ) (v w : Node) → (let r : Outcome Node = cond fits (Ok v) (Err (TooWide j)) in r) ≡ Ok w → (let r : Outcome Node = cond fits (Ok v) (Err (TooWide k)) in r) ≡ Ok w
whole_same true j k v w h = h
whole_same false j k v w h = absurd (ok_only (TooWide j) w h)

decimal_same : (j k : ℕ) (t : Text) (wide : Option Bool) (w : Node) → decimal j t wide ≡ Ok w → decimal k t wide ≡ Ok w
decimal_same j k t None w h = h
decimal_same j k t (Some true) w h = absurd (ok_only (TooWide j) w h)
decimal_same j k t (Some false) w h = h

chosen_same : (b : Bool) (x y p q : Outcome Node) (w : Node) → (x ≡ Ok w → p ≡ Ok w) → (y ≡ Ok w → q ≡ Ok w) → cond b x y ≡ Ok w → cond b p q ≡ Ok w
chosen_same true x y p q w f g h = f h
chosen_same false x y p q w f g h = g h

numeral_same : (j k : ℕ) (t : Text) (w : Node) → numeral j t ≡ Ok w → numeral k t ≡ Ok w
numeral_same j k t w =
    chosen_same (is_decimal_whole t) _ _ _ _ w
    (whole_same (fits_whole (is_negative t) (number 10 (past_sign t))) j k _ w)
    (chosen_same (is_octal t) _ _ _ _ w (whole_same (fits_whole false (number 8 (drop 2 t))) j k _ w)
    (chosen_same (is_hexadecimal t) _ _ _ _ w (whole_same (fits_whole false (number 16 (drop 2 t))) j k _ w)
    (decimal_same j k t (option_map is_wide (parts_of t)) w)))

pub kind_same : (j k : ℕ) (t : Text) (w : Node) → scalar j t ≡ Ok w → scalar k t ≡ Ok w
unfolding scalar
kind_same j k t w =
    chosen_same (is_null t) (Ok nd.Null) _ (Ok nd.Null) _ w (λ h. h)
    (chosen_same (is_true t) (Ok (nd.Bool true)) _ (Ok (nd.Bool true)) _ w (λ h. h)
    (chosen_same (is_false t) (Ok (nd.Bool false)) _ (Ok (nd.Bool false)) _ w (λ h. h) (numeral_same j k t w)))

-- ---- a text alone is its own text

not_text : (l : Layer) (v : Node) (o : Type 0) → out-Node v ≡ l → is_text_layer l ≡ false → is_text (Ok v) ≡ true → o
not_text l v o is none h = absurd (true_not_false (sym h ∙ ap is_text_layer is ∙ none))

text_chosen : (b : Bool) (x y : Outcome Node) (w : Node) → (is_text x ≡ true → x ≡ Ok w) → (is_text y ≡ true → y ≡ Ok w) → is_text (cond b x y) ≡ true → cond b x y ≡ Ok w
text_chosen true x y w f g h = f h
text_chosen false x y w f g h = g h

whole_text : (left : ℕ) (t : Text) (below : Bool) (size : ℕ) (w : Node) → is_text (whole left t below size) ≡ true → whole left t below size ≡ Ok w
whole_text left t below size w =
    text_chosen (fits_whole below size) (Ok (nd.Whole (with_sign below size) t)) (Err (TooWide left)) w
    (not_text (Node-F.Whole (with_sign below size) t) (nd.Whole (with_sign below size) t) _ (out_whole (with_sign below size) t) refl)
    (λ h. absurd (true_not_false (sym h)))

decimal_text : (left : ℕ) (t : Text) (wide : Option Bool) → is_text (decimal left t wide) ≡ true → decimal left t wide ≡ Ok (nd.Text t)
decimal_text left t None h = refl
decimal_text left t (Some true) h = absurd (true_not_false (sym h))
decimal_text left t (Some false) h = not_text (Node-F.Decimal t) (nd.Decimal t) _ (out_decimal t) refl h

numeral_text : (left : ℕ) (t : Text) → is_text (numeral left t) ≡ true → numeral left t ≡ Ok (nd.Text t)
numeral_text left t =
    text_chosen (is_decimal_whole t) _ _ (nd.Text t) (whole_text left t (is_negative t) (number 10 (past_sign t)) (nd.Text t))
    (text_chosen (is_octal t) _ _ (nd.Text t) (whole_text left t false (number 8 (drop 2 t)) (nd.Text t))
    (text_chosen (is_hexadecimal t) _ _ (nd.Text t) (whole_text left t false (number 16 (drop 2 t)) (nd.Text t))
    (decimal_text left t (option_map is_wide (parts_of t)))))

kind_text : (left : ℕ) (t : Text) → is_text (scalar left t) ≡ true → scalar left t ≡ Ok (nd.Text t)
unfolding scalar
kind_text left t =
    text_chosen (is_null t) (Ok nd.Null) _ (nd.Text t) (not_text Node-F.Null nd.Null _ out_null refl)
    (text_chosen (is_true t) (Ok (nd.Bool true)) _ (nd.Text t) (not_text (Node-F.Bool true) (nd.Bool true) _ (out_bool true) refl)
    (text_chosen (is_false t) (Ok (nd.Bool false)) _ (nd.Text t) (not_text (Node-F.Bool false) (nd.Bool false) _ (out_bool false) refl) (numeral_text left t)))

pub text_kind : (k : ℕ) (t : Text) → is_text (scalar 0 t) ≡ true → scalar k t ≡ Ok (nd.Text t)
text_kind k t h = kind_same 0 k t (nd.Text t) (kind_text 0 t h)
