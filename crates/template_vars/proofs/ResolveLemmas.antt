-- Texts that are put together.
--     before-before    one text before two others
--     filled_bytes     bytes come before what is left
--     plain_filled     a text that stands for itself
--     turn_made        what is made of a text is what a turn makes, and then what is left
--     ends_before      a refusal before anything else
use Rattle.std.proofs.Common.{◌≡◌, ℕ, Bool, List, [], ◌∷◌, ◌++◌, map, Option, Some, None, Result, Ok, Err, refl, sym, ap, ◌∙◌, append_assoc}
use Rattle.dvc_base.specs.declared.node.Pair.{Pair}
use Rattle.template_vars.specs.declared.fault.TemplateFault.{TemplateFault}
use Rattle.template_vars.specs.declared.fault.TemplateFault.TheVariants.{Schema, NoVariable, NotScalar, NoKey, NoMemory}
use Rattle.template_vars.specs.Answer.{Ends}
use Rattle.template_vars.specs.Template.{Piece, Byte, pieces}
use Rattle.template_vars.specs.Turn.{IsTurn, key_piece}
use Rattle.template_vars.specs.Resolve.{before, filled, resolved, key_text_if}

pub before-before : (x y z : Result (List ℕ) TemplateFault) → before (before x y) z ≡ before x (before y z)
before-before (Err e) y z = refl
before-before (Ok a) (Err e) z = refl
before-before (Ok a) (Ok b) (Err e) = refl
before-before (Ok a) (Ok b) (Ok c) = ap (λ (t : List ℕ). Ok t) (append_assoc a b c)

nothing_before : (x : Result (List ℕ) TemplateFault) → before (Ok []) x ≡ x
nothing_before (Err e) = refl
nothing_before (Ok a) = refl

pub filled_bytes : (vars : List Pair) (xs : List ℕ) (ps : List Piece) → filled vars (map Byte xs ++ ps) ≡ before (Ok xs) (filled vars ps)
filled_bytes vars [] ps = sym (nothing_before (filled vars ps))
filled_bytes vars (x ∷ xs) ps = ap (before (Ok (x ∷ []))) (filled_bytes vars xs ps) ∙ sym (before-before (Ok (x ∷ [])) (Ok xs) (filled vars ps))

filled_key : (vars : List Pair) (key : Option (List ℕ)) (ps : List Piece) → filled vars (key_piece key ++ ps) ≡ before (key_text_if vars key) (filled vars ps)
filled_key vars None ps = sym (nothing_before (filled vars ps))
filled_key vars (Some key) ps = refl

turn_filled : (vars : List Pair) (text plain mark : List ℕ) (key : Option (List ℕ)) (rest : List ℕ) (closes : Bool) → IsTurn text plain mark key rest closes → resolved vars text ≡ before (Ok (plain ++ mark)) (before (key_text_if vars key) (resolved vars rest))
turn_filled vars text plain mark key rest closes turn =
    ap (filled vars) turn.read
    ∙ filled_bytes vars (plain ++ mark) (key_piece key ++ pieces rest)
    ∙ ap (before (Ok (plain ++ mark))) (filled_key vars key (pieces rest))

pub turn_made : (vars : List Pair) (made text plain mark : List ℕ) (key : Option (List ℕ)) (rest : List ℕ) (closes : Bool) → IsTurn text plain mark key rest closes → before (Ok made) (resolved vars text) ≡ before (before (Ok (made ++ (plain ++ mark))) (key_text_if vars key)) (resolved vars rest)
turn_made vars made text plain mark key rest closes turn =
    ap (before (Ok made)) (turn_filled vars text plain mark key rest closes turn)
    ∙ sym (before-before (Ok made) (Ok (plain ++ mark)) (before (key_text_if vars key) (resolved vars rest)))
    ∙ sym (before-before (Ok (made ++ (plain ++ mark))) (key_text_if vars key) (resolved vars rest))

filled_all : (vars : List Pair) (xs : List ℕ) → filled vars (map Byte xs) ≡ Ok xs
filled_all vars [] = refl
filled_all vars (x ∷ xs) = ap (before (Ok (x ∷ []))) (filled_all vars xs)

pub plain_filled : (vars : List Pair) (text : List ℕ) → pieces text ≡ map Byte text → resolved vars text ≡ Ok text
plain_filled vars text h = ap (filled vars) h ∙ filled_all vars text

pub ends_before : (fault : TemplateFault) (x y : Result (List ℕ) TemplateFault) → Ends fault x → Ends fault (before x y)
ends_before NoMemory x y h = tt
ends_before (Schema key) x y h = ap (λ r. before r y) h
ends_before (NoVariable key) x y h = ap (λ r. before r y) h
ends_before (NotScalar key) x y h = ap (λ r. before r y) h
ends_before (NoKey key) x y h = ap (λ r. before r y) h
