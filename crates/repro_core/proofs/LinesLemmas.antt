-- Laws of the lines of a stage's commands.
use Rattle.std.proofs.Common.{◌≡◌, ℕ, ◌+◌, ◌<◌, List, [], ◌∷◌, ◌++◌, length, take, get_or, codes, refl, sym, ap, ◌∙◌, append_assoc}
use Rattle.std.proofs.lemmas.List.{append-nil, take_more}
use Rattle.repro_laws.specs.Due.{command_lines}

abbrev pub line_of : List ℕ → List ℕ
line_of command = (codes "> " ++ command) ++ codes "\n"

pub command_lines-append : (xs ys : List (List ℕ)) → command_lines (xs ++ ys) ≡ command_lines xs ++ command_lines ys
command_lines-append [] ys = refl
command_lines-append (x ∷ xs) ys =
    ap (λ (lines : List ℕ). line_of x ++ lines) (command_lines-append xs ys) ∙ sym (append_assoc (line_of x) (command_lines xs) (command_lines ys))

command_lines-more : (all : List (List ℕ)) (i : ℕ) (command : List ℕ) → i < length all → command ≡ get_or all i command → command_lines (take (i + 1) all) ≡ command_lines (take i all) ++ line_of command
command_lines-more all i command l e =
    ap command_lines (take_more all i command l ∙ ap (λ (x : List ℕ). take i all ++ x ∷ []) (sym e)) ∙ command_lines-append (take i all) (command ∷ []) ∙ ap (λ (lines : List ℕ). command_lines (take i all) ++ lines) (append-nil (line_of command))

pub command_lines-taken : (all : List (List ℕ)) (i : ℕ) (command old mid new : List ℕ) → i < length all → command ≡ get_or all i command → mid ≡ old ++ command_lines (take i all) → new ≡ mid ++ line_of command → new ≡ old ++ command_lines (take (i + 1) all)
command_lines-taken all i command old mid new l e m n =
    n ∙ ap (λ (x : List ℕ). x ++ line_of command) m ∙ append_assoc old (command_lines (take i all)) (line_of command) ∙ ap (λ (x : List ℕ). old ++ x) (sym (command_lines-more all i command l e))
