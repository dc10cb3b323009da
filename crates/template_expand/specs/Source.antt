-- What stages are made of, before they are.
--     made_in source       the list of what is made
--     choices_of axes      the choices of a matrix
--     Tells view got due   the answer is the one that is due, as it is seen, unless memory ran out
use Rattle.std.specs.Prelude.{◌≡◌, List, [], ◌∷◌, map, Result, Ok, Err}
use Rattle.stage_schema.specs.declared.fault.ExpandFault.{ExpandFault}
use Rattle.template_expand.specs.declared.made.Made.{Made}
use Rattle.template_expand.specs.declared.made.Source.{Source}
use Rattle.template_expand.specs.declared.made.Source.TheVariants as s
use Rattle.template_expand.specs.declared.matrix.Axis.{Axis}
use Rattle.template_expand.specs.declared.matrix.Picked.{Picked}
use Rattle.template_expand.specs.Answer.{Answer, Ends}
use Rattle.template_expand.specs.Made.{Pick, pick_at, picks, choices, itself_made, list_made, pair_made, choice_made}

abbrev pub picks_of : Axis → List Pick
picks_of axis = picks axis.name.now axis.items.now

abbrev pub choices_of : List Axis → List (List Pick)
choices_of axes = choices (map picks_of axes)

abbrev pub pick_of : Picked → Pick
pick_of picked = pick_at picked.name.now picked.place picked.value.now

abbrev pub choice_of : List Picked → List Pick
choice_of picked = map pick_of picked

abbrev pub made_in : Source → List Made
made_in s.Itself = itself_made ∷ []
made_in (s.Items items) = list_made items.now
made_in (s.Pairs pairs) = map pair_made pairs.now
made_in (s.Choices axes) = map choice_made (choices_of axes)

abbrev pub Tells : {A B : Type 0} → (A → B) → Result A ExpandFault → Answer B → Type 0
Tells view (Ok x) due = due ≡ Ok (view x)
Tells view (Err fault) due = Ends fault due
