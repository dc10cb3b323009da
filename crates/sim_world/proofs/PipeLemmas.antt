-- A text of another number of words than the rule knows.
use Rattle.std.proofs.Common.{◌≡◌, ◌≢◌, ℕ, List, [], ◌∷◌, length, map, refl, arith}
use Rattle.sim_world.specs.Pipe.{of_words, ends}
use Rattle.sim_world.specs.declared.rule.Given.{Given}
use Rattle.sim_world.specs.declared.rule.Made.{Made}

pub other_words : {A : Type 0} (f : A → List ℕ) (ws : List A) (given : Given) (made : Made) → length ws ≢ 2 → length ws ≢ 4 → length ws ≢ 5 → of_words (map f ws) given made ≡ ends 127 made
other_words f [] given made two four five = refl
other_words f (a ∷ []) given made two four five = refl
other_words f (a ∷ b ∷ []) given made two four five = absurd (two (omega arith))
other_words f (a ∷ b ∷ c ∷ []) given made two four five = refl
other_words f (a ∷ b ∷ c ∷ d ∷ []) given made two four five = absurd (four (omega arith))
other_words f (a ∷ b ∷ c ∷ d ∷ e ∷ []) given made two four five = absurd (five (omega arith))
other_words f (a ∷ b ∷ c ∷ d ∷ e ∷ g ∷ ws) given made two four five = refl
