-- Lines that are left, one taken after another.
--     bad_step        a line that can be read is passed
--     settings_step   a line's setting is taken before those of the lines behind it
use Rattle.std.proofs.Common.{◌≡◌, ℕ, ◌+◌, Bool, true, ◌||◌, List, [], ◌∷◌, ◌++◌, refl, sym, ap, ap₂, ◌∙◌, append-nil, append_assoc, Option, Some, None, is_some, unwrap_or}
use Rattle.std.specs.List.{cons_option, filter_map, last_or}
use Rattle.std.proofs.lemmas.Bool.{cond-true}
use Rattle.dvc_config.specs.declared.config.Remote.{Remote}
use Rattle.dvc_config.specs.declared.config.Config.{Config}
use Rattle.dvc_config.specs.Line.{content}
use Rattle.dvc_config.specs.Config.{is_readable, begun, bad_from, Setting, setting_of, settings_from, chosen_by, remote_by, with_settings, taken}

pub bad_step : (inside : Bool) (n : ℕ) (line : List ℕ) (ls all : List (List ℕ)) → all ≡ line ∷ ls → is_readable inside (content line) ≡ true
    → bad_from (inside || is_some (begun line)) (n + 1) ls ≡ bad_from inside n all
bad_step inside n line ls all e good =
    sym (ap (bad_from inside n) e
    ∙ cond-true (is_readable inside (content line)) (bad_from (inside || is_some (begun line)) (n + 1) ls) (Some n) good)

abbrev pub made : Option (List ℕ) → List Remote → Config
made chosen remotes = record { chosen = chosen; remotes = remotes }

chosen_more : (c x : Option (List ℕ)) (xs : List (List ℕ)) → last_or (last_or c (cons_option x [])) xs ≡ last_or c (cons_option x xs)
chosen_more c None xs = refl
chosen_more c (Some x) xs = refl

remotes_more : (r : Option Remote) (rs qs : List Remote) → (rs ++ cons_option r []) ++ qs ≡ rs ++ cons_option r qs
remotes_more None rs qs = ap (λ ps. ps ++ qs) (append-nil rs)
remotes_more (Some r) rs qs = append_assoc rs (r ∷ []) qs

taken_first : (config : Config) (o : Option Setting) (ss : List Setting) → with_settings (taken config o) ss ≡ with_settings config (cons_option o ss)
taken_first config None ss = refl
taken_first config (Some s) ss =
    ap₂ made
    (chosen_more config.chosen (chosen_by s) (filter_map chosen_by ss))
    (remotes_more (remote_by s) config.remotes (filter_map remote_by ss))

pub settings_step : (config : Config) (section line : List ℕ) (ls all : List (List ℕ)) → all ≡ line ∷ ls
    → with_settings (taken config (setting_of section line)) (settings_from (unwrap_or (begun line) section) ls) ≡ with_settings config (settings_from section all)
settings_step config section line ls all e =
    taken_first config (setting_of section line) (settings_from (unwrap_or (begun line) section) ls)
    ∙ ap (λ (more : List (List ℕ)). with_settings config (settings_from section more)) (sym e)
