-- The urls of a config, by its settings.
--     last_url    the url of a remote is the last one that its sections have
use Rattle.std.proofs.Common.{◌≡◌, ℕ, Bool, true, false, ◌&&◌, cond, List, [], ◌∷◌, codes, bytes_eq, refl, ap, ◌∙◌, Option, Some, None, option_map, option_and_then}
use Rattle.std.specs.List.{cons_option, filter_map, last_or}
use Rattle.dvc_config.specs.declared.config.Remote.{Remote}
use Rattle.dvc_config.specs.Config.{Setting, remote_name, remote_with, remote_by}
use Rattle.dvc_config.specs.Url.{url_for, is_name, url_by, LastUrlCounts}

by_setting : (is_url : Bool) (found : Option (List ℕ)) (name url : List ℕ)
    → option_and_then (url_for name) (cond is_url (option_map (remote_with url) found) None) ≡ cond (is_url && is_name name found) (Some url) None
by_setting true None name url = refl
by_setting true (Some x) name url = refl
by_setting false found name url = refl

first_of : (f : Remote → Option (List ℕ)) (r : Option Remote) (rs : List Remote) → filter_map f (cons_option r rs) ≡ cons_option (option_and_then f r) (filter_map f rs)
first_of f None rs = refl
first_of f (Some r) rs = refl

urls : (name : List ℕ) (ss : List Setting) → filter_map (url_for name) (filter_map remote_by ss) ≡ filter_map (url_by name) ss
urls name [] = refl
urls name (s ∷ ss) =
    first_of (url_for name) (remote_by s) (filter_map remote_by ss)
    ∙ ap (λ (o : Option (List ℕ)). cons_option o (filter_map (url_for name) (filter_map remote_by ss)))
    (by_setting (bytes_eq s.key (codes "url")) (remote_name s.section) name s.value)
    ∙ ap (cons_option (url_by name s)) (urls name ss)

pub last_url : LastUrlCounts
last_url name ss = ap (last_or None) (urls name ss)
