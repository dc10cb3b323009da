-- The places of run records.
--     below_is         where digits lead from a folder
--     key_digits       the digits of a key, all of them and the first two
--     in_dvc           a record's folder lies in `.dvc`
--     no_scratch       and its place is no lane's
use Rattle.std.proofs.Common.{◌≡◌, ◌≢◌, ℕ, ◌<◌, true, false, List, [], ◌∷◌, ◌++◌, length, take, drop, codes, ◌==◌, refl, sym, ap, subst, ◌∙◌, arith, slice_index, Some, Result, Ok, Err, IfOk, eqb-true}
use Rattle.std.specs.Prelude.{nat_lt}
use Rattle.std.specs.List.{list_all}
use Rattle.std.proofs.lemmas.Bool.{cond_both, ne_eqb, and_parts, false≢true}
use Rattle.std.proofs.lemmas.List.{take-append-drop}
use Rattle.std.proofs.lemmas.List.Elements.{All-nil, All-cons, All-weaker}
use Rattle.std.proofs.lemmas.List.Folds.{list_any_none, list_all-append}
use Rattle.dvc_base.specs.Path.{Path, joined, under}
use Rattle.dvc_base.specs.Name.{is_digit}
use Rattle.dvc_base.specs.RunKey.{RunKey, are_key_digits}
use Rattle.dvc_base.specs.Normal.{IsName, IsNormal}
use Rattle.dvc_base.specs.Join.{walk, reached, join}
use Rattle.dvc_base.specs.declared.path.PathFault.{PathFault}
use Rattle.dvc_base.specs.declared.path.PathFault.TheVariants.{TooLong}
use Rattle.dvc_base.proofs.PathLemmas.{join-walk}
use Rattle.dvc_base.proofs.NameLemmas.{IsPiece-tested, IsName-from_first}
use Rattle.dvc_base.proofs.NormalLemmas.{slice_split-joined, walk-names}
use Rattle.world_api.specs.Calls.{parent}
use Rattle.world_api.specs.Layout.{dvc_path, tmp_path}
use Rattle.world_api.specs.Writes.{IsNoScratch}
use Rattle.run_cache.specs.Records.{runs_path, place_of}

pub ok_weaker : {T E : Type 0} (r : Result T E) (P Q : T → Type 0) → ((x : T) → P x → Q x) → IfOk r P → IfOk r Q
ok_weaker (Ok x) P Q f h = f x h
ok_weaker (Err why) P Q f h = tt

-- ---- digits below a folder

digit_no_dot : (x : ℕ) → is_digit x ≡ true → x ≢ 46
digit_no_dot x h e = false≢true (subst (λ (k : ℕ). is_digit k ≡ true) e h)

digits_name : (c : List ℕ) → 0 < length c → list_all is_digit c ≡ true → IsName c
digits_name [] l h = absurd (omega arith)
digits_name (x ∷ c) l h =
    IsName-from_first x c (digit_no_dot x (and_parts (is_digit x) (list_all is_digit c) h).0) (IsPiece-tested is_digit (x ∷ c) refl refl h)

reached_is : (q r : Path) → reached (Some q) ≡ Ok r → r ≡ q
reached_is q r =
    cond_both (nat_lt 1024 (length (joined q))) (Err TooLong) (Ok q) (λ (o : Result Path PathFault). o ≡ Ok r → r ≡ q) (λ _ e. absurd (cc)) (λ _ e. cc)

name_is : (p : Path) (c : List ℕ) (r : Path) → IsName c → join p c ≡ Ok r → r ≡ p ++ c ∷ []
name_is p c r n e =
    let normal : IsNormal (c ∷ []) = All-cons IsName c [] n (All-nil IsName) in
    let some = ne_eqb (length c) 0 (omega (arith, n.not_empty)) in
    let no_nul = list_any_none (λ byte. byte == 0) c (All-weaker (λ byte. byte ≢ 0) (λ byte. (byte == 0) ≡ false) (λ byte h. ne_eqb byte 0 h) c n.no_nul) in
    let relative = ne_eqb (slice_index c 0) 47 (λ e. n.no_slash 0 0 n.not_empty e) in
    reached_is (p ++ c ∷ []) r
    (sym (join-walk p c some no_nul relative ∙ ap (λ (x : Path). reached (walk p x)) (slice_split-joined (c ∷ []) normal (omega arith)) ∙ ap reached (walk-names p (c ∷ []) normal)) ∙ e)

pub below_is : (p : Path) (c : List ℕ) (r : Path) → 0 < length c → list_all is_digit c ≡ true → join p c ≡ Ok r → r ≡ p ++ c ∷ []
below_is p c r some digits e = name_is p c r (digits_name c some digits) e

pub runs_is : (r : Path) → join [] (codes ".dvc/cache/runs") ≡ Ok r → r ≡ runs_path
runs_is r e = let s : Ok runs_path ≡ Ok r = e in cc

-- ---- the digits of a key

pub key_length : (c : List ℕ) → are_key_digits c ≡ true → length c ≡ 64
key_length c h = eqb-true (length c) 64 (and_parts (length c == 64) (list_all is_digit c) h).0

pub key_all : (c : List ℕ) → are_key_digits c ≡ true → list_all is_digit c ≡ true
key_all c h = (and_parts (length c == 64) (list_all is_digit c) h).1

pub first_all : (c : List ℕ) (n : ℕ) → list_all is_digit c ≡ true → list_all is_digit (take n c) ≡ true
first_all c n h =
    let whole : list_all is_digit (take n c ++ drop n c) ≡ true = rw (take-append-drop n c) h in
    (and_parts (list_all is_digit (take n c)) (list_all is_digit (drop n c)) (sym (list_all-append is_digit (take n c) (drop n c)) ∙ whole)).0

-- ---- the place of a record

pub in_dvc : (key : RunKey) (text : List ℕ) → under dvc_path (parent (place_of key text)) ≡ true
unfolding dvc_path
in_dvc key text = refl

pub no_scratch : (key : RunKey) (text : List ℕ) → IsNoScratch (place_of key text)
unfolding dvc_path tmp_path
no_scratch key text = record { no_dvc = λ e. absurd (cc); no_tmp = refl }
