-- Laws of the paths of lanes: each is read from its text, and where each lies.
use Rattle.std.proofs.Common.{◌≡◌, ◌≢◌, inl, inr, bytes_eq, ℕ, ◌+◌, ◌<◌, ◌^◌, ◌%◌, Bool, true, false, ◌&&◌, not, ◌==◌, List, [], ◌∷◌, ◌++◌, codes, refl, sym, ap, ◌∙◌, arith, Ok}
use Rattle.std.specs.Fmt.{decimal}
use Rattle.std.proofs.lemmas.Bool.{false≢true, false_from_ne_true, or_cases, or_from, and_parts, and_from}
use Rattle.std.proofs.lemmas.Slice.Eq.{bytes_eq-Decides}
use Rattle.std.proofs.lemmas.Fmt.{decimal_by_steps, length-decimal-le}
use Rattle.std.proofs.lemmas.List.Elements.{All-nil, All-cons, All-push}
use Rattle.dvc_base.specs.Path.{Path, under}
use Rattle.dvc_base.specs.Normal.{IsName, IsNormal}
use Rattle.dvc_base.specs.Join.{join}
use Rattle.dvc_base.proofs.NormalLemmas.{IsPiece, IsPiece-cons, IsPiece-nil, join-path_text}
use Rattle.dvc_base.proofs.NameLemmas.{IsPiece-tested}
use Rattle.dvc_base.proofs.PathLemmas.{under-refl, under-trans, under-antisym, under-overlap}
use Rattle.world_api.specs.Effect.{path_or_root, path_from}
use Rattle.world_api.specs.Calls.{parent}
use Rattle.world_api.specs.Layout.{dvc_path, tmp_path, lane_path}
use Rattle.world_api.specs.Writes.{is_at, in_scratch, IsNoScratch}

-- ---- names

abbrev plain : ℕ → Bool
plain b = not (b == 47) && not (b == 0)

IsName-dvc : IsName (codes ".dvc")
IsName-dvc =
    let piece = IsPiece-tested plain (codes ".dvc") refl refl refl in
    record { not_empty = omega arith; not_here = λ e. absurd (cc); not_up = λ e. absurd (cc); no_slash = piece.no_slash; no_nul = piece.no_nul }

IsName-tmp : IsName (codes "tmp")
IsName-tmp =
    let piece = IsPiece-tested plain (codes "tmp") refl refl refl in
    record { not_empty = omega arith; not_here = λ e. absurd (cc); not_up = λ e. absurd (cc); no_slash = piece.no_slash; no_nul = piece.no_nul }

IsPiece-digit : (d : ℕ) (ds : List ℕ) → d < 10 → IsPiece ds → IsPiece (ds ++ (48 + d) ∷ [])
IsPiece-digit d ds l h =
    record {
      no_slash = All-push (λ byte. byte ≢ 47) ds (48 + d) h.no_slash (λ e. omega arith);
      no_nul = All-push (λ byte. byte ≢ 0) ds (48 + d) h.no_nul (λ e. omega arith);
    }

IsPiece-decimal : (n : ℕ) → n < 2 ^ 64 → IsPiece (decimal n)
IsPiece-decimal n l =
    decimal_by_steps (λ n ds. IsPiece ds) (λ n s. IsPiece-digit n [] s IsPiece-nil) (λ n ds s h. IsPiece-digit (n % 10) ds (omega arith) h) n l

IsName-lane : (ds : List ℕ) → IsPiece ds → IsName (codes "new-" ++ ds)
IsName-lane ds h =
    let piece : IsPiece (codes "new-" ++ ds) = IsPiece-cons 110 _ (λ e. omega (arith, e)) (λ e. omega (arith, e)) (IsPiece-cons 101 _ (λ e. omega (arith, e)) (λ e. omega (arith, e)) (IsPiece-cons 119 _ (λ e. omega (arith, e)) (λ e. omega (arith, e)) (IsPiece-cons 45 ds (λ e. omega (arith, e)) (λ e. omega (arith, e)) h))) in
    record { not_empty = omega arith; not_here = λ e. absurd (cc); not_up = λ e. absurd (cc); no_slash = piece.no_slash; no_nul = piece.no_nul }

-- ---- each path is read from its text

pub lane-normal : (lane : ℕ) → lane < 2 ^ 64 → IsNormal (lane_path lane)
unfolding lane_path
lane-normal lane l =
    let last = codes "new-" ++ decimal lane in
    All-cons IsName (codes ".dvc") (codes "tmp" ∷ last ∷ []) IsName-dvc
    (All-cons IsName (codes "tmp") (last ∷ []) IsName-tmp
    (All-cons IsName last [] (IsName-lane (decimal lane) (IsPiece-decimal lane l)) (All-nil IsName)))

pub join-lane : (lane : ℕ) → lane < 2 ^ 32 → join [] (codes ".dvc/tmp/new-" ++ decimal lane) ≡ Ok (lane_path lane)
unfolding lane_path
join-lane lane l =
    join-path_text (lane_path lane) (lane-normal lane (omega arith)) (omega (arith, length-decimal-le 10 lane (omega arith) (omega arith) (omega arith)))

pub path_from-lane : (lane : ℕ) (text : List ℕ) → lane < 2 ^ 32 → text ≡ codes ".dvc/tmp/new-" ++ decimal lane → path_from [] text ≡ lane_path lane
path_from-lane lane text l e = ap (path_from []) e ∙ ap path_or_root (join-lane lane l)

-- ---- where each lies

pub tmp_in_dvc : under dvc_path tmp_path ≡ true
unfolding dvc_path tmp_path
tmp_in_dvc = refl

pub lane_in_tmp : (lane : ℕ) → under tmp_path (lane_path lane) ≡ true
unfolding tmp_path lane_path
lane_in_tmp lane = refl

pub dvc_above_tmp : under tmp_path dvc_path ≡ false
unfolding dvc_path tmp_path
dvc_above_tmp = refl

pub tmp_above_lane : (lane : ℕ) → under (lane_path lane) tmp_path ≡ false
unfolding tmp_path lane_path
tmp_above_lane lane = refl

pub dvc_above_lane : (lane : ℕ) → under (lane_path lane) dvc_path ≡ false
unfolding dvc_path lane_path
dvc_above_lane lane = refl

pub dvc-parent : parent dvc_path ≡ []
unfolding dvc_path
dvc-parent = refl

pub tmp-parent : parent tmp_path ≡ dvc_path
unfolding dvc_path tmp_path
tmp-parent = refl

pub lane-parent : (lane : ℕ) → parent (lane_path lane) ≡ tmp_path
unfolding tmp_path lane_path
lane-parent lane = refl

pub dvc_not_root : dvc_path ≢ []
unfolding dvc_path
dvc_not_root e = absurd (cc)

pub tmp_not_root : tmp_path ≢ []
unfolding tmp_path
tmp_not_root e = absurd (cc)

pub lane_not_root : (lane : ℕ) → lane_path lane ≢ []
unfolding lane_path
lane_not_root lane e = absurd (cc)

-- ---- `is_at`

pub at_itself : (q : Path) → is_at q q ≡ true
at_itself q = and_from (under q q) (under q q) (under-refl q) (under-refl q)

pub at_same : (q p : Path) → is_at q p ≡ true → q ≡ p
at_same q p e = let parts = and_parts (under q p) (under p q) e in under-antisym q p parts.0 parts.1

pub not_at : (q p : Path) → q ≢ p → is_at q p ≡ false
not_at q p ne = false_from_ne_true (is_at q p) (λ e. ne (at_same q p e))

-- ---- a path that is neither the root nor in the scratch area, and what lies below it

above_tmp : (at : Path) → at ≢ [] → at ≢ dvc_path → under tmp_path at ≡ false → under at tmp_path ≡ true → ⊥
unfolding dvc_path tmp_path
above_tmp [] root dvc tmp e = root refl
above_tmp (c ∷ []) root dvc tmp e =
    let parts = and_parts (bytes_eq c (codes ".dvc")) true e in
    dvc (ap (λ (x : List ℕ). x ∷ []) ((bytes_eq-Decides c (codes ".dvc")).0 parts.0))
above_tmp (c ∷ d ∷ []) root dvc tmp e =
    let parts = and_parts (bytes_eq c (codes ".dvc")) (bytes_eq d (codes "tmp") && true) e in
    let more = and_parts (bytes_eq d (codes "tmp")) true parts.1 in
    let first : c ≡ codes ".dvc" = (bytes_eq-Decides c (codes ".dvc")).0 parts.0 in
    let second : d ≡ codes "tmp" = (bytes_eq-Decides d (codes "tmp")).0 more.0 in
    let same : ◌≡◌ {A = Path} (c ∷ d ∷ []) (codes ".dvc" ∷ codes "tmp" ∷ []) = λ j. first j ∷ second j ∷ [] in
    false≢true (sym tmp ∙ ap (under tmp_path) same)
above_tmp (c ∷ d ∷ f ∷ p) root dvc tmp e =
    let parts = and_parts (bytes_eq c (codes ".dvc")) (bytes_eq d (codes "tmp") && false) e in
    false≢true (and_parts (bytes_eq d (codes "tmp")) false parts.1).1

pub apart_tmp : (at p : Path) → at ≢ [] → IsNoScratch at → under at p ≡ true → under tmp_path p ≡ false
apart_tmp at p root out u =
    false_from_ne_true (under tmp_path p) (λ e. elim (or_cases (under at tmp_path) (under tmp_path at) (under-overlap at tmp_path p u e)) [
      | inl a ↦ above_tmp at root out.no_dvc out.no_tmp a
      | inr a ↦ false≢true (sym out.no_tmp ∙ a)
    ])

pub apart_dvc : (at : Path) → at ≢ [] → IsNoScratch at → under at dvc_path ≡ false
apart_dvc at root out =
    false_from_ne_true (under at dvc_path) (λ e. above_tmp at root out.no_dvc out.no_tmp (under-trans at dvc_path tmp_path e tmp_in_dvc))

pub apart_scratch : (at p : Path) → at ≢ [] → IsNoScratch at → under at p ≡ true → in_scratch p ≡ false
apart_scratch at p root out u =
    or_from (is_at dvc_path p) (under tmp_path p)
    (not_at dvc_path p (λ e. false≢true (sym (apart_dvc at root out) ∙ ap (under at) e ∙ u)))
    (apart_tmp at p root out u)

pub lane_apart : (lane : ℕ) (at : Path) → IsNoScratch at → under (lane_path lane) at ≡ false
lane_apart lane at out =
    false_from_ne_true (under (lane_path lane) at) (λ e. false≢true (sym out.no_tmp ∙ under-trans tmp_path (lane_path lane) at (lane_in_tmp lane) e))
