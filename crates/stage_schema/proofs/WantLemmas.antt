-- Texts of a set in its order, and the groups of wants that such a set finds.
--     names_inserted    a further text of a set is one among the texts, or their last
--     place_in_names    a file's place among the names is that among the groups
--     with_want_at      a want is joined at the place of its file's group, once that group is there
--     files_with_file   the names of the groups, once a file's group is there
--     texts_more        the texts of a set with those of one item more
--     group_made, group_there     a group is put last exactly where the set lacked its file
--     group_joined, files_joined  what is left once a want is joined at its place
use Rattle.std.proofs.Common.{◌≡◌, ℕ, suc, ◌+◌, ◌<◌, lit<, Bool, true, false, not, ◌||◌, List, [], ◌∷◌, ◌++◌, length, get_or, set, map, fold, take, bytes_eq, cond, refl, sym, ap, true≢false, Result, Ok, Err, OnOk, ◌∙◌, arith, if◌then◌else◌}
use Rattle.std.specs.Borrow.{Bor}
use Rattle.std.specs.List.{list_any, position_or_len}
use Rattle.std.proofs.lemmas.List.Folds.{fold-map}
use Rattle.std.proofs.lemmas.List.Sums.{fold_more}
use Rattle.indexmap.specs.IndexSet.{insert_key}
use Rattle.dvc_base.specs.declared.node.Node.{Node, out-Node}
use Rattle.stage_schema.specs.Node.{text_of}
use Rattle.stage_schema.specs.declared.stage.ParamWant.{ParamWant}
use Rattle.stage_schema.specs.Params.{with_text, texts_of, no_want, joined, place_of, with_file, with_want}

abbrev pub Name : Type 0
Name = Bor (List ℕ)

abbrev pub names : List Name → List (List ℕ)
names ks = map (λ k. k.now) ks

pub any_name : (test : List ℕ → Bool) (ks : List Name) → list_any (λ k. test k.now) ks ≡ list_any test (names ks)
any_name test [] = refl
any_name test (k ∷ ks) = ap (λ b. test k.now || b) (any_name test ks)

pub names_push : (ks : List Name) (k : Name) → names (ks ++ k ∷ []) ≡ names ks ++ k.now ∷ []
names_push [] k = refl
names_push (x ∷ xs) k = ap (λ ys. x.now ∷ ys) (names_push xs k)

pub names_inserted : (ks : List Name) (k : Name) → names (insert_key (λ a b. bytes_eq a.now b.now) ks k) ≡ with_text (names ks) k.now
names_inserted ks k = by (list_any (bytes_eq k.now) (names ks)) (any_name (bytes_eq k.now) ks) refl
  where
    by : (b : Bool) → list_any (λ x. bytes_eq k.now x.now) ks ≡ list_any (bytes_eq k.now) (names ks) → list_any (bytes_eq k.now) (names ks) ≡ b → names (insert_key (λ a b. bytes_eq a.now b.now) ks k) ≡ with_text (names ks) k.now
    by true same e = ap (λ c. names (if c then ks else ks ++ k ∷ [])) (same ∙ e) ∙ sym (ap (λ c. if c then names ks else names ks ++ k.now ∷ []) e)
    by false same e = ap (λ c. names (if c then ks else ks ++ k ∷ [])) (same ∙ e) ∙ (names_push ks k ∙ sym (ap (λ c. if c then names ks else names ks ++ k.now ∷ []) e))

-- ---- groups

abbrev pub files : List ParamWant → List (List ℕ)
files ws = map (λ w. w.file) ws

any_file : (f : List ℕ) (ws : List ParamWant) → list_any (λ w. bytes_eq f w.file) ws ≡ list_any (bytes_eq f) (files ws)
any_file f [] = refl
any_file f (w ∷ ws) = ap (λ b. bytes_eq f w.file || b) (any_file f ws)

files_push : (ws : List ParamWant) (f : List ℕ) → files (ws ++ no_want f ∷ []) ≡ files ws ++ f ∷ []
files_push [] f = refl
files_push (w ∷ ws) f = ap (λ ys. w.file ∷ ys) (files_push ws f)

files_with_text : (ws : List ParamWant) (f : List ℕ) → with_text (files ws) f ≡ files (with_file ws f)
files_with_text ws f = by (list_any (bytes_eq f) (files ws)) refl (any_file f ws)
  where
    by : (b : Bool) → list_any (bytes_eq f) (files ws) ≡ b → list_any (λ w. bytes_eq f w.file) ws ≡ list_any (bytes_eq f) (files ws) → with_text (files ws) f ≡ files (with_file ws f)
    by true e same = ap (λ c. if c then files ws else files ws ++ f ∷ []) e ∙ sym (ap (λ c. files (if c then ws else ws ++ no_want f ∷ [])) (same ∙ e))
    by false e same = ap (λ c. if c then files ws else files ws ++ f ∷ []) e ∙ (sym (files_push ws f) ∙ sym (ap (λ c. files (if c then ws else ws ++ no_want f ∷ [])) (same ∙ e)))

pub files_with_file : (ks : List Name) (k : Name) (ws : List ParamWant) → names ks ≡ files ws → names (insert_key (λ a b. bytes_eq a.now b.now) ks k) ≡ files (with_file ws k.now)
files_with_file ks k ws tied = names_inserted ks k ∙ (ap (λ xs. with_text xs k.now) tied ∙ files_with_text ws k.now)

-- ---- places

place_of_name : (f : List ℕ) (ks : List Name) → position_or_len (λ k. bytes_eq f k.now) ks ≡ position_or_len (bytes_eq f) (names ks)
place_of_name f [] = refl
place_of_name f (k ∷ ks) = ap (λ n. cond (not (bytes_eq f k.now)) (1 + n) 0) (place_of_name f ks)

place_of_file : (f : List ℕ) (ws : List ParamWant) → position_or_len (bytes_eq f) (files ws) ≡ place_of ws f
place_of_file f [] = refl
place_of_file f (w ∷ ws) = ap (λ n. cond (not (bytes_eq f w.file)) (1 + n) 0) (place_of_file f ws)

pub place_in_names : (ks : List Name) (k : Name) (ws : List ParamWant) → names ks ≡ files ws → position_or_len (λ x. bytes_eq k.now x.now) ks ≡ place_of ws k.now
place_in_names ks k ws tied = place_of_name k.now ks ∙ (ap (position_or_len (bytes_eq k.now)) tied ∙ place_of_file k.now ws)

-- ---- a want more

with_file_further : (h : ParamWant) (ws : List ParamWant) (f : List ℕ) → bytes_eq f h.file ≡ false → with_file (h ∷ ws) f ≡ h ∷ with_file ws f
with_file_further h ws f e = by (list_any (λ w. bytes_eq f w.file) ws) refl
  where
    by : (b : Bool) → list_any (λ w. bytes_eq f w.file) ws ≡ b → with_file (h ∷ ws) f ≡ h ∷ with_file ws f
    by true any = rw (e, any) refl
    by false any = rw (e, any) refl

set_further : (h d : ParamWant) (fs : List ParamWant) (n : ℕ) (change : ParamWant → ParamWant) → h ∷ set fs n (change (get_or fs n d)) ≡ set (h ∷ fs) (1 + n) (change (get_or (h ∷ fs) (1 + n) d))
set_further h d fs n change = let e : 1 + n ≡ suc n = omega arith in rw e refl

pub with_want_at : (ws : List ParamWant) (w d : ParamWant) → with_want ws w ≡ set (with_file ws w.file) (place_of ws w.file) (joined (get_or (with_file ws w.file) (place_of ws w.file) d) w)
with_want_at [] w d = refl
with_want_at (h ∷ ws) w d = by (bytes_eq w.file h.file) refl (with_want_at ws w d)
  where
    by : (b : Bool) → bytes_eq w.file h.file ≡ b → with_want ws w ≡ set (with_file ws w.file) (place_of ws w.file) (joined (get_or (with_file ws w.file) (place_of ws w.file) d) w) → with_want (h ∷ ws) w ≡ set (with_file (h ∷ ws) w.file) (place_of (h ∷ ws) w.file) (joined (get_or (with_file (h ∷ ws) w.file) (place_of (h ∷ ws) w.file) d) w)
    by true e more = rw e refl
    by false e more =
        let here : with_want (h ∷ ws) w ≡ h ∷ with_want ws w = rw e refl in
        let file = with_file_further h ws w.file e in
        let place : place_of (h ∷ ws) w.file ≡ 1 + place_of ws w.file = rw e refl in
        here ∙ (ap (λ xs. h ∷ xs) more ∙ (set_further h d (with_file ws w.file) (place_of ws w.file) (λ x. joined x w) ∙ sym (λ j. set (file j) (place j) (joined (get_or (file j) (place j) d) w))))

file_joined : (a b : ParamWant) → (joined a b).file ≡ a.file
file_joined a b = by (a.all || b.all) refl
  where
    by : (c : Bool) → (a.all || b.all) ≡ c → (joined a b).file ≡ a.file
    by true e = rw e refl
    by false e = rw e refl

pub files_with_want : (ws : List ParamWant) (w : ParamWant) → files (with_want ws w) ≡ files (with_file ws w.file)
files_with_want [] w = ap (λ f. f ∷ []) (file_joined (no_want w.file) w)
files_with_want (h ∷ ws) w = by (bytes_eq w.file h.file) refl (files_with_want ws w)
  where
    by : (b : Bool) → bytes_eq w.file h.file ≡ b → files (with_want ws w) ≡ files (with_file ws w.file) → files (with_want (h ∷ ws) w) ≡ files (with_file (h ∷ ws) w.file)
    by true e more = rw e (ap (λ f. f ∷ files ws) (file_joined h w))
    by false e more = let here : with_want (h ∷ ws) w ≡ h ∷ with_want ws w = rw e refl in ap files here ∙ (ap (λ fs. h.file ∷ fs) more ∙ sym (ap files (with_file_further h ws w.file e)))

pub place_within : (ws : List ParamWant) (f : List ℕ) → place_of ws f < length (with_file ws f)
place_within [] f = lit< tt
place_within (h ∷ ws) f = by (bytes_eq f h.file) refl (place_within ws f)
  where
    by : (b : Bool) → bytes_eq f h.file ≡ b → place_of ws f < length (with_file ws f) → place_of (h ∷ ws) f < length (with_file (h ∷ ws) f)
    by true e more = rw e (omega arith)
    by false e more =
        let place : place_of (h ∷ ws) f ≡ 1 + place_of ws f = rw e refl in
        let size : length (with_file (h ∷ ws) f) ≡ suc (length (with_file ws f)) = ap length (with_file_further h ws f e) in
        omega (arith, place, size)

-- ---- a text more

pub texts_more : (start ks more : List Name) (k : Name) (items : List Node) (i : ℕ) (x : Node) → i < length items → get_or items i x ≡ x → k.now ≡ text_of (out-Node x)
    → names ks ≡ fold with_text (names start) (texts_of (take i items)) → more ≡ insert_key (λ a b. bytes_eq a.now b.now) ks k
    → names more ≡ fold with_text (names start) (texts_of (take (i + 1) items))
texts_more start ks more k items i x within here same so_far inserted =
    ap names inserted ∙ (names_inserted ks k ∙ (ap (λ ts. with_text ts k.now) so_far ∙ (ap (with_text (fold with_text (names start) (texts_of (take i items)))) (same ∙ sym (ap (λ y. text_of (out-Node y)) here)) ∙ sym step)))
  where
    step : fold with_text (names start) (texts_of (take (i + 1) items)) ≡ with_text (fold with_text (names start) (texts_of (take i items))) (text_of (out-Node (get_or items i x)))
    step = fold-map with_text (λ item. text_of (out-Node item)) (names start) (take (i + 1) items) ∙ (fold_more (λ b y. with_text b (text_of (out-Node y))) (names start) items i x within ∙ ap (λ b. with_text b (text_of (out-Node (get_or items i x)))) (sym (fold-map with_text (λ item. text_of (out-Node item)) (names start) (take i items))))

-- ---- a group that is looked for

same_test : (ks : List Name) (k : Name) (ws : List ParamWant) → names ks ≡ files ws → list_any (λ x. bytes_eq k.now x.now) ks ≡ list_any (λ w. bytes_eq k.now w.file) ws
same_test ks k ws tied = any_name (bytes_eq k.now) ks ∙ (ap (list_any (bytes_eq k.now)) tied ∙ sym (any_file k.now ws))

pub group_made : (ks : List Name) (k : Name) (ws : List ParamWant) (is_new : Bool) → names ks ≡ files ws → is_new ≡ not (list_any (λ x. bytes_eq k.now x.now) ks) → is_new ≡ true → ws ++ no_want k.now ∷ [] ≡ with_file ws k.now
group_made ks k ws is_new tied tested new = by (list_any (λ w. bytes_eq k.now w.file) ws) refl (same_test ks k ws tied)
  where
    by : (b : Bool) → list_any (λ w. bytes_eq k.now w.file) ws ≡ b → list_any (λ x. bytes_eq k.now x.now) ks ≡ list_any (λ w. bytes_eq k.now w.file) ws → ws ++ no_want k.now ∷ [] ≡ with_file ws k.now
    by true e same = let told : true ≡ false = sym new ∙ (tested ∙ ap not (same ∙ e)) in absurd (true≢false told)
    by false e same = sym (ap (λ c. if c then ws else ws ++ no_want k.now ∷ []) e)

pub group_there : (ks : List Name) (k : Name) (ws : List ParamWant) (is_new : Bool) → names ks ≡ files ws → is_new ≡ not (list_any (λ x. bytes_eq k.now x.now) ks) → is_new ≡ false → ws ≡ with_file ws k.now
group_there ks k ws is_new tied tested old = by (list_any (λ w. bytes_eq k.now w.file) ws) refl (same_test ks k ws tied)
  where
    by : (b : Bool) → list_any (λ w. bytes_eq k.now w.file) ws ≡ b → list_any (λ x. bytes_eq k.now x.now) ks ≡ list_any (λ w. bytes_eq k.now w.file) ws → ws ≡ with_file ws k.now
    by true e same = sym (ap (λ c. if c then ws else ws ++ no_want k.now ∷ []) e)
    by false e same = let told : true ≡ false = sym (tested ∙ ap not (same ∙ e)) ∙ old in absurd (true≢false told)

-- ---- a want that is joined

pub group_joined : (old new : List ParamWant) (w : ParamWant) (f : List ℕ) (n : ℕ) (there after : ParamWant) → f ≡ w.file → new ≡ with_file old f → n ≡ place_of old f → there ≡ get_or new n there → after ≡ joined there w → set new n after ≡ with_want old w
group_joined old new w f n there after same made at is change =
    let groups : new ≡ with_file old w.file = made ∙ ap (with_file old) same in
    let place : n ≡ place_of old w.file = at ∙ ap (place_of old) same in
    let found : there ≡ get_or (with_file old w.file) (place_of old w.file) there = is ∙ (λ j. get_or (groups j) (place j) there) in
    (λ j. set (groups j) (place j) after) ∙ (ap (set (with_file old w.file) (place_of old w.file)) (change ∙ ap (λ x. joined x w) found) ∙ sym (with_want_at old w there))

pub files_joined : (ks : List Name) (old new : List ParamWant) (w : ParamWant) (f : List ℕ) (set_one : List ParamWant) → f ≡ w.file → new ≡ with_file old f → names ks ≡ files new → set_one ≡ with_want old w → names ks ≡ files set_one
files_joined ks old new w f set_one same made tied is =
    tied ∙ (ap files (made ∙ ap (with_file old) same) ∙ (sym (files_with_want old w) ∙ ap files (sym is)))

pub on_ok : {T E P Q : Type 0} → (r : Result T E) → (P → Q) → OnOk r P → OnOk r Q
on_ok (Ok _) f h = f h
on_ok (Err _) f h = h
