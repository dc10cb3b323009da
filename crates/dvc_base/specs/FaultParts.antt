-- The parts of a fault's text.
--     Wording             words, and what stands between them
--     spelled wording     their text
--     part_text part      the bytes of one part
--     text_in parts       those of all, one after another
use Rattle.std.specs.Prelude.{ℕ, List, [], ◌∷◌, ◌++◌, codes}
use Rattle.std.specs.List.{flat_map}
use Rattle.std.specs.Fmt.{decimal, signed_decimal}
use Rattle.dvc_base.specs.declared.node.YamlFault.{YamlFault}
use Rattle.dvc_base.specs.declared.node.YamlFault.TheVariants as y
use Rattle.dvc_base.specs.declared.fault_text.Part.{Part}
use Rattle.dvc_base.specs.declared.fault_text.Part.TheVariants as p

-- the names of a walk, each below the next
abbrev pub walk_text : List (List ℕ) → List ℕ
walk_text [] = []
walk_text (name ∷ []) = name
walk_text (name ∷ next ∷ names) = name ++ (codes " <- " ++ walk_text (next ∷ names))

abbrev pub part_text : Part → List ℕ
part_text p.Nothing = []
part_text (p.Bytes bytes) = bytes.now
part_text (p.Number number) = decimal number
part_text (p.Code code) = signed_decimal code
part_text (p.Walk names) = walk_text names.now

abbrev pub text_in : List Part → List ℕ
text_in parts = flat_map part_text parts

-- the line of a fault of YAML; want of memory has none
abbrev pub line_of : YamlFault → ℕ
line_of (y.Syntax line) = line
line_of (y.Duplicate line) = line
line_of (y.TooDeep line) = line
line_of (y.TooWide line) = line
line_of y.NoMemory = 0

abbrev pub word_of : YamlFault → List ℕ
word_of (y.Syntax line) = codes "syntax"
word_of (y.Duplicate line) = codes "duplicate key"
word_of (y.TooDeep line) = codes "too deep"
word_of (y.TooWide line) = codes "number too wide"
word_of y.NoMemory = codes "out of memory"

-- ---- wordings

pub record Wording : Type 0 where
  pub start : List ℕ
  pub first : List ℕ
  pub second : List ℕ
  pub middle : List ℕ
  pub third : List ℕ
  pub last : List ℕ
  pub end : List ℕ

abbrev pub spelled : Wording → List ℕ
spelled w = w.start ++ (w.first ++ (w.second ++ (w.middle ++ (w.third ++ (w.last ++ w.end)))))

-- words with three values between them, with two, with one, and alone
abbrev pub with_three : List ℕ → List ℕ → List ℕ → List ℕ → List ℕ → List ℕ → List ℕ → Wording
with_three a x b y c z d = record { start = a; first = x; second = b; middle = y; third = c; last = z; end = d }

abbrev pub with_two : List ℕ → List ℕ → List ℕ → List ℕ → List ℕ → Wording
with_two a x b y c = with_three a x b y c [] []

abbrev pub with_one : List ℕ → List ℕ → List ℕ → Wording
with_one a x b = with_two a x b [] []

abbrev pub plain : List ℕ → Wording
plain a = with_one a [] []
