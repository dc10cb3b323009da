-- A set that has just some texts.
use Rattle.std.specs.Prelude.{◌≡◌, ℕ, List, String}
use Rattle.std.specs.BTreeSet.{BTreeSet, contains_text}
use Rattle.std.specs.declared.alloc.Global.{Global}
use Rattle.lock_files.specs.Refused.{is_among}

abbrev pub HasTexts : BTreeSet (String Global) → List (List ℕ) → Type 0
HasTexts set texts = (q : List ℕ) → contains_text set q ≡ is_among q texts
