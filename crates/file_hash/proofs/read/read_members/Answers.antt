-- What the text's array comes to, or that it is none.
use Rattle.std.proofs.Common.{◌≡◌, ◌∙◌, List, Option, Some, refl, sym, subst, inr}
use Rattle.std.specs.Prelude.{MatchResult}
use Rattle.std.proofs.lemmas.Bool.{false≢true}
use Rattle.file_hash.specs.Reading.{IsUnread}
use Rattle.file_hash.specs.declared.listing.Member.{Member}
use Rattle.file_hash.proofs.ReadLemmas.{text_members, text_none}
use Rattle.file_hash.proofs.read.read_members.Goals as goal

pub returns-in-Ok-clause-exact : goal.returns-in-Ok-clause-exact
returns-in-Ok-clause-exact c =
    subst (λ (o : Option (List Member)). MatchResult c.read_array.result (λ ms. o ≡ Some ms) (IsUnread o))
    (sym (text_members c.args.text.now _ c.in-Ok.ensures.ok.0 c.in-Ok.ensures.ok.1)) c.read_array.ensures.exact

pub returns-in-Err-2-clause-exact : goal.returns-in-Err-2-clause-exact
returns-in-Err-2-clause-exact c =
    inr (refl, text_none c.args.text.now (c.in-Err.ensures.err (λ m. false≢true (sym c.if-is_memory.false ∙ c.is_memory.ensures.1 m))))
