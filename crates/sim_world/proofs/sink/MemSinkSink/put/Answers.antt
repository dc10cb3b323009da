use Rattle.std.proofs.Common.{◌∙◌, ◌==◌, ℕ, ap, sym, inl, inr}
use Rattle.std.specs.List.{list_any}
use Rattle.sim_world.specs.Sunk.{is_set, failing, starving}
use Rattle.sim_world.proofs.sink.MemSinkSink.put.Goals as goal

pub returns-then-is_listed-clause-counted : goal.returns-then-is_listed-clause-counted
returns-then-is_listed-clause-counted c =
    inl (
      ap is_set (sym c.self.view_is)
          ∙ ap (λ (k : ℕ). list_any (λ n. n == k) c.self.inside.fails) (sym c.saturating_add-self-inside.ensures)
          ∙ sym c.is_listed.ensures.any
          ∙ c.if-is_listed.true,
      rw (c.saturating_add-self-inside.ensures, c.saturating_add-self-inside-then-is_listed.ensures) (ap failing c.self.view_is),
    )

pub returns-in-Err-clause-counted : goal.returns-in-Err-clause-counted
returns-in-Err-clause-counted c =
    inr (
      ap is_set (sym c.self.view_is)
          ∙ ap (λ (k : ℕ). list_any (λ n. n == k) c.self.inside.fails) (sym c.saturating_add-self-inside.ensures)
          ∙ sym c.is_listed.ensures.any
          ∙ c.if-is_listed.false,
      rw (c.in-Err.ensures.items, c.saturating_add-self-inside.ensures, c.saturating_add-self-inside-in-Err.ensures, c.saturating_add-self-inside-in-Err-2.ensures) (ap starving c.self.view_is),
    )
