-- A sink in memory, and what a put makes of it.
--     IsPut old bytes new result    a put that is set to fail changes the counts alone; another fails only for want of
--                                   memory, and then takes nothing
use Rattle.std.specs.Prelude.{◌≡◌, ◌⊎◌, ℕ, ◌+◌, ◌-◌, ◌^◌, min, Bool, true, false, List, [], ◌++◌, ◌==◌, Result, Ok, Err}
use Rattle.std.specs.List.{list_any}
use Rattle.world_api.specs.History.{Faults}

-- fails: the numbers of the puts that are set to fail. puts, failed, starved: counts, of puts, of those that failed, and
-- of those that found no memory
pub record Sunk : Type 0 where
  pub taken : List ℕ
  pub fails : List ℕ
  pub puts : ℕ
  pub failed : ℕ
  pub starved : ℕ

-- one more; the last count stays
abbrev pub risen : ℕ → ℕ
risen n = min (n + 1) (2 ^ 64 - 1)

-- whether the next put is set to fail
abbrev pub is_set : Sunk → Bool
is_set s = list_any (λ n. n == risen s.puts) s.fails

abbrev pub taking : Sunk → List ℕ → Sunk
taking s bytes = record s { taken = s.taken ++ bytes; puts = risen s.puts }

abbrev pub failing : Sunk → Sunk
failing s = record s { puts = risen s.puts; failed = risen s.failed }

abbrev pub starving : Sunk → Sunk
starving s = record s { puts = risen s.puts; failed = risen s.failed; starved = risen s.starved }

abbrev pub IsPut : {T E : Type 0} → Sunk → List ℕ → Sunk → Result T E → Type 0
IsPut old bytes new (Ok done) = (is_set old ≡ false) × (new ≡ taking old bytes)
IsPut old bytes new (Err why) = ((is_set old ≡ true) × (new ≡ failing old)) ⊎ ((is_set old ≡ false) × (new ≡ starving old))

abbrev pub faults_of : Sunk → Faults
faults_of s = record { origin = []; count = s.failed }
