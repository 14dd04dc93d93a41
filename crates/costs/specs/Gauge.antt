-- The rest gauge: from two duties to the cost of driving one after the other. Assumes nothing.
use Rattle.std.specs.Prelude.{◌≡◌, ℕ, ◌+◌, ◌-◌, ◌≤◌, List, length, nat_lt, if◌then◌else◌}
use Rattle.std.specs.List.{AllByRecursion}
use Rattle.costs.specs.Written.{Written}
use Rattle.costs.specs.declared.values.Duty.{Duty}
use Rattle.costs.specs.declared.values.Widened.{Widened}
use Rattle.costs.specs.declared.values.Widened.TheVariants.{Allowed, Forbidden}

-- a duty within its day
pub record Sound (d : Duty) : Type 0 where
  pub start_in_day : d.start ≤ 1439
  pub finish_in_day : d.finish ≤ 1439
  pub forward : d.start ≤ d.finish

-- a list of n duties, each within its day
pub record WellFormed (n : ℕ) (ds : List Duty) : Type 0 where
  pub count : length ds ≡ n
  pub each : AllByRecursion Sound ds

-- the minutes from the earlier day's finish to the later day's start
abbrev pub rest_minutes : Duty → Duty → ℕ
rest_minutes earlier later = later.start + 1440 - earlier.finish

-- what a rest lacks of 720 minutes; nothing where it lacks none
abbrev pub shortage_of : ℕ → ℕ
shortage_of rest = 720 - rest

-- a rest under 600 minutes is forbidden, and any other costs its shortage
abbrev pub gauged : {C : Type 0} → Written C → Duty → Duty → Widened C
gauged w earlier later =
    if nat_lt (rest_minutes earlier later) 600 then Forbidden else Allowed (w.shortage (shortage_of (rest_minutes earlier later)))
