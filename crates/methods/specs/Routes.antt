-- The step that an entry names.
use Rattle.std.specs.Prelude.{ℕ, ◌<◌, Some, None, Option}
use Rattle.std.specs.Option.{option_map}
use Rattle.methods.specs.Places.{place}
use Rattle.methods.specs.declared.entries.Entry.{Entry}

-- the step of a step and a label, 0 where there are none
abbrev pub place_step : Option (ℕ × ℕ) → ℕ
place_step None = 0
place_step (Some e) = e.0

-- the step that an entry names, 0 where there is none
abbrev pub entry_step : Option Entry → ℕ
entry_step o = place_step (option_map place o)

-- every entry names a step below 8
abbrev pub SmallSteps : (ℕ → Option (ℕ × ℕ)) → Type 0
SmallSteps go = (k : ℕ) → place_step (go k) < 8
