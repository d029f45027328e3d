-- What entries mean: where each label goes.
use Rattle.std.specs.Prelude.{ℕ, None, Option, slice_index_or}
use Rattle.std.specs.Option.{option_map}
use Rattle.methods.specs.declared.entries.Entries.{Entries}
use Rattle.methods.specs.declared.entries.Entry.{Entry}

-- a step and a label
abbrev pub place : Entry → ℕ × ℕ
place e = (e.step, e.label)

unfoldable pub going : Entries → ℕ → Option (ℕ × ℕ)
going e j = option_map place (slice_index_or e.places j None)
