-- The steps of a method, by their numbers.
use Rattle.std.proofs.Common.{◌≡◌, ℕ, List, map, is_some, Some, None, Option, refl, ap, ◌∙◌}
use Rattle.std.specs.List.{slice_get}
use Rattle.std.specs.Option.{option_map}
use Rattle.semantics.specs.OpenLines.{is_step, there}
use Rattle.domain.proofs.Lists.{nth_map}

there_of : (o : Option ℕ) → there (option_map Some o) ≡ is_some o
there_of None = refl
there_of (Some t) = refl

pub step_there : (ks : List ℕ) (s : ℕ) → is_step (map Some ks) s ≡ is_some (slice_get ks s)
step_there ks s = ap there (nth_map Some ks s) ∙ there_of (slice_get ks s)
