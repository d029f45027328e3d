-- What a decomposition makes of the steps and links of a plan, and which pairs it brings.
use Rattle.std.specs.Prelude.{◌≡◌, ℕ, false, List, ◌++◌, Some, Option}
use Rattle.methods.specs.Meaning.{method}
use Rattle.semantics.specs.Decomposing.{link_pairs, links_after, pairs_of, shifted, steps_after}
use Rattle.semantics.specs.Methods.{Method}
use Rattle.semantics.specs.Orders.{Relation}
use Rattle.semantics.specs.PlanLines.{too_many}
use Rattle.semantics.specs.Plans.{Plan, present_from}
use Rattle.semantics.specs.Tasks.{Task}
use Rattle.semantics.specs.declared.link.Link.{Link}
use Rattle.decomposing.specs.Exchanges.{first, inherited, numbers, old_steps}
use Rattle.decomposing.specs.declared.exchange.Exchange.{Exchange}
use Rattle.decomposing.specs.declared.exchange.Side.TheVariants.{After, Before}

-- ss and ls are the steps and links of p once s is decomposed by m, and n step numbers are enough for them.
pub record Revises (n : ℕ) (p : Plan) (s : ℕ) (m : Method) (ss : List (Option ℕ)) (ls : List Link) : Type 0 where
  pub few : too_many n p s (Some m) ≡ false
  pub steps : ss ≡ steps_after p s m
  pub links : ls ≡ links_after p s m

-- The pairs that join: what the new steps inherit on either side, the method's own pairs, and those of the links ls between the
-- primitive ones of the steps ss.
abbrev pub brought : List Task → Relation → Exchange → List (Option ℕ) → List Link → List (ℕ × ℕ)
brought ts R e ss ls =
    inherited Before R e.leaving (present_from 0 (old_steps e)) (numbers e)
    ++ (inherited After R e.leaving (present_from 0 (old_steps e)) (numbers e)
    ++ (shifted (first e) (pairs_of (method e.method.now))
    ++ link_pairs ts ss ls))
