-- Needs and adds alike: what a side of a task, or of a method, is in the words of the rules.
use Rattle.std.specs.Prelude.{ℕ, List, Option}
use Rattle.page.specs.declared.answer.Side.{Side}
use Rattle.page.specs.declared.answer.Side.TheVariants.{Add, Need}
use Rattle.semantics.specs.Causes.{Cause}
use Rattle.semantics.specs.Methods.{add_entry, Method, need_entry}
use Rattle.semantics.specs.OpenLines.{add_entry_causes, need_entry_causes}
use Rattle.semantics.specs.Tasks.{adds_of, needs_of, Task}

-- the facts on that side of a task that may be none
abbrev pub facts_on : Side → Option Task → List ℕ
facts_on Need t = needs_of t
facts_on Add t = adds_of t

-- where the needs or the adds of a method's task go
abbrev pub goes_on : Side → Method → ℕ → Option (ℕ × ℕ)
goes_on Need m = m.needs_go
goes_on Add m = m.adds_go

-- a method with an entry more
abbrev pub with_entry : Side → Method → ℕ → ℕ × ℕ → Method
with_entry Need m from to = need_entry m from to
with_entry Add m from to = add_entry m from to

-- the causes of U or V
abbrev pub entry_causes : Side → List Task → Method → ℕ → ℕ → ℕ → List Cause
entry_causes Need ts m from s k = need_entry_causes ts m from s k
entry_causes Add ts m from s k = add_entry_causes ts m from s k
