-- The phases, and how an accepted command moves them.
use Rattle.std.specs.Prelude.{Bool, true, false}
use Rattle.line.specs.declared.command.Command.{Command}
use Rattle.line.specs.declared.command.Command.TheVariants.{AppendAdd, AppendDelete, AppendNeed, CloseMethod, Decompose, EndPhase, Judge, NewCompound, NewPrimitive, NewStep, OpenMethod, PutLink, PutOrder, RouteAdd, RouteNeed, Take}
use Rattle.semantics.specs.declared.phase.Phase.{Phase}
use Rattle.semantics.specs.declared.phase.Phase.TheVariants.{Initial, MethodOpen, Methods, Refine, Running, Tasks}

-- the phase after an accepted command
abbrev pub ended : Phase → Phase
ended Tasks = Methods
ended Methods = Initial
ended MethodOpen = MethodOpen
ended Initial = Refine
ended Refine = Refine
ended Running = Running

abbrev pub phase_after : Command → Phase → Phase
phase_after NewPrimitive ph = ph
phase_after NewCompound ph = ph
phase_after (AppendNeed t f) ph = ph
phase_after (AppendAdd t f) ph = ph
phase_after (AppendDelete t f) ph = ph
phase_after EndPhase ph = ended ph
phase_after (OpenMethod t) ph = MethodOpen
phase_after (NewStep t) ph = ph
phase_after (PutOrder p q) ph = ph
phase_after (PutLink p i q j) ph = ph
phase_after (RouteNeed j s k) ph = ph
phase_after (RouteAdd i s k) ph = ph
phase_after CloseMethod ph = Methods
phase_after (Decompose s m) ph = ph
phase_after Judge ph = Running
phase_after (Take s) ph = ph

-- While a method is open, steps, pairs and links are the method's; in the phases of the plan they are the plan's.
abbrev pub where_open : {X : Type 0} → Phase → X → X → X → X
where_open Tasks other method plan = other
where_open Methods other method plan = other
where_open MethodOpen other method plan = method
where_open Initial other method plan = plan
where_open Refine other method plan = plan
where_open Running other method plan = other

abbrev pub is_initial : Phase → Bool
is_initial Tasks = false
is_initial Methods = false
is_initial MethodOpen = false
is_initial Initial = true
is_initial Refine = false
is_initial Running = false

abbrev pub is_refine : Phase → Bool
is_refine Tasks = false
is_refine Methods = false
is_refine MethodOpen = false
is_refine Initial = false
is_refine Refine = true
is_refine Running = false

abbrev pub is_running : Phase → Bool
is_running Tasks = false
is_running Methods = false
is_running MethodOpen = false
is_running Initial = false
is_running Refine = false
is_running Running = true
