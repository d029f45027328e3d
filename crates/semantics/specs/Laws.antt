-- Laws of the rules, over every state and over every history.
use Rattle.std.specs.Prelude.{◌≡◌, ℕ, ◌<◌, ◌≤◌, true, false, ◌⊎◌, ◌↔◌, List, [], ◌∷◌, length, Some, ◌≢◌}
use Rattle.std.specs.List.{slice_get}
use Rattle.line.specs.declared.command.Command.{Command}
use Rattle.line.specs.declared.command.Command.TheVariants.{Judge, Take}
use Rattle.page.specs.declared.answer.Row.{Row}
use Rattle.semantics.specs.Causes.{Cause}
use Rattle.semantics.specs.Methods.{Fits, Method}
use Rattle.semantics.specs.Orders.{Holds, In}
use Rattle.semantics.specs.Plans.{Executable, Framed, Linked, Protects, Sound, steps_of, Supplied, task_of, Threat}
use Rattle.semantics.specs.Promise.{History, state}
use Rattle.semantics.specs.Rules.{causes, number_told, verdict}
use Rattle.semantics.specs.States.{State}
use Rattle.semantics.specs.Tasks.{Labelled, Task}
use Rattle.semantics.specs.declared.link.Link.{Link}
use Rattle.semantics.specs.declared.phase.Phase.TheVariants.{MethodOpen, Refine}

-- cause n applies, and returns these numbers
abbrev pub Applies : ℕ → ℕ × ℕ × ℕ → List Cause → Type 0
Applies n v [] = ⊥
Applies n v (r ∷ rs) = ((r.0 ≡ n) × (r.1 ≡ Some v)) ⊎ Applies n v rs

-- A row is that of the lowest cause that applies, with its values, and has code 0 and the number told where none does.
pub record ByLowest (rs : List Cause) (told : ℕ) (r : Row) : Type 0 where
  pub accepted : r.code ≡ 0 → ((n : ℕ) (v : ℕ × ℕ × ℕ) → Applies n v rs → ⊥) × (r.a ≡ told) × (r.b ≡ 0) × (r.c ≡ 0)
  pub applies : (r.code ≢ 0) → Applies r.code (r.a, r.b, r.c) rs
  pub lowest : (n : ℕ) (v : ℕ × ℕ × ℕ) → Applies n v rs → r.code ≤ n

abbrev pub LowestCause : Type 0
LowestCause = (capacity : ℕ) (st : State) (c : Command) → ByLowest (causes capacity st c) (number_told st c) (verdict capacity st c)

-- What J and R name is so, and is the lowest.
pub record NamesLowest (capacity : ℕ) (st : State) : Type 0 where
  -- 13: a is before s and untaken, and every lower step before s is taken
  pub untaken : (s : ℕ) → (verdict capacity st (Take s)).code ≡ 13
      → Holds st.plan.before (verdict capacity st (Take s)).a s × (In (verdict capacity st (Take s)).a st.taken → ⊥)
      × ((x : ℕ) → In x (steps_of st.plan) → x < (verdict capacity st (Take s)).a → Holds st.plan.before x s → In x st.taken)
  -- 14: a is compound, and every lower step is primitive
  pub compound : (verdict capacity st Judge).code ≡ 14
      → ((t : Task) → task_of st.tasks st.plan (verdict capacity st Judge).a ≡ Some t → t.primitive ≡ false)
      × ((x : ℕ) (t : Task) → x < (verdict capacity st Judge).a → task_of st.tasks st.plan x ≡ Some t → t.primitive ≡ true)
  -- 15: need b of step a has no link, and every need of a lower step, and every lower need of a, has one
  pub unlinked : (verdict capacity st Judge).code ≡ 15
      → (Supplied st.plan (verdict capacity st Judge).a (verdict capacity st Judge).b → ⊥)
      × ((x j f : ℕ) (t : Task) → task_of st.tasks st.plan x ≡ Some t → Labelled t.needs j f
      → (x < (verdict capacity st Judge).a) ⊎ ((x ≡ (verdict capacity st Judge).a) × (j < (verdict capacity st Judge).b)) → Supplied st.plan x j)
  -- 16: no threat is lower, by threat, then producer, then consumer
  pub threat : (verdict capacity st Judge).code ≡ 16
      → (l : Link) (f s : ℕ) → Linked l st.plan.links → Protects st.tasks st.plan l f → Threat st.tasks st.plan l f s
      → ((verdict capacity st Judge).a < s) ⊎ (((verdict capacity st Judge).a ≡ s)
      × (((verdict capacity st Judge).b < l.producer) ⊎ (((verdict capacity st Judge).b ≡ l.producer) × ((verdict capacity st Judge).c ≤ l.consumer))))

abbrev pub LowestNamed : Type 0
LowestNamed = (capacity : ℕ) (st : State) → NamesLowest capacity st

-- J is accepted exactly where the plan can be refined and is executable.
abbrev pub JudgedExactly : Type 0
JudgedExactly = (capacity : ℕ) → 2 ≤ capacity → capacity ≤ 64 → (told : History)
    → ((verdict capacity (state capacity told) Judge).code ≡ 0) ↔ (((state capacity told).phase ≡ Refine) × Executable (state capacity told).tasks (state capacity told).plan)

-- From its opening a domain holds only methods that fit their tasks, and a plan is sound: it holds only links that fit.
abbrev pub OnlyFitting : Type 0
OnlyFitting = (capacity : ℕ) (told : History)
    → ((k : ℕ) (m : Method) → slice_get (state capacity told).methods k ≡ Some m → Fits (state capacity told).tasks m)
    × Sound (state capacity told).tasks (state capacity told).plan

-- From its opening on the plan has init and goal at its ends, and every other step between them.
abbrev pub AlwaysFramed : Type 0
AlwaysFramed = (capacity : ℕ) (told : History) → Framed (state capacity told).plan

-- a task's lists hold at most 32 facts each; a method has at most 8 steps and 16 links
abbrev pub ShortLists : Task → Type 0
ShortLists t = (length t.needs ≤ 32) × (length t.adds ≤ 32) × (length t.deletes ≤ 32)

abbrev pub SmallMethod : Method → Type 0
SmallMethod m = (length m.steps ≤ 8) × (length m.links ≤ 16)

-- No limit is passed: 32 tasks, 32 methods with the open one counted, the plan's step numbers, 256 links.
pub record Limits (capacity : ℕ) (st : State) : Type 0 where
  pub tasks : length st.tasks ≤ 32
  pub lists : (k : ℕ) (t : Task) → slice_get st.tasks k ≡ Some t → ShortLists t
  pub methods : length st.methods ≤ 32
  pub open_counts : st.phase ≡ MethodOpen → length st.methods < 32
  pub each : (k : ℕ) (m : Method) → slice_get st.methods k ≡ Some m → SmallMethod m
  pub open_one : st.phase ≡ MethodOpen → SmallMethod st.draft
  pub steps : length st.plan.steps ≤ capacity
  pub links : length st.plan.links ≤ 256

abbrev pub LimitsHold : Type 0
LimitsHold = (capacity : ℕ) → 2 ≤ capacity → (told : History) → Limits capacity (state capacity told)
