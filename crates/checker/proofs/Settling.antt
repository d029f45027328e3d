-- What a command leaves, where it leaves the steps taken alone.
use Rattle.std.proofs.Common.{◌≡◌, ℕ, Bool, true, false, cond, eqb, List, [], sym, refl, ap, ◌∙◌, subst, arith}
use Rattle.line.specs.declared.command.Command.{Command}
use Rattle.line.specs.declared.command.Command.TheVariants.{AppendAdd, AppendDelete, AppendNeed, CloseMethod, Decompose, EndPhase, Judge, NewCompound, NewPrimitive, NewStep, OpenMethod, PutLink, PutOrder, RouteAdd, RouteNeed, Take}
use Rattle.page.specs.declared.answer.Row.{Row}
use Rattle.semantics.specs.Causes.{told}
use Rattle.semantics.specs.Methods as meant
use Rattle.semantics.specs.Plans as planned
use Rattle.semantics.specs.Rules.{verdict}
use Rattle.semantics.specs.States.{next, State}
use Rattle.semantics.specs.Tasks.{Task}
use Rattle.semantics.specs.declared.phase.Phase.{Phase}
use Rattle.semantics.specs.declared.phase.Phase.TheVariants.{Running}
use Rattle.told_domain.specs.Domains.{Parts, state_with}
use Rattle.plan.specs.Following.{Follows}
use Rattle.plan.specs.declared.progress.Progress.{Progress}
use Rattle.checker.specs.Meaning.{Held}
use Rattle.checker.specs.Outcomes.{Outcome, Reached}

-- every command but R
abbrev pub Still : Command → Type 0
Still NewPrimitive = Unit {0}
Still NewCompound = Unit {0}
Still (AppendNeed t f) = Unit {0}
Still (AppendAdd t f) = Unit {0}
Still (AppendDelete t f) = Unit {0}
Still EndPhase = Unit {0}
Still (OpenMethod t) = Unit {0}
Still (NewStep t) = Unit {0}
Still (PutOrder p q) = Unit {0}
Still (PutLink p i q j) = Unit {0}
Still (RouteNeed j s k) = Unit {0}
Still (RouteAdd i s k) = Unit {0}
Still CloseMethod = Unit {0}
Still (Decompose s m) = Unit {0}
Still Judge = Unit {0}
Still (Take s) = ⊥

-- while the plan is carried out, every command but R is refused
module _ (capacity : ℕ) (ts : List Task) (ms : List meant.Method) (m : meant.Method) (p : planned.Plan) (taken : List ℕ) where
  abbrev running : State
  running = record { phase = Running; tasks = ts; methods = ms; draft = m; plan = p; taken = taken }

  refused : (c : Command) → Still c → (verdict capacity running c).code ≡ 5
  refused NewPrimitive s = refl
  refused NewCompound s = refl
  refused (AppendNeed t f) s = refl
  refused (AppendAdd t f) s = refl
  refused (AppendDelete t f) s = refl
  refused EndPhase s = refl
  refused (OpenMethod t) s = refl
  refused (NewStep t) s = refl
  refused (PutOrder a b) s = refl
  refused (PutLink a i b j) s = refl
  refused (RouteNeed j a k) s = refl
  refused (RouteAdd i a k) s = refl
  refused CloseMethod s = refl
  refused (Decompose a b) s = refl
  refused Judge s = refl
  refused (Take a) s = absurd s

not_running : (capacity : ℕ) (d : Parts) (p : planned.Plan) (taken : List ℕ) (c : Command) → Still c
    → eqb (verdict capacity (state_with d p taken) c).code 0 ≡ true → d.phase ≡ Running → ⊥
not_running capacity d p taken c s e r =
    let five : (verdict capacity (state_with d p taken) c).code ≡ 5
    = ap (λ (ph : Phase). (verdict capacity (record { phase = ph; tasks = d.tasks; methods = d.methods; draft = d.draft; plan = p; taken = taken }) c).code) r
    ∙ refused capacity d.tasks d.methods d.draft p taken c s in
    let no : eqb 5 0 ≡ true = sym (ap (λ (n : ℕ). eqb n 0) five) ∙ e in
    let w : ⊥ = grind arith in w

-- masks that stand for no steps do so for any plan
none_taken : (ts us : List Task) (p q : planned.Plan) (g : Progress) → Follows ts p [] g → Follows us q [] g
none_taken ts us p q g f = record { steps = f.steps; facts = f.facts }

follows_at : (ts : List Task) (p : planned.Plan) (g : Progress) (a b : List ℕ) → a ≡ b → Follows ts p a g → Follows ts p b g
follows_at ts p g a b e f = subst (λ (l : List ℕ). Follows ts p l g) e f

module _ (capacity : ℕ) (c : Command) (w : Row) (h : Held) (d : Parts) (p : planned.Plan) (taken : List ℕ) (still : Still c) (follows : Follows h.domain.tasks h.plan taken h.progress)
    (reached : Reached capacity (state_with h.domain h.plan taken)) (answers : w ≡ verdict capacity (state_with h.domain h.plan taken) c) where
  abbrev st : State
  st = state_with h.domain h.plan taken

  follows_still : (b : Bool) → eqb w.code 0 ≡ b → cond b (next st c) st ≡ state_with d p taken → Follows d.tasks p taken h.progress
  follows_still true e is =
      let none : taken ≡ [] = reached.fresh (not_running capacity h.domain h.plan taken c still (sym (ap (λ (v : Row). eqb v.code 0) answers) ∙ e)) in
      follows_at d.tasks p h.progress [] taken (sym none) (none_taken h.domain.tasks d.tasks h.plan p h.progress (follows_at h.domain.tasks h.plan h.progress taken [] none follows))
  follows_still false e is =
      let same : Follows st.tasks st.plan taken h.progress = follows in
      subst (λ (s : State). Follows s.tasks s.plan taken h.progress) is same

  pub settled : told w (next st c) st ≡ state_with d p taken → Outcome capacity st c w (record { domain = d; plan = p; progress = h.progress })
  settled is =
      let same : (told w (next st c) st).taken ≡ taken = ap (λ (s : State). s.taken) is in record {
        answers = answers;
        means = record {
          is = is ∙ ap (λ (l : List ℕ). state_with d p l) (sym same);
          follows = follows_at d.tasks p h.progress taken (told w (next st c) st).taken (sym same) (follows_still (eqb w.code 0) refl is);
        };
      }
