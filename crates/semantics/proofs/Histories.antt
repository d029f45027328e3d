-- What holds of the state and of the gate book beside it, after every history.
use Rattle.std.proofs.Common.{◌≡◌, ℕ, zero, suc, true, false, ◌⊎◌, ◌↔◌, List, [], ◌∷◌, Ok, Err, Option, Result, sym, refl, ap, ◌∙◌, subst, ap₂, inl, inr, ⊎_elim, arith}
use mathlib.Core.Path.{fun_ext}
use Rattle.line.specs.Parse.{parsed}
use Rattle.line.specs.declared.command.Command.{Command}
use Rattle.line.specs.declared.command.Command.TheVariants.{AppendAdd, AppendDelete, AppendNeed, CloseMethod, Decompose, EndPhase, Judge, NewCompound, NewPrimitive, NewStep, OpenMethod, PutLink, PutOrder, RouteAdd, RouteNeed, Take}
use Rattle.line.specs.declared.command.Refusal.{Refusal}
use Rattle.semantics.specs.Book.{Book, enter, fed, open_book, task_in_book}
use Rattle.semantics.specs.Facts.{after_step, CanTake, Facts, facts_after, Taken}
use Rattle.semantics.specs.Orders.{In}
use Rattle.semantics.specs.Phases.{is_running, phase_after}
use Rattle.semantics.specs.Plans.{Executable, Plan, task_of}
use Rattle.semantics.specs.Promise.{Accepted, book, History, IsTaken, state}
use Rattle.semantics.specs.Rules.{row_for, state_for, verdict}
use Rattle.semantics.specs.States.{done, next, opening, State}
use Rattle.semantics.specs.Tasks.{Task}
use Rattle.semantics.specs.declared.phase.Phase.{Phase}
use Rattle.semantics.specs.declared.phase.Phase.TheVariants.{Running}
use Rattle.semantics.proofs.Allowed.{Allowed, Lawful}
use Rattle.semantics.proofs.Careful.{careful}
use Rattle.semantics.proofs.Good.{GoodState, opening_framed, opening_sound}
use Rattle.semantics.proofs.InStep.{Alike, alike_next, good_next}

-- a command that is no take command leaves the taken steps alone
taken_kept : (c : Command) (st : State) → ((s : ℕ) → c ≡ Take s → ⊥) → (next st c).taken ≡ st.taken
taken_kept c st out = grind arith

-- a command that is allowed in phase running is a take command
pub take_only : (st : State) (c : Command) → st.phase ≡ Running → Allowed st c → (s : ℕ) × (c ≡ Take s)
take_only st NewPrimitive r a = let w : ⊥ = grind arith in absurd w
take_only st NewCompound r a = let w : ⊥ = grind arith in absurd w
take_only st (AppendNeed t f) r a = let w : ⊥ = grind arith in absurd w
take_only st (AppendAdd t f) r a = let w : ⊥ = grind arith in absurd w
take_only st (AppendDelete t f) r a = let w : ⊥ = grind arith in absurd w
take_only st EndPhase r a = let w : ⊥ = grind arith in absurd w
take_only st (OpenMethod t) r a = let e = a.0 in let w : ⊥ = grind arith in absurd w
take_only st (NewStep t) r a = let e = a.1 in let w : ⊥ = grind arith in absurd w
take_only st (PutOrder p q) r a = ⊎_elim (λ m. let e = m.0 in let w : ⊥ = grind arith in absurd w) (λ m. let e = m.0 in let w : ⊥ = grind arith in absurd w) a
take_only st (PutLink p i q j) r a = ⊎_elim (λ m. let e = m.0 in let w : ⊥ = grind arith in absurd w) (λ m. let e = m.0 in let w : ⊥ = grind arith in absurd w) a
take_only st (RouteNeed j s k) r a = let e = a.0 in let w : ⊥ = grind arith in absurd w
take_only st (RouteAdd i s k) r a = let e = a.0 in let w : ⊥ = grind arith in absurd w
take_only st CloseMethod r a = let e = a.0 in let w : ⊥ = grind arith in absurd w
take_only st (Decompose s m) r a = let e = a.0 in let w : ⊥ = grind arith in absurd w
take_only st Judge r a = let e = a.0 in let w : ⊥ = grind arith in absurd w
take_only st (Take s) r a = (s, refl)

-- a take command keeps the phase
stays_running : (c : Command) (ph : Phase) (s : ℕ) → c ≡ Take s → phase_after c ph ≡ ph
stays_running c ph s e = rw e refl

-- outside phase running an accepted command leaves the book's facts alone
facts_kept : (c : Command) (b : Book) → is_running b.phase ≡ false → (enter c b).facts ≡ b.facts
facts_kept c b h = grind arith

-- only a judge command leads into phase running
into_running : (c : Command) (ph : Phase) → (ph ≡ Running → ⊥) → phase_after c ph ≡ Running → c ≡ Judge
into_running c ph out e = grind arith

running_or_not : (ph : Phase) → (ph ≡ Running) ⊎ ((ph ≡ Running → ⊥) × (is_running ph ≡ false))
running_or_not ph = grind arith

pub lawful : (st : State) → GoodState st → Lawful st
lawful st g = record { sound = g.sound; own_task = λ e. ((g.drafting e).task, (g.drafting e).is_task) }

not_take : (st : State) (c : Command) → (st.phase ≡ Running → ⊥) → Allowed st c → (s : ℕ) → c ≡ Take s → ⊥
not_take st c out a s e = out (subst (Allowed st) e a).0

fresh_next : (st : State) (c : Command) → ((st.phase ≡ Running → ⊥) → st.taken ≡ []) → Allowed st c → ((next st c).phase ≡ Running → ⊥) → (next st c).taken ≡ []
fresh_next st c h a out = ⊎_elim
    (λ r. let t = take_only st c r a in absurd (out (stays_running c st.phase t.0 t.1 ∙ r)))
    (λ n. taken_kept c st (not_take st c n.0 a) ∙ h n.0)
    (running_or_not st.phase)

-- What holds of the tasks, the plan and the taken steps, and of the book: T says which steps are taken, and A whether the plan is accepted.
pub record Inv (ts : List Task) (p : Plan) (done : List ℕ) (b : Book) (T : ℕ → Type 0) (A : Type 0) : Type 0 where
  pub executable : b.phase ≡ Running → Executable ts p
  pub in_order : Taken p done
  pub facts : (f : ℕ) → b.facts f ≡ facts_after ts p done f
  pub same : (s : ℕ) → In s done ↔ T s
  pub accepted : A ↔ (b.phase ≡ Running)

-- the steps taken, and whether the plan is accepted, after a line more
abbrev T' : Result Command Refusal → ℕ → (ℕ → Type 0) → ℕ → Type 0
T' r code T s = ((r ≡ Ok (Take s)) × (code ≡ 0)) ⊎ T s

abbrev A' : Result Command Refusal → ℕ → Type 0 → Type 0
A' r code A = ((r ≡ Ok Judge) × (code ≡ 0)) ⊎ A

-- a line that neither takes a step nor is accepted as a judge line
idle : (ts : List Task) (p : Plan) (done : List ℕ) (b : Book) (T : ℕ → Type 0) (A : Type 0) (r : Result Command Refusal) (n : ℕ)
    → ((c : Command) → r ≡ Ok c → n ≡ 0 → ⊥) → Inv ts p done b T A → Inv ts p done b (T' r n T) (A' r n A)
idle ts p done b T A r n out inv = record {
  executable = inv.executable;
  in_order = inv.in_order;
  facts = inv.facts;
  same = λ s. (λ i. inr ((inv.same s).0 i), λ i. ⊎_elim (λ z. absurd (out (Take s) z.0 z.1)) (inv.same s).1 i);
  accepted = (λ a. ⊎_elim (λ z. absurd (out Judge z.0 z.1)) inv.accepted.0 a, λ h. inr (inv.accepted.1 h));
}

take_step : (ts : List Task) (p : Plan) (done : List ℕ) (b : Book) (T : ℕ → Type 0) (A : Type 0) (s : ℕ) → b.phase ≡ Running
    → ts ≡ b.tasks → p.steps ≡ b.plan.steps → CanTake p done s → Inv ts p done b T A
    → Inv ts p (s ∷ done) (fed b (Ok (Take s)) 0) (T' (Ok (Take s)) 0 T) (A' (Ok (Take s)) 0 A)
take_step ts p done b T A s run same_tasks same_steps can inv = record {
  executable = λ h. inv.executable run;
  in_order = (can, inv.in_order);
  facts = λ f. let r : is_running b.phase ≡ true = ap is_running run in
      let same_facts : b.facts ≡ facts_after ts p done = fun_ext inv.facts in
      let same_task : task_in_book b s ≡ task_of ts p s = cc in
      rw r (ap₂ (λ (o : Option Task) (fs : Facts). after_step o fs f) same_task same_facts);
  same = λ x. (
    λ i. ⊎_elim (λ e. inl (ap (λ (z : ℕ). Ok (Take z)) (sym e), refl)) (λ k. inr ((inv.same x).0 k)) i,
    λ i. ⊎_elim (λ e. let q : ◌≡◌ {A = Result Command Refusal} (Ok (Take s)) (Ok (Take x)) = e.0 in inl (cc)) (λ k. inr ((inv.same x).1 k)) i,
  );
  accepted = (λ a. run, λ h. inr (inv.accepted.1 run));
}

other_step : (ts : List Task) (p p' : Plan) (ts' : List Task) (b : Book) (T : ℕ → Type 0) (A : Type 0) (c : Command) → (b.phase ≡ Running → ⊥) → is_running b.phase ≡ false
    → ((s : ℕ) → c ≡ Take s → ⊥) → (c ≡ Judge → Executable ts' p') → Inv ts p [] b T A
    → Inv ts' p' [] (fed b (Ok c) 0) (T' (Ok c) 0 T) (A' (Ok c) 0 A)
other_step ts p p' ts' b T A c out test no_take judged inv = record {
  executable = λ h. judged (into_running c b.phase out h);
  in_order = tt;
  facts = λ f. ap (λ (fs : Facts). fs f) (facts_kept c b test) ∙ inv.facts f;
  same = λ s. (λ i. absurd i, λ i. ⊎_elim (λ e. let q = e.0 in no_take s (cc)) (inv.same s).1 i);
  accepted = (
    λ a. ⊎_elim (λ e. let q : c ≡ Judge = (let z = e.0 in cc) in ap (λ (k : Command). phase_after k b.phase) q) (λ k. absurd (out (inv.accepted.0 k))) a,
    λ h. inl (ap Ok (into_running c b.phase out h), refl),
  );
}

-- what holds of a state, and of the book beside it
pub record InStep (st : State) (b : Book) : Type 0 where
  pub good : GoodState st
  pub alike : Alike st b
  pub fresh : (st.phase ≡ Running → ⊥) → st.taken ≡ []

opened : InStep opening open_book
opened = record {
  good = record {
    sound = opening_sound opening.tasks (refl, refl);
    ends = (refl, refl);
    unopened = λ e. refl;
    framed = opening_framed;
    none_yet = λ e. refl;
    fit = λ k m e. let w : ⊥ = grind arith in absurd w;
    drafting = λ e. let w : ⊥ = grind arith in absurd w;
  };
  alike = record { phase = refl; tasks = refl; methods = refl; draft = refl; plan = record { steps = refl; links = refl; order = λ x y. (λ h. (grind arith, grind arith), λ h. let p = h.0 in let q = h.1 in grind arith) } };
  fresh = λ e. refl;
}

-- the invariant at a state
abbrev pub At : State → Book → (ℕ → Type 0) → Type 0 → Type 0
At st b T A = Inv st.tasks st.plan st.taken b T A

module _ (capacity : ℕ) where
  -- an accepted command is allowed
  allowed_at : (st : State) (b : Book) → InStep st b → (c : Command) → (verdict capacity st c).code ≡ 0 → Allowed st c
  allowed_at st b i c e = (careful capacity).allowed st (lawful st i.good) c e

  keeps : (st : State) (b : Book) (c : Command) → InStep st b → (n : ℕ) → (verdict capacity st c).code ≡ n → InStep (state_for st (Ok c) n) (fed b (Ok c) n)
  keeps st b c i zero e =
      let a = allowed_at st b i c e in
      record { good = good_next st c i.good a; alike = alike_next st c b i.good a i.alike; fresh = fresh_next st c i.fresh a }
  keeps st b c i (suc n) e = i

  keeps_line : (st : State) (b : Book) (r : Result Command Refusal) → InStep st b → InStep (state_for st r (row_for capacity st r).code) (fed b r (row_for capacity st r).code)
  keeps_line st b (Err e) i = i
  keeps_line st b (Ok c) i = keeps st b c i (verdict capacity st c).code refl

  pub in_step : (told : History) → InStep (state capacity told) (book capacity told)
  in_step [] = opened
  in_step (line ∷ told) = keeps_line (state capacity told) (book capacity told) (parsed line) (in_step told)

  -- one accepted command
  accepted_command : (st : State) (b : Book) (T : ℕ → Type 0) (A : Type 0) (c : Command) → InStep st b → At st b T A → Allowed st c
      → At (next st c) (fed b (Ok c) 0) (T' (Ok c) 0 T) (A' (Ok c) 0 A)
  accepted_command st b T A c i inv a = ⊎_elim run rest (running_or_not b.phase)
    where
      run : b.phase ≡ Running → At (next st c) (fed b (Ok c) 0) (T' (Ok c) 0 T) (A' (Ok c) 0 A)
      run r =
          let which = take_only st c (i.alike.phase ∙ r) a in
          let can : CanTake st.plan st.taken which.0 = (subst (Allowed st) which.1 a).1 in
          subst (λ (k : Command). At (next st k) (fed b (Ok k) 0) (T' (Ok k) 0 T) (A' (Ok k) 0 A)) (sym which.1)
          (take_step st.tasks st.plan st.taken b T A which.0 r i.alike.tasks i.alike.plan.steps can inv)

      judged : c ≡ Judge → Executable (next st c).tasks (next st c).plan
      judged q = subst (λ (k : Command). Executable (next st k).tasks (next st k).plan) (sym q) (subst (Allowed st) q a).1

      rest : ((b.phase ≡ Running → ⊥) × (is_running b.phase ≡ false)) → At (next st c) (fed b (Ok c) 0) (T' (Ok c) 0 T) (A' (Ok c) 0 A)
      rest out =
          let out' : st.phase ≡ Running → ⊥ = λ r. out.0 (sym i.alike.phase ∙ r) in
          let no_take = not_take st c out' a in
          let inv₀ : Inv st.tasks st.plan [] b T A = subst (λ (d : List ℕ). Inv st.tasks st.plan d b T A) (i.fresh out') inv in
          subst (λ (d : List ℕ). Inv (next st c).tasks (next st c).plan d (fed b (Ok c) 0) (T' (Ok c) 0 T) (A' (Ok c) 0 A)) (sym (taken_kept c st no_take ∙ i.fresh out'))
          (other_step st.tasks st.plan (next st c).plan (next st c).tasks b T A c out.0 out.1 no_take judged inv₀)

  one_command : (st : State) (b : Book) (T : ℕ → Type 0) (A : Type 0) (c : Command) → InStep st b → At st b T A → (n : ℕ) → (verdict capacity st c).code ≡ n
      → At (state_for st (Ok c) n) (fed b (Ok c) n) (T' (Ok c) n T) (A' (Ok c) n A)
  one_command st b T A c i inv zero e = accepted_command st b T A c i inv (allowed_at st b i c e)
  one_command st b T A c i inv (suc n) e = idle st.tasks st.plan st.taken b T A (Ok c) (suc n) (λ d q z. omega arith) inv

  one_line : (st : State) (b : Book) (T : ℕ → Type 0) (A : Type 0) (r : Result Command Refusal) → InStep st b → At st b T A
      → At (state_for st r (row_for capacity st r).code) (fed b r (row_for capacity st r).code) (T' r (row_for capacity st r).code T) (A' r (row_for capacity st r).code A)
  one_line st b T A (Err e) i inv = idle st.tasks st.plan st.taken b T A (Err e) (row_for capacity st (Err e)).code (λ d q z. let w : ◌≡◌ {A = ℕ} 0 1 = cc in omega arith) inv
  one_line st b T A (Ok c) i inv = one_command st b T A c i inv (verdict capacity st c).code refl

  pub always : (told : History) → At (state capacity told) (book capacity told) (IsTaken capacity told) (Accepted capacity told)
  always [] = record { executable = λ r. let w : ⊥ = grind arith in absurd w; in_order = tt; facts = λ f. refl; same = λ s. (λ i. i, λ i. i); accepted = (λ a. absurd a, λ r. let w : ⊥ = grind arith in w) }
  always (line ∷ told) = one_line (state capacity told) (book capacity told) (IsTaken capacity told) (Accepted capacity told) (parsed line) (in_step told) (always told)
