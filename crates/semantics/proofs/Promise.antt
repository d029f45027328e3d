-- The promise over whole histories.
use Rattle.std.proofs.Common.{◌≡◌, ℕ, ◌<◌, ◌≤◌, true, List, ◌∷◌, length, Some, Ok, Option, sym, ap, ◌∙◌, subst, ⊎_elim, arith}
use mathlib.Core.Path.{fun_ext}
use Rattle.line.proofs.Texts.{one_text}
use Rattle.line.specs.Texts.{text_of}
use Rattle.line.specs.declared.command.Command.{Command}
use Rattle.line.specs.declared.command.Command.TheVariants.{Judge, Take}
use Rattle.page.specs.declared.answer.Row.{Row}
use Rattle.semantics.specs.Book.{Book, task_in_book}
use Rattle.semantics.specs.Facts.{as_sum, CanTake, facts_after}
use Rattle.semantics.specs.Orders.{Earlier, Holds, In, Permitted}
use Rattle.semantics.specs.Plans.{Linked, present_from, Sound, steps_of, task_of}
use Rattle.semantics.specs.Promise.{Accepted, answered, AsInTheBook, Before, BetweenInSomeOrder, book, CanBeTaken, Foremost, History, IsStep, IsTaken, PromiseHolds, Promises, state, Tells}
use Rattle.semantics.specs.Rules.{answer, row_for, state_for, verdict}
use Rattle.semantics.specs.States.{next, State}
use Rattle.semantics.specs.Tasks.{Task}
use Rattle.semantics.specs.declared.link.Link.{Link}
use Rattle.semantics.specs.declared.phase.Phase.TheVariants.{Running}
use Rattle.semantics.proofs.Alike.{numbers_below}
use Rattle.semantics.proofs.Capacity.{few_steps}
use Rattle.semantics.proofs.Careful.{careful}
use Rattle.semantics.proofs.Histories.{always, At, in_step, InStep, lawful}
use Rattle.semantics.proofs.Orders.{permitted_less}
use Rattle.semantics.proofs.Plans.{in_or_not, needs_are_met, some_step_is_next, threat_comes_true}

-- an answer to a line that tells a command
told_same : (capacity : ℕ) (st : State) (line : List ℕ) (c : Command) → Tells line c → answer capacity st line ≡ verdict capacity st c
told_same capacity st line c e = ap (row_for capacity st) e

-- the text R,s reads as it should
take_text : (s : ℕ) → s < 256 → Tells (text_of (Take s)) (Take s)
take_text s h = one_text.read (Take s) (h, tt)

module _ (capacity : ℕ) (least : 2 ≤ capacity) (most : capacity ≤ 64) (told : History) where
  st : State
  st = state capacity told

  b : Book
  b = book capacity told

  step : InStep st b
  unfolding st b
  step = in_step capacity told

  here : At st b (IsTaken capacity told) (Accepted capacity told)
  unfolding st b
  here = always capacity told

  sound : Sound st.tasks st.plan
  sound = step.good.sound

  same_task : (s : ℕ) → task_in_book b s ≡ task_of st.tasks st.plan s
  same_task s = let k = step.alike.tasks in let m = step.alike.plan.steps in cc

  -- an accepted take line takes a step that can be taken
  can : (s : ℕ) → (verdict capacity st (Take s)).code ≡ 0 → (st.phase ≡ Running) × CanTake st.plan st.taken s
  can s c = (careful capacity).allowed st (lawful st step.good) (Take s) c

  code_of : (line : List ℕ) (c : Command) (n : ℕ) → Tells line c → (answered capacity told line).code ≡ n → (verdict capacity st c).code ≡ n
  unfolding st
  code_of line c n e h = ap (λ (r : Row). r.code) (sym (told_same capacity (state capacity told) line c e)) ∙ h

  needs_met : (line : List ℕ) (s : ℕ) → Tells line (Take s) → (answered capacity told line).code ≡ 0
      → (t : Task) × (task_in_book (book capacity told) s ≡ Some t) × ((f : ℕ) → In f t.needs → (book capacity told).facts f ≡ true)
  unfolding st b
  needs_met line s e h =
      let r = can s (code_of line (Take s) 0 e h) in
      let x = here.executable (sym step.alike.phase ∙ r.0) in
      let t = sound.tasks_known s r.1.present in
      (t.0, same_task s ∙ t.1, λ f i. here.facts f ∙ needs_are_met st.tasks st.plan sound x st.taken here.in_order s t.0 t.1 r.1 f i)

  facts_answered : (line : List ℕ) (s : ℕ) → Tells line (Take s) → (answered capacity told line).code ≡ 0
      → (answered capacity told line).a ≡ as_sum (book capacity (line ∷ told)).facts
  unfolding st b
  facts_answered line s e h =
      let c = code_of line (Take s) 0 e h in
      let after : state capacity (line ∷ told) ≡ next st (Take s) = (λ i. state_for st (e i) (row_for capacity st (e i)).code) ∙ ap (state_for st (Ok (Take s))) c in
      let now : facts_after st.tasks st.plan (s ∷ st.taken) ≡ facts_after (state capacity (line ∷ told)).tasks (state capacity (line ∷ told)).plan (state capacity (line ∷ told)).taken =
      ap (λ (x : State). facts_after x.tasks x.plan x.taken) (sym after) in
      let same : (book capacity (line ∷ told)).facts ≡ facts_after (state capacity (line ∷ told)).tasks (state capacity (line ∷ told)).plan (state capacity (line ∷ told)).taken =
      fun_ext (always capacity (line ∷ told)).facts in
      ap (λ (r : Row). r.a) (told_same capacity st line (Take s) e) ∙ ((careful capacity).sums st s c ∙ ap as_sum (now ∙ sym same))

  count_answered : (line : List ℕ) → Tells line Judge → (answered capacity told line).code ≡ 0 → (answered capacity told line).a ≡ length (present_from 0 (book capacity told).plan.steps)
  unfolding st b
  count_answered line e h =
      ap (λ (r : Row). r.a) (told_same capacity st line Judge e)
      ∙ ((careful capacity).counts st (code_of line Judge 0 e h) ∙ ap (λ (os : List (Option ℕ)). length (present_from 0 os)) step.alike.plan.steps)

  as_in_the_book : AsInTheBook capacity told
  unfolding st b
  as_in_the_book = record {
    tasks = step.alike.tasks;
    steps = step.alike.plan.steps;
    order = step.alike.plan.order;
    links = λ l h. subst (Linked l) (sym step.alike.plan.links) h;
  }

  in_plan : (s : ℕ) → IsStep capacity told s → In s (steps_of st.plan)
  unfolding st b
  in_plan s i = subst (λ (os : List (Option ℕ)). In s (present_from 0 os)) (sym step.alike.plan.steps) i

  in_book : (s : ℕ) → In s (steps_of st.plan) → IsStep capacity told s
  unfolding st b
  in_book s i = subst (λ (os : List (Option ℕ)). In s (present_from 0 os)) step.alike.plan.steps i

  foremost_can : Accepted capacity told → (s : ℕ) → Foremost capacity told s → CanBeTaken capacity told s
  unfolding st b
  foremost_can a s fore =
      let below = numbers_below st.plan.steps 0 s (in_plan s fore.step) in
      let few = few_steps capacity least told in
      let tells = take_text s (omega arith) in
      ap (λ (r : Row). r.code) (told_same capacity st (text_of (Take s)) (Take s) tells)
      ∙ (careful capacity).takes st (lawful st step.good) s (
        step.alike.phase ∙ here.accepted.0 a,
        record {
          present = in_plan s fore.step;
          untaken = λ i. fore.untaken ((here.same s).0 i);
          behind = λ x h. ⊎_elim (λ i. i)
              (λ n. absurd (fore.none_left x (in_book x (sound.own_steps x s h).0) ((step.alike.plan.order x s).0 h) (λ i. n ((here.same x).1 i))))
              (in_or_not x st.taken);
        },
      )

  some_foremost : Accepted capacity told → (x : ℕ) → IsStep capacity told x → (IsTaken capacity told x → ⊥) → (s : ℕ) × Foremost capacity told s
  unfolding st b
  some_foremost a x i n =
      let r = some_step_is_next st.tasks st.plan sound st.taken x (in_plan x i) (λ k. n ((here.same x).0 k)) in (
        r.0,
        record {
          step = in_book r.0 r.1.present;
          untaken = λ k. r.1.untaken ((here.same r.0).1 k);
          none_left = λ y k h m. m ((here.same y).0 (r.1.behind y ((step.alike.plan.order y r.0).1 h)));
        },
      )

  threat_shown : (line : List ℕ) → Tells line Judge → (answered capacity told line).code ≡ 16
      → BetweenInSomeOrder capacity told (answered capacity told line).b (answered capacity told line).a (answered capacity told line).c
  unfolding st b
  threat_shown line e h =
      let q = told_same capacity st line Judge e in
      let th = (careful capacity).threatens st (lawful st step.good) (code_of line Judge 16 e h) in
      let l : Link = th.1.0 in
      let o = threat_comes_true st.tasks st.plan sound th.0 l th.1.1 th.1.2 th.1.3 (verdict capacity st Judge).a th.1.4 in
      subst (λ (r : Row). BetweenInSomeOrder capacity told r.b r.a r.c) (sym q) (record {
        order = o.0;
        permitted = permitted_less (Before capacity told) (Holds st.plan.before) (present_from 0 (book capacity told).plan.steps) o.0 (λ x y k. (step.alike.plan.order x y).1 k)
            (subst (λ (os : List (Option ℕ)). Permitted (present_from 0 os) (Holds st.plan.before) o.0) step.alike.plan.steps o.1);
        producer_first = subst (λ (x : ℕ). Earlier o.0 x (verdict capacity st Judge).a) (sym th.1.5) o.2;
        consumer_last = subst (λ (x : ℕ). Earlier o.0 (verdict capacity st Judge).a x) (sym th.1.6) o.3;
      })

  pub promises : Promises capacity told
  promises = record {
    needs_met = needs_met;
    facts_answered = facts_answered;
    foremost_can = foremost_can;
    some_foremost = some_foremost;
    as_in_the_book = λ a. as_in_the_book;
    count_answered = count_answered;
    threat_comes_true = threat_shown;
  }

pub promise_holds : PromiseHolds
promise_holds = promises
