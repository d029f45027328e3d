-- What becomes of a line, whatever lines led to it.
use Rattle.std.proofs.Common.{◌≡◌, ℕ, zero, suc, ◌<◌, ◌≤◌, Bool, false, cond, eqb, List, ◌∷◌, length, Some, Ok, Err, Result, sym, refl, ap, ◌∙◌, subst, arith}
use Rattle.line.specs.Parse.{parsed}
use Rattle.line.specs.declared.command.Command.{Command}
use Rattle.line.specs.declared.command.Refusal.{Refusal}
use Rattle.page.specs.Answers.{refusal_row, unread}
use Rattle.page.specs.declared.answer.Row.{Row}
use Rattle.semantics.specs.Causes.{told}
use Rattle.semantics.specs.Orders.{In}
use Rattle.semantics.specs.Plans.{steps_of}
use Rattle.semantics.specs.Promise.{answered, History, state}
use Rattle.semantics.specs.Rules.{row_for, state_for}
use Rattle.semantics.specs.States.{next, State}
use Rattle.semantics.proofs.Alike.{numbers_below}
use Rattle.semantics.proofs.Capacity.{few_steps}
use Rattle.semantics.proofs.Histories.{in_step}
use Rattle.semantics.proofs.Inherited.{nth_below}
use Rattle.semantics.proofs.Promise.{promise_holds}
use Rattle.checker.specs.Meaning.{Held, Means}
use Rattle.checker.specs.Outcomes.{Obeys, Outcome, Reached}
use Rattle.checker.specs.Promises.{Kept}

-- an accepted command changes the state, and a refused one does not
told_state : (st : State) (c : Command) (n : ℕ) → state_for st (Ok c) n ≡ cond (eqb n 0) (next st c) st
told_state st c zero = refl
told_state st c (suc n) = let e : eqb (suc n) 0 ≡ false = grind arith in sym (ap (λ (b : Bool). cond b (next st c) st) e)

-- what every state that lines lead to has
pub reached : (capacity : ℕ) → 2 ≤ capacity → (past : History) → Reached capacity (state capacity past)
reached capacity two past =
    let p = (state capacity past).plan in
    let step = in_step capacity past in
    let framed = step.good.framed in
    let below : (x : ℕ) → In x (steps_of p) → x < length p.steps = λ x i. omega (arith, numbers_below p.steps 0 x i) in record {
      suits = record {
        room = few_steps capacity two past;
        both = omega (arith, nth_below p.steps 1 (Some 1) framed.goal);
        starts = framed.ends;
        given = λ a b holds. let own = step.good.sound.own_steps a b holds in (below a own.0, below b own.1);
      };
      fresh = step.fresh;
    }

module _ (capacity : ℕ) (two : 2 ≤ capacity) (few : capacity ≤ 64) (past : History) (line : List ℕ) (h : Held) (means : Means h (state capacity past)) where
  abbrev st : State
  st = state capacity past

  kept : (w : Row) (after : Held) → w ≡ answered capacity past line → Means after (state capacity (line ∷ past)) → Kept capacity past line w after
  kept w after a m = record { answers = a; means = m; promised = promise_holds capacity two few past; promises = promise_holds capacity two few (line ∷ past) }

  -- the outcome of a command in the state that the checker stands for
  outcome : (c : Command) (w : Row) (after : Held) → Reached capacity st → Obeys capacity c w h after → Outcome capacity st c w after
  outcome c w after reached obeys =
      subst (λ (s : State). Outcome capacity s c w after) (sym means.is) (obeys st.taken means.follows (subst (λ (s : State). Reached capacity s) means.is reached))

  pub command_kept : (c : Command) (w : Row) (after : Held) → Reached capacity st → parsed line ≡ Ok c → Obeys capacity c w h after → Kept capacity past line w after
  command_kept c w after reached is obeys =
      let o = outcome c w after reached obeys in
      let answers : w ≡ answered capacity past line = o.answers ∙ sym (ap (λ (r : Result Command Refusal). row_for capacity st r) is) in
      let now : told w (next st c) st ≡ state capacity (line ∷ past)
      = sym (told_state st c w.code) ∙ ap (λ (v : Row). state_for st (Ok c) v.code) answers ∙ sym (ap (λ (r : Result Command Refusal). state_for st r (answered capacity past line).code) is) in
      kept w after answers (subst (λ (s : State). Means after s) now o.means)

  pub refusal_kept : (e : Refusal) (w : Row) → parsed line ≡ Err e → w ≡ refusal_row (unread e) → Kept capacity past line w h
  refusal_kept e w is a =
      let answers : w ≡ answered capacity past line = a ∙ sym (ap (λ (r : Result Command Refusal). row_for capacity st r) is) in
      let same : st ≡ state capacity (line ∷ past) = sym (ap (λ (r : Result Command Refusal). state_for st r (answered capacity past line).code) is) in
      kept w h answers (subst (λ (s : State). Means h s) same means)
