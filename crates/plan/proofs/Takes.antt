-- The row of R, and how far a plan is carried out after it, by masks.
use Rattle.std.proofs.Common.{◌≡◌, ℕ, ◌^◌, ◌<◌, Bool, true, false, not, ◌&&◌, ◌||◌, eqb, List, [], ◌∷◌, Some, None, Option, sym, ap, ◌∙◌, ap₂}
use mathlib.Core.Path.{fun_ext}
use lib.Bits.{bit_or}
use Rattle.page.specs.Answers.{as_row}
use Rattle.page.specs.declared.answer.Row.{Row}
use Rattle.masks.specs.Bits.{bit}
use Rattle.masks.proofs.Bits.{bit-or, bit_pow, bit_zero, eqb_turned, or_turned}
use Rattle.semantics.specs.Causes.{first_such, nameless, or_else, returned, when}
use Rattle.semantics.specs.Facts.{after_step, among, as_sum, Facts, facts_after}
use Rattle.semantics.specs.OpenLines.{is_step}
use Rattle.semantics.specs.PlanLines.{untaken_before}
use Rattle.semantics.specs.Plans as planned
use Rattle.semantics.specs.Plans.{steps_of, task_of}
use Rattle.semantics.specs.Tasks.{Task}
use Rattle.plan.specs.Following.{Follows, is_behind, Took}
use Rattle.plan.specs.declared.progress.Progress.{Progress}
use Rattle.plan.proofs.Sums.{sum_of_mask}

pub starts : (ts : List Task) (p : planned.Plan) → Follows ts p [] (record { taken = 0; facts = 0 })
starts ts p = record { steps = bit_zero; facts = bit_zero }

-- the row by its tests: whether the step is there, whether it is taken, and the lowest step that waits
abbrev told_by : Bool → Bool → Option (ℕ × ℕ × ℕ) → ℕ → Row
told_by there again waits n = or_else 6 (nameless 1 (there ∷ [])) (or_else 8 (when again) (or_else 13 waits (as_row 0 n 0 0)))

module _ (ts : List Task) (p : planned.Plan) (taken : List ℕ) (s : ℕ) (g : Progress) (so_far : Follows ts p taken g) where
  abbrev facts_then : Facts
  facts_then = facts_after ts p (s ∷ taken)

  waiting : first_such (is_behind p.before g.taken s) (steps_of p) ≡ first_such (λ x. p.before x s && not (among x taken)) (steps_of p)
  waiting = ap (λ test. first_such test (steps_of p)) (fun_ext (λ x. ap (λ b. p.before x s && not b) (so_far.steps x)))

  by_tests : (o : Option ℕ) → is_step p.steps s ≡ true → bit g.taken s ≡ false → o ≡ first_such (is_behind p.before g.taken s) (steps_of p)
      → told_by true false (returned o) (as_sum facts_then) ≡ told_by (is_step p.steps s) (among s taken) (untaken_before p taken s) (as_sum facts_then)
  by_tests o e a w =
      ap (λ v. told_by true false (returned v) (as_sum facts_then)) (w ∙ waiting)
      ∙ sym (ap₂ (λ b c. told_by b c (untaken_before p taken s) (as_sum facts_then)) e (sym (so_far.steps s) ∙ a))

  pub took_waiting : (x : ℕ) → is_step p.steps s ≡ true → bit g.taken s ≡ false → Some x ≡ first_such (is_behind p.before g.taken s) (steps_of p) → Took ts p taken s (as_row 13 x 0 0) g
  took_waiting x e a w = record { answers = by_tests (Some x) e a w; follows = so_far }

  pub took : (facts : ℕ) → is_step p.steps s ≡ true → bit g.taken s ≡ false → None ≡ first_such (is_behind p.before g.taken s) (steps_of p) → facts < 2 ^ 64 → ((f : ℕ) → bit facts f ≡ after_step (task_of ts p s) (bit g.facts) f)
      → Took ts p taken s (as_row 0 facts 0 0) (record { taken = bit_or g.taken (2 ^ s); facts = facts })
  took facts e a w l h =
      let then : (f : ℕ) → bit facts f ≡ facts_after ts p (s ∷ taken) f = λ f. h f ∙ ap (λ (held : Facts). after_step (task_of ts p s) held f) (fun_ext (λ k. so_far.facts k)) in
      record {
        answers = ap (λ n. as_row 0 n 0 0) (sum_of_mask facts facts_then l then) ∙ by_tests None e a w;
        follows = record {
          steps = λ x. bit-or g.taken (2 ^ s) x ∙ ap₂ ◌||◌ (so_far.steps x) (bit_pow s x ∙ eqb_turned s x) ∙ or_turned (among x taken) (eqb x s);
          facts = then;
        };
      }
