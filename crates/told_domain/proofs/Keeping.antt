-- What a domain holds of its methods, and how each line keeps it.
use Rattle.std.proofs.Common.{◌≡◌, ℕ, zero, suc, ◌<◌, Bool, true, false, cond, eqb, ◌⊎◌, List, [], ◌∷◌, ◌++◌, length, IfSome, Some, None, Option, sym, refl, ap, ◌∙◌, subst, inl, inr, ⊎_elim, arith, Bor}
use mathlib.Core.Logic.{∥∥₁_map}
use Rattle.std.proofs.lemmas.Bool.{eqb-true}
use Rattle.std.specs.List.{slice_get}
use Rattle.std.specs.Option.{option_map}
use Rattle.fixed.specs.Items.{items}
use Rattle.page.specs.declared.answer.Row.{Row}
use Rattle.page.specs.declared.answer.Side.{Side}
use Rattle.page.specs.declared.answer.Side.TheVariants.{Add, Need}
use Rattle.semantics.specs.Causes.{first_of, told}
use Rattle.semantics.specs.Drafts.{Draft}
use Rattle.semantics.specs.Methods as meant
use Rattle.semantics.specs.Tasks.{Task}
use Rattle.semantics.specs.declared.phase.Phase.{Phase}
use Rattle.semantics.specs.declared.phase.Phase.TheVariants.{MethodOpen, Methods, Tasks}
use Rattle.domain.specs.Meaning.{tasks}
use Rattle.semantics.proofs.Drafting.{kept_add, kept_need}
use Rattle.methods.specs.Meaning.{method}
use Rattle.methods.specs.Sides.{entry_causes, with_entry}
use Rattle.methods.specs.declared.method.Method.{Method}
use Rattle.told_domain.specs.declared.told.Domain.{Domain}

-- every method fits, what is told of the open one fits, in phase tasks there is none, and there is room for the open one
pub record Held (ph : Phase) (ts : List Task) (ms : List Method) (d : Method) : Type 0 where
  pub fitting : (k : ℕ) (m : Method) → slice_get ms k ≡ Some m → ∥ meant.Fits ts (method m) ∥₁
  pub drafting : ph ≡ MethodOpen → ∥ Draft ts (method d) ∥₁
  pub unused : ph ≡ Tasks → length ms ≡ 0
  pub room : ph ≡ MethodOpen → length ms < 32

pub held : (d : Domain) → Held d.phase (tasks d.known) (items d.list) d.draft
held d = record { fitting = d.fitting; drafting = d.drafting; unused = d.unused; room = d.room }

none_here : {X : Type 0} (P : X → Type 0) (xs : List X) → length xs ≡ 0 → (k : ℕ) (x : X) → slice_get xs k ≡ Some x → P x
none_here P [] e k x h = let w : ⊥ = grind arith in absurd w
none_here P (y ∷ xs) e k x h = let w : ⊥ = omega arith in absurd w

not_open : (ph : Phase) → ph ≡ Tasks → ph ≡ MethodOpen → ⊥
not_open ph e f = let z : ◌≡◌ {A = ℕ} 0 1 = cc in omega arith

-- a line that tells tasks: there is no method yet
pub task_line : (ph : Phase) (ts us : List Task) (ms : List Method) (d : Method) → ph ≡ Tasks → Held ph ts ms d → Held ph us ms d
task_line ph ts us ms d e h = record {
  fitting = none_here (λ m. ∥ meant.Fits us (method m) ∥₁) ms (h.unused e);
  drafting = λ f. absurd (not_open ph e f);
  unused = h.unused;
  room = h.room;
}

-- what holds of the old, and of the new where the line is accepted, holds of what the line leaves
told_keeps : {X : Type 0} (P : X → Type 0) (w : Row) (new old : X) → (w.code ≡ 0 → P new) → P old → P (told w new old)
told_keeps P w new old f p = at (eqb w.code 0) refl
  where
    at : (b : Bool) → eqb w.code 0 ≡ b → P (cond b new old)
    at true e = f (eqb-true w.code 0 e)
    at false e = p

-- a line of the open method
pub draft_line : (ph : Phase) (ts : List Task) (ms : List Method) (d out : Method) (new : meant.Method) (w v : Row) → w ≡ v → method out ≡ told w new (method d)
    → (v.code ≡ 0 → Draft ts (method d) → Draft ts new) → Held ph ts ms d → Held ph ts ms out
draft_line ph ts ms d out new w v e o keeps h = record {
  fitting = h.fitting;
  drafting = λ p. ∥∥₁_map (h.drafting p) (λ f. subst (Draft ts) (sym o) (told_keeps (Draft ts) w new (method d) (λ z. keeps (sym (ap (λ (r : Row). r.code) e) ∙ z) f) f));
  unused = h.unused;
  room = h.room;
}

-- a method is opened
pub opened : (ph : Phase) (ts : List Task) (ms : List Method) (d out : Method) → Draft ts (method out) → length ms < 32 → Held ph ts ms d → Held MethodOpen ts ms out
opened ph ts ms d out f few h = record {
  fitting = h.fitting;
  drafting = λ p. ∣ f ∣₁;
  unused = λ p. let z : ◌≡◌ {A = ℕ} 0 1 = cc in absurd (omega arith);
  room = λ p. few;
}

nth_last : {X : Type 0} (xs : List X) (x : X) (k : ℕ) (y : X) → slice_get (xs ++ (x ∷ [])) k ≡ Some y → (slice_get xs k ≡ Some y) ⊎ (x ≡ y)
nth_last [] x zero y h = inr (cc)
nth_last [] x (suc k) y h = let w : ⊥ = grind arith in absurd w
nth_last (z ∷ xs) x zero y h = inl h
nth_last (z ∷ xs) x (suc k) y h = nth_last xs x k y h

-- the open method is closed
pub closed : (ph : Phase) (ts : List Task) (ms after : List Method) (d : Method) → ph ≡ MethodOpen → after ≡ ms ++ (d ∷ []) → (Draft ts (method d) → meant.Fits ts (method d))
    → Held ph ts ms d → Held Methods ts after d
closed ph ts ms after d e s fits h = record {
  fitting = λ k m i. ⊎_elim (h.fitting k m) (λ q. subst (λ (n : Method). ∥ meant.Fits ts (method n) ∥₁) q (∥∥₁_map (h.drafting e) fits)) (nth_last ms d k m (ap (λ (ns : List Method). slice_get ns k) (sym s) ∙ i));
  drafting = λ p. let z : ◌≡◌ {A = ℕ} 0 1 = cc in absurd (omega arith);
  unused = λ p. let z : ◌≡◌ {A = ℕ} 0 1 = cc in absurd (omega arith);
  room = λ p. let z : ◌≡◌ {A = ℕ} 0 1 = cc in absurd (omega arith);
}

-- what holds of the one that is lent
pub lent : (P : Method → Type 0) (all : Option Method) (o : Option (Bor Method)) → option_map (λ (x : Bor Method). x.now) o ≡ all
    → ((m : Method) → all ≡ Some m → P m) → IfSome o (λ x. P x.now)
lent P all None e f = tt
lent P all (Some x) e f = f x.now (sym e)

-- an entry on either side keeps what is told of the open method
pub kept_entry : (side : Side) (ts : List Task) (m : meant.Method) (from s k : ℕ) → (first_of (entry_causes side ts m from s k) 0).code ≡ 0 → Draft ts m → Draft ts (with_entry side m from (s, k))
kept_entry Need ts m from s k = kept_need ts m from s k 0
kept_entry Add ts m from s k = kept_add ts m from s k 0
