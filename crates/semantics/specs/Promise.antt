-- What is promised to whoever keeps a gate book beside the checker, for every list of lines of whatever bytes.
use Rattle.std.specs.Prelude.{◌≡◌, ℕ, ◌≤◌, true, ◌⊎◌, ◌↔◌, List, [], ◌∷◌, length, Some, Ok}
use Rattle.line.specs.Parse.{parsed}
use Rattle.line.specs.Texts.{text_of}
use Rattle.line.specs.declared.command.Command.{Command}
use Rattle.line.specs.declared.command.Command.TheVariants.{Judge, Take}
use Rattle.page.specs.declared.answer.Row.{Row}
use Rattle.semantics.specs.Book.{Book, feed, open_book, task_in_book}
use Rattle.semantics.specs.Facts.{as_sum}
use Rattle.semantics.specs.Orders.{Earlier, Holds, In, Permitted}
use Rattle.semantics.specs.Plans.{Linked, present_from}
use Rattle.semantics.specs.Rules.{answer, tell}
use Rattle.semantics.specs.States.{opening, State}
use Rattle.semantics.specs.Tasks.{Task}
use Rattle.semantics.specs.declared.link.Link.{Link}

-- A history is the list of the lines told so far, the latest first.
abbrev pub History : Type 0
History = List (List ℕ)

-- the line tells this command
abbrev pub Tells : List ℕ → Command → Type 0
Tells line c = parsed line ≡ Ok c

-- A checker whose plan has so many step numbers.
module _ (capacity : ℕ) where
  -- the state after a history
  abbrev pub state : History → State
  state [] = opening
  state (line ∷ told) = tell capacity (state told) line

  -- what a line gets next
  abbrev pub answered : History → List ℕ → Row
  answered told line = answer capacity (state told) line

  -- the gate book, fed the same lines with the codes that they got
  abbrev pub book : History → Book
  book [] = open_book
  book (line ∷ told) = feed (book told) line (answered told line).code

  -- the plan is accepted: its J line got code 0
  abbrev pub Accepted : History → Type 0
  Accepted [] = ⊥
  Accepted (line ∷ told) = (Tells line Judge × ((answered told line).code ≡ 0)) ⊎ Accepted told

  -- step s is taken: its R line got code 0
  abbrev pub IsTaken : History → ℕ → Type 0
  IsTaken [] s = ⊥
  IsTaken (line ∷ told) s = (Tells line (Take s) × ((answered told line).code ≡ 0)) ⊎ IsTaken told s

  -- step s can be taken next: its R line would get code 0
  abbrev pub CanBeTaken : History → ℕ → Type 0
  CanBeTaken told s = (answered told (text_of (Take s))).code ≡ 0

  -- s is a step of the book's plan
  abbrev pub IsStep : History → ℕ → Type 0
  IsStep told s = In s (present_from 0 (book told).plan.steps)

  -- in the book's plan, x is before y
  abbrev pub Before : History → ℕ → ℕ → Type 0
  Before told x y = (book told).plan.before x y

  -- s is an untaken step with no untaken step before it
  pub record Foremost (told : History) (s : ℕ) : Type 0 where
    pub step : IsStep told s
    pub untaken : IsTaken told s → ⊥
    pub none_left : (x : ℕ) → IsStep told x → Before told x s → (IsTaken told x → ⊥) → ⊥

  -- some permitted order of the book's plan has t between p and c
  pub record BetweenInSomeOrder (told : History) (p t c : ℕ) : Type 0 where
    pub order : List ℕ
    pub permitted : Permitted (present_from 0 (book told).plan.steps) (Before told) order
    pub producer_first : Earlier order p t
    pub consumer_last : Earlier order t c

  -- the plan has exactly the steps, tasks and order of the book's plan, and all its links
  pub record AsInTheBook (told : History) : Type 0 where
    pub tasks : (state told).tasks ≡ (book told).tasks
    pub steps : (state told).plan.steps ≡ (book told).plan.steps
    pub order : (x y : ℕ) → Holds (state told).plan.before x y ↔ Before told x y
    pub links : (l : Link) → Linked l (book told).plan.links → Linked l (state told).plan.links

  -- What holds after every history.
  pub record Promises (told : History) : Type 0 where
    -- needs are met: a step that is taken is one of the book's steps, with all its needs among the book's facts just before
    pub needs_met : (line : List ℕ) (s : ℕ) → Tells line (Take s) → (answered told line).code ≡ 0
        → (t : Task) × (task_in_book (book told) s ≡ Some t) × ((f : ℕ) → In f t.needs → (book told).facts f ≡ true)
    -- the row answers the book's facts just after
    pub facts_answered : (line : List ℕ) (s : ℕ) → Tells line (Take s) → (answered told line).code ≡ 0
        → (answered told line).a ≡ as_sum (book (line ∷ told)).facts
    -- each foremost step of an accepted plan can be taken
    pub foremost_can : Accepted told → (s : ℕ) → Foremost told s → CanBeTaken told s
    -- while a step of an accepted plan is untaken, some step is foremost, and so can be taken
    pub some_foremost : Accepted told → (x : ℕ) → IsStep told x → (IsTaken told x → ⊥) → (s : ℕ) × Foremost told s
    -- the accepted plan is the book's
    pub as_in_the_book : Accepted told → AsInTheBook told
    -- J answers the count of the plan's steps
    pub count_answered : (line : List ℕ) → Tells line Judge → (answered told line).code ≡ 0
        → (answered told line).a ≡ length (present_from 0 (book told).plan.steps)
    -- a threat comes true: some permitted order puts the named step between the named producer and consumer
    pub threat_comes_true : (line : List ℕ) → Tells line Judge → (answered told line).code ≡ 16
        → BetweenInSomeOrder told (answered told line).b (answered told line).a (answered told line).c

-- For every capacity from 2 to 64 and every list of lines, of whatever bytes and length, refused ones included.
abbrev pub PromiseHolds : Type 0
PromiseHolds = (capacity : ℕ) → 2 ≤ capacity → capacity ≤ 64 → (told : History) → Promises capacity told
