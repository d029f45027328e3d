-- The worked listing and its variants: texts told to a new checker with 64 step numbers, and the rows that they end with.
use Rattle.std.specs.Prelude.{◌≡◌, ℕ, ◌-◌, cond, List, [], ◌∷◌, ◌++◌, map, length, drop, replicate, codes, ◌==◌}
use Rattle.page.specs.Answers.{as_row}
use Rattle.page.specs.Lines.{lines}
use Rattle.page.specs.declared.answer.Row.{Row}
use Rattle.semantics.specs.Rules.{rows}
use Rattle.semantics.specs.States.{opening}

-- the text with CR LF for each bar
abbrev pub with_breaks : List ℕ → List ℕ
with_breaks [] = []
with_breaks (b ∷ bs) = cond (b == 124) (13 ∷ 10 ∷ with_breaks bs) (b ∷ with_breaks bs)

-- a text, with bars for its breaks, and its last rows
pub record Example : Type 0 where
  pub text : List ℕ
  pub ends_with : List Row

abbrev pub example : List ℕ → List Row → Example
example text ends = record { text = text; ends_with = ends }

-- the rows that the text ends with, as many as are listed
abbrev pub last_rows : Example → List Row
last_rows e =
    let all : List Row = rows 64 opening (lines (with_breaks e.text)) in
    drop (length all - length e.ends_with) all

-- Weigh empty is task 2, weigh full is task 3, and weigh twice, a compound task, is task 4.
abbrev pub declared : List ℕ
declared = codes "P|P|C|"

abbrev pub facts_told : List ℕ
facts_told = codes "A,0,0|N,1,2|N,2,0|A,2,1|N,3,1|A,3,2|N,4,0|A,4,2|"

-- the method of weigh twice, but for the entry of its add and its end
abbrev pub method_told : List ℕ
method_told = codes "E|M,4|S,2|S,3|L,0,0,1,0|U,0,0,0|"

abbrev pub domain_told : List ℕ
domain_told = declared ++ (facts_told ++ (method_told ++ codes "V,0,1,0|K|E|"))

-- the plan with one step of weigh twice and its links, told and decomposed
abbrev pub links_told : List ℕ
links_told = codes "L,0,0,2,0|L,2,0,1,0|E|"

abbrev pub decomposed_plan : List ℕ
decomposed_plan = domain_told ++ (codes "S,4|" ++ (links_told ++ codes "X,2,0|"))

-- the same with "clear", a primitive task 5 that deletes fact 1, and a step of it
abbrev pub plan_with_clear : List ℕ
plan_with_clear = declared ++ (codes "P|" ++ (facts_told ++ (codes "D,5,1|" ++ (method_told ++ (codes "V,0,1,0|K|E|S,4|S,5|" ++ (links_told ++ codes "X,2,0|"))))))

-- one row of zeros for each of n lines
abbrev pub zeros : ℕ → List Row
zeros n = replicate n (as_row 0 0 0 0)

abbrev pub examples : List Example
examples =
    -- the listing
    example (decomposed_plan ++ codes "J|R,0|R,3|R,4|R,1")
    ((as_row 0 2 0 0 ∷ as_row 0 3 0 0 ∷ as_row 0 4 0 0 ∷ zeros 11) ++ ((as_row 0 1 0 0 ∷ zeros 5) ++ ((as_row 0 2 0 0 ∷ zeros 3)
    ++ (as_row 0 3 0 0 ∷ as_row 0 4 0 0 ∷ as_row 0 1 0 0 ∷ as_row 0 3 0 0 ∷ as_row 0 7 0 0 ∷ as_row 0 7 0 0 ∷ []))))
    -- no step but init and goal
    ∷ example (codes "E|E|E|J") (as_row 0 2 0 0 ∷ [])
    -- without X, a compound step is left
    ∷ example (domain_told ++ (codes "S,4|" ++ (links_told ++ codes "J"))) (as_row 14 2 0 0 ∷ [])
    -- without the link into the compound step, a need has none
    ∷ example (domain_told ++ codes "S,4|L,2,0,1,0|E|X,2,0|J") (as_row 15 3 0 0 ∷ [])
    -- clear may come between the producer and the consumer of fact 1
    ∷ example (plan_with_clear ++ codes "J") (as_row 16 3 4 5 ∷ [])
    -- clear comes before the producer, or after the consumer
    ∷ example (plan_with_clear ++ codes "O,3,4|J") (as_row 0 5 0 0 ∷ [])
    ∷ example (plan_with_clear ++ codes "O,5,3|J") (as_row 0 5 0 0 ∷ [])
    -- a consumer that deletes what it needs is no threat to its own link
    ∷ example (declared ++ (facts_told ++ (codes "D,3,1|" ++ (method_told ++ (codes "V,0,1,0|K|E|S,4|" ++ (links_told ++ codes "X,2,0|J|R,0|R,3|R,4"))))))
    (as_row 0 4 0 0 ∷ as_row 0 1 0 0 ∷ as_row 0 3 0 0 ∷ as_row 0 5 0 0 ∷ [])
    -- steps out of order, and a step taken twice
    ∷ example (decomposed_plan ++ codes "J|R,0|R,4") (as_row 13 3 0 0 ∷ [])
    ∷ example (decomposed_plan ++ codes "J|R,3") (as_row 13 0 0 0 ∷ [])
    ∷ example (decomposed_plan ++ codes "J|R,0|R,0") (as_row 8 0 0 0 ∷ [])
    -- a step that has left
    ∷ example (decomposed_plan ++ codes "X,2,0") (as_row 6 1 0 0 ∷ [])
    -- nothing comes before init
    ∷ example (domain_told ++ codes "S,4|O,2,0") (as_row 11 0 0 0 ∷ [])
    -- the add of the method's task has no entry
    ∷ example (declared ++ (facts_told ++ (method_told ++ codes "K"))) (as_row 12 1 0 0 ∷ [])
    -- facts are 0 to 63, and numbers are written without leading zeros
    ∷ example (declared ++ codes "N,2,63|N,2,64|N,2,256|N,2,07||P") (as_row 0 0 0 0 ∷ as_row 6 2 0 0 ∷ as_row 4 2 0 0 ∷ as_row 4 2 0 0 ∷ as_row 2 0 0 0 ∷ as_row 0 5 0 0 ∷ [])
    ∷ []

-- Each text ends with its rows.
abbrev pub AsListed : Type 0
AsListed = map last_rows examples ≡ map (λ e. e.ends_with) examples
