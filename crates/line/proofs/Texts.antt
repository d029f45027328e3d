-- Each command is read from one text.
use Rattle.std.proofs.Common.{◌≡◌, ℕ, zero, suc, ◌+◌, Bool, true, false, cond, not, eqb, List, [], ◌∷◌, ◌++◌, map, length, get_or, Some, None, Ok, Err, decimal, Option, Result, sym, refl, ap, ◌∙◌, subst, append-nil, arith}
use lib.ListN.{length-map}
use Rattle.std.specs.Char.{is_ascii_digit}
use Rattle.std.specs.List.{onto_first, position_from}
use Rattle.std.specs.Str.{all_ascii_digits}
use Rattle.std.proofs.lemmas.Bool.{cond-true, cond-false, eq-eqb}
use Rattle.std.proofs.lemmas.Bool.Decides.{nat_tests}
use Rattle.std.proofs.lemmas.Iterator.Adapters.{position_from-zero}
use Rattle.line.specs.Bytes.{plain, bad_byte}
use Rattle.line.specs.Fields.{fields, joined}
use Rattle.line.specs.Letters.{Kind, kinds, kind_of}
use Rattle.line.specs.Numbers.{is_number, value}
use Rattle.line.specs.Parse.{onto, numbers, counted, made, of_kind, lettered, unless_bad, parsed}
use Rattle.line.specs.Texts.{commas, Small, letter_of, numbers_of, text_of, OneText}
use Rattle.line.specs.declared.command.Command.{Command}
use Rattle.line.specs.declared.command.Command.TheVariants.{NewPrimitive, NewCompound, AppendNeed, AppendAdd, AppendDelete, EndPhase, OpenMethod, NewStep, PutOrder, PutLink, RouteNeed, RouteAdd, CloseMethod, Decompose, Judge, Take}
use Rattle.line.specs.declared.command.Refusal.{Refusal}
use Rattle.line.specs.declared.command.Refusal.TheVariants.{BadByte, NoLetter, FieldCount, NoNumber}
use Rattle.line.proofs.Decimals.{digits, passes, value_of, only}
use Rattle.line.proofs.Digits.{small}
use Rattle.line.proofs.Joins.{whole}

-- ---- from a command to its text and back

-- a digit is plain and no comma
digit_plain : (d : ℕ) → is_ascii_digit d ≡ true → plain d ≡ true
digit_plain d h = grind (arith, nat_tests)

digit_no_comma : (d : ℕ) → is_ascii_digit d ≡ true → eqb d 44 ≡ false
digit_no_comma d h = grind (arith, nat_tests)

first_digit : (d : ℕ) (ds : List ℕ) → all_ascii_digits (d ∷ ds) ≡ true → is_ascii_digit d ≡ true
first_digit d ds h = grind (arith, nat_tests)

other_digits : (d : ℕ) (ds : List ℕ) → all_ascii_digits (d ∷ ds) ≡ true → all_ascii_digits ds ≡ true
other_digits d ds h = grind (arith, nat_tests)

abbrev NoBad : List ℕ → Type 0
NoBad bs = (i : ℕ) → position_from (λ b. not (plain b)) i bs ≡ None

plain_digits : (ds rest : List ℕ) → all_ascii_digits ds ≡ true → NoBad rest → NoBad (ds ++ rest)
plain_digits [] rest h n i = n i
plain_digits (d ∷ ds) rest h n i = cond-false _ _ _ (ap not (digit_plain d (first_digit d ds h))) ∙ plain_digits ds rest (other_digits d ds h) n (i + 1)

plain_commas : (ns : List ℕ) → Small ns → NoBad (commas ns)
plain_commas [] s i = refl
plain_commas (n ∷ ns) s i = plain_digits (decimal n) (commas ns) (digits n s.0) (plain_commas ns s.1) (i + 1)

fields_digits : (ds rest : List ℕ) (fs : List (List ℕ)) → all_ascii_digits ds ≡ true → fields rest ≡ [] ∷ fs → fields (ds ++ rest) ≡ ds ∷ fs
fields_digits [] rest fs h e = e
fields_digits (d ∷ ds) rest fs h e =
    cond-false _ _ _ (digit_no_comma d (first_digit d ds h)) ∙ ap (onto_first d) (fields_digits ds rest fs (other_digits d ds h) e)

fields_commas : (ns : List ℕ) → Small ns → fields (commas ns) ≡ [] ∷ map decimal ns
fields_commas [] s = refl
fields_commas (n ∷ ns) s = ap (λ fs. [] ∷ fs) (fields_digits (decimal n) (commas ns) (map decimal ns) (digits n s.0) (fields_commas ns s.1))

numbers_back : (i : ℕ) (ns : List ℕ) → Small ns → numbers i (map decimal ns) ≡ Ok ns
numbers_back i [] s = refl
numbers_back i (n ∷ ns) s =
    cond-true _ _ _ (passes n s.0) ∙ ap (onto (value (decimal n))) (numbers_back (i + 1) ns s.1) ∙ ap (λ v. Ok (v ∷ ns)) (value_of n s.0)

counted_back : (k : ℕ) (ns : List ℕ) → length ns ≡ k → Small ns → counted k (map decimal ns) ≡ Ok ns
counted_back k ns l s = cond-true _ _ _ (eq-eqb _ _ (length-map ns decimal ∙ l)) ∙ numbers_back 1 ns s

-- a letter, and the numbers that its kind wants
read_of : (l : ℕ) (k : Kind) (ns : List ℕ) → plain l ≡ true → eqb l 44 ≡ false → kind_of kinds l ≡ Some k → length ns ≡ k.count → Small ns
    → parsed (l ∷ commas ns) ≡ Ok (k.command (λ i. get_or ns i 0))
read_of l k ns p n e c s =
    let fs : fields (l ∷ commas ns) ≡ (l ∷ []) ∷ map decimal ns = cond-false _ _ _ n ∙ ap (onto_first l) (fields_commas ns s) in
    ap (λ o. unless_bad o (lettered (fields (l ∷ commas ns)))) (position_from-zero (λ b. not (plain b)) (l ∷ commas ns) ∙ cond-false _ (Some 0) _ (ap not p) ∙ plain_commas ns s 1)
    ∙ ap lettered fs ∙ ap (λ o. of_kind o (map decimal ns)) e ∙ ap (made k) (counted_back k.count ns c s)

abbrev first_letter : Command → ℕ
first_letter c = get_or (letter_of c) 0 0

abbrev kind_or : Option Kind → Kind
kind_or None = record { letter = 0; count = 0; command = λ n. Judge }
kind_or (Some k) = k

abbrev own_kind : Command → Kind
own_kind c = kind_or (kind_of kinds (first_letter c))

-- a command's letter is plain, no comma and in the table, and its kind makes the command of its numbers
abbrev Ready : Command → Type 0
Ready c =
    (plain (first_letter c) ≡ true) × (eqb (first_letter c) 44 ≡ false) × (kind_of kinds (first_letter c) ≡ Some (own_kind c))
    × (length (numbers_of c) ≡ (own_kind c).count) × ((own_kind c).command (λ i. get_or (numbers_of c) i 0) ≡ c) × (letter_of c ≡ first_letter c ∷ [])

ready : (c : Command) → Ready c
ready NewPrimitive = (refl, refl, refl, refl, refl, refl)
ready NewCompound = (refl, refl, refl, refl, refl, refl)
ready (AppendNeed t f) = (refl, refl, refl, refl, refl, refl)
ready (AppendAdd t f) = (refl, refl, refl, refl, refl, refl)
ready (AppendDelete t f) = (refl, refl, refl, refl, refl, refl)
ready EndPhase = (refl, refl, refl, refl, refl, refl)
ready (OpenMethod t) = (refl, refl, refl, refl, refl, refl)
ready (NewStep t) = (refl, refl, refl, refl, refl, refl)
ready (PutOrder p q) = (refl, refl, refl, refl, refl, refl)
ready (PutLink p i q j) = (refl, refl, refl, refl, refl, refl)
ready (RouteNeed j t k) = (refl, refl, refl, refl, refl, refl)
ready (RouteAdd i t k) = (refl, refl, refl, refl, refl, refl)
ready CloseMethod = (refl, refl, refl, refl, refl, refl)
ready (Decompose t m) = (refl, refl, refl, refl, refl, refl)
ready Judge = (refl, refl, refl, refl, refl, refl)
ready (Take t) = (refl, refl, refl, refl, refl, refl)

read : (c : Command) → Small (numbers_of c) → parsed (text_of c) ≡ Ok c
read c s =
    let r = ready c in
    ap (λ l. parsed (l ++ commas (numbers_of c))) r.5 ∙ read_of (first_letter c) (own_kind c) (numbers_of c) r.0 r.1 r.2 r.3 s ∙ ap Ok r.4

-- ---- from a line to its command and back

never : {A : Type 0} (c : Command) (e : Refusal) → ◌≡◌ {A = Result Command Refusal} (Err e) (Ok c) → A
never c e h = absurd (let z : ◌≡◌ {A = ℕ} 0 1 = cc in omega arith)

-- the numbers that were read are written so
pub record Wrote (ts : List (List ℕ)) (ns : List ℕ) : Type 0 where
  pub few : Small ns
  pub is : ts ≡ map decimal ns

abbrev Read : List (List ℕ) → Result (List ℕ) Refusal → Type 0
Read ts (Ok ns) = Wrote ts ns
Read ts (Err e) = Unit {0}

wrote_onto : (t : List ℕ) (ts : List (List ℕ)) → is_number t ≡ true → (r : Result (List ℕ) Refusal) → Read ts r → Read (t ∷ ts) (onto (value t) r)
wrote_onto t ts e (Ok ns) w = record { few = (small t e, w.few); is = λ i. only t e i ∷ w.is i }
wrote_onto t ts e (Err x) w = tt

numbers_wrote : (i : ℕ) (ts : List (List ℕ)) → Read ts (numbers i ts)
numbers_wrote i [] = record { few = tt; is = refl }
numbers_wrote i (t ∷ ts) = at (is_number t) refl (numbers_wrote (i + 1) ts)
  where
    at : (b : Bool) → is_number t ≡ b → Read ts (numbers (i + 1) ts) → Read (t ∷ ts) (cond b (onto (value t) (numbers (i + 1) ts)) (Err (NoNumber i)))
    at true e w = wrote_onto t ts e (numbers (i + 1) ts) w
    at false e w = tt

-- what is known of numbers that were read and counted
abbrev Counted : ℕ → List (List ℕ) → Result (List ℕ) Refusal → Type 0
Counted k ts (Ok ns) = (length ns ≡ k) × Wrote ts ns
Counted k ts (Err e) = Unit {0}

with_count : (k : ℕ) (ts : List (List ℕ)) → length ts ≡ k → (r : Result (List ℕ) Refusal) → Read ts r → Counted k ts r
with_count k ts e (Ok ns) w = (sym (length-map ns decimal) ∙ ap length (sym w.is) ∙ e, w)
with_count k ts e (Err x) w = tt

counted_wrote : (k : ℕ) (ts : List (List ℕ)) → Counted k ts (counted k ts)
counted_wrote k ts = at (eqb (length ts) k) refl
  where
    at : (b : Bool) → eqb (length ts) k ≡ b → Counted k ts (cond b (numbers 1 ts) (Err (FieldCount (length ts + 1))))
    at true e = with_count k ts (let h : length ts ≡ k = grind (arith, nat_tests) in h) (numbers 1 ts) (numbers_wrote 1 ts)
    at false e = tt

-- the first k numbers, from the place i on
abbrev firsts : ℕ → ℕ → List ℕ → List ℕ
firsts zero i ns = []
firsts (suc k) i ns = get_or ns i 0 ∷ firsts k (suc i) ns

firsts_next : (k i n : ℕ) (ns : List ℕ) → firsts k (suc i) (n ∷ ns) ≡ firsts k i ns
firsts_next zero i n ns = refl
firsts_next (suc k) i n ns = ap (λ t. get_or ns i 0 ∷ t) (firsts_next k (suc i) n ns)

firsts_all : (k : ℕ) (ns : List ℕ) → length ns ≡ k → firsts k 0 ns ≡ ns
firsts_all zero [] e = refl
firsts_all zero (n ∷ ns) e = absurd (omega arith)
firsts_all (suc k) [] e = absurd (omega arith)
firsts_all (suc k) (n ∷ ns) e = ap (λ t. n ∷ t) (firsts_next k 0 n ns ∙ firsts_all k ns (omega arith))

-- a kind's command has the kind's letter and the numbers that it was made of
abbrev Faithful : Kind → Type 0
Faithful k = (ns : List ℕ) → length ns ≡ k.count
    → (letter_of (k.command (λ i. get_or ns i 0)) ≡ k.letter ∷ []) × (numbers_of (k.command (λ i. get_or ns i 0)) ≡ ns)

abbrev Each : List Kind → Type 0
Each [] = Unit {0}
Each (k ∷ ks) = Faithful k × Each ks

each : Each kinds
each = (
  λ ns e. (refl, firsts_all 0 ns e),
  (
    λ ns e. (refl, firsts_all 0 ns e),
    (
      λ ns e. (refl, firsts_all 2 ns e),
      (
        λ ns e. (refl, firsts_all 2 ns e),
        (
          λ ns e. (refl, firsts_all 2 ns e),
          (
            λ ns e. (refl, firsts_all 0 ns e),
            (
              λ ns e. (refl, firsts_all 1 ns e),
              (
                λ ns e. (refl, firsts_all 3 ns e),
                (
                  λ ns e. (refl, firsts_all 3 ns e),
                  (
                    λ ns e. (refl, firsts_all 0 ns e),
                    (
                      λ ns e. (refl, firsts_all 1 ns e),
                      (
                        λ ns e. (refl, firsts_all 2 ns e),
                        (
                          λ ns e. (refl, firsts_all 4 ns e),
                          (
                            λ ns e. (refl, firsts_all 2 ns e),
                            (
                              λ ns e. (refl, firsts_all 0 ns e),
                              (λ ns e. (refl, firsts_all 1 ns e), tt),
                            ),
                          ),
                        ),
                      ),
                    ),
                  ),
                ),
              ),
            ),
          ),
        ),
      ),
    ),
  ),
)

found : (ks : List Kind) (l : ℕ) (k : Kind) → Each ks → kind_of ks l ≡ Some k → Faithful k × (k.letter ≡ l)
found [] l k a e = absurd (let z : ◌≡◌ {A = ℕ} 0 1 = cc in omega arith)
found (j ∷ ks) l k a e = at (eqb j.letter l) refl e (found ks l k a.1)
  where
    at : (b : Bool) → eqb j.letter l ≡ b → cond b (Some j) (kind_of ks l) ≡ Some k → (kind_of ks l ≡ Some k → Faithful k × (k.letter ≡ l)) → Faithful k × (k.letter ≡ l)
    at true t e rest =
        let same : j ≡ k = cc in
        subst (λ x. Faithful x × (x.letter ≡ l)) same (a.0, (let h : j.letter ≡ l = grind (arith, nat_tests) in h))
    at false t e rest = rest e

join_commas : (ns : List ℕ) (f : List ℕ) → joined (f ∷ map decimal ns) ≡ f ++ commas ns
join_commas [] f = sym (append-nil f)
join_commas (n ∷ ns) f = ap (λ t. f ++ (44 ∷ t)) (join_commas ns (decimal n))

-- the text of a line by its command
pub record IsText (line : List ℕ) (c : Command) : Type 0 where
  pub text : line ≡ text_of c
  pub few : Small (numbers_of c)

module _ (line : List ℕ) (c : Command) where
  by_numbers : (l : ℕ) (k : Kind) (ts : List (List ℕ)) → fields line ≡ (l ∷ []) ∷ ts → kind_of kinds l ≡ Some k → (r : Result (List ℕ) Refusal) → Counted k.count ts r → made k r ≡ Ok c → IsText line c
  by_numbers l k ts f e (Err x) h m = never c x m
  by_numbers l k ts f e (Ok ns) h m =
      let same : k.command (λ i. get_or ns i 0) ≡ c = cc in
      let at = found kinds l k each e in
      let two = at.0 ns h.0 in
      let letter : letter_of c ≡ l ∷ [] = ap letter_of (sym same) ∙ two.0 ∙ ap (λ x. x ∷ []) at.1 in
      let numbers : numbers_of c ≡ ns = ap numbers_of (sym same) ∙ two.1 in
      record {
        text =
            sym (whole line) ∙ ap joined (f ∙ ap (λ x. (l ∷ []) ∷ x) h.1.is) ∙ join_commas ns (l ∷ [])
            ∙ (λ i. sym letter i ++ commas (sym numbers i));
        few = subst Small (sym numbers) h.1.few;
      }

  by_kind : (l : ℕ) (ts : List (List ℕ)) → fields line ≡ (l ∷ []) ∷ ts → (o : Option Kind) → kind_of kinds l ≡ o → of_kind o ts ≡ Ok c → IsText line c
  by_kind l ts f None e h = never c NoLetter h
  by_kind l ts f (Some k) e h = by_numbers l k ts f e (counted k.count ts) (counted_wrote k.count ts) h

  by_fields : (fs : List (List ℕ)) → fields line ≡ fs → lettered fs ≡ Ok c → IsText line c
  by_fields [] f h = never c NoLetter h
  by_fields ([] ∷ ts) f h = never c NoLetter h
  by_fields ((l ∷ []) ∷ ts) f h = by_kind l ts f (kind_of kinds l) refl h
  by_fields ((l ∷ b ∷ bs) ∷ ts) f h = never c NoLetter h

  by_bytes : (o : Option ℕ) → unless_bad o (lettered (fields line)) ≡ Ok c → IsText line c
  by_bytes (Some i) h = never c (BadByte i) h
  by_bytes None h = by_fields (fields line) refl h

  is_text : parsed line ≡ Ok c → IsText line c
  is_text h = by_bytes (bad_byte line) h

pub one_text : OneText
one_text = record { read = read; only = λ line c h. (is_text line c h).text; small = λ line c h. (is_text line c h).few }
