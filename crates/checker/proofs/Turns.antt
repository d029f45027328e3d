-- What one turn of a run keeps.
use Rattle.std.proofs.Common.{◌≡◌, ℕ, ◌+◌, ◌-◌, ◌*◌, ◌<◌, ◌≤◌, Bool, true, false, cond, leb, ◌⊎◌, List, [], ◌∷◌, ◌++◌, length, drop, Some, None, Option, unwrap_or, sym, refl, ap, ◌∙◌, subst, inl, inr, append_assoc, append-nil, zero-add, arith, length-append, MatchOption}
use native.Mathlib.Nat.{sub-zero}
use Rattle.std.proofs.lemmas.Bool.{leb-true, leb-false}
use Rattle.page.proofs.Steps.{broken_next, first_of, none_of}
use Rattle.page.proofs.Writes.{length_written, written_on}
use Rattle.page.specs.Lines.{broken, Broken, first_line, put_together}
use Rattle.page.specs.declared.answer.Row.{Row}
use Rattle.page.specs.Rows.{fits, row_text, written}
use Rattle.semantics.specs.Promise.{answered, History, state}
use Rattle.semantics.proofs.Promise.{promise_holds}
use Rattle.checker.specs.Meaning.{Held, Means}
use Rattle.checker.specs.Promises.{Kept}
use Rattle.checker.specs.Runs.{after_lines, AnsweredOn, rows_text, Runs, texts, told_lines, told_within}

texts_push : (ps : List Broken) (p : Broken) → texts (ps ++ (p ∷ [])) ≡ texts ps ++ (p.0 ∷ [])
texts_push [] p = refl
texts_push (q ∷ ps) p = ap (λ (ls : List (List ℕ)). q.0 ∷ ls) (texts_push ps p)

after_push : (past : History) (ls : List (List ℕ)) (l : List ℕ) → after_lines past (ls ++ (l ∷ [])) ≡ l ∷ after_lines past ls
after_push past [] l = refl
after_push past (m ∷ ls) l = after_push (m ∷ past) ls l

length_together : (ps : List Broken) (p : Broken) → length (put_together (ps ++ (p ∷ []))) ≡ length (put_together ps) + (length p.0 + length p.1)
length_together [] p = ap length (append-nil (p.0 ++ p.1)) ∙ length-append p.0 p.1 ∙ sym (zero-add _)
length_together (q ∷ ps) p =
    let ih = length_together ps p in
    let a = length-append (q.0 ++ q.1) (put_together (ps ++ (p ∷ []))) in
    let b = length-append (q.0 ++ q.1) (put_together ps) in
    omega (arith, ih, a, b)

module _ (capacity : ℕ) where
  rows_push : (past : History) (ls : List (List ℕ)) (l : List ℕ) → rows_text capacity past (ls ++ (l ∷ [])) ≡ rows_text capacity past ls ++ row_text (answered capacity (after_lines past ls) l)
  rows_push past [] l = append-nil _
  rows_push past (m ∷ ls) l =
      ap (λ (t : List ℕ). row_text (answered capacity past m) ++ t) (rows_push (m ∷ past) ls l)
      ∙ sym (append_assoc (row_text (answered capacity past m)) (rows_text capacity (m ∷ past) ls) _)

  -- a line told, and its row written where there is room
  pub answered_on : (past : History) (line page : List ℕ) (at : ℕ) (w : Row) (place : Option ℕ) (end : ℕ) (new : List ℕ) (after : Held) → fits page at ≡ true → Kept capacity past line w after
      → new ≡ cond (fits page at) (written page at (row_text w)) page
      → place ≡ cond (fits page at) (Some (at + length (row_text w))) None
      → MatchOption place (length page < at + 28) (λ e. (e ≤ at + 28) × (e ≤ length page))
      → end ≡ unwrap_or place at
      → AnsweredOn capacity past line page at end new after
  answered_on past line page at w place end new after room kept page_is place_is within end_is =
      let some : place ≡ Some (at + length (row_text w)) = place_is ∙ ap (λ (b : Bool). cond b (Some (at + length (row_text w))) None) room in
      let few : at + length (row_text w) ≤ at + 28 = (subst (λ (o : Option ℕ). MatchOption o (length page < at + 28) (λ e. (e ≤ at + 28) × (e ≤ length page))) some within).0 in
      let same = kept.answers in record {
        row = page_is ∙ ap (λ (b : Bool). cond b (written page at (row_text w)) page) room ∙ ap (λ (v : Row). written page at (row_text v)) same;
        place = end_is ∙ ap (λ (o : Option ℕ). unwrap_or o at) some ∙ ap (λ (v : Row). at + length (row_text v)) same;
        short = subst (λ (v : Row). length (row_text v) ≤ 28) same (omega arith);
        means = kept.means;
      }

  none_told : (free : ℕ) (past : History) (ps : List Broken) → leb 28 free ≡ false → told_within capacity free past ps ≡ []
  none_told free past [] e = refl
  none_told free past (p ∷ ps) e = ap (λ (b : Bool). cond b (p ∷ told_within capacity (free - length (row_text (answered capacity past p.0))) (p.0 ∷ past) ps) []) e

  one_told : (free : ℕ) (past : History) (p : Broken) (ps : List Broken) → leb 28 free ≡ true
      → told_within capacity free past (p ∷ ps) ≡ p ∷ told_within capacity (free - length (row_text (answered capacity past p.0))) (p.0 ∷ past) ps
  one_told free past p ps e = ap (λ (b : Bool). cond b (p ∷ told_within capacity (free - length (row_text (answered capacity past p.0))) (p.0 ∷ past) ps) []) e

  -- How far a run has come: the lines told so far, and what is left tells the rest.
  pub record Sofar (past : History) (text page : List ℕ) (next count : ℕ) (new : List ℕ) (now : Held) : Type 0 where
    pub told : List Broken
    pub split : broken text ≡ told ++ broken (drop next text)
    pub whole : told ++ told_within capacity (length page - count) (after_lines past (texts told)) (broken (drop next text)) ≡ told_lines capacity past text page
    pub place : next ≡ length (put_together told)
    pub size : count ≡ length (rows_text capacity past (texts told))
    pub within : count ≤ length page
    pub brief : count ≤ 28 * length told
    pub long : length new ≡ length page
    pub rows : new ≡ written page 0 (rows_text capacity past (texts told))
    pub means : Means now (state capacity (after_lines past (texts told)))

  pub start : (past : History) (text page : List ℕ) (now : Held) → Means now (state capacity past) → Sofar past text page 0 0 page now
  start past text page now m = record {
    told = [];
    split = refl;
    whole = ap (λ (n : ℕ). told_within capacity n past (broken text)) (sub-zero (length page));
    place = refl;
    size = refl;
    within = omega arith;
    brief = omega arith;
    long = refl;
    rows = refl;
    means = m;
  }

  module _ (past : History) (text page : List ℕ) (next count : ℕ) (new : List ℕ) (now : Held) (so : Sofar past text page next count new now) where
    abbrev here : History
    here = after_lines past (texts so.told)

    pub turn : (line : List ℕ) (after_next end : ℕ) (newer : List ℕ) (later : Held) → Some (line, after_next) ≡ first_line next (broken (drop next text)) → fits new count ≡ true
        → AnsweredOn capacity here line new count end newer later → Sofar past text page after_next end newer later
    turn line after_next end newer later first room a =
        let f = first_of (broken (drop next text)) next line after_next first in
        let p : Broken = (line, f.ending) in
        let r = row_text (answered capacity here line) in
        let told = so.told ++ (p ∷ []) in
        let free : leb 28 (length page - count) ≡ true = ap (λ (n : ℕ). leb 28 (n - count)) (sym so.long) ∙ room in
        let rest : broken (drop after_next text) ≡ f.others = ap (λ (n : ℕ). broken (drop n text)) f.place ∙ broken_next text next line f.ending f.others f.is in
        let lines : texts told ≡ texts so.told ++ (line ∷ []) = texts_push so.told p in
        let history : after_lines past (texts told) ≡ line ∷ here = ap (after_lines past) lines ∙ after_push past (texts so.told) line in
        let rows : rows_text capacity past (texts told) ≡ rows_text capacity past (texts so.told) ++ r = ap (rows_text capacity past) lines ∙ rows_push past (texts so.told) line in
        let less : length page - end ≡ length page - count - length r = omega (arith, a.place) in
        let enough : 28 ≤ length page - count = leb-true 28 (length page - count) free in
        let fits_in : count + length r ≤ length page = omega (arith, a.short) in
        let old = rows_text capacity past (texts so.told) in
        let at : count ≡ 0 + length old = so.size ∙ sym (zero-add (length old)) in
        let paper : newer ≡ written page 0 (old ++ r)
        = a.row ∙ ap (λ (q : List ℕ). written q count r) so.rows ∙ ap (λ (n : ℕ). written (written page 0 old) n r) at ∙ written_on page 0 old r (omega (arith, so.within)) in
        record {
          told = told;
          split = so.split ∙ ap (λ (ps : List Broken). so.told ++ ps) (f.is ∙ ap (λ (ps : List Broken). p ∷ ps) (sym rest)) ∙ sym (append_assoc so.told (p ∷ []) (broken (drop after_next text)));
          whole = append_assoc so.told (p ∷ []) _
              ∙ ap (λ (h : History). so.told ++ (p ∷ told_within capacity (length page - end) h (broken (drop after_next text)))) history
              ∙ ap (λ (n : ℕ). so.told ++ (p ∷ told_within capacity n (line ∷ here) (broken (drop after_next text)))) less
              ∙ ap (λ (ps : List Broken). so.told ++ (p ∷ told_within capacity (length page - count - length r) (line ∷ here) ps)) rest
              ∙ ap (λ (ps : List Broken). so.told ++ ps) (sym (one_told (length page - count) here p f.others free))
              ∙ ap (λ (ps : List Broken). so.told ++ told_within capacity (length page - count) here ps) (sym f.is)
              ∙ so.whole;
          place = f.place ∙ ap (λ (n : ℕ). n + (length line + length f.ending)) so.place ∙ sym (length_together so.told p);
          size = a.place ∙ ap (λ (n : ℕ). n + length r) so.size ∙ sym (ap length rows ∙ length-append (rows_text capacity past (texts so.told)) r);
          within = omega (arith, a.place);
          brief = omega (arith, a.place, a.short, so.brief, length-append so.told (p ∷ []));
          long = ap length paper ∙ length_written page 0 (old ++ r) (omega (arith, length-append old r));
          rows = paper ∙ ap (λ (t : List ℕ). written page 0 t) (sym rows);
          means = subst (λ (h : History). Means later (state capacity h)) (sym history) a.means;
        }

    -- what a run leaves, once the lines told are all that it tells
    done : 2 ≤ capacity → capacity ≤ 64 → so.told ≡ told_lines capacity past text page → (so.told ≡ broken text) ⊎ (length page < count + 28) → Runs capacity past text page next count new now
    done two few all ends =
        let P : List Broken → Type 0 = λ ps. (next ≡ length (put_together ps)) × (count ≡ length (rows_text capacity past (texts ps))) × (new ≡ written page 0 (rows_text capacity past (texts ps)))
        × (count ≤ 28 * length ps) × ((ps ≡ broken text) ⊎ (length page < count + 28)) × Means now (state capacity (after_lines past (texts ps))) in
        let t : P (told_lines capacity past text page) = subst P all (so.place, so.size, so.rows, so.brief, ends, so.means) in
        record { place = t.0; size = t.1; rows = t.2; brief = t.3; ends = t.4; means = t.5; promises = λ told left e. promise_holds capacity two few (after_lines past told) }

    pub no_line : 2 ≤ capacity → capacity ≤ 64 → None ≡ first_line next (broken (drop next text)) → Runs capacity past text page next count new now
    no_line two few e =
        let none : broken (drop next text) ≡ [] = none_of (broken (drop next text)) next e in
        let all : so.told ≡ told_lines capacity past text page
        = sym (append-nil so.told) ∙ ap (λ (ps : List Broken). so.told ++ told_within capacity (length page - count) here ps) (sym none) ∙ so.whole in
        done two few all (inl (sym (so.split ∙ ap (λ (ps : List Broken). so.told ++ ps) none ∙ append-nil so.told)))

    pub no_room : 2 ≤ capacity → capacity ≤ 64 → fits new count ≡ false → Runs capacity past text page next count new now
    no_room two few e =
        let f : leb 28 (length page - count) ≡ false = ap (λ (n : ℕ). leb 28 (n - count)) (sym so.long) ∙ e in
        let all : so.told ≡ told_lines capacity past text page
        = sym (append-nil so.told) ∙ ap (λ (ps : List Broken). so.told ++ ps) (sym (none_told (length page - count) here (broken (drop next text)) f)) ∙ so.whole in
        done two few all (inr (omega (arith, leb-false 28 (length page - count) f)))
