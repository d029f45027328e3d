-- What holds of the lines of every text.
use Rattle.std.proofs.Common.{◌≡◌, ℕ, ◌<◌, Bool, true, false, ◌&&◌, eqb, List, [], ◌∷◌, ◌++◌, length, sym, refl, ap, ◌∙◌, subst, inl, inr, ⊎_elim, arith}
use Rattle.std.specs.List.{AllByRecursion}
use Rattle.std.proofs.lemmas.Bool.{eqb-true, eqb-false, eq-eqb, ne_eqb, cond-true, cond-false, cases_Bool, and_left, and_right, and_parts, and_from, false≢true, both_ways}
use Rattle.page.proofs.Cuts.{part}
use Rattle.page.specs.Lines.{Broken, on_first, cr_first, starts_lf, broken, ends_cr, Breaks, Plain, WholeBreaks, put_together, LinesOfAText}

-- What shows a fact P of every text and its lines, from the text's end to its start.
pub record Kept (P : List ℕ → List Broken → Type 0) : Type 0 where
  pub none : P [] []
  pub lf : (bs : List ℕ) → P bs (broken bs) → P (10 ∷ bs) (([], 10 ∷ []) ∷ broken bs)
  pub crlf : (bs : List ℕ) → P (10 ∷ bs) (([], 10 ∷ []) ∷ broken bs) → P (13 ∷ 10 ∷ bs) (([], 13 ∷ 10 ∷ []) ∷ broken bs)
  pub last : (b : ℕ) (bs : List ℕ) → (b ≡ 10 → ⊥) → broken bs ≡ [] → P bs [] → P (b ∷ bs) ((b ∷ [], []) ∷ [])
  pub more : (b : ℕ) (bs l e : List ℕ) (ps : List Broken) → (b ≡ 10 → ⊥) → (b ≡ 13 → starts_lf bs ≡ false) → P bs ((l, e) ∷ ps) → P (b ∷ bs) ((b ∷ l, e) ∷ ps)

at_lf : (P : List ℕ → List Broken → Type 0) (k : Kept P) (b : ℕ) (bs : List ℕ) → P bs (broken bs) → eqb b 10 ≡ true → P (b ∷ bs) (broken (b ∷ bs))
at_lf P k b bs ih t =
    subst (P (b ∷ bs)) (sym (cond-true _ _ _ t)) (subst (λ x. P (x ∷ bs) (([], 10 ∷ []) ∷ broken bs)) (sym (eqb-true b 10 t)) (k.lf bs ih))

at_cr : (P : List ℕ → List Broken → Type 0) (k : Kept P) (b : ℕ) (bs : List ℕ) → P bs (broken bs) → b ≡ 13 → starts_lf bs ≡ true → P (b ∷ bs) (cr_first (broken bs))
at_cr P k b [] ih e t = absurd (false≢true t)
at_cr P k b (x ∷ cs) ih e t =
    let q : x ≡ 10 = eqb-true x 10 t in
    let h : P (10 ∷ cs) (([], 10 ∷ []) ∷ broken cs) = subst (λ y. P (y ∷ cs) (([], 10 ∷ []) ∷ broken cs)) q (subst (P (x ∷ cs)) (cond-true _ _ _ t) ih) in
    subst (λ ps. P (b ∷ x ∷ cs) (cr_first ps)) (sym (cond-true _ _ _ t))
    (subst (λ y. P (y ∷ x ∷ cs) (([], 13 ∷ 10 ∷ []) ∷ broken cs)) (sym e)
    (subst (λ y. P (13 ∷ y ∷ cs) (([], 13 ∷ 10 ∷ []) ∷ broken cs)) (sym q) (k.crlf cs h)))

at_part : (P : List ℕ → List Broken → Type 0) (k : Kept P) (b : ℕ) (bs : List ℕ) → (b ≡ 10 → ⊥) → (b ≡ 13 → starts_lf bs ≡ false) → (ps : List Broken) → broken bs ≡ ps → P bs ps → P (b ∷ bs) (on_first b ps)
at_part P k b bs n m [] e ih = k.last b bs n e ih
at_part P k b bs n m ((l, e) ∷ ps) _ ih = k.more b bs l e ps n m ih

-- a CR that is part of its line has no LF after it
apart : (b : ℕ) (t : Bool) → (eqb b 13 && t) ≡ false → b ≡ 13 → t ≡ false
apart b true h e = absurd (both_ways _ h (and_from _ _ (eq-eqb b 13 e) refl))
apart b false h e = refl

at_byte : (P : List ℕ → List Broken → Type 0) (k : Kept P) (b : ℕ) (bs : List ℕ) → P bs (broken bs) → P (b ∷ bs) (broken (b ∷ bs))
at_byte P k b bs ih =
    ⊎_elim (at_lf P k b bs ih)
    (λ n. subst (P (b ∷ bs)) (sym (cond-false _ _ _ n))
    (⊎_elim
    (λ t. let h = and_parts (eqb b 13) (starts_lf bs) t in subst (P (b ∷ bs)) (sym (cond-true _ _ _ t)) (at_cr P k b bs ih (eqb-true b 13 h.0) h.1))
    (λ f. subst (P (b ∷ bs)) (sym (cond-false _ _ _ f)) (at_part P k b bs (eqb-false b 10 n) (apart b (starts_lf bs) f) (broken bs) refl ih))
    (cases_Bool (eqb b 13 && starts_lf bs))))
    (cases_Bool (eqb b 10))

-- P holds of every text and its lines
pub of_lines : (P : List ℕ → List Broken → Type 0) → Kept P → (text : List ℕ) → P text (broken text)
of_lines P k [] = k.none
of_lines P k (b ∷ bs) = at_byte P k b bs (of_lines P k bs)

whole : Kept (λ text ps. put_together ps ≡ text)
whole =
    record {
      none = refl;
      lf = λ bs h. ap (λ t. 10 ∷ t) h;
      crlf = λ bs h. ap (λ t. 13 ∷ t) h;
      last = λ b bs n e h. ap (λ t. b ∷ t) h;
      more = λ b bs l e ps n m h. ap (λ t. b ∷ t) h;
    }

plain : Kept (λ _ ps. Plain ps)
plain =
    record {
      none = tt;
      lf = λ bs h. (tt, h);
      crlf = λ bs h. h;
      last = λ b bs n e h. ((n, tt), tt);
      more = λ b bs l e ps n m h. ((n, h.0), h.1);
    }

breaks : Kept (λ _ ps. Breaks ps)
breaks =
    record {
      none = tt;
      lf = λ bs h. (inl refl, h);
      crlf = λ bs h. (inr (inl refl), h.1);
      last = λ b bs n e h. (inr (inr (refl, refl, omega arith)), tt);
      more = λ b bs l e ps n m h. (⊎_elim inl (λ g. inr (⊎_elim inl (λ f. inr (f.0, f.1, omega arith)) g)) h.0, h.1);
    }

-- an empty line with an LF alone stands at an LF
abbrev AtLf : List ℕ → List Broken → Type 0
AtLf text [] = Unit {0}
AtLf text ((l, e) ∷ ps) = l ≡ [] → e ≡ 10 ∷ [] → starts_lf text ≡ true

abbrev KeptCr : List ℕ → List Broken → Type 0
KeptCr text ps = WholeBreaks ps × AtLf text ps

-- CR LF is not LF
not_lf : (e : List ℕ) → 13 ∷ e ≡ 10 ∷ [] → ⊥
not_lf e h = let z : ◌≡◌ {A = ℕ} 13 10 = cc in omega arith

-- some bytes are not none
not_none : (b : ℕ) (l : List ℕ) → b ∷ l ≡ [] → ⊥
not_none b l h = let z : ◌≡◌ {A = ℕ} 0 1 = cc in omega arith

-- a byte before a line that does not end in CR
ends_on : (b : ℕ) (bs l : List ℕ) → (b ≡ 13 → starts_lf bs ≡ false) → (l ≡ [] → starts_lf bs ≡ true) → ends_cr l ≡ false → ends_cr (b ∷ l) ≡ false
ends_on b bs [] m s h = ne_eqb b 13 (λ q. both_ways _ (m q) (s refl))
ends_on b bs (x ∷ l) m s h = h

kept_cr : Kept KeptCr
kept_cr =
    record {
      none = (tt, tt);
      lf = λ bs h. ((λ _. refl, h.0), λ _ _. refl);
      crlf = λ bs h. ((λ q. absurd (not_lf (10 ∷ []) q), h.0.1), λ _ q. absurd (not_lf (10 ∷ []) q));
      last = λ b bs n e h. ((λ q. let z : ◌≡◌ {A = ℕ} 0 1 = cc in absurd (omega arith), tt), λ q _. absurd (not_none b [] q));
      more = λ b bs l e ps n m h. ((λ q. ends_on b bs l m (λ z. h.1 z q) (h.0.0 q), h.0.1), λ q _. absurd (not_none b l q));
    }

-- the bytes of a line, before its break
front : (l e rest : List ℕ) (ps : List Broken) → AllByRecursion (λ b. b ≡ 10 → ⊥) l → (starts_lf (e ++ rest) ≡ true → ends_cr l ≡ false) → broken (e ++ rest) ≡ ([], e) ∷ ps → broken ((l ++ e) ++ rest) ≡ (l, e) ∷ ps
front [] e rest ps n m h = h
front (b ∷ []) e rest ps n m h =
    part b (e ++ rest) n.0 (⊎_elim (λ t. and_left _ _ (m t)) (and_right _ _) (cases_Bool (starts_lf (e ++ rest)))) ∙ ap (on_first b) h
front (b ∷ x ∷ l) e rest ps n m h = part b (((x ∷ l) ++ e) ++ rest) n.0 (and_right _ _ (ne_eqb x 10 n.1.0)) ∙ ap (on_first b) (front (x ∷ l) e rest ps n.1 m h)

-- the bytes of a last line that has no break
front_last : (l : List ℕ) → 0 < length l → AllByRecursion (λ b. b ≡ 10 → ⊥) l → broken ((l ++ []) ++ []) ≡ (l, []) ∷ []
front_last [] z n = absurd (omega arith)
front_last (b ∷ []) z n = part b [] n.0 (and_right _ _ refl)
front_last (b ∷ x ∷ l) z n = part b (((x ∷ l) ++ []) ++ []) n.0 (and_right _ _ (ne_eqb x 10 n.1.0)) ∙ ap (on_first b) (front_last (x ∷ l) (omega arith) n.1)

-- lines of which the laws hold are the lines of what they make together
remade : (ps : List Broken) → Plain ps → Breaks ps → WholeBreaks ps → broken (put_together ps) ≡ ps
remade [] n b c = refl
remade ((l, e) ∷ ps) n b c =
    let rest = put_together ps in
    let ih = remade ps n.1 b.1 c.1 in
    let Goal : List ℕ → Type 0 = λ x. broken ((l ++ x) ++ rest) ≡ (l, x) ∷ ps in
    ⊎_elim (λ q. subst Goal (sym q) (front l (10 ∷ []) rest ps n.0 (λ _. c.0 q) (ap (λ t. ([], 10 ∷ []) ∷ t) ih)))
    (⊎_elim
    (λ q. subst Goal (sym q) (front l (13 ∷ 10 ∷ []) rest ps n.0 (λ t. absurd (false≢true t)) (ap (λ t. ([], 13 ∷ 10 ∷ []) ∷ t) ih)))
    (λ h. subst Goal (sym h.0) (subst (λ t. broken ((l ++ []) ++ put_together t) ≡ (l, []) ∷ t) (sym h.1) (front_last l h.2 n.0))))
    b.0

pub lines_of_a_text : LinesOfAText
lines_of_a_text =
    record {
      whole = of_lines _ whole;
      plain = of_lines _ plain;
      breaks = of_lines _ breaks;
      cr = λ text. (of_lines KeptCr kept_cr text).0;
      only = λ text ps w n b c. sym (remade ps n b c) ∙ ap broken w;
    }
