-- One pair more in the list.
use Rattle.std.proofs.Common.{◌≡◌, ℕ, ◌<◌, Bool, false, cond, ltb, List, [], ◌∷◌, ◌++◌, length, sym, ap, ◌∙◌, subst, arith}
use Rattle.std.proofs.lemmas.List.{length_push}
use Rattle.std.proofs.lemmas.Bool.{cond-true, lt-ltb}
use Rattle.order.specs.Stored.{closure, Stored}
use Rattle.order.specs.Lists.{closure_push, stored_push}
use Rattle.order.specs.Ordered.{Free}
use Rattle.order.proofs.Room.{stored_room}
use Rattle.semantics.specs.Orders.{put}

module _ (ps qs : List (ℕ × ℕ)) (s : Stored 32 ps) (a b : ℕ) (f : Free 32 (closure ps) a b) (new : closure ps a b ≡ false) where
  -- there is room for a pair that does not follow
  room : length ps < 496
  room = let more = stored_room (ps ++ (a, b) ∷ []) (stored_push 32 ps s a b f new) in omega (arith, more, length_push ps (a, b))

  module _ (ok : Bool) (test : ok ≡ ltb (length ps) 496) (after : qs ≡ cond ok (ps ++ (a, b) ∷ []) ps) where
    pushed : qs ≡ ps ++ (a, b) ∷ []
    pushed = after ∙ cond-true ok _ _ (test ∙ lt-ltb (length ps) 496 room)

    pub pushed_stored : Stored 32 qs
    pushed_stored = subst (Stored 32) (sym pushed) (stored_push 32 ps s a b f new)

    pub pushed_put : closure qs ≡ put (closure ps) a b
    pushed_put = ap closure pushed ∙ closure_push ps (a, b)
