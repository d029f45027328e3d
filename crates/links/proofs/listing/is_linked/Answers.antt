use Rattle.std.proofs.Common.{◌≡◌, ◌||◌, List, [], ◌∷◌, refl, ◌∙◌, arith}
use Rattle.std.proofs.lemmas.Bool.Decides.{nat_tests}
use Rattle.std.specs.List.{list_any}
use Rattle.semantics.specs.Plans.{has_link, same_link}
use Rattle.semantics.specs.declared.link.Link.{Link}
use Rattle.semantics.specs.contracts.link.LinkPartialEq.TheImpl.{ghosts}
use Rattle.links.proofs.listing.is_linked.Goals as goal

same : (k l : Link) → ghosts.eq k l ≡ same_link l k
same k l = grind (arith, nat_tests)

any_same : (l : Link) (ks : List Link) → list_any (λ k. ghosts.eq k l) ks ≡ has_link l ks
any_same l [] = refl
any_same l (k ∷ ks) = (λ i. same k l i || any_same l ks i)

pub returns : goal.returns
returns c = c.contains.ensures.value ∙ any_same c.args.l c.args.links.now
