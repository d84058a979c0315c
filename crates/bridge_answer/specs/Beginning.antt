-- When names were begun: none, all of some, or a front of them.
use Rattle.std.proofs.Common.{◌≡◌, ◌≤◌, ℕ, List, [], length, take, Option, sym, subst, arith}
use Rattle.std.proofs.Math.Seq.{take-length}
use Rattle.bridge_base.specs.Outside.{Begins, BeginsFront}
use Rattle.bridge_base.specs.Gaining.{begins_none}

-- what tells as before began nothing
pub begins_none_of_same : (a b : Option (List (List ℕ))) → b ≡ a → Begins a [] b
begins_none_of_same a b same = subst (λ begun. Begins a [] begun) (sym same) (begins_none a)

-- what tells as before began a front of any names
pub begins_front_of_same : (a b : Option (List (List ℕ))) (names : List (List ℕ)) → b ≡ a → BeginsFront a names b
begins_front_of_same a b names same = (0, omega arith, begins_none_of_same a b same)

-- all names are a front of themselves
pub begins_front_of_all : (a b : Option (List (List ℕ))) (names : List (List ℕ)) → Begins a names b → BeginsFront a names b
begins_front_of_all a b names all = (length names, omega arith, subst (λ ns. Begins a ns b) (sym (take-length names)) all)
