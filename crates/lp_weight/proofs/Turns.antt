-- What a turn does to a walk.
use Rattle.std.proofs.Common.{◌≡◌, ℕ, ◌+◌, ◌<◌, refl, sym, ap, ◌∙◌, subst, arith, List, [], ◌∷◌, length, ◌⊎◌, ⊎_elim}
use Rattle.lp_spec.specs.Trees.{Tree}
use Rattle.lp_weight.specs.declared.memo.Place.{Place}
use Rattle.lp_weight.specs.declared.measure.Task.{Task}
use Rattle.lp_weight.specs.declared.measure.Task.TheVariants.{Visit, Join}
use Rattle.lp_weight.specs.Saturation.{saturated}
use Rattle.tree_map.specs.Noted.{IsNoted}
use Rattle.lp_weight.specs.Measures.{IsPlace, tree_of, AreTwo, Makes, IsMemo, IsWalk, work}
use Rattle.lp_binding_laws.specs.Binding.{size-positive}

-- a sum of saturated numbers saturates as that of the numbers
pub saturated-sum : (a b : ℕ) → saturated (saturated a + saturated b) ≡ saturated (a + b)
saturated-sum a b = omega arith

module _ (amount : Place → ℕ) (trees : List Tree) (place : Place) (tasks : List Task) (amounts : List ℕ) (memo : List (Place × ℕ)) where
  -- a visit that gives the amount
  pub visit_given : (n : ℕ) → n ≡ saturated (amount place) → (goal : ℕ) → IsWalk amount trees goal (Visit place ∷ tasks) amounts memo
      → IsWalk amount trees goal tasks (n ∷ amounts) memo
  visit_given n e goal w = record {
    places = w.places.1;
    noted = w.noted;
    makes = subst (λ k. Makes amount tasks (k ∷ amounts) goal) (sym e) w.makes;
  }

  pub visit_less : work trees tasks < work trees (Visit place ∷ tasks)
  visit_less = omega (arith, size-positive (tree_of trees place))

  -- a visit that sets out the parts
  module _ (first second : Place) (two : AreTwo amount trees place first second) where
    pub set_out_walk : (goal : ℕ) → IsWalk amount trees goal (Visit place ∷ tasks) amounts memo
        → IsWalk amount trees goal (Visit first ∷ Visit second ∷ Join place ∷ tasks) amounts memo
    set_out_walk goal w = record {
      places = (two.first_place, (two.second_place, (w.places.0, w.places.1)));
      noted = w.noted;
      makes = (saturated-sum (amount first) (amount second) ∙ two.sum, w.makes);
    }

    pub set_out_less : work trees (Visit first ∷ Visit second ∷ Join place ∷ tasks) < work trees (Visit place ∷ tasks)
    set_out_less = omega (arith, two.smaller)

-- a join whose parts are summed
pub join_walk : (place : Place) (n first second : ℕ) (tasks : List Task) (amounts rest : List ℕ) (memo noted : List (Place × ℕ)) → amounts
    ≡ second ∷ first ∷ rest → n ≡ saturated (first + second)
    → ((p : Place) (k : ℕ) → IsNoted noted p k → IsNoted memo p k ⊎ ((p ≡ place) × (k ≡ n)))
    → (amount : Place → ℕ) (trees : List Tree) (goal : ℕ) → IsWalk amount trees goal (Join place ∷ tasks) amounts memo
    → IsWalk amount trees goal tasks (n ∷ rest) noted
join_walk place n first second tasks amounts rest memo noted em en notes amount trees goal w =
    let makes = subst (λ l. Makes amount (Join place ∷ tasks) l goal) em w.makes in
    let is : n ≡ saturated (amount place) = en ∙ makes.0 in
    record {
      places = w.places.1;
      noted = λ p k h. ⊎_elim (λ old. w.noted p k old) (λ new. new.1 ∙ is ∙ ap (λ q. saturated (amount q)) (sym new.0)) (notes p k h);
      makes = subst (λ k. Makes amount tasks (k ∷ rest) goal) (sym is) makes.1;
    }

-- a join is at a place of the table
pub join_place : (amount : Place → ℕ) (trees : List Tree) (goal : ℕ) (place : Place) (tasks : List Task) (amounts : List ℕ) (memo : List (Place × ℕ))
    → IsWalk amount trees goal (Join place ∷ tasks) amounts memo → place.id.0 < length trees
join_place amount trees goal place tasks amounts memo w = w.places.0.known

-- a join has two amounts on top
pub join_length : (amount : Place → ℕ) (trees : List Tree) (goal : ℕ) (place : Place) (tasks : List Task) (amounts : List ℕ) (memo : List (Place × ℕ))
    → IsWalk amount trees goal (Join place ∷ tasks) amounts memo → 1 < length amounts
join_length amount trees goal place tasks amounts memo w = go amounts w.makes
  where
    go : (l : List ℕ) → Makes amount (Join place ∷ tasks) l goal → 1 < length l
    go [] h = absurd h
    go (x ∷ []) h = absurd h
    go (x ∷ y ∷ l) h = omega arith

-- a walk at its beginning
pub walk_begins : (amount : Place → ℕ) (trees : List Tree) (place : Place) (memo : List (Place × ℕ)) → IsPlace trees place → IsMemo amount memo
    → IsWalk amount trees (amount place) (Visit place ∷ []) [] memo
walk_begins amount trees place memo p noted = record {
  places = (p, tt);
  noted = noted;
  makes = refl;
}

-- where no task is left, the amount on top is the one that is wanted
pub walk_done : (amount : Place → ℕ) (trees : List Tree) (goal : ℕ) (amounts : List ℕ) (memo : List (Place × ℕ)) → IsWalk amount trees goal [] amounts memo
    → amounts ≡ saturated goal ∷ []
walk_done amount trees goal amounts memo w = w.makes
