-- What a turn does to a walk that substitutes.
use Rattle.std.proofs.Common.{◌≡◌, ◌<◌, refl, sym, ap, ◌∙◌, subst, arith, List, [], ◌∷◌, length, Some, ◌⊎◌, ⊎_elim, inr}
use Rattle.std.proofs.Math.Path.{ap₂}
use Rattle.hol_spec.specs.Names.{Name}
use Rattle.hol_spec.specs.Types.{HolType, variable, operator, types_of, more}
use Rattle.hol_spec.specs.Substitution.{TypePairs, substitute, substitute_all, image}
use Rattle.hol_type.specs.declared.table.TypeId.{TypeId}
use Rattle.hol_type.specs.declared.visits.Task.{Task}
use Rattle.hol_type.specs.declared.visits.Task.TheVariants.{Visit, Join}
use Rattle.hol_type.specs.Tables.{tree_at, types_at, pairs_at, Holds, Keeps, AreKnown, ArePairsKnown}
use Rattle.hol_type.specs.TableLaws.{tree_at-Stays, Holds-tree_at, Holds-within, ArePairsKnown-Keeps, pairs_at-Stays}
use Rattle.hol_type.specs.Walks.{IsNoted, IsDone, AreMade, HasParts, OrIs, visits, IsWalk}
use Rattle.hol_type.proofs.WalkLaws.{Ends-done, Ends-noted, Ends-set_out, Ends-Keeps, no_parts}

-- a walk at its beginning
pub walk_begins : (ts : List HolType) (pairs : List (Name × TypeId)) (root : TypeId) (made : List (TypeId × TypeId)) → ArePairsKnown ts pairs
    → root.0 < length ts → ((i r : TypeId) → IsNoted made i r → ⊥) → IsWalk (pairs_at ts pairs) root ts pairs (Visit root ∷ []) made
walk_begins ts pairs root made k h none = record {
  known = k;
  pairs_are = refl;
  noted = λ i r n. absurd (none i r n);
  ends = (h, inr refl);
}

-- a walk at its end
pub walk_ends : (old ts : List HolType) (pairs : List (Name × TypeId)) (given : TypePairs) (root r : TypeId) (made : List (TypeId × TypeId)) → Keeps old ts
    → root.0 < length old → IsNoted made root r → IsWalk given root ts pairs [] made → Holds ts r.0 (substitute given (tree_at old root.0))
walk_ends old ts pairs given root r made keeps k n w = (w.noted root r n).1 ∙ ap (λ t. Some (substitute given t)) (sym (tree_at-Stays keeps.stays root.0 k))

module _ (ts : List HolType) (pairs : List (Name × TypeId)) (id : TypeId) (tasks : List Task) (made : List (TypeId × TypeId)) where
  -- a type that was made already
  pub walk_done : (r : TypeId) → IsNoted made id r → (given : TypePairs) (root : TypeId) → IsWalk given root ts pairs (Visit id ∷ tasks) made
      → IsWalk given root ts pairs tasks made
  walk_done r n given root w = record
      { known = w.known; pairs_are = w.pairs_are; noted = w.noted; ends = Ends-done root ts tasks (IsDone made) id (r, n) w.ends.1 }

  -- an operator
  pub walk_set_out : (args : List TypeId) → HasParts ts id args → (given : TypePairs) (root : TypeId) → IsWalk given root ts pairs (Visit id ∷ tasks) made
      → IsWalk given root ts pairs (visits args (Join id ∷ tasks)) made
  walk_set_out args of given root w = record
      { known = w.known; pairs_are = w.pairs_are; noted = w.noted; ends = Ends-set_out root ts id args tasks (IsDone made) of w.ends }

  -- what was noted is sound with another note
  sound : (given : TypePairs) (us : List HolType) (noted : List (TypeId × TypeId)) (mark : TypeId)
      → ((i r : TypeId) → IsNoted noted i r → IsNoted made i r ⊎ ((i ≡ id) × (r ≡ mark))) → id.0 < length us
      → Holds us mark.0 (substitute given (tree_at us id.0))
      → ((i r : TypeId) → IsNoted made i r → (i.0 < length us) × Holds us r.0 (substitute given (tree_at us i.0))) → (i r : TypeId) → IsNoted noted i r
      → (i.0 < length us) × Holds us r.0 (substitute given (tree_at us i.0))
  sound given us noted mark only k h old i r n = ⊎_elim
      (λ a. old i r a)
      (λ b. subst (λ j. (j.0 < length us) × Holds us r.0 (substitute given (tree_at us j.0))) (sym b.0)
      (subst (λ m. (id.0 < length us) × Holds us m.0 (substitute given (tree_at us id.0))) (sym b.1) (k, h)))
      (only i r n)

  -- a variable
  pub walk_variable : (noted : List (TypeId × TypeId)) (mark : TypeId) (n : Name) → Holds ts id.0 (variable n)
      → ((trees : List HolType) → ArePairsKnown trees pairs → Holds trees id.0 (variable n) → Holds trees mark.0 (image (pairs_at trees pairs) n))
      → ((i r : TypeId) → IsNoted noted i r → IsNoted made i r ⊎ ((i ≡ id) × (r ≡ mark))) → IsNoted noted id mark
      → ((i r : TypeId) → IsNoted made i r → (i ≡ id) ⊎ IsNoted noted i r)
      → (given : TypePairs) (root : TypeId) → IsWalk given root ts pairs (Visit id ∷ tasks) made → IsWalk given root ts pairs tasks noted
  walk_variable noted mark n h by only new kept given root w =
      let is : Holds ts mark.0 (substitute given (tree_at ts id.0)) =
      by ts w.known h ∙ ap (λ g. Some (image g n)) w.pairs_are ∙ ap (λ t. Some (substitute given t)) (sym (Holds-tree_at ts id.0 (variable n) h)) in
      record {
        known = w.known;
        pairs_are = w.pairs_are;
        noted = sound given ts noted mark only w.ends.0 is w.noted;
        ends = Ends-noted root ts tasks made noted id mark new kept w.ends.1;
      }

  -- no walk comes back to a variable
  pub walk_no_join : (n : Name) → Holds ts id.0 (variable n) → (given : TypePairs) (root : TypeId) → IsWalk given root ts pairs (Join id ∷ tasks) made → ⊥
  walk_no_join n h given root w = no_parts ts id n (IsDone made) h w.ends.1

  made_types : (given : TypePairs) (args parts : List TypeId)
      → ((i r : TypeId) → IsNoted made i r → (i.0 < length ts) × Holds ts r.0 (substitute given (tree_at ts i.0))) → AreMade made args parts
      → types_of (types_at ts parts) ≡ substitute_all given (types_of (types_at ts args))
  made_types given [] [] s m = refl
  made_types given (a ∷ args) (p ∷ parts) s m = ap₂ more (Holds-tree_at ts p.0 _ (s a p m.0).1) (made_types given args parts s m.1)
  made_types given [] (p ∷ parts) s m = absurd m
  made_types given (a ∷ args) [] s m = absurd m

  -- what was made is of the table
  pub made_known : (given : TypePairs) (root : TypeId) → IsWalk given root ts pairs (Join id ∷ tasks) made → (args parts : List TypeId)
      → AreMade made args parts → AreKnown ts parts
  made_known given root w [] [] m = tt
  made_known given root w (a ∷ args) (p ∷ parts) m = (Holds-within ts p.0 _ (w.noted a p m.0).1, made_known given root w args parts m.1)
  made_known given root w [] (p ∷ parts) m = absurd m
  made_known given root w (a ∷ args) [] m = absurd m

  -- an operator whose arguments were made
  pub walk_join : (us : List HolType) (noted : List (TypeId × TypeId)) (mark : TypeId) (n : Name) (args parts : List TypeId) → Keeps ts us
      → Holds ts id.0 (operator n (types_of (types_at ts args)))
      → AreMade made args parts → Holds us mark.0 (operator n (types_of (types_at ts parts)))
      → ((i r : TypeId) → IsNoted noted i r → IsNoted made i r ⊎ ((i ≡ id) × (r ≡ mark))) → IsNoted noted id mark
      → ((i r : TypeId) → IsNoted made i r → (i ≡ id) ⊎ IsNoted noted i r)
      → (given : TypePairs) (root : TypeId) → IsWalk given root ts pairs (Join id ∷ tasks) made → IsWalk given root us pairs tasks noted
  walk_join us noted mark n args parts keeps h m is only new kept given root w =
      let k : id.0 < length us = omega (arith, w.ends.0, keeps.longer) in
      let at : tree_at us id.0 ≡ operator n (types_of (types_at ts args)) = sym (tree_at-Stays keeps.stays id.0 w.ends.0) ∙ Holds-tree_at ts id.0 _ h in
      let made_is : Holds us mark.0 (substitute given (tree_at us id.0)) =
      is ∙ ap (λ l. Some (operator n l)) (made_types given args parts w.noted m) ∙ ap (λ t. Some (substitute given t)) (sym at) in
      record {
        known = ArePairsKnown-Keeps keeps pairs w.known;
        pairs_are = sym (pairs_at-Stays keeps.stays pairs w.known) ∙ w.pairs_are;
        noted = sound given us noted mark only k made_is (old given root w);
        ends = Ends-noted root us tasks made noted id mark new kept (Ends-Keeps keeps root tasks (OrIs (IsDone made) id) w.ends.2);
      }
    where
      old : (given : TypePairs) (root : TypeId) → IsWalk given root ts pairs (Join id ∷ tasks) made → (i r : TypeId) → IsNoted made i r → (i.0 < length us)
          × Holds us r.0 (substitute given (tree_at us i.0))
      old given root w i r q = let o = w.noted i r q in
          (omega (arith, o.0, keeps.longer), keeps.stays.each r.0 _ o.1 ∙ ap (λ t. Some (substitute given t)) (tree_at-Stays keeps.stays i.0 o.0))
