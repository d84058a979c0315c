-- The type arguments of a constant, taken off a spine one after another.
use Rattle.std.proofs.Common.{◌≡◌, ℕ, suc, ◌+◌, ◌<◌, List, [], ◌∷◌, ◌++◌, length, Some, None, refl, sym, ap, subst, ◌∙◌, append_assoc, arith}
use Rattle.std.proofs.lemmas.List.{append-nil, length-append}
use Rattle.hol_spec.specs.Names.{Name}
use Rattle.hol_spec.specs.Types.{HolType}
use Rattle.hol_spec.specs.Substitution.{TypePairs}
use Rattle.hol_spec.specs.ClosedForm.{ClosedType, ClosedTypes}
use Rattle.hol_type.specs.declared.table.TypeId.{TypeId}
use Rattle.hol_type.specs.Tables.{tree_at, pairs_at, ArePairsKnown, Keeps}
use Rattle.hol_type.specs.TableLaws.{Holds-tree_at, pairs_at-Stays, ArePairsKnown-Keeps}
use Rattle.hol_term.specs.Tables.{Trees}
use Rattle.lp_spec.specs.Trees.{Tree}
use Rattle.lp_spec.specs.Modules.{Declaration}
use Rattle.translate_spec.specs.TypeEnc.{Place, StandsForType, StandForTypes}
use Rattle.decode_spec.specs.Opened.{open_type}
use Rattle.decode_spec.specs.Decode.{closed_count, type_of_tree}
use Rattle.decode_laws.specs.TypeLaws.{joined, count-stand, type_of_tree-is}
use Rattle.decode_back.specs.Walks.{parameter_name, IsTypeFound}
use Rattle.decode_back.specs.TermWalks.{named_types, AreTaken, IsNoType, LacksTypes}
use Rattle.decode_back.specs.TermWalks as walks

pairs_at-append : (ts : List HolType) (ps qs : List (Name × TypeId)) → pairs_at ts (ps ++ qs) ≡ pairs_at ts ps ++ pairs_at ts qs
pairs_at-append ts [] qs = refl
pairs_at-append ts (p ∷ ps) qs = ap (λ l. (p.0, tree_at ts p.1.0) ∷ l) (pairs_at-append ts ps qs)

pub ArePairsKnown-append : (ts : List HolType) (ps : List (Name × TypeId)) (p : Name × TypeId) → ArePairsKnown ts ps → p.1.0 < length ts
    → ArePairsKnown ts (ps ++ p ∷ [])
ArePairsKnown-append ts [] p h l = (l, tt {0})
ArePairsKnown-append ts (q ∷ ps) p h l = (h.0, ArePairsKnown-append ts ps p h.1 l)

pub pairs-kept : (old new : List HolType) (ps : List (Name × TypeId)) (p : Name × TypeId) → Keeps old new → ArePairsKnown old ps → p.1.0 < length new
    → ArePairsKnown new (ps ++ p ∷ [])
pairs-kept old new ps p k h l = ArePairsKnown-append new ps p (ArePairsKnown-Keeps k ps h) l

named-more : (i : ℕ) (ts : ClosedTypes) (t : ClosedType) → named_types i (joined ts (ClosedTypes.more t ClosedTypes.none)) ≡ named_types i ts
    ++ (parameter_name (i + closed_count ts), open_type parameter_name t) ∷ []
named-more i ClosedTypes.none t = let z : i ≡ i + 0 = omega arith in ap (λ k. (parameter_name k, open_type parameter_name t) ∷ []) z
named-more i (ClosedTypes.more u us) t =
    let z : suc i + closed_count us ≡ i + suc (closed_count us) = omega arith in
    ap (λ l. (parameter_name i, open_type parameter_name u) ∷ l)
    (named-more (suc i) us t ∙ ap (λ k. named_types (suc i) us ++ (parameter_name k, open_type parameter_name t) ∷ []) z)

module _ (d : List Declaration) (at : Place) where
  stand-more : (ts : ClosedTypes) (As : List Tree) (t : ClosedType) (A : Tree) → StandForTypes d ts at As → StandsForType d t at A
      → StandForTypes d (joined ts (ClosedTypes.more t ClosedTypes.none)) at (As ++ A ∷ [])
  stand-more ClosedTypes.none [] t A h k = (k, tt {0})
  stand-more ClosedTypes.none (B ∷ Bs) t A h k = absurd h
  stand-more (ClosedTypes.more u us) [] t A h k = absurd h
  stand-more (ClosedTypes.more u us) (B ∷ Bs) t A h k = (h.0, stand-more us Bs t A h.1 k)

  -- none so far
  pub taken-none : (args : List Tree) (pairs : TypePairs) → pairs ≡ [] → AreTaken d at 0 args args pairs
  taken-none args pairs e = record { taken = []; types = ClosedTypes.none; is = refl; many = refl; stand = tt {0}; pairs_are = e }

  -- and one more
  pub taken-more : (level count next : ℕ) (args rest : List Tree) (X : Tree) (old new : List HolType) (trees : Trees) (items after : List (Name × TypeId))
      (name : Name) (id : TypeId)
      → AreTaken d at count args (X ∷ rest) (pairs_at old items) → IsTypeFound level (type_of_tree d at X) trees (Some id) → trees.types ≡ new → Keeps old new
      → ArePairsKnown old items
      → name ≡ parameter_name count → after ≡ items ++ (name, id) ∷ [] → next ≡ count + 1 → AreTaken d at next args rest (pairs_at new after)
  taken-more level count next args rest X old new trees items after name id h found e k known named f g =
      let t = found.0 in
      let held : tree_at new id.0 ≡ open_type parameter_name t =
      ap (λ ts. tree_at ts id.0) (sym e) ∙ Holds-tree_at trees.types id.0 (open_type parameter_name t) found.2 in
      let many : closed_count h.types ≡ count = count-stand d at h.types h.taken h.stand ∙ h.many in
      let z : 0 + closed_count h.types ≡ count = omega (arith, many) in
      let l = length-append h.taken (X ∷ []) in
      record {
        taken = h.taken ++ X ∷ [];
        types = joined h.types (ClosedTypes.more t ClosedTypes.none);
        is = h.is ∙ sym (append_assoc h.taken (X ∷ []) rest);
        many = omega (arith, l, h.many, g);
        stand = stand-more h.types h.taken t X h.stand (type_of_tree-is d at X t found.1);
        pairs_are =
            ap (pairs_at new) f ∙ pairs_at-append new items ((name, id) ∷ [])
            ∙ (λ i. (sym (pairs_at-Stays k.stays items known) ∙ h.pairs_are) i ++ (named i, held i) ∷ [])
            ∙ ap (λ n. named_types 0 h.types ++ (parameter_name n, open_type parameter_name t) ∷ []) (sym z)
            ∙ sym (named-more 0 h.types t);
      }

  -- no argument more
  pub taken-few : (level count wanted : ℕ) (args rest : List Tree) (pairs : TypePairs) → AreTaken d at count args rest pairs → rest ≡ [] → count < wanted
      → LacksTypes level d at wanted args
  taken-few level count wanted args rest pairs h e l =
      let same : args ≡ h.taken = h.is ∙ ap (λ r. h.taken ++ r) e ∙ append-nil h.taken in
      let m : length args ≡ length h.taken = ap length same in
      walks.LacksTypes.too_few (omega (arith, m, h.many, l))

  -- an argument that is no type
  pub taken-no_type : (level count wanted : ℕ) (args rest : List Tree) (X : Tree) (pairs : TypePairs) (trees : Trees)
      → AreTaken d at count args (X ∷ rest) pairs → IsTypeFound level (type_of_tree d at X) trees None → count < wanted
      → LacksTypes level d at wanted args
  taken-no_type level count wanted args rest X pairs trees h none l =
      walks.LacksTypes.no_type (record { taken = h.taken; X = X; rest = rest; is = h.is; few = omega (arith, h.many, l); none = none })

  -- as many as were wanted
  pub taken-all : (count wanted : ℕ) (args rest : List Tree) (pairs : TypePairs) → AreTaken d at count args rest pairs → count ≡ wanted
      → AreTaken d at wanted args rest pairs
  taken-all count wanted args rest pairs h e = subst (λ k. AreTaken d at k args rest pairs) e h
