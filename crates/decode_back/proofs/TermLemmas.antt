-- Lemmas on the walk over terms.
use Rattle.std.proofs.Common.{◌≡◌, ℕ, zero, suc, ◌+◌, ◌-◌, ◌<◌, ◌≤◌, List, [], ◌∷◌, ◌++◌, map, length, get_or, ◌⊎◌, inl, inr, ⊎_elim, Bool, true, Option, Some, None, refl, sym, ap, subst, ◌∙◌, arith}
use Rattle.std.specs.Prelude.{min, ◌^◌, nat_lt, not, ◌&&◌, MatchOption, IfSome}
use Rattle.std.proofs.lemmas.Bool.Decides.{Decides-ltb, Decides-not}
use Rattle.std.proofs.lemmas.Bool.{and_parts}
use Rattle.hol_spec.specs.Limits.{greatest_size, term_size}
use Rattle.hol_spec.specs.Terms as term
use Rattle.hol_spec.specs.Terms.{Term}
use Rattle.hol_spec.specs.TermBinding.{lift}
use Rattle.hol_spec.specs.ClosedForm.{ClosedType, ClosedTypes, ClosedTerm}
use Rattle.hol_term.specs.declared.TermId.{TermId}
use Rattle.hol_term.specs.Tables.{Trees, Holds, Keeps, term_at, terms_at, AreKnown}
use Rattle.hol_term.specs.TableLaws.{terms_at-Keeps, term_in-Some}
use Rattle.lp_spec.specs.Trees.{Tree, SortType, SortKind, Var, Pi}
use Rattle.lp_term.specs.declared.LpId.{LpId}
use Rattle.lp_term.specs.declared.LpNode.{LpNode}
use Rattle.lp_term.specs.declared.LpNode.TheVariants as node
use Rattle.lp_term.specs.Tables.{tree_at, tree_of_node}
use Rattle.lp_spec.specs.Modules.{Declaration, applied}
use Rattle.translate_spec.specs.TypeEnc.{Place, depth_of}
use Rattle.decode_spec.specs.Opened.{open_type, type_at, open_term, open_variables}
use Rattle.decode_spec.specs.Decode.{term_from, constant_from}
use Rattle.decode_spec.specs.Options.{provided}
use Rattle.decode_laws.specs.OptionLaws.{some-injective, or_else-is, provided-is}
use Rattle.decode_laws.specs.TermLaws.{term_from-stands}
use Rattle.decode_laws.specs.TermWalkLaws.{NoTerm, applied-append, dead-applied, dead-no_constant}
use Rattle.decode_back.specs.Walks.{parameter_name}
use Rattle.decode_back.specs.TermWalks.{free_of, AreVariables, IsHead, IsTermFound, IsHeadFound}

-- the numbers of free variables keep their terms
pub AreVariables-Keeps : {a b : Trees} (ids : List TermId) (types : List ClosedType) → Keeps a b → AreKnown a ids → AreVariables a ids types
    → AreVariables b ids types
AreVariables-Keeps ids types k known h = sym (terms_at-Keeps k ids known) ∙ h

pub open_variables-length : (j : ℕ) (types : List ClosedType) → length (open_variables parameter_name j types) ≡ length types
open_variables-length j [] = refl
open_variables-length j (t ∷ ts) = ap suc (open_variables-length (suc j) ts)

pub length-map : {A B : Type 0} (f : A → B) (xs : List A) → length (map f xs) ≡ length xs
length-map f [] = refl
length-map f (x ∷ xs) = ap suc (length-map f xs)

-- there are as many types as numbers
pub AreVariables-length : (trees : Trees) (ids : List TermId) (types : List ClosedType) → AreVariables trees ids types → length types ≡ length ids
AreVariables-length trees ids types h =
    sym (length-map free_of (open_variables parameter_name 0 types) ∙ open_variables-length 0 types) ∙ sym (ap length h)
    ∙ length-map (λ (id : TermId). term_at trees id.0) ids

-- The terms of variables.
at-variable : (trees : Trees) (ids : List TermId) (types : List ClosedType) (i j : ℕ) (x : TermId) → terms_at trees ids
    ≡ map free_of (open_variables parameter_name i types) → j < length ids
    → term_at trees (get_or ids j x).0 ≡ term.Term.free (parameter_name (i + j)) (open_type parameter_name (type_at types j))
at-variable trees [] types i j x h l = absurd (omega (arith, l))
at-variable trees (id ∷ ids) [] i j x h l = absurd (cc)
at-variable trees (id ∷ ids) (t ∷ ts) i zero x h l =
    let first : term_at trees id.0 ≡ term.Term.free (parameter_name i) (open_type parameter_name t) = cc in
    let z : i ≡ i + 0 = omega arith in
    first ∙ ap (λ k. term.Term.free (parameter_name k) (open_type parameter_name t)) z
at-variable trees (id ∷ ids) (t ∷ ts) i (suc j) x h l =
    let rest : terms_at trees ids ≡ map free_of (open_variables parameter_name (suc i) ts) = cc in
    let z : suc i + j ≡ i + suc j = omega arith in
    at-variable trees ids ts (suc i) j x rest (omega (arith, l)) ∙ ap (λ k. term.Term.free (parameter_name k) (open_type parameter_name (type_at ts j))) z

-- the numbers of a list are of the table
pub known-at : (trees : Trees) (ids : List TermId) (j : ℕ) (x : TermId) → AreKnown trees ids → j < length ids → (get_or ids j x).0 < length trees.terms
known-at trees [] j x h l = absurd (omega (arith, l))
known-at trees (id ∷ ids) zero x h l = h.0
known-at trees (id ∷ ids) (suc j) x h l = known-at trees ids j x h.1 (omega (arith, l))

not-less : (a b : ℕ) → not (nat_lt a b) ≡ true → b ≤ a
not-less a b e = let f = (Decides-not (nat_lt a b) (Decides-ltb a b)).0 e in from f
  where
    from : (a < b → ⊥) → b ≤ a
    from f = omega (arith, f)

module _ (d : List Declaration) (at : Place) (v : ℕ) where
  pub variable-bound : v < at.binders → term_from d (Var v) at ≡ Some (ClosedTerm.bound v)
  variable-bound l = term_from-stands d (ClosedTerm.bound v) at (Var v) (l, refl)

  pub variable-free : (depth outer j : ℕ) → depth ≡ depth_of at → at.binders ≤ v → v < depth → outer ≡ depth - 1 - v → at.type_variables ≤ outer → j
      ≡ outer - at.type_variables → j < at.free_variables
      → term_from d (Var v) at ≡ Some (ClosedTerm.parameter j)
  variable-free depth outer j e own below f past g small =
      let back : v ≡ depth_of at - suc (at.type_variables + j) = omega (arith, e, own, below, f, past, g, small) in
      term_from-stands d (ClosedTerm.parameter j) at (Var v) (small, ap Var back)

  abbrev is_free : Bool
  is_free = nat_lt v (depth_of at) &&
      (not (nat_lt (depth_of at - suc v) at.type_variables) && nat_lt (depth_of at - suc v - at.type_variables) at.free_variables)

  -- a variable of no binder of its own, nor of a free variable, stands for no term
  pub variable-nothing : (depth : ℕ) → depth ≡ depth_of at → at.binders ≤ v
      → (v < depth → at.type_variables ≤ depth - 1 - v → depth - 1 - v - at.type_variables < at.free_variables → ⊥)
      → (c : ClosedTerm) → term_from d (Var v) at ≡ Some c → ⊥
  variable-nothing depth e own h c f = ⊎_elim bound free
      (or_else-is (provided (nat_lt v at.binders) (Some (ClosedTerm.bound v)))
      (provided is_free (Some (ClosedTerm.parameter (depth_of at - suc v - at.type_variables)))) c f)
    where
      bound : provided (nat_lt v at.binders) (Some (ClosedTerm.bound v)) ≡ Some c → ⊥
      bound g = let p = provided-is (nat_lt v at.binders) (Some (ClosedTerm.bound v)) c g in let l : v < at.binders =
          (Decides-ltb v at.binders).0 p.0 in omega (arith, l, own)

      free : provided is_free (Some (ClosedTerm.parameter (depth_of at - suc v - at.type_variables))) ≡ Some c → ⊥
      free g =
          let p = provided-is is_free (Some (ClosedTerm.parameter (depth_of at - suc v - at.type_variables))) c g in
          let q = and_parts (nat_lt v (depth_of at))
          (not (nat_lt (depth_of at - suc v) at.type_variables) && nat_lt (depth_of at - suc v - at.type_variables) at.free_variables) p.0 in
          let r = and_parts (not (nat_lt (depth_of at - suc v) at.type_variables)) (nat_lt (depth_of at - suc v - at.type_variables) at.free_variables) q.1 in
          let below : v < depth_of at = (Decides-ltb v (depth_of at)).0 q.0 in
          let past : at.type_variables ≤ depth_of at - suc v = not-less (depth_of at - suc v) at.type_variables r.0 in
          let small : depth_of at - suc v - at.type_variables < at.free_variables =
          (Decides-ltb (depth_of at - suc v - at.type_variables) at.free_variables).0 r.1 in
          let same : depth - 1 - v ≡ depth_of at - suc v = omega (arith, e, below) in
          h (omega (arith, e, below)) (omega (arith, same, past)) (omega (arith, same, small))

-- nothing at all is nothing within limits
pub nothing-NoTerm : (types : List ClosedType) (size level : ℕ) (o : Option ClosedTerm) → ((c : ClosedTerm) → o ≡ Some c → ⊥)
    → NoTerm parameter_name types size level o
nothing-NoTerm types size level o h c e a b = h c e

-- one that is too large
pub large-NoTerm : (types : List ClosedType) (size level : ℕ) (o : Option ClosedTerm) (c : ClosedTerm) → o ≡ Some c
    → size < term_size (open_term parameter_name types c) → NoTerm parameter_name types size level o
large-NoTerm types size level o c e l x f a b =
    let same : c ≡ x = some-injective (sym e ∙ f) in
    let s : term_size (open_term parameter_name types c) ≡ term_size (open_term parameter_name types x) =
    ap (λ u. term_size (open_term parameter_name types u)) same in
    omega (arith, l, s, a)

-- the heads that are no symbols of constants
pub var-no_constant : (d : List Declaration) (at : Place) (v : ℕ) (acc : ClosedTypes) → constant_from d at (Var v) acc ≡ None
var-no_constant d at v acc = refl

-- a head that takes no arguments
pub head-none : (d : List Declaration) (at : Place) (types : List ClosedType) (level there left : ℕ) (H : Tree) (xs ys : List Tree) (trees : Trees)
    → ((acc : ClosedTypes) → constant_from d at H acc ≡ None)
    → NoTerm parameter_name types there level (term_from d H at) → IsHeadFound level types there left d at H xs ys trees None
head-none d at types level there left H xs ys trees h none =
    dead-applied parameter_name types d at there level H xs (dead-no_constant parameter_name types d at there level H h none)

pub head-some : (d : List Declaration) (at : Place) (types : List ClosedType) (level there left : ℕ) (H : Tree) (xs ys : List Tree) (trees : Trees)
    (id : TermId) → xs ≡ ys
    → IsTermFound level types there left (term_from d H at) trees (Some id) → IsHeadFound level types there left d at H xs ys trees (Some id)
head-some d at types level there left H xs ys trees id e h = ([], e, h)

-- A head with some of its arguments, and then the others.
pub rest-is : (H A : Tree) (xs taken rest : List Tree) → applied H xs ≡ A → xs ≡ taken ++ rest → applied (applied H taken) rest ≡ A
rest-is H A xs taken rest e f = sym (applied-append H taken rest) ∙ ap (applied H) (sym f) ∙ e

module _ (d : List Declaration) (at : Place) (types : List ClosedType) (level there left : ℕ) (H : Tree) (xs : List Tree) (trees : Trees) where
  -- what is found of a head that takes no arguments
  pub head-found : ((acc : ClosedTypes) → constant_from d at H acc ≡ None) → (ys : List Tree) → xs ≡ ys → (found : Option TermId)
      → IsTermFound level types there left (term_from d H at) trees found → IsHeadFound level types there left d at H xs ys trees found
  head-found h ys e None none = head-none d at types level there left H xs ys trees h none
  head-found h ys e (Some id) found = head-some d at types level there left H xs ys trees id e found

  -- a head that no term begins with
  pub no_head : (T : Tree) → H ≡ T → ((acc : ClosedTypes) → constant_from d at T acc ≡ None) → term_from d T at ≡ None → (ys : List Tree)
      → IsHeadFound level types there left d at H xs ys trees None
  no_head T e h f ys =
      subst (λ A. IsHeadFound level types there left d at A xs ys trees None) (sym e)
      (head-none d at types level there left T xs ys trees h (λ c g a b. let z : ◌≡◌ {A = Option ClosedTerm} None (Some c) = sym f ∙ g in absurd (cc)))

-- the heads of nodes that stand for no term
module _ (d : List Declaration) (at : Place) (types : List ClosedType) (level there left : ℕ) (nodes : List Tree) (xs ys : List Tree) (trees : Trees) where
  pub node-no_head : (H : Tree) (r : LpNode) → H ≡ tree_of_node nodes r → IsHead H → (r ≡ node.SortType)
      ⊎ ((r ≡ node.SortKind) ⊎ (((a : LpId) × (b : LpId) × (r ≡ node.App a b)) ⊎ ((a : LpId) × (b : LpId) × (r ≡ node.Pi a b))))
      → IsHeadFound level types there left d at H xs ys trees None
  node-no_head H r e h (inl f) = no_head d at types level there left H xs trees SortType (e ∙ ap (tree_of_node nodes) f) (λ acc. refl) refl ys
  node-no_head H r e h (inr (inl f)) = no_head d at types level there left H xs trees SortKind (e ∙ ap (tree_of_node nodes) f) (λ acc. refl) refl ys
  node-no_head H r e h (inr (inr (inl f))) = λ c g a b. h _ _ (e ∙ ap (tree_of_node nodes) f.2)
  node-no_head H r e h (inr (inr (inr f))) = no_head d at types level there left H xs trees (Pi (tree_at nodes f.0.0) (tree_at nodes f.1.0))
      (e ∙ ap (tree_of_node nodes) f.2) (λ acc. refl) refl ys

-- A variable that a binder of its own binds, raised.
pub bound-raised : (number : ℕ) → lift number (term.Term.bound 0) ≡ term.Term.bound number
bound-raised number = let z : 0 + number ≡ number = omega arith in ap term.Term.bound z

-- what is found of a variable that a binder of its own binds
pub bound-found : (d : List Declaration) (at : Place) (types : List ClosedType) (level there left v : ℕ) (trees : Trees) → v < at.binders
    → (found : Option TermId) → MatchOption found (there ≡ 0) (λ id. Holds trees id.0 (term.Term.bound v))
    → IfSome found (λ id. left + 1 ≡ there) → IsTermFound level types there left (term_from d (Var v) at) trees found
bound-found d at types level there left v trees l None e k =
    large-NoTerm types there level (term_from d (Var v) at) (ClosedTerm.bound v) (variable-bound d at v l) (omega (arith, e))
bound-found d at types level there left v trees l (Some id) h k = (ClosedTerm.bound v, variable-bound d at v l, h, k)

-- what is found of a free variable
module _ (d : List Declaration) (at : Place) (v : ℕ) (types : List ClosedType) (level there : ℕ) (trees : Trees) (ids : List TermId)
    (are : AreVariables trees ids types) (j : ℕ) (x : TermId) (l : j < length ids)
    (is : term_from d (Var v) at ≡ Some (ClosedTerm.parameter j)) where
  free-is : term_at trees (get_or ids j x).0 ≡ open_term parameter_name types (ClosedTerm.parameter j)
  free-is = let z : 0 + j ≡ j = omega arith in at-variable trees ids types 0 j x are l ∙ ap
      (λ k. term.Term.free (parameter_name k) (open_type parameter_name (type_at types j))) z

  pub free-short : there < min (term_size (term_at trees (get_or ids j x).0)) (2 ^ 64 - 1) → NoTerm parameter_name types there level (term_from d (Var v) at)
  free-short s = let z = ap term_size free-is in large-NoTerm types there level (term_from d (Var v) at) (ClosedTerm.parameter j) is (omega (arith, s, z))

  pub free-found : (left : ℕ) → AreKnown trees ids → there ≤ greatest_size → left + min (term_size (term_at trees (get_or ids j x).0)) (2 ^ 64 - 1) ≡ there
      → IsTermFound level types there left (term_from d (Var v) at) trees (Some (get_or ids j x))
  free-found left known m paid =
      let z = ap term_size free-is in
      let spent : left + term_size (open_term parameter_name types (ClosedTerm.parameter j)) ≡ there = omega (arith, paid, z, m) in (
        ClosedTerm.parameter j,
        is,
        subst (Holds trees (get_or ids j x).0) free-is
            (term_in-Some trees.terms (get_or ids j x).0 (known-at trees ids j x known l)),
        spent,
      )
