-- Translated types and terms are typed: in a typed scope the tree of a type is a simple type, and that of a term has the tree of its type.
use Rattle.std.proofs.Common.{◌≡◌, ℕ, zero, suc, List, [], ◌∷◌, map, length, Bool, true, false, cond, Some, ◌⊎◌, inl, inr, ⊎_elim, refl, sym, ap, subst, ◌∙◌, arith}
use Rattle.std.specs.Prelude.{replicate, slice_get}
use Rattle.std.proofs.lemmas.Option.{same_Some}
use Rattle.hol_spec.specs.Names.{Name}
use Rattle.hol_spec.specs.NameEquality.{name_eq}
use Rattle.hol_laws.specs.NameEqualityLaws.{name_eq-Decides}
use Rattle.hol_spec.specs.Types.{HolType, HolTypes, variable, operator, none, more, count, variable_places, variable_places_of_all}
use Rattle.hol_spec.specs.Primitives.{function}
use Rattle.hol_spec.specs.Substitution.{Instance}
use Rattle.hol_spec.specs.Terms.{Term, free, bound, constant, app, lam, type_under}
use Rattle.hol_laws.specs.TermSubstitutionLaws.{application_type-is, abstraction_type-is}
use Rattle.lp_spec.specs.Trees.{Tree, Var, lift}
use Rattle.lp_spec.specs.Substitution.{sub, cons}
use Rattle.lp_spec.specs.Modules.{Declaration, products, types, symbol_type}
use Rattle.hol_spec.specs.Lists.{IsIn}
use Rattle.hol_laws.specs.Members.{IsIn-either}
use Rattle.hol_laws.specs.GenericInstances.{filled_in, filled_in_all}
use Rattle.translate_spec.specs.Scopes.{SymbolMap, operator_symbol, constant_symbol, generic_type, TypeScope, type_trees, under_type, under_types, generic_tree}
use Rattle.translate_laws.specs.TermScopeLaws.{AreInstances}
use Rattle.translate_laws.specs.SimultaneousArguments.{after, sub-cons_lift}

-- a module declares the symbol of an operator with so many arguments, and that of a constant
abbrev pub DeclaresOperator : List Declaration → SymbolMap → Name → ℕ → Type 0
DeclaresOperator m symbols n k = symbol_type m (operator_symbol symbols n k) ≡ Some (products (replicate k types) types)

abbrev pub DeclaresConstant : List Declaration → SymbolMap → Name → Type 0
DeclaresConstant m symbols n = symbol_type m (constant_symbol symbols n) ≡ Some (generic_tree symbols (generic_type symbols n))

-- a type and a term over symbols that a module declares
abbrev mutual
  pub TypeOver : List Declaration → SymbolMap → HolType → Type 0
  TypeOver m symbols (variable n) = Unit {0}
  TypeOver m symbols (operator n ts) = DeclaresOperator m symbols n (count ts) × TypesOver m symbols ts

  pub TypesOver : List Declaration → SymbolMap → HolTypes → Type 0
  TypesOver m symbols none = Unit {0}
  TypesOver m symbols (more t ts) = TypeOver m symbols t × TypesOver m symbols ts

pub record ConstantOver (m : List Declaration) (symbols : SymbolMap) (n : Name) (t : HolType) : Type 0 where
  pub declared : DeclaresConstant m symbols n
  pub instance : Instance (generic_type symbols n) t
  pub ty : TypeOver m symbols t

abbrev pub TermOver : List Declaration → SymbolMap → Term → Type 0
TermOver m symbols (free n t) = TypeOver m symbols t
TermOver m symbols (bound k) = Unit {0}
TermOver m symbols (constant n t) = ConstantOver m symbols n t
TermOver m symbols (app f x) = TermOver m symbols f × TermOver m symbols x
TermOver m symbols (lam t b) = TypeOver m symbols t × TermOver m symbols b

pub AreInstances-over : (m : List Declaration) (symbols : SymbolMap) (t : Term) → TermOver m symbols t → AreInstances symbols t
AreInstances-over m symbols (free n t) h = tt
AreInstances-over m symbols (bound k) h = tt
AreInstances-over m symbols (constant n t) h = h.instance
AreInstances-over m symbols (app f x) h = (AreInstances-over m symbols f h.0, AreInstances-over m symbols x h.1)
AreInstances-over m symbols (lam t b) h = AreInstances-over m symbols b h.1

module _ (m : List Declaration) (symbols : SymbolMap) where
  mutual
    -- the types filled in one over the symbols are over them
    pub TypeOver-filled_in : (f : Name → HolType) (t : HolType) (n : Name) → IsIn (variable_places t) n → TypeOver m symbols (filled_in f t)
        → TypeOver m symbols (f n)
    TypeOver-filled_in f (variable k) n (inl e) h = subst (λ k. TypeOver m symbols (f k)) (sym e) h
    TypeOver-filled_in f (variable k) n (inr i) h = absurd i
    TypeOver-filled_in f (operator k ts) n i h = TypesOver-filled_in f ts n i h.1

    TypesOver-filled_in : (f : Name → HolType) (ts : HolTypes) (n : Name) → IsIn (variable_places_of_all ts) n → TypesOver m symbols (filled_in_all f ts)
        → TypeOver m symbols (f n)
    TypesOver-filled_in f none n i h = absurd i
    TypesOver-filled_in f (more t ts) n i h =
        ⊎_elim (λ l. TypeOver-filled_in f t n l h.0) (λ r. TypesOver-filled_in f ts n r h.1) (IsIn-either (variable_places t) (variable_places_of_all ts) n i)

  -- the type of a term over the symbols is over them
  pub TypeOver-type_under : (binders : List HolType) → ((k : ℕ) (a : HolType) → slice_get binders k ≡ Some a → TypeOver m symbols a) → (t : Term) (a : HolType)
      → TermOver m symbols t → type_under binders t ≡ Some a → TypeOver m symbols a
  TypeOver-type_under binders b (free n t) a h e = subst (TypeOver m symbols) (same_Some _ _ e) h
  TypeOver-type_under binders b (bound k) a h e = b k a e
  TypeOver-type_under binders b (constant n t) a h e = subst (TypeOver m symbols) (same_Some _ _ e) h.ty
  TypeOver-type_under binders b (app f x) a h e =
      let p = application_type-is (type_under binders f) (type_under binders x) a e in
      (TypeOver-type_under binders b f (function p.0 a) h.0 p.1.0).1.1.0
  TypeOver-type_under binders b (lam t c) a h e =
      let p = abstraction_type-is t (type_under (t ∷ binders) c) a e in
      subst (TypeOver m symbols) (sym p.1.1) (refl, (h.0, (TypeOver-type_under (t ∷ binders) (under t b h.0) c p.0 h.1 p.1.0, tt {0})))
    where
      under : (t : HolType) → ((k : ℕ) (a : HolType) → slice_get binders k ≡ Some a → TypeOver m symbols a) → TypeOver m symbols t → (k : ℕ) (a : HolType)
          → slice_get (t ∷ binders) k ≡ Some a → TypeOver m symbols a
      under t b h zero a e = subst (TypeOver m symbols) (same_Some _ _ e) h
      under t b h (suc k) a e = b k a e

pub length-type_trees : (symbols : SymbolMap) (scope : TypeScope) (ts : HolTypes) → count ts ≡ length (type_trees symbols scope ts)
length-type_trees symbols scope none = refl
length-type_trees symbols scope (more t ts) = omega (arith, length-type_trees symbols scope ts)

-- Arguments for type variables: what stands for each in a scope other than the one under their binders.
module _ (m : List Declaration) (G : List Tree) (other : TypeScope) where
  set_agrees : (b : Bool) (s : ℕ → Tree) (n k : Name) (x : Tree) → (b ≡ true → n ≡ k) → (b ≡ false → sub s x ≡ other n)
      → sub (cons (other k) s) (cond b (Var 0) (lift 1 x)) ≡ other n
  set_agrees true s n k x e f = ap other (sym (e refl))
  set_agrees false s n k x e f = sub-cons_lift s (other k) x ∙ f refl

  -- each variable for which there is an argument, or on which the scopes agreed, has what stands for it
  pub types-agree : (ns : List Name) (scope : TypeScope) (s : ℕ → Tree) (n : Name) → (IsIn ns n ⊎ (sub s (scope n) ≡ other n))
      → sub (after s (map other ns)) (under_types ns scope n) ≡ other n
  types-agree [] scope s n (inl k) = absurd k
  types-agree [] scope s n (inr e) = e
  types-agree (k ∷ ns) scope s n h = types-agree ns (under_type k scope) (cons (other k) s) n
      (go (name_eq n k) (name_eq-Decides n k).0 (name_eq-Decides n k).1 h)
    where
      go : (b : Bool) → (b ≡ true → n ≡ k) → (n ≡ k → b ≡ true) → (IsIn (k ∷ ns) n ⊎ (sub s (scope n) ≡ other n))
          → IsIn ns n ⊎ (sub (cons (other k) s) (cond b (Var 0) (lift 1 (scope n))) ≡ other n)
      go b e f (inl (inl is)) = inr (set_agrees b s n k (scope n) e (λ no. absurd (let yes = f is in cc)))
      go b e f (inl (inr i)) = inl i
      go b e f (inr a) = inr (set_agrees b s n k (scope n) e (λ no. a))
