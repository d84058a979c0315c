-- How the symbols of the signature are typed at typed arguments, over every module with closed types.
use Rattle.std.proofs.Common.{refl, ap, List, ◌∷◌}
use Rattle.lp_spec.specs.Trees.{Tree, SortType, Sym, App, Pi, lift}
use Rattle.lp_binding_laws.specs.Composition.{lift_zero}
use Rattle.lp_binding_laws.specs.Binding.{put-lift}
use Rattle.lp_spec.specs.Modules.{Declaration, types, bools, arr_of, term_of, eq_of, proof_of, eq_symbol, select_symbol, ind_symbol}
use Rattle.lp_spec.specs.Conversion.{rule, same, forth}
use Rattle.lp_typing_laws.specs.ConversionLaws.{IsClosed}
use Rattle.lp_spec.specs.Typing.{is_type, Typed, of_symbol, of_product, of_application, of_conversion}
use Rattle.lp_typing_laws.specs.TypingLaws.{weaken}

module _ (m : List Declaration) where
  -- `type` is a type
  pub Typed-types : {G : List Tree} → Typed m G types SortType
  Typed-types = of_symbol refl

  -- `bool` is a simple type
  pub Typed-bools : {G : List Tree} → Typed m G bools types
  Typed-bools = of_symbol refl

  -- `ind` is a simple type
  pub Typed-ind : {G : List Tree} → Typed m G (Sym ind_symbol) types
  Typed-ind = of_symbol refl

  -- `arr a b` is a simple type
  pub Typed-arr_of : {G : List Tree} {a b : Tree} → Typed m G a types → Typed m G b types → Typed m G (arr_of a b) types
  Typed-arr_of ha hb = of_application (of_application (of_symbol refl) ha refl) hb refl

  -- `term a` is a type
  pub Typed-term_of : {G : List Tree} {a : Tree} → Typed m G a types → Typed m G (term_of a) SortType
  Typed-term_of ha = of_application (of_symbol refl) ha refl

  -- `eq a` is a term of type `a -> a -> bool`
  pub Typed-eq : {G : List Tree} {a : Tree} → Typed m G a types → Typed m G (App (Sym eq_symbol) a) (term_of (arr_of a (arr_of a bools)))
  Typed-eq {a = a} ha = of_application (of_symbol refl) ha (ap (λ w. term_of (arr_of w (arr_of w bools))) (lift_zero a))

  -- `select a` is a term of type `(a -> bool) -> a`
  pub Typed-select : {G : List Tree} {a : Tree} → Typed m G a types → Typed m G (App (Sym select_symbol) a) (term_of (arr_of (arr_of a bools) a))
  Typed-select {a = a} ha = of_application (of_symbol refl) ha (ap (λ w. term_of (arr_of (arr_of w bools) w)) (lift_zero a))

  -- `proof p` is a type
  pub Typed-proof_of : {G : List Tree} {p : Tree} → Typed m G p (term_of bools) → Typed m G (proof_of p) SortType
  Typed-proof_of hp = of_application (of_symbol refl) hp refl

module _ (m : List Declaration) (closed : IsClosed m) where
  -- the terms of a type, under a further entry
  pub Typed-term_under : {G : List Tree} {c : Tree} (b : Tree) → Typed m G b types → Typed m (c ∷ G) (lift 1 (term_of b)) SortType
  Typed-term_under b hb = weaken m closed (Typed-term_of m hb)

  -- a term of a type of functions is a function of terms
  pub Typed-function : {G : List Tree} {f : Tree} (a b : Tree) → Typed m G a types → Typed m G b types → Typed m G f (term_of (arr_of a b))
      → Typed m G f (Pi (term_of a) (lift 1 (term_of b)))
  Typed-function a b ha hb hf = of_conversion hf (forth (rule refl) same) (of_product (Typed-term_of m ha) (Typed-term_under b hb) is_type) is_type

  -- a term of a type of functions at a term
  pub Typed-apply : {G : List Tree} {f x : Tree} (a b : Tree) → Typed m G a types → Typed m G b types → Typed m G f (term_of (arr_of a b))
      → Typed m G x (term_of a) → Typed m G (App f x) (term_of b)
  Typed-apply {x = x} a b ha hb hf hx = of_application (Typed-function a b ha hb hf) hx (put-lift x (term_of b))

  -- `eq a x y` is a term of type bool
  pub Typed-eq_of : {G : List Tree} {a x y : Tree} → Typed m G a types → Typed m G x (term_of a) → Typed m G y (term_of a)
      → Typed m G (eq_of a x y) (term_of bools)
  Typed-eq_of {a = a} ha hx hy =
      let predicates = Typed-arr_of m ha (Typed-bools m) in
      Typed-apply a bools ha (Typed-bools m) (Typed-apply a (arr_of a bools) ha predicates (Typed-eq m ha) hx) hy
