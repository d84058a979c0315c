-- The shapes of the declarations that come from higher-order logic: which of the rules of typing they need, and where conversion has work
-- to do. Nothing is said here of how types are found, nor at which price.
use Rattle.std.specs.Prelude.{◌≡◌, ℕ, suc, ◌+◌, ◌≤◌, ◌⊎◌, Bool, true, false, List, [], ◌∷◌, slice_get, Option, Some, None}
use Rattle.lp_spec.specs.declared.form.Form.{Form}
use Rattle.lp_spec.specs.declared.form.Form.TheVariants.{Symbol, Def, Thm}
use Rattle.lp_spec.specs.Trees.{Tree, Var, Sym, App, Lam, Pi, lift, put, size}
use Rattle.lp_spec.specs.Modules.{Declaration, symbol_type, applied, types, bools, arr_of, term_of, eq_of, proof_of, refl_of, fun_ext_symbol}
use Rattle.lp_spec.specs.Weight.{spreads}
use Rattle.lp_spec.specs.HeadSteps.{head_step}

-- what a type ends in, after its products, is no variable
abbrev pub Solid : Tree → Type 0
Solid (Var n) = ⊥
Solid (Pi a b) = Solid b
Solid _ = Unit {0}

-- a symbol at simple types, and what remains of its declared type; a simple type is such a tree of the type `type`, or a variable of it
pub data IsConstant (m : List Declaration) (G : List Tree) : Tree → Tree → Type 0 where
  type_variable : {n : ℕ} → slice_get G n ≡ Some types → IsConstant m G (Var n) types
  constant : {s : ℕ} {A : Tree} → symbol_type m s ≡ Some A → Solid A → IsConstant m G (Sym s) A
  at_type : {f a A B : Tree} → IsConstant m G f (Pi types A) → IsConstant m G a types → put a A ≡ B → IsConstant m G (App f a) B

abbrev pub IsSimple : List Declaration → List Tree → Tree → Type 0
IsSimple m G a = IsConstant m G a types

-- a term of a simple type: a variable, a constant at simple types, an application or an abstraction
pub data IsTerm (m : List Declaration) : List Tree → Tree → Tree → Type 0 where
  of_entry : {G : List Tree} {n : ℕ} {a b : Tree} → slice_get G n ≡ Some (term_of b) → lift (suc n) b ≡ a → IsSimple m G a → IsTerm m G (Var n) a
  of_constant : {G : List Tree} {t a : Tree} → IsConstant m G t (term_of a) → IsSimple m G a → IsTerm m G t a
  of_function : {G : List Tree} {f x a b : Tree} → IsTerm m G f (arr_of a b) → IsTerm m G x a → IsTerm m G (App f x) b
  of_binder : {G : List Tree} {t a b : Tree} → IsSimple m G a → IsSimple m G b → IsTerm m (term_of a ∷ G) t (lift 1 b)
      → IsTerm m G (Lam (term_of a) t) (arr_of a b)

-- a declared type: a product over types, terms and proofs
pub data IsDeclared (m : List Declaration) : List Tree → Tree → Type 0 where
  of_types : {G : List Tree} → IsDeclared m G types
  of_terms : {G : List Tree} {a : Tree} → IsSimple m G a → IsDeclared m G (term_of a)
  of_proofs : {G : List Tree} {p : Tree} → IsTerm m G p bools → IsDeclared m G (proof_of p)
  of_products : {G : List Tree} {a b : Tree} → IsDeclared m G a → IsDeclared m (a ∷ G) b → IsDeclared m G (Pi a b)

-- `term a`, where the arrows of a are unfolded down to some depth
pub data Unfolded : Tree → Tree → Type 0 where
  folded : {a : Tree} → Unfolded a (term_of a)
  arrow : {a b S : Tree} → Unfolded (lift 1 b) S → Unfolded (arr_of a b) (Pi (term_of a) S)

-- the second tree is reached from the first by a head step at places that no head step of a tree round them hides, and by unfolding of arrows
pub data Near (m : List Declaration) : Tree → Tree → Type 0 where
  near_same : {t : Tree} → Near m t t
  near_head : {t u : Tree} → head_step m t ≡ Some u → Near m t u
  near_arrows : {a S : Tree} → Unfolded a S → Near m (term_of a) S
  near_application : {f g x y : Tree} → head_step m (App f x) ≡ None → head_step m (App g y) ≡ None → Near m f g → Near m x y → Near m (App f x) (App g y)
  near_product : {a b c d : Tree} → Near m a c → Near m b d → Near m (Pi a b) (Pi c d)

-- extensionality of `x : term a => t` and `x : term a => u`, which give terms of b
abbrev pub two_abstractions : Tree → Tree → Tree → Tree → Tree
two_abstractions a b t u = applied (Sym fun_ext_symbol) (a ∷ b ∷ Lam (term_of a) t ∷ Lam (term_of a) u ∷ [])

-- the equation that it asks for: `x : term a -> proof (eq b ((x : term a => t) x) ((x : term a => u) x))`
abbrev pub pointwise : Tree → Tree → Tree → Tree → Tree
pointwise a b t u = Pi (term_of a) (proof_of (eq_of (lift 1 b) (App (lift 1 (Lam (term_of a) t)) (Var 0)) (App (lift 1 (Lam (term_of a) u)) (Var 0))))

-- a call of a symbol on types, terms and proofs, and what remains of its declared type; a proof, and the type that it is found to have.
-- The first part tells a call, whose further arguments may follow.
pub data IsProof (m : List Declaration) : Bool → List Tree → Tree → Tree → Type 0 where
  call : {G : List Tree} {s : ℕ} {A : Tree} → symbol_type m s ≡ Some A → Solid A → IsProof m true G (Sym s) A
  at_a_type : {G : List Tree} {f a A B : Tree} → IsProof m true G f (Pi types A) → IsSimple m G a → put a A ≡ B → IsProof m true G (App f a) B
  at_a_term : {G : List Tree} {f x a A B : Tree} → IsProof m true G f (Pi (term_of a) A) → IsTerm m G x a → put x A ≡ B → IsProof m true G (App f x) B
  at_a_proof : {G : List Tree} {f h E A B : Tree} → IsProof m true G f (Pi E A) → IsProof m false G h E → put h A ≡ B → IsProof m true G (App f h) B
  -- reflexivity where the expected equation has a defined constant on its left
  at_a_definition : {G : List Tree} {f a c t A B : Tree} → IsProof m true G f (Pi (proof_of (eq_of a c t)) A) → IsConstant m G c (term_of a) → IsTerm m G t a
      → head_step m c ≡ Some t
      → IsProof m false G (refl_of a t) (proof_of (eq_of a t t)) → put (refl_of a t) A ≡ B → IsProof m true G (App f (refl_of a t)) B
  -- extensionality of two abstractions, whose values a proof under the binder equates
  at_abstractions : {G : List Tree} {a b t u h A B : Tree} → IsProof m true G (two_abstractions a b t u) (Pi (pointwise a b t u) A) → IsSimple m G a
      → IsSimple m G b
      → IsTerm m (term_of a ∷ G) t (lift 1 b) → IsTerm m (term_of a ∷ G) u (lift 1 b) → IsProof m false (term_of a ∷ G) h (proof_of (eq_of (lift 1 b) t u))
      → put (Lam (term_of a) h) A ≡ B → IsProof m true G (App (two_abstractions a b t u) (Lam (term_of a) h)) B
  called : {G : List Tree} {t p : Tree} → IsProof m true G t (proof_of p) → IsProof m false G t (proof_of p)
  hypothesis : {G : List Tree} {n : ℕ} {p A : Tree} → slice_get G n ≡ Some (proof_of p) → lift (suc n) (proof_of p) ≡ A → IsProof m false G (Var n) A
  under_binder : {G : List Tree} {a t A : Tree} → IsDeclared m G a → IsProof m false (a ∷ G) t A → IsProof m false G (Lam a t) (Pi a A)

-- a term under its type variables, and its type
pub data IsDefinition (m : List Declaration) : List Tree → Tree → Tree → Type 0 where
  defined : {G : List Tree} {t a : Tree} → IsTerm m G t a → IsDefinition m G t (term_of a)
  under_type : {G : List Tree} {t A : Tree} → IsDefinition m (types ∷ G) t A → IsDefinition m G (Lam types t) (Pi types A)

-- the second tree is reached from the first by at most so many head steps at a place, by unfolding of an arrow on both sides, or in parts
-- with at most two each
pub data Close (m : List Declaration) : ℕ → Tree → Tree → Type 0 where
  close_same : {n : ℕ} {t : Tree} → Close m (suc n) t t
  close_step : {n : ℕ} {E H F : Tree} → head_step m E ≡ Some H → Close m n H F → Close m (suc n) E F
  close_arrow : {n : ℕ} {a b c d : Tree} → Close m 3 (term_of a) (term_of c) → Close m 3 (lift 1 (term_of b)) (lift 1 (term_of d))
      → Close m (suc n) (term_of (arr_of a b)) (term_of (arr_of c d))
  close_application : {n : ℕ} {f g x y : Tree} → head_step m (App f x) ≡ None → head_step m (App g y) ≡ None → Close m 3 f g → Close m 3 x y
      → Close m (suc n) (App f x) (App g y)
  close_product : {n : ℕ} {a b c d : Tree} → Close m 3 a c → Close m 3 b d → Close m (suc n) (Pi a b) (Pi c d)

-- the last call of a law: one of the families so far, or one at a term of a defined type where the type that it stands for is expected
pub data IsLast (m : List Declaration) : List Tree → Tree → Tree → Type 0 where
  last_call : {G : List Tree} {h F : Tree} → IsProof m true G h F → IsLast m G h F
  last_defined : {G : List Tree} {f x n S A F : Tree} → IsProof m true G f (Pi (term_of S) A) → IsTerm m G x n → head_step m n ≡ Some S → head_step m S ≡ None
      → head_step m (term_of n) ≡ None → head_step m (term_of S) ≡ None
      → IsProof m true G S types → size S ≤ size f → spreads m [] S ≤ spreads m (x ∷ []) f → put x A ≡ F → IsLast m G (App f x) F

-- a law's body, and the type that it is found to have: extensionality of two abstractions, whose values a last call equates; a last call alone; or
-- a call whose last argument is one, where an equation is expected
pub data IsLaw (m : List Declaration) : List Tree → Tree → Tree → Type 0 where
  at_close_abstractions : {G : List Tree} {a b t u h F B A : Tree} → IsProof m true G (two_abstractions a b t u) (Pi (pointwise a b t u) A) → IsSimple m G a
      → IsSimple m G b
      → IsTerm m (term_of a ∷ G) t (lift 1 b) → IsTerm m (term_of a ∷ G) u (lift 1 b) → IsLast m (term_of a ∷ G) h F
      → Close m 3 (proof_of (eq_of (lift 1 b) (App (lift 1 (Lam (term_of a) t)) (Var 0)) (App (lift 1 (Lam (term_of a) u)) (Var 0)))) F
      → put (Lam (term_of a) h) A ≡ proof_of B → IsLaw m G (App (two_abstractions a b t u) (Lam (term_of a) h)) (proof_of B)
  law_last : {G : List Tree} {h p : Tree} → 3 ≤ size h → IsLast m G h (proof_of p) → IsLaw m G h (proof_of p)
  at_close_equation : {G : List Tree} {f h l r A F B : Tree} → IsProof m true G f (Pi (proof_of (eq_of bools l r)) A) → IsTerm m G l bools → IsTerm m G r bools
      → size l + size r ≤ size f
      → spreads m [] l + spreads m [] r ≤ spreads m (h ∷ []) f → IsLast m G h F → Close m 3 (proof_of (eq_of bools l r)) F → put h A ≡ proof_of B
      → IsLaw m G (App f h) (proof_of B)
  law_under : {G : List Tree} {a t A : Tree} → IsDeclared m G a → IsLaw m (a ∷ G) t A → IsLaw m G (Lam a t) (Pi a A)

-- a definition by a call under its type variables: `sub K`, `sub_abs K`, `sub_rep K`
pub data IsCallDefinition (m : List Declaration) : List Tree → Tree → Tree → Type 0 where
  by_type : {G : List Tree} {t : Tree} → IsProof m true G t types → IsCallDefinition m G t types
  by_term : {G : List Tree} {t c d : Tree} → IsProof m true G t (term_of d) → Close m 3 (term_of c) (term_of d) → IsCallDefinition m G t (term_of c)
  call_under : {G : List Tree} {t A : Tree} → IsCallDefinition m (types ∷ G) t A → IsCallDefinition m G (Lam types t) (Pi types A)

-- the body is a law's, whose found type is close to the declared one
pub record IsLawBody (m : List Declaration) (t A : Tree) : Type 0 where
  pub found : Tree
  pub law : IsLaw m [] t found
  pub close : Close m 3 A found

-- the body is a proof whose found type is near the declared one
pub record IsProofBody (m : List Declaration) (t A : Tree) : Type 0 where
  pub found : Tree
  pub proof : IsProof m false [] t found
  pub near : Near m A found

abbrev pub IsBodyShaped : List Declaration → Form → Option Tree → Tree → Type 0
IsBodyShaped m Symbol body A = body ≡ None
IsBodyShaped m Def (Some t) A = IsDefinition m [] t A ⊎ (IsCallDefinition m [] t A × 3 ≤ size t)
IsBodyShaped m Thm (Some t) A = IsProofBody m t A ⊎ IsLawBody m t A
IsBodyShaped m _ _ A = ⊥

-- the declaration is shaped over these before it
pub record IsShaped (m : List Declaration) (d : Declaration) : Type 0 where
  pub ty : IsDeclared m [] d.ty
  pub body : IsBodyShaped m d.form d.body d.ty
