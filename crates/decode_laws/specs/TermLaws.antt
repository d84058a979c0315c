-- A term is decoded exactly where a tree stands for one.
use Rattle.std.proofs.Common.{◌≡◌, ℕ, suc, ◌+◌, ◌-◌, ◌<◌, ◌≤◌, ◌⊎◌, inl, inr, ⊎_elim, List, [], ◌∷◌, length, Bool, true, ◌&&◌, Option, Some, refl, sym, ap, subst, ◌∙◌, arith}
use Rattle.std.specs.Prelude.{nat_lt, nat_eq, not}
use Rattle.std.proofs.lemmas.Bool.Decides.{Decides-eqb, Decides-ltb, Decides-not}
use Rattle.std.proofs.lemmas.Bool.{and_parts, and_from}
use Rattle.hol_spec.specs.Names.{Name}
use Rattle.hol_spec.specs.ClosedForm.{ClosedType, ClosedTypes, ClosedTerm}
use Rattle.lp_spec.specs.Trees.{Tree, SortType, SortKind, Var, Sym, App, Lam, Pi}
use Rattle.lp_spec.specs.Modules.{Declaration, applied, term_of, term_symbol}
use Rattle.translate_spec.specs.TypeEnc.{Place, depth_of, inside, StandForTypes}
use Rattle.translate_spec.specs.ConstantMeaning.{MeansConstant, instance_of}
use Rattle.translate_spec.specs.Enc.{StandsForConstant, StandsForTerm}
use Rattle.decode_spec.specs.Options.{bind, both, provided}
use Rattle.decode_laws.specs.OptionLaws.{some-injective, bind-is, both-is, or_else-is, or_else-first, or_else-second, provided-is, provided-true}
use Rattle.decode_spec.specs.Decode.{closed_count, type_of_tree, term_part, Constant, constant_at, constant_from, term_parameter, term_from}
use Rattle.decode_laws.specs.TypeLaws.{joined, joined-none, count-stand, type_of_tree-is, type_of_tree-stands}
use Rattle.decode_laws.specs.ConstantLaws.{symbol_argument-is, symbol_argument-of, constant_at-is, constant_at-means}

-- a tree stands for a term that is a constant
pub record IsConstantAt (d : List Declaration) (at : Place) (c : ClosedTerm) (A : Tree) : Type 0 where
  pub name : Name
  pub ty : ClosedType
  pub is : c ≡ ClosedTerm.constant name ty
  pub stands : StandsForConstant d name ty at A

not-less : (a b : ℕ) → not (nat_lt a b) ≡ true → b ≤ a
not-less a b e = let f = (Decides-not (nat_lt a b) (Decides-ltb a b)).0 e in from f
  where
    from : (a < b → ⊥) → b ≤ a
    from f = omega (arith, f)

not-less-true : (a b : ℕ) → b ≤ a → not (nat_lt a b) ≡ true
not-less-true a b h = (Decides-not (nat_lt a b) (Decides-ltb a b)).1 (λ l. omega (arith, l, h))

-- the head of a tree, and how many arguments it has
abbrev pub head_of : Tree → Tree
head_of (App f x) = head_of f
head_of SortType = SortType
head_of SortKind = SortKind
head_of (Var n) = Var n
head_of (Sym s) = Sym s
head_of (Lam a b) = Lam a b
head_of (Pi a b) = Pi a b

abbrev pub argument_count : Tree → ℕ
argument_count (App f x) = suc (argument_count f)
argument_count SortType = 0
argument_count SortKind = 0
argument_count (Var n) = 0
argument_count (Sym s) = 0
argument_count (Lam a b) = 0
argument_count (Pi a b) = 0

module _ (d : List Declaration) where
  module _ (at : Place) where
    pub constant_from-is : (A : Tree) (args : ClosedTypes) (c : ClosedTerm) → constant_from d at A args ≡ Some c → (Xs : List Tree) → StandForTypes d args at Xs
        → IsConstantAt d at c (applied A Xs)
    constant_from-is SortType args c e Xs h = absurd (cc)
    constant_from-is SortKind args c e Xs h = absurd (cc)
    constant_from-is (Var v) args c e Xs h = absurd (cc)
    constant_from-is (Sym s) args c e Xs h =
        let p = bind-is (constant_at d s)
        (λ (k : Constant). provided (nat_eq k.variables (closed_count args)) (Some (ClosedTerm.constant k.name (instance_of args k.generic)))) c e in
        let q = provided-is (nat_eq p.0.variables (closed_count args)) (Some (ClosedTerm.constant p.0.name (instance_of args p.0.generic))) c p.2 in
        let count : p.0.variables ≡ length Xs = (Decides-eqb p.0.variables (closed_count args)).0 q.0 ∙ count-stand d at args Xs h in
        record {
          name = p.0.name;
          ty = instance_of args p.0.generic;
          is = sym (some-injective q.1);
          stands = record {
            symbol = s;
            args = Xs;
            generic = p.0.generic;
            means = subst (λ k. MeansConstant d s p.0.name k p.0.generic) count (constant_at-is d s p.0 p.1);
            arguments = args;
            args_stand = h;
            is_instance = refl;
            tree = refl;
          };
        }
    constant_from-is (App f x) args c e Xs h =
        let p = bind-is (type_of_tree d at x) (λ t. constant_from d at f (ClosedTypes.more t args)) c e in
        constant_from-is f (ClosedTypes.more p.0 args) c p.2 (x ∷ Xs) (type_of_tree-is d at x p.0 p.1, h)
    constant_from-is (Lam a b) args c e Xs h = absurd (cc)
    constant_from-is (Pi a b) args c e Xs h = absurd (cc)

    pub constants-stand : (ts : ClosedTypes) (As : List Tree) (f : Tree) (acc : ClosedTypes) → StandForTypes d ts at As
        → constant_from d at (applied f As) acc ≡ constant_from d at f (joined ts acc)
    constants-stand ClosedTypes.none [] f acc h = refl
    constants-stand ClosedTypes.none (A ∷ As) f acc h = absurd h
    constants-stand (ClosedTypes.more t ts) [] f acc h = absurd h
    constants-stand (ClosedTypes.more t ts) (A ∷ As) f acc h =
        constants-stand ts As (App f A) acc h.1
        ∙ ap (λ o. bind o (λ u. constant_from d at f (ClosedTypes.more u (joined ts acc)))) (type_of_tree-stands d at t A h.0)

    pub constant_from-stands : (n : Name) (t : ClosedType) (A : Tree) → StandsForConstant d n t at A
        → constant_from d at A ClosedTypes.none ≡ Some (ClosedTerm.constant n t)
    constant_from-stands n t A h =
        let made : ClosedTypes → Constant → Option ClosedTerm =
        λ us k. provided (nat_eq k.variables (closed_count us)) (Some (ClosedTerm.constant k.name (instance_of us k.generic))) in
        ap (λ B. constant_from d at B ClosedTypes.none) h.tree
        ∙ constants-stand h.arguments h.args (Sym h.symbol) ClosedTypes.none h.args_stand
        ∙ ap (λ us. bind (constant_at d h.symbol) (made us)) (joined-none h.arguments)
        ∙ ap (λ o. bind o (made h.arguments)) (constant_at-means d h.symbol n (length h.args) h.generic h.means)
        ∙ provided-true (nat_eq (length h.args) (closed_count h.arguments)) (Some (ClosedTerm.constant n (instance_of h.arguments h.generic)))
        ((Decides-eqb (length h.args) (closed_count h.arguments)).1 (sym (count-stand d at h.arguments h.args h.args_stand)))
        ∙ ap (λ u. Some (ClosedTerm.constant n u)) (sym h.is_instance)

    -- a constant has an argument for each variable of its generic type
    pub record IsApplied (args : ClosedTypes) (A : Tree) : Type 0 where
      pub symbol : ℕ
      pub constant : Constant
      pub head : head_of A ≡ Sym symbol
      pub found : constant_at d symbol ≡ Some constant
      pub count : constant.variables ≡ argument_count A + closed_count args

    pub constant_from-applied : (A : Tree) (args : ClosedTypes) (c : ClosedTerm) → constant_from d at A args ≡ Some c → IsApplied args A
    constant_from-applied SortType args c e = absurd (cc)
    constant_from-applied SortKind args c e = absurd (cc)
    constant_from-applied (Var v) args c e = absurd (cc)
    constant_from-applied (Sym s) args c e =
        let p = bind-is (constant_at d s)
        (λ (k : Constant). provided (nat_eq k.variables (closed_count args)) (Some (ClosedTerm.constant k.name (instance_of args k.generic)))) c e in
        let q = provided-is (nat_eq p.0.variables (closed_count args)) (Some (ClosedTerm.constant p.0.name (instance_of args p.0.generic))) c p.2 in
        let count : p.0.variables ≡ closed_count args = (Decides-eqb p.0.variables (closed_count args)).0 q.0 in
        record { symbol = s; constant = p.0; head = refl; found = p.1; count = omega (arith, count) }
    constant_from-applied (App f x) args c e =
        let p = bind-is (type_of_tree d at x) (λ t. constant_from d at f (ClosedTypes.more t args)) c e in
        let a = constant_from-applied f (ClosedTypes.more p.0 args) c p.2 in
        record { symbol = a.symbol; constant = a.constant; head = a.head; found = a.found; count = omega (arith, a.count) }
    constant_from-applied (Lam a b) args c e = absurd (cc)
    constant_from-applied (Pi a b) args c e = absurd (cc)

    -- variables
    abbrev is_free : ℕ → Bool
    is_free v = nat_lt v (depth_of at) &&
        (not (nat_lt (depth_of at - suc v) at.type_variables) && nat_lt (depth_of at - suc v - at.type_variables) at.free_variables)

    term_parameter-is : (v : ℕ) (c : ClosedTerm) → term_parameter at v ≡ Some c → StandsForTerm d c at (Var v)
    term_parameter-is v c e = ⊎_elim own outer (or_else-is _ _ c e)
      where
        own : provided (nat_lt v at.binders) (Some (ClosedTerm.bound v)) ≡ Some c → StandsForTerm d c at (Var v)
        own f =
            let p = provided-is (nat_lt v at.binders) (Some (ClosedTerm.bound v)) c f in
            subst (λ u. StandsForTerm d u at (Var v)) (some-injective p.1) ((Decides-ltb v at.binders).0 p.0, refl)

        outer : provided (is_free v) (Some (ClosedTerm.parameter (depth_of at - suc v - at.type_variables))) ≡ Some c → StandsForTerm d c at (Var v)
        outer f =
            let D = depth_of at in
            let p = provided-is (is_free v) (Some (ClosedTerm.parameter (D - suc v - at.type_variables))) c f in
            let q = and_parts (nat_lt v D) (not (nat_lt (D - suc v) at.type_variables) && nat_lt (D - suc v - at.type_variables) at.free_variables) p.0 in
            let r = and_parts (not (nat_lt (D - suc v) at.type_variables)) (nat_lt (D - suc v - at.type_variables) at.free_variables) q.1 in
            let below : v < D = (Decides-ltb v D).0 q.0 in
            let past : at.type_variables ≤ D - suc v = not-less (D - suc v) at.type_variables r.0 in
            let back : v ≡ D - suc (at.type_variables + (D - suc v - at.type_variables)) = omega (arith, below, past) in
            subst (λ u. StandsForTerm d u at (Var v)) (some-injective p.1) ((Decides-ltb (D - suc v - at.type_variables) at.free_variables).0 r.1, ap Var back)

    term_parameter-bound : (k : ℕ) → k < at.binders → term_parameter at k ≡ Some (ClosedTerm.bound k)
    term_parameter-bound k h = or_else-first _ _ (ClosedTerm.bound k)
        (provided-true (nat_lt k at.binders) (Some (ClosedTerm.bound k)) ((Decides-ltb k at.binders).1 h))

    term_parameter-free : (j : ℕ) → j < at.free_variables → term_parameter at (depth_of at - suc (at.type_variables + j)) ≡ Some (ClosedTerm.parameter j)
    term_parameter-free j h =
        let D = depth_of at in
        let v = D - suc (at.type_variables + j) in
        let l : at.type_variables + j < D = omega (arith, h) in
        let high : at.binders ≤ v = omega (arith, h) in
        let below : v < D = omega (arith, l) in
        let back : D - suc v ≡ at.type_variables + j = omega (arith, l) in
        let past : at.type_variables ≤ D - suc v = omega (arith, back) in
        let same : D - suc v - at.type_variables ≡ j = omega (arith, back) in
        let small : D - suc v - at.type_variables < at.free_variables = omega (arith, same, h) in
        or_else-second (provided (nat_lt v at.binders) (Some (ClosedTerm.bound v))) _ (ClosedTerm.parameter j)
        (λ y e. let p = provided-is (nat_lt v at.binders) (Some (ClosedTerm.bound v)) y e in let q : v < at.binders =
        (Decides-ltb v at.binders).0 p.0 in absurd (omega (arith, q, high)))
        (provided-true (is_free v) (Some (ClosedTerm.parameter (D - suc v - at.type_variables)))
        (and_from (nat_lt v D) (not (nat_lt (D - suc v) at.type_variables) && nat_lt (D - suc v - at.type_variables) at.free_variables)
        ((Decides-ltb v D).1 below)
        (and_from (not (nat_lt (D - suc v) at.type_variables)) (nat_lt (D - suc v - at.type_variables) at.free_variables)
        (not-less-true (D - suc v) at.type_variables past) ((Decides-ltb (D - suc v - at.type_variables) at.free_variables).1 small)))
        ∙ ap (λ i. Some (ClosedTerm.parameter i)) same)

  pub term_from-is : (A : Tree) (at : Place) (c : ClosedTerm) → term_from d A at ≡ Some c → StandsForTerm d c at A
  term_from-is SortType at c e = absurd (cc)
  term_from-is SortKind at c e = absurd (cc)
  term_from-is (Var v) at c e = term_parameter-is at v c e
  term_from-is (Sym s) at c e =
      let k = constant_from-is at (Sym s) ClosedTypes.none c e [] (tt {0}) in
      subst (λ u. StandsForTerm d u at (Sym s)) (sym k.is) k.stands
  term_from-is (App f x) at c e = go (λ u h. term_from-is f at u h) (λ u h. term_from-is x at u h)
      (or_else-is (constant_from d at (App f x) ClosedTypes.none) (both ClosedTerm.app (term_from d f at) (term_from d x at)) c e)
    where
      go : ((u : ClosedTerm) → term_from d f at ≡ Some u → StandsForTerm d u at f) → ((u : ClosedTerm) → term_from d x at ≡ Some u → StandsForTerm d u at x)
          → (constant_from d at (App f x) ClosedTypes.none ≡ Some c) ⊎ (both ClosedTerm.app (term_from d f at) (term_from d x at) ≡ Some c)
          → StandsForTerm d c at (App f x)
      go p q (inl g) =
          let k = constant_from-is at (App f x) ClosedTypes.none c g [] (tt {0}) in
          subst (λ u. StandsForTerm d u at (App f x)) (sym k.is) k.stands
      go p q (inr g) =
          let m = both-is ClosedTerm.app (term_from d f at) (term_from d x at) c g in
          subst (λ u. StandsForTerm d u at (App f x)) (sym m.4) (f, x, p m.0 m.2, q m.1 m.3, refl)
  term_from-is (Lam a b) at c e =
      let m = both-is ClosedTerm.lam (bind (term_part a) (type_of_tree d at)) (term_from d b (inside at)) c e in
      let t = bind-is (term_part a) (type_of_tree d at) m.0 m.2 in
      let domain : a ≡ term_of t.0 = symbol_argument-is term_symbol a t.0 t.1 in
      subst (λ u. StandsForTerm d u at (Lam a b)) (sym m.4)
      (t.0, b, type_of_tree-is d at t.0 m.0 t.2, term_from-is b (inside at) m.1 m.3, ap (λ z. Lam z b) domain)
  term_from-is (Pi a b) at c e = absurd (cc)

  -- what is decoded as a constant is so decoded as a term
  pub term_from-constant : (A : Tree) (at : Place) (c : ClosedTerm) → constant_from d at A ClosedTypes.none ≡ Some c → term_from d A at ≡ Some c
  term_from-constant SortType at c e = absurd (cc)
  term_from-constant SortKind at c e = absurd (cc)
  term_from-constant (Var v) at c e = absurd (cc)
  term_from-constant (Sym s) at c e = e
  term_from-constant (App f x) at c e = or_else-first (constant_from d at (App f x) ClosedTypes.none) _ c e
  term_from-constant (Lam a b) at c e = absurd (cc)
  term_from-constant (Pi a b) at c e = absurd (cc)

  -- the tree of a term whose head is the symbol of a constant has an argument at least for each variable of its generic type
  pub enough_arguments : (c : ClosedTerm) (at : Place) (A : Tree) (s : ℕ) (k : Constant) → StandsForTerm d c at A → head_of A ≡ Sym s → constant_at d s ≡ Some k
      → k.variables ≤ argument_count A
  enough_arguments (ClosedTerm.parameter j) at A s k h e f = let g : Var (depth_of at - suc (at.type_variables + j)) ≡ Sym s =
      sym (ap head_of h.1) ∙ e in absurd (cc)
  enough_arguments (ClosedTerm.bound i) at A s k h e f = let g : Var i ≡ Sym s = sym (ap head_of h.1) ∙ e in absurd (cc)
  enough_arguments (ClosedTerm.constant n t) at A s k h e f =
      let a = constant_from-applied at A ClosedTypes.none (ClosedTerm.constant n t) (constant_from-stands at n t A h) in
      let g : Sym s ≡ Sym a.symbol = sym e ∙ a.head in
      let same : s ≡ a.symbol = cc in
      let one : k ≡ a.constant = some-injective (sym f ∙ ap (constant_at d) same ∙ a.found) in
      let l : k.variables ≡ a.constant.variables = ap (λ (c : Constant). c.variables) one in
      omega (arith, l, a.count)
  enough_arguments (ClosedTerm.app g x) at A s k h e f =
      let l : k.variables ≤ argument_count h.0 = enough_arguments g at h.0 s k h.2 (sym (ap head_of h.4) ∙ e) f in
      let m : argument_count A ≡ suc (argument_count h.0) = ap argument_count h.4 in
      omega (arith, l, m)
  enough_arguments (ClosedTerm.lam t b) at A s k h e f = let g : Lam (term_of h.0) h.1 ≡ Sym s = sym (ap head_of h.4) ∙ e in absurd (cc)

  -- so an application of a term to a term isn't a constant
  app_not_constant : (f x y : ClosedTerm) (at : Place) (F X : Tree) → StandsForTerm d f at F → constant_from d at (App F X) ClosedTypes.none ≡ Some y → ⊥
  app_not_constant f x y at F X h e =
      let a = constant_from-applied at (App F X) ClosedTypes.none y e in
      let l = enough_arguments f at F a.symbol a.constant h a.head a.found in
      omega (arith, l, a.count)

  pub term_from-stands : (c : ClosedTerm) (at : Place) (A : Tree) → StandsForTerm d c at A → term_from d A at ≡ Some c
  term_from-stands (ClosedTerm.parameter j) at A h = ap (λ B. term_from d B at) h.1 ∙ term_parameter-free at j h.0
  term_from-stands (ClosedTerm.bound k) at A h = ap (λ B. term_from d B at) h.1 ∙ term_parameter-bound at k h.0
  term_from-stands (ClosedTerm.constant n t) at A h = term_from-constant A at (ClosedTerm.constant n t) (constant_from-stands at n t A h)
  term_from-stands (ClosedTerm.app f x) at A h =
      let F = h.0 in
      let X = h.1 in
      let first : term_from d F at ≡ Some f = term_from-stands f at F h.2 in
      let second : term_from d X at ≡ Some x = term_from-stands x at X h.3 in
      ap (λ B. term_from d B at) h.4
      ∙ or_else-second (constant_from d at (App F X) ClosedTypes.none) (both ClosedTerm.app (term_from d F at) (term_from d X at)) (ClosedTerm.app f x)
      (λ y e. absurd (app_not_constant f x y at F X h.2 e))
      (ap (λ o. both ClosedTerm.app o (term_from d X at)) first ∙ ap (both ClosedTerm.app (Some f)) second)
  term_from-stands (ClosedTerm.lam t b) at A h =
      let T = h.0 in
      let B = h.1 in
      let first : bind (term_part (term_of T)) (type_of_tree d at) ≡ Some t =
      ap (λ o. bind o (type_of_tree d at)) (symbol_argument-of term_symbol T) ∙ type_of_tree-stands d at t T h.2 in
      let second : term_from d B (inside at) ≡ Some b = term_from-stands b (inside at) B h.3 in
      ap (λ C. term_from d C at) h.4
      ∙ ap (λ o. both ClosedTerm.lam o (term_from d B (inside at))) first ∙ ap (both ClosedTerm.lam (Some t)) second
