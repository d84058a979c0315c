-- A theorem by which a type operator can be defined, and the equation of two functions, by the numbers of their parts.
use Rattle.std.proofs.Common.{◌≡◌, ℕ, ◌<◌, ◌≤◌, refl, sym, ap, subst, ◌∙◌, arith, [], ◌∷◌, length, unwrap_or, max, Option, Some, None}
use Rattle.std.specs.Prelude.{IsSome, IfSome}
use Rattle.std.specs.Option.{option_map}
use Rattle.std.proofs.lemmas.Option.{same_Some}
use Rattle.hol_spec.specs.Primitives.{bool, function, function_parts}
use Rattle.hol_spec.specs.Proofs.{sequent_at, IsProof}
use Rattle.hol_spec.specs.TermBinding.{loose}
use Rattle.hol_spec.specs.Terms.{Term, app, equation, HasType, IsTerm}
use Rattle.hol_spec.specs.Types.{HolType}
use Rattle.hol_type.specs.declared.table.TypeId.{TypeId}
use Rattle.hol_type.specs.Tables.{two_at}
use Rattle.hol_term.specs.declared.TermId.{TermId}
use Rattle.hol_term.specs.declared.TermView.{TermView}
use Rattle.hol_term.specs.declared.TermView.TheVariants as view
use Rattle.hol_term.specs.Tables.{Trees, term_at, type_at, Holds}
use Rattle.hol_term.specs.TableLaws.{Some-term_in}
use Rattle.hol_term.specs.Views.{tree_of_view, ViewBelow}
use Rattle.hol_rules.specs.Kept.{Kept, step_count}
use Rattle.lp_spec.specs.Modules.{applied, term_of, fun_ext_symbol}
use Rattle.lp_spec.specs.Trees.{Tree, Sym, App, Lam, Var}
use Rattle.translate_spec.specs.ProofTrees.{Premise, predicate, witness, part_tree, law_tree}
use Rattle.translate_spec.specs.Rows.{equated_type, left_side, right_side, argument_type, result_type, type_or}
use Rattle.translate_spec.specs.Scopes.{SymbolMap, Scope, lifted, term_tree, theorem_tree, type_tree}
use Rattle.sequent.specs.declared.Sequent.{Sequent as NumberSequent}
use Rattle.sequent.specs.Sequents as numbers
use Rattle.translate_term.specs.Told.{TellsTerm, TellsType}
use Rattle.translate_proof.specs.declared.parts.Functions.{Functions}
use Rattle.translate_proof.specs.declared.parts.Holding.{Holding}
use Rattle.translate_proof.specs.declared.rows.Equated.{Equated}
use Rattle.translate_proof.specs.Environments.{Given, IsTold}
use Rattle.translate_proof.specs.Equations.{IsEquated}
use Rattle.translate_proof.specs.Parts.{whole_type, AreFunctions, IsDefiningStep, IsHolding}
use Rattle.translate_proof.specs.StepSequents.{step-IsSequent}
use Rattle.translate_proof.specs.Told.{TellsStep}
use Rattle.translate_proof.proofs.ConclusionLaws.{conclusion-same}
use Rattle.translate_proof.proofs.SequentLaws.{typed-closed, equated-type, equated-left, equated-right, type-told}

-- An application is no other kind of term, and its argument is seen
module _ (trees : Trees) (id : ℕ) (p t : Term) (is : term_at trees id ≡ app p t) where
  pub application-view : (v : TermView) → Holds trees id (tree_of_view trees v) → ((f x : TermId) → v ≡ view.App f x → ⊥) → ⊥
  application-view (view.Free n t) h other = absurd (let e = Some-term_in trees.terms id _ h in cc)
  application-view (view.Bound n) h other = absurd (let e = Some-term_in trees.terms id _ h in cc)
  application-view (view.Const n t) h other = absurd (let e = Some-term_in trees.terms id _ h in cc)
  application-view (view.App f x) h other = other f x refl
  application-view (view.Lam t b) h other = absurd (let e = Some-term_in trees.terms id _ h in cc)

pub argument-seen : (trees : Trees) (id : ℕ) (f x : TermId) (v : TermView) → v ≡ view.App f x → Holds trees id (tree_of_view trees v) → term_at trees x.0
    ≡ witness (term_at trees id)
argument-seen trees id f x v e h = sym (ap witness (Some-term_in trees.terms id _ (subst (λ v. Holds trees id (tree_of_view trees v)) e h)))

pub argument-below : (trees : Trees) (id : ℕ) (f x : TermId) (v : TermView) → v ≡ view.App f x → ViewBelow trees id v → x.0 < id
argument-below trees id f x v e h = (subst (ViewBelow trees id) e h).1

-- what is told of an application is told of its argument
pub argument-told : (given : Given) (f x t : Term) → t ≡ app f x → IsTold given t → IsTold given x
argument-told given f x t e h =
    let closed : max (loose f) (loose x) ≤ 0 = subst (λ t. loose t ≤ 0) e h.closed in
    record { told = (subst (TellsTerm given.declarations given.symbols) e h.told).1; closed = omega (arith, closed) }

-- What a step says is that a predicate holds in a term
module _ (k : Kept) (id : ℕ) (l : id < step_count k) (p : IsProof k.made) (s : NumberSequent) (is : numbers.sequent_at k.trees s ≡ sequent_at k.made id)
    (known : numbers.IsKnown k.trees s) (d : IsDefiningStep k id) where
  conclusion-holds : term_at k.trees s.concl.0 ≡ app d.predicate d.defines.witness
  conclusion-holds = conclusion-same k id s is ∙ d.defines.holds

  -- so its conclusion is no other kind of term
  pub view-app : (v : TermView) → Holds k.trees s.concl.0 (tree_of_view k.trees v) → ((f x : TermId) → v ≡ view.App f x → ⊥) → ⊥
  view-app = application-view k.trees s.concl.0 d.predicate d.defines.witness conclusion-holds

  module _ (f x : TermId) (v : TermView) (e : v ≡ view.App f x) (h : Holds k.trees s.concl.0 (tree_of_view k.trees v)) where
    parts : term_at k.trees s.concl.0 ≡ app (term_at k.trees f.0) (term_at k.trees x.0)
    parts = Some-term_in k.trees.terms s.concl.0 _ (subst (λ v. Holds k.trees s.concl.0 (tree_of_view k.trees v)) e h)

    pub witness-IsTerm : IsTerm (term_at k.trees x.0)
    witness-IsTerm =
        let same : d.defines.witness ≡ term_at k.trees x.0 = ap witness (sym conclusion-holds ∙ parts) in
        subst IsTerm same (subst IsSome (sym d.defines.typed) refl)

    -- these are the numbers of its parts
    pub holding-is : ViewBelow k.trees s.concl.0 v → (ty : TypeId) → ty.0 < length k.trees.types → HasType (term_at k.trees x.0) (type_at k.trees ty.0)
        → IsHolding k id (record { ty = ty; predicate = f; witness = x })
    holding-is below ty a t =
        let lower : (f.0 < s.concl.0) × (x.0 < s.concl.0) = subst (ViewBelow k.trees s.concl.0) e below in
        let whole = sym (conclusion-same k id s is) ∙ parts in
        record {
          ty = a;
          predicate = omega (arith, lower.0, known.1);
          witness = omega (arith, lower.1, known.1);
          whole = sym (ap (λ c. type_or (witness c)) whole ∙ ap (λ o. unwrap_or o bool) t);
          is = whole;
          closed = typed-closed (sequent_at k.made id).conclusion bool (step-IsSequent k.made p id l).conclusion;
        }

-- the parts, and what is told of them
module _ (k : Kept) (id : ℕ) (h : Holding) (is : IsHolding k id h) where
  pub held-predicate : term_at k.trees h.predicate.0 ≡ predicate (sequent_at k.made id).conclusion
  held-predicate = sym (ap predicate is.is)

  pub held-witness : term_at k.trees h.witness.0 ≡ witness (sequent_at k.made id).conclusion
  held-witness = sym (ap witness is.is)

  module _ (given : Given) where
    pub whole-told : TellsType given.declarations given.symbols (whole_type k id) → TellsType given.declarations given.symbols (type_at k.trees h.ty.0)
    whole-told t = subst (TellsType given.declarations given.symbols) (sym is.whole) t

    module _ (told : TellsStep given k id) where
      both-told : TellsTerm given.declarations given.symbols (app (term_at k.trees h.predicate.0) (term_at k.trees h.witness.0))
      both-told = subst (TellsTerm given.declarations given.symbols) is.is told.conclusion

      both-closed : max (loose (term_at k.trees h.predicate.0)) (loose (term_at k.trees h.witness.0)) ≤ 0
      both-closed = subst (λ t. loose t ≤ 0) is.is is.closed

      pub predicate-told : IsTold given (term_at k.trees h.predicate.0)
      predicate-told = record { told = both-told.0; closed = omega (arith, both-closed) }

      pub witness-told : IsTold given (term_at k.trees h.witness.0)
      witness-told = record { told = both-told.1; closed = omega (arith, both-closed) }

-- An equation of two functions
module _ (k : Kept) (id : ℕ) (e : Equated) (h : IsEquated k id e) (a b : HolType) (t u : Term)
    (is : (sequent_at k.made id).conclusion ≡ equation (function a b) t u) where
  functions-type : type_at k.trees e.ty.0 ≡ function a b
  functions-type = equated-type k id e h ∙ ap equated_type is

  module _ (o : Option (TypeId × TypeId)) (parts : option_map (two_at k.trees.types) o ≡ function_parts (type_at k.trees e.ty.0)) where
    parts-are : option_map (two_at k.trees.types) o ≡ Some (a, b)
    parts-are = parts ∙ ap function_parts functions-type

    pub function_parts-some : IsSome o
    function_parts-some = go o parts-are
      where
        go : (o : Option (TypeId × TypeId)) → option_map (two_at k.trees.types) o ≡ Some (a, b) → IsSome o
        go None f = absurd (cc)
        go (Some x) f = refl

    module _ (x : TypeId × TypeId) (some : o ≡ Some x) where
      both-are : let pair : HolType × HolType = (a, b) in two_at k.trees.types x ≡ pair
      both-are = same_Some _ _ (sym (ap (option_map (two_at k.trees.types)) some) ∙ parts-are)

      pub functions-are : IfSome o (λ p. p.0.0 < e.ty.0) → IfSome o (λ p. p.1.0 < e.ty.0) → AreFunctions k id (record { sides = e; from = x.0; to = x.1 })
      functions-are from to =
          let one : x.0.0 < e.ty.0 = subst (λ o. IfSome o (λ (p : TypeId × TypeId). p.0.0 < e.ty.0)) some from in
          let two : x.1.0 < e.ty.0 = subst (λ o. IfSome o (λ (p : TypeId × TypeId). p.1.0 < e.ty.0)) some to in
          record {
            sides = h;
            from = omega (arith, one, h.ty);
            to = omega (arith, two, h.ty);
            is = functions-type ∙ (λ i. function (sym both-are i).0 (sym both-are i).1);
          }

-- the types of its functions, and what is told of them
module _ (k : Kept) (id : ℕ) (f : Functions) (is : AreFunctions k id f) where
  module _ (given : Given) (told : TellsStep given k id) where
    function-told : TellsType given.declarations given.symbols (function (type_at k.trees f.from.0) (type_at k.trees f.to.0))
    function-told = subst (TellsType given.declarations given.symbols) is.is (type-told k id f.sides is.sides given told)

    pub from-told : TellsType given.declarations given.symbols (type_at k.trees f.from.0)
    from-told = function-told.1.0

    pub to-told : TellsType given.declarations given.symbols (type_at k.trees f.to.0)
    to-told = function-told.1.1.0

  module _ (a b : HolType) (t u : Term) (e : (sequent_at k.made id).conclusion ≡ equation (function a b) t u) where
    whole : function (type_at k.trees f.from.0) (type_at k.trees f.to.0) ≡ function a b
    whole = sym is.is ∙ equated-type k id f.sides is.sides ∙ ap equated_type e

    pub functions-from : type_at k.trees f.from.0 ≡ a
    functions-from = ap argument_type whole

    pub functions-to : type_at k.trees f.to.0 ≡ b
    functions-to = ap result_type whole

    pub functions-left : term_at k.trees f.sides.left.0 ≡ t
    functions-left = equated-left k id f.sides is.sides ∙ ap left_side e

    pub functions-right : term_at k.trees f.sides.right.0 ≡ u
    functions-right = equated-right k id f.sides is.sides ∙ ap right_side e

-- The proof of a law, by what its arguments are
pub law-made : (symbols : SymbolMap) (scope : Scope) (from a to b : HolType) (left right t u : Term) (s : ℕ) (c : HolType) (one : Premise) (domain : Tree)
    → from ≡ a → to ≡ b → left ≡ Term.lam a t → right ≡ Term.lam a u → domain ≡ type_tree symbols scope.types from
    → applied (Sym fun_ext_symbol)
    (type_tree symbols scope.types from ∷ type_tree symbols scope.types to ∷ term_tree symbols scope left ∷ term_tree symbols scope right
    ∷ Lam (term_of domain) (App (part_tree symbols (lifted scope) s c one) (Var 0)) ∷ [])
    ≡ law_tree symbols scope a b t u s c one
law-made symbols scope from a to b left right t u s c one domain p q l r d = λ i.
    applied (Sym fun_ext_symbol)
    (type_tree symbols scope.types (p i) ∷ type_tree symbols scope.types (q i) ∷ term_tree symbols scope (l i) ∷ term_tree symbols scope (r i)
    ∷ Lam (term_of ((d ∙ ap (type_tree symbols scope.types) p) i)) (App (part_tree symbols (lifted scope) s c one) (Var 0)) ∷ [])

-- What a part stands for, by what its arguments are
pub part-made : (symbols : SymbolMap) (scope : Scope) (s : ℕ) (a c : HolType) (f x : Term) (one : Premise) → a ≡ c → f ≡ predicate one.1.conclusion → x
    ≡ witness one.1.conclusion
    → applied (Sym s) (type_tree symbols scope.types a ∷ term_tree symbols scope f ∷ term_tree symbols scope x ∷ theorem_tree scope one.0 one.1 ∷ [])
    ≡ part_tree symbols scope s c one
part-made symbols scope s a c f x one p q r = λ i. applied (Sym s)
    (type_tree symbols scope.types (p i) ∷ term_tree symbols scope (q i) ∷ term_tree symbols scope (r i) ∷ theorem_tree scope one.0 one.1 ∷ [])
