-- The sequents of a proof's steps: they are sequents, and what is told of one is told of its parts.
use Rattle.std.proofs.Common.{◌≡◌, ℕ, ◌<◌, ◌≤◌, refl, sym, ap, subst, ◌∙◌, arith, List, [], ◌∷◌, length, Option, None, Some}
use Rattle.std.specs.Prelude.{IfNone, IfSome, IsSome}
use Rattle.std.specs.List.{AllByRecursion, flat_map}
use Rattle.std.proofs.lemmas.Option.{same_Some}
use Rattle.hol_spec.specs.Types.{HolType}
use Rattle.hol_spec.specs.Primitives.{bool}
use Rattle.hol_spec.specs.Terms.{Term, Variable, variable_eq, HasType, IsTerm, equation, free_places}
use Rattle.hol_spec.specs.Terms as term
use Rattle.hol_spec.specs.TermBinding.{loose}
use Rattle.hol_spec.specs.Sequents.{Sequent, terms_of, free_variables_of}
use Rattle.hol_spec.specs.Proofs.{sequent_at, IsProof}
use Rattle.hol_laws.specs.Members.{All-append, All-at, All-each, IsIn-distinct_of}
use Rattle.hol_laws.specs.TermLaws.{variable_eq-Decides}
use Rattle.hol_laws.specs.TermTyping.{loose-typed}
use Rattle.hol_proof_laws.specs.EquationLaws.{equation-sides, SidesOf}
use Rattle.lp_spec.specs.Modules.{Declaration}
use Rattle.translate_spec.specs.Rows.{equated_type, left_side, right_side}
use Rattle.translate_spec.specs.Scopes.{SymbolMap}
use Rattle.hol_type.specs.declared.table.TypeId.{TypeId}
use Rattle.hol_term.specs.declared.TermId.{TermId}
use Rattle.hol_term.specs.Shapes.{IsEquation}
use Rattle.hol_term.specs.Tables.{term_at, type_at}
use Rattle.sequent.specs.declared.Sequent.{Sequent as NumberSequent}
use Rattle.sequent.specs.Sequents as numbers
use Rattle.hol_rules.specs.Kept.{Kept, step_count}
use Rattle.translate_term.specs.Told.{TellsType, TellsTerm}
use Rattle.translate_proof.specs.declared.rows.Equated.{Equated}
use Rattle.translate_proof.specs.Environments.{Given, IsTold}
use Rattle.translate_proof.specs.Equations.{IsEquated, IsEquationStep}
use Rattle.translate_proof.specs.StepSequents.{step-IsSequent}
use Rattle.translate_proof.specs.Told.{TellsSequent, TellsStep}

-- the free variables of a told term have told types
free_types-told : (declarations : List Declaration) (symbols : SymbolMap) (t : Term) → TellsTerm declarations symbols t
    → AllByRecursion (λ (v : Variable). TellsType declarations symbols v.1) (free_places t)
free_types-told d symbols (term.Term.free n t) h = (h, tt {0})
free_types-told d symbols (term.Term.bound k) h = tt
free_types-told d symbols (term.Term.constant n t) h = tt
free_types-told d symbols (term.Term.app f x) h = All-append _ (free_places f) (free_places x) (free_types-told d symbols f h.0)
    (free_types-told d symbols x h.1)
free_types-told d symbols (term.Term.lam t b) h = free_types-told d symbols b h.1

all_free_types-told : (declarations : List Declaration) (symbols : SymbolMap) (ts : List Term) → AllByRecursion (TellsTerm declarations symbols) ts
    → AllByRecursion (λ (v : Variable). TellsType declarations symbols v.1) (flat_map free_places ts)
all_free_types-told d symbols [] h = tt
all_free_types-told d symbols (t ∷ ts) h = All-append _ (free_places t) (flat_map free_places ts) (free_types-told d symbols t h.0)
    (all_free_types-told d symbols ts h.1)

pub variables-told : (declarations : List Declaration) (symbols : SymbolMap) (s : Sequent) → TellsSequent declarations symbols s
    → AllByRecursion (λ (v : Variable). TellsType declarations symbols v.1) (free_variables_of s)
variables-told d symbols s h =
    All-each _ (free_variables_of s) (λ v i. All-at _ (flat_map free_places (terms_of s)) v
    (all_free_types-told d symbols (terms_of s) (All-append (TellsTerm d symbols) s.hypotheses (s.conclusion ∷ []) h.hypotheses (h.conclusion, tt {0})))
    (IsIn-distinct_of variable_eq variable_eq-Decides (flat_map free_places (terms_of s)) v i))

-- what has a type has no loose number
pub typed-closed : (t : Term) (a : HolType) → HasType t a → loose t ≤ 0
typed-closed t a h = loose-typed [] t a h

-- what there is where there can't be none
pub is-some : {X Q : Type 0} (o : Option X) → IfNone o Q → (Q → ⊥) → IsSome o
is-some None h f = absurd (f h)
is-some (Some x) h f = refl

pub if-some : {X : Type 0} (P : X → Type 0) (o : Option X) (x : X) → o ≡ Some x → IfSome o P → P x
if-some P o x e h = subst (λ o. IfSome o P) e h

-- the equation that a step's conclusion is
module _ (k : Kept) (id : ℕ) (l : id < step_count k) (p : IsProof k.made) (s : NumberSequent) (is : numbers.sequent_at k.trees s ≡ sequent_at k.made id)
    (known : numbers.IsKnown k.trees s) where
  conclusion-is : term_at k.trees s.concl.0 ≡ (sequent_at k.made id).conclusion
  conclusion-is = ap (λ (t : Sequent). t.conclusion) is

  conclusion-typed : HasType (term_at k.trees s.concl.0) bool
  conclusion-typed = subst (λ t. HasType t bool) (sym conclusion-is) (step-IsSequent k.made p id l).conclusion

  pub conclusion-IsTerm : IsTerm (term_at k.trees s.concl.0)
  conclusion-IsTerm = subst IsSome (sym conclusion-typed) refl

  pub conclusion-IsEquation : (h : IsEquationStep k id) → IsEquation (term_at k.trees s.concl.0) h.left h.right
  conclusion-IsEquation h = (h.ty, conclusion-is ∙ h.is)

  module _ (left right : TermId) (e : IsEquation (term_at k.trees s.concl.0) (term_at k.trees left.0) (term_at k.trees right.0)) where
    both : SidesOf e.0 (term_at k.trees left.0) (term_at k.trees right.0)
    both = equation-sides e.0 (term_at k.trees left.0) (term_at k.trees right.0) (term_at k.trees s.concl.0) e.1 conclusion-typed

    pub left-IsTerm : IsTerm (term_at k.trees left.0)
    left-IsTerm = subst IsSome (sym both.left) refl

    pub equated-is : (ty : TypeId) → left.0 < s.concl.0 → right.0 < s.concl.0 → ty.0 < length k.trees.types
        → HasType (term_at k.trees left.0) (type_at k.trees ty.0) → IsEquated k id (record { ty = ty; left = left; right = right })
    equated-is ty a b c h =
        let same : e.0 ≡ type_at k.trees ty.0 = same_Some _ _ (sym both.left ∙ h) in
        record {
          ty = c;
          left = omega (arith, a, known.1);
          right = omega (arith, b, known.1);
          is = sym conclusion-is ∙ e.1 ∙ ap (λ t. equation t (term_at k.trees left.0) (term_at k.trees right.0)) same;
          left_typed = h;
          right_typed = both.right ∙ ap Some same;
        }

-- an equation and its parts
module _ (k : Kept) (id : ℕ) (e : Equated) (h : IsEquated k id e) where
  pub equated-type : type_at k.trees e.ty.0 ≡ equated_type (sequent_at k.made id).conclusion
  equated-type = sym (ap equated_type h.is)

  pub equated-left : term_at k.trees e.left.0 ≡ left_side (sequent_at k.made id).conclusion
  equated-left = sym (ap left_side h.is)

  pub equated-right : term_at k.trees e.right.0 ≡ right_side (sequent_at k.made id).conclusion
  equated-right = sym (ap right_side h.is)

  module _ (given : Given) (told : TellsStep given k id) where
    whole : TellsTerm given.declarations given.symbols (equation (type_at k.trees e.ty.0) (term_at k.trees e.left.0) (term_at k.trees e.right.0))
    whole = subst (TellsTerm given.declarations given.symbols) h.is told.conclusion

    pub type-told : TellsType given.declarations given.symbols (type_at k.trees e.ty.0)
    type-told = whole.0.0.ty.1.0

    pub left-told : IsTold given (term_at k.trees e.left.0)
    left-told = record { told = whole.0.1; closed = typed-closed (term_at k.trees e.left.0) (type_at k.trees e.ty.0) h.left_typed }

    pub right-told : IsTold given (term_at k.trees e.right.0)
    right-told = record { told = whole.1; closed = typed-closed (term_at k.trees e.right.0) (type_at k.trees e.ty.0) h.right_typed }
