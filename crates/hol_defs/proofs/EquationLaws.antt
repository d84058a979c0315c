-- Equations of variables, by numbers and as trees.
use Rattle.std.proofs.Common.{◌≡◌, ◌<◌, refl, sym, ap, ◌∙◌, List, [], ◌∷◌, ◌++◌, length, Bool, true, false, nat_eq, cond, Option, None, Some}
use Rattle.std.proofs.Math.Path.{ap₂}
use Rattle.std.specs.Prelude.{◌||◌, ◌&&◌, if◌then◌else◌, IsSome}
use Rattle.std.specs.List.{filter, cons_option}
use Rattle.std.proofs.lemmas.Bool.Decides.{Decides-eqb}
use Rattle.std.proofs.lemmas.Option.{same_Some}
use Rattle.hol_spec.specs.Names.{Name}
use Rattle.hol_spec.specs.NameEquality.{name_eq}
use Rattle.hol_spec.specs.Lists.{is_in}
use Rattle.hol_spec.specs.Types.{HolType, type_eq}
use Rattle.hol_spec.specs.Primitives.{function, equality_name, equality_type}
use Rattle.hol_laws.specs.TypeLaws.{type_eq-Decides}
use Rattle.hol_spec.specs.Terms.{Term, free, constant, app, equation, variable_eq, type_of, type_under, HasType, IsTerm}
use Rattle.hol_spec.specs.Equations.{Equation as Sides, equation_parts}
use Rattle.hol_proof_laws.specs.EquationLaws.{equation_parts-is, first_argument, second_argument}
use Rattle.hol_laws.specs.TermSubstitutionLaws.{application_type-is}
use Rattle.hol_spec.specs.DefinitionLists.{variable_side, of_equation, variable_equation}
use Rattle.hol_type.specs.declared.table.TypeId.{TypeId}
use Rattle.hol_type.specs.Tables as type
use Rattle.hol_type.specs.TableLaws.{tree_at-same}
use Rattle.hol_term.specs.declared.TermId.{TermId}
use Rattle.hol_term.specs.declared.Variable.{Variable}
use Rattle.hol_term.specs.Shapes.{IsEquation}
use Rattle.hol_term.specs.Subterms.{variables_of, HaveTypes}
use Rattle.hol_term.specs.Tables.{Trees, term_at, type_at}
use Rattle.hol_defs.specs.declared.lists.Equation.{Equation}
use Rattle.hol_defs.specs.Lists.{same_variable, variable_at, equation_at, equations_of, AreEquationsKnown, IsEquationKnown}

-- an equation is taken apart
parts-equation : (a : HolType) (l r : Term) → equation_parts (equation a l r) ≡ Some (record { ty = a; left = l; right = r })
parts-equation a l r = ap (λ b. if b then Some (record { ty = a; left = l; right = r }) else None)
    ((type_eq-Decides (equality_type a) (equality_type a)).1 refl)

-- no equation says nothing of a variable
pub says_nothing : (t : Term) → ((l r : Term) → IsEquation t l r → ⊥) → variable_equation t ≡ None
says_nothing t h = go (equation_parts t) refl
  where
    go : (o : Option Sides) → equation_parts t ≡ o → of_equation o ≡ None
    go None e = refl
    go (Some s) e = absurd (h s.left s.right (s.ty, equation_parts-is t s e))

-- an equation says what its left side, a variable, is
pub says : (t l r : Term) → IsEquation t l r → variable_equation t ≡ variable_side l r
says t l r h = ap variable_equation h.1 ∙ ap of_equation (parts-equation h.0 l r)

module _ (trees : Trees) (distinct : type.IsDistinct trees.types) where
  -- variables are one where their numbers are
  pub variable_eq-at : (v w : Variable) → v.ty.0 < length trees.types → w.ty.0 < length trees.types → variable_eq (variable_at trees v) (variable_at trees w)
      ≡ same_variable v w
  variable_eq-at v w hv hw = ap (λ b. name_eq v.name w.name && b) (same_from (type_eq (type_at trees v.ty.0) (type_at trees w.ty.0)) (nat_eq v.ty.0 w.ty.0)
      (λ e. (Decides-eqb v.ty.0 w.ty.0).1
      (ap (λ (id : TypeId). id.0) (tree_at-same distinct v.ty w.ty hv hw ((type_eq-Decides (type_at trees v.ty.0) (type_at trees w.ty.0)).0 e))))
      (λ e. (type_eq-Decides (type_at trees v.ty.0) (type_at trees w.ty.0)).1 (ap (λ i. type_at trees i) ((Decides-eqb v.ty.0 w.ty.0).0 e))))
    where
      same_from : (a b : Bool) → (a ≡ true → b ≡ true) → (b ≡ true → a ≡ true) → a ≡ b
      same_from true b f g = sym (f refl)
      same_from false true f g = g refl
      same_from false false f g = refl

  -- a variable is among others where its number is among theirs
  pub is_in-at : (v : Variable) (ws : List Variable) → v.ty.0 < length trees.types → HaveTypes trees ws
      → is_in variable_eq (variable_at trees v) (variables_of trees ws) ≡ is_in same_variable v ws
  is_in-at v [] hv h = refl
  is_in-at v (w ∷ ws) hv h = ap₂ (λ a b. a || b) (variable_eq-at v w hv h.0) (is_in-at v ws hv h.1)

-- the sides of an equation that is a term have its type
sides_typed : (a : HolType) (x y : Term) (c : HolType) → HasType (equation a x y) c → HasType x a × HasType y a
sides_typed a x y c h =
    let p = application_type-is (type_under [] (app (constant equality_name (equality_type a)) x)) (type_under [] y) c h in
    let q = application_type-is (type_under [] (constant equality_name (equality_type a))) (type_under [] x) (function p.0 c) p.1.0 in
    let e : equality_type a ≡ function q.0 (function p.0 c) = same_Some _ _ q.1.0 in
    let first : a ≡ q.0 = ap first_argument e in
    let second : a ≡ p.0 = ap (λ t. first_argument (second_argument t)) e in
    (q.1.1 ∙ ap Some (sym first), p.1.1 ∙ ap Some (sym second))

-- what a variable is said to be has the variable's type
pub said-typed : (t l r : Term) (n : Name) (b : HolType) → IsTerm t → IsEquation t l r → l ≡ free n b → HasType r b
said-typed t l r n b typed is left = go (type_of t) refl typed
  where
    go : (o : Option HolType) → type_of t ≡ o → IsSome o → HasType r b
    go None e h = absurd (cc)
    go (Some c) e h =
        let sides = sides_typed is.0 l r c (sym (ap type_of is.1) ∙ e) in
        let same : b ≡ is.0 = same_Some _ _ (sym (ap type_of left) ∙ sides.0) in
        sides.1 ∙ ap Some (sym same)

-- what a variable's side says
pub side-says : (l r : Term) (n : Name) (b : HolType) → l ≡ free n b → variable_side l r ≡ Some ((n, b), r)
side-says l r n b e = ap (λ u. variable_side u r) e

module _ (trees : Trees) (vs : List Variable) (h : TermId) where
  -- no equation of a variable says nothing
  pub nothing_said : None ≡ variable_equation (term_at trees h.0) → equations_of trees vs (h ∷ []) ≡ []
  nothing_said e = ap (λ o. filter (λ q. is_in variable_eq q.0 (variables_of trees vs)) (cons_option o [])) (sym e)

  module _ (q : Equation) (e : Some (equation_at trees q) ≡ variable_equation (term_at trees h.0)) (distinct : type.IsDistinct trees.types)
      (typed : HaveTypes trees vs) (known : q.variable.ty.0 < length trees.types) where
    said : (b : Bool) → is_in same_variable q.variable vs ≡ b → equations_of trees vs (h ∷ []) ≡ cond b (equation_at trees q ∷ []) []
    said b is =
        ap (λ o. filter (λ q. is_in variable_eq q.0 (variables_of trees vs)) (cons_option o [])) (sym e)
        ∙ ap (λ c. cond c (equation_at trees q ∷ []) []) (is_in-at trees distinct q.variable vs known typed ∙ is)

    -- an equation of one of the variables says what it is
    pub one_said : is_in same_variable q.variable vs ≡ true → equations_of trees vs (h ∷ []) ≡ equation_at trees q ∷ []
    one_said is = said true is

    -- and of another says nothing
    pub other_said : is_in same_variable q.variable vs ≡ false → equations_of trees vs (h ∷ []) ≡ []
    other_said is = said false is

pub known_last : (trees : Trees) (es : List Equation) (e : Equation) → AreEquationsKnown trees es → IsEquationKnown trees e
    → AreEquationsKnown trees (es ++ e ∷ [])
known_last trees [] e h k = (k, tt)
known_last trees (x ∷ es) e h k = (h.0, known_last trees es e h.1 k)
