-- Lemmas on the symbols of constants.
use Rattle.std.proofs.Common.{◌≡◌, ◌&&◌, ℕ, List, ◌∷◌, [], Bool, true, false, cond, Option, Some, None, refl, sym, ap, subst, ◌≤◌, ◌∙◌}
use Rattle.std.specs.Prelude.{not, codes}
use Rattle.std.specs.Bool.{Decides}
use Rattle.std.specs.Option.{option_map}
use Rattle.std.proofs.lemmas.Bool.{ne_eqb, and_from}
use Rattle.std.proofs.lemmas.Bool.Decides.{same_from_decides}
use Rattle.hol_spec.specs.Names.{Name}
use Rattle.hol_spec.specs.NameEquality.{name_eq}
use Rattle.hol_laws.specs.NameEqualityLaws.{name_eq-Decides}
use Rattle.hol_spec.specs.Primitives.{equality_name, select_name, equality_type, select_type, generic, primitive_type}
use Rattle.hol_spec.specs.Types.{HolType}
use Rattle.hol_spec.specs.ClosedForm.{ClosedType}
use Rattle.hol_spec.specs.Limits.{greatest_depth, type_size, type_depth}
use Rattle.hol_term.specs.Tables.{Trees}
use Rattle.lp_spec.specs.Trees.{Tree, Pi, Var, tree_eq}
use Rattle.lp_spec.specs.Modules.{Declaration, symbol_type, types, term_of}
use Rattle.decode_spec.specs.Options.{bind, or_else, provided}
use Rattle.decode_laws.specs.OptionLaws.{bind-is, provided-is, some-injective, provided-true}
use Rattle.decode_spec.specs.Decode.{name_behind, has_type, is_lacking, Constant, constant_with, constant_at, defined_constant, generic_of, input_constant}
use Rattle.translate_spec.specs.ConstantMeaning as meaning
use Rattle.decode_spec.specs.Opened.{open_type}
use Rattle.decode_back.specs.Walks.{parameter_name, IsConstantFound, IsGenericFound}

-- a name that isn't that of equality
told_by : (a b : Bool) → Option HolType
told_by a b = cond a (Some (equality_type generic)) (cond b (Some (select_type generic)) None)

told : (b : Bool) → b ≡ not (is_lacking (told_by false b))
unfolding told_by
told true = refl
told false = refl

told-by : (n : Name) → primitive_type n ≡ told_by (name_eq n equality_name) (name_eq n select_name)
unfolding told_by
told-by n = refl

pub primitive-second : (n : Name) (a b : Bool) → Decides a (n ≡ equality_name) → a ≡ false → Decides b (n ≡ select_name) → b
    ≡ not (is_lacking (primitive_type n))
primitive-second n a b p e q =
    let f : name_eq n equality_name ≡ false = same_from_decides (name_eq n equality_name) a (name_eq-Decides n equality_name) p ∙ e in
    let g : name_eq n select_name ≡ b = same_from_decides (name_eq n select_name) b (name_eq-Decides n select_name) q in
    told b ∙ sym (ap (λ o. not (is_lacking o)) (told-by n ∙ (λ i. told_by (f i) (g i))))

-- an input constant
module _ (d : List Declaration) (s : ℕ) where
  abbrev input_type : Tree
  input_type = Pi types (term_of (Var 0))

  abbrev made : Name → Constant
  made n = constant_with n 1 (ClosedType.parameter 0)

  abbrev named : Option Name
  named = bind (name_behind d s (codes "i_")) (λ n. provided (is_lacking (primitive_type n)) (Some n))

  pub input-found : (name : Name) (A : Tree) (told : Bool) → Some name ≡ named → symbol_type d s ≡ Some A → told ≡ tree_eq A input_type → told ≡ true
      → input_constant d s ≡ Some (made name)
  input-found name A told e f g h =
      let p = bind-is (name_behind d s (codes "i_")) (λ n. provided (is_lacking (primitive_type n)) (Some n)) name (sym e) in
      let q = provided-is (is_lacking (primitive_type p.0)) (Some p.0) name p.2 in
      let typed : has_type (symbol_type d s) input_type ≡ true = ap (λ o. has_type o input_type) f ∙ sym g ∙ h in
      ap (λ o. bind o (λ n. provided (is_lacking (primitive_type n) && has_type (symbol_type d s) input_type) (Some (made n)))) p.1
      ∙ provided-true (is_lacking (primitive_type p.0) && has_type (symbol_type d s) input_type) (Some (made p.0))
      (and_from (is_lacking (primitive_type p.0)) (has_type (symbol_type d s) input_type) q.0 typed)
      ∙ ap (λ n. Some (made n)) (some-injective q.1)

-- which constants symbols stand for
module _ (d : List Declaration) (s : ℕ) where
  -- the primitive ones, whose types tell their generic types
  pub equality-constant : s ≡ 5 → option_map (λ (g : ℕ × ClosedType). constant_with (codes "=" ∷ []) g.0 g.1) (generic_of d (symbol_type d s)) ≡ constant_at d s
  equality-constant e = ap (λ n. option_map (λ (g : ℕ × ClosedType). constant_with (codes "=" ∷ []) g.0 g.1) (generic_of d (symbol_type d n))) e ∙ ap
      (constant_at d) (sym e)

  pub choice-constant : s ≡ 6 → option_map (λ (g : ℕ × ClosedType). constant_with (codes "select" ∷ []) g.0 g.1) (generic_of d (symbol_type d s))
      ≡ constant_at d s
  choice-constant e = ap (λ n. option_map (λ (g : ℕ × ClosedType). constant_with (codes "select" ∷ []) g.0 g.1) (generic_of d (symbol_type d n))) e ∙ ap
      (constant_at d) (sym e)

  -- any other
  pub other-constant : (s ≡ 5 → ⊥) → (s ≡ 6 → ⊥) → (o : Option Constant) → input_constant d s ≡ o → constant_at d s ≡ or_else o (defined_constant d s)
  other-constant f g o e =
      ap (λ (c : Option Constant). or_else c (or_else (input_constant d s) (defined_constant d s)))
      (λ i. or_else (provided (ne_eqb s 5 f i) (Some (constant_with equality_name 1 meaning.equality_type)))
      (provided (ne_eqb s 6 g i) (Some (constant_with select_name 1 meaning.choice_type))))
      ∙ ap (λ (c : Option Constant). or_else c (defined_constant d s)) e

-- where no generic type is found, no constant with it is
pub named-none : (n : Name) (limit : ℕ) (o : Option (ℕ × ClosedType)) (trees : Trees) → IsGenericFound limit o trees None
    → IsConstantFound limit (option_map (λ (g : ℕ × ClosedType). constant_with n g.0 g.1) o) trees None
named-none n limit None trees h c e a b = absurd (cc)
named-none n limit (Some g) trees h c e a b =
    let same : constant_with n g.0 g.1 ≡ c = some-injective e in
    h g.0 g.1 refl (subst (λ (k : Constant). type_size (open_type parameter_name k.generic) ≤ limit) (sym same) a)
    (subst (λ (k : Constant). type_depth (open_type parameter_name k.generic) ≤ greatest_depth) (sym same) b)

-- what is made of a name, unless it is that of a primitive constant
narrowed : (b : Bool) (n : Name) (f : Name → Option Constant) → bind (provided b (Some n)) f ≡ provided b (f n)
narrowed true n f = refl
narrowed false n f = refl

named-bind : (o : Option Name) (f : Name → Option Constant) → bind (bind o (λ n. provided (is_lacking (primitive_type n)) (Some n))) f
    ≡ bind o (λ n. provided (is_lacking (primitive_type n)) (f n))
named-bind None f = refl
named-bind (Some n) f = narrowed (is_lacking (primitive_type n)) n f

-- a defined constant, by its name
pub defined-constant : (d : List Declaration) (s : ℕ) (r : Option Name) → r
    ≡ bind (name_behind d s (codes "c_")) (λ n. provided (is_lacking (primitive_type n)) (Some n))
    → defined_constant d s ≡ bind r (λ n. option_map (λ (g : ℕ × ClosedType). constant_with n g.0 g.1) (generic_of d (symbol_type d s)))
defined-constant d s r e =
    sym (ap (λ (o : Option Name). bind o (λ n. option_map (λ (g : ℕ × ClosedType). constant_with n g.0 g.1) (generic_of d (symbol_type d s)))) e
    ∙ named-bind (name_behind d s (codes "c_")) (λ n. option_map (λ (g : ℕ × ClosedType). constant_with n g.0 g.1) (generic_of d (symbol_type d s))))
