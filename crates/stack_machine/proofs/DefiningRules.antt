-- What each word that defines does once its operands are off the stack.
use Rattle.std.proofs.Common.{◌≡◌, ℕ, refl, subst, ap, ◌∙◌, List, [], ◌∷◌, map, Ok, Err, Result}
use Rattle.std.specs.Prelude.{nat_eq, length}
use Rattle.std.specs.Option.{ok_or}
use Rattle.common.specs.declared.faults.Kind.{Kind}
use Rattle.common.specs.declared.faults.Kind.TheVariants.{NotTheSequent}
use Rattle.hol_spec.specs.Names.{Name}
use Rattle.hol_spec.specs.Types.{HolType}
use Rattle.hol_spec.specs.Terms.{Term}
use Rattle.hol_spec.specs.Definitions.{Definition, TypeNames}
use Rattle.hol_spec.specs.DefinitionLists.{ConstantPairs, names_of, definitions_in}
use Rattle.hol_spec.specs.Symbols.{Symbol}
use Rattle.hol_spec.specs.Proofs.{Made, steps_of, symbols_of, sequent_at}
use Rattle.hol_spec.specs.declared.Version.{Version}
use Rattle.hol_defs.specs.Symbols.{named}
use Rattle.article_spec.specs.declared.commands.Word.TheVariants as word
use Rattle.article_spec.specs.State.{State, version_at}
use Rattle.article_spec.specs.State as state
use Rattle.article_spec.specs.DefiningWords.{constant_objects}
use Rattle.article_spec.specs.RuleSteps.{are_new_names, application_parts, predicate_fits, NewType, define_const_step, define_const_list_step, made_of_type, type_laws, type_measures}
use Rattle.article_spec.specs.Operands.{pop, as_constant_pairs, as_name, as_names, as_term, as_theorem}
use Rattle.article_spec.specs.Conditions.{demand, in_limits, typed}
use Rattle.article_spec.specs.Results.{◌>>=◌, ◌>>◌}
use Rattle.article_spec.specs.Changes.{with_stack, defining, defining_type}
use Rattle.article_spec.specs.Step.{obey}
use Rattle.stack_machine.proofs.Obeyed.{next}

-- what defines a type operator is no step
pub record DefinesNoStep (rule : Result NewType Kind) : Type 0 where
  pub none : (x : NewType) → rule ≡ Ok x → steps_of (x.definition ∷ []) ≡ []

made_of_type-no_step : (version : Version) (names : TypeNames) (i : ℕ) (c : HolType) (f : Term) → DefinesNoStep (Ok (made_of_type version names i c f))
made_of_type-no_step version names i c f = record
    { none = λ x e. let same : made_of_type version names i c f ≡ x = cc in subst (λ (y : NewType). steps_of (y.definition ∷ []) ≡ []) same refl }

then-no_step : (r : Result (Unit {0}) Kind) (q : Result NewType Kind) → DefinesNoStep q → DefinesNoStep (r >> q)
then-no_step (Ok x) q h = h
then-no_step (Err k) q h = record { none = λ x e. absurd (cc) }

bind-no_step : {A : Type 0} (r : Result A Kind) (g : A → Result NewType Kind) → ((x : A) → DefinesNoStep (g x)) → DefinesNoStep (r >>= g)
bind-no_step (Ok x) g h = h x
bind-no_step (Err k) g h = record { none = λ x e. absurd (cc) }

pub type_laws-no_step : (version : Version) (made : List Made) (names : TypeNames) (i : ℕ) → DefinesNoStep (type_laws version made names i)
type_laws-no_step version made names i =
    let conclusion = (sequent_at made i).conclusion in
    then-no_step (are_new_names (symbols_of made) names) _
    (then-no_step (predicate_fits names.variables (application_parts conclusion)) _
    (then-no_step (demand (nat_eq (length (sequent_at made i).hypotheses) 0) NotTheSequent) _
    (bind-no_step (ok_or (application_parts conclusion) NotTheSequent) _ (λ parts.
    bind-no_step (typed parts.1) _ (λ c.
    then-no_step (in_limits (type_measures version names c parts.0)) _ (made_of_type-no_step version names i c parts.0))))))

module _ (s : State) (t : Term) (n : Name) (below rest : List state.Object) (e : pop as_term s.stack ≡ Ok (t, below)) (f : pop as_name below ≡ Ok (n, rest))
  where
    pub obey-DefineConst : obey s word.DefineConst ≡ defining (Symbol.defined (Definition.constant n t) ∷ []) (define_const_step s.made n t)
        (with_stack s (state.Object.constant n ∷ rest))
    obey-DefineConst = next _ _ _ _ e (next _ _ _ _ f refl)

module _ (s : State) (i : ℕ) (pairs : ConstantPairs) (below rest : List state.Object) (e : pop as_theorem s.stack ≡ Ok (i, below))
    (f : pop as_constant_pairs below ≡ Ok (pairs, rest)) where
  pub obey-DefineConstList : obey s word.DefineConstList
      ≡ defining (map Symbol.defined (definitions_in pairs (sequent_at s.made i).hypotheses)) (define_const_list_step s.made pairs i)
      (with_stack s (state.Object.list (constant_objects (names_of pairs)) ∷ rest))
  obey-DefineConstList = next _ _ _ _ e (next _ _ _ _ f refl)

module _ (s : State) (i : ℕ) (op abs rep : Name) (names : List Name) (one two three four rest : List state.Object)
    (e : pop as_theorem s.stack ≡ Ok (i, one)) (f : pop as_names one ≡ Ok (names, two)) (g : pop as_name two ≡ Ok (rep, three))
    (h : pop as_name three ≡ Ok (abs, four)) (j : pop as_name four ≡ Ok (op, rest)) where
  pub obey-DefineTypeOp : (version : Version) → version_at s.place ≡ version → obey s word.DefineTypeOp
      ≡ defining_type (type_laws version s.made (named op abs rep names) i)
      (with_stack s (state.Object.constant rep ∷ state.Object.constant abs ∷ state.Object.type_operator op ∷ rest))
  obey-DefineTypeOp version v =
      let after = with_stack s (state.Object.constant rep ∷ state.Object.constant abs ∷ state.Object.type_operator op ∷ rest) in
      next _ _ _ _ e (next _ _ _ _ f (next _ _ _ _ g (next _ _ _ _ h (next _ _ _ _ j refl))))
      ∙ ap (λ w. defining_type (type_laws w s.made (named op abs rep names) i) after) v
