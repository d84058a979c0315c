-- The words that define constants and type operators.
-- Source: the OpenTheory article file format, versions 5 and 6, "Commands".
use Rattle.std.specs.Prelude.{List, [], ◌∷◌, map, Result}
use Rattle.hol_spec.specs.Names.{Name}
use Rattle.common.specs.declared.faults.Kind.{Kind}
use Rattle.hol_spec.specs.Definitions.{Definition, TypeNames}
use Rattle.hol_spec.specs.DefinitionLists.{names_of, definitions_in}
use Rattle.hol_spec.specs.Symbols.{defined}
use Rattle.hol_spec.specs.Proofs.{sequent_at}
use Rattle.article_spec.specs.State.{Objects, list, type_operator, constant, none, more, State, version_at}
use Rattle.article_spec.specs.Results.{◌>>=◌}
use Rattle.article_spec.specs.Operands.{as_name, as_names, as_term, as_theorem, as_constant_pairs, pop}
use Rattle.article_spec.specs.RuleSteps.{define_const_step, define_const_list_step, type_laws}
use Rattle.article_spec.specs.Changes.{with_stack, defining, defining_type}

abbrev pub define_const : State → Result State Kind
define_const s = do
  (t, below) ← pop as_term s.stack
  (n, rest) ← pop as_name below
  defining (defined (Definition.constant n t) ∷ []) (define_const_step s.made n t) (with_stack s (constant n ∷ rest))

-- Constants as a list object.
abbrev pub constant_objects : List Name → Objects
constant_objects [] = none
constant_objects (n ∷ ns) = more (constant n) (constant_objects ns)

abbrev pub define_const_list : State → Result State Kind
define_const_list s = do
  (i, below) ← pop as_theorem s.stack
  (pairs, rest) ← pop as_constant_pairs below
  defining (map defined (definitions_in pairs (sequent_at s.made i).hypotheses)) (define_const_list_step s.made pairs i)
      (with_stack s (list (constant_objects (names_of pairs)) ∷ rest))

-- The type operator is defined by the theorem of step i, and its two laws are made.
abbrev pub define_type_op : State → Result State Kind
define_type_op s = do
  (i, below_theorem) ← pop as_theorem s.stack
  (variables, below_variables) ← pop as_names below_theorem
  (representation, below_representation) ← pop as_name below_variables
  (abstraction, below_abstraction) ← pop as_name below_representation
  (operator, rest) ← pop as_name below_abstraction
  let names : TypeNames = record { operator = operator; abstraction = abstraction; representation = representation; variables = variables }
  defining_type (type_laws (version_at s.place) s.made names i)
      (with_stack s (constant representation ∷ constant abstraction ∷ type_operator operator ∷ rest))
