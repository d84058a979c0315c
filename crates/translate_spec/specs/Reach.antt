-- What the exports reach, through types and bodies: each item gives a key, and needs the keys of what it mentions. One pass from the
-- last item to the first tells which are wanted, since an item needs only earlier ones.
use Rattle.std.specs.Prelude.{ℕ, zero, suc, ◌+◌, ◌==◌, ◌&&◌, Bool, false, List, [], ◌∷◌, ◌++◌, length, map, if◌then◌else◌}
use Rattle.std.specs.List.{list_any, flat_map}
use Rattle.hol_spec.specs.Names.{Name}
use Rattle.hol_spec.specs.NameEquality.{name_eq}
use Rattle.hol_spec.specs.Types as type
use Rattle.hol_spec.specs.Types.{HolType, HolTypes, count}
use Rattle.hol_spec.specs.Terms as term
use Rattle.hol_spec.specs.Terms.{Term}
use Rattle.hol_spec.specs.DefinitionLists.{constants_put}
use Rattle.hol_spec.specs.Sequents.{Sequent}
use Rattle.hol_spec.specs.NewTypes.{abstraction_type, representation_type}
use Rattle.hol_spec.specs.Rules.{Parameters}
use Rattle.lp_spec.specs.Modules.{Declaration, signature}
use Rattle.lp_spec.specs.Lemmas.{lemmas}
use Rattle.translate_spec.specs.Items.{Content, operator, constant, defined_constant, type_operator, type_abstraction, type_representation, unproved, step, Item, symbols_of, module_of}

-- What an item needs and what it gives: an operator with so many arguments, a constant, or what is said under a number.
pub data Key : Type 0 where
  operator_key : Name → ℕ → Key
  constant_key : Name → Key
  number_key : ℕ → Key

abbrev mutual
  pub type_keys : HolType → List Key
  type_keys (type.HolType.variable n) = []
  type_keys (type.HolType.operator n ts) = operator_key n (count ts) ∷ types_keys ts

  pub types_keys : HolTypes → List Key
  types_keys type.HolTypes.none = []
  types_keys (type.HolTypes.more t ts) = type_keys t ++ types_keys ts

abbrev pub term_keys : Term → List Key
term_keys (term.Term.free n t) = type_keys t
term_keys (term.Term.bound k) = []
term_keys (term.Term.constant n t) = constant_key n ∷ type_keys t
term_keys (term.Term.app f x) = term_keys f ++ term_keys x
term_keys (term.Term.lam t b) = type_keys t ++ term_keys b

abbrev pub sequent_keys : Sequent → List Key
sequent_keys s = flat_map term_keys s.hypotheses ++ term_keys s.conclusion

-- what a step defines, or the type definition whose law it is
abbrev pub given_keys : Parameters → List Key
given_keys (Parameters.constant n t) = constant_key n ∷ []
given_keys (Parameters.type_operator names version) =
    operator_key names.operator (length names.variables) ∷ constant_key names.abstraction ∷ constant_key names.representation ∷ []
given_keys (Parameters.constants pairs) = flat_map (λ p. term_keys p.1) (constants_put pairs)
given_keys given = []

abbrev pub needs : Content → List Key
needs (operator n k) = []
needs (constant n a) = type_keys a
needs (defined_constant n a t) = term_keys t
needs (type_operator names c u j one) = number_key j ∷ type_keys c
needs (type_abstraction names c u j one) = number_key j ∷ type_keys (abstraction_type names c)
needs (type_representation names c u j one) = number_key j ∷ type_keys (representation_type names c)
needs (unproved s) = sequent_keys s
needs (step kind js premises given s) = sequent_keys s ++ map number_key js ++ given_keys given

abbrev pub gives_of : ℕ → Content → Key
gives_of i (operator n k) = operator_key n k
gives_of i (constant n a) = constant_key n
gives_of i (defined_constant n a t) = constant_key n
gives_of i (type_operator names c u j one) = operator_key names.operator (length names.variables)
gives_of i (type_abstraction names c u j one) = constant_key names.abstraction
gives_of i (type_representation names c u j one) = constant_key names.representation
gives_of i (unproved s) = number_key i
gives_of i (step kind js premises given s) = number_key i

abbrev pub gives : Item → Key
gives x = gives_of x.symbol x.content

-- whether two keys are one
abbrev pub key_eq : Key → Key → Bool
key_eq (operator_key m j) (operator_key n k) = name_eq m n && (j == k)
key_eq (constant_key m) (constant_key n) = name_eq m n
key_eq (number_key i) (number_key j) = i == j
key_eq x y = false

abbrev pub is_wanted : List Key → Item → Bool
is_wanted wanted x = list_any (key_eq (gives x)) wanted

-- what is wanted once an item was looked at
abbrev pub wanted_after : List Key → Item → List Key
wanted_after wanted x = if is_wanted wanted x then wanted ++ needs x.content else wanted

-- what is wanted once all of these items, in order of making, were looked at from the last to the first
abbrev pub wanted_from : List Key → List Item → List Key
wanted_from roots [] = roots
wanted_from roots (x ∷ xs) = wanted_after (wanted_from roots xs) x

-- whether the item with a number is wanted when it is looked at
abbrev pub keep_of : List Key → List Item → ℕ → Bool
keep_of roots [] i = false
keep_of roots (x ∷ xs) i = if i == x.symbol then is_wanted (wanted_from roots xs) x else keep_of roots xs i

-- the items that are kept
abbrev pub kept : (ℕ → Bool) → List Item → List Item
kept keep [] = []
kept keep (x ∷ xs) = if keep x.symbol then x ∷ kept keep xs else kept keep xs

-- items with other numbers
abbrev pub renumbered_content : (ℕ → ℕ) → Content → Content
renumbered_content number (operator n k) = operator n k
renumbered_content number (constant n a) = constant n a
renumbered_content number (defined_constant n a t) = defined_constant n a t
renumbered_content number (type_operator names c u j one) = type_operator names c u (number j) one
renumbered_content number (type_abstraction names c u j one) = type_abstraction names c u (number j) one
renumbered_content number (type_representation names c u j one) = type_representation names c u (number j) one
renumbered_content number (unproved s) = unproved s
renumbered_content number (step kind js premises given s) = step kind (map number js) premises given s

abbrev pub renumbered : (ℕ → ℕ) → Item → Item
renumbered number x = record { symbol = number x.symbol; name = x.name; content = renumbered_content number x.content }

-- the symbol of a kept item: the kept ones before it are counted after the signature and the lemmas
abbrev pub count_kept : (ℕ → Bool) → ℕ → ℕ
count_kept keep zero = 0
count_kept keep (suc i) = if keep i then suc (count_kept keep i) else count_kept keep i

abbrev pub symbol_of : (ℕ → Bool) → ℕ → ℕ
symbol_of keep i = length signature + (length lemmas + count_kept keep i)

-- the items of the module, in order
abbrev pub image_items : (ℕ → Bool) → List Item → List Item
image_items keep xs = map (renumbered (symbol_of keep)) (kept keep xs)

-- the module of what the roots reach of what was made
abbrev pub reached : List Key → List Item → List Declaration
reached roots made = module_of (symbols_of (image_items (keep_of roots made) made)) (image_items (keep_of roots made) made)
