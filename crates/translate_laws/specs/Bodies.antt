-- The bodies of steps are typed: each proves the conclusion of its sequent, in the scope of that sequent.
use Rattle.std.proofs.Common.{◌≡◌, List, [], Some, sym, ap, ◌∙◌}
use Rattle.std.proofs.lemmas.Option.{same_Some}
use Rattle.hol_spec.specs.Types.{HolType, variable, operator, none, more}
use Rattle.hol_spec.specs.Primitives.{bool, function, equality_name, equality_type}
use Rattle.hol_spec.specs.Terms.{Term, constant, app, HasType, type_under, equation}
use Rattle.hol_laws.specs.TermSubstitutionLaws.{application_type-is}
use Rattle.lp_spec.specs.Modules.{Declaration, symbol_type}
use Rattle.lp_spec.specs.Lemmas.{sym_lemma, trans_lemma}
use Rattle.translate_spec.specs.Scopes.{SymbolMap}
use Rattle.translate_laws.specs.ScopeTyping.{TypeOver, TermOver}
use Rattle.translate_spec.specs.ProofTrees.{sym_symbol, trans_symbol}

-- the sides of a typed equation have its type
abbrev first_argument : HolType → HolType
first_argument (variable n) = variable n
first_argument (operator n none) = operator n none
first_argument (operator n (more a ts)) = a

abbrev second_argument : HolType → HolType
second_argument (variable n) = variable n
second_argument (operator n none) = operator n none
second_argument (operator n (more a none)) = a
second_argument (operator n (more a (more b ts))) = b

pub record SidesOf (a : HolType) (x y : Term) : Type 0 where
  pub left : HasType x a
  pub right : HasType y a

pub equation-sides : (a : HolType) (x y : Term) → HasType (equation a x y) bool → SidesOf a x y
equation-sides a x y h =
    let p = application_type-is (type_under [] (app (constant equality_name (equality_type a)) x)) (type_under [] y) bool h in
    let q = application_type-is (type_under [] (constant equality_name (equality_type a))) (type_under [] x) (function p.0 bool) p.1.0 in
    let e : equality_type a ≡ function q.0 (function p.0 bool) = same_Some _ _ q.1.0 in
    let first : a ≡ q.0 = ap first_argument e in
    let second : a ≡ p.0 = ap (λ t. first_argument (second_argument t)) e in
    record { left = q.1.1 ∙ ap Some (sym first); right = p.1.1 ∙ ap Some (sym second) }

-- the parts of an equation over the symbols
pub record PartsOver (m : List Declaration) (symbols : SymbolMap) (a : HolType) (x y : Term) : Type 0 where
  pub ty : TypeOver m symbols a
  pub left : TermOver m symbols x
  pub right : TermOver m symbols y

pub equation-over : (m : List Declaration) (symbols : SymbolMap) (a : HolType) (x y : Term) → TermOver m symbols (equation a x y) → PartsOver m symbols a x y
equation-over m symbols a x y h = record { ty = h.0.0.ty.1.0; left = h.0.1; right = h.1 }

-- a module that begins with the two lemmas
pub record HasLemmas (m : List Declaration) : Type 0 where
  pub symmetry : symbol_type m sym_symbol ≡ Some sym_lemma.ty
  pub transitivity : symbol_type m trans_symbol ≡ Some trans_lemma.ty
