-- The codes of sequents and of what a proof keeps, for models whose values have them: they can be told apart as values.
use Rattle.std.specs.Coded.{code_by, coded×, coded_list, coded_ℕ}
use base.Stored.{Coded, Gv, gnum, gcons}
use Rattle.std.proofs.Common.{◌≡◌, ℕ, zero, suc, List, refl}
use Rattle.hol_spec.specs.Names.{Name}
use Rattle.hol_spec.specs.Types.{HolType}
use Rattle.hol_laws.specs.TypeLaws.{coded_name, coded_type}
use Rattle.hol_spec.specs.Terms.{Term, Variable}
use Rattle.hol_laws.specs.TermLaws.{coded_term, coded_variable}
use Rattle.hol_spec.specs.Sequents.{Sequent}
use Rattle.hol_spec.specs.Definitions.{Definition, TypeNames}
use Rattle.hol_spec.specs.Symbols.{Symbol, input_constant, input_operator, defined}
use Rattle.hol_spec.specs.Rules.{Parameters}
use Rattle.hol_spec.specs.Proofs.{Step, Made}
use Rattle.hol_spec.specs.declared.StepKind.{StepKind}
use Rattle.hol_spec.specs.declared.Version.{Version}
use Rattle.hol_spec.specs.declared.Version.TheVariants.{Five, Six}
use Rattle.hol_spec.specs.declared.StepKind.TheVariants.{Refl, Assume, EqMp, AbsThm, AppThm, DeductAntisym, BetaConv, Sym, Trans, ProveHyp, Subst, Axiom, Restate, DefineConst, DefineConstList, FirstLaw, SecondLaw}

abbrev pub coded_sequent : Coded Sequent
coded_sequent = code_by (List Term × Term) (coded× (coded_list coded_term) coded_term) (λ s. (s.hypotheses, s.conclusion))
    (λ p. record { hypotheses = p.0; conclusion = p.1 }) (λ _. refl)

abbrev kind_number : StepKind → ℕ
kind_number Refl = 0
kind_number Assume = 1
kind_number EqMp = 2
kind_number AbsThm = 3
kind_number AppThm = 4
kind_number DeductAntisym = 5
kind_number BetaConv = 6
kind_number Sym = 7
kind_number Trans = 8
kind_number ProveHyp = 9
kind_number Subst = 10
kind_number Axiom = 11
kind_number Restate = 12
kind_number DefineConst = 13
kind_number DefineConstList = 14
kind_number FirstLaw = 15
kind_number SecondLaw = 16

abbrev kind_of : ℕ → StepKind
kind_of zero = Refl
kind_of (suc zero) = Assume
kind_of (suc (suc zero)) = EqMp
kind_of (suc (suc (suc zero))) = AbsThm
kind_of (suc (suc (suc (suc zero)))) = AppThm
kind_of (suc (suc (suc (suc (suc zero))))) = DeductAntisym
kind_of (suc (suc (suc (suc (suc (suc zero)))))) = BetaConv
kind_of (suc (suc (suc (suc (suc (suc (suc zero))))))) = Sym
kind_of (suc (suc (suc (suc (suc (suc (suc (suc zero)))))))) = Trans
kind_of (suc (suc (suc (suc (suc (suc (suc (suc (suc zero))))))))) = ProveHyp
kind_of (suc (suc (suc (suc (suc (suc (suc (suc (suc (suc zero)))))))))) = Subst
kind_of (suc (suc (suc (suc (suc (suc (suc (suc (suc (suc (suc zero))))))))))) = Axiom
kind_of (suc (suc (suc (suc (suc (suc (suc (suc (suc (suc (suc (suc zero)))))))))))) = Restate
kind_of (suc (suc (suc (suc (suc (suc (suc (suc (suc (suc (suc (suc (suc zero))))))))))))) = DefineConst
kind_of (suc (suc (suc (suc (suc (suc (suc (suc (suc (suc (suc (suc (suc (suc zero)))))))))))))) = DefineConstList
kind_of (suc (suc (suc (suc (suc (suc (suc (suc (suc (suc (suc (suc (suc (suc (suc zero))))))))))))))) = FirstLaw
kind_of (suc (suc (suc (suc (suc (suc (suc (suc (suc (suc (suc (suc (suc (suc (suc (suc n)))))))))))))))) = SecondLaw

pub kind_of-number : (k : StepKind) → kind_of (kind_number k) ≡ k
kind_of-number Refl = refl
kind_of-number Assume = refl
kind_of-number EqMp = refl
kind_of-number AbsThm = refl
kind_of-number AppThm = refl
kind_of-number DeductAntisym = refl
kind_of-number BetaConv = refl
kind_of-number Sym = refl
kind_of-number Trans = refl
kind_of-number ProveHyp = refl
kind_of-number Subst = refl
kind_of-number Axiom = refl
kind_of-number Restate = refl
kind_of-number DefineConst = refl
kind_of-number DefineConstList = refl
kind_of-number FirstLaw = refl
kind_of-number SecondLaw = refl

abbrev pub coded_step_kind : Coded StepKind
coded_step_kind = code_by ℕ coded_ℕ kind_number kind_of kind_of-number

abbrev pub version_number : Version → ℕ
version_number Five = 0
version_number Six = 1

abbrev pub version_of : ℕ → Version
version_of zero = Five
version_of n = Six

pub version_of-number : (v : Version) → version_of (version_number v) ≡ v
version_of-number Five = refl
version_of-number Six = refl

abbrev pub coded_version : Coded Version
coded_version = code_by ℕ coded_ℕ version_number version_of version_of-number

abbrev pub coded_type_names : Coded TypeNames
coded_type_names = code_by ((Name × Name) × (Name × List Name)) (coded× (coded× coded_name coded_name) (coded× coded_name (coded_list coded_name)))
    (λ n. ((n.operator, n.abstraction), (n.representation, n.variables)))
    (λ p. record { operator = p.0.0; abstraction = p.0.1; representation = p.1.0; variables = p.1.1 }) (λ _. refl)

abbrev coded_type_pairs : Coded (List (Name × HolType))
coded_type_pairs = coded_list (coded× coded_name coded_type)

abbrev coded_term_pairs : Coded (List (Variable × Term))
coded_term_pairs = coded_list (coded× coded_variable coded_term)

abbrev coded_constant_pairs : Coded (List (Name × Variable))
coded_constant_pairs = coded_list (coded× coded_name coded_variable)

pub parameters_code : Parameters → Gv
parameters_code Parameters.nothing = gnum 0
parameters_code (Parameters.term t) = gcons (gnum 1) (coded_term.code t)
parameters_code (Parameters.variable v) = gcons (gnum 2) (coded_variable.code v)
parameters_code (Parameters.substitution types terms) = gcons (gnum 3) (gcons (coded_type_pairs.code types) (coded_term_pairs.code terms))
parameters_code (Parameters.sequent s) = gcons (gnum 4) (coded_sequent.code s)
parameters_code (Parameters.constant n t) = gcons (gnum 5) (gcons (coded_name.code n) (coded_term.code t))
parameters_code (Parameters.constants pairs) = gcons (gnum 6) (coded_constant_pairs.code pairs)
parameters_code (Parameters.type_operator names version) = gcons (gnum 7) (gcons (coded_type_names.code names) (coded_version.code version))

pub parameters_inj : (p q : Parameters) → parameters_code p ≡ parameters_code q → p ≡ q
unfolding parameters_code
parameters_inj Parameters.nothing Parameters.nothing e = refl
parameters_inj (Parameters.term t) (Parameters.term u) e = let f : t ≡ u = coded_term.inj t u (cc) in cc
parameters_inj (Parameters.variable v) (Parameters.variable w) e = let f : v ≡ w = coded_variable.inj v w (cc) in cc
parameters_inj (Parameters.substitution a x) (Parameters.substitution b y) e = let f : a ≡ b = coded_type_pairs.inj a b (cc) in let g : x ≡ y =
    coded_term_pairs.inj x y (cc) in cc
parameters_inj (Parameters.sequent s) (Parameters.sequent t) e = let f : s ≡ t = coded_sequent.inj s t (cc) in cc
parameters_inj (Parameters.constant m t) (Parameters.constant n u) e = let f : m ≡ n = coded_name.inj m n (cc) in let g : t ≡ u = coded_term.inj t u (cc) in cc
parameters_inj (Parameters.constants a) (Parameters.constants b) e = let f : a ≡ b = coded_constant_pairs.inj a b (cc) in cc
parameters_inj (Parameters.type_operator a v) (Parameters.type_operator b w) e = let f : a ≡ b = coded_type_names.inj a b (cc) in let g : v ≡ w =
    coded_version.inj v w (cc) in cc
parameters_inj p q e = cc

abbrev pub coded_parameters : Coded Parameters
coded_parameters = record { code = parameters_code; inj = parameters_inj }

pub definition_code : Definition → Gv
definition_code (Definition.constant n t) = gcons (gnum 0) (gcons (coded_name.code n) (coded_term.code t))
definition_code (Definition.type_operator names c f) = gcons (gnum 1) (gcons (coded_type_names.code names) (gcons (coded_type.code c) (coded_term.code f)))

pub definition_inj : (d e : Definition) → definition_code d ≡ definition_code e → d ≡ e
unfolding definition_code
definition_inj (Definition.constant m t) (Definition.constant n u) e = let f : m ≡ n = coded_name.inj m n (cc) in let g : t ≡ u = coded_term.inj t u (cc) in cc
definition_inj (Definition.type_operator a b f) (Definition.type_operator c d g) e =
    let h : a ≡ c = coded_type_names.inj a c (cc) in let i : b ≡ d = coded_type.inj b d (cc) in let j : f ≡ g = coded_term.inj f g (cc) in cc
definition_inj d e f = cc

abbrev pub coded_definition : Coded Definition
coded_definition = record { code = definition_code; inj = definition_inj }

pub symbol_code : Symbol → Gv
symbol_code (input_constant n) = gcons (gnum 0) (coded_name.code n)
symbol_code (input_operator n k) = gcons (gnum 1) (gcons (coded_name.code n) (gnum k))
symbol_code (defined d) = gcons (gnum 2) (coded_definition.code d)

pub symbol_inj : (x y : Symbol) → symbol_code x ≡ symbol_code y → x ≡ y
unfolding symbol_code
symbol_inj (input_constant m) (input_constant n) e = let f : m ≡ n = coded_name.inj m n (cc) in cc
symbol_inj (input_operator m j) (input_operator n k) e = let f : m ≡ n = coded_name.inj m n (cc) in cc
symbol_inj (defined c) (defined d) e = let f : c ≡ d = coded_definition.inj c d (cc) in cc
symbol_inj x y e = cc

abbrev pub coded_symbol : Coded Symbol
coded_symbol = record { code = symbol_code; inj = symbol_inj }

abbrev pub coded_step : Coded Step
coded_step = code_by ((StepKind × List ℕ) × (Parameters × Sequent))
    (coded× (coded× coded_step_kind (coded_list coded_ℕ)) (coded× coded_parameters coded_sequent))
    (λ s. ((s.kind, s.premises), (s.parameters, s.sequent))) (λ p. record { kind = p.0.0; premises = p.0.1; parameters = p.1.0; sequent = p.1.1 }) (λ _. refl)

pub made_code : Made → Gv
made_code (Made.symbol x) = gcons (gnum 0) (coded_symbol.code x)
made_code (Made.step x) = gcons (gnum 1) (coded_step.code x)
made_code (Made.type_definition names c f i) = gcons (gnum 2)
    (gcons (coded_type_names.code names) (gcons (coded_type.code c) (gcons (coded_term.code f) (gnum i))))

pub made_inj : (m n : Made) → made_code m ≡ made_code n → m ≡ n
unfolding made_code
made_inj (Made.symbol x) (Made.symbol y) e = let f : x ≡ y = coded_symbol.inj x y (cc) in cc
made_inj (Made.step x) (Made.step y) e = let f : x ≡ y = coded_step.inj x y (cc) in cc
made_inj (Made.type_definition a b f i) (Made.type_definition c d g j) e =
    let h : a ≡ c = coded_type_names.inj a c (cc) in let k : b ≡ d = coded_type.inj b d (cc) in let l : f ≡ g = coded_term.inj f g (cc) in cc
made_inj m n e = cc

abbrev pub coded_made : Coded Made
coded_made = record { code = made_code; inj = made_inj }
