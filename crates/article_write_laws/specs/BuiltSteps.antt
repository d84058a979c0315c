-- Steps whose parameters were built from their parts, so that they can be written.
use Rattle.std.proofs.Common.{◌≡◌, ℕ, List, [], ◌∷◌, Some, subst, arith}
use Rattle.std.specs.List.{AllByRecursion}
use Rattle.hol_spec.specs.Names.{Name}
use Rattle.hol_spec.specs.Types.{HolType}
use Rattle.hol_spec.specs.Limits.{TypeWithin, TermWithin}
use Rattle.hol_spec.specs.Terms.{Term, free, bound, constant, app, lam, Variable, type_of}
use Rattle.hol_laws.specs.TermTyping.{loose-typed}
use Rattle.hol_spec.specs.Sequents.{Sequent}
use Rattle.hol_spec.specs.Rules.{Parameters}
use Rattle.hol_spec.specs.Taken.{TypeTaken, TermTaken, ParametersTaken}
use Rattle.article_write_laws.specs.SymbolsGrown.{AreApart, type-uses, term-uses}
use Rattle.article_write_laws.specs.Opened.{opened-closed}
use Rattle.article_write_laws.specs.Built.{IsBuilt, HasNoBinderName}
use Rattle.article_write_laws.specs.Scenes.{Scene}
use Rattle.article_write_laws.specs.TermWriting.{IsOperand}
use Rattle.article_write_laws.specs.GivenWriting.{IsTypeOperand, IsTermPair, IsGiven}

pub record IsBuiltTerm (t : Term) : Type 0 where
  pub ty : HolType
  pub typed : type_of t ≡ Some ty
  pub built : IsBuilt [] t

pub record IsBuiltPair (p : Variable × Term) : Type 0 where
  pub variable : TypeWithin p.0.1
  pub term : IsBuiltTerm p.1

pub record IsBuiltSequent (s : Sequent) : Type 0 where
  pub hypotheses : AllByRecursion IsBuiltTerm s.hypotheses
  pub conclusion : IsBuiltTerm s.conclusion

-- what a rule is given was built by commands
abbrev pub IsBuiltGiven : Parameters → Type 0
IsBuiltGiven Parameters.nothing = Unit {0}
IsBuiltGiven (Parameters.term t) = IsBuiltTerm t
IsBuiltGiven (Parameters.variable v) = TypeWithin v.1
IsBuiltGiven (Parameters.substitution types terms) = AllByRecursion (λ (p : Name × HolType). TypeWithin p.1) types × AllByRecursion IsBuiltPair terms
IsBuiltGiven (Parameters.sequent s) = IsBuiltSequent s
IsBuiltGiven (Parameters.constant n t) = IsBuiltTerm t
IsBuiltGiven (Parameters.constants pairs) = AllByRecursion (λ (p : Name × Variable). TypeWithin p.1.1) pairs
IsBuiltGiven (Parameters.type_operator names version) = Unit {0}

-- its terms have no variable with the name of a binder
pub record HasNoBinderNames (q : ℕ) (s : Sequent) : Type 0 where
  pub hypotheses : AllByRecursion (HasNoBinderName q) s.hypotheses
  pub conclusion : HasNoBinderName q s.conclusion

abbrev pub IsFreshGiven : ℕ → Parameters → Type 0
IsFreshGiven q Parameters.nothing = Unit {0}
IsFreshGiven q (Parameters.term t) = HasNoBinderName q t
IsFreshGiven q (Parameters.variable v) = Unit {0}
IsFreshGiven q (Parameters.substitution types terms) = AllByRecursion (λ (p : Variable × Term). HasNoBinderName q p.1) terms
IsFreshGiven q (Parameters.sequent s) = HasNoBinderNames q s
IsFreshGiven q (Parameters.constant n t) = HasNoBinderName q t
IsFreshGiven q (Parameters.constants pairs) = Unit {0}
IsFreshGiven q (Parameters.type_operator names version) = Unit {0}

pub built-within : (t : Term) (a : HolType) → type_of t ≡ Some a → IsBuilt [] t → TermWithin t
built-within (free n b) a e h = h
built-within (bound k) a e h = absurd (cc)
built-within (constant n b) a e h = h
built-within (app f x) a e h = subst TermWithin (opened-closed 0 [] (app f x) (loose-typed [] (app f x) a e)) h.0
built-within (lam b t) a e h = subst TermWithin (opened-closed 0 [] (lam b t) (loose-typed [] (lam b t) a e)) h.0

module _ (c : Scene) (apart : AreApart c.symbols) (q : ℕ) where
  pub operand : (t : Term) → IsBuiltTerm t → HasNoBinderName q t → TermTaken c.symbols t → IsOperand c q t
  operand t h f k =
      let w = built-within t h.ty h.typed h.built in
      record { built = h.built; uses = term-uses c.symbols apart t k; names = f; ty = h.ty; typed = h.typed; small = omega (arith, w.depth) }

  type-operand : (a : HolType) → TypeWithin a → TypeTaken c.symbols a → IsTypeOperand c a
  type-operand a h k = record { uses = type-uses c.symbols apart a k; within = h }

  operands : (ts : List Term) → AllByRecursion IsBuiltTerm ts → AllByRecursion (HasNoBinderName q) ts → AllByRecursion (TermTaken c.symbols) ts
      → AllByRecursion (IsOperand c q) ts
  operands [] h f k = tt
  operands (t ∷ ts) h f k = (operand t h.0 f.0 k.0, operands ts h.1 f.1 k.1)

  type-pairs : (ps : List (Name × HolType)) → AllByRecursion (λ (p : Name × HolType). TypeWithin p.1) ps
      → AllByRecursion (λ (p : Name × HolType). TypeTaken c.symbols p.1) ps → AllByRecursion (λ (p : Name × HolType). IsTypeOperand c p.1) ps
  type-pairs [] h k = tt
  type-pairs (p ∷ ps) h k = (type-operand p.1 h.0 k.0, type-pairs ps h.1 k.1)

  term-pairs : (ps : List (Variable × Term)) → AllByRecursion IsBuiltPair ps → AllByRecursion (λ (p : Variable × Term). HasNoBinderName q p.1) ps
      → AllByRecursion (λ (p : Variable × Term). TypeTaken c.symbols p.0.1 × TermTaken c.symbols p.1) ps
      → AllByRecursion (IsTermPair c q) ps
  term-pairs [] h f k = tt
  term-pairs (p ∷ ps) h f k = (record { variable = type-operand p.0.1 h.0.variable k.0.0; term = operand p.1 h.0.term f.0 k.0.1 }, term-pairs ps h.1 f.1 k.1)

  constant-pairs : (ps : List (Name × Variable)) → AllByRecursion (λ (p : Name × Variable). TypeWithin p.1.1) ps
      → AllByRecursion (λ (p : Name × Variable). TypeTaken c.symbols p.1.1) ps → AllByRecursion (λ (p : Name × Variable). IsTypeOperand c p.1.1) ps
  constant-pairs [] h k = tt
  constant-pairs (p ∷ ps) h k = (type-operand p.1.1 h.0 k.0, constant-pairs ps h.1 k.1)

  pub given-operands : (g : Parameters) → IsBuiltGiven g → IsFreshGiven q g → ParametersTaken c.symbols g → IsGiven c q g
  given-operands Parameters.nothing h f k = tt
  given-operands (Parameters.term t) h f k = operand t h f k
  given-operands (Parameters.variable v) h f k = type-operand v.1 h k
  given-operands (Parameters.substitution types terms) h f k = (type-pairs types h.0 k.0, term-pairs terms h.1 f k.1)
  given-operands (Parameters.sequent s) h f k = record
      { hypotheses = operands s.hypotheses h.hypotheses f.hypotheses k.hypotheses; conclusion = operand s.conclusion h.conclusion f.conclusion k.conclusion }
  given-operands (Parameters.constant n t) h f k = operand t h f k
  given-operands (Parameters.constants pairs) h f k = constant-pairs pairs h k
  given-operands (Parameters.type_operator names version) h f k = tt
